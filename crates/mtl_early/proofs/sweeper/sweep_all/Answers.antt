use Rattle.std.proofs.Common.{◌≡◌, ◌+◌, ◌≤◌, [], ◌∷◌, ◌++◌, inl, inr, arith}
use Rattle.std.proofs.lemmas.Bool.{cases_lt}
use Rattle.mtl_early.specs.Inner.Nodes.{Computes, cells_of, tree_at}
use Rattle.mtl_early.proofs.Sweeps.{AreRight-kept}
use Rattle.mtl_early.proofs.sweeper.sweep_all.Goals as goal

pub loop-k-preserved : goal.loop-k-preserved
loop-k-preserved c =
    let a = c.args in
    let l = c.loop-k in
    let nodes = a.nodes.now in
    let at = cells_of nodes l.k in
    let laid = c.requires.laid_out in
    record {
      written = λ formulas trees rows row follows computes few right j below. elim (cases_lt j l.k) [
        | inl earlier ↦
            let apart : cells_of nodes j + a.size ≤ at = omega (arith, laid.apart j l.k earlier c.loop-k-test.true, c.requires.size) in
            AreRight-kept l.cells c.sweep_one.new.cells at (at + a.size) (cells_of nodes j) a.size (rows ++ row ∷ []) (tree_at trees j) c.sweep_one.ensures.others (inl apart)
            (l.invariant.written formulas trees rows row follows computes few right j earlier)
        | inr here ↦
            let same : j ≡ l.k = omega (arith, here, below) in
            let node : Computes formulas trees c.sweep_of-sweep.result (tree_at trees l.k) = rw c.sweep_of-sweep.ensures (computes l.k c.loop-k-test.true) in
            rw same (c.sweep_one.ensures.right formulas trees rows row (tree_at trees l.k) follows node few
            (l.invariant.written formulas trees rows row follows computes few right) (l.invariant.waiting trees rows right l.k (omega arith) c.loop-k-test.true))
      ];
      waiting = λ trees rows right j from inside.
          let apart : at + a.size ≤ cells_of nodes j = omega (arith, laid.apart l.k j (omega (arith, from)) inside, c.requires.size) in
          AreRight-kept l.cells c.sweep_one.new.cells at (at + a.size) (cells_of nodes j) _ rows (tree_at trees j) c.sweep_one.ensures.others (inr apart)
          (l.invariant.waiting trees rows right j (omega (arith, from)) inside);
    }

pub returns : goal.returns
returns c = λ formulas trees rows row follows computes few right j inside.
    c.loop-k.invariant.written formulas trees rows row follows computes few right j (omega (arith, inside, c.loop-k-test.false))
