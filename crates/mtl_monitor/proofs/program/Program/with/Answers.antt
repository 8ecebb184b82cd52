use Rattle.std.proofs.Common.{◌≡◌, ◌++◌, ◌∷◌, [], max, arith, ap, Bool}
use Rattle.std.specs.Prelude.{◌&&◌}
use Rattle.mtl_formulas.specs.FormulaTree.{tree_of}
use Rattle.mtl_formulas.specs.FormulaMeasures.{reach_of}
use Rattle.mtl_monitor.specs.Inner.Compiling.{compiled}
use Rattle.mtl_monitor.proofs.GrowingProgram.{valid_after, below_after, inside_after, IsProgramOf-grown}
use Rattle.mtl_monitor.proofs.program.Program.with.Goals as goal

pub invariant_of-result : goal.invariant_of-result
invariant_of-result c =
    let old = c.args.self in
    let t = tree_of c.args.formula.now in
    let made = c.in_ok-root.ensures.made in
    let roots : c.push.new.self.items ≡ old.roots.items ++ (compiled old.nodes.items t).operand ∷ [] = rw (← made.1) c.in-Ok.ensures.items in
    record {
      valid = rw made.0 (valid_after old.nodes.items old.roots.items t c.requires old.valid);
      below = rw made.0 (below_after old.nodes.items old.roots.items t c.requires old.below);
      inside = rw (made.0, roots) (inside_after old.nodes.items old.roots.items t c.requires old.inside);
      reach_small = omega (arith, c.max.ensures, old.reach_small, c.in_ok-root.ensures.late, c.requires.reach);
      readable = rw c.deref.ensures.value at c.in_ok-list_atoms.ensures.readable;
      askable = rw c.deref-2.ensures.value at c.in_ok-list_atoms-2.ensures.readable;
      triggered = rw c.deref-3.ensures.value at c.in_ok-list_triggers.ensures;
      kept = rw c.deref-4.ensures.value at c.in_ok-list_keepers.ensures;
    }

pub returns-in-Ok-clause-formulas : goal.returns-in-Ok-clause-formulas
returns-in-Ok-clause-formulas c = λ formulas h.
    let old = c.args.self in
    let t = tree_of c.args.formula.now in
    let made = c.in_ok-root.ensures.made in
    let roots : c.push.new.self.items ≡ old.roots.items ++ (compiled old.nodes.items t).operand ∷ [] = rw (← made.1) c.in-Ok.ensures.items in
    let reach : c.max.result ≡ max old.reach (reach_of t) = omega (arith, c.max.ensures, c.in_ok-root.ensures.late) in
    IsProgramOf-grown old formulas t c.requires h _ (record { nodes = made.0; roots = roots; reach = reach; idle = ap (λ (b : Bool). old.idle && b) c.is_idle-asks_none.ensures; listed = record { all = rw c.deref.ensures.value at c.in_ok-list_atoms.ensures.listed; apart = rw c.deref-2.ensures.value at c.in_ok-list_atoms-2.ensures.listed } })

pub list_atoms-requires : goal.list_atoms-requires
list_atoms-requires c =
    let old = c.args.self in
    let made = c.in_ok-root.ensures.made in
    rw (c.deref.ensures.value, made.0) (valid_after old.nodes.items old.roots.items (tree_of c.args.formula.now) c.requires old.valid)
