use Rattle.std.proofs.Common.{◌≡◌, ◌+◌, ◌*◌, ℕ, List, [], ◌∷◌, ◌++◌, length, sym, ap, subst, arith}
use Rattle.std.proofs.lemmas.List.{length_push}
use Rattle.mtl_monitor.specs.Following.{count_of}
use Rattle.mtl_early.specs.declared.sweeper.SweepNode.{SweepNode}
use Rattle.mtl_early.specs.Inner.Nodes.{AllFit, AreLaidOut}
use Rattle.mtl_early.proofs.Putting.{fit_more, laid_out_more}
use Rattle.mtl_early.proofs.adding.put.Goals as goal

pub invariant_of-result : goal.invariant_of-result
invariant_of-result c =
    let b = c.args.building in
    let old : List SweepNode = b.nodes.items in
    let new : List SweepNode = c.push.new.self.items in
    let node : SweepNode = record { at = c.len.result * b.stride; sweep = c.args.sweep } in
    let items : new ≡ old ++ node ∷ [] = c.in_ok-push.ensures.items in
    let count : c.len.result ≡ length old = omega (arith, c.len.ensures, b.nodes.ok.0) in
    let one : length new ≡ c.len.result + 1 = omega (arith, count, ap (λ (nodes : List SweepNode). length nodes) items, length_push old node) in
    let total : node.at + b.stride ≡ length new * b.stride = omega (arith, ap (λ (n : ℕ). n * b.stride) one) in
    record {
      fit = subst (λ (nodes : List SweepNode). AllFit (count_of b.program) nodes) (sym items) (fit_more (count_of b.program) old node b.fit c.requires.fit);
      laid_out = subst (λ (n : ℕ). AreLaidOut new b.stride n) total
          (subst (λ (nodes : List SweepNode). AreLaidOut nodes b.stride (node.at + b.stride)) (sym items)
          (laid_out_more old node b.stride (subst (λ (n : ℕ). AreLaidOut old b.stride (n * b.stride)) (sym count) b.laid_out)));
      short = b.short;
    }
