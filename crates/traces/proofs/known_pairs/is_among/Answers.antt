use Rattle.std.proofs.Common.{Bool, sym, subst}
use Rattle.std.specs.Prelude.{IsTrue}
use Rattle.std.proofs.lemmas.Map.Views.{btree_set_contains_iff}
use Rattle.traces.proofs.Pairs.{pair_exact, pair_total}
use Rattle.traces.proofs.known_pairs.is_among.Goals as goal

pub returns : goal.returns
returns c =
    let both = btree_set_contains_iff pair_total pair_exact c.args.pairs.now c.args.pair in (
      λ h. both.0 (subst (λ (b : Bool). IsTrue b) c.contains.ensures h),
      λ i. subst (λ (b : Bool). IsTrue b) (sym c.contains.ensures) (both.1 i),
    )
