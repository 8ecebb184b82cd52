use Rattle.std.proofs.Common.{inl, inr, List, sym, subst}
use Rattle.std.specs.List.{Contains}
use Rattle.std.specs.BTreeSet.{insert_key}
use Rattle.meetings.specs.declared.pair.Pair.{Pair}
use Rattle.traces.proofs.Pairs.{has_inserted, pair_cmp, pair_exact, still_inserted, was_inserted}
use Rattle.traces.proofs.known_pairs.add.Goals as goal

pub returns : goal.returns
returns c = λ other.
    let old : List Pair = c.args.pairs.now.keys in
    let keys = c.in_ok-insert.ensures.keys in
    let pair : Pair = c.args.pair in (
      λ i. was_inserted pair_cmp pair_exact pair old other (subst (λ (ks : List Pair). Contains ks other) keys i),
      λ h. subst (λ (ks : List Pair). Contains ks other) (sym keys) (elim h [
        | inl there ↦ still_inserted pair_cmp pair_exact pair old other there
        | inr same ↦ subst (λ (p : Pair). Contains (insert_key pair_cmp old pair) p) same (has_inserted pair_cmp pair_exact pair old)
      ]),
    )
