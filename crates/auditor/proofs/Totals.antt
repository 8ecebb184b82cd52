-- What the totals say of the tracks.
use Rattle.std.proofs.Common.{◌≡◌, ℕ, zero, suc, ◌+◌, ◌<◌, Bool, true, false, cond, eqb, inl, inr, List, [], ◌∷◌, ◌++◌, length, get_or, take, refl, ap, sym, subst, ◌∙◌, arith, add-one, Some, None}
use Rattle.std.specs.Prelude.{Option, IsSomeAnd}
use Rattle.std.specs.List.{slice_get}
use Rattle.std.proofs.Math.ListN.{set}
use Rattle.std.proofs.lemmas.List.{length-set}
use Rattle.std.proofs.lemmas.Bool.Decides.{eqb_tells}
use Rattle.std.proofs.lemmas.Option.{slice_get_within}
use Rattle.audit_rows.specs.declared.mark.Mark.{Mark}
use Rattle.audit_rows.specs.declared.topic.Topic.{Topic}
use Rattle.audit_rows.specs.declared.counts.MarkCounts.{MarkCounts}
use Rattle.audit_rows.specs.MarkCounts.{AreCounts, IsCountOf, broken_stretches, is_any, is_broken, is_nothing, is_undecided, passing}
use Rattle.audit_rows.specs.Tracks.{Track}
use Rattle.auditor.specs.RuleCounts.{told}
use Rattle.auditor.specs.Inner.TrackCounts.{with_counts}
use Rattle.auditor.specs.Tallies.{AreTallies, Tallies, counted, is_of_rule, of_rule}
use Rattle.auditor.specs.declared.total.Total.{Total}
use Rattle.auditor.proofs.Counts.{counted_last}

-- what an item that is there has
record Found {X : Type 0} (o : Option X) (P : X → Type 0) : Type 0 where
  item : X
  is : o ≡ Some item
  holds : P item

found : {X : Type 0} (o : Option X) (P : X → Type 0) → IsSomeAnd o P → Found o P
found (Some x) P h = record { item = x; is = refl; holds = h }
found None P h = absurd h

some_is : {X : Type 0} (o : Option X) (x : X) (P : X → Type 0) → o ≡ Some x → P x → IsSomeAnd o P
some_is {X = X} o x P e h = subst (λ (z : Option X). IsSomeAnd z P) (sym e) h

told_sum : (m n : ℕ) → told (told m + n) ≡ told (m + n)
told_sum m n = omega arith

-- ---- a list with one item changed

get_set_same : {X : Type 0} (xs : List X) (i : ℕ) (y : X) → i < length xs → slice_get (set xs i y) i ≡ Some y
get_set_same [] i y lt = absurd (omega arith)
get_set_same (x ∷ xs) zero y lt = refl
get_set_same (x ∷ xs) (suc i) y lt = get_set_same xs i y (omega arith)

get_set_other : {X : Type 0} (xs : List X) (i j : ℕ) (y : X) → (i ≡ j → ⊥) → slice_get (set xs i y) j ≡ slice_get xs j
get_set_other [] i j y ne = refl
get_set_other (x ∷ xs) zero zero y ne = absurd (ne refl)
get_set_other (x ∷ xs) zero (suc j) y ne = refl
get_set_other (x ∷ xs) (suc i) zero y ne = refl
get_set_other (x ∷ xs) (suc i) (suc j) y ne = get_set_other xs i j y (λ e. ne (ap suc e))

-- ---- other tracks

same_told : (rule : ℕ) (tracks later : List Track) (total : Total) → ((measure : List Mark → ℕ) → counted rule measure later ≡ counted rule measure tracks)
    → Tallies rule tracks total → Tallies rule later total
same_told rule tracks later total same t = record {
  positions = t.positions ∙ ap told (sym (same (passing is_any)));
  yes = t.yes ∙ ap told (sym (same (passing is_nothing)));
  no = t.no ∙ ap told (sym (same (passing is_broken)));
  undecided = t.undecided ∙ ap told (sym (same (passing is_undecided)));
  runs = t.runs ∙ ap told (sym (same broken_stretches));
}

-- ---- one more track

sum_told : (total old new more : ℕ) → total ≡ told old → new ≡ old + more → told (total + more) ≡ told new
sum_told total old new more e is = ap (λ (n : ℕ). told (n + more)) e ∙ (told_sum old more ∙ ap told (sym is))

module _ (counts : MarkCounts) (track : Track) (are : AreCounts counts track.marks) (tracks : List Track) where
  abbrev later : List Track
  later = tracks ++ track ∷ []

  -- of another rule, or of none
  other_told : (rule : ℕ) (total : Total) → is_of_rule rule track.topic ≡ false → Tallies rule tracks total → Tallies rule later total
  other_told rule total e t = same_told rule tracks later total (λ measure.
      let none : of_rule rule measure track ≡ 0 = ap (λ (b : Bool). cond b (measure track.marks) 0) e in omega (arith, counted_last rule measure tracks track)) t

  own_told : (rule : ℕ) (total : Total) → is_of_rule rule track.topic ≡ true → Tallies rule tracks total → Tallies rule later (with_counts counts total)
  own_told rule total e t =
      let more : (measure : List Mark → ℕ) (n : ℕ) → n ≡ measure track.marks → counted rule measure later ≡ counted rule measure tracks + n =
      λ measure n is. let all : of_rule rule measure track ≡ measure track.marks = ap (λ (b : Bool). cond b (measure track.marks) 0) e in omega (arith, counted_last rule measure tracks track) in
      record {
        positions = sum_told _ _ _ counts.all t.positions (more (passing is_any) counts.all are.all);
        yes = sum_told _ _ _ counts.nothing t.yes (more (passing is_nothing) counts.nothing are.nothing);
        no = sum_told _ _ _ counts.broken t.no (more (passing is_broken) counts.broken are.broken);
        undecided = sum_told _ _ _ counts.undecided t.undecided (more (passing is_undecided) counts.undecided are.undecided);
        runs = sum_told _ _ _ counts.runs t.runs (more broken_stretches counts.runs are.runs);
      }

  pub none_told : (totals : List Total) (rules : ℕ) → ((rule : ℕ) → rule < rules → is_of_rule rule track.topic ≡ false) → AreTallies totals rules tracks → AreTallies totals rules later
  none_told totals rules none h = (
    h.0,
    λ rule lt.
        let was = found (slice_get totals rule) (Tallies rule tracks) (h.1 rule lt) in
        some_is (slice_get totals rule) was.item (Tallies rule later) was.is (other_told rule was.item (none rule lt) was.holds),
  )

  pub rule_told : (totals : List Total) (rules rule : ℕ) (total : Total) → ((other : ℕ) → is_of_rule other track.topic ≡ eqb rule other) → slice_get totals rule ≡ Some total
      → AreTallies totals rules tracks → AreTallies (set totals rule (with_counts counts total)) rules later
  rule_told totals rules rule total of here h =
      let after = with_counts counts total in
      let new = set totals rule after in (
        length-set totals rule after ∙ h.0,
        λ other lt.
            let was = found (slice_get totals other) (Tallies other tracks) (h.1 other lt) in
            elim (eqb_tells rule other) [
              | inl (is_same, same) ↦ (
                  let there : slice_get new other ≡ Some after =
                  subst (λ (n : ℕ). slice_get new n ≡ Some after) same (get_set_same totals rule after (slice_get_within totals rule total here)) in
                  let both : was.item ≡ total = let back : slice_get totals other ≡ Some total = ap (slice_get totals) (sym same) ∙ here in let some : Some was.item ≡ Some total = sym was.is ∙ back in cc in
                  some_is (slice_get new other) after (Tallies other later) there
                  (own_told other total (of other ∙ is_same) (subst (Tallies other tracks) both was.holds)))
              | inr (is_other, apart) ↦ some_is (slice_get new other) was.item (Tallies other later) (get_set_other totals rule other after apart ∙ was.is)
                  (other_told other was.item (of other ∙ is_other) was.holds)
            ],
      )

-- ---- the tracks one after the other

pub record IsThere (tracks : List Track) (index : ℕ) : Type 0 where
  pub track : Track
  pub at : slice_get tracks index ≡ Some track
  pub more : take (index + 1) tracks ≡ take index tracks ++ track ∷ []

pub there_at : (tracks : List Track) (index : ℕ) → index < length tracks → IsThere tracks index
there_at [] index lt = absurd (omega arith)
there_at (t ∷ ts) zero lt = record { track = t; at = refl; more = refl }
there_at (t ∷ ts) (suc i) lt =
    let r = there_at ts i (omega arith) in
    record {
      track = r.track;
      at = r.at;
      more = ap (λ (n : ℕ). take n (t ∷ ts)) (add-one (suc i)) ∙ ap (λ (us : List Track). t ∷ us) (ap (λ (n : ℕ). take n ts) (sym (add-one i)) ∙ r.more);
    }

-- the counts of the track that is there
pub counted_there : (counted : Option (Topic × MarkCounts)) (topic : Topic) (counts : MarkCounts) (track : Track) → counted ≡ Some (topic, counts)
    → IsCountOf counted (Some track) → (topic ≡ track.topic) × AreCounts counts track.marks
counted_there counted topic counts track e h = subst (λ (o : Option (Topic × MarkCounts)). IsSomeAnd o (λ pair. (pair.0 ≡ track.topic) × AreCounts pair.1 track.marks)) e h

pub no_count : (counted : Option (Topic × MarkCounts)) (track : Track) → counted ≡ None → IsCountOf counted (Some track) → ⊥
no_count counted track e h = subst (λ (o : Option (Topic × MarkCounts)). IsSomeAnd o (λ pair. (pair.0 ≡ track.topic) × AreCounts pair.1 track.marks)) e h

pub at_index : (totals : List Total) (i : ℕ) (d : Total) → i < length totals → slice_get totals i ≡ Some (get_or totals i d)
at_index [] i d lt = absurd (omega arith)
at_index (t ∷ ts) zero d lt = refl
at_index (t ∷ ts) (suc i) d lt = at_index ts i d (omega arith)
