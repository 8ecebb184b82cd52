-- What is kept of one vessel: its order, what a note makes of it, and the rank that it gives.
use Rattle.std.proofs.Common.{◌≡◌, ◌≢◌, ◌∙◌, ℕ, zero, suc, ◌+◌, ◌<◌, ◌≤◌, inl, inr, Bool, true, List, [], ◌∷◌, ◌++◌, length, take, get_or, Some, None, refl, ap, subst, sym, arith}
use Rattle.std.specs.Prelude.{Contains, Option, nat_le, nat_lt, if◌then◌else◌}
use Rattle.std.specs.List.{All, AllPairs, filter, last_or}
use Rattle.std.specs.List.Sorted.{IsNonDecreasingBy, IsPartitionPoint}
use Rattle.std.proofs.Math.Nat.{eq-or-lt_of_le}
use Rattle.std.proofs.lemmas.Bool.{cases_Bool}
use Rattle.std.proofs.lemmas.Bool.Decides.{nat_tests}
use Rattle.std.proofs.lemmas.List.{append-nil}
use Rattle.std.proofs.lemmas.List.Elements.{filter-append}
use Rattle.std.proofs.lemmas.List.Quantifiers.{all_pairs_push}
use Rattle.motion.proofs.LastPassing.{filter_none}
use Rattle.tracks.proofs.Lasts.{last_or-push}
use Rattle.ranks.specs.Inner.ChangeOrder.{AreChanges, Differ}
use Rattle.ranks.specs.Standing.{rank_after, rank_since, rank_until}
use Rattle.ranks.specs.declared.change.Change.{Change}
use Rattle.ranks.specs.declared.rank.Rank.{Rank}
use Rattle.ranks.specs.declared.rank.Rank.TheVariants.{Power}
use Rattle.ranks.proofs.Fronts.{IsBy, filter_front, filter_take, front_by, within_front}

-- ---- the order of changes

pub in_order : (changes : List Change) → AreChanges changes → IsNonDecreasingBy (λ change. change.time) changes
in_order changes h i j d le within =
    elim (eq-or-lt_of_le le) [
      | inl same ↦ (let e : (get_or changes i d).time ≡ (get_or changes j d).time = ap (λ (k : ℕ). (get_or changes k d).time) same in omega arith)
      | inr before ↦ (let lt : (get_or changes i d).time < (get_or changes j d).time = h.order i j d before within in omega arith)
    ]

take_pairs : {X : Type 0} (R : X → X → Type 0) (xs : List X) (n : ℕ) → AllPairs R xs → AllPairs R (take n xs)
take_pairs R xs n h i j d lt within =
    let second = within_front xs n j d within in
    let first = within_front xs n i d (omega arith) in
    rw (first.0, second.0) (h i j d lt second.1)

take_differ : (before : Rank) (changes : List Change) (n : ℕ) → Differ before changes → Differ before (take n changes)
take_differ before changes zero h = tt
take_differ before [] (suc n) h = tt
take_differ before (change ∷ changes) (suc n) h = (h.0, take_differ change.rank changes n h.1)

push_differ : (o : Option Change) (changes : List Change) (more : Change) → Differ (rank_since o) changes → more.rank ≢ rank_since (last_or o changes)
    → Differ (rank_since o) (changes ++ more ∷ [])
push_differ o [] more h ne = (ne, tt)
push_differ o (change ∷ changes) more h ne = (h.0, push_differ (Some change) changes more h.1 ne)

pub front_of_changes : (changes : List Change) (n : ℕ) → AreChanges changes → AreChanges (take n changes)
front_of_changes changes n h = record {
  order = take_pairs (λ earlier later. earlier.time < later.time) changes n h.order;
  differ = take_differ Power changes n h.differ;
}

-- ---- what a note changes

abbrev pub IsBefore : List Change → ℕ → ℕ → Type 0
IsBefore changes time i = IsPartitionPoint (λ (change : Change). change.time < time) (λ (change : Change). time ≤ change.time) changes i

abbrev by : ℕ → Change → Bool
by t change = nat_le change.time t

pub more_changes : (changes : List Change) (time i : ℕ) (rank : Rank) → AreChanges changes → IsBefore changes time i → i ≤ length changes
    → rank ≢ rank_since (last_or None (take i changes)) → AreChanges (take i changes ++ record { time = time; rank = rank } ∷ [])
more_changes changes time i rank h parts le ne =
    let front = front_of_changes changes i h in
    record {
      order = all_pairs_push (λ earlier later. earlier.time < later.time) (take i changes) (record { time = time; rank = rank }) front.order earlier;
      differ = push_differ None (take i changes) (record { time = time; rank = rank }) front.differ ne;
    }
  where
    earlier : (k : ℕ) (d : Change) → k < length (take i changes) → (get_or (take i changes) k d).time < time
    earlier k d lt = let at = within_front changes i k d lt in rw at.0 (parts.0 k d (omega arith) at.2)

-- Up to a time the front decides, and from that time on its last change counts.
front_up_to : (changes : List Change) (time i t : ℕ) → IsBefore changes time i → t < time → filter (by t) (take i changes) ≡ filter (by t) changes
front_up_to changes time i t parts lt = filter_take (by t) changes i (λ k d le within. let after = parts.1 k d le within in grind (arith, nat_tests))

front_from : (changes : List Change) (time i t : ℕ) → IsBefore changes time i → i ≤ length changes → time ≤ t → filter (by t) (take i changes) ≡ take i changes
front_from changes time i t parts le from = filter_front (by t) changes i le (λ k d z lt. let before = parts.0 k d z lt in grind (arith, nat_tests))

pub front_tells : (changes : List Change) (time i : ℕ) (rank : Rank) → IsBefore changes time i → i ≤ length changes
    → rank_since (last_or None (take i changes)) ≡ rank
    → (t : ℕ) → rank_after (take i changes) t ≡ (if nat_le time t then rank else rank_after changes t)
front_tells changes time i rank parts le e t =
    elim (cases_Bool (nat_le time t)) [
      | inl from ↦ (let at : time ≤ t = grind (arith, nat_tests) in
          rw from (ap (λ cs. rank_since (last_or None cs)) (front_from changes time i t parts le at) ∙ e))
      | inr not ↦ (let at : t < time = grind (arith, nat_tests) in
          rw not (ap (λ cs. rank_since (last_or None cs)) (front_up_to changes time i t parts at)))
    ]

pub more_tells : (changes : List Change) (time i : ℕ) (rank : Rank) → IsBefore changes time i → i ≤ length changes
    → (t : ℕ) → rank_after (take i changes ++ record { time = time; rank = rank } ∷ []) t ≡ (if nat_le time t then rank else rank_after changes t)
more_tells changes time i rank parts le t =
    let more : Change = record { time = time; rank = rank } in
    let parted : filter (by t) (take i changes ++ more ∷ []) ≡ filter (by t) (take i changes) ++ filter (by t) (more ∷ []) = filter-append (by t) (take i changes) (more ∷ []) in
    elim (cases_Bool (nat_le time t)) [
      | inl from ↦ (let last : filter (by t) (more ∷ []) ≡ more ∷ [] = rw from refl in
          rw from (ap (λ cs. rank_since (last_or None cs)) (parted ∙ ap (λ cs. filter (by t) (take i changes) ++ cs) last)
          ∙ ap rank_since (last_or-push None (filter (by t) (take i changes)) more)))
      | inr not ↦ (let at : t < time = grind (arith, nat_tests) in
          let last : filter (by t) (more ∷ []) ≡ [] = rw not refl in
          rw not (ap (λ cs. rank_since (last_or None cs)) (parted ∙ ap (λ cs. filter (by t) (take i changes) ++ cs) last
          ∙ append-nil (filter (by t) (take i changes)) ∙ front_up_to changes time i t parts at)))
    ]

-- ---- the ranks that they give

pub rank_by_front : (changes : List Change) (time i : ℕ) → IsBy (λ change. change.time) changes time i → i ≤ length changes
    → rank_since (last_or None (take i changes)) ≡ rank_after changes time
rank_by_front changes time i parts le = ap (λ cs. rank_since (last_or None cs)) (front_by (λ change. change.time) changes time i parts le)

-- The front before a time gives the rank up to it.
pub rank_before : (changes : List Change) (time i : ℕ) → IsBefore changes time i → i ≤ length changes → rank_since (last_or None (take i changes)) ≡ rank_until changes time
rank_before changes time i parts le =
    let earlier : Change → Bool = λ change. nat_lt change.time time in
    let front : filter earlier (take i changes) ≡ take i changes = filter_front earlier changes i le (λ k d z lt. let before = parts.0 k d z lt in grind (arith, nat_tests)) in
    let all : filter earlier (take i changes) ≡ filter earlier changes = filter_take earlier changes i (λ k d from within. let after = parts.1 k d from within in grind (arith, nat_tests)) in
    ap (λ cs. rank_since (last_or None cs)) (sym front ∙ all)

-- ---- each is a change

at_first : (o : Option Change) (change : Change) (changes : List Change) (t : ℕ) → nat_le change.time t ≡ true
    → rank_since (last_or o (filter (by t) (change ∷ changes))) ≡ rank_since (last_or (Some change) (filter (by t) changes))
at_first o change changes t e = rw e refl

later_pairs : (change : Change) (changes : List Change) → AllPairs (λ earlier later. earlier.time < later.time) (change ∷ changes)
    → AllPairs (λ earlier later. earlier.time < later.time) changes
later_pairs change changes h i j d lt within = h (suc i) (suc j) d (omega arith) (omega arith)

none_by : (changes : List Change) (t : ℕ) → All (λ change. t < change.time) changes → filter (by t) changes ≡ []
none_by changes t later = filter_none (by t) changes (λ k d within. let after = later k d within in grind (arith, nat_tests))

pub each_changes : (o : Option Change) (changes : List Change) → AllPairs (λ earlier later. earlier.time < later.time) changes → Differ (rank_since o) changes
    → (change : Change) → Contains changes change
    → (rank_since (last_or o (filter (by change.time) changes)) ≡ change.rank)
    × ((before : ℕ) → before + 1 ≡ change.time → rank_since (last_or o (filter (by before) changes)) ≢ change.rank)
each_changes o [] order differ change (k, lt, here) = absurd (omega arith)
each_changes o (first ∷ changes) order differ change (zero, lt, here) =
    let later : All (λ other. first.time < other.time) changes = λ k d within. order 0 (suc k) d (omega arith) (omega arith) in
    let none : filter (by first.time) changes ≡ [] = none_by changes first.time later in
    let passes : nat_le first.time first.time ≡ true = grind (arith, nat_tests) in
    let own : rank_since (last_or o (filter (by first.time) (first ∷ changes))) ≡ first.rank =
    at_first o first changes first.time passes ∙ ap (λ cs. rank_since (last_or (Some first) cs)) none in
    subst (λ (c : Change). (rank_since (last_or o (filter (by c.time) (first ∷ changes))) ≡ c.rank)
    × ((before : ℕ) → before + 1 ≡ c.time → rank_since (last_or o (filter (by before) (first ∷ changes))) ≢ c.rank)) here (
      own,
      λ before e same. (
          let all : All (λ other. before < other.time) (first ∷ changes) = none_earlier before e in
          differ.0 (sym same ∙ ap (λ cs. rank_since (last_or o cs)) (none_by (first ∷ changes) before all))),
    )
  where
    none_earlier : (before : ℕ) → before + 1 ≡ first.time → All (λ other. before < other.time) (first ∷ changes)
    none_earlier before e zero d within = omega arith
    none_earlier before e (suc k) d within = let after = order 0 (suc k) d (omega arith) (omega arith) in omega arith
each_changes o (first ∷ changes) order differ change (suc k, lt, here) =
    let rest = each_changes (Some first) changes (later_pairs first changes order) differ.1 change (k, omega arith, here) in
    let after : first.time < (get_or changes k change).time = order 0 (suc k) change (omega arith) (omega arith) in
    let at : first.time < change.time = subst (λ (c : Change). first.time < c.time) here after in
    let passes : nat_le first.time change.time ≡ true = grind (arith, nat_tests) in (
      at_first o first changes change.time passes ∙ rest.0,
      λ before e same. rest.1 before e (sym (at_first o first changes before (early before e at)) ∙ same),
    )
  where
    early : (before : ℕ) → before + 1 ≡ change.time → first.time < change.time → nat_le first.time before ≡ true
    early before e at = grind (arith, nat_tests)
