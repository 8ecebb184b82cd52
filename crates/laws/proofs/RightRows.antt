-- If none of the rows is the first bad one, they are right: the contrary is refuted. So every plan fails.
use Rattle.std.proofs.Common.{ℕ, suc, add-one, ◌≡◌, ◌≤◌, ◌<◌, inl, inr, List, [], ◌∷◌, length, take, refl, ap₂, subst, arith}
use Rattle.std.specs.Prelude.{◌↔◌}
use Rattle.std.specs.Int.Digits.{AllBelowBase}
use Rattle.report_csv.specs.CsvRows.{Fields}
use Rattle.lattice.specs.Grids.{choices_of, plans_of}
use Rattle.plan_situations.specs.FailingPlans.{FailsBy, Some_}
use Rattle.plan_situations.specs.LeastPlans.{AllFail}
use Rattle.plan_situations.specs.Prefixes.{AreOneBlock}
use Rattle.plan_situations.specs.Reasons.{HasReason}
use Rattle.plan_situations.specs.declared.situation.Situation.{Situation}
use Rattle.refutation_check.specs.CheckedRows.{AreRight, IsFirstBadRow, IsSoundRow, Tell}
use Rattle.refutation_check.proofs.ForCallers.{are_entries, sound_front, tell_as_many, tell_front}
use Rattle.refutations.specs.RightLists.{IsSoundAt, ends_from}
use Rattle.refutations.specs.declared.entry.WhyEntry.{WhyEntry}
use Rattle.refutations.proofs.Blocks.{right_refutes}
use Rattle.refutations.proofs.ToldEntries.{same_entry}
use Rattle.rule_set.specs.NamedTrees.{RulesHaveDifferentNames}
use Rattle.laws.proofs.Refuted.{LeastOrNone, each_below, least_or_none}

module _ (s : Situation) (different : RulesHaveDifferentNames s.rules) (few : choices_of s.lattice ≤ 512) where
  -- rows give only one list of entries
  one_told : (rows : List Fields) (entries others : List WhyEntry) → Tell s rows entries → Tell s rows others → entries ≡ others
  one_told [] [] [] h k = refl
  one_told [] [] (other ∷ others) h k = absurd k
  one_told [] (entry ∷ entries) others h k = absurd h
  one_told (row ∷ rows) [] others h k = absurd h
  one_told (row ∷ rows) (entry ∷ entries) [] h k = absurd k
  one_told (row ∷ rows) (entry ∷ entries) (other ∷ others) h k =
      ap₂ (λ (first : WhyEntry) (rest : List WhyEntry). first ∷ rest) (same_entry s different few row entry other h.0 k.0) (one_told rows entries others h.1 k.1)

  module _ (rows : List Fields) where
    sound_at : (entries : List WhyEntry) → Tell s rows entries → (k : ℕ) → IsSoundRow s rows k → IsSoundAt s entries k
    sound_at entries told k sound =
        let front : Tell s (take (suc k) rows) sound.entries = rw (← add-one) sound.told in
        let same : sound.entries ≡ take (suc k) entries = one_told (take (suc k) rows) sound.entries (take (suc k) entries) front (tell_front s rows entries (suc k) told) in
        sound_front s entries k (subst (λ (es : List WhyEntry). IsSoundAt s es k) same sound.sound)

    right_of : ((k : ℕ) → k < length rows → IsSoundRow s rows k) → (entries : List WhyEntry) → Tell s rows entries → ends_from s 0 entries ≡ plans_of s.lattice → AreRight s rows
    right_of sound entries told whole =
        let many = tell_as_many s rows entries told in
        record {
          entries = entries;
          told = told;
          right = record { each = λ k lt. sound_at entries told k (sound k (omega arith)); whole = whole };
        }

    pub some_right : ((k : ℕ) → ¬ IsFirstBadRow s rows k) → ¬ ¬ AreRight s rows
    some_right none not = least_or_none (λ k. ¬ IsSoundRow s rows k) (length rows) found
      where
        found : LeastOrNone (λ k. ¬ IsSoundRow s rows k) (length rows) → ⊥
        found (inl (k, lt, least)) = each_below (IsSoundRow s rows) k least.before (λ before.
            none k (record { within = omega arith; before = before; here = λ _. least.here; short = λ same. absurd (omega arith) }))
        found (inr all) = each_below (IsSoundRow s rows) (length rows) all (λ sound.
            none (length rows) (record {
              within = omega arith;
              before = sound;
              here = λ lt. absurd (omega arith);
              short = λ same entries told whole. not (right_of sound entries told whole);
            }))

  pub right_fail : 0 < choices_of s.lattice
      → ((prefix : List ℕ) → AllBelowBase (choices_of s.lattice) prefix → length prefix ≤ s.lattice.legs → AreOneBlock s prefix)
      → ((plan : List ℕ) (last : ℕ) → FailsBy s last plan ↔ Some_ (HasReason s plan last) s.targets)
      → (rows : List Fields) → AreRight s rows → AllFail s
  right_fail some blocks reasons rows right = right_refutes s some blocks reasons right.entries (are_entries s rows right.entries right.told) right.right
