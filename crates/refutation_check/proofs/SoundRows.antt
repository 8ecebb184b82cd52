-- What a check of the entries says about the rows.
use Rattle.std.proofs.Common.{ℕ, zero, suc, add-one, ◌≡◌, ◌≢◌, ◌∙◌, ◌+◌, ◌≤◌, ◌<◌, ◌++◌, false, true, inl, inr, List, [], ◌∷◌, length, take, append-nil, length-append, refl, rules, arith, ap, ap₂, sym, subst}
use Rattle.std.specs.Prelude.{slice_get, ◌↔◌, All, Bool, IsSomeAnd}
use Rattle.std.specs.List.{AllZip}
use Rattle.std.proofs.lemmas.Bool.{cases_lt}
use Rattle.report_csv.specs.CsvRows.{Fields}
use Rattle.lattice.specs.Grids.{plans_of}
use Rattle.plan_situations.specs.declared.situation.Situation.{Situation}
use Rattle.refutations.specs.GoodEntries.{IsGood}
use Rattle.refutations.specs.RightLists.{ends_from, first_of, IsEntry, IsFirstBad, IsRight, IsSoundAt, Tells}
use Rattle.refutations.specs.declared.entry.Checked.{Checked}
use Rattle.refutations.specs.declared.entry.Checked.TheVariants.{Right, Bad}
use Rattle.refutations.specs.declared.entry.WhyEntry.{WhyEntry}
use Rattle.refutation_check.specs.CheckedRows.{AreRight, IsFirstBadRow, IsSoundRow, Tell, TellsOf}
use Rattle.refutation_check.specs.Inner.ReadRows.{AreRead, IsLeft, IsTheEntryOf, TellsNone}

-- ---- fronts of a list

there : {X : Type 0} (P : X → Type 0) (xs : List X) (k : ℕ) → IsSomeAnd (slice_get xs k) P → k < length xs
there P [] k h = absurd h
there P (x ∷ xs) zero h = omega arith
there P (x ∷ xs) (suc k) h = let rest = there P xs k h in omega arith

front_get : {X : Type 0} (xs : List X) (k : ℕ) → slice_get (take (suc k) xs) k ≡ slice_get xs k
front_get [] k = refl
front_get (x ∷ xs) zero = refl
front_get (x ∷ xs) (suc k) = front_get xs k

front_front : {X : Type 0} (xs : List X) (k : ℕ) → take k (take (suc k) xs) ≡ take k xs
front_front xs zero = refl
front_front [] (suc k) = refl
front_front (x ∷ xs) (suc k) = ap (λ rest. x ∷ rest) (front_front xs k)

front_of_front : {X : Type 0} (front behind : List X) (n : ℕ) → n ≤ length front → take n (front ++ behind) ≡ take n front
front_of_front front behind zero few = refl
front_of_front [] behind (suc n) few = absurd (omega arith)
front_of_front (x ∷ front) behind (suc n) few = ap (λ rest. x ∷ rest) (front_of_front front behind n (omega arith))

module _ (s : Situation) where
  -- ---- rows and their entries

  pub tell_front : (rows : List Fields) (entries : List WhyEntry) (n : ℕ) → Tell s rows entries → Tell s (take n rows) (take n entries)
  tell_front rows entries zero h = tt
  tell_front [] [] (suc n) h = tt
  tell_front [] (entry ∷ entries) (suc n) h = absurd h
  tell_front (row ∷ rows) [] (suc n) h = absurd h
  tell_front (row ∷ rows) (entry ∷ entries) (suc n) h = (h.0, tell_front rows entries n h.1)

  pub tell_as_many : (rows : List Fields) (entries : List WhyEntry) → Tell s rows entries → length rows ≡ length entries
  tell_as_many [] [] h = refl
  tell_as_many [] (entry ∷ entries) h = absurd h
  tell_as_many (row ∷ rows) [] h = absurd h
  tell_as_many (row ∷ rows) (entry ∷ entries) h = ap suc (tell_as_many rows entries h.1)

  told_by : (rows : List Fields) (entries : List WhyEntry) → AllZip (IsTheEntryOf s) rows entries → Tell s rows entries
  told_by [] [] h = tt
  told_by [] (entry ∷ entries) h = absurd h
  told_by (row ∷ rows) [] h = absurd h
  told_by (row ∷ rows) (entry ∷ entries) h = (h.0.0, told_by rows entries h.1)

  -- the entries of rows are one list, also if only those of a front are known
  one_front : (rows behind : List Fields) (entries others : List WhyEntry) (n : ℕ) → AllZip (IsTheEntryOf s) rows entries → n ≤ length entries
      → Tell s (take n (rows ++ behind)) others → others ≡ take n entries
  one_front rows behind entries [] zero h few tell = refl
  one_front rows behind entries (other ∷ others) zero h few tell = absurd tell
  one_front [] behind [] others (suc n) h few tell = absurd (omega arith)
  one_front [] behind (entry ∷ entries) others (suc n) h few tell = absurd h
  one_front (row ∷ rows) behind [] others (suc n) h few tell = absurd h
  one_front (row ∷ rows) behind (entry ∷ entries) [] (suc n) h few tell = absurd tell
  one_front (row ∷ rows) behind (entry ∷ entries) (other ∷ others) (suc n) h few tell =
      ap₂ (λ (first : WhyEntry) (rest : List WhyEntry). first ∷ rest) (h.0.1 other tell.0) (one_front rows behind entries others n h.1 (omega arith) tell.1)

  one_list : (rows : List Fields) (entries others : List WhyEntry) → AllZip (IsTheEntryOf s) rows entries → Tell s rows others → others ≡ entries
  one_list [] [] [] h tell = refl
  one_list [] [] (other ∷ others) h tell = absurd tell
  one_list [] (entry ∷ entries) others h tell = absurd h
  one_list (row ∷ rows) [] others h tell = absurd h
  one_list (row ∷ rows) (entry ∷ entries) [] h tell = absurd tell
  one_list (row ∷ rows) (entry ∷ entries) (other ∷ others) h tell =
      ap₂ (λ (first : WhyEntry) (rest : List WhyEntry). first ∷ rest) (h.0.1 other tell.0) (one_list rows entries others h.1 tell.1)

  -- rows have no list of entries if one of them has no entry
  none_told : (rows behind : List Fields) (row : Fields) (others : List WhyEntry) → TellsNone s row → ¬ Tell s (take (suc (length rows)) (rows ++ row ∷ behind)) others
  none_told [] behind row [] none tell = tell
  none_told [] behind row (other ∷ others) none tell = none other tell.0
  none_told (first ∷ rows) behind row [] none tell = tell
  none_told (first ∷ rows) behind row (other ∷ others) none tell = none_told rows behind row others none tell.1

  -- The entries of the rows are the situation's.
  pub are_entries : (rows : List Fields) (entries : List WhyEntry) → Tell s rows entries → All (IsEntry s) entries
  are_entries [] [] h = search rules
  are_entries [] (entry ∷ entries) h = absurd h
  are_entries (row ∷ rows) [] h = absurd h
  are_entries (row ∷ rows) (entry ∷ entries) h = let rest = are_entries rows entries h.1 in let first = h.0.is in search rules

  -- ---- sound rows

  front_sound : (entries : List WhyEntry) (k : ℕ) → IsSoundAt s entries k → IsSoundAt s (take (suc k) entries) k
  front_sound entries k h = rw (front_get entries k, front_front entries k) h

  pub sound_front : (entries : List WhyEntry) (k : ℕ) → IsSoundAt s (take (suc k) entries) k → IsSoundAt s entries k
  sound_front entries k h = rw (front_get entries k, front_front entries k) at h

  within : (entries : List WhyEntry) (k : ℕ) → IsSoundAt s entries k → k < length entries
  within entries k h = there (λ (entry : WhyEntry). IsGood s entry × (first_of s entry ≡ ends_from s 0 (take k entries))) entries k h

  -- rows that are right are sound
  sound_told : (rows : List Fields) (entries : List WhyEntry) (k : ℕ) → Tell s rows entries → IsSoundAt s entries k → IsSoundRow s rows k
  sound_told rows entries k tell sound = record {
    entries = take (suc k) entries;
    told = rw add-one (tell_front rows entries (suc k) tell);
    sound = front_sound entries k sound;
  }

  -- Rows that are right have no first that is bad.
  pub not_both : (rows : List Fields) (k : ℕ) → AreRight s rows → ¬ IsFirstBadRow s rows k
  not_both rows k right bad =
      let many = tell_as_many rows right.entries right.told in
      elim (cases_lt k (length rows)) [
        | inl less ↦ bad.here less (sound_told rows right.entries k right.told (right.right.each k (omega arith)))
        | inr more ↦ (let least = bad.within in bad.short (omega arith) right.entries right.told right.right.whole)
      ]

  pub right_exactly : (rows : List Fields) (checked : Checked) → TellsOf s rows checked → (checked ≡ Right) ↔ AreRight s rows
  right_exactly rows Right h = (λ e. h, λ right. refl)
  right_exactly rows (Bad k) h = (λ e. cc e, λ right. absurd (not_both rows k right h))

  -- ---- the rows that are read

  module _ (rows : List Fields) (entries : List WhyEntry) (all : Bool) (read : AreRead s rows entries all) where
    front_told : Tell s read.front entries
    front_told = told_by read.front entries read.told

    pub entries_of_it : All (IsEntry s) entries
    entries_of_it = are_entries read.front entries front_told

    as_many : length read.front ≡ length entries
    as_many = tell_as_many read.front entries front_told

    split_front : (n m : ℕ) (others : List WhyEntry) → n ≡ m → Tell s (take n rows) others → Tell s (take m (read.front ++ read.behind)) others
    split_front n m others e tell = let told : Tell s (take m rows) others = rw e at tell in subst (λ (r : List Fields). Tell s (take m r) others) read.split told

    sound_row : (k : ℕ) → IsSoundAt s entries k → IsSoundRow s rows k
    sound_row k sound =
        let less = within entries k sound in
        let many = as_many in
        let same : take (suc k) rows ≡ take (suc k) read.front = ap (take (suc k)) read.split ∙ front_of_front read.front read.behind (suc k) (omega arith) in
        record {
          entries = take (suc k) entries;
          told = rw (add-one, same) (tell_front read.front entries (suc k) front_told);
          sound = front_sound entries k sound;
        }

    unsound_row : (k : ℕ) → k < length entries → ¬ IsSoundAt s entries k → ¬ IsSoundRow s rows k
    unsound_row k less unsound row =
        let same = one_front read.front read.behind entries row.entries (suc k) read.told (omega arith) (split_front (k + 1) (suc k) row.entries (add-one k) row.told) in
        unsound (sound_front entries k (subst (λ (others : List WhyEntry). IsSoundAt s others k) same row.sound))

    -- ---- if they are all

    whole : all ≡ true → rows ≡ read.front
    whole e = let none : read.behind ≡ [] = rw e at read.left in read.split ∙ (ap (λ (behind : List Fields). read.front ++ behind) none ∙ append-nil read.front)

    all_told : all ≡ true → Tell s rows entries
    all_told e = subst (λ (r : List Fields). Tell s r entries) (sym (whole e)) front_told

    all_right : all ≡ true → IsRight s entries → AreRight s rows
    all_right e right = record { entries = entries; told = all_told e; right = right }

    all_bad : (k : ℕ) → all ≡ true → IsFirstBad s entries k → IsFirstBadRow s rows k
    all_bad k e bad =
        let many = tell_as_many rows entries (all_told e) in
        let least = bad.within in
        record {
          within = omega arith;
          before = λ j less. sound_row j (bad.before j less);
          here = λ less. unsound_row k (omega arith) (bad.here (omega arith));
          short = λ end others tell.
              let same = one_list read.front entries others read.told (subst (λ (r : List Fields). Tell s r others) (whole e) tell) in
              subst (λ (list : List WhyEntry). ends_from s 0 list ≢ plans_of s.lattice) (sym same) (bad.short (omega arith));
        }

    pub all_tells : (checked : Checked) → all ≡ true → Tells s entries checked → TellsOf s rows checked
    all_tells Right e h = all_right e h
    all_tells (Bad k) e h = all_bad k e h

    -- ---- if a row has no entry

    left_bad : (k : ℕ) → all ≡ false → k ≤ length entries → ((j : ℕ) → j < k → IsSoundAt s entries j) → (k < length entries → ¬ IsSoundAt s entries k)
        → IsFirstBadRow s rows k
    left_bad k e least before here = by read.behind refl (rw e at read.left)
      where
        by : (behind : List Fields) → read.behind ≡ behind → IsLeft s false behind → IsFirstBadRow s rows k
        by [] same h = absurd h
        by (row ∷ rest) same none =
            let long : length rows ≡ length read.front + suc (length rest) = ap length read.split ∙ (length-append read.front read.behind ∙ ap (λ (behind : List Fields). length read.front + length behind) same) in
            let many = as_many in
            record {
              within = omega arith;
              before = λ j less. sound_row j (before j less);
              here = λ less. elim (cases_lt k (length entries)) [
                | inl lt ↦ unsound_row k lt (here lt)
                | inr end ↦ (λ sound.
                    let split = split_front (k + 1) (suc (length read.front)) sound.entries (omega arith) sound.told in
                    none_told read.front rest row sound.entries none
                    (subst (λ (behind : List Fields). Tell s (take (suc (length read.front)) (read.front ++ behind)) sound.entries) same split))
              ];
              short = λ end others tell. absurd (omega arith);
            }

    pub none_right : all ≡ false → IsRight s entries → IsFirstBadRow s rows (length entries)
    none_right e right = left_bad (length entries) e (omega arith) right.each (λ less. absurd (omega arith))

    pub none_bad : (k : ℕ) → all ≡ false → IsFirstBad s entries k → IsFirstBadRow s rows k
    none_bad k e bad = left_bad k e bad.within bad.before bad.here
