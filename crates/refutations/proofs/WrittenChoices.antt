-- The choices of a prefix with a point between each two: how the text grows, and that its parts determine
-- them.
use Rattle.std.proofs.Common.{ℕ, zero, suc, ◌≡◌, ◌∙◌, ◌==◌, ◌+◌, ◌≤◌, ◌<◌, ◌^◌, false, List, [], ◌∷◌, ◌++◌, length, take, map, get_or, All, refl, arith, ap, sym, subst, length-append}
use Rattle.std.proofs.Math.Seq.{take-suc}
use Rattle.std.proofs.lemmas.Fmt.{decimal_injective, decimal_is_IsNumeral}
use Rattle.std.proofs.lemmas.List.{append_assoc, append-nil, length-map, map-append}
use Rattle.std.proofs.lemmas.List.Splits.{join_with_byte-slice_split, length-slice_split, slice_split_at, slice_split_none}
use Rattle.std.proofs.lemmas.Str.Parse.{digit_at}
use Rattle.std.specs.Fmt.{decimal}
use Rattle.std.specs.Int.Digits.{AllBelowBase}
use Rattle.std.specs.List.{join_with_byte, slice_split}
use Rattle.lattice.proofs.Digits.{below_push}
use Rattle.refutations.specs.EntryRows.{choices_text}
use Rattle.refutations.specs.Inner.Readings.{AreChoicesIn}

-- ---- one more choice

join_more : (c : ℕ) (xs : List (List ℕ)) (y : List ℕ) → 1 ≤ length xs → join_with_byte c (xs ++ y ∷ []) ≡ join_with_byte c xs ++ (c ∷ y)
join_more c [] y some = absurd (omega arith)
join_more c (x ∷ []) y some = refl
join_more c (x ∷ z ∷ xs) y some =
    ap (λ (t : List ℕ). x ++ (c ∷ t)) (join_more c (z ∷ xs) y (omega arith)) ∙ sym (append_assoc x (c ∷ join_with_byte c (z ∷ xs)) (c ∷ y))

one_longer : (cs : List ℕ) (k d : ℕ) → k < length cs → map decimal (take (k + 1) cs) ≡ map decimal (take k cs) ++ decimal (get_or cs k d) ∷ []
one_longer cs k d lt =
    let next : k + 1 ≡ suc k = omega arith in
    ap (λ (n : ℕ). map decimal (take n cs)) next ∙ (ap (map decimal) (take-suc cs k d lt) ∙ map-append decimal (take k cs) (get_or cs k d ∷ []))

-- the first choice, with nothing before it
pub first_written : (cs : List ℕ) (k d : ℕ) → k < length cs → k ≡ 0 → choices_text (take (k + 1) cs) ≡ choices_text (take k cs) ++ decimal (get_or cs k d)
first_written [] k d lt e = absurd (omega arith)
first_written (c ∷ cs) zero d lt e = refl
first_written (c ∷ cs) (suc k) d lt e = absurd (omega arith)

-- another one, after a point
pub more_written : (cs : List ℕ) (k d : ℕ) → k < length cs → 0 < k → choices_text (take (k + 1) cs) ≡ (choices_text (take k cs) ++ 46 ∷ []) ++ decimal (get_or cs k d)
more_written cs k d lt some =
    let long : length (map decimal (take k cs)) ≡ k = length-map (take k cs) decimal ∙ length_taken cs k (omega arith) in
    ap (join_with_byte 46) (one_longer cs k d lt)
    ∙ (join_more 46 (map decimal (take k cs)) (decimal (get_or cs k d)) (omega arith) ∙ sym (append_assoc (choices_text (take k cs)) (46 ∷ []) (decimal (get_or cs k d))))
  where
    length_taken : (cs : List ℕ) (k : ℕ) → k ≤ length cs → length (take k cs) ≡ k
    length_taken cs zero le = refl
    length_taken [] (suc k) le = absurd (omega arith)
    length_taken (c ∷ cs) (suc k) le = ap suc (length_taken cs k (omega arith))

-- ---- the parts between points are the numbers of the choices

no_such : (n : ℕ) → 48 ≤ n → (n == 46) ≡ false
no_such n le = grind arith

all_more : (b : ℕ) (bs : List ℕ) → (b == 46) ≡ false → All (λ (c : ℕ). (c == 46) ≡ false) bs → All (λ (c : ℕ). (c == 46) ≡ false) (b ∷ bs)
all_more b bs first rest zero d lt = first
all_more b bs first rest (suc k) d lt = rest k d (omega arith)

point_free : (bs : List ℕ) → ((i : ℕ) → i < length bs → (48 ≤ get_or bs i 0) × (get_or bs i 0 ≤ 57)) → All (λ (b : ℕ). (b == 46) ≡ false) bs
point_free [] h = λ k d lt. absurd (omega arith)
point_free (b ∷ bs) h = all_more b bs (no_such b (h 0 (omega arith)).0) (point_free bs (λ i less. h (suc i) (omega arith)))

no_point : (n : ℕ) → n < 2 ^ 64 → All (λ (b : ℕ). (b == 46) ≡ false) (decimal n)
no_point n small = point_free (decimal n) (λ i lt. digit_at (decimal n) i (decimal_is_IsNumeral n small).0.1 lt)

module _ (choices : ℕ) (few : choices ≤ 512) where
  pub parts_of : (cs : List ℕ) → 1 ≤ length cs → AllBelowBase choices cs → slice_split (λ (b : ℕ). b == 46) (choices_text cs) ≡ map decimal cs
  parts_of [] some below = absurd (omega arith)
  parts_of (c ∷ []) some below = let lt = below.0 in slice_split_none (λ (b : ℕ). b == 46) (decimal c) (no_point c (omega arith))
  parts_of (c ∷ d ∷ cs) some below =
      let lt = below.0 in
      slice_split_at (λ (b : ℕ). b == 46) (decimal c) 46 (choices_text (d ∷ cs)) (no_point c (omega arith)) refl
      ∙ ap (λ (parts : List (List ℕ)). decimal c ∷ parts) (parts_of (d ∷ cs) (omega arith) below.1)

  same_numbers : (cs ds : List ℕ) → AllBelowBase choices cs → AllBelowBase choices ds → map decimal cs ≡ map decimal ds → cs ≡ ds
  same_numbers [] [] below_c below_d e = refl
  same_numbers [] (d ∷ ds) below_c below_d e = absurd cc
  same_numbers (c ∷ cs) [] below_c below_d e = absurd cc
  same_numbers (c ∷ cs) (d ∷ ds) below_c below_d e =
      let first : decimal c ≡ decimal d = cc in
      let rest : map decimal cs ≡ map decimal ds = cc in
      let lt_c = below_c.0 in
      let lt_d = below_d.0 in
      let same : c ≡ d = decimal_injective c d (omega arith) (omega arith) first in
      let others : cs ≡ ds = same_numbers cs ds below_c.1 below_d.1 rest in
      cc

  -- A text gives at most one prefix.
  pub same_choices : (cs ds : List ℕ) → 1 ≤ length cs → 1 ≤ length ds → AllBelowBase choices cs → AllBelowBase choices ds → choices_text cs ≡ choices_text ds → cs ≡ ds
  same_choices cs ds some_c some_d below_c below_d e =
      same_numbers cs ds below_c below_d
      (sym (parts_of cs some_c below_c) ∙ (ap (slice_split (λ (b : ℕ). b == 46)) e ∙ parts_of ds some_d below_d))

  -- the choice after those that are read, as its part gives it
  pub next_choice : (read : List ℕ) (part : List ℕ) (parts : List (List ℕ)) (cs : List ℕ) → AllBelowBase choices cs → map decimal cs ≡ map decimal read ++ part ∷ parts
      → (n : ℕ) × (n < choices) × (decimal n ≡ part)
  next_choice [] part parts [] below e = absurd cc
  next_choice [] part parts (c ∷ cs) below e = let first : decimal c ≡ part = cc in (c, below.0, first)
  next_choice (r ∷ read) part parts [] below e = absurd cc
  next_choice (r ∷ read) part parts (c ∷ cs) below e = let rest : map decimal cs ≡ map decimal read ++ part ∷ parts = cc in next_choice read part parts cs below.1 rest

-- ---- what is read so far, and what is left

-- the prefix that is read has the parts of the text as its numbers
pub told_parts : (text : List ℕ) (choices legs : ℕ) (prefix : List ℕ) → choices ≤ 512 → AreChoicesIn text choices legs prefix
    → map decimal prefix ≡ slice_split (λ (b : ℕ). b == 46) text
told_parts text choices legs prefix few h = sym (parts_of choices few prefix h.some h.below) ∙ ap (slice_split (λ (b : ℕ). b == 46)) h.told

some_part : (text : List ℕ) → 1 ≤ length (slice_split (λ (b : ℕ). b == 46) text)
some_part text = let e = length-slice_split (λ (b : ℕ). b == 46) text in omega arith

-- with as many choices as there are legs no text is left
pub none_left : (prefix read rest : List ℕ) (legs : ℕ) → map decimal prefix ≡ map decimal read ++ slice_split (λ (b : ℕ). b == 46) rest → length prefix ≤ legs → legs ≤ length read → ⊥
none_left prefix read rest legs e few all =
    let more = some_part rest in
    let lengths = ap length e in
    let whole = length-map prefix decimal in
    let part = length-map read decimal in
    let sum = length-append (map decimal read) (slice_split (λ (b : ℕ). b == 46) rest) in
    omega arith

module _ (text read : List ℕ) (e : map decimal read ++ [] ≡ slice_split (λ (b : ℕ). b == 46) text) where
  pub some_read : 1 ≤ length read
  some_read =
      let some = some_part text in
      let lengths = ap length e in
      let part = length-map read decimal in
      let sum = length-append (map decimal read) [] in
      omega arith

  pub all_read : (choices legs : ℕ) → AllBelowBase choices read → length read ≤ legs → AreChoicesIn text choices legs read
  all_read choices legs below few = record {
    some = some_read;
    few = few;
    below = below;
    told = ap (join_with_byte 46) (sym (append-nil (map decimal read)) ∙ e) ∙ join_with_byte-slice_split 46 text;
  }

-- the numbers of one choice more
pub numbers_more : (read new : List ℕ) (choice : ℕ) (part : List ℕ) (parts : List (List ℕ)) → new ≡ read ++ choice ∷ [] → decimal choice ≡ part
    → map decimal new ++ parts ≡ map decimal read ++ part ∷ parts
numbers_more read new choice part parts is told =
    ap (λ (cs : List ℕ). map decimal cs ++ parts) is
    ∙ (ap (λ (ps : List (List ℕ)). ps ++ parts) (map-append decimal read (choice ∷ []))
    ∙ (append_assoc (map decimal read) (decimal choice ∷ []) parts ∙ ap (λ (p : List ℕ). map decimal read ++ p ∷ parts) told))

pub below_more : (base : ℕ) (read new : List ℕ) (choice : ℕ) → new ≡ read ++ choice ∷ [] → AllBelowBase base read → choice < base → AllBelowBase base new
below_more base read new choice is below lt = subst (AllBelowBase base) (sym is) (below_push base read choice below lt)
