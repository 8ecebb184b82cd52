-- The parts of a log that grows.
use Rattle.std.proofs.Common.{◌≡◌, ℕ, ◌+◌, ◌<◌, Bool, true, false, List, [], ◌∷◌, ◌++◌, ◌≤◌, inl, inr, length, map, min, take, ◌-◌, refl, ap, sym, ◌∙◌, arith, append_assoc, append-nil}
use Rattle.std.specs.List.{All, onto_first, slice_split}
use Rattle.std.proofs.lemmas.List.Splits.{length-slice_split, slice_split-cons_no, slice_split-cons_yes, slice_split_none}
use Rattle.std.proofs.lemmas.Bool.{cases_lt}
use Rattle.std.proofs.lemmas.List.{length-take, length-take-le, map-append, take-append-le, take_all}
use Rattle.std.proofs.Math.Seq.{take-append-add}
use Rattle.std.specs.Prelude.{◌==◌, if◌then◌else◌, slice_index}
use Rattle.log_lines.specs.LogLines.{is_line_feed, lines_among, lines_of, without_carriage_return}
use Rattle.log_lines.specs.GrowingLog.{ended_among, ended_lines, last_part, open_lines, open_part}

-- the parts of two lists in order; the first part of the second continues the last of the first
abbrev append_parts : List (List ℕ) → List (List ℕ) → List (List ℕ)
append_parts [] later = later
append_parts (part ∷ []) [] = part ∷ []
append_parts (part ∷ []) (first ∷ more) = (part ++ first) ∷ more
append_parts (part ∷ next ∷ more) later = part ∷ append_parts (next ∷ more) later

parts_exist : (log : List ℕ) → 0 < length (slice_split is_line_feed log)
parts_exist log = omega (arith, length-slice_split is_line_feed log)

behind : (parts later : List (List ℕ)) → 0 < length parts → [] ∷ append_parts parts later ≡ append_parts ([] ∷ parts) later
behind [] later some = absurd (omega arith)
behind (part ∷ parts) later some = refl

onto : (byte : ℕ) (parts later : List (List ℕ)) → 0 < length parts → onto_first byte (append_parts parts later) ≡ append_parts (onto_first byte parts) later
onto byte [] later some = absurd (omega arith)
onto byte (part ∷ []) [] some = refl
onto byte (part ∷ []) (first ∷ more) some = refl
onto byte (part ∷ next ∷ more) later some = refl

first_onto : (parts : List (List ℕ)) → 0 < length parts → append_parts ([] ∷ []) parts ≡ parts
first_onto [] some = absurd (omega arith)
first_onto (part ∷ parts) some = refl

split_append : (log more : List ℕ) → slice_split is_line_feed (log ++ more) ≡ append_parts (slice_split is_line_feed log) (slice_split is_line_feed more)
split_append [] more = sym (first_onto (slice_split is_line_feed more) (parts_exist more))
split_append (byte ∷ log) more = go (is_line_feed byte) refl (split_append log more)
  where
    go : (b : Bool) → is_line_feed byte ≡ b → slice_split is_line_feed (log ++ more) ≡ append_parts (slice_split is_line_feed log) (slice_split is_line_feed more)
        → slice_split is_line_feed (byte ∷ (log ++ more)) ≡ append_parts (slice_split is_line_feed (byte ∷ log)) (slice_split is_line_feed more)
    go true is split =
        slice_split-cons_yes is_line_feed byte (log ++ more) is ∙ ap (λ parts. [] ∷ parts) split
        ∙ behind (slice_split is_line_feed log) (slice_split is_line_feed more) (parts_exist log)
        ∙ ap (λ parts. append_parts parts (slice_split is_line_feed more)) (sym (slice_split-cons_yes is_line_feed byte log is))
    go false is split =
        slice_split-cons_no is_line_feed byte (log ++ more) is ∙ ap (onto_first byte) split
        ∙ onto byte (slice_split is_line_feed log) (slice_split is_line_feed more) (parts_exist log)
        ∙ ap (λ parts. append_parts parts (slice_split is_line_feed more)) (sym (slice_split-cons_no is_line_feed byte log is))

-- ---- a part without a line feed

on_part : (parts : List (List ℕ)) (part : List ℕ) → 0 < length parts
    → (ended_among (append_parts parts (part ∷ [])) ≡ ended_among parts) × (last_part (append_parts parts (part ∷ [])) ≡ last_part parts ++ part)
on_part [] part some = absurd (omega arith)
on_part (one ∷ []) part some = (refl, refl)
on_part (one ∷ next ∷ []) part some = (refl, refl)
on_part (one ∷ next ∷ other ∷ more) part some =
    let rest = on_part (next ∷ other ∷ more) part (omega arith) in
    (ap (λ ended. one ∷ ended) rest.0, rest.1)

module _ (log part : List ℕ) (none : All (λ byte. is_line_feed byte ≡ false) part) where
  split_on : slice_split is_line_feed (log ++ part) ≡ append_parts (slice_split is_line_feed log) (part ∷ [])
  split_on = split_append log part ∙ ap (append_parts (slice_split is_line_feed log)) (slice_split_none is_line_feed part none)

  pub ended_so_far : ended_lines (log ++ part) ≡ ended_lines log
  unfolding ended_lines
  ended_so_far = ap (λ parts. map without_carriage_return (ended_among parts)) split_on
      ∙ ap (map without_carriage_return) (on_part (slice_split is_line_feed log) part (parts_exist log)).0

  pub open_so_far : open_part (log ++ part) ≡ open_part log ++ part
  unfolding open_part
  open_so_far = ap (last_part) split_on ∙ (on_part (slice_split is_line_feed log) part (parts_exist log)).1

-- ---- a line feed

on_feed : (parts : List (List ℕ)) → 0 < length parts
    → (ended_among (append_parts parts ([] ∷ [] ∷ [])) ≡ ended_among parts ++ last_part parts ∷ []) × (last_part (append_parts parts ([] ∷ [] ∷ [])) ≡ [])
on_feed [] some = absurd (omega arith)
on_feed (one ∷ []) some = (ap (λ part. part ∷ []) (append-nil one), refl)
on_feed (one ∷ next ∷ []) some = (ap (λ part. one ∷ part ∷ []) (append-nil next), refl)
on_feed (one ∷ next ∷ other ∷ more) some =
    let rest = on_feed (next ∷ other ∷ more) (omega arith) in
    (ap (λ ended. one ∷ ended) rest.0, rest.1)

alone : (empty : Bool) (part : List ℕ) → map without_carriage_return (if empty then [] else part ∷ []) ≡ (if empty then [] else without_carriage_return part ∷ [])
alone true part = refl
alone false part = refl

among : (parts : List (List ℕ)) → 0 < length parts → map without_carriage_return (lines_among parts) ≡ map without_carriage_return (ended_among parts) ++ open_lines (last_part parts)
among [] some = absurd (omega arith)
among (part ∷ []) some = alone (length part == 0) part
among (part ∷ next ∷ more) some = ap (λ lines. without_carriage_return part ∷ lines) (among (next ∷ more) (omega arith))

module _ (log : List ℕ) where
  split_feed : slice_split is_line_feed (log ++ 10 ∷ []) ≡ append_parts (slice_split is_line_feed log) ([] ∷ [] ∷ [])
  split_feed = split_append log (10 ∷ [])

  pub ended_by_feed : ended_lines (log ++ 10 ∷ []) ≡ ended_lines log ++ without_carriage_return (open_part log) ∷ []
  unfolding ended_lines open_part
  ended_by_feed = ap (λ parts. map without_carriage_return (ended_among parts)) split_feed
      ∙ ap (map without_carriage_return) (on_feed (slice_split is_line_feed log) (parts_exist log)).0
      ∙ map-append without_carriage_return (ended_among (slice_split is_line_feed log)) (last_part (slice_split is_line_feed log) ∷ [])

  pub open_by_feed : open_part (log ++ 10 ∷ []) ≡ []
  unfolding open_part
  open_by_feed = ap (last_part) split_feed ∙ (on_feed (slice_split is_line_feed log) (parts_exist log)).1

  -- ---- all lines

  pub lines_ended_or_open : lines_of log ≡ ended_lines log ++ open_lines (open_part log)
  unfolding ended_lines open_part
  lines_ended_or_open = among (slice_split is_line_feed log) (parts_exist log)

-- ---- whatever follows

front_of : (parts later : List (List ℕ)) → (rest : List (List ℕ)) × (ended_among (append_parts parts later) ≡ ended_among parts ++ rest)
front_of [] later = (ended_among later, refl)
front_of (part ∷ []) later = (ended_among (append_parts (part ∷ []) later), refl)
front_of (part ∷ next ∷ []) [] = ([], refl)
front_of (part ∷ next ∷ []) (first ∷ more) = (ended_among ((next ++ first) ∷ more), refl)
front_of (part ∷ next ∷ other ∷ more) later =
    let rest = front_of (next ∷ other ∷ more) later in
    (rest.0, ap (λ ended. part ∷ ended) rest.1)

pub ended_stay : (log more : List ℕ) → (lines : List (List ℕ)) × (ended_lines (log ++ more) ≡ ended_lines log ++ lines)
unfolding ended_lines
ended_stay log more =
    let rest = front_of (slice_split is_line_feed log) (slice_split is_line_feed more) in (
      map without_carriage_return rest.0,
      ap (λ parts. map without_carriage_return (ended_among parts)) (split_append log more) ∙ ap (map without_carriage_return) rest.1
          ∙ map-append without_carriage_return (ended_among (slice_split is_line_feed log)) rest.0,
    )

pub all_begin : (log more : List ℕ) → (lines : List (List ℕ)) × (lines_of (log ++ more) ≡ ended_lines log ++ lines)
all_begin log more =
    let ended = ended_stay log more in
    let last = open_lines (open_part (log ++ more)) in (
      ended.0 ++ last,
      lines_ended_or_open (log ++ more) ∙ ap (λ lines. lines ++ last) ended.1 ∙ append_assoc (ended_lines log) ended.0 last,
    )

-- ---- the first bytes of the open part

take_no_more : (n : ℕ) (part : List ℕ) → take (min (length part) n) part ≡ take n part
take_no_more n part =
    elim (cases_lt n (length part)) [
      | inl below ↦ let same : min (length part) n ≡ n = omega arith in ap (λ k. take k part) same
      | inr all ↦ let same : min (length part) n ≡ length part = omega arith in
          ap (λ k. take k part) same ∙ take_all (length part) part (omega arith) ∙ sym (take_all n part all)
    ]

-- what is kept of a list that goes on
pub take_on : (most : ℕ) (front part : List ℕ) → take most front ++ take (min (length part) (most - length (take most front))) part ≡ take most (front ++ part)
take_on most front part =
    elim (cases_lt (length front) most) [
      | inl below ↦
          let all : take most front ≡ front = take_all most front (omega arith) in
          let more : most ≡ length front + (most - length front) = omega arith in
          rw all (ap (λ rest. front ++ rest) (take_no_more (most - length front) part) ∙ sym (take-append-add front part (most - length front))
          ∙ ap (λ n. take n (front ++ part)) (sym more))
      | inr full ↦
          let none : min (length part) (most - length (take most front)) ≡ 0 = let h = length-take-le most front full in omega (arith, h) in
          rw none (append-nil (take most front) ∙ sym (take-append-le most front part full))
    ]

pub whole : (most : ℕ) (front : List ℕ) → length (take most front) < most → take most front ≡ front
whole most front short = let h = length-take most front in take_all most front (omega (arith, h))

shorter : (b : Bool) (part : List ℕ) → 1026 ≤ length part → 1024 < length (if b then take (length part - 1) part else part)
shorter true part full = let h = length-take-le (length part - 1) part (omega arith) in omega (arith, h)
shorter false part full = omega arith

pub long : (part : List ℕ) → 1026 ≤ length (take 1026 part) → 1024 < length (without_carriage_return part)
long part full = let h = length-take 1026 part in shorter (slice_index part (length part - 1) == 13) part (omega (arith, h))
