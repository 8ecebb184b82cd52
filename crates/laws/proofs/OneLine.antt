-- A line is taken out of a log: the lines before it and those after it stay.
use Rattle.std.proofs.Common.{◌≡◌, ℕ, ◌<◌, ◌⊎◌, inl, inr, Bool, true, false, List, [], ◌∷◌, ◌++◌, length, map, refl, ap, ap₂, sym, ◌∙◌, arith, append_assoc, append-nil}
use Rattle.std.specs.List.{All, onto_first, slice_split}
use Rattle.std.proofs.lemmas.List.{map-append}
use Rattle.std.proofs.lemmas.List.Splits.{length-slice_split, slice_split-cons_no, slice_split-cons_yes}
use Rattle.std.proofs.lemmas.Bool.Decides.{nat_tests}
use Rattle.std.specs.Prelude.{◌==◌, if◌then◌else◌}
use Rattle.log_lines.specs.LogLines.{is_line_feed, lines_among, lines_of, without_carriage_return}
use Rattle.log_lines.specs.GrowingLog.{ended_among, ended_lines, last_part, open_lines, open_part}
use Rattle.log_lines.proofs.ForCallers.{ended_by_feed, ended_so_far, lines_ended_or_open, open_by_feed, open_so_far}
use Rattle.laws.specs.InertLines.{IsOneLine}

-- ---- the parts of two lists of bytes one after the other

-- The first of the later parts goes on with an open one.
abbrev behind_part : List ℕ → List (List ℕ) → List (List ℕ)
behind_part part [] = part ∷ []
behind_part part (first ∷ more) = (part ++ first) ∷ more

parts_exist : (log : List ℕ) → 0 < length (slice_split is_line_feed log)
parts_exist log = omega (arith, length-slice_split is_line_feed log)

behind_none : (parts : List (List ℕ)) → 0 < length parts → behind_part [] parts ≡ parts
behind_none [] some = absurd (omega arith)
behind_none (part ∷ parts) some = refl

ended-cons : (part : List ℕ) (parts : List (List ℕ)) → 0 < length parts → ended_among (part ∷ parts) ≡ part ∷ ended_among parts
ended-cons part [] some = absurd (omega arith)
ended-cons part (next ∷ more) some = refl

last-cons : (part : List ℕ) (parts : List (List ℕ)) → 0 < length parts → last_part (part ∷ parts) ≡ last_part parts
last-cons part [] some = absurd (omega arith)
last-cons part (next ∷ more) some = refl

onto_open : (byte : ℕ) (part : List ℕ) (later : List (List ℕ)) → onto_first byte (behind_part part later) ≡ behind_part (byte ∷ part) later
onto_open byte part [] = refl
onto_open byte part (first ∷ more) = refl

onto : (byte : ℕ) (parts later : List (List ℕ)) → 0 < length parts
    → onto_first byte (ended_among parts ++ behind_part (last_part parts) later)
    ≡ ended_among (onto_first byte parts) ++ behind_part (last_part (onto_first byte parts)) later
onto byte [] later some = absurd (omega arith)
onto byte (part ∷ []) later some = onto_open byte part later
onto byte (part ∷ next ∷ more) later some = refl

split_behind : (log more : List ℕ)
    → slice_split is_line_feed (log ++ more)
    ≡ ended_among (slice_split is_line_feed log) ++ behind_part (last_part (slice_split is_line_feed log)) (slice_split is_line_feed more)
split_behind [] more = sym (behind_none (slice_split is_line_feed more) (parts_exist more))
split_behind (byte ∷ log) more = go (is_line_feed byte) refl (split_behind log more)
  where
    parts : List (List ℕ)
    parts = slice_split is_line_feed log

    later : List (List ℕ)
    later = slice_split is_line_feed more

    go : (b : Bool) → is_line_feed byte ≡ b → slice_split is_line_feed (log ++ more) ≡ ended_among parts ++ behind_part (last_part parts) later
        → slice_split is_line_feed (byte ∷ (log ++ more))
        ≡ ended_among (slice_split is_line_feed (byte ∷ log)) ++ behind_part (last_part (slice_split is_line_feed (byte ∷ log))) later
    go true is split =
        slice_split-cons_yes is_line_feed byte (log ++ more) is
        ∙ ap (λ ps. [] ∷ ps) split
        ∙ ap₂ (λ ended left. ended ++ behind_part left later) (sym (ended-cons [] parts (parts_exist log))) (sym (last-cons [] parts (parts_exist log)))
        ∙ ap (λ ps. ended_among ps ++ behind_part (last_part ps) later) (sym (slice_split-cons_yes is_line_feed byte log is))
    go false is split =
        slice_split-cons_no is_line_feed byte (log ++ more) is
        ∙ ap (onto_first byte) split
        ∙ onto byte parts later (parts_exist log)
        ∙ ap (λ ps. ended_among ps ++ behind_part (last_part ps) later) (sym (slice_split-cons_no is_line_feed byte log is))

among_append : (ended later : List (List ℕ)) → 0 < length later → lines_among (ended ++ later) ≡ ended ++ lines_among later
among_append [] later some = refl
among_append (part ∷ []) [] some = absurd (omega arith)
among_append (part ∷ []) (first ∷ more) some = refl
among_append (part ∷ next ∷ ended) later some = ap (λ lines. part ∷ lines) (among_append (next ∷ ended) later some)

-- After an ended line, a new line begins.
pub lines_behind : (before rest : List ℕ) → open_part before ≡ [] → lines_of (before ++ rest) ≡ ended_lines before ++ lines_of rest
unfolding ended_lines open_part
lines_behind before rest begins =
    let parts = slice_split is_line_feed before in
    let later = slice_split is_line_feed rest in
    let cut : slice_split is_line_feed (before ++ rest) ≡ ended_among parts ++ later =
    split_behind before rest ∙ ap (λ left. ended_among parts ++ behind_part left later) begins
    ∙ ap (λ ps. ended_among parts ++ ps) (behind_none later (parts_exist rest)) in
    ap (λ ps. map without_carriage_return (lines_among ps)) cut
    ∙ ap (map without_carriage_return) (among_append (ended_among parts) later (parts_exist rest))
    ∙ map-append without_carriage_return (ended_among parts) (lines_among later)

-- ---- a line among the others

module _ (before part : List ℕ) (begins : open_part before ≡ []) (whole : All (λ byte. is_line_feed byte ≡ false) part) where
  part_is_open : open_part (before ++ part) ≡ part
  part_is_open = open_so_far before part whole ∙ ap (λ left. left ++ part) begins

  ended_with : ended_lines ((before ++ part) ++ 10 ∷ []) ≡ ended_lines before ++ without_carriage_return part ∷ []
  ended_with = ended_by_feed (before ++ part)
      ∙ ap₂ (λ lines left. lines ++ without_carriage_return left ∷ []) (ended_so_far before part whole) part_is_open

  pub ended_line : (after : List ℕ) → lines_of (((before ++ part) ++ 10 ∷ []) ++ after) ≡ ended_lines before ++ without_carriage_return part ∷ lines_of after
  ended_line after = lines_behind ((before ++ part) ++ 10 ∷ []) after (open_by_feed (before ++ part))
      ∙ ap (λ lines. lines ++ lines_of after) ended_with
      ∙ append_assoc (ended_lines before) (without_carriage_return part ∷ []) (lines_of after)

  open_is : (n : ℕ) → 0 < n → (if n == 0 then [] else without_carriage_return part ∷ []) ≡ without_carriage_return part ∷ []
  open_is n some = grind (arith, nat_tests)

  pub last_line : 0 < length part → lines_of (before ++ part) ≡ ended_lines before ++ without_carriage_return part ∷ []
  last_line some = lines_ended_or_open (before ++ part)
      ∙ ap₂ (λ lines left. lines ++ open_lines left) (ended_so_far before part whole) part_is_open
      ∙ ap (λ lines. ended_lines before ++ lines) (open_is (length part) some)

pub record IsAmong (log less : List ℕ) (front : List (List ℕ)) (line : List ℕ) : Type 0 where
  pub back : List (List ℕ)
  pub all : lines_of log ≡ front ++ line ∷ back
  pub others : lines_of less ≡ front ++ back

pub is_among : (before part ending after : List ℕ) → IsOneLine before part ending after
    → IsAmong (((before ++ part) ++ ending) ++ after) (before ++ after) (ended_lines before) (without_carriage_return part)
is_among before part ending after line = by_ending line.ends
  where
    log : List ℕ → List ℕ → List ℕ
    log e a = ((before ++ part) ++ e) ++ a

    by_ending : (ending ≡ 10 ∷ []) ⊎ ((ending ≡ []) × (after ≡ []) × (0 < length part)) → IsAmong (log ending after) (before ++ after) (ended_lines before) (without_carriage_return part)
    by_ending (inl fed) = record {
      back = lines_of after;
      all = ap (λ e. lines_of (log e after)) fed ∙ ended_line before part line.begins line.is_one after;
      others = lines_behind before after line.begins;
    }
    by_ending (inr last) = record {
      back = [];
      all = ap₂ (λ e a. lines_of (log e a)) last.0 last.1 ∙ ap lines_of (append-nil ((before ++ part) ++ []) ∙ append-nil (before ++ part))
          ∙ last_line before part line.begins line.is_one last.2;
      others = ap (λ a. lines_of (before ++ a)) last.1 ∙ lines_behind before [] line.begins;
    }
