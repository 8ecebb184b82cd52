-- What `clap` makes of words by the command is the same wherever the list of its modes stands.
use Rattle.std.proofs.Common.{◌≡◌, ◌∙◌, ◌==◌, ◌&&◌, ℕ, Bool, true, false, zero, suc, cond, refl, sym, ap, ap₂, codes, length, drop, List, [], ◌∷◌, Some, None, Option}
use Rattle.std.specs.Prelude.{encode_utf8, find, is_some, slice_get}
use Rattle.std.specs.Option.{option_map_or}
use Rattle.std.specs.List.{fold, list_any, slice_index_or}
use Rattle.std.specs.Str.{bytes_eq, chars}
use Rattle.clap.specs.Words.{Row, Rule, Text, fault_of, matches_of, possible_matches}
use Rattle.clap.specs.Lexer.{long_of, short_of}
use Rattle.clap.specs.Simple.{built, entered, help_rule}
use Rattle.clap.specs.Kinds.{Kinds, or_else, range_kinds, values_kinds}
use Rattle.clap.specs.Faults.{bundle_fault, bundle_step_fault, check_fault, entered_fault, flag_word_fault, flags_fault, long_fault, option_fault, other_fault, positional_fault, react_fault, repeat_fault, settle_fault, short_fault, step_fault, stray_fault, turn_fault, use_fault, walk_fault, word_fault}
use Rattle.clap.specs.declared.builder.value_parser.ValueParser.TheVariants.{Values}
use Rattle.clap.specs.declared.error.kind.ErrorKind.TheVariants.{InvalidValue, TooManyValues}
use Rattle.clap.specs.Walk.{Held, Outcome, Step, Waiting, Walk, after_flag, after_step, arg_by_id, arg_by_index, arg_by_long, arg_by_short, attached_value, bundle, bundle_met, bundle_step, done, finished, flag_met, idle, is_pending, long_met, long_or_other, long_word, next, nothing_held, option, option_met, option_word, plain, plain_word, positional, positional_held, pushed, reacted, refused, settled, settled_rows, short_met, short_or_plain, short_word, subcommand, subcommand_met, subcommand_or_other, takes_several, takes_values, to_positional, trailing, used, used_by_id, value, waits, walk_from, walked, walked_from, word_met}
use Rattle.command_line.specs.CommandLine.{colregs, settings}
use Rattle.command_line.specs.GivenArguments.{with_program_name}
use Rattle.command_line.proofs.Finished.{defaults_added, defaults_pass, fault_behind, fault_in_two, with_settings}
use Rattle.command_line.proofs.Settings.{Choices, top}

module _ (v w : Choices) where
  abbrev at_v : List Rule
  at_v = (top v).rules

  abbrev at_w : List Rule
  at_w = (top w).rules

  rows_alike : (p : Option (Text × List Text)) (rows : List Row) → settled_rows at_v p rows ≡ settled_rows at_w p rows
  unfolding colregs top
  rows_alike None rows = refl
  rows_alike (Some p) rows = go (bytes_eq (codes "mode") p.0)
    where
      go : (t : Bool) → used_by_id (cond t (Some (slice_index_or at_v 0 help_rule)) (find (λ a. bytes_eq a.id p.0) (drop 1 at_v))) p.1 rows
          ≡ used_by_id (cond t (Some (slice_index_or at_w 0 help_rule)) (find (λ a. bytes_eq a.id p.0) (drop 1 at_w))) p.1 rows
      go true = refl
      go false = refl

  settled_alike : (h : Held) → settled at_v h ≡ settled at_w h
  settled_alike h = ap (λ rows. let after : Held = record h { rows = rows; pending = None } in after) (rows_alike h.pending h.rows)

  reacted_alike : (a : Rule) (values : List Text) (h : Held) → reacted at_v a values h ≡ reacted at_w a values h
  reacted_alike a values h = ap (λ (s : Held). let after : Held = record h { rows = used a values s.rows; pending = None } in after) (settled_alike h)

  option_alike : (a : Rule) (given : Option Text) (h : Held) → option_met at_v a given h ≡ option_met at_w a given h
  option_alike a (Some text) h = ap (λ (s : Held). (s, done)) (reacted_alike a (text ∷ []) h)
  option_alike a None h = ap (λ (s : Held). let after : Held = record s { pending = Some (a.id, []) } in (after, waits a.id)) (settled_alike h)

  flag_alike : (a : Rule) (given : Option Text) (h : Held) → flag_met at_v a given h ≡ flag_met at_w a given h
  flag_alike a (Some text) h = refl
  flag_alike a None h = ap (λ (s : Held). (s, done)) (reacted_alike a [] h)

  long_alike : (found : Option Rule) (given : Option Text) (h : Held) → long_met at_v found given h ≡ long_met at_w found given h
  long_alike None given h = refl
  long_alike (Some a) given h = go (takes_values a)
    where
      go : (t : Bool) → cond t (option_met at_v a given h) (flag_met at_v a given h) ≡ cond t (option_met at_w a given h) (flag_met at_w a given h)
      go true = option_alike a given h
      go false = flag_alike a given h

  short_alike : (found : Option Rule) (rest : Text) (h : Held) (f g : Held → Held × Outcome) → ((x : Held) → f x ≡ g x) → short_met at_v found rest h f ≡ short_met at_w found rest h g
  short_alike None rest h f g same = refl
  short_alike (Some a) rest h f g same = go (takes_values a)
    where
      go : (t : Bool) → cond t (option_met at_v a (attached_value rest) h) (f (reacted at_v a [] h)) ≡ cond t (option_met at_w a (attached_value rest) h) (g (reacted at_w a [] h))
      go true = option_alike a (attached_value rest) h
      go false = ap f (reacted_alike a [] h) ∙ same (reacted at_w a [] h)

  step_alike : (o : Option ℕ) (flags : Text) (skip : ℕ) (so_far : Outcome) (h : Held) (f g : Text → ℕ → Outcome → Held → Held × Outcome)
      → ((t : Text) (n : ℕ) (x : Outcome) (y : Held) → f t n x y ≡ g t n x y) → bundle_step at_v o flags skip so_far h f ≡ bundle_step at_w o flags skip so_far h g
  unfolding colregs top
  step_alike None flags skip so_far h f g same = refl
  step_alike (Some x) flags zero so_far h f g same =
      let rest = drop (length (encode_utf8 x)) flags in
      short_alike (arg_by_short at_v x) rest h (f rest 0 done) (g rest 0 done) (same rest 0 done)
  step_alike (Some x) flags (suc skip) so_far h f g same = same (drop (length (encode_utf8 x)) flags) skip so_far h

  bundle_alike : (k : ℕ) (flags : Text) (skip : ℕ) (so_far : Outcome) (h : Held) → bundle_met at_v k flags skip so_far h ≡ bundle_met at_w k flags skip so_far h
  unfolding bundle_met
  bundle_alike zero flags skip so_far h = refl
  bundle_alike (suc k) flags skip so_far h =
      step_alike (slice_get (chars flags) 0) flags skip so_far h (bundle_met at_v k) (bundle_met at_w k) (λ t n x y. bundle_alike k t n x y)

  option_word_alike : (id word : Text) (h : Held) → option_word (arg_by_id at_v id) id word h ≡ option_word (arg_by_id at_w id) id word h
  unfolding colregs top
  option_word_alike id word h = go (bytes_eq (codes "mode") id)
    where
      go : (t : Bool) → option_word (cond t (Some (slice_index_or at_v 0 help_rule)) (find (λ a. bytes_eq a.id id) (drop 1 at_v))) id word h
          ≡ option_word (cond t (Some (slice_index_or at_w 0 help_rule)) (find (λ a. bytes_eq a.id id) (drop 1 at_w))) id word h
      go true = refl
      go false = refl

  plain_alike : (waiting : Waiting) (word : Text) (h : Held) → plain_word at_v waiting word h ≡ plain_word at_w waiting word h
  plain_alike idle word h = refl
  plain_alike positional word h = refl
  plain_alike (option id) word h = ap (λ (x : Held × Waiting). (x.0, next x.1)) (option_word_alike id word h)

  after_alike : (waiting : Waiting) (word : Text) (h : Held) (o : Outcome) → after_flag at_v waiting word h o ≡ after_flag at_w waiting word h o
  after_alike waiting word h done = refl
  after_alike waiting word h (waits id) = refl
  after_alike waiting word h plain = plain_alike waiting word h
  after_alike waiting word h refused = plain_alike waiting word h

  long_word_alike : (waiting : Waiting) (word name : Text) (given : Option Text) (h : Held) → long_word at_v waiting word name given h ≡ long_word at_w waiting word name given h
  unfolding colregs top
  long_word_alike waiting word name given h =
      ap (λ (x : Held × Outcome). after_flag at_v waiting word x.0 x.1) (long_alike (arg_by_long at_v name) given h)
      ∙ after_alike waiting word (long_met at_w (arg_by_long at_w name) given h).0 (long_met at_w (arg_by_long at_w name) given h).1

  short_word_alike : (waiting : Waiting) (word flags : Text) (h : Held) → short_word at_v waiting word flags h ≡ short_word at_w waiting word flags h
  short_word_alike waiting word flags h =
      ap (λ (x : Held × Outcome). after_flag at_v waiting word x.0 x.1) (bundle_alike (length flags) flags h.skip plain (let from : Held = record h { skip = 0 } in from))
      ∙ after_alike waiting word (bundle at_w flags h).0 (bundle at_w flags h).1

  short_or_plain_alike : (waiting : Waiting) (word : Text) (flags : Option Text) (h : Held) → short_or_plain at_v waiting word flags h ≡ short_or_plain at_w waiting word flags h
  short_or_plain_alike waiting word (Some flags) h = short_word_alike waiting word flags h
  short_or_plain_alike waiting word None h = plain_alike waiting word h

  long_or_other_alike : (waiting : Waiting) (word : Text) (p : Option (Text × Option Text)) (h : Held) → long_or_other at_v waiting word p h ≡ long_or_other at_w waiting word p h
  long_or_other_alike waiting word (Some p) h = long_word_alike waiting word p.0 p.1 h
  long_or_other_alike waiting word None h = short_or_plain_alike waiting word (short_of word) h

  other_alike : (o : Option Text) (waiting : Waiting) (position : ℕ) (word : Text) (h : Held) → subcommand_or_other at_v o waiting position word h ≡ subcommand_or_other at_w o waiting position word h
  other_alike (Some name) waiting position word h = refl
  other_alike None waiting position word h = go (bytes_eq word (45 ∷ 45 ∷ []))
    where
      go : (t : Bool) → cond t (h, trailing position) (long_or_other at_v waiting word (long_of word) h) ≡ cond t (h, trailing position) (long_or_other at_w waiting word (long_of word) h)
      go true = refl
      go false = long_or_other_alike waiting word (long_of word) h

  pub met_alike : (is_trailing : Bool) (waiting : Waiting) (position : ℕ) (word : Text) (h : Held) → word_met at_v [] is_trailing waiting position word h ≡ word_met at_w [] is_trailing waiting position word h
  met_alike true waiting position word h = refl
  met_alike false waiting position word h = other_alike (subcommand_met [] waiting word) waiting position word h

  held_alike : (a : Rule) (word : Text) (h : Held) → positional_held at_v a word h ≡ positional_held at_w a word h
  held_alike a word h = go (is_pending a h.pending && takes_several a)
    where
      go : (t : Bool) → pushed a.id word (cond t h (settled at_v h)) ≡ pushed a.id word (cond t h (settled at_w h))
      go true = refl
      go false = ap (pushed a.id word) (settled_alike h)

  positional_alike : (found : Option Rule) (word : Text) (x : Walk) (h : Held) → to_positional at_v found word x h ≡ to_positional at_w found word x h
  positional_alike None word x h = refl
  positional_alike (Some a) word x h =
      ap (λ (y : Held). let after : Walk = record (to_positional at_v (Some a) word x h) { held = y } in after) (held_alike a word h)

  value_alike : (word : Text) (x : Walk) (h : Held) → to_positional at_v (arg_by_index at_v x.position) word x h ≡ to_positional at_w (arg_by_index at_w x.position) word x h
  unfolding colregs top
  value_alike word x h = go (1 == x.position)
    where
      go : (t : Bool) → to_positional at_v (cond t (Some (slice_index_or at_v 0 help_rule)) (find (λ a. option_map_or (λ k. k == x.position) a.index false) (drop 1 at_v))) word x h
          ≡ to_positional at_w (cond t (Some (slice_index_or at_w 0 help_rule)) (find (λ a. option_map_or (λ k. k == x.position) a.index false) (drop 1 at_w))) word x h
      go true = positional_alike (Some (slice_index_or at_v 0 help_rule)) word x h
      go false = positional_alike (find (λ a. option_map_or (λ k. k == x.position) a.index false) (drop 1 at_v)) word x h

  step_taken_alike : (word : Text) (x : Walk) (h : Held) (s : Step) → after_step at_v word x h s ≡ after_step at_w word x h s
  step_taken_alike word x h (next waiting) = refl
  step_taken_alike word x h (trailing position) = refl
  step_taken_alike word x h (subcommand name) = refl
  step_taken_alike word x h value = value_alike word x h

  walked_from_alike : (stop : Option (Text × List Text)) (x : Walk) (word : Text) → walked_from at_v [] stop x word ≡ walked_from at_w [] stop x word
  walked_from_alike (Some p) x word = refl
  walked_from_alike None x word =
      ap (λ (met : Held × Step). after_step at_v word x met.0 met.1) (met_alike x.is_trailing x.waiting x.position word x.held)
      ∙ step_taken_alike word x (word_met at_w [] x.is_trailing x.waiting x.position word x.held).0 (word_met at_w [] x.is_trailing x.waiting x.position word x.held).1

  walked_alike : (x : Walk) (word : Text) → walked at_v [] x word ≡ walked at_w [] x word
  unfolding walked
  walked_alike x word = walked_from_alike x.stopped x word

  pub walk_alike : (words : List Text) (x : Walk) → fold (walked at_v []) x words ≡ fold (walked at_w []) x words
  walk_alike [] x = refl
  walk_alike (word ∷ words) x = ap (λ y. fold (walked at_v []) y words) (walked_alike x word) ∙ walk_alike words (walked at_w [] x word)

  -- ---- faults, where both lists are the modes

  module _ (same : (text : Text) → list_any (possible_matches false text) v.now ≡ list_any (possible_matches false text) w.now) where
    values_alike : (values : List Text) → values_kinds false (Values v) values ≡ values_kinds false (Values w) values
    values_alike [] = refl
    values_alike (text ∷ rest) =
        ap₂ or_else (ap (λ t. let kinds : Kinds = cond t [] (InvalidValue ∷ []) in kinds) (same text)) (values_alike rest)

    mode_alike : (values : List Text) (rows : List Row) → use_fault false (slice_index_or at_v 0 help_rule) values rows ≡ use_fault false (slice_index_or at_w 0 help_rule) values rows
    unfolding colregs top
    mode_alike [] rows = refl
    mode_alike (text ∷ rest) rows =
        ap (λ ks. or_else (range_kinds 1 1 (length (text ∷ rest))) (or_else (repeat_fault false (codes "mode") rows) ks)) (values_alike (text ∷ rest))

    settle_pending_alike : (rows : List Row) (p : Option (Text × List Text))
        → option_map_or (λ q. option_map_or (λ a. use_fault false a q.1 rows) (arg_by_id at_v q.0) []) p []
        ≡ option_map_or (λ q. option_map_or (λ a. use_fault false a q.1 rows) (arg_by_id at_w q.0) []) p []
    unfolding colregs top
    settle_pending_alike rows None = refl
    settle_pending_alike rows (Some p) = go (bytes_eq (codes "mode") p.0)
      where
        go : (t : Bool) → option_map_or (λ a. use_fault false a p.1 rows) (cond t (Some (slice_index_or at_v 0 help_rule)) (find (λ a. bytes_eq a.id p.0) (drop 1 at_v))) []
            ≡ option_map_or (λ a. use_fault false a p.1 rows) (cond t (Some (slice_index_or at_w 0 help_rule)) (find (λ a. bytes_eq a.id p.0) (drop 1 at_w))) []
        go true = mode_alike p.1 rows
        go false = refl

    settle_alike : (h : Held) → settle_fault at_v false h ≡ settle_fault at_w false h
    settle_alike h = settle_pending_alike h.rows h.pending

    react_alike : (a : Rule) (values : List Text) (h : Held) → react_fault at_v false a values h ≡ react_fault at_w false a values h
    react_alike a values h = ap₂ or_else (settle_alike h) (ap (λ (s : Held). use_fault false a values s.rows) (settled_alike h))

    option_fault_alike : (a : Rule) (given : Option Text) (h : Held) → option_fault at_v false a given h ≡ option_fault at_w false a given h
    option_fault_alike a (Some text) h = react_alike a (text ∷ []) h
    option_fault_alike a None h = settle_alike h

    long_fault_alike : (found : Option Rule) (given : Option Text) (h : Held) → long_fault at_v false found given h ≡ long_fault at_w false found given h
    long_fault_alike None given h = refl
    long_fault_alike (Some a) given h = go (takes_values a) (is_some given)
      where
        go : (t s : Bool) → cond t (option_fault at_v false a given h) (cond s (TooManyValues ∷ []) (react_fault at_v false a [] h))
            ≡ cond t (option_fault at_w false a given h) (cond s (TooManyValues ∷ []) (react_fault at_w false a [] h))
        go true s = option_fault_alike a given h
        go false true = refl
        go false false = react_alike a [] h

    short_fault_alike : (found : Option Rule) (rest : Text) (h : Held) (f g : Held → Kinds) → ((x : Held) → f x ≡ g x) → short_fault at_v false found rest h f ≡ short_fault at_w false found rest h g
    short_fault_alike None rest h f g equal = refl
    short_fault_alike (Some a) rest h f g equal = go (takes_values a)
      where
        go : (t : Bool) → cond t (option_fault at_v false a (attached_value rest) h) (or_else (react_fault at_v false a [] h) (f (reacted at_v a [] h)))
            ≡ cond t (option_fault at_w false a (attached_value rest) h) (or_else (react_fault at_w false a [] h) (g (reacted at_w a [] h)))
        go true = option_fault_alike a (attached_value rest) h
        go false = ap₂ or_else (react_alike a [] h) (ap f (reacted_alike a [] h) ∙ equal (reacted at_w a [] h))

    step_fault_alike : (o : Option ℕ) (flags : Text) (skip : ℕ) (h : Held) (f g : Text → ℕ → Held → Kinds)
        → ((t : Text) (n : ℕ) (y : Held) → f t n y ≡ g t n y) → bundle_step_fault at_v false o flags skip h f ≡ bundle_step_fault at_w false o flags skip h g
    unfolding colregs top
    step_fault_alike None flags skip h f g equal = refl
    step_fault_alike (Some x) flags zero h f g equal =
        let rest = drop (length (encode_utf8 x)) flags in
        short_fault_alike (arg_by_short at_v x) rest h (f rest 0) (g rest 0) (equal rest 0)
    step_fault_alike (Some x) flags (suc skip) h f g equal = equal (drop (length (encode_utf8 x)) flags) skip h

    flags_alike : (k : ℕ) (flags : Text) (skip : ℕ) (h : Held) → flags_fault at_v false k flags skip h ≡ flags_fault at_w false k flags skip h
    unfolding flags_fault
    flags_alike zero flags skip h = refl
    flags_alike (suc k) flags skip h =
        step_fault_alike (slice_get (chars flags) 0) flags skip h (flags_fault at_v false k) (flags_fault at_w false k) (λ t n y. flags_alike k t n y)

    flag_word_alike : (p : Option (Text × Option Text)) (word : Text) (h : Held) → flag_word_fault at_v false p word h ≡ flag_word_fault at_w false p word h
    unfolding colregs top
    flag_word_alike (Some p) word h = long_fault_alike (arg_by_long at_v p.0) p.1 h
    flag_word_alike None word h = go (short_of word)
      where
        go : (o : Option Text) → option_map_or (λ flags. bundle_fault at_v false flags h) o [] ≡ option_map_or (λ flags. bundle_fault at_w false flags h) o []
        go None = refl
        go (Some flags) = flags_alike (length flags) flags h.skip (let from : Held = record h { skip = 0 } in from)

    other_fault_alike : (o : Option Text) (word : Text) (h : Held) → other_fault (top v) o word h ≡ other_fault (top w) o word h
    unfolding colregs top
    other_fault_alike (Some name) word h = refl
    other_fault_alike None word h = go (bytes_eq word (45 ∷ 45 ∷ []))
      where
        go : (t : Bool) → cond t [] (flag_word_fault at_v false (long_of word) word h) ≡ cond t [] (flag_word_fault at_w false (long_of word) word h)
        go true = refl
        go false = flag_word_alike (long_of word) word h

    word_fault_alike : (is_trailing : Bool) (waiting : Waiting) (word : Text) (h : Held) → word_fault (top v) [] is_trailing waiting word h ≡ word_fault (top w) [] is_trailing waiting word h
    word_fault_alike true waiting word h = refl
    word_fault_alike false waiting word h = other_fault_alike (subcommand_met [] waiting word) word h

    positional_fault_alike : (a : Rule) (h : Held) → positional_fault at_v false a h ≡ positional_fault at_w false a h
    positional_fault_alike a h = go (is_pending a h.pending && takes_several a)
      where
        go : (t : Bool) → cond t [] (settle_fault at_v false h) ≡ cond t [] (settle_fault at_w false h)
        go true = refl
        go false = settle_alike h

    value_fault_alike : (position : ℕ) (h : Held) → step_fault (top v) position h value ≡ step_fault (top w) position h value
    unfolding colregs top
    value_fault_alike position h = go (1 == position)
      where
        found : Option Rule
        found = find (λ a. option_map_or (λ k. k == position) a.index false) (drop 1 at_v)

        other : (o : Option Rule) → option_map_or (λ a. positional_fault at_v false a h) o (stray_fault (top v)) ≡ option_map_or (λ a. positional_fault at_w false a h) o (stray_fault (top w))
        other None = refl
        other (Some a) = positional_fault_alike a h

        go : (t : Bool) → option_map_or (λ a. positional_fault at_v false a h) (cond t (Some (slice_index_or at_v 0 help_rule)) (find (λ a. option_map_or (λ k. k == position) a.index false) (drop 1 at_v))) (stray_fault (top v))
            ≡ option_map_or (λ a. positional_fault at_w false a h) (cond t (Some (slice_index_or at_w 0 help_rule)) (find (λ a. option_map_or (λ k. k == position) a.index false) (drop 1 at_w))) (stray_fault (top w))
        go true = positional_fault_alike (slice_index_or at_v 0 help_rule) h
        go false = other (find (λ a. option_map_or (λ k. k == position) a.index false) (drop 1 at_v))

    step_turn_alike : (position : ℕ) (h : Held) (s : Step) → step_fault (top v) position h s ≡ step_fault (top w) position h s
    step_turn_alike position h (next waiting) = refl
    step_turn_alike position h (trailing n) = refl
    step_turn_alike position h (subcommand name) = refl
    step_turn_alike position h value = value_fault_alike position h

    turn_alike : (x : Walk) (word : Text) → turn_fault (top v) [] x word ≡ turn_fault (top w) [] x word
    turn_alike x word = go (is_some x.stopped)
      where
        met_v : Held × Step
        met_v = word_met at_v [] x.is_trailing x.waiting x.position word x.held

        met_w : Held × Step
        met_w = word_met at_w [] x.is_trailing x.waiting x.position word x.held

        go : (t : Bool) → cond t [] (or_else (word_fault (top v) [] x.is_trailing x.waiting word x.held) (step_fault (top v) x.position met_v.0 met_v.1))
            ≡ cond t [] (or_else (word_fault (top w) [] x.is_trailing x.waiting word x.held) (step_fault (top w) x.position met_w.0 met_w.1))
        go true = refl
        go false = ap₂ or_else (word_fault_alike x.is_trailing x.waiting word x.held)
            (ap (λ (met : Held × Step). step_fault (top v) x.position met.0 met.1) (met_alike x.is_trailing x.waiting x.position word x.held)
            ∙ step_turn_alike x.position met_w.0 met_w.1)

    walk_fault_alike : (words : List Text) (x : Walk) → walk_fault (top v) [] x words ≡ walk_fault (top w) [] x words
    unfolding walk_fault
    walk_fault_alike [] x = refl
    walk_fault_alike (word ∷ words) x =
        ap₂ or_else (turn_alike x word) (ap (λ y. walk_fault (top v) [] y words) (walked_alike x word) ∙ walk_fault_alike words (walked at_w [] x word))

    finished_alike : (h : Held) → finished at_v h ≡ finished at_w h
    finished_alike h = defaults_added v (settled at_v h).rows ∙ ap (λ (s : Held). with_settings settings s.rows) (settled_alike h) ∙ sym (defaults_added w (settled at_w h).rows)

    behind_alike : (x : Walk) → fault_behind v x ≡ fault_behind w x
    unfolding colregs top
    behind_alike x =
        let has = is_some (entered (built (colregs v)) x.stopped) in
        ap (λ ks. or_else (entered_fault (built (colregs v)) x.stopped) ks)
        (ap₂ or_else (settle_alike x.held)
        (ap₂ or_else (defaults_pass v (settled at_v x.held).rows ∙ sym (defaults_pass w (settled at_w x.held).rows))
        (ap (λ rows. check_fault (top v) rows has) (finished_alike x.held))))

    pub fault_alike : (words : List Text) → fault_of (colregs v) (with_program_name words) ≡ fault_of (colregs w) (with_program_name words)
    fault_alike words =
        fault_in_two v words
        ∙ ap₂ or_else (walk_fault_alike words (walk_from nothing_held))
        (ap (fault_behind v) (walk_alike words (walk_from nothing_held)) ∙ behind_alike (fold (walked at_w []) (walk_from nothing_held) words))
        ∙ sym (fault_in_two w words)

    pub matches_alike : (words : List Text) → matches_of (colregs v) (with_program_name words) ≡ matches_of (colregs w) (with_program_name words)
    unfolding colregs top
    matches_alike words =
        ap (λ (x : Walk). finished at_v x.held) (walk_alike words (walk_from nothing_held)) ∙ finished_alike (fold (walked at_w []) (walk_from nothing_held) words).held
