-- How `clap` reads words of the plain form by the command, word by word.
use Rattle.std.proofs.Common.{◌≡◌, ◌∙◌, ◌==◌, ◌&&◌, ℕ, Bool, true, false, not, nat_lt, cond, refl, sym, ap, ap₂, codes, List, [], ◌∷◌, ◌++◌, Option, Some, None, true≢false, append-nil}
use Rattle.std.specs.List.{list_any}
use Rattle.std.specs.Option.{option_map_or}
use Rattle.std.specs.Str.{bytes_eq}
use Rattle.clap.specs.Lexer.{long_of}
use Rattle.clap.specs.Words.{Row, Rule, Shape, Text, possible_matches}
use Rattle.clap.specs.ValueTests.{accepts}
use Rattle.clap.specs.Simple.{filled}
use Rattle.clap.specs.Kinds.{Kinds, or_else}
use Rattle.clap.specs.Walk.{Held, Step, Waiting, Walk, after_flag, after_step, at_row, has_row, idle, long_met, long_or_other, more_values, most_values, nothing_held, option}
use Rattle.clap.specs.Walk.{option_word, plain_word, settled, settled_rows, trailing, used, used_by_id, walk_from, walked, with_values, without, word_met}
use Rattle.clap.specs.Faults.{flag_word_fault, long_fault, settle_fault, step_fault, turn_fault, use_fault}
use Rattle.clap.specs.declared.builder.value_parser.Reading.{Reading}
use Rattle.clap.specs.declared.builder.value_parser.Reading.TheVariants.{AsWritten}
use Rattle.clap.specs.declared.error.kind.ErrorKind.TheVariants.{ArgumentConflict, ValueValidation}
use Rattle.clap.specs.declared.parser.matches.ValueSource.TheVariants.{CommandLine}
use Rattle.clap.proofs.OnLiterals.{clap_on_literals}
use Rattle.clap.proofs.SimpleLemmas.{is_false}
use Rattle.command_line.specs.CommandLine.{Kind, CommandOption, colregs, flag, kind_of, label, option_rule, takes_number, takes_text}
use Rattle.command_line.specs.GivenArguments.{is_plain_text}
use Rattle.command_line.proofs.ByKind.{TakesValue, parser_of_kind}
use Rattle.command_line.proofs.Settings.{Choices, built_rule, known, top}

-- values of an argument, as the words gave them
abbrev pub value_row : Text → Reading → List Text → Row
value_row id how values = record { id = id; values = values; count = None; source = Some CommandLine; reading = how }

abbrev pub row : Text → Text → Row
row id value = value_row id AsWritten (value ∷ [])

-- what an argument waits to be used with: its values so far
abbrev pub Pending : Type 0
Pending = Option (Text × List Text)

abbrev pub with_value : Text → Text → Pending
with_value id value = Some (id, value ∷ [])

-- the walk holds the rows, and the argument that is not used yet
abbrev pub held : List Row → Pending → Held
held rows pending = record { rows = rows; pending = pending; skip = 0 }

abbrev pub behind : List Row → Pending → ℕ → Walk
behind rows pending position = record { held = held rows pending; waiting = idle; position = position; is_trailing = false; stopped = None }

-- the same behind an option that waits for its value
abbrev pub before_value : List Row → Text → Walk
before_value rows id =
    record { held = held rows (Some (id, [])); waiting = option id; position = 3; is_trailing = false; stopped = None }

-- ---- the mode and the name

pub mode_walked : (values : Choices) (text : Text) → is_plain_text text ≡ true → walked (top values).rules [] (walk_from nothing_held) text ≡ behind [] (with_value (codes "mode") text) 2
unfolding colregs top clap_on_literals
mode_walked values [] named = absurd (true≢false (sym named))
mode_walked values (c ∷ cs) named = let plain : (c == 45) ≡ false = is_false _ named in simp plain

pub mode_faultless : (values : Choices) (text : Text) → is_plain_text text ≡ true → turn_fault (top values) [] (walk_from nothing_held) text ≡ []
unfolding colregs top clap_on_literals
mode_faultless values [] named = absurd (true≢false (sym named))
mode_faultless values (c ∷ cs) named = let plain : (c == 45) ≡ false = is_false _ named in simp plain

pub name_walked : (values : Choices) (text name : Text) → is_plain_text name ≡ true
    → walked (top values).rules [] (behind [] (with_value (codes "mode") text) 2) name ≡ behind (row (codes "mode") text ∷ []) (with_value (codes "scenario") name) 3
unfolding colregs top clap_on_literals
name_walked values text [] named = absurd (true≢false (sym named))
name_walked values text (c ∷ cs) named =
    let plain : (c == 45) ≡ false = is_false _ named in
    simp plain

pub name_faultless : (values : Choices) (text name : Text) → list_any (possible_matches false text) values.now ≡ true → is_plain_text name ≡ true
    → turn_fault (top values) [] (behind [] (with_value (codes "mode") text) 2) name ≡ []
unfolding colregs top clap_on_literals
name_faultless values text [] accepted named = absurd (true≢false (sym named))
name_faultless values text (c ∷ cs) accepted named =
    let plain : (c == 45) ≡ false = is_false _ named in
    simp (plain, accepted)

-- ---- an option

-- what is held when the last argument is used
abbrev pub rows_settled : Choices → List Row → Pending → List Row
rows_settled values rows pending = settled_rows (top values).rules pending rows

-- how the word of an option is met, by what its tests give
abbrev step_by : List Rule → Walk → Text → Bool → Option (Text × Option Text) → Walk
step_by c w word ends long =
    let met : Held × Step = cond ends (w.held, trailing 3) (long_or_other c idle word long w.held) in
    after_step c word w met.0 met.1

abbrev step_found : List Rule → Walk → Text → Option Rule → Walk
step_found c w word found =
    let met = after_flag c idle word (long_met c found None w.held).0 (long_met c found None w.held).1 in
    after_step c word w met.0 met.1

word_walked : (values : Choices) (rows : List Row) (pending : Pending) (s : CommandOption) → walked (top values).rules [] (behind rows pending 3) (codes "--" ++ label s)
    ≡ step_found (top values).rules (behind rows pending 3) (codes "--" ++ label s) (Some (built_rule s))
unfolding walked
word_walked values rows pending s =
    let c = (top values).rules in
    let w = behind rows pending 3 in
    let word = codes "--" ++ label s in
    let is = known values s in
    ap (λ ends. step_by c w word ends (long_of word)) is.no_end ∙ ap (step_by c w word false) is.long ∙ ap (step_found c w word) is.by_long

abbrev turn_by : Shape → Walk → Text → Bool → Option (Text × Option Text) → Kinds
turn_by t w word ends long =
    let met : Held × Step = cond ends (w.held, trailing 3) (long_or_other t.rules idle word long w.held) in
    or_else (cond ends [] (flag_word_fault t.rules t.args_override_self long word w.held)) (step_fault t 3 met.0 met.1)

abbrev turn_found : Shape → Walk → Text → Option Rule → Kinds
turn_found t w word found =
    let met = after_flag t.rules idle word (long_met t.rules found None w.held).0 (long_met t.rules found None w.held).1 in
    or_else (long_fault t.rules t.args_override_self found None w.held) (step_fault t 3 met.0 met.1)

word_fault_is : (values : Choices) (rows : List Row) (pending : Pending) (s : CommandOption) → turn_fault (top values) [] (behind rows pending 3) (codes "--" ++ label s)
    ≡ turn_found (top values) (behind rows pending 3) (codes "--" ++ label s) (Some (built_rule s))
word_fault_is values rows pending s =
    let w = behind rows pending 3 in
    let word = codes "--" ++ label s in
    let is = known values s in
    ap (λ ends. turn_by (top values) w word ends (long_of word)) is.no_end ∙ ap (turn_by (top values) w word false) is.long ∙ ap (turn_found (top values) w word) is.by_long

-- a value goes to the option that waits for it
value_met : (c : List Rule) (id value : Text) (h : Held) → is_plain_text value ≡ true → word_met c [] false (option id) 3 value h ≡ plain_word c (option id) value h
unfolding clap_on_literals
value_met c id [] h plain = absurd (true≢false (sym plain))
value_met c id (x ∷ xs) h plain = let no : (x == 45) ≡ false = is_false _ plain in simp no

abbrev value_step : List Rule → Walk → Text → Text → Option Rule → Walk
value_step c w id word found = let met = option_word found id word w.held in record w { held = met.0; waiting = met.1 }

-- what the option counts when it has its value
value_taken : (id value : Text) (rows : List Row) (r : Rule) → bytes_eq id r.id ≡ true → most_values r ≡ 1
    → option_word (Some r) id value (held rows (Some (id, []))) ≡ (held rows (with_value id value), idle)
value_taken id value rows r same one =
    ap₂ (λ (t : Bool) (most : ℕ). let met : Held × Waiting = (held rows (with_value id value), cond (nat_lt (cond t 1 0) most) (option id) idle) in met) same one

pub value_faultless : (t : Shape) (rows : List Row) (id value : Text) → is_plain_text value ≡ true → turn_fault t [] (before_value rows id) value ≡ []
unfolding clap_on_literals
value_faultless t rows id [] plain = absurd (true≢false (sym plain))
value_faultless t rows id (x ∷ xs) plain = let no : (x == 45) ≡ false = is_false _ plain in simp no

-- ---- an argument that is used

pub settled_mode : (values : Choices) (text : Text) → rows_settled values [] (with_value (codes "mode") text) ≡ row (codes "mode") text ∷ []
unfolding colregs top clap_on_literals
settled_mode values text = refl

pub settled_name : (values : Choices) (text name : Text)
    → rows_settled values (row (codes "mode") text ∷ []) (with_value (codes "scenario") name) ≡ row (codes "mode") text ∷ row (codes "scenario") name ∷ []
unfolding colregs top clap_on_literals
settled_name values text name = refl

pub settles_name : (values : Choices) (text name : Text)
    → settle_fault (top values).rules false (held (row (codes "mode") text ∷ []) (with_value (codes "scenario") name)) ≡ []
unfolding colregs top clap_on_literals
settles_name values text name = refl

-- what has no row of an id gets one at its end
pub at_row_missing : (id : Text) (change : Row → List Row) (missing rows : List Row) → has_row id rows ≡ false → at_row id change missing rows ≡ rows ++ missing
at_row_missing id change missing [] none = refl
at_row_missing id change missing (r ∷ rows) none = go (bytes_eq r.id id) refl (at_row_missing id change missing rows)
  where
    go : (t : Bool) → bytes_eq r.id id ≡ t → (has_row id rows ≡ false → at_row id change missing rows ≡ rows ++ missing)
        → at_row id change missing (r ∷ rows) ≡ r ∷ (rows ++ missing)
    go true e more = let bad : true ≡ false = rw e at none in cc
    go false e more = rw e (ap (λ rs. r ∷ rs) (more (rw e at none)))

pub set_missing : (id : Text) (how : Reading) (values : List Text) (rows : List Row) → has_row id rows ≡ false
    → with_values id how CommandLine values (without id rows) ≡ rows ++ value_row id how values ∷ []
set_missing id how values rows none =
    let same : without id rows ≡ rows = at_row_missing id (λ _. []) [] rows none ∙ append-nil rows in
    ap (λ rs. with_values id how CommandLine values rs) same ∙ at_row_missing id (more_values CommandLine values) (value_row id how values ∷ []) rows none

-- ---- by kind

used_value : (name value : Text) (k : Kind) (rows : List Row) → TakesValue k → has_row name rows ≡ false
    → used (filled (option_rule name k)) (value ∷ []) rows ≡ rows ++ row name value ∷ []
used_value name value (takes_number low high default) rows takes none = set_missing name AsWritten (value ∷ []) rows none
used_value name value flag rows takes none = absurd takes
used_value name value (takes_text default) rows takes none = set_missing name AsWritten (value ∷ []) rows none

value_fault : (name value : Text) (k : Kind) (rows : List Row) → TakesValue k → has_row name rows ≡ false → accepts false (parser_of_kind k) value ≡ true
    → use_fault false (filled (option_rule name k)) (value ∷ []) rows ≡ []
value_fault name value (takes_number low high default) rows takes none accepted =
    ap₂ (λ (t a : Bool). or_else (cond t (ArgumentConflict ∷ []) []) (or_else (cond a [] (ValueValidation ∷ [])) [])) (ap (λ t. t && true) none) accepted
value_fault name value flag rows takes none accepted = absurd takes
value_fault name value (takes_text default) rows takes none accepted = ap (λ (t : Bool). or_else (cond t (ArgumentConflict ∷ []) []) []) (ap (λ t. t && true) none)

option_word_walked : (c : List Rule) (w : Walk) (word name : Text) (k : Kind) → TakesValue k → w.stopped ≡ None
    → step_found c w word (Some (filled (option_rule name k))) ≡ record w { held = record (settled c w.held) { pending = Some (name, []) }; waiting = option name }
option_word_walked c w word name (takes_number low high default) takes goes = refl
option_word_walked c w word name flag takes goes = absurd takes
option_word_walked c w word name (takes_text default) takes goes = refl

option_word_fault : (t : Shape) (w : Walk) (word name : Text) (k : Kind) → TakesValue k → settle_fault t.rules t.args_override_self w.held ≡ []
    → turn_found t w word (Some (filled (option_rule name k))) ≡ []
option_word_fault t w word name (takes_number low high default) takes settles = ap (λ ks. or_else ks []) settles
option_word_fault t w word name flag takes settles = absurd takes
option_word_fault t w word name (takes_text default) takes settles = ap (λ ks. or_else ks []) settles

option_takes_one : (name : Text) (k : Kind) → TakesValue k → ((filled (option_rule name k)).id ≡ name) × (most_values (filled (option_rule name k)) ≡ 1)
option_takes_one name (takes_number low high default) takes = (refl, refl)
option_takes_one name flag takes = absurd takes
option_takes_one name (takes_text default) takes = (refl, refl)

-- ---- an option with its value, and a flag

pub name_walked_by : (values : Choices) (rows : List Row) (pending : Pending) (s : CommandOption) → TakesValue (kind_of s)
    → walked (top values).rules [] (behind rows pending 3) (codes "--" ++ label s) ≡ before_value (rows_settled values rows pending) (label s)
name_walked_by values rows pending s takes =
    word_walked values rows pending s
    ∙ option_word_walked (top values).rules (behind rows pending 3) (codes "--" ++ label s) (label s) (kind_of s) takes refl

pub name_faultless_by : (values : Choices) (rows : List Row) (pending : Pending) (s : CommandOption) → TakesValue (kind_of s)
    → settle_fault (top values).rules false (held rows pending) ≡ [] → turn_fault (top values) [] (behind rows pending 3) (codes "--" ++ label s) ≡ []
unfolding colregs top
name_faultless_by values rows pending s takes settles =
    word_fault_is values rows pending s ∙ option_word_fault (top values) (behind rows pending 3) (codes "--" ++ label s) (label s) (kind_of s) takes settles

pub value_walked : (values : Choices) (rows : List Row) (s : CommandOption) (value : Text) → TakesValue (kind_of s) → is_plain_text value ≡ true
    → walked (top values).rules [] (before_value rows (label s)) value ≡ behind rows (with_value (label s) value) 3
unfolding walked
value_walked values rows s value takes plain =
    let c = (top values).rules in
    let w = before_value rows (label s) in
    let is = known values s in
    let one = option_takes_one (label s) (kind_of s) takes in
    ap (λ (met : Held × Step). after_step c value w met.0 met.1) (value_met c (label s) value w.held plain)
    ∙ ap (value_step c w (label s) value) is.by_id
    ∙ ap (λ (met : Held × Waiting). let next_walk : Walk = record w { held = met.0; waiting = met.1 } in next_walk)
    (value_taken (label s) value rows (built_rule s) (ap (bytes_eq (label s)) one.0 ∙ is.itself) one.1)

pub settled_value : (values : Choices) (rows : List Row) (s : CommandOption) (value : Text) → TakesValue (kind_of s) → has_row (label s) rows ≡ false
    → rows_settled values rows (with_value (label s) value) ≡ rows ++ row (label s) value ∷ []
settled_value values rows s value takes none =
    ap (λ found. used_by_id found (value ∷ []) rows) (known values s).by_id ∙ used_value (label s) value (kind_of s) rows takes none

pub settles_value : (values : Choices) (rows : List Row) (s : CommandOption) (value : Text) → TakesValue (kind_of s) → has_row (label s) rows ≡ false
    → accepts false (parser_of_kind (kind_of s)) value ≡ true → settle_fault (top values).rules false (held rows (with_value (label s) value)) ≡ []
settles_value values rows s value takes none accepted =
    ap (λ found. option_map_or (λ a. use_fault false a (value ∷ []) rows) found []) (known values s).by_id
    ∙ value_fault (label s) value (kind_of s) rows takes none accepted

flag_used : (c : List Rule) (w : Walk) (word name : Text) (rows : List Row) → w.stopped ≡ None → has_row name rows ≡ false → settled_rows c w.held.pending w.held.rows ≡ rows
    → step_found c w word (Some (filled (option_rule name flag)))
    ≡ record w { held = record w.held { rows = rows ++ row name (codes "true") ∷ []; pending = None }; waiting = idle }
flag_used c w word name rows goes none is =
    ap (λ (rs : List Row). let after : Walk = record w { held = record w.held { rows = used (filled (option_rule name flag)) [] rs; pending = None }; waiting = idle } in after) is
    ∙ ap (λ (rs : List Row). let after : Walk = record w { held = record w.held { rows = rs; pending = None }; waiting = idle } in after) (set_missing name AsWritten (codes "true" ∷ []) rows none)

flag_fault : (t : Shape) (w : Walk) (word name : Text) → settle_fault t.rules t.args_override_self w.held ≡ [] → t.args_override_self ≡ false
    → has_row name (settled_rows t.rules w.held.pending w.held.rows) ≡ false → turn_found t w word (Some (filled (option_rule name flag))) ≡ []
flag_fault t w word name settles once none =
    ap (λ ks. or_else (or_else ks (use_fault t.args_override_self (filled (option_rule name flag)) [] (settled_rows t.rules w.held.pending w.held.rows))) []) settles
    ∙ ap₂ (λ (there again : Bool). or_else (or_else (cond (there && not again) (ArgumentConflict ∷ []) []) []) []) none once

pub flag_walked : (values : Choices) (rows : List Row) (pending : Pending) (s : CommandOption) (after : List Row) → kind_of s ≡ flag → has_row (label s) after ≡ false
    → rows_settled values rows pending ≡ after
    → walked (top values).rules [] (behind rows pending 3) (codes "--" ++ label s) ≡ behind (after ++ row (label s) (codes "true") ∷ []) None 3
flag_walked values rows pending s after is none settled =
    word_walked values rows pending s
    ∙ ap (λ k. step_found (top values).rules (behind rows pending 3) (codes "--" ++ label s) (Some (filled (option_rule (label s) k)))) is
    ∙ flag_used (top values).rules (behind rows pending 3) (codes "--" ++ label s) (label s) after refl none settled

pub flag_faultless : (values : Choices) (rows : List Row) (pending : Pending) (s : CommandOption) (after : List Row) → kind_of s ≡ flag → has_row (label s) after ≡ false
    → rows_settled values rows pending ≡ after → settle_fault (top values).rules false (held rows pending) ≡ []
    → turn_fault (top values) [] (behind rows pending 3) (codes "--" ++ label s) ≡ []
unfolding colregs top
flag_faultless values rows pending s after is none settled settles =
    word_fault_is values rows pending s
    ∙ ap (λ k. turn_found (top values) (behind rows pending 3) (codes "--" ++ label s) (Some (filled (option_rule (label s) k)))) is
    ∙ flag_fault (top values) (behind rows pending 3) (codes "--" ++ label s) (label s) settles refl (ap (has_row (label s)) settled ∙ none)
