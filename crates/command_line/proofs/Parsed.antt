-- What a parse by the command gives: values of the mode, the scenario and the options with a default, and texts that their options take.
use Rattle.std.proofs.Common.{◌≡◌, ◌∙◌, ◌<◌, ◌≤◌, ◌&&◌, ◌||◌, inl, inr, ℕ, Bool, true, false, true≢false, not, is_some, zero, suc, refl, sym, ap, subst, arith, codes, length, List, [], ◌∷◌, map, Some, None, Option}
use Rattle.std.specs.Prelude.{find, option_and_then, option_map, slice_get, unwrap_or}
use Rattle.std.specs.Borrow.{Bor}
use Rattle.std.specs.List.{All, list_all, list_any, slice_index_or}
use Rattle.std.specs.Str.{bytes_eq}
use Rattle.std.specs.Str.Parse.{digits_value, without_leading_plus}
use Rattle.std.proofs.lemmas.Slice.Eq.{bytes_eq-Decides}
use Rattle.clap.specs.Words.{Accepts, App, Rule, Text, app_of, args_of, first_value, found_of, groups_of, has_subcommand, items_of, matched_of, possible_matches, rule_of}
use Rattle.clap.specs.Built.{IsAuto, IsParsedFrom, IsPlain, IsPlainArg, SameRules}
use Rattle.clap.specs.Facts.{Entry, EntryPasses, HasIn, IsGroupEntry, IsParsed, PassesArg, least_values, parser_of, parser_of_value, unwrap_or_range}
use Rattle.clap.specs.Simple.{shape_of}
use Rattle.clap.specs.Walk.{is_empty, is_free_arg, is_simple_arg}
use Rattle.clap.specs.declared.builder.ArgAction.TheVariants.{Count, Set}
use Rattle.clap.specs.declared.builder.arg.Arg.{Arg}
use Rattle.clap.specs.declared.builder.command.Command.{Command}
use Rattle.clap.specs.declared.builder.command.Command.TheViews.{out-Command}
use Rattle.clap.specs.declared.builder.value_parser.ValueParser.{ValueParser}
use Rattle.clap.specs.declared.builder.value_parser.ValueParser.TheVariants.{Unsigned, Values}
use Rattle.clap.specs.declared.parser.matches.ArgMatches.{ArgMatches}
use Rattle.clap.specs.declared.parser.matches.MatchedArg.{MatchedArg}
use Rattle.clap.proofs.CallerLemmas.{default_present, entry_by_id, present_has_entry, required_present, same_rules_by_id}
use Rattle.clap.proofs.SimpleLemmas.{is_false, is_nil, plain_fields}
use Rattle.clap.proofs.WalkLemmas.{both}
use Rattle.command_line.specs.CommandLine.{Kind, CommandOption, a_number, colregs, default_of, flag, kind_of, label, mode_rule, option_rule, scenario_rule, setting_rule, settings}
use Rattle.command_line.specs.CommandLine.{takes_number, takes_text, written}
use Rattle.command_line.specs.GivenArguments.{IsTaken}
use Rattle.command_line.proofs.ByKind.{TakesValue}
use Rattle.command_line.proofs.Settings.{Choices, known, setting_is}

-- ---- what a rule says of its argument

plain_arg : (a : Arg) → is_simple_arg a ≡ true → is_free_arg a ≡ true → IsPlainArg a
plain_arg a simple free =
    let p = both (is_empty a.overrides.items) _ simple in
    let q = both (is_empty a.default_vals_ifs.items) _ p.1 in
    let r = both (is_empty a.groups.items) _ q.1 in
    let s = both (not a.exclusive) _ free in
    let t = both (is_empty a.conflicts.items) _ s.1 in
    (is_false _ s.0, is_nil _ t.0, is_nil _ p.0, is_nil _ r.0)

no_delimiter : (a : Arg) → is_simple_arg a ≡ true → a.val_delim ≡ None
no_delimiter a simple =
    let p = both (is_empty a.overrides.items) _ simple in
    let q = both (is_empty a.default_vals_ifs.items) _ p.1 in
    let r = both (is_empty a.groups.items) _ q.1 in
    let s = both (not (is_some a.val_delim)) _ r.1 in
    none a.val_delim (is_false _ s.0)
  where
    none : {X : Type 0} (o : Option X) → is_some o ≡ false → o ≡ None
    none None e = refl
    none (Some x) e = absurd (true≢false e)

no_condition : (a : Arg) → is_simple_arg a ≡ true → a.default_vals_ifs.items ≡ []
no_condition a simple =
    let p = both (is_empty a.overrides.items) _ simple in
    let q = both (is_empty a.default_vals_ifs.items) _ p.1 in
    is_nil _ q.0

abbrev good : Rule → Bool
good r = r.is_simple && r.is_free

each_plain : (xs : List Arg) → list_all good (map rule_of xs) ≡ true → All IsPlainArg xs
each_plain [] e k d lt = absurd (omega arith)
each_plain (x ∷ xs) e zero d lt =
    let p = both (good (rule_of x)) _ e in
    let q = both (is_simple_arg x) _ p.0 in
    plain_arg x q.0 q.1
each_plain (x ∷ xs) e (suc k) d lt =
    let p = both (good (rule_of x)) (list_all good (map rule_of xs)) e in
    each_plain xs p.1 k d (omega arith)

rule_at : (xs : List Arg) (k : ℕ) (d : Arg) → rule_of (slice_index_or xs k d) ≡ slice_index_or (map rule_of xs) k (rule_of d)
rule_at [] k d = refl
rule_at (x ∷ xs) zero d = refl
rule_at (x ∷ xs) (suc k) d = rule_at xs k d

length_rules : (xs : List Arg) → length (map rule_of xs) ≡ length xs
length_rules [] = refl
length_rules (x ∷ xs) = ap suc (length_rules xs)

-- the ids of the command's arguments
abbrev ids : List Text
ids = codes "mode" ∷ codes "scenario" ∷ map label settings

-- no id stands twice
abbrev are_apart : List Text → Bool
are_apart [] = true
are_apart (id ∷ rest) = not (list_any (λ other. bytes_eq id other) rest) && are_apart rest

any_at : (p : Text → Bool) (xs : List Text) (k : ℕ) → k < length xs → p (slice_index_or xs k []) ≡ true → list_any p xs ≡ true
any_at p [] k lt is = absurd (omega arith)
any_at p (x ∷ xs) zero lt is = ap (λ b. b || list_any p xs) is
any_at p (x ∷ xs) (suc k) lt is = go (p x) (any_at p xs k (omega arith) is)
  where
    go : (t : Bool) → list_any p xs ≡ true → (t || list_any p xs) ≡ true
    go true more = refl
    go false more = more

all_at : (p : Text → Bool) (xs : List Text) (k : ℕ) → list_all p xs ≡ true → k < length xs → p (slice_index_or xs k []) ≡ true
all_at p [] k all lt = absurd (omega arith)
all_at p (x ∷ xs) zero all lt = (both (p x) (list_all p xs) all).0
all_at p (x ∷ xs) (suc k) all lt = all_at p xs k (both (p x) (list_all p xs) all).1 (omega arith)

-- so an id that stands at one place stands at no other
one_place : (xs : List Text) → are_apart xs ≡ true → (j k : ℕ) → j < length xs → k < length xs → bytes_eq (slice_index_or xs j []) (slice_index_or xs k []) ≡ true → j ≡ k
one_place [] e j k below under same = absurd (omega arith)
one_place (x ∷ xs) e zero zero below under same = refl
one_place (x ∷ xs) e zero (suc k) below under same =
    let p = both (not (list_any (λ other. bytes_eq x other) xs)) (are_apart xs) e in
    let twice = any_at (λ other. bytes_eq x other) xs k (omega arith) same in
    absurd (true≢false (sym twice ∙ is_false _ p.0))
one_place (x ∷ xs) e (suc j) zero below under same =
    let p = both (not (list_any (λ other. bytes_eq x other) xs)) (are_apart xs) e in
    let equal : slice_index_or xs j [] ≡ x = (bytes_eq-Decides (slice_index_or xs j []) x).0 same in
    let turned : bytes_eq x (slice_index_or xs j []) ≡ true = (bytes_eq-Decides x (slice_index_or xs j [])).1 (sym equal) in
    let twice = any_at (λ other. bytes_eq x other) xs j (omega arith) turned in
    absurd (true≢false (sym twice ∙ is_false _ p.0))
one_place (x ∷ xs) e (suc j) (suc k) below under same =
    let p = both (not (list_any (λ other. bytes_eq x other) xs)) (are_apart xs) e in
    ap suc (one_place xs p.1 j k (omega arith) (omega arith) same)

-- an id of the command's own is not empty, and no flag's that `clap` adds
abbrev is_own : Text → Bool
is_own id = not (bytes_eq id []) && (not (bytes_eq id (codes "help")) && not (bytes_eq id (codes "version")))

id_at : (rs : List Rule) (k : ℕ) (d : Rule) → k < length rs → (slice_index_or rs k d).id ≡ slice_index_or (map (λ (r : Rule). r.id) rs) k []
id_at [] k d lt = absurd (omega arith)
id_at (r ∷ rs) zero d lt = refl
id_at (r ∷ rs) (suc k) d lt = id_at rs k d (omega arith)

-- ---- the place of an option

option_id : (name : Text) (k : Kind) → (option_rule name k).id ≡ name
option_id name (takes_number low high default) = refl
option_id name flag = refl
option_id name (takes_text default) = refl

abbrev IsAt : CommandOption → List CommandOption → ℕ → Type 0
IsAt s ss k = (k < length ss) × (slice_index_or (map label ss) k [] ≡ label s) × ((d : Rule) → slice_index_or (map setting_rule ss) k d ≡ setting_rule s)

place_in : (s : CommandOption) (ss : List CommandOption) → list_any (λ x. bytes_eq (label x) (label s)) ss ≡ true → (k : ℕ) × IsAt s ss k
place_in s [] listed = cc
place_in s (x ∷ ss) listed = go (bytes_eq (label x) (label s)) refl listed (place_in s ss)
  where
    go : (t : Bool) → bytes_eq (label x) (label s) ≡ t → (t || list_any (λ y. bytes_eq (label y) (label s)) ss) ≡ true
        → (list_any (λ y. bytes_eq (label y) (label s)) ss ≡ true → (k : ℕ) × IsAt s ss k) → (k : ℕ) × IsAt s (x ∷ ss) k
    go true e listed more = let same = setting_is x s e in (0, (omega arith, ap label same, λ d. ap setting_rule same))
    go false e listed more = let at = more listed in (suc at.0, (omega (arith, at.1.0), at.1.1, at.1.2))

-- an entry of an id is found
entry_found : (xs : List Entry) (id : Text) → HasIn xs id → is_some (option_map (λ (e : Entry). e.1) (find (λ e. bytes_eq e.0.now id) xs)) ≡ true
entry_found [] id (i, lt, at) = absurd (omega arith)
entry_found (x ∷ xs) id (i, lt, at) = go (bytes_eq x.0.now id) refl i lt at (λ j below there. entry_found xs id (j, below, there))
  where
    go : (t : Bool) → bytes_eq x.0.now id ≡ t → (i : ℕ) → i < length (x ∷ xs) → ((d : Entry) → bytes_eq (slice_index_or (x ∷ xs) i d).0.now id ≡ true)
        → ((j : ℕ) → j < length xs → ((d : Entry) → bytes_eq (slice_index_or xs j d).0.now id ≡ true)
        → is_some (option_map (λ (e : Entry). e.1) (find (λ e. bytes_eq e.0.now id) xs)) ≡ true)
        → is_some (option_map (λ (e : Entry). e.1) (find (λ e. bytes_eq e.0.now id) (x ∷ xs))) ≡ true
    go true e i lt at more = rw e refl
    go false e zero lt at more = let bad : false ≡ true = sym e ∙ at x in cc
    go false e (suc j) lt at more = rw e (more j (omega arith) at)

passed_first : (P : Text → Type 0) (text : Text) (xs : List (Bor Text)) → All (λ v. P v.now) xs → option_map (λ s. s.now) (slice_get xs 0) ≡ Some text → P text
passed_first P text [] all is = cc
passed_first P text (x ∷ xs) all is =
    let same : x.now ≡ text = ap (λ o. unwrap_or o text) is in
    subst P same (all 0 x (omega arith))

matched_first : (o : Option MatchedArg) (P : Text → Type 0) (text : Text) → ((x : MatchedArg) → o ≡ Some x → All (λ v. P v.now) x.vals.items)
    → option_and_then (λ (a : MatchedArg). option_map (λ s. s.now) (slice_get a.vals.items 0)) o ≡ Some text → P text
matched_first None P text all is = cc
matched_first (Some x) P text all is = passed_first P text x.vals.items (all x refl) is

apart : (a b : Text) → bytes_eq a b ≡ false → a ≡ b → ⊥
apart a b differ same = true≢false (sym ((bytes_eq-Decides a b).1 same) ∙ differ)

some_text : (xs : List (Bor Text)) (t : Text) (ts : List Text) → map (λ s. s.now) xs ≡ t ∷ ts → 0 < length xs
some_text [] t ts is = cc
some_text (x ∷ xs) t ts is = omega arith

first_argument : (xs : List Arg) → 0 < length xs → Arg
first_argument [] lt = absurd (omega arith)
first_argument (x ∷ xs) lt = x

module _ (c : Command) (m : ArgMatches) (p : IsParsedFrom c m) (values : Choices) (app_is : app_of c ≡ colregs values) where
  rules_are : map rule_of (args_of c) ≡ (colregs values).top.rules
  rules_are = ap (λ (a : App). a.top.rules) app_is

  is_plain_shape : (shape_of c).is_plain ≡ true
  unfolding colregs
  is_plain_shape = ap (λ (a : App). a.top.is_plain) app_is

  negates_none : (out-Command c).subcommand_negates_reqs ≡ false
  unfolding colregs
  negates_none = ap (λ (a : App). a.top.subcommand_negates_reqs) app_is

  local_command : (out-Command c).has_globals ≡ false
  local_command = (plain_fields c is_plain_shape).globals

  plain_command : IsPlain c
  unfolding colregs
  plain_command = (each_plain (args_of c) (ap (list_all good) rules_are), (plain_fields c is_plain_shape).groups)

  arguments_are : length (args_of c) ≡ length ids
  unfolding colregs
  arguments_are = sym (length_rules (args_of c)) ∙ ap length rules_are

  abbrev rules : List Rule
  rules = (colregs values).top.rules

  rule_ids : map (λ (r : Rule). r.id) rules ≡ ids
  unfolding colregs
  rule_ids = refl

  rule_count : length rules ≡ length ids
  unfolding colregs
  rule_count = refl

  pub ids_are : (k : ℕ) (d : Arg) → k < length ids → (slice_index_or (args_of c) k d).id.now ≡ slice_index_or ids k []
  ids_are k d lt =
      ap (λ (r : Rule). r.id) (rule_at (args_of c) k d ∙ ap (λ rs. slice_index_or rs k (rule_of d)) rules_are)
      ∙ id_at rules k (rule_of d) (subst (λ n. k < n) (sym rule_count) lt) ∙ ap (λ xs. slice_index_or xs k []) rule_ids

  abbrev argument : ℕ → Arg → Arg
  argument k d = slice_index_or (args_of c) k d

  -- a place of one of the command's own arguments
  abbrev IsOwn : ℕ → Type 0
  IsOwn k = k < length ids

  named : (k : ℕ) → IsOwn k → (slice_index_or ids k [] ≡ [] → ⊥) × (slice_index_or ids k [] ≡ codes "help" → ⊥) × (slice_index_or ids k [] ≡ codes "version" → ⊥)
  named k own =
      let id = slice_index_or ids k [] in
      let p = both (not (bytes_eq id [])) _ (all_at is_own ids k refl own) in
      let q = both (not (bytes_eq id (codes "help"))) _ p.1 in
      (apart id [] (is_false _ p.0), apart id (codes "help") (is_false _ q.0), apart id (codes "version") (is_false _ q.1))

  unique : (k : ℕ) (d : Arg) → IsOwn k → (j : ℕ) (e : Arg) → j < length (args_of c) → bytes_eq (argument j e).id.now (argument k d).id.now ≡ true → j ≡ k
  unique k d own j e lt same =
      let below : j < length ids = subst (λ n. j < n) arguments_are lt in
      one_place ids refl j k below own (rw (ids_are j e below, ids_are k d own) at same)

  no_flag : (k : ℕ) (d : Arg) → IsOwn k → IsAuto (argument k d) → ⊥
  no_flag k d own (inl help) = (named k own).1 (sym (ids_are k d own) ∙ help)
  no_flag k d own (inr version) = (named k own).2 (sym (ids_are k d own) ∙ version)

  inside : (k : ℕ) → IsOwn k → k < length (args_of c)
  inside k own = subst (λ n. k < n) (sym arguments_are) own

  first_some : (xs : List (Bor Text)) → 0 < length xs → is_some (option_map (λ s. s.now) (slice_get xs 0)) ≡ true
  first_some [] lt = absurd (omega arith)
  first_some (x ∷ xs) lt = refl

  -- an argument that takes a value, and has an entry, has a value
  filled : (k : ℕ) (d : Arg) → IsOwn k → (argument k d).action ≡ Some Set → (argument k d).val_delim ≡ None → 1 ≤ least_values (argument k d)
      → is_some (matched_of (found_of m) (argument k d).id.now) ≡ true → is_some (first_value (found_of m) (argument k d).id.now) ≡ true
  filled k d own set delim least some = go (matched_of (found_of m) (argument k d).id.now) refl some (p.parsed (p.from.globals ∙ local_command))
    where
      go : (o : Option MatchedArg) → matched_of (found_of m) (argument k d).id.now ≡ o → is_some (matched_of (found_of m) (argument k d).id.now) ≡ true
          → IsParsed p.built (found_of m) (has_subcommand m) → is_some (first_value (found_of m) (argument k d).id.now) ≡ true
      go None e some parsed = cc
      go (Some x) e some parsed =
          let got = entry_by_id (EntryPasses p.built) (found_of m).entries.items (argument k d).id.now x parsed.values e in
          let same_x : got.0.1 ≡ x = got.1 in
          let key_id : got.0.0.now ≡ (argument k d).id.now = (bytes_eq-Decides got.0.0.now (argument k d).id.now).0 got.2 in
          let no_groups : groups_of p.built ≡ [] = (p.from.plain plain_command).1 in
          elim got.3.1 [
            | inl h ↦ elim h.1 [
              | inl empty ↦ absurd ((named k own).0 (sym (ids_are k d own) ∙ (sym key_id ∙ empty)))
              | inr has ↦
                  let bad : 0 < 0 = rw no_groups at has in
                  absurd (omega arith)
            ]
            | inr (inl v) ↦ rw e (first_some x.vals.items (rw same_x at v))
            | inr (inr (inl h)) ↦
                let any = h.1 in
                let s = same_rules_by_id c m p k d (inside k own) (unique k d own) (no_flag k d own) any.0 any.1 any.2 any.3 (rw key_id at any.4.0) in
                let is_set : any.1.action ≡ Some Set = s.action Set set in
                let bad : Set ≡ Count = rw is_set at any.4.1 in
                cc
            | inr (inr (inr h)) ↦
                let s = same_rules_by_id c m p k d (inside k own) (unique k d own) (no_flag k d own) h.0 h.1 h.2 h.3 (rw key_id at h.4.0) in
                elim h.4.1 [
                  | inl none ↦
                      let one = s.least set least in
                      absurd (omega arith)
                  | inr has ↦
                      let bad : false ≡ true = rw (s.val_delim, delim) at has in
                      cc
                ]
          ]

  -- an entry of the argument is no group's
  no_group : (k : ℕ) (d : Arg) → IsOwn k → (e : Entry) → e.0.now ≡ (argument k d).id.now → IsGroupEntry p.built e → e.1.is_group ≡ true → ⊥
  no_group k d own e key group is = elim (group is) [
    | inl empty ↦ (named k own).0 (sym (ids_are k d own) ∙ (sym key ∙ empty))
    | inr has ↦
        let none : groups_of p.built ≡ [] = (p.from.plain plain_command).1 in
        let bad : 0 < 0 = rw none at has in
        omega arith
  ]

  entry_passed : (k : ℕ) (d : Arg) → IsOwn k → (e : Entry) (x : MatchedArg) → e.1 ≡ x → e.0.now ≡ (argument k d).id.now → EntryPasses p.built e
      → All (λ v. PassesArg p.built (argument k d).id.now v.now) x.vals.items
  entry_passed k d own e x same key passes = elim passes.0 [
    | inl group ↦ absurd (no_group k d own e key passes.3 group)
    | inr all ↦ subst (λ (w : Text). All (λ v. PassesArg p.built w v.now) x.vals.items) key (rw same at all)
  ]

  matched_passed : (k : ℕ) (d : Arg) → IsOwn k → (x : MatchedArg) → matched_of (found_of m) (argument k d).id.now ≡ Some x
      → All (λ v. PassesArg p.built (argument k d).id.now v.now) x.vals.items
  matched_passed k d own x e =
      let parsed = p.parsed (p.from.globals ∙ local_command) in
      let got = entry_by_id (EntryPasses p.built) (found_of m).entries.items (argument k d).id.now x parsed.values e in
      entry_passed k d own got.0 x got.1 ((bytes_eq-Decides got.0.0.now (argument k d).id.now).0 got.2) got.3

  text_passed : (k : ℕ) (d : Arg) → IsOwn k → (text : Text) → first_value (found_of m) (argument k d).id.now ≡ Some text → PassesArg p.built (argument k d).id.now text
  text_passed k d own text first =
      matched_first (matched_of (found_of m) (argument k d).id.now) (λ t. PassesArg p.built (argument k d).id.now t) text (matched_passed k d own) first

  accepted_as : (a x : Arg) (q : ValueParser) (text : Text) → a.value_parser ≡ Some q → SameRules a x → Accepts x.ignore_case (parser_of x) text → Accepts a.ignore_case q text
  accepted_as a x q text parser s passed =
      let is_q : parser_of x ≡ q = ap parser_of_value (s.parser q parser) in
      subst (λ (b : Bool). Accepts b q text) s.ignore_case (subst (λ (w : ValueParser). Accepts x.ignore_case w text) is_q passed)

  -- the first value of an argument passed its parser
  value_passed : (k : ℕ) (d : Arg) → IsOwn k → (q : ValueParser) → (argument k d).value_parser ≡ Some q → (text : Text)
      → first_value (found_of m) (argument k d).id.now ≡ Some text → Accepts (argument k d).ignore_case q text
  value_passed k d own q parser text first =
      let passed = text_passed k d own text first in
      accepted_as (argument k d) passed.1 q text parser
      (same_rules_by_id c m p k d (inside k own) (unique k d own) (no_flag k d own) passed.0 passed.1 passed.2 passed.3 passed.4.0) passed.4.1

  -- ---- the mode, the scenario and the options

  set_at : (k : ℕ) (d : Arg) (rule : Rule) → rule_of (argument k d) ≡ rule → rule.action ≡ Some Set → (argument k d).action ≡ Some Set
  set_at k d rule is set = ap (λ (r : Rule). r.action) is ∙ set

  least_at : (k : ℕ) (d : Arg) (rule : Rule) → rule_of (argument k d) ≡ rule → rule.range ≡ None → 1 ≤ least_values (argument k d)
  least_at k d rule is none =
      let range : (argument k d).num_vals ≡ None = ap (λ (r : Rule). r.range) is ∙ none in
      subst (λ o. 1 ≤ (unwrap_or_range o).start_inclusive) (sym range) (omega arith)

  delimiter_at : (k : ℕ) (d : Arg) (rule : Rule) → rule_of (argument k d) ≡ rule → rule.is_simple ≡ true → (argument k d).val_delim ≡ None
  delimiter_at k d rule is simple = no_delimiter (argument k d) (ap (λ (r : Rule). r.is_simple) is ∙ simple)

  rule_is : (k : ℕ) (d : Arg) → rule_of (argument k d) ≡ slice_index_or (colregs values).top.rules k (rule_of d)
  rule_is k d = rule_at (args_of c) k d ∙ ap (λ rs. slice_index_or rs k (rule_of d)) rules_are

  own_mode : IsOwn 0
  own_mode = omega arith

  own_scenario : IsOwn 1
  own_scenario = omega arith

  required_filled : (k : ℕ) (d : Arg) (rule : Rule) → IsOwn k → rule_of (argument k d) ≡ rule → rule.required ≡ true → rule.action ≡ Some Set → rule.range ≡ None → rule.is_simple ≡ true
      → is_some (first_value (found_of m) (slice_index_or ids k [])) ≡ true
  required_filled k d rule own is required set range simple =
      let there = required_present c m p plain_command local_command negates_none k d (inside k own) (ap (λ (r : Rule). r.required) is ∙ required) in
      let some = filled k d own (set_at k d rule is set) (delimiter_at k d rule is simple) (least_at k d rule is range) (present_has_entry (found_of m) (argument k d).id.now there) in
      subst (λ (id : Text). is_some (first_value (found_of m) id) ≡ true) (ids_are k d own) some

  any_argument : Arg
  any_argument = first_argument (args_of c) (inside 0 own_mode)

  pub mode_filled : is_some (first_value (found_of m) (codes "mode")) ≡ true
  unfolding colregs
  mode_filled = required_filled 0 any_argument (mode_rule values) own_mode (rule_is 0 any_argument) refl refl refl refl

  pub scenario_filled : is_some (first_value (found_of m) (codes "scenario")) ≡ true
  unfolding colregs
  scenario_filled = required_filled 1 any_argument scenario_rule own_scenario (rule_is 1 any_argument) refl refl refl refl

  default_filled : (k : ℕ) (d : Arg) (rule : Rule) (t : Text) (ts : List Text) → IsOwn k → rule_of (argument k d) ≡ rule → rule.defaults ≡ t ∷ ts → rule.action ≡ Some Set → rule.range ≡ None → rule.is_simple ≡ true
      → is_some (first_value (found_of m) (slice_index_or ids k [])) ≡ true
  default_filled k d rule t ts own is default set range simple =
      let wants = some_text (items_of (argument k d).default_vals) t ts (ap (λ (r : Rule). r.defaults) is ∙ default) in
      let bare = no_condition (argument k d) (ap (λ (r : Rule). r.is_simple) is ∙ simple) in
      let there = default_present c m p local_command k d (inside k own) (bare, wants) in
      let some = filled k d own (set_at k d rule is set) (delimiter_at k d rule is simple) (least_at k d rule is range)
      (entry_found (found_of m).entries.items (argument k d).id.now there) in
      subst (λ (id : Text). is_some (first_value (found_of m) id) ≡ true) (ids_are k d own) some

  -- the place of an option among the arguments
  abbrev place : CommandOption → ℕ
  place s = suc (suc (place_in s settings (known values s).listed).0)

  own_setting : (s : CommandOption) → IsOwn (place s)
  own_setting s = let at = (place_in s settings (known values s).listed).1 in omega (arith, at.0)

  setting_id : (s : CommandOption) → slice_index_or ids (place s) [] ≡ label s
  setting_id s = (place_in s settings (known values s).listed).1.1

  setting_at : (s : CommandOption) (d : Arg) → rule_of (argument (place s) d) ≡ setting_rule s
  unfolding colregs
  setting_at s d = rule_is (place s) d ∙ (place_in s settings (known values s).listed).1.2 (rule_of d)

  option_filled : (at : ℕ) (d : Arg) (name : Text) (k : Kind) → IsOwn at → rule_of (argument at d) ≡ option_rule name k → TakesValue k → is_some (default_of k) ≡ true
      → is_some (first_value (found_of m) (slice_index_or ids at [])) ≡ true
  option_filled at d name (takes_number low high None) own is takes some = cc
  option_filled at d name (takes_number low high (Some n)) own is takes some = default_filled at d _ (written (a_number n)) [] own is refl refl refl refl
  option_filled at d name flag own is takes some = absurd takes
  option_filled at d name (takes_text None) own is takes some = cc
  option_filled at d name (takes_text (Some text)) own is takes some = default_filled at d _ text [] own is refl refl refl refl

  -- an option with a default and a value has a text
  pub setting_filled : (s : CommandOption) → TakesValue (kind_of s) → is_some (default_of (kind_of s)) ≡ true → is_some (first_value (found_of m) (label s)) ≡ true
  setting_filled s takes some =
      subst (λ (id : Text). is_some (first_value (found_of m) id) ≡ true) (setting_id s)
      (option_filled (place s) any_argument (label s) (kind_of s) (own_setting s) (setting_at s any_argument) takes some)

  -- the text of the mode is a value of the argument
  pub mode_passed : (text : Text) → first_value (found_of m) (codes "mode") ≡ Some text → list_any (possible_matches false text) values.now ≡ true
  unfolding colregs
  mode_passed text first =
      let is = rule_is 0 any_argument in
      let parser = ap (λ (r : Rule). r.parser) is in
      let case : (argument 0 any_argument).ignore_case ≡ false = ap (λ (r : Rule). r.ignore_case) is in
      let found = subst (λ (id : Text). first_value (found_of m) id ≡ Some text) (sym (ids_are 0 any_argument own_mode)) first in
      subst (λ (b : Bool). Accepts b (Values values) text) case (value_passed 0 any_argument own_mode (Values values) parser text found)

  taken_at : (at : ℕ) (d : Arg) (name : Text) (k : Kind) → IsOwn at → rule_of (argument at d) ≡ option_rule name k
      → (text : Text) → first_value (found_of m) (slice_index_or ids at []) ≡ Some text → IsTaken k text
  taken_at at d name (takes_number low high default) own is text first =
      let found = subst (λ (id : Text). first_value (found_of m) id ≡ Some text) (sym (ids_are at d own)) first in
      let passed = value_passed at d own (Unsigned low high) (ap (λ (r : Rule). r.parser) is) text found in
      (digits_value 10 (without_leading_plus text), passed.2, passed.3, (passed.0, refl))
  taken_at at d name flag own is text first = tt
  taken_at at d name (takes_text default) own is text first = tt

  -- an option takes its text
  pub setting_taken : (s : CommandOption) (text : Text) → first_value (found_of m) (label s) ≡ Some text → IsTaken (kind_of s) text
  setting_taken s text first =
      taken_at (place s) any_argument (label s) (kind_of s) (own_setting s) (setting_at s any_argument) text
      (subst (λ (id : Text). first_value (found_of m) id ≡ Some text) (sym (setting_id s)) first)
