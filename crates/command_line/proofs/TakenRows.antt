-- After a walk that meets no fault, each row has a value that its argument takes. This stands for every command whose arguments are usual ones.
use Rattle.std.proofs.Common.{◌≡◌, ◌∙◌, ◌&&◌, ◌⊎◌, inl, inr, ℕ, Bool, true, false, not, zero, suc, cond, nat_lt, refl, sym, ap, subst, drop, length, List, [], ◌∷◌, ◌++◌, Option, Some, None, find, encode_utf8, slice_get, chars}
use Rattle.std.specs.Prelude.{IfSome, is_some}
use Rattle.std.specs.List.{fold}
use Rattle.std.specs.Option.{option_map_or}
use Rattle.std.specs.Str.{bytes_eq}
use Rattle.std.proofs.lemmas.Slice.Eq.{bytes_eq-Decides}
use Rattle.clap.specs.Lexer.{long_of, short_of}
use Rattle.clap.specs.Words.{Row, Rule, Shape, Text}
use Rattle.clap.specs.Facts.{parser_of_value, unwrap_or_range}
use Rattle.clap.specs.Values.{refused_kind}
use Rattle.clap.specs.ValueTests.{accepts}
use Rattle.clap.specs.Kinds.{Kinds, or_else, range_kinds}
use Rattle.clap.specs.Faults.{action_fault, bundle_fault, bundle_step_fault, flag_word_fault, flags_fault, long_fault, option_fault, other_fault, positional_fault, react_fault, set_fault, settle_fault, short_fault, step_fault, stray_fault, turn_fault, use_fault, values_fault, walk_fault, word_fault}
use Rattle.clap.specs.Walk.{Held, Names, Outcome, Step, Waiting, Walk, action_of, after_flag, after_step, arg_by_id, arg_by_index, arg_by_long, arg_by_short, attached_value, bundle_met, bundle_step, done, flag_met, has_row, idle, is_pending, long_met, long_or_other, most_values, next, option, option_met, option_word, plain, plain_word, positional, reacted, reading_by, refused, settled, settled_rows, short_met, short_or_plain, subcommand, subcommand_met, subcommand_or_other, takes_several, takes_values, to_positional, trailing, used, used_as, used_by_id, value, values_or_missing, waits, walked, walked_from, with_values, without, word_met}
use Rattle.clap.specs.declared.builder.action.ArgAction.{ArgAction}
use Rattle.clap.specs.declared.builder.action.ArgAction.TheVariants.{Help, Set, SetTrue, Version}
use Rattle.clap.specs.declared.builder.value_parser.Reading.{Reading}
use Rattle.clap.specs.declared.error.kind.ErrorKind.TheVariants.{ArgumentConflict, InvalidValue, TooManyValues}
use Rattle.clap.specs.declared.parser.matches.ValueSource.TheVariants.{CommandLine}
use Rattle.command_line.proofs.Walking.{set_missing, value_row}

-- ---- two steps without a fault

pub both_none : (a b : Kinds) → or_else a b ≡ [] → (a ≡ []) × (b ≡ [])
both_none [] b e = (refl, e)
both_none (k ∷ ks) b e = cc

-- ---- values

abbrev has_first : List Text → Bool
has_first [] = false
has_first (v ∷ vs) = true

-- where a value is wanted, a use without a fault has one
some_first : (least most : ℕ) (values : List Text) → nat_lt 0 least ≡ true → range_kinds least most (length values) ≡ [] → has_first values ≡ true
some_first least most [] some e = let bad : cond true (InvalidValue ∷ []) [] ≡ [] = rw some at e in cc
some_first least most (v ∷ vs) some e = refl

given_first : (a : Rule) (values : List Text) → has_first values ≡ true → has_first (values_or_missing a values) ≡ true
given_first a [] some = cc
given_first a (v ∷ vs) some = refl

missing_first : (a : Rule) (values : List Text) → has_first a.missing ≡ true → has_first (values_or_missing a values) ≡ true
missing_first a [] some = some
missing_first a (v ∷ vs) some = refl

-- the row has a value, and the argument takes the first
pub record IsTakenBy (a : Rule) (r : Row) : Type 0 where
  pub text : Text
  pub first : slice_get r.values 0 ≡ Some text
  pub taken : accepts a.ignore_case (parser_of_value a.parser) text ≡ true

row_taken : (a : Rule) (id : Text) (how : Reading) (values : List Text) → has_first values ≡ true → values_fault a values ≡ [] → IsTakenBy a (value_row id how values)
row_taken a id how [] some e = cc
row_taken a id how (v ∷ vs) some e =
    record { text = v; first = refl; taken = go (accepts a.ignore_case (parser_of_value a.parser) v) (both_none _ _ e).0 }
  where
    go : (t : Bool) → cond t [] (refused_kind (parser_of_value a.parser) ∷ []) ≡ [] → t ≡ true
    go true e = refl
    go false e = cc

-- ---- rows

found_behind : (id : Text) (rows : List Row) (last r : Row) → find (λ (x : Row). bytes_eq x.id id) (rows ++ last ∷ []) ≡ Some r
    → (find (λ (x : Row). bytes_eq x.id id) rows ≡ Some r) ⊎ ((bytes_eq last.id id ≡ true) × (last ≡ r))
found_behind id [] last r found = go (bytes_eq last.id id) refl found
  where
    go : (t : Bool) → bytes_eq last.id id ≡ t → cond t (Some last) None ≡ Some r → (find (λ (x : Row). bytes_eq x.id id) [] ≡ Some r) ⊎ ((bytes_eq last.id id ≡ true) × (last ≡ r))
    go true same is = inr (same, cc)
    go false same is = cc
found_behind id (x ∷ rows) last r found = go (bytes_eq x.id id) found (found_behind id rows last r)
  where
    go : (t : Bool) → cond t (Some x) (find (λ (y : Row). bytes_eq y.id id) (rows ++ last ∷ [])) ≡ Some r
        → (find (λ (y : Row). bytes_eq y.id id) (rows ++ last ∷ []) ≡ Some r → (find (λ (y : Row). bytes_eq y.id id) rows ≡ Some r) ⊎ ((bytes_eq last.id id ≡ true) × (last ≡ r)))
        → (cond t (Some x) (find (λ (y : Row). bytes_eq y.id id) rows) ≡ Some r) ⊎ ((bytes_eq last.id id ≡ true) × (last ≡ r))
    go true is more = inl is
    go false is more = more is

-- each row of an argument has a value that the argument takes
abbrev pub AreTaken : List Rule → List Row → Type 0
AreTaken c rows = (id : Text) (a : Rule) (r : Row) → arg_by_id c id ≡ Some a → find (λ (x : Row). bytes_eq x.id id) rows ≡ Some r → IsTakenBy a r

one_more : (c : List Rule) (a : Rule) (last : Row) (rows : List Row) → arg_by_id c last.id ≡ Some a → IsTakenBy a last → AreTaken c rows → AreTaken c (rows ++ last ∷ [])
one_more c a last rows itself taken are id b r named found = elim (found_behind id rows last r found) [
  | inl there ↦ are id b r named there
  | inr here ↦
      let same : last.id ≡ id = (bytes_eq-Decides last.id id).0 here.0 in
      let twice : Some a ≡ Some b = sym itself ∙ ap (arg_by_id c) same ∙ named in
      let one : a ≡ b = cc twice in
      subst (λ x. IsTakenBy x r) one (subst (IsTakenBy a) here.1 taken)
]

-- ---- usual arguments

-- a use of the argument has a value, or asks for a text about the program
abbrev has_value : ArgAction → Rule → Bool
has_value Set a = nat_lt 0 (unwrap_or_range a.range).start_inclusive
has_value SetTrue a = has_first a.missing
has_value Help a = true
has_value Version a = true
has_value _ a = false

-- and no other argument has its id
pub record IsUsual (c : List Rule) (a : Rule) : Type 0 where
  pub valued : has_value (action_of a) a ≡ true
  pub itself : arg_by_id c a.id ≡ Some a

abbrev pub AreUsual : List Rule → List Rule → Type 0
AreUsual c [] = Unit {0}
AreUsual c (a ∷ rest) = IsUsual c a × AreUsual c rest

usual_found : (c rules : List Rule) (p : Rule → Bool) → AreUsual c rules → IfSome (find p rules) (IsUsual c)
usual_found c [] p are = tt
usual_found c (a ∷ rest) p are = go (p a) (usual_found c rest p are.1)
  where
    go : (t : Bool) → IfSome (find p rest) (IsUsual c) → IfSome (cond t (Some a) (find p rest)) (IsUsual c)
    go true more = are.0
    go false more = more

-- ---- the walk, of a command at which no use replaces an earlier one

module _ (s : Shape) (names : Names) (once : s.args_override_self ≡ false) (usual : AreUsual s.rules s.rules) where
  abbrev c : List Rule
  c = s.rules

  abbrev again : Bool
  again = s.args_override_self

  set_taken : (a : Rule) (how : Reading) (values : List Text) (rows : List Row) → IsUsual c a → has_first values ≡ true → set_fault again a values rows ≡ []
      → AreTaken c rows → AreTaken c (with_values a.id how CommandLine values (without a.id rows))
  set_taken a how values rows is some e are =
      let parts = both_none _ _ e in
      let new : has_row a.id rows ≡ false = go (has_row a.id rows) again once parts.0 in
      subst (AreTaken c) (sym (set_missing a.id how values rows new))
      (one_more c a (value_row a.id how values) rows is.itself (row_taken a a.id how values some parts.1) are)
    where
      go : (t b : Bool) → b ≡ false → cond (t && not b) (ArgumentConflict ∷ []) [] ≡ [] → t ≡ false
      go false b off e = refl
      go true false off e = cc
      go true true off e = cc

  used_taken : (a : Rule) (values : List Text) (rows : List Row) → IsUsual c a → use_fault again a values rows ≡ [] → AreTaken c rows → AreTaken c (used a values rows)
  used_taken a values rows is e are = by (action_of a) is.valued (both_none _ _ e).1
    where
      by : (x : ArgAction) → has_value x a ≡ true → action_fault x again a (values_or_missing a values) rows ≡ [] → AreTaken c (used_as x a.id (reading_by a) (values_or_missing a values) rows)
      by Set some e' =
          let first = some_first (unwrap_or_range a.range).start_inclusive (most_values a) values some (both_none _ _ e).0 in
          set_taken a (reading_by a) (values_or_missing a values) rows is (given_first a values first) e' are
      by SetTrue some e' = set_taken a (reading_by a) (values_or_missing a values) rows is (missing_first a values some) e' are
      by Help some e' = cc
      by Version some e' = cc
      by _ some e' = cc

  rule_taken : (found : Option Rule) (values : List Text) (rows : List Row) → IfSome found (IsUsual c) → option_map_or (λ a. use_fault again a values rows) found [] ≡ []
      → AreTaken c rows → AreTaken c (used_by_id found values rows)
  rule_taken None values rows is e are = are
  rule_taken (Some a) values rows is e are = used_taken a values rows is e are

  pending_taken : (p : Option (Text × List Text)) (rows : List Row) → option_map_or (λ q. option_map_or (λ a. use_fault again a q.1 rows) (arg_by_id c q.0) []) p [] ≡ []
      → AreTaken c rows → AreTaken c (settled_rows c p rows)
  pending_taken None rows e are = are
  pending_taken (Some p) rows e are = rule_taken (arg_by_id c p.0) p.1 rows (usual_found c c (λ a. bytes_eq a.id p.0) usual) e are

  pub settled_taken : (h : Held) → settle_fault c again h ≡ [] → AreTaken c h.rows → AreTaken c (settled c h).rows
  settled_taken h e are = pending_taken h.pending h.rows e are

  reacted_taken : (a : Rule) (values : List Text) (h : Held) → IsUsual c a → react_fault c again a values h ≡ [] → AreTaken c h.rows → AreTaken c (reacted c a values h).rows
  reacted_taken a values h is e are =
      let parts = both_none _ _ e in
      used_taken a values (settled c h).rows is parts.1 (settled_taken h parts.0 are)

  option_taken : (a : Rule) (given : Option Text) (h : Held) → IsUsual c a → option_fault c again a given h ≡ [] → AreTaken c h.rows → AreTaken c (option_met c a given h).0.rows
  option_taken a (Some text) h is e are = reacted_taken a (text ∷ []) h is e are
  option_taken a None h is e are = settled_taken h e are

  flag_taken : (a : Rule) (given : Option Text) (h : Held) → IsUsual c a → cond (is_some given) (TooManyValues ∷ []) (react_fault c again a [] h) ≡ []
      → AreTaken c h.rows → AreTaken c (flag_met c a given h).0.rows
  flag_taken a (Some text) h is e are = are
  flag_taken a None h is e are = reacted_taken a [] h is e are

  long_taken : (found : Option Rule) (given : Option Text) (h : Held) → IfSome found (IsUsual c) → long_fault c again found given h ≡ [] → AreTaken c h.rows → AreTaken c (long_met c found given h).0.rows
  long_taken None given h is e are = are
  long_taken (Some a) given h is e are = go (takes_values a) e
    where
      go : (t : Bool) → cond t (option_fault c again a given h) (cond (is_some given) (TooManyValues ∷ []) (react_fault c again a [] h)) ≡ []
          → AreTaken c (cond t (option_met c a given h) (flag_met c a given h)).0.rows
      go true e = option_taken a given h is e are
      go false e = flag_taken a given h is e are

  short_taken : (found : Option Rule) (rest : Text) (h : Held) (f : Held → Held × Outcome) (g : Held → Kinds) → IfSome found (IsUsual c)
      → ((x : Held) → g x ≡ [] → AreTaken c x.rows → AreTaken c (f x).0.rows) → short_fault c again found rest h g ≡ [] → AreTaken c h.rows → AreTaken c (short_met c found rest h f).0.rows
  short_taken None rest h f g is more e are = are
  short_taken (Some a) rest h f g is more e are = go (takes_values a) e
    where
      go : (t : Bool) → cond t (option_fault c again a (attached_value rest) h) (or_else (react_fault c again a [] h) (g (reacted c a [] h))) ≡ []
          → AreTaken c (cond t (option_met c a (attached_value rest) h) (f (reacted c a [] h))).0.rows
      go true e = option_taken a (attached_value rest) h is e are
      go false e = let parts = both_none _ _ e in more (reacted c a [] h) parts.1 (reacted_taken a [] h is parts.0 are)

  step_taken : (o : Option ℕ) (flags : Text) (skip : ℕ) (so_far : Outcome) (h : Held) (f : Text → ℕ → Outcome → Held → Held × Outcome) (g : Text → ℕ → Held → Kinds)
      → ((t : Text) (n : ℕ) (x : Outcome) (y : Held) → g t n y ≡ [] → AreTaken c y.rows → AreTaken c (f t n x y).0.rows)
      → bundle_step_fault c again o flags skip h g ≡ [] → AreTaken c h.rows → AreTaken c (bundle_step c o flags skip so_far h f).0.rows
  step_taken None flags skip so_far h f g more e are = are
  step_taken (Some x) flags zero so_far h f g more e are =
      let rest = drop (length (encode_utf8 x)) flags in
      short_taken (arg_by_short c x) rest h (f rest 0 done) (g rest 0) (usual_found c c _ usual) (more rest 0 done) e are
  step_taken (Some x) flags (suc skip) so_far h f g more e are = more (drop (length (encode_utf8 x)) flags) skip so_far h e are

  bundle_taken : (k : ℕ) (flags : Text) (skip : ℕ) (so_far : Outcome) (h : Held) → flags_fault c again k flags skip h ≡ [] → AreTaken c h.rows → AreTaken c (bundle_met c k flags skip so_far h).0.rows
  unfolding bundle_met flags_fault
  bundle_taken zero flags skip so_far h e are = are
  bundle_taken (suc k) flags skip so_far h e are =
      step_taken (slice_get (chars flags) 0) flags skip so_far h (bundle_met c k) (flags_fault c again k) (λ t n x y. bundle_taken k t n x y) e are

  -- a word that is no flag changes no row yet
  plain_rows : (waiting : Waiting) (word : Text) (h : Held) → (plain_word c waiting word h).0.rows ≡ h.rows
  plain_rows idle word h = refl
  plain_rows positional word h = refl
  plain_rows (option id) word h = go (arg_by_id c id)
    where
      go : (found : Option Rule) → (option_word found id word h).0.rows ≡ h.rows
      go None = refl
      go (Some a) = refl

  after_rows : (waiting : Waiting) (word : Text) (h : Held) (o : Outcome) → (after_flag c waiting word h o).0.rows ≡ h.rows
  after_rows waiting word h done = refl
  after_rows waiting word h (waits id) = refl
  after_rows waiting word h plain = plain_rows waiting word h
  after_rows waiting word h refused = plain_rows waiting word h

  after_taken : (waiting : Waiting) (word : Text) (met : Held × Outcome) → AreTaken c met.0.rows → AreTaken c (after_flag c waiting word met.0 met.1).0.rows
  after_taken waiting word met are = subst (AreTaken c) (sym (after_rows waiting word met.0 met.1)) are

  short_or_plain_taken : (waiting : Waiting) (word : Text) (flags : Option Text) (h : Held) → option_map_or (λ f. bundle_fault c again f h) flags [] ≡ []
      → AreTaken c h.rows → AreTaken c (short_or_plain c waiting word flags h).0.rows
  short_or_plain_taken waiting word None h e are = subst (AreTaken c) (sym (plain_rows waiting word h)) are
  short_or_plain_taken waiting word (Some flags) h e are =
      after_taken waiting word (bundle_met c (length flags) flags h.skip plain (record h { skip = 0 }))
      (bundle_taken (length flags) flags h.skip plain (record h { skip = 0 }) e are)

  long_or_other_taken : (waiting : Waiting) (word : Text) (p : Option (Text × Option Text)) (h : Held) → flag_word_fault c again p word h ≡ []
      → AreTaken c h.rows → AreTaken c (long_or_other c waiting word p h).0.rows
  long_or_other_taken waiting word None h e are = short_or_plain_taken waiting word (short_of word) h e are
  long_or_other_taken waiting word (Some p) h e are =
      after_taken waiting word (long_met c (arg_by_long c p.0) p.1 h) (long_taken (arg_by_long c p.0) p.1 h (usual_found c c _ usual) e are)

  other_taken : (o : Option Text) (waiting : Waiting) (position : ℕ) (word : Text) (h : Held) → other_fault s o word h ≡ []
      → AreTaken c h.rows → AreTaken c (subcommand_or_other c o waiting position word h).0.rows
  other_taken (Some name) waiting position word h e are = are
  other_taken None waiting position word h e are = go (bytes_eq word (45 ∷ 45 ∷ [])) e
    where
      go : (t : Bool) → cond t [] (flag_word_fault c again (long_of word) word h) ≡ []
          → AreTaken c (cond t (h, trailing position) (long_or_other c waiting word (long_of word) h)).0.rows
      go true e = are
      go false e = long_or_other_taken waiting word (long_of word) h e are

  word_taken : (is_trailing : Bool) (waiting : Waiting) (position : ℕ) (word : Text) (h : Held) → word_fault s names is_trailing waiting word h ≡ []
      → AreTaken c h.rows → AreTaken c (word_met c names is_trailing waiting position word h).0.rows
  word_taken true waiting position word h e are = are
  word_taken false waiting position word h e are = other_taken (subcommand_met names waiting word) waiting position word h e are

  held_taken : (t : Bool) (h : Held) → cond t [] (settle_fault c again h) ≡ [] → AreTaken c h.rows → AreTaken c (cond t h (settled c h)).rows
  held_taken true h e are = are
  held_taken false h e are = settled_taken h e are

  positional_taken : (found : Option Rule) (word : Text) (w : Walk) (h : Held) → option_map_or (λ a. positional_fault c again a h) found (stray_fault s) ≡ []
      → AreTaken c h.rows → AreTaken c (to_positional c found word w h).held.rows
  positional_taken None word w h e are = are
  positional_taken (Some a) word w h e are = held_taken (is_pending a h.pending && takes_several a) h e are

  stepped_taken : (word : Text) (w : Walk) (h : Held) (step : Step) → step_fault s w.position h step ≡ [] → AreTaken c h.rows → AreTaken c (after_step c word w h step).held.rows
  stepped_taken word w h (next waiting) e are = are
  stepped_taken word w h (trailing position) e are = are
  stepped_taken word w h (subcommand name) e are = are
  stepped_taken word w h value e are = positional_taken (arg_by_index c w.position) word w h e are

  turn_taken : (w : Walk) (word : Text) → turn_fault s names w word ≡ [] → AreTaken c w.held.rows → AreTaken c (walked c names w word).held.rows
  unfolding walked
  turn_taken w word e are = by w.stopped e
    where
      by : (stop : Option (Text × List Text)) → cond (is_some stop) [] (or_else (word_fault s names w.is_trailing w.waiting word w.held) (step_fault s w.position
          (word_met c names w.is_trailing w.waiting w.position word w.held).0 (word_met c names w.is_trailing w.waiting w.position word w.held).1)) ≡ []
          → AreTaken c (walked_from c names stop w word).held.rows
      by (Some p) e = are
      by None e =
          let parts = both_none _ _ e in
          let met = word_met c names w.is_trailing w.waiting w.position word w.held in
          stepped_taken word w met.0 met.1 parts.1 (word_taken w.is_trailing w.waiting w.position word w.held parts.0 are)

  pub walk_taken : (words : List Text) (w : Walk) → walk_fault s names w words ≡ [] → AreTaken c w.held.rows → AreTaken c (fold (walked c names) w words).held.rows
  unfolding walk_fault
  walk_taken [] w e are = are
  walk_taken (word ∷ words) w e are =
      let parts = both_none _ _ e in
      walk_taken words (walked c names w word) parts.1 (turn_taken w word parts.0 are)
