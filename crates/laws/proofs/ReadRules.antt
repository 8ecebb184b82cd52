-- The rules of a document without a fault are right, and light enough together.
use Rattle.std.proofs.Common.{◌≡◌, ℕ, ◌/◌, ◌≤◌, nat_le, Bool, true, false, not, ◌&&◌, ◌||◌, if◌then◌else◌, List, [], ◌∷◌, ◌++◌, length, map, append_assoc, append-nil, Option, Some, None, All, refl, ap, sym, ◌∙◌, subst, arith}
use Rattle.std.specs.Prelude.{bytes_eq, codes}
use Rattle.std.specs.List.{list_any}
use Rattle.std.proofs.Math.Nat.{div-le_self}
use Rattle.std.proofs.lemmas.Bool.Decides.{nat_tests}
use Rattle.std.proofs.lemmas.List.{length-append, map-append}
use Rattle.std.proofs.lemmas.List.Elements.{All-append, All-cons, All-from_recursion, All-head, All-nil, All-tail}
use Rattle.toml.specs.Data.{Data, as_str}
use Rattle.mtl_formulas.specs.FormulaTree.{FormulaTree}
use Rattle.mtl_formulas.specs.FormulaMeasures.{HasValidParts, IsValid}
use Rattle.mtl_language.specs.FormulaReading.{tree, IsMeaning}
use Rattle.mtl_language.proofs.GoodNumbers.{formula_good, good_valid}
use Rattle.rule_set.specs.NamedTrees.{NamedTree, eleven_rules, has_rule, rule_named, rules_by, AreRules, RulesHaveDifferentNames}
use Rattle.rule_set.specs.RuleTrees as rule
use Rattle.rule_set.specs.RuleTrees.{between_power, extremis, free, keeps_out, other_metres, passes_safely, soon, stands_on, waits, AreMetres, AreRuleNumbers, AreSafeMetres, AreSeconds}
use Rattle.rule_set.specs.declared.numbers.RuleNumbers.{RuleNumbers}
use Rattle.rule_set.specs.declared.numbers.Safe.{Safe}
use Rattle.rule_set.specs.declared.numbers.Safe.TheVariants as safe
use Rattle.rule_set.specs.declared.ranking.Ranking.{Ranking}
use Rattle.rule_set.specs.declared.ranking.Ranking.TheVariants.{Counted, Ignored}
use Rattle.rule_set.proofs.Drafts.{draft_is_valid}
use Rattle.rule_set.proofs.Names.{different_after}
use Rattle.scenario_keys.specs.FirstFaults.{with_before}
use Rattle.scenario_keys.specs.KeyValues.{member_at}
use Rattle.scenario_keys.specs.ToldFaults.{fault_by}
use Rattle.scenario_keys.specs.declared.cause.Cause.{Cause}
use Rattle.scenario_keys.specs.declared.cause.Cause.TheVariants as cause
use Rattle.scenario_rules.specs.FormulaTables.{formula_name_in, formula_text_in, is_name_taken, is_rule_name, name_cause, new_name_cause, rule_names, string_in, string_of, IsFormulaFault, IsTableFault, IsTextFault}
use Rattle.scenario_rules.specs.ScenarioRules.{weight_cause, AreAdded, AreScenarioRules, IsWeightFault}
use Rattle.scenario_rules.proofs.ForCallers.{one_rules}
use Rattle.scenario_values.specs.LightRules.{greatest_weight, total_weight, AreLightRules}

-- ---- the rules of the COLREGs 1972

record IsBound (u : ℕ) : Type 0 where
  from : 0 ≤ u
  to : u ≤ 7200

bound : (tick seconds : ℕ) → AreSeconds tick seconds → IsBound (seconds / tick)
bound tick seconds h = let few = h.few in let le = div-le_self seconds tick in record { from = omega arith; to = omega arith }

safe_valid : (s : Safe) → AreSafeMetres s → IsValid (passes_safely s)
safe_valid (safe.One metres) h = draft_is_valid (passes_safely (safe.One metres)) (record { parts = assumption; nodes = omega arith; reach = omega arith })
safe_valid (safe.PerKind head_on overtaking crossing other) h =
    draft_is_valid (passes_safely (safe.PerKind head_on overtaking crossing other)) (record { parts = assumption; nodes = omega arith; reach = omega arith })

few_metres : (s : Safe) → AreSafeMetres s → AreMetres (other_metres s)
few_metres (safe.One metres) h = h
few_metres (safe.PerKind head_on overtaking crossing other) h = h.3

module _ (tick : ℕ) (n : RuleNumbers) (h : AreRuleNumbers tick n) where
  valid_8b : IsValid (rule.r8b tick n)
  unfolding soon
  valid_8b = let t = bound tick n.t8 h.t8 in let to = t.to in
      draft_is_valid (rule.r8b tick n) (record { parts = assumption; nodes = omega arith; reach = omega arith })

  valid_13 : IsValid (rule.r13 n)
  valid_13 = draft_is_valid (rule.r13 n) (record { parts = assumption; nodes = omega arith; reach = omega arith })

  valid_14a : (ranks : Ranking) → IsValid (rule.r14a ranks tick n)
  unfolding soon between_power
  valid_14a Ignored = let t = bound tick n.ta h.ta in let to = t.to in
      draft_is_valid (rule.r14a Ignored tick n) (record { parts = assumption; nodes = omega arith; reach = omega arith })
  valid_14a Counted = let t = bound tick n.ta h.ta in let to = t.to in
      draft_is_valid (rule.r14a Counted tick n) (record { parts = assumption; nodes = omega arith; reach = omega arith })

  valid_14b : (ranks : Ranking) → IsValid (rule.r14b ranks)
  unfolding between_power
  valid_14b Ignored = draft_is_valid (rule.r14b Ignored) (record { parts = assumption; nodes = omega arith; reach = omega arith })
  valid_14b Counted = draft_is_valid (rule.r14b Counted) (record { parts = assumption; nodes = omega arith; reach = omega arith })

  valid_14p : (ranks : Ranking) → IsValid (rule.r14p ranks)
  unfolding between_power
  valid_14p Ignored = draft_is_valid (rule.r14p Ignored) (record { parts = assumption; nodes = omega arith; reach = omega arith })
  valid_14p Counted = draft_is_valid (rule.r14p Counted) (record { parts = assumption; nodes = omega arith; reach = omega arith })

  valid_15 : (ranks : Ranking) → IsValid (rule.r15 ranks)
  unfolding between_power
  valid_15 Ignored = draft_is_valid (rule.r15 Ignored) (record { parts = assumption; nodes = omega arith; reach = omega arith })
  valid_15 Counted = draft_is_valid (rule.r15 Counted) (record { parts = assumption; nodes = omega arith; reach = omega arith })

  valid_16 : (ranks : Ranking) → IsValid (rule.r16 ranks tick n)
  unfolding soon keeps_out
  valid_16 Ignored = let t = bound tick n.ta h.ta in let to = t.to in
      draft_is_valid (rule.r16 Ignored tick n) (record { parts = assumption; nodes = omega arith; reach = omega arith })
  valid_16 Counted = let t = bound tick n.ta h.ta in let to = t.to in
      draft_is_valid (rule.r16 Counted tick n) (record { parts = assumption; nodes = omega arith; reach = omega arith })

  valid_17a : (ranks : Ranking) → IsValid (rule.r17a ranks tick n)
  unfolding stands_on free waits extremis
  valid_17a Ignored = let t = bound tick n.te h.te in let w = bound tick n.tw h.tw in
      draft_is_valid (rule.r17a Ignored tick n) (record { parts = assumption; nodes = omega arith; reach = omega arith })
  valid_17a Counted = let t = bound tick n.te h.te in let w = bound tick n.tw h.tw in
      draft_is_valid (rule.r17a Counted tick n) (record { parts = assumption; nodes = omega arith; reach = omega arith })

  valid_17b : (ranks : Ranking) → IsValid (rule.r17b ranks tick n)
  unfolding soon stands_on extremis
  valid_17b Ignored = let t = bound tick n.tl h.tl in let to = t.to in
      draft_is_valid (rule.r17b Ignored tick n) (record { parts = assumption; nodes = omega arith; reach = omega arith })
  valid_17b Counted = let t = bound tick n.tl h.tl in let to = t.to in
      draft_is_valid (rule.r17b Counted tick n) (record { parts = assumption; nodes = omega arith; reach = omega arith })

  valid_17c : (ranks : Ranking) → IsValid (rule.r17c ranks tick n)
  unfolding between_power free waits extremis
  valid_17c Ignored = let t = bound tick n.te h.te in let w = bound tick n.tw h.tw in
      draft_is_valid (rule.r17c Ignored tick n) (record { parts = assumption; nodes = omega arith; reach = omega arith })
  valid_17c Counted = let t = bound tick n.te h.te in let w = bound tick n.tw h.tw in
      draft_is_valid (rule.r17c Counted tick n) (record { parts = assumption; nodes = omega arith; reach = omega arith })

  valid_18 : IsValid (rule.r18 n)
  valid_18 = let few = few_metres n.safe h.safe in draft_is_valid (rule.r18 n) (record { parts = assumption; nodes = omega arith; reach = omega arith })

  abbrev HasValidTree : NamedTree → Type 0
  HasValidTree one = IsValid one.tree

  eleven_valid : (ranks : Ranking) → All HasValidTree (eleven_rules ranks tick n)
  eleven_valid ranks =
      All-from_recursion HasValidTree (eleven_rules ranks tick n) (
        valid_8b,
        (
          safe_valid n.safe h.safe,
          (
            valid_13,
            (
              valid_14a ranks,
              (
                valid_14b ranks,
                (
                  valid_14p ranks,
                  (
                    valid_15 ranks,
                    (
                      valid_16 ranks,
                      (
                        valid_17a ranks,
                        (valid_17b ranks, (valid_17c ranks, tt)),
                      ),
                    ),
                  ),
                ),
              ),
            ),
          ),
        ),
      )

  rules_valid : (ranks : Ranking) → All HasValidTree (rules_by ranks tick n)
  rules_valid Ignored = eleven_valid Ignored
  rules_valid Counted =
      All-append HasValidTree (eleven_rules Counted tick n) (rule_named (codes "r18") (rule.r18 n) ∷ []) (eleven_valid Counted)
      (All-cons HasValidTree (rule_named (codes "r18") (rule.r18 n)) [] valid_18 (All-nil HasValidTree))

rules_differ : (ranks : Ranking) (tick : ℕ) (n : RuleNumbers) → RulesHaveDifferentNames (rules_by ranks tick n)
rules_differ Ignored tick n = assumption
rules_differ Counted tick n = assumption

few_rules : (ranks : Ranking) (tick : ℕ) (n : RuleNumbers) → length (rules_by ranks tick n) ≤ 12
few_rules Ignored tick n = omega arith
few_rules Counted tick n = omega arith

-- ---- the formulas of tables

abbrev name_of : NamedTree → List ℕ
name_of one = one.name

rules_named : (ranks : Ranking) (tick : ℕ) (n : RuleNumbers) → map name_of (rules_by ranks tick n) ≡ rule_names ranks
rules_named Ignored tick n = refl
rules_named Counted tick n = refl

has_name : (rules : List NamedTree) (name : List ℕ) → has_rule rules name ≡ list_any (λ taken. bytes_eq taken name) (map name_of rules)
has_name [] name = refl
has_name (one ∷ rules) name = ap (λ b. bytes_eq one.name name || b) (has_name rules name)

-- A name without a fault is not taken.
not_true : (a b : Bool) → (a && not b) ≡ true → b ≡ false
not_true true true h = cc h
not_true true false h = refl
not_true false b h = cc h

new_name : (taken : List ℕ → Bool) (found : Option Data) → name_cause taken found ≡ None → taken (string_in found) ≡ false
new_name taken None h = cc h
new_name taken (Some found) h = of_text (as_str found) h
  where
    passes : (b : Bool) → (if b then None else Some cause.Range) ≡ None → b ≡ true
    passes true h = refl
    passes false h = cc h

    of_text : (text : Option (List ℕ)) → new_name_cause taken text ≡ None → taken (string_of text) ≡ false
    of_text None h = cc h
    of_text (Some name) h = not_true (is_rule_name name) (taken name) (passes (is_rule_name name && not (taken name)) h)

named_well : (tick item : ℕ) (why : Option Cause) (text : Option Data) → IsTextFault tick item why text None → why ≡ None
named_well tick item None text h = refl
named_well tick item (Some why) text h = cc h

table_new : (ranks : Ranking) (tick : ℕ) (before : List Data) (here : Data) → IsTableFault ranks tick (before, here) None → is_name_taken ranks before (formula_name_in here) ≡ false
table_new ranks tick before here h =
    let found = member_at (codes "name") here in
    new_name (is_name_taken ranks before) found (named_well tick (length before) (name_cause (is_name_taken ranks before) found) (member_at (codes "text") here) h)

meant_valid : (text : List ℕ) (tick : ℕ) (t : FormulaTree) → 1 ≤ tick → IsMeaning text tick (tree t) → IsValid t
meant_valid text tick t some (reads, limits) = record {
  parts = subst HasValidParts (sym reads.positions) (good_valid tick reads.written some (formula_good tick text reads.written reads.formula reads.numbers));
  depth = limits.0;
  nodes = limits.1;
  reach = limits.2;
}

record AreGood (rules : List NamedTree) : Type 0 where
  different : RulesHaveDifferentNames rules
  valid : All (λ (one : NamedTree). IsValid one.tree) rules

module _ (ranks : Ranking) (tick : ℕ) (some : 1 ≤ tick) where
  -- the names of the rules before a table are those that are taken
  abbrev AreNamed : List Data → List NamedTree → Type 0
  AreNamed before rules = map name_of rules ≡ rule_names ranks ++ map formula_name_in before

  one_more_named : (before : List Data) (here : Data) (rules : List NamedTree) (one : NamedTree) → one.name ≡ formula_name_in here → AreNamed before rules
      → AreNamed (before ++ here ∷ []) (rules ++ one ∷ [])
  one_more_named before here rules one named are =
      map-append name_of rules (one ∷ []) ∙ ap (λ l. l ++ one.name ∷ []) are ∙ ap (λ x. (rule_names ranks ++ map formula_name_in before) ++ x ∷ []) named
      ∙ append_assoc (rule_names ranks) (map formula_name_in before) (formula_name_in here ∷ [])
      ∙ ap (λ l. rule_names ranks ++ l) (sym (map-append formula_name_in before (here ∷ [])))

  all_good : (before tables : List Data) (rules added : List NamedTree) → AreGood rules → AreNamed before rules → AreAdded tick tables added
      → All (λ pair. IsTableFault ranks tick pair None) (with_before before tables) → AreGood (rules ++ added)
  all_good before [] rules [] good named are none = subst AreGood (sym (append-nil rules)) good
  all_good before [] rules (one ∷ added) good named are none = absurd are
  all_good before (here ∷ tables) rules [] good named are none = absurd are
  all_good before (here ∷ tables) rules (one ∷ added) good named are none =
      let rest = with_before (before ++ here ∷ []) tables in
      let free = table_new ranks tick before here (All-head (λ pair. IsTableFault ranks tick pair None) (before, here) rest none) in
      let new : has_rule rules one.name ≡ false =
      has_name rules one.name ∙ ap (list_any (λ taken. bytes_eq taken one.name)) named ∙ ap (is_name_taken ranks before) are.0.name ∙ free in
      let valid = meant_valid (formula_text_in here) tick one.tree some are.0.meaning in
      let more : AreGood (rules ++ one ∷ []) = record {
        different = different_after rules one good.different new;
        valid = All-append (λ (one : NamedTree). IsValid one.tree) rules (one ∷ []) good.valid
            (All-cons (λ (one : NamedTree). IsValid one.tree) one [] valid (All-nil (λ (one : NamedTree). IsValid one.tree)));
      } in
      subst AreGood (append_assoc rules (one ∷ []) added)
      (all_good (before ++ here ∷ []) tables (rules ++ one ∷ []) added more (one_more_named before here rules one are.0.name named) are.1
      (All-tail (λ pair. IsTableFault ranks tick pair None) (before, here) rest none))

many_added : (tick : ℕ) (tables : List Data) (added : List NamedTree) → AreAdded tick tables added → length added ≡ length tables
many_added tick [] [] h = refl
many_added tick [] (one ∷ added) h = absurd h
many_added tick (here ∷ tables) [] h = absurd h
many_added tick (here ∷ tables) (one ∷ added) h = let e = many_added tick tables added h.1 in omega arith

-- ---- their weight

no_cause : (weight : ℕ) (b : Bool) → (if b then None else Some cause.Product) ≡ None → b ≡ true
no_cause weight true h = refl
no_cause weight false h = cc h

light_enough : (weight : ℕ) → weight_cause weight ≡ None → weight ≤ greatest_weight
light_enough weight h = let fits = no_cause weight (nat_le weight greatest_weight) h in grind (arith, nat_tests)

module _ (ranks : Ranking) (tick : ℕ) (n : RuleNumbers) (tables : List Data) where
  weighed : (rules : List NamedTree) → AreScenarioRules ranks tick n tables rules → IsWeightFault ranks tick n tables None → total_weight rules ≤ greatest_weight
  weighed rules are (others, are_others, told) =
      subst (λ (l : List NamedTree). total_weight l ≤ greatest_weight) (one_rules ranks tick n tables others rules are_others are)
      (light_enough (total_weight others) (unblamed (weight_cause (total_weight others)) told))
    where
      unblamed : (why : Option Cause) → None ≡ fault_by 34 why → why ≡ None
      unblamed None told = refl
      unblamed (Some why) told = cc told

  -- Rules of at most five tables without a fault.
  pub rules_in_range : (rules : List NamedTree) → AreRuleNumbers tick n → length tables ≤ 5 → AreScenarioRules ranks tick n tables rules
      → IsFormulaFault ranks tick tables None → IsWeightFault ranks tick n tables None → AreLightRules rules
  rules_in_range rules numbers few are none weight =
      let first = rules_by ranks tick n in
      let good : AreGood first = record { different = rules_differ ranks tick n; valid = rules_valid tick n numbers ranks } in
      let all = all_good ranks tick numbers.is_tick.0 [] tables first are.added good (rules_named ranks tick n ∙ sym (append-nil (rule_names ranks))) are.are_added none in
      let many = length-append first are.added in
      let added = many_added tick tables are.added are.are_added in
      let fewer = few_rules ranks tick n in
      let right : AreRules (first ++ are.added) = record { few = omega arith; different = all.different; valid = all.valid } in
      record { right = subst AreRules (sym are.order) right; light = weighed rules are weight }
