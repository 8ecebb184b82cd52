-- The tests of tables find something, and if they find no fault there are rules of these tables.
use Rattle.std.proofs.Common.{◌≡◌, ◌⊎◌, ◌≤◌, ◌<◌, inl, inr, ℕ, List, [], ◌∷◌, ◌++◌, length, Option, Some, None, All, refl, arith}
use Rattle.std.specs.Prelude.{codes, get_or}
use Rattle.toml.specs.Data.{Data, as_str}
use Rattle.mtl_formulas.specs.FormulaTree.{FormulaTree}
use Rattle.mtl_language.specs.FormulaReading.{Meaning, tree, syntax_fault, number_fault, size_fault, IsMeaning}
use Rattle.mtl_language.proofs.ForCallers.{one_meaning_each}
use Rattle.rule_set.specs.NamedTrees.{NamedTree, rule_named, rules_by}
use Rattle.rule_set.specs.declared.numbers.RuleNumbers.{RuleNumbers}
use Rattle.rule_set.specs.declared.ranking.Ranking.{Ranking}
use Rattle.scenario_keys.specs.FirstFaults.{with_before}
use Rattle.scenario_keys.specs.KeyValues.{member_at}
use Rattle.scenario_keys.specs.ToldFaults.{fault_at, fault_by, fault_by_at}
use Rattle.scenario_keys.specs.declared.key.Key.{Key}
use Rattle.scenario_keys.specs.declared.cause.Cause.{Cause}
use Rattle.scenario_keys.specs.declared.cause.Cause.TheVariants as cause
use Rattle.scenario_keys.proofs.ForCallers.{all_head, all_tail, some_found}
use Rattle.scenario_rules.specs.FormulaTables.{formula_cause, formula_name_in, is_name_taken, name_cause, string_in, string_of, IsBytesCause, IsFormulaFault, IsStringCause, IsTableFault, IsTextCause, IsTextFault}
use Rattle.scenario_rules.specs.ScenarioRules.{weight_cause, AreAdded, AreScenarioRules, IsWeightFault}
use Rattle.scenario_values.specs.LightRules.{total_weight}

-- ---- some fault or none

short_or_long : (m n : ℕ) → (m ≤ n) ⊎ (n < m)
short_or_long m n = grind arith

some_bytes_cause : (tick : ℕ) (text : List ℕ) → (why : Option Cause) × IsBytesCause tick text why
some_bytes_cause tick text = elim (short_or_long (length text) 1024) [
  | inl short ↦ (let one = one_meaning_each text tick in (formula_cause (length text) one.meaning, inl (short, (one.meaning, one.right, refl))))
  | inr long ↦ (Some cause.Range, inr (long, refl))
]

some_string_cause : (tick : ℕ) (found : Option (List ℕ)) → (why : Option Cause) × IsStringCause tick found why
some_string_cause tick None = (Some cause.Type_, refl)
some_string_cause tick (Some text) = some_bytes_cause tick text

some_text_cause : (tick : ℕ) (found : Option Data) → (why : Option Cause) × IsTextCause tick found why
some_text_cause tick None = (Some cause.Missing, refl)
some_text_cause tick (Some found) = some_string_cause tick (as_str found)

some_text_fault : (tick item : ℕ) (why : Option Cause) (text : Option Data) → (told : Option (Key × Cause)) × IsTextFault tick item why text told
some_text_fault tick item (Some why) text = (fault_at 32 item why, refl)
some_text_fault tick item None text = let some = some_text_cause tick text in (fault_by_at 33 item some.0, (some.0, some.1, refl))

some_table_fault : (ranks : Ranking) (tick : ℕ) (pair : List Data × Data) → (told : Option (Key × Cause)) × IsTableFault ranks tick pair told
some_table_fault ranks tick (before, here) =
    some_text_fault tick (length before) (name_cause (is_name_taken ranks before) (member_at (codes "name") here)) (member_at (codes "text") here)

pub some_formula_fault : (ranks : Ranking) (tick : ℕ) (tables : List Data) → (told : Option (Key × Cause)) × IsFormulaFault ranks tick tables told
some_formula_fault ranks tick tables = some_found (IsTableFault ranks tick) (with_before [] tables) (λ k pair lt. some_table_fault ranks tick (get_or (with_before [] tables) k pair))

-- ---- the rules of tables without a fault

abbrev HasTree : ℕ → List ℕ → Type 0
HasTree tick text = (t : FormulaTree) × IsMeaning text tick (tree t)

tree_by : (tick : ℕ) (text : List ℕ) (meaning : Meaning) → IsMeaning text tick meaning → None ≡ formula_cause (length text) meaning → HasTree tick text
tree_by tick text (tree t) is none = (t, is)
tree_by tick text (syntax_fault index) is none = cc none
tree_by tick text (number_fault index) is none = cc none
tree_by tick text size_fault is none = cc none

tree_of_bytes : (tick : ℕ) (text : List ℕ) (why : Option Cause) → IsBytesCause tick text why → why ≡ None → HasTree tick text
tree_of_bytes tick text why (inl (short, (meaning, is, because))) none = let same : None ≡ formula_cause (length text) meaning = cc (because, none) in tree_by tick text meaning is same
tree_of_bytes tick text why (inr (long, because)) none = cc (because, none)

tree_of_string : (tick : ℕ) (found : Option (List ℕ)) (why : Option Cause) → IsStringCause tick found why → why ≡ None → HasTree tick (string_of found)
tree_of_string tick None why because none = cc (because, none)
tree_of_string tick (Some text) why because none = tree_of_bytes tick text why because none

tree_of_text : (tick : ℕ) (found : Option Data) (why : Option Cause) → IsTextCause tick found why → why ≡ None → HasTree tick (string_in found)
tree_of_text tick None why because none = cc (because, none)
tree_of_text tick (Some found) why because none = tree_of_string tick (as_str found) why because none

none_by : (item : ℕ) (why : Option Cause) → None ≡ fault_by_at 33 item why → why ≡ None
none_by item None none = refl
none_by item (Some why) none = cc none

tree_of_table : (tick item : ℕ) (why : Option Cause) (text : Option Data) → IsTextFault tick item why text None → HasTree tick (string_in text)
tree_of_table tick item (Some why) text none = cc none
tree_of_table tick item None text (why, because, none) = tree_of_text tick text why because (none_by item why none)

some_added : (ranks : Ranking) (tick : ℕ) (before tables : List Data) → All (λ pair. IsTableFault ranks tick pair None) (with_before before tables) → (added : List NamedTree) × AreAdded tick tables added
some_added ranks tick before [] all = ([], tt)
some_added ranks tick before (here ∷ tables) all =
    let rest = with_before (before ++ here ∷ []) tables in
    let read = tree_of_table tick (length before) (name_cause (is_name_taken ranks before) (member_at (codes "name") here)) (member_at (codes "text") here)
    (all_head (λ pair. IsTableFault ranks tick pair None) (before, here) rest all) in
    let more = some_added ranks tick (before ++ here ∷ []) tables (all_tail (λ pair. IsTableFault ranks tick pair None) (before, here) rest all) in
    (rule_named (formula_name_in here) read.0 ∷ more.0, (record { name = refl; meaning = read.1 }, more.1))

pub some_rules : (ranks : Ranking) (tick : ℕ) (numbers : RuleNumbers) (tables : List Data) → IsFormulaFault ranks tick tables None → (rules : List NamedTree) × AreScenarioRules ranks tick numbers tables rules
some_rules ranks tick numbers tables none =
    let added = some_added ranks tick [] tables none in
    (rules_by ranks tick numbers ++ added.0, record { added = added.0; order = refl; are_added = added.1 })

pub some_weight_fault : (ranks : Ranking) (tick : ℕ) (numbers : RuleNumbers) (tables : List Data) → IsFormulaFault ranks tick tables None → (told : Option (Key × Cause)) × IsWeightFault ranks tick numbers tables told
some_weight_fault ranks tick numbers tables none =
    let rules = some_rules ranks tick numbers tables none in
    (fault_by 34 (weight_cause (total_weight rules.0)), (rules.0, rules.1, refl))
