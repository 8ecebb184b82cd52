-- Lemmas for the crates above: tables have one first fault or none, the rules of some tables are one list, and faultless tables have some.
pub use Rattle.scenario_rules.proofs.Existing.{some_formula_fault, some_rules, some_weight_fault}
use Rattle.std.proofs.Common.{◌≡◌, inl, inr, ℕ, List, [], ◌∷◌, ◌++◌, length, Option, Some, None, refl, ap, sym, ◌∙◌, arith}
use Rattle.std.specs.Prelude.{codes}
use Rattle.toml.specs.Data.{Data, as_str}
use Rattle.mtl_formulas.specs.FormulaTree.{FormulaTree}
use Rattle.mtl_language.specs.FormulaReading.{tree}
use Rattle.mtl_language.proofs.Meanings.{one_meaning}
use Rattle.rule_set.specs.NamedTrees.{NamedTree, rule_named, rules_by}
use Rattle.rule_set.specs.declared.numbers.RuleNumbers.{RuleNumbers}
use Rattle.rule_set.specs.declared.ranking.Ranking.{Ranking}
use Rattle.scenario_keys.specs.FirstFaults.{with_before}
use Rattle.scenario_keys.specs.ToldFaults.{fault_by, fault_by_at}
use Rattle.scenario_keys.specs.declared.key.Key.{Key}
use Rattle.scenario_keys.specs.declared.cause.Cause.{Cause}
use Rattle.scenario_keys.proofs.ForCallers.{one_found}
use Rattle.scenario_keys.specs.KeyValues.{member_at}
use Rattle.scenario_rules.specs.FormulaTables.{formula_cause, is_name_taken, name_cause, IsBytesCause, IsFormulaFault, IsStringCause, IsTableFault, IsTextCause, IsTextFault}
use Rattle.scenario_rules.specs.ScenarioRules.{weight_cause, AreAdded, AreScenarioRules, IsWeightFault}
use Rattle.scenario_values.specs.LightRules.{total_weight}

one_bytes_cause : (tick : ℕ) (text : List ℕ) (a b : Option Cause) → IsBytesCause tick text a → IsBytesCause tick text b → a ≡ b
one_bytes_cause tick text a b (inl h) (inl k) =
    let (m, p, e) = h.1 in
    let (n, q, f) = k.1 in
    e ∙ ap (formula_cause (length text)) (one_meaning text tick m n p q) ∙ sym f
one_bytes_cause tick text a b (inl h) (inr k) = let s = h.0 in let l = k.0 in absurd (omega arith)
one_bytes_cause tick text a b (inr h) (inl k) = let l = h.0 in let s = k.0 in absurd (omega arith)
one_bytes_cause tick text a b (inr h) (inr k) = h.1 ∙ sym k.1

one_string_cause : (tick : ℕ) (found : Option (List ℕ)) (a b : Option Cause) → IsStringCause tick found a → IsStringCause tick found b → a ≡ b
one_string_cause tick None a b h k = h ∙ sym k
one_string_cause tick (Some text) a b h k = one_bytes_cause tick text a b h k

one_text_cause : (tick : ℕ) (found : Option Data) (a b : Option Cause) → IsTextCause tick found a → IsTextCause tick found b → a ≡ b
one_text_cause tick None a b h k = h ∙ sym k
one_text_cause tick (Some found) a b h k = one_string_cause tick (as_str found) a b h k

one_text_fault : (tick item : ℕ) (why : Option Cause) (text : Option Data) (a b : Option (Key × Cause)) → IsTextFault tick item why text a → IsTextFault tick item why text b → a ≡ b
one_text_fault tick item (Some why) text a b h k = h ∙ sym k
one_text_fault tick item None text a b h k =
    let (v, p, e) = h in
    let (w, q, f) = k in
    e ∙ ap (fault_by_at 33 item) (one_text_cause tick text v w p q) ∙ sym f

one_table_fault : (ranks : Ranking) (tick : ℕ) (pair : List Data × Data) (a b : Option (Key × Cause)) → IsTableFault ranks tick pair a → IsTableFault ranks tick pair b → a ≡ b
one_table_fault ranks tick (before, here) a b h k =
    one_text_fault tick (length before) (name_cause (is_name_taken ranks before) (member_at (codes "name") here)) (member_at (codes "text") here) a b h k

pub one_formula_fault : (ranks : Ranking) (tick : ℕ) (tables : List Data) (a b : Option (Key × Cause)) → IsFormulaFault ranks tick tables a → IsFormulaFault ranks tick tables b → a ≡ b
one_formula_fault ranks tick tables a b h k = one_found (IsTableFault ranks tick) (one_table_fault ranks tick) (with_before [] tables) a b h k

same_rule : (a b : NamedTree) → a.name ≡ b.name → a.tree ≡ b.tree → a ≡ b
same_rule a b e f = λ i. rule_named (e i) (f i)

one_tree : (s t : FormulaTree) → tree s ≡ tree t → s ≡ t
one_tree s t e = cc

one_added : (tick : ℕ) (tables : List Data) (a b : List NamedTree) → AreAdded tick tables a → AreAdded tick tables b → a ≡ b
one_added tick [] [] [] h k = refl
one_added tick [] (r ∷ a) b h k = absurd h
one_added tick [] [] (s ∷ b) h k = absurd k
one_added tick (here ∷ tables) [] b h k = absurd h
one_added tick (here ∷ tables) (r ∷ a) [] h k = absurd k
one_added tick (here ∷ tables) (r ∷ a) (s ∷ b) h k =
    let e = same_rule r s (h.0.name ∙ sym k.0.name) (one_tree r.tree s.tree (one_meaning _ tick (tree r.tree) (tree s.tree) h.0.meaning k.0.meaning)) in
    let f = one_added tick tables a b h.1 k.1 in
    ap (λ l. r ∷ l) f ∙ ap (λ x. x ∷ b) e

pub one_rules : (ranks : Ranking) (tick : ℕ) (numbers : RuleNumbers) (tables : List Data) (a b : List NamedTree) → AreScenarioRules ranks tick numbers tables a → AreScenarioRules ranks tick numbers tables b → a ≡ b
one_rules ranks tick numbers tables a b h k =
    h.order ∙ ap (λ l. rules_by ranks tick numbers ++ l) (one_added tick tables h.added k.added h.are_added k.are_added) ∙ sym k.order

pub one_weight_fault : (ranks : Ranking) (tick : ℕ) (numbers : RuleNumbers) (tables : List Data) (a b : Option (Key × Cause)) → IsWeightFault ranks tick numbers tables a → IsWeightFault ranks tick numbers tables b → a ≡ b
one_weight_fault ranks tick numbers tables a b h k =
    let (r, p, e) = h in
    let (s, q, f) = k in
    e ∙ ap (λ rules. fault_by 34 (weight_cause (total_weight rules))) (one_rules ranks tick numbers tables r s p q) ∙ sym f
