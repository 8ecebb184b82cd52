-- The formulas that follow the rules of the COLREGs 1972, table by table.
use Rattle.std.proofs.Common.{◌≡◌, ℕ, zero, suc, ◌+◌, ◌≤◌, ◌<◌, nat_le, Bool, true, not, ◌&&◌, ◌||◌, if◌then◌else◌, List, [], ◌∷◌, ◌++◌, map, length, take, drop, Option, Some, None, All, refl, ap, sym, ◌∙◌, subst, arith}
use Rattle.std.specs.Prelude.{bytes_eq, codes, slice_index_or}
use Rattle.std.specs.List.{list_any}
use Rattle.std.proofs.lemmas.Bool.Decides.{nat_tests}
use Rattle.std.proofs.lemmas.List.{length-append, map-append, take_more}
use Rattle.std.proofs.lemmas.List.Elements.{All-cons}
use Rattle.toml.specs.Data.{Data, as_str}
use Rattle.toml.specs.View.{view}
use Rattle.toml.specs.declared.value.Value.{Value}
use Rattle.rule_set.specs.NamedTrees.{NamedTree, has_rule, rules_by}
use Rattle.rule_set.specs.declared.numbers.RuleNumbers.{RuleNumbers}
use Rattle.rule_set.specs.declared.ranking.Ranking.{Ranking}
use Rattle.rule_set.specs.declared.ranking.Ranking.TheVariants.{Ignored, Counted}
use Rattle.scenario_keys.specs.FirstFaults.{with_before, IsFound}
use Rattle.scenario_keys.specs.declared.key.Key.{Key}
use Rattle.scenario_keys.specs.declared.cause.Cause.{Cause}
use Rattle.scenario_keys.specs.declared.cause.Cause.TheVariants as cause
use Rattle.scenario_keys.proofs.ForCallers.{all_append, all_none, first_behind, first_here}
use Rattle.scenario_keys.specs.KeyValues.{member_at}
use Rattle.scenario_rules.specs.FormulaTables.{is_rule_name, is_name_taken, name_cause, formula_name_in, new_name_cause, rule_names, IsFaultBy, IsFormulaFault, IsTableFault, IsTextFault}
use Rattle.scenario_rules.specs.ScenarioRules.{AreAdded, AreScenarioRules, IsAdded}
use Rattle.scenario_rules.specs.Inner.{Adds, Stands}

-- their names, and how many they are

names_added : (tick : ℕ) (tables : List Data) (added : List NamedTree) → AreAdded tick tables added → map (λ (rule : NamedTree). rule.name) added ≡ map formula_name_in tables
names_added tick [] [] h = refl
names_added tick [] (rule ∷ added) h = absurd h
names_added tick (here ∷ tables) [] h = absurd h
names_added tick (here ∷ tables) (rule ∷ added) h =
    let e = h.0.name in let f = names_added tick tables added h.1 in rw (e, f) refl

pub many_added : (tick : ℕ) (tables : List Data) (added : List NamedTree) → AreAdded tick tables added → length added ≡ length tables
many_added tick [] [] h = refl
many_added tick [] (rule ∷ added) h = absurd h
many_added tick (here ∷ tables) [] h = absurd h
many_added tick (here ∷ tables) (rule ∷ added) h = let e = many_added tick tables added h.1 in omega arith

few_by : (ranks : Ranking) (tick : ℕ) (numbers : RuleNumbers) → length (rules_by ranks tick numbers) ≤ 12
few_by Ignored tick numbers = omega arith
few_by Counted tick numbers = omega arith

pub few_rules : (ranks : Ranking) (tick : ℕ) (numbers : RuleNumbers) (tables : List Data) (rules : List NamedTree) → AreScenarioRules ranks tick numbers tables rules →
    length rules ≤ 12 + length tables
few_rules ranks tick numbers tables rules h =
    let e = ap length h.order in
    let f = length-append (rules_by ranks tick numbers) h.added in
    let g = many_added tick tables h.added h.are_added in
    let few = few_by ranks tick numbers in
    omega arith

one_more_added : (tick : ℕ) (tables : List Data) (here : Data) (added : List NamedTree) (rule : NamedTree) → AreAdded tick tables added → IsAdded tick here rule →
    AreAdded tick (tables ++ here ∷ []) (added ++ rule ∷ [])
one_more_added tick [] here [] rule h k = (k, tt)
one_more_added tick [] here (other ∷ added) rule h k = absurd h
one_more_added tick (there ∷ tables) here [] rule h k = absurd h
one_more_added tick (there ∷ tables) here (other ∷ added) rule h k = (h.0, one_more_added tick tables here added rule h.1 k)

-- the names that the rules hold are those that are taken

held_names : (rules : List NamedTree) (name : List ℕ) → has_rule rules name ≡ list_any (λ taken. bytes_eq taken name) (map (λ (rule : NamedTree). rule.name) rules)
held_names [] name = refl
held_names (rule ∷ rules) name = ap (λ b. bytes_eq rule.name name || b) (held_names rules name)

rule_names_are : (ranks : Ranking) (tick : ℕ) (numbers : RuleNumbers) → map (λ (rule : NamedTree). rule.name) (rules_by ranks tick numbers) ≡ rule_names ranks
rule_names_are Ignored tick numbers = refl
rule_names_are Counted tick numbers = refl

held_taken : (ranks : Ranking) (tick : ℕ) (numbers : RuleNumbers) (tables : List Data) (rules : List NamedTree) → AreScenarioRules ranks tick numbers tables rules →
    (name : List ℕ) → has_rule rules name ≡ is_name_taken ranks tables name
held_taken ranks tick numbers tables rules h name =
    let e : map (λ (rule : NamedTree). rule.name) rules ≡ rule_names ranks ++ map formula_name_in tables =
    ap (map (λ (rule : NamedTree). rule.name)) h.order ∙ map-append (λ (rule : NamedTree). rule.name) (rules_by ranks tick numbers) h.added
    ∙ ap (λ l. l ++ map (λ (rule : NamedTree). rule.name) h.added) (rule_names_are ranks tick numbers)
    ∙ ap (λ l. rule_names ranks ++ l) (names_added tick tables h.added h.are_added) in
    held_names rules name ∙ ap (list_any (λ taken. bytes_eq taken name)) e

same_new_cause : (t u : List ℕ → Bool) → ((name : List ℕ) → t name ≡ u name) → (found : Option (List ℕ)) → new_name_cause t found ≡ new_name_cause u found
same_new_cause t u same None = refl
same_new_cause t u same (Some name) = ap (λ b. if is_rule_name name && not b then None else Some cause.Range) (same name)

same_cause : (t u : List ℕ → Bool) → ((name : List ℕ) → t name ≡ u name) → (found : Option Data) → name_cause t found ≡ name_cause u found
same_cause t u same None = refl
same_cause t u same (Some found) = same_new_cause t u same (as_str found)

same_fault : (t u : List ℕ → Bool) (tick item : ℕ) (here : Data) (told : Option (Key × Cause)) → ((name : List ℕ) → t name ≡ u name) →
    IsFaultBy t tick item here told → IsFaultBy u tick item here told
same_fault t u tick item here told same h =
    subst (λ (why : Option Cause). IsTextFault tick item why (member_at (codes "text") here) told) (same_cause t u same (member_at (codes "name") here)) h

-- each table with those before it, of two lists together

append_nil : {A : Type 0} (a : List A) → a ++ [] ≡ a
append_nil [] = refl
append_nil (x ∷ a) = ap (λ l. x ∷ l) (append_nil a)

append_one : {A : Type 0} (a : List A) (x : A) (b : List A) → (a ++ x ∷ []) ++ b ≡ a ++ x ∷ b
append_one [] x b = refl
append_one (y ∷ a) x b = ap (λ l. y ∷ l) (append_one a x b)

with_before-append : {A : Type 0} (front a b : List A) → with_before front (a ++ b) ≡ with_before front a ++ with_before (front ++ a) b
with_before-append front [] b = ap (λ f. with_before f b) (sym (append_nil front))
with_before-append front (x ∷ a) b =
    ap (λ l. (front, x) ∷ l) (with_before-append (front ++ x ∷ []) a b ∙ ap (λ f. with_before (front ++ x ∷ []) a ++ with_before f b) (append_one front x a))

-- the table at which the tests stand: it has no fault, or it has the first

pub one_more_table : (ranks : Ranking) (tick : ℕ) (numbers : RuleNumbers) (tables : List Data) (here : Data) (rules after : List NamedTree) (item : ℕ) →
    Stands ranks tick numbers tables rules item → Adds tick here rules after → IsFaultBy (has_rule rules) tick item here None →
    Stands ranks tick numbers (tables ++ here ∷ []) after (item + 1)
one_more_table ranks tick numbers tables here rules after item h adds none =
    let many = length-append tables (here ∷ []) in
    let at = h.item in
    let passes : IsTableFault ranks tick (tables, here) None =
    subst (λ (n : ℕ). IsFaultBy (is_name_taken ranks tables) tick n here None) at
    (same_fault (has_rule rules) (is_name_taken ranks tables) tick item here None (held_taken ranks tick numbers tables rules h.rules) none) in
    record {
      item = omega arith;
      rules = record {
        added = h.rules.added ++ adds.rule ∷ [];
        order = adds.behind ∙ ap (λ l. l ++ adds.rule ∷ []) h.rules.order ∙ append_assoc (rules_by ranks tick numbers) h.rules.added (adds.rule ∷ []);
        are_added = one_more_added tick tables here h.rules.added adds.rule h.rules.are_added adds.added;
      };
      faultless = subst (λ l. All (λ pair. IsTableFault ranks tick pair None) l) (sym (with_before-append [] tables (here ∷ [])))
          (all_append (λ pair. IsTableFault ranks tick pair None) (with_before [] tables) ((tables, here) ∷ []) h.faultless
          (All-cons (λ pair. IsTableFault ranks tick pair None) (tables, here) [] passes (all_none (λ pair. IsTableFault ranks tick pair None))));
    }
  where
    append_assoc : {A : Type 0} (a b c : List A) → (a ++ b) ++ c ≡ a ++ (b ++ c)
    append_assoc [] b c = refl
    append_assoc (x ∷ a) b c = ap (λ l. x ∷ l) (append_assoc a b c)

pub fault_here : (ranks : Ranking) (tick : ℕ) (numbers : RuleNumbers) (all tables : List Data) (here : Data) (behind : List Data) (rules : List NamedTree) (item : ℕ) (told : Key × Cause) →
    all ≡ tables ++ here ∷ behind → Stands ranks tick numbers tables rules item → IsFaultBy (has_rule rules) tick item here (Some told) →
    IsFormulaFault ranks tick all (Some told)
fault_here ranks tick numbers all tables here behind rules item told e h fault =
    let at = h.item in
    let fails : IsTableFault ranks tick (tables, here) (Some told) =
    subst (λ (n : ℕ). IsFaultBy (is_name_taken ranks tables) tick n here (Some told)) at
    (same_fault (has_rule rules) (is_name_taken ranks tables) tick item here (Some told) (held_taken ranks tick numbers tables rules h.rules) fault) in
    subst (λ (l : List Data). IsFormulaFault ranks tick l (Some told)) (sym e)
    (subst (λ l. IsFound (IsTableFault ranks tick) l (Some told)) (sym (with_before-append [] tables (here ∷ behind)))
    (first_behind (IsTableFault ranks tick) (with_before [] tables) ((tables, here) ∷ with_before (tables ++ here ∷ []) behind) told h.faultless
    (first_here (IsTableFault ranks tick) (tables, here) (with_before (tables ++ here ∷ []) behind) told fails)))

-- the same of the values of an array

split_at : {A : Type 0} (l : List A) (i : ℕ) (d : A) → i < length l → l ≡ take i l ++ slice_index_or l i d ∷ drop (suc i) l
split_at [] i d h = absurd (omega arith)
split_at (x ∷ l) zero d h = refl
split_at (x ∷ l) (suc i) d h = ap (λ r. x ∷ r) (split_at l i d (omega arith))

pub values_split : (values : List Value) (i : ℕ) (here : Value) → here ≡ slice_index_or values i here → i < length values →
    map view values ≡ map view (take i values) ++ view here ∷ map view (drop (suc i) values)
values_split values i here e h =
    ap (map view) (split_at values i here h) ∙ map-append view (take i values) (slice_index_or values i here ∷ drop (suc i) values)
    ∙ ap (λ v. map view (take i values) ++ view v ∷ map view (drop (suc i) values)) (sym e)

pub values_more : (values : List Value) (i : ℕ) (here : Value) → here ≡ slice_index_or values i here → i < length values →
    map view (take (i + 1) values) ≡ map view (take i values) ++ view here ∷ []
values_more values i here e h =
    ap (map view) (take_more values i here h) ∙ map-append view (take i values) (slice_index_or values i here ∷ [])
    ∙ ap (λ v. map view (take i values) ++ view v ∷ []) (sym e)

-- a test that was passed
pub at_most : (m n : ℕ) → true ≡ nat_le m n → m ≤ n
at_most m n h = grind (arith, nat_tests)
