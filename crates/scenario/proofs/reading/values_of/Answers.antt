use Rattle.std.proofs.Common.{Bool, List, Some, ap, sym, subst, ◌∙◌}
use Rattle.std.proofs.lemmas.Result.{err_from_is_err_and}
use Rattle.toml.specs.View.{table_view}
use Rattle.rule_set.specs.NamedTrees.{NamedTree}
use Rattle.scenario_keys.specs.FirstFaults.{IsFound}
use Rattle.scenario_keys.specs.ScenarioKeys.{first_rows, formula_rows}
use Rattle.scenario_keys.proofs.ForCallers.{faults_alike}
use Rattle.scenario.specs.DocumentFaults.{IsFirstFault, IsTold}
use Rattle.scenario.specs.KeyFaults.{basis_of}
use Rattle.scenario.specs.Purposes.{ranking_of}
use Rattle.scenario.specs.RuleValues.{AreRulesOf}
use Rattle.scenario.specs.ScenarioValues.{scenario_of, scenario_with}
use Rattle.scenario_values.specs.declared.values.Scenario.{Scenario}
use Rattle.scenario.proofs.Firsts.{faultless, first_in_formulas, first_in_front, first_in_own, first_plain, no_fault, read_from}
use Rattle.scenario.proofs.Held.{without_own}
use Rattle.scenario.proofs.reading.values_of.Goals as goal

pub returns-in-Some-clause-fault : goal.returns-in-Some-clause-fault
returns-in-Some-clause-fault c =
    let document = table_view c.args.document.now in
    let first = (rw c.basis_of-basis.ensures.value at c.in-Some.ensures) (ranking_of c.args.purpose document) in
    first_in_front c.args.purpose document (c.in-Some.key, c.in-Some.cause) first

pub rules_in-requires : goal.rules_in-requires
rules_in-requires c =
    let purpose = c.args.purpose in
    let document = table_view c.args.document.now in
    let front = (rw c.basis_of-basis.ensures.value at c.in_default.ensures) (ranking_of purpose document) in
    without_own purpose.need_own document (no_fault (basis_of purpose.need_own document) (ranking_of purpose document) document first_rows first_plain front)

pub returns-in_err-rules-clause-fault : goal.returns-in_err-rules-clause-fault
returns-in_err-rules-clause-fault c =
    let purpose = c.args.purpose in
    let document = table_view c.args.document.now in
    let ranks = ranking_of purpose document in
    let front = (rw c.basis_of-basis.ensures.value at c.in_default.ensures) ranks in
    let p = err_from_is_err_and c.from_residual.result c.from_residual.ensures.1 in
    rw (p.1, p.2)
    (faults_alike (λ told. (need_own : Bool) → IsFound (IsTold (basis_of need_own document) ranks document) formula_rows (Some told)) (IsFirstFault purpose document)
    (λ told h. first_in_formulas purpose document told front (h purpose.need_own))
    c.in_err-rules.field-0.0 c.in_err-rules.ensures.fault)

pub returns-in-Some-own_fault-clause-fault : goal.returns-in-Some-own_fault-clause-fault
returns-in-Some-own_fault-clause-fault c =
    let purpose = c.args.purpose in
    let document = table_view c.args.document.now in
    let ranks = ranking_of purpose document in
    let front = (rw c.basis_of-basis.ensures.value at c.in_default.ensures) ranks in
    let first = (rw c.basis_of-basis.ensures.value at c.in-Some-own_fault.ensures) ranks in
    first_in_own purpose document (c.in-Some-own_fault.key, c.in-Some-own_fault.cause) front (c.in_ok-rules.ensures.faultless purpose.need_own) first

pub scenario_in-requires-clause-faultless : goal.scenario_in-requires-clause-faultless
scenario_in-requires-clause-faultless c =
    let purpose = c.args.purpose in
    let document = table_view c.args.document.now in
    let front = (rw c.basis_of-basis.ensures.value at c.in_default.ensures) (ranking_of purpose document) in
    without_own purpose.need_own document (no_fault (basis_of purpose.need_own document) (ranking_of purpose document) document first_rows first_plain front)

pub scenario_in-requires-clause-own : goal.scenario_in-requires-clause-own
scenario_in-requires-clause-own c =
    let purpose = c.args.purpose in
    let document = table_view c.args.document.now in
    let ranks = ranking_of purpose document in
    let front = (rw c.basis_of-basis.ensures.value at c.in_default.ensures) ranks in
    let own = (rw c.basis_of-basis.ensures.value at c.in_default-own_fault.ensures) ranks in
    read_from purpose.need_own ranks document front own

pub returns-clause-faultless : goal.returns-clause-faultless
returns-clause-faultless c =
    let purpose = c.args.purpose in
    let document = table_view c.args.document.now in
    let ranks = ranking_of purpose document in
    let front = (rw c.basis_of-basis.ensures.value at c.in_default.ensures) ranks in
    let own = (rw c.basis_of-basis.ensures.value at c.in_default-own_fault.ensures) ranks in
    faultless purpose document front (c.in_ok-rules.ensures.faultless purpose.need_own) own

pub returns-clause-rules : goal.returns-clause-rules
unfolding scenario_with
returns-clause-rules c =
    subst (λ (r : List NamedTree). AreRulesOf c.args.purpose (table_view c.args.document.now) r)
    (sym (ap (λ (s : Scenario). s.rules) c.in_ok-scenario_in.ensures.values)) c.in_ok-rules.ensures.rules

pub returns-clause-values : goal.returns-clause-values
unfolding scenario_with
returns-clause-values c =
    c.in_ok-scenario_in.ensures.values
    ∙ ap (scenario_of c.args.purpose (table_view c.args.document.now)) (sym (ap (λ (s : Scenario). s.rules) c.in_ok-scenario_in.ensures.values))
