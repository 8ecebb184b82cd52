use Rattle.std.proofs.Common.{List, Some, map, take, drop, suc, ◌+◌, sym, subst}
use Rattle.std.proofs.lemmas.Result.{err_from_is_err_and}
use Rattle.toml.specs.Data.{Data}
use Rattle.toml.specs.View.{view}
use Rattle.rule_set.specs.NamedTrees.{has_rule}
use Rattle.scenario_rules.specs.FormulaTables.{IsFaultBy, IsFormulaFault}
use Rattle.scenario_rules.specs.Inner.{Stands}
use Rattle.scenario_keys.proofs.ForCallers.{faults_alike}
use Rattle.scenario_rules.proofs.Added.{fault_here, one_more_table, values_more, values_split}
use Rattle.scenario_rules.proofs.scenario_rules.all_rules.Goals as goal

pub returns-in_err-add_table-clause-fault : goal.returns-in_err-add_table-clause-fault
returns-in_err-add_table-clause-fault c =
    let values = c.args.tables.now in
    let here = c.table-item.result in
    let i = c.loop-table.table-index in
    let p = err_from_is_err_and c.from_residual-in_err-add_table.result c.from_residual-in_err-add_table.ensures.1 in
    rw (p.1, p.2)
    (faults_alike (λ told. IsFaultBy (has_rule c.loop-table.rules) c.args.tick c.loop-table.item (view here) (Some told))
    (λ told. IsFormulaFault c.args.ranks c.args.tick (map view values) (Some told))
    (λ told h. fault_here c.args.ranks c.args.tick c.args.numbers.now (map view values) (map view (take i values)) (view here) (map view (drop (suc i) values)) c.loop-table.rules
    c.loop-table.item told (values_split values i here c.table-item.is c.loop-table-test.true) c.loop-table.invariant h)
    c.in_err-add_table.field-0.0 c.in_err-add_table.ensures.fault)

pub loop-table-preserved : goal.loop-table-preserved
loop-table-preserved c =
    let values = c.args.tables.now in
    let here = c.table-item.result in
    let i = c.loop-table.table-index in
    subst (λ (l : List Data). Stands c.args.ranks c.args.tick c.args.numbers.now l c.add_table.new.rules (c.loop-table.item + 1))
    (sym (values_more values i here c.table-item.is c.loop-table-test.true))
    (one_more_table c.args.ranks c.args.tick c.args.numbers.now (map view (take i values)) (view here) c.loop-table.rules c.add_table.new.rules c.loop-table.item
    c.loop-table.invariant c.in_ok-add_table.ensures.added c.in_ok-add_table.ensures.faultless)
