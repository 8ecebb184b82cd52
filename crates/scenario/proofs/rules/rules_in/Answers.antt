use Rattle.toml.specs.View.{table_view}
use Rattle.scenario.specs.Purposes.{ranking_of}
use Rattle.scenario.proofs.Firsts.{formulas_found, formulas_none_of}
use Rattle.scenario.proofs.rules.rules_in.Goals as goal

pub returns-clause-faultless : goal.returns-clause-faultless
returns-clause-faultless c =
    formulas_none_of (ranking_of c.args.purpose (table_view c.args.document.now)) (table_view c.args.document.now) c.rules_with.result
    (rw (c.ranking_of.ensures, c.formula_tables.ensures.tables, c.tick_of.ensures.value) at c.rules_with.ensures.faultless)
    (rw (c.ranking_of.ensures, c.formula_tables.ensures.tables, c.rule_numbers_in.ensures.values, c.tick_of.ensures.value) at c.rules_with.ensures.weighed)

pub returns-clause-fault : goal.returns-clause-fault
returns-clause-fault c =
    formulas_found (ranking_of c.args.purpose (table_view c.args.document.now)) (table_view c.args.document.now) c.rules_with.result
    (rw (c.ranking_of.ensures, c.formula_tables.ensures.tables, c.rule_numbers_in.ensures.values, c.tick_of.ensures.value) at c.rules_with.ensures.fault)
