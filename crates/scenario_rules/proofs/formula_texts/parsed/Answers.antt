use Rattle.std.proofs.Common.{refl, arith}
use Rattle.mtl_language.specs.FormulaReading.{tree, syntax_fault, number_fault}
use Rattle.mtl_formulas.specs.FormulaTree.{tree_of}
use Rattle.scenario_rules.proofs.Places.{number_place, syntax_place}
use Rattle.scenario_rules.proofs.Texts.{fault_told}
use Rattle.scenario_rules.proofs.formula_texts.parsed.Goals as goal

pub fault_at_byte-requires : goal.fault_at_byte-requires
fault_at_byte-requires c =
    let place = syntax_place c.args.text.now c.in-Err-Syntax.index (rw c.in-Err-Syntax.field-0-is at c.in-Err-Syntax.ensures.right) in
    let short = c.requires.short in
    omega arith

pub fault_at_byte-requires-in-Err-Number : goal.fault_at_byte-requires-in-Err-Number
fault_at_byte-requires-in-Err-Number c =
    let place = number_place c.args.text.now c.args.tick c.in-Err-Number.index (rw c.in-Err-Number.field-0-is at c.in-Err-Number.ensures.right) in
    let short = c.requires.short in
    omega arith

pub returns-in-Ok-clause-faultless : goal.returns-in-Ok-clause-faultless
returns-in-Ok-clause-faultless c = (tree (tree_of c.in-Ok.formula), c.in-Ok.ensures.right, refl)

pub returns-in-Err-Syntax-clause-fault : goal.returns-in-Err-Syntax-clause-fault
returns-in-Err-Syntax-clause-fault c =
    fault_told c.args.tick c.args.text.now c.args.key c.in-Err-Syntax.index c.fault_at_byte.result c.fault_at_byte.ensures
    (syntax_fault c.in-Err-Syntax.index, rw c.in-Err-Syntax.field-0-is at c.in-Err-Syntax.ensures.right, refl)

pub returns-in-Err-Number-clause-fault : goal.returns-in-Err-Number-clause-fault
returns-in-Err-Number-clause-fault c =
    fault_told c.args.tick c.args.text.now c.args.key c.in-Err-Number.index c.fault_at_byte-in-Err-Number.result c.fault_at_byte-in-Err-Number.ensures
    (number_fault c.in-Err-Number.index, rw c.in-Err-Number.field-0-is at c.in-Err-Number.ensures.right, refl)
