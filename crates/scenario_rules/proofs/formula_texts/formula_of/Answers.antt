use Rattle.std.proofs.Common.{◌≤◌, ◌<◌, length, inr, refl, arith}
use Rattle.std.proofs.lemmas.Bool.Decides.{nat_tests}
use Rattle.scenario_rules.proofs.Texts.{short_fault, short_told}
use Rattle.scenario_rules.proofs.formula_texts.formula_of.Goals as goal

pub returns-then-text-gt1024-clause-fault : goal.returns-then-text-gt1024-clause-fault
returns-then-text-gt1024-clause-fault c =
    let long : 1024 < length c.args.text.now = grind (arith, nat_tests, c.if-text-gt1024.true) in
    (refl, inr (long, refl))

pub returns-clause-faultless : goal.returns-clause-faultless
returns-clause-faultless c =
    let short : length c.args.text.now ≤ 1024 = grind (arith, nat_tests, c.if-text-gt1024.false) in
    short_told c.args.tick c.args.text.now c.parsed.result short c.parsed.ensures.faultless

pub returns-clause-fault : goal.returns-clause-fault
returns-clause-fault c =
    let short : length c.args.text.now ≤ 1024 = grind (arith, nat_tests, c.if-text-gt1024.false) in
    short_fault c.args.tick c.args.text.now c.args.key c.parsed.result short c.parsed.ensures.fault
