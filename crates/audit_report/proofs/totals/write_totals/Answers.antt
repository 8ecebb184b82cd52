use Rattle.std.proofs.Common.{◌++◌, ap, ap₂, subst, arith}
use Rattle.std.proofs.lemmas.List.{take_all}
use Rattle.audit_report.specs.ReportTexts.{HasText}
use Rattle.audit_report.specs.TotalRows.{total_rows}
use Rattle.audit_report.proofs.RuleRows.{one_total_on}
use Rattle.audit_report.proofs.totals.write_totals.Goals as goal

pub loop-rule-preserved : goal.loop-rule-preserved
loop-rule-preserved c = λ front has.
    subst (HasText c.write.new.self) (one_total_on c.args.rules.now c.args.totals.now front c.loop-rule.rule _ _ (omega (arith, c.loop-rule-test.true, c.len-rule-end.ensures.count)) c.requires c.name.ensures.name)
    (c.in_ok-write.ensures _ (c.loop-rule.invariant front has))

pub returns : goal.returns
returns c = λ front has.
    let rules = c.args.rules.now in
    let totals = c.args.totals.now in
    let past = c.loop-rule-test.false in
    subst (HasText c.loop-rule.text)
    (ap (λ l. front ++ l) (ap₂ total_rows (take_all c.loop-rule.rule rules (omega (arith, past, c.len-rule-end.ensures.count))) (take_all c.loop-rule.rule totals (omega (arith, past, c.len-rule-end.ensures.count, c.requires)))))
    (c.loop-rule.invariant front has)
