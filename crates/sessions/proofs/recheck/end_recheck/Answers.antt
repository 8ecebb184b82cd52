use Rattle.std.proofs.Common.{Bool, Ok, refl, subst, sym}
use Rattle.std.proofs.lemmas.Result.{IfErr-weaker, IfOk-weaker}
use Rattle.outside.proofs.ForCallers.{err_cause}
use Rattle.tasks.specs.declared.mode.Mode.TheVariants as mode
use Rattle.lattice.specs.Grids.{plans_of}
use Rattle.refutation_check.proofs.ForCallers.{not_both}
use Rattle.refutation_check.specs.CheckedRows.{why_rows}
use Rattle.sessions.specs.Endings.{IsAnswerOf}
use Rattle.sessions.proofs.Rechecking.{bad_cause, no_bad_entry, recheck_report}
use Rattle.sessions.proofs.recheck.end_recheck.Goals as goal

pub returns-in_err-situation-clause-cause : goal.returns-in_err-situation-clause-cause
returns-in_err-situation-clause-cause c =
    err_cause _ _ _ c.from_residual.ensures.1 (λ log judged. c.in_err-situation.ensures.cause log judged mode.Recheck c.args.rows.now refl)

pub returns-clause-report : goal.returns-clause-report
returns-clause-report c =
    let s = c.in_ok-situation.situation in
    IfOk-weaker c.checked_report.result _ _ (λ ending is log judged.
    recheck_report c.args.scenario log c.args.rows.now s (c.in_ok-situation.ensures.situation log judged) ending.bytes.items (plans_of s.lattice) is.right is.fail refl is.is)
    c.checked_report.ensures.right

pub returns-clause-answer : goal.returns-clause-answer
returns-clause-answer c =
    let s = c.in_ok-situation.situation in
    let rows = c.args.rows.now in
    IfOk-weaker c.checked_report.result _ _ (λ ending is log judged.
    subst (λ (b : Bool). IsAnswerOf mode.Recheck rows c.args.scenario log (Ok b)) (sym is.search)
    (no_bad_entry c.args.scenario log rows s (c.in_ok-situation.ensures.situation log judged) judged.calm (λ k. not_both s (why_rows rows) k is.right)))
    c.checked_report.ensures.right

pub returns-clause-cause : goal.returns-clause-cause
returns-clause-cause c =
    IfErr-weaker c.checked_report.result _ _ (λ why bad log judged.
    bad_cause c.args.scenario log c.args.rows.now c.in_ok-situation.situation (c.in_ok-situation.ensures.situation log judged) judged.calm why bad)
    c.checked_report.ensures.bad
