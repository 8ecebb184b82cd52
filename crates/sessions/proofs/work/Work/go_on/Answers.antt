use Rattle.std.proofs.Common.{◌++◌, ◌≡◌, Err, ap, subst, sym, ◌∙◌, length}
use Rattle.outside.proofs.ForCallers.{same_fault}
use Rattle.traces.specs.declared.fault.TickFault.{TickFault as AuditFault}
use Rattle.traces.specs.declared.fault.TickFault.TheVariants as audit_fault
use Rattle.sessions.specs.Refusals.{HasManySettled}
use Rattle.log_lines.specs.Standing.{keeping_of}
use Rattle.sessions.specs.Standing.{KeepsEnough, mode_by}
use Rattle.sessions.specs.Inner.Working.{IsDone}
use Rattle.sessions.specs.declared.work.Work.{Work}
use Rattle.sessions.proofs.Auditing.{last_of_rules, rows_of_rules_decided}
use Rattle.sessions.proofs.Watching.{alarms_of_rules_decided, last_alarms}
use Rattle.sessions.proofs.Working.{audit_goes_on, drill_goes_on, pairs_alone, points_go_on, watch_goes_on}
use Rattle.sessions.proofs.work.Work.go_on.Goals as goal

pub settle-requires-clause-remembers : goal.settle-requires-clause-remembers
settle-requires-clause-remembers c = subst (λ (w : Work). KeepsEnough w c.args.scenario.now (keeping_of c.args.judge.now)) c.in-Audit.is c.requires.keeping

pub settle-requires-in-Watch-clause-remembers : goal.settle-requires-in-Watch-clause-remembers
settle-requires-in-Watch-clause-remembers c = subst (λ (w : Work). KeepsEnough w c.args.scenario.now (keeping_of c.args.judge.now)) c.in-Watch.is c.requires.keeping

pub returns-in_err-rows-in-Audit-clause-many : goal.returns-in_err-rows-in-Audit-clause-many
returns-in_err-rows-in-Audit-clause-many c = λ told lines more works.
    let scenario = c.args.scenario.now in
    let fault = pairs_alone c.in_err-rows-in-Audit.field-0.0 (sym (same_fault c.from_residual-in_err-rows-in-Audit.result _ _ c.from_residual-in_err-rows-in-Audit.ensures.1 told)) in
    let err : c.settle.result ≡ Err audit_fault.TooManyPairs = c.in_err-rows-in-Audit.was ∙ ap (λ (e : AuditFault). Err e) fault in
    let done = subst (λ (w : Work). IsDone w scenario lines works.given) c.in-Audit.is works.done in
    subst (λ (w : Work). HasManySettled (mode_by w) scenario (lines ++ more)) (sym c.in-Audit.is) (c.settle.ensures.many err lines more done.0.0 done.1 works.judged)

pub write_stretches-requires : goal.write_stretches-requires
write_stretches-requires c =
    let scenario = c.args.scenario.now in
    let ready = c.requires.ready in
    let done = subst (λ (w : Work). IsDone w scenario ready.lines ready.works.given) c.in-Audit.is ready.works.done in
    let decided = c.in_ok-rows-in-Audit.ensures.decided ready.lines ready.more done.0.0 done.1 ready.works.judged in
    rw c.as_slice.ensures.value (last_of_rules scenario done.0.0 c.in_ok-rows-in-Audit.rows.items (rows_of_rules_decided scenario (ready.lines ++ ready.more) _ decided))

pub returns-in_ok-write_line-in-Points-clause-goes_on : goal.returns-in_ok-write_line-in-Points-clause-goes_on
returns-in_ok-write_line-in-Points-clause-goes_on c = λ front has.
    rw c.in-Points.is (points_go_on c.args.scenario.now c.args.judge.now c.args.judged.now front c.write_line.new.text (c.in_ok-write_line-in-Points.ensures front has)
    (subst (λ (w : Work). KeepsEnough w c.args.scenario.now (keeping_of c.args.judge.now)) c.in-Points.is c.requires.keeping))

pub returns-in_ok-write_stretches-in-Audit-clause-goes_on : goal.returns-in_ok-write_stretches-in-Audit-clause-goes_on
returns-in_ok-write_stretches-in-Audit-clause-goes_on c = λ front has.
    rw c.in-Audit.is
    (audit_goes_on c.args.scenario.now c.args.judge.now c.args.judged.now front c.write_stretches.new.text c.in-Audit.audit c.settle.new.self c.in_ok-rows-in-Audit.rows.items
    c.in_ok-rows-in-Audit.ensures.stands c.in_ok-rows-in-Audit.ensures.decided c.in_ok-rows-in-Audit.ensures.remembers (rw c.as_slice.ensures.value at (c.in_ok-write_stretches-in-Audit.ensures front has)))

pub returns-in_ok-write_stretches-in-Audit-clause-few : goal.returns-in_ok-write_stretches-in-Audit-clause-few
returns-in_ok-write_stretches-in-Audit-clause-few c = λ lines more works many.
    let scenario = c.args.scenario.now in
    let done = subst (λ (w : Work). IsDone w scenario lines works.given) c.in-Audit.is works.done in
    c.in_ok-rows-in-Audit.ensures.few lines more done.0.0 done.1 works.judged (subst (λ (w : Work). HasManySettled (mode_by w) scenario (lines ++ more)) c.in-Audit.is many)

-- ---- a watch

pub returns-in_err-alarms-in-Watch-clause-many : goal.returns-in_err-alarms-in-Watch-clause-many
returns-in_err-alarms-in-Watch-clause-many c = λ told lines more works.
    let scenario = c.args.scenario.now in
    let fault = pairs_alone c.in_err-alarms-in-Watch.field-0.0 (sym (same_fault c.from_residual-in_err-alarms-in-Watch.result _ _ c.from_residual-in_err-alarms-in-Watch.ensures.1 told)) in
    let err : c.settle-in-Watch.result ≡ Err audit_fault.TooManyPairs = c.in_err-alarms-in-Watch.was ∙ ap (λ (e : AuditFault). Err e) fault in
    let done = subst (λ (w : Work). IsDone w scenario lines works.given) c.in-Watch.is works.done in
    subst (λ (w : Work). HasManySettled (mode_by w) scenario (lines ++ more)) (sym c.in-Watch.is) (c.settle-in-Watch.ensures.many err lines more done.0.0 done.1 works.judged)

pub write_alarms-requires : goal.write_alarms-requires
write_alarms-requires c =
    let scenario = c.args.scenario.now in
    let ready = c.requires.ready in
    let done = subst (λ (w : Work). IsDone w scenario ready.lines ready.works.given) c.in-Watch.is ready.works.done in
    let decided = c.in_ok-alarms-in-Watch.ensures.decided ready.lines ready.more done.0.0 done.1 ready.works.judged in
    rw c.as_slice-in-Watch.ensures.value (last_alarms (length scenario.rules) done.0.0 c.in_ok-alarms-in-Watch.alarms.items (alarms_of_rules_decided scenario (ready.lines ++ ready.more) _ decided))

pub returns-in_ok-write_alarms-in-Watch-clause-goes_on : goal.returns-in_ok-write_alarms-in-Watch-clause-goes_on
returns-in_ok-write_alarms-in-Watch-clause-goes_on c = λ front has.
    rw c.in-Watch.is
    (watch_goes_on c.args.scenario.now c.args.judge.now c.args.judged.now front c.write_alarms.new.text c.in-Watch.watch c.settle-in-Watch.new.self c.in_ok-alarms-in-Watch.alarms.items
    c.in_ok-alarms-in-Watch.ensures.stands c.in_ok-alarms-in-Watch.ensures.decided c.in_ok-alarms-in-Watch.ensures.remembers (rw c.as_slice-in-Watch.ensures.value at (c.in_ok-write_alarms-in-Watch.ensures front has)))

pub returns-in_ok-write_alarms-in-Watch-clause-few : goal.returns-in_ok-write_alarms-in-Watch-clause-few
returns-in_ok-write_alarms-in-Watch-clause-few c = λ lines more works many.
    let scenario = c.args.scenario.now in
    let done = subst (λ (w : Work). IsDone w scenario lines works.given) c.in-Watch.is works.done in
    c.in_ok-alarms-in-Watch.ensures.few lines more done.0.0 done.1 works.judged (subst (λ (w : Work). HasManySettled (mode_by w) scenario (lines ++ more)) c.in-Watch.is many)

-- ---- a drill

pub settle-requires-in-Drill-clause-remembers : goal.settle-requires-in-Drill-clause-remembers
settle-requires-in-Drill-clause-remembers c = subst (λ (w : Work). KeepsEnough w c.args.scenario.now (keeping_of c.args.judge.now)) c.in-Drill.is c.requires.keeping

pub settle-requires-in-Drill-clause-one_log : goal.settle-requires-in-Drill-clause-one_log
settle-requires-in-Drill-clause-one_log c =
    let ready = c.requires.ready in
    let done = subst (λ (w : Work). IsDone w c.args.scenario.now ready.lines ready.works.given) c.in-Drill.is ready.works.done in
    record { lines = ready.lines; more = ready.more; given = done.1.0; stands = done.1.1; judged = ready.works.judged }

pub returns-in_err-settle-in-Drill-clause-many : goal.returns-in_err-settle-in-Drill-clause-many
returns-in_err-settle-in-Drill-clause-many c = λ told lines more works.
    let scenario = c.args.scenario.now in
    let fault = pairs_alone c.in_err-settle-in-Drill.field-0.0 (sym (same_fault c.from_residual-in_err-settle-in-Drill.result _ _ c.from_residual-in_err-settle-in-Drill.ensures.1 told)) in
    let err : c.settle-in-Drill.result ≡ Err audit_fault.TooManyPairs = c.in_err-settle-in-Drill.was ∙ ap (λ (e : AuditFault). Err e) fault in
    let done = subst (λ (w : Work). IsDone w scenario lines works.given) c.in-Drill.is works.done in
    subst (λ (w : Work). HasManySettled (mode_by w) scenario (lines ++ more)) (sym c.in-Drill.is) (c.settle-in-Drill.ensures.many err lines more done.1.0 done.1.1 works.judged)

pub returns-in_ok-settle-in-Drill-clause-goes_on : goal.returns-in_ok-settle-in-Drill-clause-goes_on
returns-in_ok-settle-in-Drill-clause-goes_on c = λ front has.
    rw c.in-Drill.is
    (drill_goes_on c.args.scenario.now c.args.judge.now c.args.judged.now front c.args.text.now c.in-Drill.audit c.settle-in-Drill.new.self c.in_ok-settle-in-Drill.field-0.items
    c.in_ok-settle-in-Drill.ensures.stands c.in_ok-settle-in-Drill.ensures.remembers has)

pub returns-in_ok-settle-in-Drill-clause-few : goal.returns-in_ok-settle-in-Drill-clause-few
returns-in_ok-settle-in-Drill-clause-few c = λ lines more works many.
    let scenario = c.args.scenario.now in
    let done = subst (λ (w : Work). IsDone w scenario lines works.given) c.in-Drill.is works.done in
    c.in_ok-settle-in-Drill.ensures.few lines more done.1.0 done.1.1 works.judged (subst (λ (w : Work). HasManySettled (mode_by w) scenario (lines ++ more)) c.in-Drill.is many)
