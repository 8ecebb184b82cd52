use Rattle.std.proofs.Common.{ℕ, List, ◌≡◌, inl, inr, true, false, IsTrue, Err, refl, subst}
use Rattle.command_line.proofs.Asked.{asked_or_nothing}
use Rattle.command_line.specs.Requests.{AskFor}
use Rattle.command_line.specs.declared.request.ReportRequest.{ReportRequest}
use Rattle.command_line.specs.declared.request.Request.{Request}
use Rattle.command_line.specs.declared.request.Request.TheVariants as asks
use Rattle.colregs_program.specs.Answers.{AskForMigration, IsOfMigration}
use Rattle.colregs_program.specs.declared.status.Status.{Status}
use Rattle.colregs_program.proofs.Due.{either_alone, migration_due}
use Rattle.colregs_program.proofs.Refusals.{asked_once, asked_twice, asked_where_it_fails, bytes_told, calm_told, drill_status, drill_told, entry_told, keeps_same, limit_told, log_calm_told, log_decides, memory_failed, memory_front, met_is, no_report, no_rows_migrated, not_asked, not_set_up, nothing_told, only_finished, own_told, pairs_told, put_told, read_told, reported_met, reported_so, rows_too, runs, set_up_alone, set_up_drills, set_up_limit, set_up_unfinished, shelf_calm_told, stream_alone, stream_limit, targets_told, unread_too, vessels_told, words_alone, words_limit}
use Rattle.command_line.proofs.ForCallers.{seed_in_range}
use Rattle.colregs_program.proofs.SettingUp.{options_in_range}
use Rattle.colregs_program.specs.declared.status.Status.TheVariants as status
use Rattle.colregs_program.proofs.program.run.Goals as goal

-- what the words ask for, in each arm
report_is : (words : List (List ℕ)) (request : Request) (report : ReportRequest) → request ≡ asks.Report report → AskFor words request → AskFor words (asks.Report report)
report_is words request report is asked = subst (AskFor words) is asked

migration_is : (words : List (List ℕ)) (request : Request) (name : List ℕ) → request ≡ asks.Migration name → AskFor words request → AskForMigration words name
migration_is words request name is asked = subst (AskFor words) is asked

pub set_up-requires : goal.set_up-requires
set_up-requires g c = options_in_range c.args.words.now c.in-Report.report (report_is c.args.words.now _ c.in-Report.report c.in-Report.is c.in-Ok.ensures.asked)

-- ---- no request

pub returns-in-Err-clause-due : goal.returns-in-Err-clause-due
returns-in-Err-clause-due g c = λ due is shelf source sink.
    let told = rw c.into.ensures at c.tell.ensures.same in
    not_asked c.args.words.now (Err c.in-Err.fault) c.in-Err.fault _ _ refl told _ _ due c.in-Err.ensures.refused is

pub returns-in-Err-clause-no_usage : goal.returns-in-Err-clause-no_usage
returns-in-Err-clause-no_usage g c = λ request asked is.
    let told = rw c.into.ensures at c.tell.ensures.same in
    let memory = memory_failed c.args.words.now (Err c.in-Err.fault) c.in-Err.fault _ _ refl told request (c.in-Err.ensures.accepted request asked) in
    cc (memory, is)

pub returns-in-Err-clause-fetched : goal.returns-in-Err-clause-fetched
returns-in-Err-clause-fetched g c = λ request asked none.
    let told = rw c.into.ensures at c.tell.ensures.same in
    inr (memory_failed c.args.words.now (Err c.in-Err.fault) c.in-Err.fault _ _ refl told request (c.in-Err.ensures.accepted request asked), refl)

pub returns-in-Err-clause-limits : goal.returns-in-Err-clause-limits
returns-in-Err-clause-limits g c =
    let told = rw c.into.ensures at c.tell.ensures.same in
    limit_told _ _ _ told (words_limit c.in-Err.fault)

pub returns-in-Err-clause-fetched_rows : goal.returns-in-Err-clause-fetched_rows
returns-in-Err-clause-fetched_rows g c = λ request asked needs.
    let told = rw c.into.ensures at c.tell.ensures.same in
    inr (inr (memory_failed c.args.words.now (Err c.in-Err.fault) c.in-Err.fault _ _ refl told request (c.in-Err.ensures.accepted request asked), refl))

-- ---- a migration

pub returns-in-Migration-clause-rows_limit : goal.returns-in-Migration-clause-rows_limit
returns-in-Migration-clause-rows_limit g c = λ most is.
    let no = subst (λ (s : Status). IsTrue (IsOfMigration s)) is c.run_migration.ensures.answers in
    absurd (cc no)

pub returns-in-Migration-clause-headline : goal.returns-in-Migration-clause-headline
returns-in-Migration-clause-headline g c = λ finished.
    let done = c.run_migration.ensures.done finished in
    inr (done.0, (c.in-Migration.name, (migration_is c.args.words.now _ c.in-Migration.name c.in-Migration.is c.in-Ok.ensures.asked), done.1))

pub returns-in-Migration-clause-fetched_rows : goal.returns-in-Migration-clause-fetched_rows
returns-in-Migration-clause-fetched_rows g c = λ request asked needs.
    no_rows_migrated c.args.words.now request c.in-Migration.name _ asked (migration_is c.args.words.now _ c.in-Migration.name c.in-Migration.is c.in-Ok.ensures.asked) needs

pub returns-in-Migration-clause-due : goal.returns-in-Migration-clause-due
returns-in-Migration-clause-due g c = λ due is shelf source sink.
    c.run_migration.ensures.due due (migration_due c.args.words.now _ _ c.in-Migration.name due (migration_is c.args.words.now _ c.in-Migration.name c.in-Migration.is c.in-Ok.ensures.asked) is) shelf sink

pub returns-in-Migration-clause-usage : goal.returns-in-Migration-clause-usage
returns-in-Migration-clause-usage g c = λ is. absurd (c.run_migration.ensures.no_usage is)

pub returns-in-Migration-clause-no_usage : goal.returns-in-Migration-clause-no_usage
returns-in-Migration-clause-no_usage g c = λ request asked. c.run_migration.ensures.no_usage

pub returns-in-Migration-clause-shelf_fault : goal.returns-in-Migration-clause-shelf_fault
returns-in-Migration-clause-shelf_fault g c = λ is.
    let either = c.run_migration.ensures.shelf_fault is in
    (asks.Migration c.in-Migration.name, (migration_is c.args.words.now _ c.in-Migration.name c.in-Migration.is c.in-Ok.ensures.asked), elim either [ inl risen ↦ inl risen | inr missing ↦ inr (inl missing) ])

pub returns-in-Migration-clause-scenario_limit : goal.returns-in-Migration-clause-scenario_limit
returns-in-Migration-clause-scenario_limit g c = λ most is.
    let limit = c.run_migration.ensures.scenario_limit most is in
    (limit.0, (asks.Migration c.in-Migration.name, (migration_is c.args.words.now _ c.in-Migration.name c.in-Migration.is c.in-Ok.ensures.asked), limit.1))

pub returns-in-Migration-clause-refused : goal.returns-in-Migration-clause-refused
returns-in-Migration-clause-refused g c = λ key why is. (asks.Migration c.in-Migration.name, (migration_is c.args.words.now _ c.in-Migration.name c.in-Migration.is c.in-Ok.ensures.asked), c.run_migration.ensures.refused key why is)

pub returns-in-Migration-clause-write_fault : goal.returns-in-Migration-clause-write_fault
returns-in-Migration-clause-write_fault g c = λ is.
    let part = c.run_migration.ensures.write_fault is in
    (part.0, inr (c.in-Migration.name, (migration_is c.args.words.now _ c.in-Migration.name c.in-Migration.is c.in-Ok.ensures.asked), part.1))

pub returns-in-Migration-clause-drill : goal.returns-in-Migration-clause-drill
returns-in-Migration-clause-drill g c = λ request asked makes. either_alone c.args.words.now request c.in-Migration.name _ asked (migration_is c.args.words.now _ c.in-Migration.name c.in-Migration.is c.in-Ok.ensures.asked)

pub returns-in-Migration-clause-migration : goal.returns-in-Migration-clause-migration
returns-in-Migration-clause-migration g c = λ name asked. c.run_migration.ensures.answers

pub returns-in-Migration-clause-unfetched : goal.returns-in-Migration-clause-unfetched
returns-in-Migration-clause-unfetched g c = λ nothing. absurd (asked_or_nothing c.args.words.now c.in-Ok.request c.in-Ok.ensures.asked nothing)

-- ---- no scenario

pub returns-in-Err-set_up-clause-shelf_calm : goal.returns-in-Err-set_up-clause-shelf_calm
returns-in-Err-set_up-clause-shelf_calm g c = λ not.
    let told = rw c.into-in-Err-set_up.ensures at c.tell-in-Err-set_up.ensures.same in
    shelf_calm_told c.in-Err-set_up.fault _ _ _ _ told not (λ made. made) (λ had. c.in-Err-set_up.ensures.calm (λ is. had (cc is)))

pub returns-in-Err-set_up-clause-limits : goal.returns-in-Err-set_up-clause-limits
returns-in-Err-set_up-clause-limits g c =
    let told = rw c.into-in-Err-set_up.ensures at c.tell-in-Err-set_up.ensures.same in
    limit_told _ _ _ told (set_up_limit c.in-Err-set_up.fault)

pub returns-in-Err-set_up-clause-due : goal.returns-in-Err-set_up-clause-due
returns-in-Err-set_up-clause-due g c = λ due is shelf source sink.
    let told = rw c.into-in-Err-set_up.ensures at c.tell-in-Err-set_up.ensures.same in
    not_set_up _ _ _ c.in-Report.report due _ _ _ c.in-Err-set_up.fault _ (report_is c.args.words.now _ c.in-Report.report c.in-Report.is c.in-Ok.ensures.asked) is c.in-Err-set_up.ensures.due shelf told

pub returns-in-Err-set_up-clause-headline : goal.returns-in-Err-set_up-clause-headline
returns-in-Err-set_up-clause-headline g c = λ done.
    let told = rw c.into-in-Err-set_up.ensures at c.tell-in-Err-set_up.ensures.same in
    absurd (set_up_unfinished _ c.in-Err-set_up.fault _ told done)

pub returns-in-Err-set_up-clause-memory : goal.returns-in-Err-set_up-clause-memory
returns-in-Err-set_up-clause-memory g c = λ is. inl (keeps_same _)

pub returns-in-Err-set_up-clause-migration : goal.returns-in-Err-set_up-clause-migration
returns-in-Err-set_up-clause-migration g c = λ name asked. either_alone c.args.words.now c.in-Report.report name _ (report_is c.args.words.now _ c.in-Report.report c.in-Report.is c.in-Ok.ensures.asked) asked

pub returns-in-Err-set_up-clause-drill : goal.returns-in-Err-set_up-clause-drill
returns-in-Err-set_up-clause-drill g c = λ request asked makes.
    let told = rw c.into-in-Err-set_up.ensures at c.tell-in-Err-set_up.ensures.same in
    set_up_drills c.in-Report.report _ _ _ _ c.in-Err-set_up.fault _ told (unread_too c.args.words.now (asks.Report request) c.in-Report.report asked (report_is c.args.words.now _ c.in-Report.report c.in-Report.is c.in-Ok.ensures.asked) makes) c.in-Err-set_up.ensures.cause

pub returns-in-Err-set_up-clause-fetched : goal.returns-in-Err-set_up-clause-fetched
returns-in-Err-set_up-clause-fetched g c = λ request asked none.
    inl (asked_once c.in-Report.report _ _ _ (rows_too c.args.words.now request c.in-Report.report asked (report_is c.args.words.now _ c.in-Report.report c.in-Report.is c.in-Ok.ensures.asked) false none) c.in-Err-set_up.ensures.fetched)

pub returns-in-Err-set_up-clause-fetched_rows : goal.returns-in-Err-set_up-clause-fetched_rows
returns-in-Err-set_up-clause-fetched_rows g c = λ request asked needs.
    let told = rw c.into-in-Err-set_up.ensures at c.tell-in-Err-set_up.ensures.same in
    asked_where_it_fails c.in-Report.report _ _ _ c.in-Err-set_up.fault _ told (rows_too c.args.words.now request c.in-Report.report asked (report_is c.args.words.now _ c.in-Report.report c.in-Report.is c.in-Ok.ensures.asked) true needs) c.in-Err-set_up.ensures.fetched

pub returns-in-Err-set_up-clause-unfetched : goal.returns-in-Err-set_up-clause-unfetched
returns-in-Err-set_up-clause-unfetched g c = λ nothing. absurd (asked_or_nothing c.args.words.now c.in-Ok.request c.in-Ok.ensures.asked nothing)

-- ---- no report

pub returns-in-Err-report_on-clause-due : goal.returns-in-Err-report_on-clause-due
returns-in-Err-report_on-clause-due g c = λ due is shelf source sink.
    let told = rw c.stream_status.ensures at c.tell-in-Err-report_on.ensures.same in
    let follows = log_decides _ _ _ _ due _ _ (c.in-Ok-set_up.made.scenario, c.in-Ok-set_up.made.rows.items) (report_is c.args.words.now _ c.in-Report.report c.in-Report.is c.in-Ok.ensures.asked) is c.in-Ok-set_up.ensures.due shelf in
    no_report c.in-Report.report c.in-Ok-set_up.made.rows.items c.in-Ok-set_up.made.scenario _ _ _ _ c.one_answer.ensures c.in-Err-report_on.fault _ due _ _ _ _ _ _ refl follows c.in-Err-report_on.ensures.cause c.in-Err-report_on.ensures.log_faults c.in-Err-report_on.ensures.out_faults source sink told

pub returns-in-Err-report_on-clause-fetched : goal.returns-in-Err-report_on-clause-fetched
returns-in-Err-report_on-clause-fetched g c = λ request asked none.
    inl (asked_once c.in-Report.report _ _ _ (rows_too c.args.words.now request c.in-Report.report asked (report_is c.args.words.now _ c.in-Report.report c.in-Report.is c.in-Ok.ensures.asked) false none) c.in-Ok-set_up.ensures.fetched)

pub returns-in-Err-report_on-clause-fetched_rows : goal.returns-in-Err-report_on-clause-fetched_rows
returns-in-Err-report_on-clause-fetched_rows g c = λ request asked needs.
    inl (asked_twice c.in-Report.report _ _ c.in-Ok-set_up.made (rows_too c.args.words.now request c.in-Report.report asked (report_is c.args.words.now _ c.in-Report.report c.in-Report.is c.in-Ok.ensures.asked) true needs) c.in-Ok-set_up.ensures.fetched)

pub returns-in-Err-report_on-clause-bad_entry : goal.returns-in-Err-report_on-clause-bad_entry
returns-in-Err-report_on-clause-bad_entry g c = λ index is.
    let told = rw c.stream_status.ensures at c.tell-in-Err-report_on.ensures.same in
    runs c.args.words.now (g.H.Shelf.files c.args.shelf.now) c.in-Report.report c.in-Ok-set_up.made.rows.items c.in-Ok-set_up.made.scenario _ _ (report_is c.args.words.now _ c.in-Report.report c.in-Report.is c.in-Ok.ensures.asked) tt c.in-Ok-set_up.ensures.scenario c.in-Ok-set_up.ensures.rows (entry_told c.in-Report.report c.in-Ok-set_up.made.rows.items c.in-Ok-set_up.made.scenario _ _ _ _ c.in-Err-report_on.fault index _ _ _ told is c.in-Err-report_on.ensures.cause)

pub returns-in-Err-report_on-clause-unfetched : goal.returns-in-Err-report_on-clause-unfetched
returns-in-Err-report_on-clause-unfetched g c = λ nothing. absurd (asked_or_nothing c.args.words.now c.in-Ok.request c.in-Ok.ensures.asked nothing)

pub returns-in-Err-report_on-clause-unread : goal.returns-in-Err-report_on-clause-unread
returns-in-Err-report_on-clause-unread g c = λ request asked not. c.report_on.ensures.untouched (unread_too c.args.words.now request c.in-Report.report asked (report_is c.args.words.now _ c.in-Report.report c.in-Report.is c.in-Ok.ensures.asked) not)

pub returns-in-Err-report_on-clause-migration : goal.returns-in-Err-report_on-clause-migration
returns-in-Err-report_on-clause-migration g c = λ name asked. either_alone c.args.words.now c.in-Report.report name _ (report_is c.args.words.now _ c.in-Report.report c.in-Report.is c.in-Ok.ensures.asked) asked

pub returns-in-Err-report_on-clause-drill : goal.returns-in-Err-report_on-clause-drill
returns-in-Err-report_on-clause-drill g c = λ request asked makes.
    let told = rw c.stream_status.ensures at c.tell-in-Err-report_on.ensures.same in
    let here = unread_too c.args.words.now (asks.Report request) c.in-Report.report asked (report_is c.args.words.now _ c.in-Report.report c.in-Report.is c.in-Ok.ensures.asked) makes in
    drill_told _ _ _ told (drill_status c.in-Err-report_on.fault _ (c.in-Err-report_on.ensures.drill here))

pub returns-in-Err-report_on-clause-read_fault : goal.returns-in-Err-report_on-clause-read_fault
returns-in-Err-report_on-clause-read_fault g c = λ is.
    let told = rw c.stream_status.ensures at c.tell-in-Err-report_on.ensures.same in
    let left = read_told c.in-Report.report c.in-Ok-set_up.made.rows.items c.in-Ok-set_up.made.scenario _ _ _ _ c.in-Err-report_on.fault _ _ _ _ _ told is c.in-Err-report_on.ensures.cause c.in-Err-report_on.ensures.log_faults in
    (left.0, runs c.args.words.now (g.H.Shelf.files c.args.shelf.now) c.in-Report.report c.in-Ok-set_up.made.rows.items c.in-Ok-set_up.made.scenario _ _ (report_is c.args.words.now _ c.in-Report.report c.in-Report.is c.in-Ok.ensures.asked) left.1 c.in-Ok-set_up.ensures.scenario c.in-Ok-set_up.ensures.rows left.2)

pub returns-in-Err-report_on-clause-log_limit : goal.returns-in-Err-report_on-clause-log_limit
returns-in-Err-report_on-clause-log_limit g c = λ most is.
    let told = rw c.stream_status.ensures at c.tell-in-Err-report_on.ensures.same in
    let long = bytes_told c.in-Report.report c.in-Ok-set_up.made.rows.items c.in-Ok-set_up.made.scenario _ _ _ _ c.in-Err-report_on.fault most _ _ _ refl told is c.in-Err-report_on.ensures.cause in
    runs c.args.words.now (g.H.Shelf.files c.args.shelf.now) c.in-Report.report c.in-Ok-set_up.made.rows.items c.in-Ok-set_up.made.scenario _ _ (report_is c.args.words.now _ c.in-Report.report c.in-Report.is c.in-Ok.ensures.asked) long.stops c.in-Ok-set_up.ensures.scenario c.in-Ok-set_up.ensures.rows (long.limit, long.met)

pub returns-in-Err-report_on-clause-vessel_limit : goal.returns-in-Err-report_on-clause-vessel_limit
returns-in-Err-report_on-clause-vessel_limit g c = λ most is.
    let told = rw c.stream_status.ensures at c.tell-in-Err-report_on.ensures.same in
    runs c.args.words.now (g.H.Shelf.files c.args.shelf.now) c.in-Report.report c.in-Ok-set_up.made.rows.items c.in-Ok-set_up.made.scenario _ _ (report_is c.args.words.now _ c.in-Report.report c.in-Report.is c.in-Ok.ensures.asked) tt c.in-Ok-set_up.ensures.scenario c.in-Ok-set_up.ensures.rows (vessels_told c.in-Report.report c.in-Ok-set_up.made.rows.items c.in-Ok-set_up.made.scenario _ _ _ _ c.in-Err-report_on.fault most _ _ _ told is c.in-Err-report_on.ensures.cause)

pub returns-in-Err-report_on-clause-pair_limit : goal.returns-in-Err-report_on-clause-pair_limit
returns-in-Err-report_on-clause-pair_limit g c = λ most is.
    let told = rw c.stream_status.ensures at c.tell-in-Err-report_on.ensures.same in
    runs c.args.words.now (g.H.Shelf.files c.args.shelf.now) c.in-Report.report c.in-Ok-set_up.made.rows.items c.in-Ok-set_up.made.scenario _ _ (report_is c.args.words.now _ c.in-Report.report c.in-Report.is c.in-Ok.ensures.asked) tt c.in-Ok-set_up.ensures.scenario c.in-Ok-set_up.ensures.rows (pairs_told c.in-Report.report c.in-Ok-set_up.made.rows.items c.in-Ok-set_up.made.scenario _ _ _ _ c.in-Err-report_on.fault most _ _ _ told is c.in-Err-report_on.ensures.cause)

pub returns-in-Err-report_on-clause-target_limit : goal.returns-in-Err-report_on-clause-target_limit
returns-in-Err-report_on-clause-target_limit g c = λ most is.
    let told = rw c.stream_status.ensures at c.tell-in-Err-report_on.ensures.same in
    runs c.args.words.now (g.H.Shelf.files c.args.shelf.now) c.in-Report.report c.in-Ok-set_up.made.rows.items c.in-Ok-set_up.made.scenario _ _ (report_is c.args.words.now _ c.in-Report.report c.in-Report.is c.in-Ok.ensures.asked) tt c.in-Ok-set_up.ensures.scenario c.in-Ok-set_up.ensures.rows (targets_told c.in-Report.report c.in-Ok-set_up.made.rows.items c.in-Ok-set_up.made.scenario _ _ _ _ c.in-Err-report_on.fault most _ _ _ told is c.in-Err-report_on.ensures.cause)

pub returns-in-Err-report_on-clause-own_unready : goal.returns-in-Err-report_on-clause-own_unready
returns-in-Err-report_on-clause-own_unready g c = λ why is.
    let told = rw c.stream_status.ensures at c.tell-in-Err-report_on.ensures.same in
    runs c.args.words.now (g.H.Shelf.files c.args.shelf.now) c.in-Report.report c.in-Ok-set_up.made.rows.items c.in-Ok-set_up.made.scenario _ _ (report_is c.args.words.now _ c.in-Report.report c.in-Report.is c.in-Ok.ensures.asked) tt c.in-Ok-set_up.ensures.scenario c.in-Ok-set_up.ensures.rows (own_told c.in-Report.report c.in-Ok-set_up.made.rows.items c.in-Ok-set_up.made.scenario _ _ _ _ c.in-Err-report_on.fault why _ _ _ told is c.in-Err-report_on.ensures.cause)

pub returns-in-Err-report_on-clause-write_fault : goal.returns-in-Err-report_on-clause-write_fault
returns-in-Err-report_on-clause-write_fault g c = λ is.
    let told = rw c.stream_status.ensures at c.tell-in-Err-report_on.ensures.same in
    let left = put_told c.in-Report.report c.in-Ok-set_up.made.rows.items c.in-Ok-set_up.made.scenario _ _ _ _ c.in-Err-report_on.fault _ _ _ _ _ told is c.in-Err-report_on.ensures.cause c.in-Err-report_on.ensures.out_faults in
    (left.0, inl (runs c.args.words.now (g.H.Shelf.files c.args.shelf.now) c.in-Report.report c.in-Ok-set_up.made.rows.items c.in-Ok-set_up.made.scenario _ _ (report_is c.args.words.now _ c.in-Report.report c.in-Report.is c.in-Ok.ensures.asked) tt c.in-Ok-set_up.ensures.scenario c.in-Ok-set_up.ensures.rows left.1))

pub returns-in-Err-report_on-clause-memory : goal.returns-in-Err-report_on-clause-memory
returns-in-Err-report_on-clause-memory g c = λ is.
    let told = rw c.stream_status.ensures at c.tell-in-Err-report_on.ensures.same in
    inr (runs c.args.words.now (g.H.Shelf.files c.args.shelf.now) c.in-Report.report c.in-Ok-set_up.made.rows.items c.in-Ok-set_up.made.scenario _ _ (report_is c.args.words.now _ c.in-Report.report c.in-Report.is c.in-Ok.ensures.asked) tt c.in-Ok-set_up.ensures.scenario c.in-Ok-set_up.ensures.rows (memory_front c.in-Report.report c.in-Ok-set_up.made.rows.items c.in-Ok-set_up.made.scenario _ _ _ _ c.in-Err-report_on.fault _ _ _ told is (λ made. made) c.in-Err-report_on.ensures.cause))

pub returns-in-Err-report_on-clause-unwritten : goal.returns-in-Err-report_on-clause-unwritten
returns-in-Err-report_on-clause-unwritten g c = λ nothing.
    let told = rw c.stream_status.ensures at c.tell-in-Err-report_on.ensures.same in
    nothing_told c.in-Report.report c.in-Ok-set_up.made.rows.items c.in-Ok-set_up.made.scenario _ _ _ _ c.in-Err-report_on.fault _ _ _ told nothing c.in-Err-report_on.ensures.cause

pub returns-in-Err-report_on-clause-calm : goal.returns-in-Err-report_on-clause-calm
returns-in-Err-report_on-clause-calm g c = λ not.
    let told = rw c.stream_status.ensures at c.tell-in-Err-report_on.ensures.same in
    calm_told c.in-Err-report_on.fault _ _ _ _ _ told not (λ made. made) c.in-Err-report_on.ensures.out_faults

pub returns-in-Err-report_on-clause-log_calm : goal.returns-in-Err-report_on-clause-log_calm
returns-in-Err-report_on-clause-log_calm g c = λ not.
    let told = rw c.stream_status.ensures at c.tell-in-Err-report_on.ensures.same in
    log_calm_told c.in-Err-report_on.fault _ _ _ _ _ told not (λ made. made) c.in-Err-report_on.ensures.log_faults

pub returns-in-Err-report_on-clause-shelf_calm : goal.returns-in-Err-report_on-clause-shelf_calm
returns-in-Err-report_on-clause-shelf_calm g c = λ not. c.in-Ok-set_up.ensures.calm (λ is. cc is)

pub returns-in-Err-report_on-clause-limits : goal.returns-in-Err-report_on-clause-limits
returns-in-Err-report_on-clause-limits g c =
    let told = rw c.stream_status.ensures at c.tell-in-Err-report_on.ensures.same in
    limit_told _ _ _ told (stream_limit c.in-Err-report_on.fault _)

-- ---- a report

pub returns-then-none-clause-shelf_calm : goal.returns-then-none-clause-shelf_calm
returns-then-none-clause-shelf_calm g c = λ not. c.in-Ok-set_up.ensures.calm (λ is. cc is)

pub returns-clause-shelf_calm : goal.returns-clause-shelf_calm
returns-clause-shelf_calm g c = λ not. c.in-Ok-set_up.ensures.calm (λ is. cc is)

pub returns-then-none-clause-headline : goal.returns-then-none-clause-headline
returns-then-none-clause-headline g c = λ finished.
    inl (runs c.args.words.now (g.H.Shelf.files c.args.shelf.now) c.in-Report.report c.in-Ok-set_up.made.rows.items c.in-Ok-set_up.made.scenario _ _ (report_is c.args.words.now _ c.in-Report.report c.in-Report.is c.in-Ok.ensures.asked) c.in-Ok-report_on.ensures.end c.in-Ok-set_up.ensures.scenario c.in-Ok-set_up.ensures.rows
    (reported_so c.in-Report.report c.in-Ok-set_up.made.rows.items c.in-Ok-set_up.made.scenario _ (g.S.Source.left c.report_on.new.log) _ _ true status.NoManoeuvre refl (rw c.if-none.true at c.in-Ok-report_on.ensures.report)))

pub returns-then-none-clause-due : goal.returns-then-none-clause-due
returns-then-none-clause-due g c = λ due is shelf source sink.
    let follows = log_decides _ _ _ _ due _ _ (c.in-Ok-set_up.made.scenario, c.in-Ok-set_up.made.rows.items) (report_is c.args.words.now _ c.in-Report.report c.in-Report.is c.in-Ok.ensures.asked) is c.in-Ok-set_up.ensures.due shelf in
    inl (met_is c.one_answer.ensures _ c.in-Report.report c.in-Ok-set_up.made.rows.items c.in-Ok-set_up.made.scenario due status.NoManoeuvre (reported_met c.in-Report.report c.in-Ok-set_up.made.rows.items c.in-Ok-set_up.made.scenario _ (g.S.Source.left c.report_on.new.log) _ _ true (rw c.if-none.true at c.in-Ok-report_on.ensures.report)) follows)

pub returns-then-none-clause-fetched : goal.returns-then-none-clause-fetched
returns-then-none-clause-fetched g c = λ request asked none.
    inl (asked_once c.in-Report.report _ _ _ (rows_too c.args.words.now request c.in-Report.report asked (report_is c.args.words.now _ c.in-Report.report c.in-Report.is c.in-Ok.ensures.asked) false none) c.in-Ok-set_up.ensures.fetched)

pub returns-then-none-clause-fetched_rows : goal.returns-then-none-clause-fetched_rows
returns-then-none-clause-fetched_rows g c = λ request asked needs.
    inl (asked_twice c.in-Report.report _ _ c.in-Ok-set_up.made (rows_too c.args.words.now request c.in-Report.report asked (report_is c.args.words.now _ c.in-Report.report c.in-Report.is c.in-Ok.ensures.asked) true needs) c.in-Ok-set_up.ensures.fetched)

pub returns-then-none-clause-unfetched : goal.returns-then-none-clause-unfetched
returns-then-none-clause-unfetched g c = λ nothing. absurd (asked_or_nothing c.args.words.now c.in-Ok.request c.in-Ok.ensures.asked nothing)

pub returns-then-none-clause-unread : goal.returns-then-none-clause-unread
returns-then-none-clause-unread g c = λ request asked not. c.report_on.ensures.untouched (unread_too c.args.words.now request c.in-Report.report asked (report_is c.args.words.now _ c.in-Report.report c.in-Report.is c.in-Ok.ensures.asked) not)

pub returns-then-none-clause-migration : goal.returns-then-none-clause-migration
returns-then-none-clause-migration g c = λ name asked. either_alone c.args.words.now c.in-Report.report name _ (report_is c.args.words.now _ c.in-Report.report c.in-Report.is c.in-Ok.ensures.asked) asked

pub returns-then-none-clause-drill : goal.returns-then-none-clause-drill
returns-then-none-clause-drill g c = λ request asked makes.
    let here = unread_too c.args.words.now (asks.Report request) c.in-Report.report asked (report_is c.args.words.now _ c.in-Report.report c.in-Report.is c.in-Ok.ensures.asked) makes in
    let none = c.in-Ok-report_on.ensures.drill here in
    cc (none, c.if-none.true)

pub returns-clause-headline : goal.returns-clause-headline
returns-clause-headline g c = λ finished.
    inl (runs c.args.words.now (g.H.Shelf.files c.args.shelf.now) c.in-Report.report c.in-Ok-set_up.made.rows.items c.in-Ok-set_up.made.scenario _ _ (report_is c.args.words.now _ c.in-Report.report c.in-Report.is c.in-Ok.ensures.asked) c.in-Ok-report_on.ensures.end c.in-Ok-set_up.ensures.scenario c.in-Ok-set_up.ensures.rows
    (reported_so c.in-Report.report c.in-Ok-set_up.made.rows.items c.in-Ok-set_up.made.scenario _ (g.S.Source.left c.report_on.new.log) _ _ false status.Done refl (rw c.if-none.false at c.in-Ok-report_on.ensures.report)))

pub returns-clause-due : goal.returns-clause-due
returns-clause-due g c = λ due is shelf source sink.
    let follows = log_decides _ _ _ _ due _ _ (c.in-Ok-set_up.made.scenario, c.in-Ok-set_up.made.rows.items) (report_is c.args.words.now _ c.in-Report.report c.in-Report.is c.in-Ok.ensures.asked) is c.in-Ok-set_up.ensures.due shelf in
    inl (met_is c.one_answer.ensures _ c.in-Report.report c.in-Ok-set_up.made.rows.items c.in-Ok-set_up.made.scenario due status.Done (reported_met c.in-Report.report c.in-Ok-set_up.made.rows.items c.in-Ok-set_up.made.scenario _ (g.S.Source.left c.report_on.new.log) _ _ false (rw c.if-none.false at c.in-Ok-report_on.ensures.report)) follows)

pub returns-clause-fetched : goal.returns-clause-fetched
returns-clause-fetched g c = λ request asked none.
    inl (asked_once c.in-Report.report _ _ _ (rows_too c.args.words.now request c.in-Report.report asked (report_is c.args.words.now _ c.in-Report.report c.in-Report.is c.in-Ok.ensures.asked) false none) c.in-Ok-set_up.ensures.fetched)

pub returns-clause-fetched_rows : goal.returns-clause-fetched_rows
returns-clause-fetched_rows g c = λ request asked needs.
    inl (asked_twice c.in-Report.report _ _ c.in-Ok-set_up.made (rows_too c.args.words.now request c.in-Report.report asked (report_is c.args.words.now _ c.in-Report.report c.in-Report.is c.in-Ok.ensures.asked) true needs) c.in-Ok-set_up.ensures.fetched)

pub returns-clause-unfetched : goal.returns-clause-unfetched
returns-clause-unfetched g c = λ nothing. absurd (asked_or_nothing c.args.words.now c.in-Ok.request c.in-Ok.ensures.asked nothing)

pub returns-clause-unread : goal.returns-clause-unread
returns-clause-unread g c = λ request asked not. c.report_on.ensures.untouched (unread_too c.args.words.now request c.in-Report.report asked (report_is c.args.words.now _ c.in-Report.report c.in-Report.is c.in-Ok.ensures.asked) not)

-- ---- a finished run has none of the other answers

pub returns-then-none-clause-usage : goal.returns-then-none-clause-usage
returns-then-none-clause-usage g c = λ is. only_finished _ _ is refl refl

pub returns-then-none-clause-no_usage : goal.returns-then-none-clause-no_usage
returns-then-none-clause-no_usage g c = λ request asked is. only_finished _ _ is refl refl

pub returns-then-none-clause-shelf_fault : goal.returns-then-none-clause-shelf_fault
returns-then-none-clause-shelf_fault g c = λ is. only_finished _ _ is refl refl

pub returns-then-none-clause-scenario_limit : goal.returns-then-none-clause-scenario_limit
returns-then-none-clause-scenario_limit g c = λ most is. only_finished _ _ is refl refl

pub returns-then-none-clause-rows_limit : goal.returns-then-none-clause-rows_limit
returns-then-none-clause-rows_limit g c = λ most is. only_finished _ _ is refl refl

pub returns-then-none-clause-refused : goal.returns-then-none-clause-refused
returns-then-none-clause-refused g c = λ key cause is. only_finished _ _ is refl refl

pub returns-then-none-clause-read_fault : goal.returns-then-none-clause-read_fault
returns-then-none-clause-read_fault g c = λ is. only_finished _ _ is refl refl

pub returns-then-none-clause-log_limit : goal.returns-then-none-clause-log_limit
returns-then-none-clause-log_limit g c = λ most is. only_finished _ _ is refl refl

pub returns-then-none-clause-vessel_limit : goal.returns-then-none-clause-vessel_limit
returns-then-none-clause-vessel_limit g c = λ most is. only_finished _ _ is refl refl

pub returns-then-none-clause-pair_limit : goal.returns-then-none-clause-pair_limit
returns-then-none-clause-pair_limit g c = λ most is. only_finished _ _ is refl refl

pub returns-then-none-clause-target_limit : goal.returns-then-none-clause-target_limit
returns-then-none-clause-target_limit g c = λ most is. only_finished _ _ is refl refl

pub returns-then-none-clause-own_unready : goal.returns-then-none-clause-own_unready
returns-then-none-clause-own_unready g c = λ why is. only_finished _ _ is refl refl

pub returns-then-none-clause-bad_entry : goal.returns-then-none-clause-bad_entry
returns-then-none-clause-bad_entry g c = λ index is. only_finished _ _ is refl refl

pub returns-then-none-clause-write_fault : goal.returns-then-none-clause-write_fault
returns-then-none-clause-write_fault g c = λ is. only_finished _ _ is refl refl

pub returns-then-none-clause-memory : goal.returns-then-none-clause-memory
returns-then-none-clause-memory g c = λ is. only_finished _ _ is refl refl

pub returns-clause-usage : goal.returns-clause-usage
returns-clause-usage g c = λ is. only_finished _ _ is refl refl

pub returns-clause-no_usage : goal.returns-clause-no_usage
returns-clause-no_usage g c = λ request asked is. only_finished _ _ is refl refl

pub returns-clause-shelf_fault : goal.returns-clause-shelf_fault
returns-clause-shelf_fault g c = λ is. only_finished _ _ is refl refl

pub returns-clause-scenario_limit : goal.returns-clause-scenario_limit
returns-clause-scenario_limit g c = λ most is. only_finished _ _ is refl refl

pub returns-clause-rows_limit : goal.returns-clause-rows_limit
returns-clause-rows_limit g c = λ most is. only_finished _ _ is refl refl

pub returns-clause-refused : goal.returns-clause-refused
returns-clause-refused g c = λ key cause is. only_finished _ _ is refl refl

pub returns-clause-read_fault : goal.returns-clause-read_fault
returns-clause-read_fault g c = λ is. only_finished _ _ is refl refl

pub returns-clause-log_limit : goal.returns-clause-log_limit
returns-clause-log_limit g c = λ most is. only_finished _ _ is refl refl

pub returns-clause-vessel_limit : goal.returns-clause-vessel_limit
returns-clause-vessel_limit g c = λ most is. only_finished _ _ is refl refl

pub returns-clause-pair_limit : goal.returns-clause-pair_limit
returns-clause-pair_limit g c = λ most is. only_finished _ _ is refl refl

pub returns-clause-target_limit : goal.returns-clause-target_limit
returns-clause-target_limit g c = λ most is. only_finished _ _ is refl refl

pub returns-clause-own_unready : goal.returns-clause-own_unready
returns-clause-own_unready g c = λ why is. only_finished _ _ is refl refl

pub returns-clause-bad_entry : goal.returns-clause-bad_entry
returns-clause-bad_entry g c = λ index is. only_finished _ _ is refl refl

pub returns-clause-write_fault : goal.returns-clause-write_fault
returns-clause-write_fault g c = λ is. only_finished _ _ is refl refl

pub returns-clause-memory : goal.returns-clause-memory
returns-clause-memory g c = λ is. only_finished _ _ is refl refl

-- ---- the seed of a drill

pub report_on-requires-clause-seed : goal.report_on-requires-clause-seed
report_on-requires-clause-seed g c = seed_in_range c.args.words.now c.in-Report.report (report_is c.args.words.now _ c.in-Report.report c.in-Report.is c.in-Ok.ensures.asked)

-- ---- a run that stops at one stage has none of the answers of the others

pub returns-in-Err-clause-shelf_fault : goal.returns-in-Err-clause-shelf_fault
returns-in-Err-clause-shelf_fault g c = λ is. words_alone c.in-Err.fault _ _ _ (rw c.into.ensures at c.tell.ensures.same) is refl

pub returns-in-Err-clause-scenario_limit : goal.returns-in-Err-clause-scenario_limit
returns-in-Err-clause-scenario_limit g c = λ most is. words_alone c.in-Err.fault _ _ _ (rw c.into.ensures at c.tell.ensures.same) is refl

pub returns-in-Err-clause-rows_limit : goal.returns-in-Err-clause-rows_limit
returns-in-Err-clause-rows_limit g c = λ most is. words_alone c.in-Err.fault _ _ _ (rw c.into.ensures at c.tell.ensures.same) is refl

pub returns-in-Err-clause-refused : goal.returns-in-Err-clause-refused
returns-in-Err-clause-refused g c = λ key cause is. words_alone c.in-Err.fault _ _ _ (rw c.into.ensures at c.tell.ensures.same) is refl

pub returns-in-Err-clause-read_fault : goal.returns-in-Err-clause-read_fault
returns-in-Err-clause-read_fault g c = λ is. words_alone c.in-Err.fault _ _ _ (rw c.into.ensures at c.tell.ensures.same) is refl

pub returns-in-Err-clause-log_limit : goal.returns-in-Err-clause-log_limit
returns-in-Err-clause-log_limit g c = λ most is. words_alone c.in-Err.fault _ _ _ (rw c.into.ensures at c.tell.ensures.same) is refl

pub returns-in-Err-clause-vessel_limit : goal.returns-in-Err-clause-vessel_limit
returns-in-Err-clause-vessel_limit g c = λ most is. words_alone c.in-Err.fault _ _ _ (rw c.into.ensures at c.tell.ensures.same) is refl

pub returns-in-Err-clause-pair_limit : goal.returns-in-Err-clause-pair_limit
returns-in-Err-clause-pair_limit g c = λ most is. words_alone c.in-Err.fault _ _ _ (rw c.into.ensures at c.tell.ensures.same) is refl

pub returns-in-Err-clause-own_unready : goal.returns-in-Err-clause-own_unready
returns-in-Err-clause-own_unready g c = λ why is. words_alone c.in-Err.fault _ _ _ (rw c.into.ensures at c.tell.ensures.same) is refl

pub returns-in-Err-clause-target_limit : goal.returns-in-Err-clause-target_limit
returns-in-Err-clause-target_limit g c = λ most is. words_alone c.in-Err.fault _ _ _ (rw c.into.ensures at c.tell.ensures.same) is refl

pub returns-in-Err-clause-bad_entry : goal.returns-in-Err-clause-bad_entry
returns-in-Err-clause-bad_entry g c = λ index is. words_alone c.in-Err.fault _ _ _ (rw c.into.ensures at c.tell.ensures.same) is refl

pub returns-in-Err-clause-write_fault : goal.returns-in-Err-clause-write_fault
returns-in-Err-clause-write_fault g c = λ is. words_alone c.in-Err.fault _ _ _ (rw c.into.ensures at c.tell.ensures.same) is refl

pub returns-in-Err-set_up-clause-usage : goal.returns-in-Err-set_up-clause-usage
returns-in-Err-set_up-clause-usage g c = λ is. set_up_alone c.in-Err-set_up.fault _ _ _ (rw c.into-in-Err-set_up.ensures at c.tell-in-Err-set_up.ensures.same) is refl

pub returns-in-Err-set_up-clause-no_usage : goal.returns-in-Err-set_up-clause-no_usage
returns-in-Err-set_up-clause-no_usage g c = λ request asked is. set_up_alone c.in-Err-set_up.fault _ _ _ (rw c.into-in-Err-set_up.ensures at c.tell-in-Err-set_up.ensures.same) is refl

pub returns-in-Err-set_up-clause-read_fault : goal.returns-in-Err-set_up-clause-read_fault
returns-in-Err-set_up-clause-read_fault g c = λ is. set_up_alone c.in-Err-set_up.fault _ _ _ (rw c.into-in-Err-set_up.ensures at c.tell-in-Err-set_up.ensures.same) is refl

pub returns-in-Err-set_up-clause-log_limit : goal.returns-in-Err-set_up-clause-log_limit
returns-in-Err-set_up-clause-log_limit g c = λ most is. set_up_alone c.in-Err-set_up.fault _ _ _ (rw c.into-in-Err-set_up.ensures at c.tell-in-Err-set_up.ensures.same) is refl

pub returns-in-Err-set_up-clause-vessel_limit : goal.returns-in-Err-set_up-clause-vessel_limit
returns-in-Err-set_up-clause-vessel_limit g c = λ most is. set_up_alone c.in-Err-set_up.fault _ _ _ (rw c.into-in-Err-set_up.ensures at c.tell-in-Err-set_up.ensures.same) is refl

pub returns-in-Err-set_up-clause-pair_limit : goal.returns-in-Err-set_up-clause-pair_limit
returns-in-Err-set_up-clause-pair_limit g c = λ most is. set_up_alone c.in-Err-set_up.fault _ _ _ (rw c.into-in-Err-set_up.ensures at c.tell-in-Err-set_up.ensures.same) is refl

pub returns-in-Err-set_up-clause-own_unready : goal.returns-in-Err-set_up-clause-own_unready
returns-in-Err-set_up-clause-own_unready g c = λ why is. set_up_alone c.in-Err-set_up.fault _ _ _ (rw c.into-in-Err-set_up.ensures at c.tell-in-Err-set_up.ensures.same) is refl

pub returns-in-Err-set_up-clause-target_limit : goal.returns-in-Err-set_up-clause-target_limit
returns-in-Err-set_up-clause-target_limit g c = λ most is. set_up_alone c.in-Err-set_up.fault _ _ _ (rw c.into-in-Err-set_up.ensures at c.tell-in-Err-set_up.ensures.same) is refl

pub returns-in-Err-set_up-clause-bad_entry : goal.returns-in-Err-set_up-clause-bad_entry
returns-in-Err-set_up-clause-bad_entry g c = λ index is. set_up_alone c.in-Err-set_up.fault _ _ _ (rw c.into-in-Err-set_up.ensures at c.tell-in-Err-set_up.ensures.same) is refl

pub returns-in-Err-set_up-clause-write_fault : goal.returns-in-Err-set_up-clause-write_fault
returns-in-Err-set_up-clause-write_fault g c = λ is. set_up_alone c.in-Err-set_up.fault _ _ _ (rw c.into-in-Err-set_up.ensures at c.tell-in-Err-set_up.ensures.same) is refl

pub returns-in-Err-report_on-clause-usage : goal.returns-in-Err-report_on-clause-usage
returns-in-Err-report_on-clause-usage g c = λ is. stream_alone c.in-Err-report_on.fault _ _ _ _ (rw c.stream_status.ensures at c.tell-in-Err-report_on.ensures.same) is refl

pub returns-in-Err-report_on-clause-no_usage : goal.returns-in-Err-report_on-clause-no_usage
returns-in-Err-report_on-clause-no_usage g c = λ request asked is. stream_alone c.in-Err-report_on.fault _ _ _ _ (rw c.stream_status.ensures at c.tell-in-Err-report_on.ensures.same) is refl

pub returns-in-Err-report_on-clause-shelf_fault : goal.returns-in-Err-report_on-clause-shelf_fault
returns-in-Err-report_on-clause-shelf_fault g c = λ is. stream_alone c.in-Err-report_on.fault _ _ _ _ (rw c.stream_status.ensures at c.tell-in-Err-report_on.ensures.same) is refl

pub returns-in-Err-report_on-clause-scenario_limit : goal.returns-in-Err-report_on-clause-scenario_limit
returns-in-Err-report_on-clause-scenario_limit g c = λ most is. stream_alone c.in-Err-report_on.fault _ _ _ _ (rw c.stream_status.ensures at c.tell-in-Err-report_on.ensures.same) is refl

pub returns-in-Err-report_on-clause-rows_limit : goal.returns-in-Err-report_on-clause-rows_limit
returns-in-Err-report_on-clause-rows_limit g c = λ most is. stream_alone c.in-Err-report_on.fault _ _ _ _ (rw c.stream_status.ensures at c.tell-in-Err-report_on.ensures.same) is refl

pub returns-in-Err-report_on-clause-refused : goal.returns-in-Err-report_on-clause-refused
returns-in-Err-report_on-clause-refused g c = λ key cause is. stream_alone c.in-Err-report_on.fault _ _ _ _ (rw c.stream_status.ensures at c.tell-in-Err-report_on.ensures.same) is refl

pub returns-in-Migration-clause-read_fault : goal.returns-in-Migration-clause-read_fault
returns-in-Migration-clause-read_fault g c = λ is.
    let no = subst (λ (s : Status). IsTrue (IsOfMigration s)) is c.run_migration.ensures.answers in
    absurd (cc no)

pub returns-in-Migration-clause-log_limit : goal.returns-in-Migration-clause-log_limit
returns-in-Migration-clause-log_limit g c = λ most is.
    let no = subst (λ (s : Status). IsTrue (IsOfMigration s)) is c.run_migration.ensures.answers in
    absurd (cc no)

pub returns-in-Migration-clause-vessel_limit : goal.returns-in-Migration-clause-vessel_limit
returns-in-Migration-clause-vessel_limit g c = λ most is.
    let no = subst (λ (s : Status). IsTrue (IsOfMigration s)) is c.run_migration.ensures.answers in
    absurd (cc no)

pub returns-in-Migration-clause-pair_limit : goal.returns-in-Migration-clause-pair_limit
returns-in-Migration-clause-pair_limit g c = λ most is.
    let no = subst (λ (s : Status). IsTrue (IsOfMigration s)) is c.run_migration.ensures.answers in
    absurd (cc no)

pub returns-in-Migration-clause-own_unready : goal.returns-in-Migration-clause-own_unready
returns-in-Migration-clause-own_unready g c = λ why is.
    let no = subst (λ (s : Status). IsTrue (IsOfMigration s)) is c.run_migration.ensures.answers in
    absurd (cc no)

pub returns-in-Migration-clause-target_limit : goal.returns-in-Migration-clause-target_limit
returns-in-Migration-clause-target_limit g c = λ most is.
    let no = subst (λ (s : Status). IsTrue (IsOfMigration s)) is c.run_migration.ensures.answers in
    absurd (cc no)

pub returns-in-Migration-clause-bad_entry : goal.returns-in-Migration-clause-bad_entry
returns-in-Migration-clause-bad_entry g c = λ index is.
    let no = subst (λ (s : Status). IsTrue (IsOfMigration s)) is c.run_migration.ensures.answers in
    absurd (cc no)

-- ---- what a stage leaves as it was

pub returns-in-Err-clause-unread : goal.returns-in-Err-clause-unread
returns-in-Err-clause-unread g c = λ request asked not. (keeps_same _, refl)

pub returns-in-Err-clause-untouched : goal.returns-in-Err-clause-untouched
returns-in-Err-clause-untouched g c = λ before. (keeps_same _, refl)

pub returns-in-Err-clause-log_calm : goal.returns-in-Err-clause-log_calm
returns-in-Err-clause-log_calm g c = λ not. refl

pub returns-in-Err-set_up-clause-unread : goal.returns-in-Err-set_up-clause-unread
returns-in-Err-set_up-clause-unread g c = λ request asked not. (keeps_same _, refl)

pub returns-in-Err-set_up-clause-untouched : goal.returns-in-Err-set_up-clause-untouched
returns-in-Err-set_up-clause-untouched g c = λ before. (keeps_same _, refl)

pub returns-in-Err-set_up-clause-log_calm : goal.returns-in-Err-set_up-clause-log_calm
returns-in-Err-set_up-clause-log_calm g c = λ not. refl

pub returns-in-Migration-clause-unread : goal.returns-in-Migration-clause-unread
returns-in-Migration-clause-unread g c = λ request asked not. (keeps_same _, refl)

pub returns-in-Migration-clause-untouched : goal.returns-in-Migration-clause-untouched
returns-in-Migration-clause-untouched g c = λ before. (keeps_same _, refl)

pub returns-in-Migration-clause-log_calm : goal.returns-in-Migration-clause-log_calm
returns-in-Migration-clause-log_calm g c = λ not. refl

pub returns-in-Err-clause-unwritten : goal.returns-in-Err-clause-unwritten
returns-in-Err-clause-unwritten g c = λ nothing. keeps_same _

pub returns-in-Err-clause-calm : goal.returns-in-Err-clause-calm
returns-in-Err-clause-calm g c = λ not. refl

pub returns-in-Err-set_up-clause-unwritten : goal.returns-in-Err-set_up-clause-unwritten
returns-in-Err-set_up-clause-unwritten g c = λ nothing. keeps_same _

pub returns-in-Err-set_up-clause-calm : goal.returns-in-Err-set_up-clause-calm
returns-in-Err-set_up-clause-calm g c = λ not. refl

pub returns-in-Err-clause-shelf_calm : goal.returns-in-Err-clause-shelf_calm
returns-in-Err-clause-shelf_calm g c = λ not. refl

pub returns-in-Err-clause-unfetched : goal.returns-in-Err-clause-unfetched
returns-in-Err-clause-unfetched g c = λ nothing. refl

pub returns-in-Err-clause-memory : goal.returns-in-Err-clause-memory
returns-in-Err-clause-memory g c = λ is. inl (keeps_same _)

pub returns-in-Err-clause-line : goal.returns-in-Err-clause-line
returns-in-Err-clause-line g c = c.tell.ensures.line

pub returns-in-Err-set_up-clause-line : goal.returns-in-Err-set_up-clause-line
returns-in-Err-set_up-clause-line g c = c.tell-in-Err-set_up.ensures.line

pub returns-in-Err-report_on-clause-line : goal.returns-in-Err-report_on-clause-line
returns-in-Err-report_on-clause-line g c = c.tell-in-Err-report_on.ensures.line

pub returns-in-Migration-clause-line : goal.returns-in-Migration-clause-line
returns-in-Migration-clause-line g c = c.run_migration.ensures.line

pub returns-in-Migration-clause-calm : goal.returns-in-Migration-clause-calm
returns-in-Migration-clause-calm g c = c.run_migration.ensures.calm

pub returns-in-Migration-clause-shelf_calm : goal.returns-in-Migration-clause-shelf_calm
returns-in-Migration-clause-shelf_calm g c = c.run_migration.ensures.shelf_calm

pub returns-in-Migration-clause-limits : goal.returns-in-Migration-clause-limits
returns-in-Migration-clause-limits g c = c.run_migration.ensures.limits
