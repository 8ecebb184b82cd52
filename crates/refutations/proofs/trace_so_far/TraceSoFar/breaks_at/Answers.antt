use Rattle.std.proofs.Common.{◌≡◌, ◌∙◌, ℕ, map, subst, arith}
use Rattle.meetings.specs.Answers.{answer_of}
use Rattle.rule_set.specs.NamedTrees.{rule_at}
use Rattle.plan_situations.specs.FailingPlans.{AreTraceRows}
use Rattle.plan_situations.proofs.ForCallers.{broken_there, through}
use Rattle.refutations.specs.Inner.Replays.{situation_in}
use Rattle.refutations.proofs.Replays.{front}
use Rattle.refutations.proofs.trace_so_far.TraceSoFar.breaks_at.Goals as goal

pub returns-clause-breaks : goal.returns-clause-breaks
returns-clause-breaks c =
    let s = situation_in c.args.course.now in
    let X = c.args.course.now.plan in
    let T = c.args.target.now in
    let trace = c.follow.new.self in
    let rows = c.rows_up_to-rows.result.now in
    let start = c.in-Some.start in
    let same : trace.start ≡ start = c.in_ok-follow.ensures.start ∙ c.in-Some.ensures.start in
    let before = c.in-Some.ensures.begins.before_end in
    let are : AreTraceRows s X c.args.until T start (map answer_of rows) =
    subst (λ (i : ℕ). AreTraceRows s X c.args.until T i (map answer_of rows)) same
    (front s X T trace c.args.until rows c.in_ok-follow.ensures.trace (omega arith) c.in_ok-follow.ensures.long c.rows_up_to-rows.ensures) in
    through (rw (c.saturating_sub-cut.ensures, c.now.ensures.value) at c.is_newly_broken_in.ensures)
    (broken_there s X T c.args.until start c.in-Some.ensures.begins (map answer_of rows) are (rule_at s.rules c.args.rule).tree c.args.step (omega (arith, c.if-step-start.false)))
