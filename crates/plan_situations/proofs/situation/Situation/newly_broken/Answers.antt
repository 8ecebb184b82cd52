use Rattle.std.proofs.Common.{map}
use Rattle.meetings.specs.Answers.{answer_of}
use Rattle.plan_situations.proofs.FirstReasons.{first_of_all, none_breaks}
use Rattle.plan_situations.proofs.situation.Situation.newly_broken.Goals as goal

pub returns-in-Some-first_broken : goal.returns-in-Some-first_broken
returns-in-Some-first_broken c =
    first_of_all c.args.self.now c.args.plan.now c.args.target.now c.args.until c.in-Some.start c.in-Some.ensures (map answer_of c.in_ok-rows.rows.items) c.in_ok-rows.ensures.rows
    c.in-Some-first_broken.position c.in-Some-first_broken.rule
    (rw (c.deref.ensures.value, c.saturating_sub-cut.ensures, c.now.ensures.value) at c.in-Some-first_broken.ensures.first)

pub returns : goal.returns
returns c =
    none_breaks c.args.self.now c.args.plan.now c.args.target.now c.args.until c.in-Some.start c.in-Some.ensures (map answer_of c.in_ok-rows.rows.items) c.in_ok-rows.ensures.rows
    (rw (c.deref.ensures.value, c.saturating_sub-cut.ensures, c.now.ensures.value) at c.in-None.ensures.first)
