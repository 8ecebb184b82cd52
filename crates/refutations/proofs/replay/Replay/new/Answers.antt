use Rattle.std.proofs.Common.{◌≡◌, ◌∷◌, [], length, get_or, ap, arith, length-append}
use Rattle.plan_situations.specs.declared.situation.Situation.{Situation}
use Rattle.refutations.specs.Inner.Replays.{situation_in}
use Rattle.refutations.proofs.Replays.{traces_more}
use Rattle.refutations.proofs.replay.Replay.new.Goals as goal

pub loop-target-preserved : goal.loop-target-preserved
loop-target-preserved c =
    let was = c.loop-target.invariant.count in
    record {
      count = omega (arith, ap length c.in_ok-push.ensures.items, length-append c.loop-target.traces.items (c.new.result ∷ []));
      traces = traces_more (situation_in c.in_ok-course.course) c.loop-target.traces.items c.push.new.self.items c.new.result c.in_ok-push.ensures.items c.loop-target.invariant.traces c.new.ensures;
    }

pub returns-clause-replay : goal.returns-clause-replay
returns-clause-replay c =
    let count = c.loop-target.invariant.count in
    let over = c.loop-target-test.false in
    let within = c.loop-target.auto._target-index-end in
    let all = ap length c.as_slice-target-items.ensures in
    let same : length (situation_in c.in_ok-course.course).targets ≡ length c.args.situation.now.targets = ap (λ (s : Situation). length s.targets) c.in_ok-course.ensures.situation in
    record {
      course = c.in_ok-course.ensures.course;
      as_many = omega arith;
      traces = λ k T trace lt. c.loop-target.invariant.traces k (get_or (situation_in c.in_ok-course.course).targets k T) trace lt;
    }
