use Rattle.std.proofs.Common.{◌≡◌, ℕ, ◌+◌, ◌<◌, [], subst, ◌∙◌, arith}
use Rattle.planner.specs.Inner.Watching.{StandsFor}
use Rattle.plan_situations.specs.Situations.{now_of}
use Rattle.plan_situations.proofs.Blocks.{some_plan}
use Rattle.plan_situations.proofs.CommonLegs.{same_contact, same_step}
use Rattle.planner.proofs.Places.{fed_step}
use Rattle.planner.proofs.basis.watched_at_now.Goals as goal

pub plan-plan-requires : goal.plan-plan-requires
plan-plan-requires c = some_plan c.args.situation.now c.requires.situation.some_choice

pub loop-k-preserved : goal.loop-k-preserved
loop-k-preserved c =
    let s = c.args.situation.now in
    let T = c.args.target.now in
    let k = c.loop-k.k in
    let was = c.loop-k.invariant in
    let fed = was.fed in
    let few = c.now-k-end.ensures.few in
    let now = c.now-k-end.ensures.value in
    let lt = c.loop-k-test.true in
    let within : k < now_of s + 0 = omega arith in
    record {
      ready = c.take.ensures.ready;
      fed = fed_step c.take.new.self.begun _ _ k c.take.ensures.fed c.take.ensures.unfed fed;
      since = c.take.ensures.since ∙ was.since;
      stands = c.take.ensures.stands s [] T k was.stands (record {
        contact = λ _. (
          λ t. same_contact s c.plan-plan.result [] 0 (λ step h. absurd (omega arith)) T s.detect.watch k within (c.are_in_contact-in_contact.ensures.0 t),
          λ h. c.are_in_contact-in_contact.ensures.1 (same_contact s [] c.plan-plan.result 0 (λ step h. absurd (omega arith)) T s.detect.watch k within h),
        );
        step = c.as_ref.ensures.value ∙ (c.step_at.ensures.value ∙ same_step s c.plan-plan.result [] 0 (λ step h. absurd (omega arith)) T k within);
      });
    }

pub returns-clause-stands : goal.returns-clause-stands
returns-clause-stands c =
    let now = c.now-k-end.ensures.value in
    let over = c.loop-k-test.false in
    let end = c.loop-k.auto.k-end in
    let e : c.loop-k.k ≡ now_of c.args.situation.now = omega arith in
    subst (λ (n : ℕ). StandsFor c.args.program.now c.args.situation.now [] c.args.target.now n c.loop-k.watched) e c.loop-k.invariant.stands
