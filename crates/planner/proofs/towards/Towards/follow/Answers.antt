use Rattle.std.proofs.Common.{◌≡◌, ℕ, ◌+◌, false, refl, subst, ◌∙◌, arith}
use Rattle.planner.specs.Inner.Watching.{IsFollowed}
use Rattle.plan_situations.specs.Prefixes.{reached}
use Rattle.plan_situations.specs.Situations.{now_of}
use Rattle.planner.proofs.Following.{none_told, not_yet, one_more, told_by}
use Rattle.planner.proofs.towards.Towards.follow.Goals as goal

pub loop-j-init : goal.loop-j-init
loop-j-init c =
    let s = c.args.self.now.situation.now in
    let from = reached s c.args.leg.now.index in
    let here : from ≡ from + 0 = omega arith in
    let early = c.requires.early in
    let fed = early.fed in
    let since = early.since in
    record {
      ready = c.requires.ready;
      early = record { fed = omega arith; since = omega arith };
      followed = subst (λ (n : ℕ). IsFollowed c.args.self.now c.args.leg.now.plan from n c.args.watched.now c.args.watched.now false) here (not_yet c.args.self.now c.args.leg.now.plan from c.args.watched.now);
    }

pub returns-then-take_planned-clause-followed : goal.returns-then-take_planned-clause-followed
returns-then-take_planned-clause-followed c =
    let s = c.args.self.now.situation.now in
    let W = c.args.leg.now.plan in
    let at = now_of s + c.args.leg.now.begins + c.loop-j.j in
    let here = reached s c.args.leg.now.index + c.loop-j.j in
    let until = c.requires.path.until in
    let from = c.requires.leg.from in
    let lt = c.loop-j-test.true in
    let step = c.take_planned.ensures.followed W at (omega arith) (record {
      contact = λ e. c.is_contact-in_contact.ensures (c.has_begun.ensures ∙ e);
      step = c.as_ref.ensures.value ∙ c.step_on-seen.ensures.value W c.requires.path.states;
    }) in
    told_by c.args.self.now W (reached s c.args.leg.now.index) (here + 1) (reached s (c.args.leg.now.index + 1)) c.args.watched.now c.take_planned.new.self c.take_planned.result
    c.if-take_planned.true (omega arith) (omega arith)
    (one_more c.args.self.now W (reached s c.args.leg.now.index) here at c.args.watched.now c.loop-j.watched c.take_planned.new.self c.take_planned.result (omega arith) c.loop-j.invariant.followed step)

pub loop-j-preserved : goal.loop-j-preserved
loop-j-preserved c =
    let s = c.args.self.now.situation.now in
    let W = c.args.leg.now.plan in
    let at = now_of s + c.args.leg.now.begins + c.loop-j.j in
    let here = reached s c.args.leg.now.index + c.loop-j.j in
    let from = c.requires.leg.from in
    let early = c.loop-j.invariant.early in
    let fed = early.fed in
    let since = early.since in
    let one_fed = c.take_planned.ensures.fed in
    let one_since = c.take_planned.ensures.since in
    let step = c.take_planned.ensures.followed W at (omega arith) (record {
      contact = λ e. c.is_contact-in_contact.ensures (c.has_begun.ensures ∙ e);
      step = c.as_ref.ensures.value ∙ c.step_on-seen.ensures.value W c.requires.path.states;
    }) in
    record {
      ready = c.take_planned.ensures.ready;
      early = record { fed = omega arith; since = omega arith };
      followed = none_told c.args.self.now W (reached s c.args.leg.now.index) (here + 1) _ c.args.watched.now c.take_planned.new.self c.take_planned.result c.if-take_planned.false (omega arith)
          (one_more c.args.self.now W (reached s c.args.leg.now.index) here at c.args.watched.now c.loop-j.watched c.take_planned.new.self c.take_planned.result (omega arith) c.loop-j.invariant.followed step);
    }

pub returns-clause-early : goal.returns-clause-early
returns-clause-early c = λ e.
    let until = c.requires.path.until in
    let from = c.requires.leg.from in
    let over = c.loop-j-test.false in
    let end = c.loop-j.auto.j-end in
    let early = c.loop-j.invariant.early in
    let fed = early.fed in
    let since = early.since in
    record { fed = omega arith; since = omega arith }

pub returns-clause-followed : goal.returns-clause-followed
returns-clause-followed c =
    let s = c.args.self.now.situation.now in
    let here = reached s c.args.leg.now.index + c.loop-j.j in
    let until = c.requires.path.until in
    let from = c.requires.leg.from in
    let over = c.loop-j-test.false in
    let end = c.loop-j.auto.j-end in
    none_told c.args.self.now c.args.leg.now.plan (reached s c.args.leg.now.index) here (reached s (c.args.leg.now.index + 1)) c.args.watched.now c.loop-j.watched false refl (omega arith)
    c.loop-j.invariant.followed
