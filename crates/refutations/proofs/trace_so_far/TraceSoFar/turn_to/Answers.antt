use Rattle.std.proofs.Common.{◌≤◌, ℕ, List, refl, subst}
use Rattle.refutations.specs.Inner.Replays.{situation_in, told_to, HaveInCommon}
use Rattle.refutations.proofs.Replays.{carried}
use Rattle.refutations.proofs.trace_so_far.TraceSoFar.turn_to.Goals as goal

pub returns-clause-trace : goal.returns-clause-trace
returns-clause-trace c = λ target h.
    let s = situation_in c.args.course.now in
    let legs = c.legs_in_common-legs.result in
    let trace = c.shorten.new.self in
    let common : HaveInCommon c.args.self.now.plan c.args.course.now.plan legs =
    subst (λ (x : List ℕ). HaveInCommon x c.args.course.now.plan legs) c.choices.ensures.choices
    (subst (λ (y : List ℕ). HaveInCommon c.choices.result.now y legs) c.choices-2.ensures c.legs_in_common-legs.ensures) in
    carried s c.args.self.now.plan c.args.course.now.plan target legs trace
    (record { plan = c.of.result; start = trace.start; rows = trace.rows; followers = trace.followers })
    c.requires.course.situation.some_leg common (subst (λ (k : ℕ). told_to trace ≤ k) c.horizon.ensures.value c.shorten.ensures.short)
    (c.shorten.ensures.trace s c.args.self.now.plan target h) refl refl refl
