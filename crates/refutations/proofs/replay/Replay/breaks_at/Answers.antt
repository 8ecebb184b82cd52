use Rattle.std.proofs.Common.{◌≡◌, ◌∙◌, ℕ, List, get_or, ap, refl, subst, sym}
use Rattle.plan_situations.specs.declared.situation.Target.{Target}
use Rattle.refutations.specs.Inner.Replays.{situation_in, IsTraceSoFar}
use Rattle.refutations.proofs.Replays.{kept, kept_too}
use Rattle.refutations.proofs.replay.Replay.breaks_at.Goals as goal

pub breaks_at-requires-clause-trace : goal.breaks_at-requires-clause-trace
breaks_at-requires-clause-trace c =
    let T = c.index-as_slice-target.result in
    let target : T ≡ get_or (situation_in c.args.self.now.course).targets c.args.target T = c.index-as_slice-target.is ∙ ap (λ (xs : List Target). get_or xs c.args.target T) c.as_slice.ensures in
    c.turn_to.ensures.trace T (kept c.args.self.now c.args.target T c.index_mut-trace.result.now c.requires.replay c.requires.target target c.index_mut-trace.ensures.value)

pub returns-clause-replay : goal.returns-clause-replay
returns-clause-replay c =
    let s = situation_in c.args.self.now.course in
    let T = c.index-as_slice-target.result in
    let target : T ≡ get_or s.targets c.args.target T = c.index-as_slice-target.is ∙ ap (λ (xs : List Target). get_or xs c.args.target T) c.as_slice.ensures in
    let trace = c.breaks_at.new.self in
    kept_too c.args.self.now _ c.args.target T trace c.requires.replay c.requires.target target refl refl
    (subst (λ (p : List ℕ). IsTraceSoFar s p T trace) (sym (c.in_ok-breaks.ensures.plan ∙ c.turn_to.ensures.plan)) c.in_ok-breaks.ensures.trace)
