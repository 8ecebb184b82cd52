use Rattle.std.proofs.Common.{ap, subst}
use Rattle.std.specs.Option.{option_copied}
use Rattle.encounters.specs.Standing.{IsStateAfter}
use Rattle.encounters.specs.declared.engagement_state.EngagementState.{EngagementState}
use Rattle.std.proofs.Common.{[], ◌∷◌, ◌++◌}
use Rattle.auditor.proofs.TraceTracks.{engaged_mark, unseen_mark}
use Rattle.auditor.proofs.trace.meeting_mark.Goals as goal

pub returns-in-Engaged-Some : goal.returns-in-Engaged-Some
returns-in-Engaged-Some c = λ detect steps state.
    let h = c.in-Engaged-Some in
    engaged_mark detect steps (option_copied c.args.seen) h.kind h.age-0 h.a-0 h.b-0 h.pair.now c.least.result (ap option_copied h.is-1) c.least.ensures.exact
    (subst (λ (s : EngagementState). IsStateAfter detect (steps ++ option_copied c.args.seen ∷ []) s) h.is-0 state)

pub returns-in_default : goal.returns-in_default
returns-in_default c = λ detect steps state. unseen_mark detect steps (option_copied c.args.seen) (ap option_copied c.in_default.is-1)
