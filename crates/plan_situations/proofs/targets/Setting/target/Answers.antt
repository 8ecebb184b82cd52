use Rattle.std.proofs.Common.{◌≡◌, ◌∙◌, ◌+◌, ℕ, map, ap, sym, subst, subst₂}
use Rattle.std.specs.List.{range_with_len}
use Rattle.lattice.specs.Grids.{positions_of}
use Rattle.plan_situations.specs.Prediction.{AreChanges}
use Rattle.plan_situations.specs.declared.situation.Target.{Target}
use Rattle.scenario_values.specs.declared.values.Window.{Window}
use Rattle.plan_situations.specs.KnownStates.{changes_for}
use Rattle.plan_situations.specs.PlanSituations.{target_of}
use Rattle.plan_situations.specs.Inner.Facts.{IsTargetOver, predicted_at}
use Rattle.plan_situations.proofs.Tracking.{target_over}
use Rattle.plan_situations.proofs.Vessels.{ahead_is, are_changes, past_is}
use Rattle.plan_situations.proofs.targets.Setting.target.Goals as goal

pub track-track-requires-clause-changes : goal.track-track-requires-clause-changes
track-track-requires-clause-changes c =
    let own = c.args.self.now.own.now in
    subst AreChanges (sym (c.changes_for-changes.ensures ∙ ap (λ l. changes_for l c.args.vessel.now.mmsi) c.as_slice.ensures))
    (are_changes c.args.self.now.window.tick own.predict c.args.vessel.now.mmsi c.requires.setting.own.predict.changes)

pub returns-clause-value : goal.returns-clause-value
unfolding target_of
returns-clause-value c = λ numbers messages stands.
    let own = c.args.self.now.own.now in
    let vessel = c.args.vessel.now in
    let made = c.track-track.ensures in
    let predicted : c.track-track.result.changes.now ≡ changes_for own.predict vessel.mmsi =
    made.changes ∙ c.changes_for-changes.ensures ∙ ap (λ l. changes_for l vessel.mmsi) c.as_slice.ensures in
    let past = c.in_ok-past.ensures.value ∙ past_is numbers messages c.args.self.now.window (changes_for own.predict vessel.mmsi) vessel c.track-track.result made.window made.latest predicted (made.legs numbers messages stands) in
    let ahead = c.in_ok-ahead.ensures.value ∙ ap (λ (n : ℕ). map (predicted_at c.track-track.result) (range_with_len 0 (n + 1))) c.positions.ensures.value
    ∙ ahead_is numbers messages c.args.self.now.window (changes_for own.predict vessel.mmsi) vessel c.track-track.result made.window made.latest predicted (positions_of own.lattice) in
    let radius = c.domain.ensures.value numbers messages stands in
    λ i. record { mmsi = vessel.mmsi; past = past i; ahead = ahead i; domain = record { radius = radius i } }

pub returns-clause-over : goal.returns-clause-over
returns-clause-over c =
    let target : Target = record { mmsi = c.args.vessel.now.mmsi; past = c.in_ok-past.field-0; ahead = c.in_ok-ahead.field-0; domain = c.domain.result } in
    subst₂ (λ (w : Window) (n : ℕ). IsTargetOver w.ticks n target) c.track-track.ensures.window c.positions.ensures.value
    (target_over c.track-track.result c.track-track.ensures.track c.positions.result target c.in_ok-past.ensures.value c.in_ok-past.ensures.known
    c.in_ok-ahead.ensures.value c.in_ok-ahead.ensures.known c.domain.ensures.domain)
