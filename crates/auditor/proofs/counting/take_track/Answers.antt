use Rattle.std.proofs.Common.{ℕ, sym, subst}
use Rattle.audit_rows.specs.declared.topic.Topic.{Topic}
use Rattle.auditor.specs.Inner.TrackCounts.{AddsTrack}
use Rattle.auditor.specs.Tallies.{is_of_rule}
use Rattle.auditor.proofs.counting.take_track.Goals as goal

pub returns-in-Verdict : goal.returns-in-Verdict
returns-in-Verdict c =
    subst (λ (topic : Topic). AddsTrack (λ (rule : ℕ). is_of_rule rule topic) c.args.counts c.args.totals.now c.take_rule.new.totals) (sym c.in-Verdict.is) c.take_rule.ensures
