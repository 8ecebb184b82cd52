use Rattle.std.proofs.Common.{sym, subst, ◌∙◌}
use Rattle.traces.specs.Audited.{MoveLittle, SeenVessels}
use Rattle.auditor_rows.specs.WorkedMeeting.{seen_at}
use Rattle.auditor_rows.proofs.WorkedMeeting.{from_none}
use Rattle.auditor_rows.proofs.audits.take_all.Goals as goal

pub loop-k-init : goal.loop-k-init
loop-k-init c = record {
  sound = c.requires.sound;
  at = c.requires.none;
  last = c.requires.last;
  moves = subst (λ (s : SeenVessels). MoveLittle s (seen_at c.args.encounter.now.still 0)) (sym c.requires.latest) (from_none (seen_at c.args.encounter.now.still 0));
}

pub loop-k-preserved : goal.loop-k-preserved
loop-k-preserved c = record {
  sound = c.in_ok-take.ensures.sound;
  at = c.in_ok-take.ensures.at;
  last = c.in_ok-take.ensures.last ∙ c.loop-k.invariant.last;
  moves = c.in_ok-take.ensures.moves;
}
