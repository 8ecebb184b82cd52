use Rattle.std.proofs.Common.{◌≡◌, ◌<◌, ◌-◌, vec_len}
use Rattle.sessions.specs.Standing.{mode_of, session_scenario, taken_of}
use Rattle.colregs_program.specs.Inner.Streaming.{HasWritten}
use Rattle.colregs_program.proofs.streaming.feed_log.Given as goal

-- what was read was fed, and what it decides written
abbrev pub invariant-loop-block : goal.invariant-loop-block
invariant-loop-block g l = record {
  room : 0 < vec_len l.block;
  mode : mode_of l.session ≡ mode_of l.fn.session;
  scenario : session_scenario l.session ≡ session_scenario l.fn.session;
  written : HasWritten l.session (g.S.Source.left l.fn.log) (g.S.Source.left l.log) (g.K.Sink.contents l.fn.out) (g.K.Sink.contents l.out);
  log_faults : g.S.Source.faults l.log ≡ g.S.Source.faults l.fn.log;
  out_faults : g.K.Sink.faults l.out ≡ g.K.Sink.faults l.fn.out;
}

abbrev pub decreases-loop-block : goal.decreases-loop-block
decreases-loop-block g l = (session_scenario l.session).log.max_bytes - taken_of l.session
