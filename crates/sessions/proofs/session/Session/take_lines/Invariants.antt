use Rattle.std.proofs.Common.{ℕ, ◌≡◌, ◌-◌, ◌≤◌, List, length, take}
use Rattle.audit_report.specs.ReportTexts.{HasText}
use Rattle.sessions.specs.Inner.Lines.{TookLines}
use Rattle.sessions.specs.Standing.{mode_of, session_scenario, taken_of}
use Rattle.sessions.proofs.session.Session.take_lines.Given as goal

-- the bytes up to this place were taken
abbrev pub invariant-loop-at : goal.invariant-loop-at
invariant-loop-at l = record {
  within : l.at ≤ length l.bytes;
  mode : mode_of l.self ≡ mode_of l.initial.self;
  scenario : session_scenario l.self ≡ session_scenario l.initial.self;
  count : taken_of l.self ≡ taken_of l.initial.self;
  so_far : (front : List ℕ) → HasText l.initial.text front → TookLines l.initial.self l.self (take l.at l.bytes) front l.text;
}

abbrev pub decreases-loop-at : goal.decreases-loop-at
decreases-loop-at l = length l.bytes - l.at
