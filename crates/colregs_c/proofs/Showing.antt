-- What a call leaves in the caller's rooms.
use Rattle.std.proofs.Common.{ℕ, ◌≡◌, inl, inr, List, [], Option, Some, None, refl, subst}
use Rattle.std.specs.Prelude.{MatchOption}
use Rattle.command_line.specs.declared.mode.ModeArgument.{ModeArgument}
use Rattle.colregs_program.specs.FaultLines.{exit_status_of, fault_line}
use Rattle.colregs_program.specs.declared.status.Status.TheVariants as status
use Rattle.colregs_c.specs.Calls.{Call, Leaves, Left, Refuses, Shows}
use Rattle.colregs_c.specs.Inner.Ends.{IsEndOf, IsRefusal}
use Rattle.colregs_c.specs.Rooms.{Fills}
use Rattle.colregs_c.specs.declared.running.Ended.{Ended}

-- the rooms show an end
pub record ShowsEnd (left : Left) (end : Ended) : Type 0 where
  pub result : left.result ≡ exit_status_of end.status
  pub report : Fills left.room left.room' left.length end.report.items
  pub line : Fills left.line_room left.line_room' left.line_length end.line.items

shows_by_line : (left : Left) (end : Ended) (text : List ℕ) → ShowsEnd left end → end.report.items ≡ text → end.line.items ≡ fault_line end.status → Shows left end.status text
shows_by_line left end text shows same line = record {
  status = shows.result;
  report = subst (λ (t : List ℕ). Fills left.room left.room' left.length t) same shows.report;
  line = subst (λ (t : List ℕ). Fills left.line_room left.line_room' left.line_length t) line shows.line;
}

pub shown_end : (asked : Option ModeArgument) (call : ModeArgument → Call) (left : Left) (end : Ended) → ShowsEnd left end
    → MatchOption asked (IsRefusal end) (λ mode. IsEndOf (call mode) end) → MatchOption asked (Refuses left) (λ mode. Leaves (call mode) left)
shown_end None call left end shows refusal = record {
  answer = end.status;
  is = inl refusal.usage;
  shown = shows_by_line left end [] shows refusal.report refusal.line;
}
shown_end (Some mode) call left end shows is = record {
  answer = end.status;
  text = end.report.items;
  answered = inl is.answered;
  shown = shows_by_line left end end.report.items shows refl is.line;
}

pub shown_memory : (asked : Option ModeArgument) (call : ModeArgument → Call) (left : Left) → Shows left status.Memory []
    → MatchOption asked (Refuses left) (λ mode. Leaves (call mode) left)
shown_memory None call left shows = record { answer = status.Memory; is = inr refl; shown = shows }
shown_memory (Some mode) call left shows = record { answer = status.Memory; text = []; answered = inr (refl, refl); shown = shows }
