-- One tick of the whole audit.
use Rattle.std.proofs.Common.{◌≡◌, ℕ, ◌+◌, ◌-◌, ◌≤◌, List, [], ◌∷◌, ◌++◌, length, length-append, sym, subst, arith}
use Rattle.mtl_monitor.specs.Reaches.{greatest_reach}
use Rattle.audit_rows.specs.Rows.{AreRowsBelow}
use Rattle.audit_rows.specs.Tracks.{AreSettled, Track}
use Rattle.audit_rows.specs.declared.row.Row.{Row}
use Rattle.traces.specs.Audited.{AuditNumbers, Sighting}
use Rattle.traces.specs.Known.{AreKnown, Known}
use Rattle.auditor.specs.AuditRows.{AreAuditRowsBelow}
use Rattle.auditor.specs.Inner.AuditKeeping.{AreAllTracks}
use Rattle.auditor.specs.SettledRows.{settled_by}
use Rattle.audit_rows.specs.Standing.{QueueStandsFor}
use Rattle.auditor.specs.SettledRows.{formulas_of}
use Rattle.audit_rows.specs.declared.row_queue.RowQueue.{RowQueue}
use Rattle.auditor.proofs.NextTick.{settled}
use Rattle.auditor.proofs.RowsOf.{audit_rows_below}
use Rattle.auditor.proofs.TracksOf.{have_rows}

module _ (numbers : AuditNumbers) (ticks : List Sighting) (seen : Sighting) where
  pub counted : length ticks + 1 ≡ length (ticks ++ seen ∷ [])
  counted = let e = length-append ticks (seen ∷ []) in omega arith

  pub bound_of : (given reach less bound : ℕ) → given ≡ length ticks → reach ≡ greatest_reach (formulas_of numbers) → less ≡ given - reach → bound ≡ less - 1 → bound ≡ settled_by numbers (length ticks)
  bound_of given reach less bound e f g h = omega arith

  module _ (knowns : List Known) (are : AreKnown numbers (ticks ++ seen ∷ []) knowns) (bound : ℕ) (is : bound ≡ settled_by numbers (length ticks)) where
    pub later_bound : settled_by numbers (length ticks - 1) ≤ bound
    later_bound = omega arith

    pub all_settled : (tracks : List Track) → AreAllTracks numbers knowns tracks → AreSettled bound tracks
    all_settled tracks all =
        subst (λ (b : ℕ). AreSettled b tracks) (sym is) (settled numbers (ticks ++ seen ∷ []) knowns (length ticks) are counted tracks all)

    pub rows_given : (tracks : List Track) (rows : List Row) → AreAllTracks numbers knowns tracks → AreRowsBelow bound tracks rows
        → AreAuditRowsBelow numbers (ticks ++ seen ∷ []) (settled_by numbers (length ticks)) rows
    rows_given tracks rows all below =
        subst (λ (b : ℕ). AreAuditRowsBelow numbers (ticks ++ seen ∷ []) b rows) is
        (audit_rows_below numbers (ticks ++ seen ∷ []) knowns are (have_rows numbers (ticks ++ seen ∷ []) knowns are) tracks bound rows all (all_settled tracks all) below)

    pub kept_on : (marks : RowQueue) (tracks : List Track) (rows : List Row) → QueueStandsFor marks tracks bound rows
        → QueueStandsFor marks tracks (settled_by numbers (length (ticks ++ seen ∷ []) - 1)) rows
    kept_on marks tracks rows keeps =
        let e = counted in
        let at : bound ≡ settled_by numbers (length (ticks ++ seen ∷ []) - 1) = omega arith in
        subst (λ (b : ℕ). QueueStandsFor marks tracks b rows) at keeps
