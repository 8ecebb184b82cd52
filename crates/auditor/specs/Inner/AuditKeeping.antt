-- The state of an audit for all traces.
use Rattle.std.specs.Prelude.{◌≡◌, List, [], ◌∷◌, ◌++◌}
use Rattle.mtl_formulas.specs.FormulaTree.{FormulaTree}
use Rattle.mtl_formulas.specs.Traces.{Trace}
use Rattle.audit_rows.specs.Tracks.{Track}
use Rattle.audit_rows.specs.declared.mark.Mark.{Mark}
use Rattle.traces.specs.Audited.{AuditNumbers}
use Rattle.traces.specs.Known.{Known}
use Rattle.auditor.specs.TraceKeeping.{AreRuleMarksSoFar, AreTracks}

-- the tracks of one trace, and then those of others
pub record AreParted (tracks mine others : List Track) : Type 0 where
  pub whole : tracks ≡ mine ++ others

-- The tracks are those of the traces, one trace after the other, with these marks of rules.
abbrev pub AreTracksOfAll : (FormulaTree → Trace → List Mark → Type 0) → AuditNumbers → List Known → List Track → Type 0
AreTracksOfAll AreMarks numbers [] tracks = tracks ≡ []
AreTracksOfAll AreMarks numbers (known ∷ knowns) tracks =
    (mine : List Track) × (others : List Track) × (AreParted tracks mine others × AreTracks AreMarks numbers known mine × AreTracksOfAll AreMarks numbers knowns others)

-- with those so far
abbrev pub AreAllTracks : AuditNumbers → List Known → List Track → Type 0
AreAllTracks = AreTracksOfAll AreRuleMarksSoFar
