-- The engagement at a step by the state there.
use Rattle.std.specs.Prelude.{ℕ, Option, Some, None}
use Rattle.mtl_formulas.specs.declared.verdict.Verdict.TheVariants.{No}
use Rattle.sectors.specs.declared.class.Class.{Class}
use Rattle.encounters.specs.Alterations.{changes_of}
use Rattle.encounters.specs.declared.act.Act.{Act}
use Rattle.encounters.specs.declared.changes.Changes.{Changes}
use Rattle.encounters.specs.declared.engagement_state.EngagementState.{EngagementState}
use Rattle.encounters.specs.declared.engagement_state.EngagementState.TheVariants.{Apart, Engaged}
use Rattle.encounters.specs.declared.pair_step.PairStep.{PairStep}

-- the kind of the engagement, if there is one: the class at its beginning
abbrev pub kind_of : EngagementState → Option Class
kind_of Apart = None
kind_of (Engaged kind age a b) = Some kind

-- the number of steps since its beginning, 0 at the beginning itself
abbrev pub age_of : EngagementState → Option ℕ
age_of Apart = None
age_of (Engaged kind age a b) = Some age

-- the alterations since it began; none if the vessels are not engaged, as at a step that is not seen
abbrev pub changes_at : Act → EngagementState → Option PairStep → Changes
changes_at act state (Some pair) = changes_of act state pair.a pair.b
changes_at act state None = record { alters = No; apparent = No; to_starboard = No; to_port = No; other_apparent = No }
