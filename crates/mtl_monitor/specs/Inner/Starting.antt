-- What nodes keep before the first row.
use Rattle.std.specs.Prelude.{◌≡◌, ℕ, ◌<◌, ◌-◌, Bool, true, List, [], length}
use Rattle.circular_buffer.specs.Buffer.{buffer}
use Rattle.mtl_formulas.specs.declared.verdict.Verdict.{Verdict}
use Rattle.mtl_formulas.specs.declared.verdict.Verdict.TheVariants.{Open}
use Rattle.mtl_monitor.specs.declared.delay_line.Run.{Run}
use Rattle.mtl_monitor.specs.declared.delay_line.Delayed.{Delayed}
use Rattle.mtl_monitor.specs.declared.outlook.Ahead.{Ahead}
use Rattle.mtl_monitor.specs.declared.left.Left.{Left}
use Rattle.mtl_monitor.specs.Inner.Lookahead.{untouched}
use Rattle.mtl_monitor.specs.declared.node.Operator.{Operator}
use Rattle.mtl_monitor.specs.declared.node.Operator.TheVariants as op
use Rattle.mtl_monitor.specs.declared.node.ProgramNode.{ProgramNode}
use Rattle.mtl_monitor.specs.declared.node.Kept.{Kept}
use Rattle.mtl_monitor.specs.declared.node.Kept.TheVariants as kinds
use Rattle.mtl_monitor.specs.Inner.Standing.{node_at, state_at}
use Rattle.mtl_monitor.specs.Inner.Quiet.{flag_at}

abbrev pub nothing : Left
nothing = record { yes = 0; some = 0 }

abbrev pub no_run : Run
no_run = record { value = Open; count = 0 }

-- a delay by so many values, and what an U keeps with a window of so many positions
abbrev pub undelayed : ℕ → Delayed
undelayed cells = record { ring = buffer [] cells; run = no_run }

abbrev pub unseen : ℕ → Ahead
unseen width = record { window = untouched width; bars = nothing }

abbrev pub IsFresh : Operator → Kept → Type 0
IsFresh (op.Late cells from a) (kinds.Ring d) = d ≡ undelayed cells
IsFresh (op.Window kind width from a) (kinds.Window s) = s ≡ nothing
IsFresh (op.Since width lower from a b) (kinds.Since hits bars) = (hits ≡ nothing) × (bars ≡ nothing)
IsFresh (op.Until from full lower a behind b) (kinds.Until s) = s ≡ unseen (full - from)
IsFresh (op.Atom a) kinds.Plain = Unit {0}
IsFresh (op.Not a) kinds.Plain = Unit {0}
IsFresh (op.Pair kind a b) kinds.Plain = Unit {0}
IsFresh _ _ = ⊥

pub record AreFresh (nodes : List ProgramNode) (states : List Kept) (values : List Verdict) (moving : List Bool) : Type 0 where
  pub states_fit : length states ≡ length nodes
  pub values_fit : length values ≡ length nodes
  pub moving_fit : length moving ≡ length nodes
  pub move : (k : ℕ) → flag_at moving k ≡ true
  pub each : (k : ℕ) → k < length nodes → IsFresh (node_at nodes k).operator (state_at states k)
