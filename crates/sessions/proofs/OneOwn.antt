-- Own ship is one, and what she is planned from.
use Rattle.std.proofs.Common.{ℕ, ◌≡◌, List}
use Rattle.scenario_values.specs.declared.own_part.OwnPart.{OwnPart}
use Rattle.scenario_values.specs.declared.values.Scenario.{Scenario}
use Rattle.plan_situations.specs.declared.readiness.Ready.{Ready}
use Rattle.sessions.specs.PlanReport.{IsOwn}

pub one_own : (scenario : Scenario) (log : List ℕ) (own own' : OwnPart) (ready ready' : Ready) → IsOwn scenario log own ready → IsOwn scenario log own' ready' → own ≡ own'
one_own scenario log own own' ready ready' a b = cc (a.needed, b.needed)

pub one_ready : (scenario : Scenario) (log : List ℕ) (own : OwnPart) (ready ready' : Ready) → IsOwn scenario log own ready → IsOwn scenario log own ready' → ready ≡ ready'
one_ready scenario log own ready ready' a b = cc (a.is_ready, b.is_ready)
