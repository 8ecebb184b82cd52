-- What a judge stands for with one line more, and the situation that is prepared.
use Rattle.std.proofs.Common.{ℕ, ◌≡◌, ◌+◌, ◌++◌, ◌∷◌, [], List, length, length-append, Some, None, false, true, arith}
use Rattle.std.specs.Prelude.{Option, Bool, IfSome, is_some, not}
use Rattle.log_lines.specs.Standing.{StandsFor}
use Rattle.log_lines.specs.declared.judge.Judge.{Judge}
use Rattle.scenario_values.specs.declared.own_part.OwnPart.{OwnPart}
use Rattle.scenario_values.specs.declared.values.Scenario.{Scenario}
use Rattle.plan_situations.specs.Preparing.{IsPrepared}
use Rattle.plan_situations.specs.Situations.{IsSituation}
use Rattle.plan_situations.specs.declared.preparation.Prepared.{Prepared}
use Rattle.tracks.specs.AcceptedReports.{JudgingNumbers}
use Rattle.tracks.specs.VesselsHeld.{Sent}

pub grown : (judge : Judge) (scenario : Scenario) (lines : List (List ℕ)) (line : List ℕ) (k : ℕ) → length lines ≡ k → StandsFor judge scenario (lines ++ line ∷ [])
    → (more : List (List ℕ)) × (length more ≡ k + 1) × StandsFor judge scenario more
grown judge scenario lines line k long stands = (lines ++ line ∷ [], omega (arith, length-append lines (line ∷ [])), stands)

pub situated : (numbers : JudgingNumbers) (messages : List Sent) (scenario : Scenario) (prepared : Prepared) (o : Option OwnPart) (b : Bool) → is_some o ≡ not b → b ≡ false
    → IfSome o (λ own. IsPrepared numbers messages scenario own prepared) → IsSituation prepared.situation
situated numbers messages scenario prepared None true e f h = absurd cc
situated numbers messages scenario prepared None false e f h = absurd cc
situated numbers messages scenario prepared (Some own) b e f h = h.sound
