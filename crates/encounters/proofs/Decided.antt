-- At each step there is risk or there is none, and vessels are past and clear or they are not.
use Rattle.std.proofs.Common.{◌*◌, ◌⊎◌, inl, inr, ℤ, pos, ◌≤ℤ◌, arith}
use Rattle.std.proofs.lemmas.Int.{ints, by_lt_z}
use Rattle.fixed_geometry.specs.Plane.{dot_of, norm2_of}
use Rattle.motion.specs.Steps.{RelativeMove}
use Rattle.closest_approach.proofs.Decision.{enters_or_not}
use Rattle.encounters.specs.Risk.{HasRisk, IsPastClear}
use Rattle.encounters.specs.declared.detect.Detect.{Detect}

at_most_or_not : (x y : ℤ) → (x ≤ℤ y) ⊎ (¬ (x ≤ℤ y))
at_most_or_not x y = by_lt_z y x (λ lt. inr (λ le. omega (arith, ints))) (λ le. inl le)

pub risk_or_not : (detect : Detect) (step : RelativeMove) → HasRisk detect step ⊎ (¬ HasRisk detect step)
risk_or_not detect step =
    elim (at_most_or_not (norm2_of step.p) (pos (detect.watch * detect.watch))) [
      | inl near ↦ elim (enters_or_not step detect.risk detect.horizon) [
        | inl enters ↦ inl (record { watched = near; enters = enters })
        | inr never ↦ inr (λ h. never h.enters)
      ]
      | inr far ↦ inr (λ h. far h.watched)
    ]

pub clear_or_not : (detect : Detect) (step : RelativeMove) → IsPastClear detect step ⊎ (¬ IsPastClear detect step)
clear_or_not detect step =
    elim (risk_or_not detect step) [
      | inl risk ↦ inr (λ h. h.riskless risk)
      | inr riskless ↦ elim (at_most_or_not (pos 0) (dot_of step.p step.w)) [
        | inl opening ↦ elim (at_most_or_not (pos (detect.clear * detect.clear)) (norm2_of step.p)) [
          | inl clear ↦ inl (record { riskless = riskless; opening = opening; clear = clear })
          | inr near ↦ inr (λ h. near h.clear)
        ]
        | inr closing ↦ inr (λ h. closing h.opening)
      ]
    ]
