-- Where two vessels are in contact at some tick, there is a first such tick; and an engagement begins in contact.
use Rattle.std.proofs.Common.{◌≡◌, ℕ, zero, suc, ◌*◌, ◌<◌, ◌≤◌, ◌⊎◌, inl, inr, pos, subst, arith}
use Rattle.std.specs.Prelude.{Option, Some, None, IsSomeAnd}
use Rattle.std.proofs.lemmas.Int.{by_lt_z, ints}
use Rattle.fixed_geometry.specs.Plane.{norm2_of}
use Rattle.motion.specs.Displacement.{displacement}
use Rattle.motion.specs.declared.leg.TickState.{TickState}
use Rattle.encounters.specs.Risk.{HasRisk}
use Rattle.encounters.specs.declared.detect.Detect.{Detect}
use Rattle.meetings.specs.Traces.{AreInContact, IsContactAt, step_between}

contact_or_not : (watch : ℕ) (a b : Option TickState) → AreInContact watch a b ⊎ (¬ AreInContact watch a b)
contact_or_not watch None b = inr (λ h. h)
contact_or_not watch (Some a) None = inr (λ h. h)
contact_or_not watch (Some a) (Some b) =
    by_lt_z (pos (watch * watch)) (norm2_of (displacement a.point b.point)) (λ far. inr (λ near. absurd (omega (arith, ints)))) (λ near. inl near)

-- ---- two vessels in the same states

pub step_same : {a0 b0 a1 b1 c0 d0 c1 d1 : Option TickState} → a0 ≡ c0 → b0 ≡ d0 → a1 ≡ c1 → b1 ≡ d1 → step_between a0 b0 a1 b1 ≡ step_between c0 d0 c1 d1
step_same p q r s = λ i. step_between (p i) (q i) (r i) (s i)

pub contact_same : (watch : ℕ) {a b c d : Option TickState} → a ≡ c → b ≡ d → AreInContact watch a b → AreInContact watch c d
contact_same watch {a} {b} {c} {d} p q near = subst (λ (o : Option TickState). AreInContact watch c o) q (subst (λ (o : Option TickState). AreInContact watch o b) p near)

-- ---- where they are first in contact

below : (k n : ℕ) → k < suc n → (k < n) ⊎ (k ≡ n)
below k n lt = grind arith

-- a step with risk begins in contact
pub risk_in_contact : (detect : Detect) (a b c d : Option TickState) → IsSomeAnd (step_between a b c d) (λ pair. HasRisk detect pair.step) → AreInContact detect.watch a b
risk_in_contact detect None b c d h = absurd h
risk_in_contact detect (Some a) None c d h = absurd h
risk_in_contact detect (Some a) (Some b) None d h = absurd h
risk_in_contact detect (Some a) (Some b) (Some c) None h = absurd h
risk_in_contact detect (Some a) (Some b) (Some c) (Some d) h = h.watched

module _ (a b : ℕ → Option TickState) (watch : ℕ) where
  pub record FirstContact (until : ℕ) : Type 0 where
    pub start : ℕ
    pub by : start ≤ until
    pub contact : IsContactAt a b watch start
    pub least : (i : ℕ) → i < start → ¬ IsContactAt a b watch i

  some_or_none : (n : ℕ) → ((i : ℕ) → i < n → ¬ IsContactAt a b watch i) ⊎ FirstContact n
  some_or_none zero = inl (λ i lt near. omega arith)
  some_or_none (suc n) =
      elim (some_or_none n) [
        | inl none ↦ elim (contact_or_not watch (a n) (b n)) [
          | inl near ↦ inr (record { start = n; by = omega arith; contact = near; least = none })
          | inr far ↦ inl (λ i lt. elim (below i n lt) [
            | inl before ↦ none i before
            | inr here ↦ (λ near. far (subst (λ (k : ℕ). IsContactAt a b watch k) here near))
          ])
        ]
        | inr some ↦ inr (let by = some.by in record { start = some.start; by = omega arith; contact = some.contact; least = some.least })
      ]

  pub first_contact : (n : ℕ) → IsContactAt a b watch n → FirstContact n
  first_contact n near =
      elim (some_or_none n) [
        | inl none ↦ record { start = n; by = omega arith; contact = near; least = none }
        | inr some ↦ some
      ]
