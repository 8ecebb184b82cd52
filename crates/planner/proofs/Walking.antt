-- The walk over the tree of legs.
use Rattle.std.proofs.Common.{◌≡◌, ◌∙◌, ℕ, zero, suc, ◌+◌, ◌*◌, ◌/◌, ◌^◌, ◌<◌, ◌≤◌, List, ◌∷◌, length, get_or, sym, ap, subst, arith}
use Rattle.std.proofs.lemmas.Nat.{div-mul-add}
use Rattle.std.proofs.Math.Nat.{mul-le-mul_right, pow-suc, pow-zero}
use Rattle.lattice.specs.Grids.{choices_of}
use Rattle.lattice.specs.PlanNumbers.{plan_of}
use Rattle.lattice.proofs.Digits.{length-plan_of}
use Rattle.plan_situations.specs.FailingPlans.{FailsBy}
use Rattle.planner.specs.Inner.Levels.{ArePlaces, HasPlaces}
use Rattle.planner.specs.Inner.Walk.{IsFirst}
use Rattle.plan_situations.specs.Prefixes.{PrefixFails, reached}
use Rattle.plan_situations.specs.Situations.{end_of}
use Rattle.planner.specs.declared.basis.SearchBasis.{SearchBasis}
use Rattle.planner.specs.declared.level.Level.{Level}
use Rattle.plan_situations.specs.declared.situation.Situation.{Situation}
use Rattle.plan_situations.proofs.Blocks.{reached_end}
use Rattle.planner.proofs.Blocks.{none_fail}

-- ---- places

pub split_places : (s : Situation) (basis : SearchBasis) (leg : ℕ) (below : List Level) (to : Level) (rest : List Level) → below ≡ to ∷ rest → ArePlaces s basis leg below → HasPlaces s basis leg to × ArePlaces s basis (leg + 1) rest
split_places s basis leg below to rest e h =
    let g = subst (ArePlaces s basis leg) e h in
    let count = g.count in
    let first : leg + 0 ≡ leg = omega arith in (
      subst (λ (n : ℕ). HasPlaces s basis n to) first (g.each 0 to (omega arith)),
      record {
        count = omega arith;
        each = λ i l lt. let next : leg + suc i ≡ (leg + 1) + i = omega arith in subst (λ (n : ℕ). HasPlaces s basis n (get_or rest i l)) next (g.each (suc i) l (omega arith));
      },
    )

pub join_places : (s : Situation) (basis : SearchBasis) (leg : ℕ) (to : Level) (rest : List Level) → HasPlaces s basis leg to → ArePlaces s basis (leg + 1) rest → ArePlaces s basis leg (to ∷ rest)
join_places s basis leg to rest place h =
    let count = h.count in
    record { count = omega arith; each = each }
  where
    each : (i : ℕ) (l : Level) → i < length (to ∷ rest) → HasPlaces s basis (leg + i) (get_or (to ∷ rest) i l)
    each zero l lt = let first : leg ≡ leg + 0 = omega arith in subst (λ (n : ℕ). HasPlaces s basis n to) first place
    each (suc i) l lt = let next : (leg + 1) + i ≡ leg + suc i = omega arith in subst (λ (n : ℕ). HasPlaces s basis n (get_or rest i l)) next (h.each i l (omega arith))

-- ---- numbers

pub next_number : (c leg n k : ℕ) → n < c ^ leg → k < c → n * c + k < c ^ (leg + 1)
next_number c leg n k lt below =
    let more : n + 1 ≤ c ^ leg = omega arith in
    let product = mul-le-mul_right c more in
    let e : leg + 1 ≡ suc leg = omega arith in
    let power : c ^ (leg + 1) ≡ c ^ leg * c = ap (λ (m : ℕ). c ^ m) e ∙ pow-suc c leg in
    omega arith

pub number_before : (c n k longer : ℕ) → k < c → longer ≡ n * c + k → longer / c ≡ n
number_before c n k longer lt is = ap (λ (m : ℕ). m / c) is ∙ div-mul-add n c k lt

-- ---- at the last leg

pub first_alone : (s : Situation) → 1 ≤ s.lattice.legs → (leg n len : ℕ) → len ≡ 0 → leg + len ≡ s.lattice.legs → (¬ PrefixFails s (plan_of (choices_of s.lattice) leg n))
    → IsFirst s (n * choices_of s.lattice ^ len) ((n + 1) * choices_of s.lattice ^ len) n
first_alone s some leg n len none whole passes =
    let one : choices_of s.lattice ^ len ≡ 1 = ap (λ (m : ℕ). choices_of s.lattice ^ m) none ∙ pow-zero (choices_of s.lattice) in
    let all : s.lattice.legs ≡ leg = omega arith in
    let start : n * choices_of s.lattice ^ len ≡ n = ap (λ (m : ℕ). n * m) one ∙ times_one n in
    let end : (n + 1) * choices_of s.lattice ^ len ≡ n + 1 = ap (λ (m : ℕ). (n + 1) * m) one ∙ times_one (n + 1) in
    record {
      not_before = omega arith;
      before = omega arith;
      passes = λ h.
          let long = length-plan_of (choices_of s.lattice) leg n in
          let ends : reached s (length (plan_of (choices_of s.lattice) leg n)) ≡ end_of s = reached_end s (length (plan_of (choices_of s.lattice) leg n)) (omega arith) in
          passes (subst (λ (t : ℕ). FailsBy s t (plan_of (choices_of s.lattice) leg n)) (sym ends)
          (subst (λ (m : ℕ). FailsBy s (end_of s) (plan_of (choices_of s.lattice) m n)) all h));
      lesser = none_fail s some (n * choices_of s.lattice ^ len) n (omega arith);
    }
  where
    times_one : (m : ℕ) → m * 1 ≡ m
    times_one m = omega arith
