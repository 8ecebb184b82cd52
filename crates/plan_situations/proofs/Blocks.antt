-- Blocks of plans that fail.
use Rattle.std.proofs.Common.{◌≡◌, ◌∙◌, ℕ, zero, suc, ◌+◌, ◌-◌, ◌*◌, ◌^◌, ◌<◌, ◌≤◌, ◌⊎◌, List, [], ◌∷◌, ◌++◌, length, take, drop, ap, sym, subst, inl, inr, arith, refl, length-append}
use Rattle.std.proofs.lemmas.Bool.{cases_lt}
use Rattle.std.proofs.lemmas.List.{get_or_append_left, get_or-take, take-append-drop}
use Rattle.std.proofs.Math.Seq.{take-append_seam}
use Rattle.std.proofs.lemmas.Int.Digits.{number_after_append, number_after_lt}
use Rattle.std.proofs.Math.Nat.{pow-suc, pow-succ', pow-zero, mul-le-mul_right, one-le-pow, pow-le-pow_right}
use Rattle.std.proofs.lemmas.Nat.{pow-add}
use Rattle.std.specs.Int.Digits.{AllBelowBase, number_from_digits, number_from_digits_after}
use Rattle.std.specs.Prelude.{slice_index, ◌↔◌}
use Rattle.lattice.specs.Grids.{Grid, choices_of, plans_of, positions_of}
use Rattle.lattice.specs.OwnMotion.{choice_in_force}
use Rattle.lattice.specs.PlanNumbers.{number_of, plan_of, IsPlan}
use Rattle.lattice.proofs.Digits.{below_plan_of, inverse, length-plan_of, number_plan_of, plan_after}
use Rattle.plan_situations.specs.FailingPlans.{Fails, FailsBy}
use Rattle.plan_situations.specs.LeastPlans.{AllFailBelow, IsLeastPlan, numbered}
use Rattle.plan_situations.specs.Prefixes.{AreOneBlock, IsInBlock, reached, steps_told}
use Rattle.plan_situations.specs.Situations.{end_of, now_of}
use Rattle.plan_situations.specs.declared.situation.Situation.{Situation}
use Rattle.plan_situations.proofs.CommonLegs.{in_force, when_less, when_not_less}
use Rattle.plan_situations.proofs.Lifting.{fails_too}

-- ---- numbers

one_more : (b n d power x y z : ℕ) → x ≡ (n * b + d) * power + z → y ≡ (0 * b + d) * power + z → x ≡ n * (b * power) + y
one_more b n d power x y z e f = omega arith

pub number_after : (b n : ℕ) (ds : List ℕ) → number_from_digits_after b n ds ≡ n * b ^ length ds + number_from_digits b ds
number_after b n [] = rw (pow-zero b) (omega arith)
number_after b n (d ∷ ds) =
    rw (pow-succ' b (length ds)) (one_more b n d (b ^ length ds) _ _ _ (number_after b (n * b + d) ds) (number_after b (0 * b + d) ds))

-- a number of the block of n is that of a plan that begins with the plan of n
pub plan_in_block : (b k j n m : ℕ) → 0 < b → IsInBlock b j n m → (rest : List ℕ) × (plan_of b (j + k) m ≡ plan_of b k n ++ rest)
plan_in_block b k j n m p h =
    let low = h.from in
    let high = h.to in
    let rest = plan_of b j (m - n * b ^ j) in
    let small : m - n * b ^ j < b ^ j = omega arith in
    let long = length-plan_of b j (m - n * b ^ j) in
    let e = plan_after b k n rest (below_plan_of b j (m - n * b ^ j) p) in
    let value : number_from_digits_after b n rest ≡ m = rw (number_after b n rest, long, number_plan_of b j (m - n * b ^ j) p small) (omega arith) in
    (rest, rw (long, value) at e)

below_drop : (b n : ℕ) (ds : List ℕ) → AllBelowBase b ds → AllBelowBase b (drop n ds)
below_drop b zero ds h = h
below_drop b (suc n) [] h = tt
below_drop b (suc n) (d ∷ ds) h = below_drop b n ds h.1

-- The plans that extend a prefix are those whose numbers lie in its block.
pub blocks : (b legs : ℕ) → 0 < b → (prefix plan : List ℕ) → AllBelowBase b prefix → IsPlan b legs plan → length prefix ≤ legs
    → (take (length prefix) plan ≡ prefix) ↔ IsInBlock b (legs - length prefix) (number_of b prefix) (number_of b plan)
blocks b legs p prefix plan below h few = (λ e. within e, λ i. begins i)
  where
    within : take (length prefix) plan ≡ prefix → IsInBlock b (legs - length prefix) (number_of b prefix) (number_of b plan)
    within e =
        let rest = drop (length prefix) plan in
        let n = number_of b prefix in
        let whole : prefix ++ rest ≡ plan = rw e at (take-append-drop (length prefix) plan) in
        let value : number_of b plan ≡ number_from_digits_after b n rest = ap (number_of b) (sym whole) ∙ number_after_append b 0 prefix rest in
        let count = h.count in
        let long : length rest ≡ legs - length prefix = omega (arith, length-append prefix rest, ap length whole) in
        let low = rw long at (number_after b n rest) in
        let high = rw long at (number_after_lt b n rest (below_drop b (length prefix) plan h.below)) in
        record { from = rw (value, low) (omega arith); to = rw value high }

    begins : IsInBlock b (legs - length prefix) (number_of b prefix) (number_of b plan) → take (length prefix) plan ≡ prefix
    begins i =
        let e : legs - length prefix + length prefix ≡ legs = omega arith in
        let found = plan_in_block b (length prefix) (legs - length prefix) (number_of b prefix) (number_of b plan) p i in
        let same = (inverse b (length prefix) p).plan prefix (record { count = refl; below = below }) in
        let all = (inverse b legs p).plan plan h in
        let whole : plan ≡ prefix ++ found.0 = rw (e, all, same) at found.1 in
        rw whole (take-append_seam prefix found.0)

-- ---- the first plan of a block

pub some_plan : (s : Situation) → 1 ≤ choices_of s.lattice → 0 < plans_of s.lattice
some_plan s some = one-le-pow s.lattice.legs (choices_of s.lattice) some

pub small_place : (c legs left most : ℕ) → 1 ≤ c → left ≤ legs → c ^ legs ≤ most → c ^ left ≤ most
small_place c legs left most some le few = omega (arith, pow-le-pow_right some le)

pub first_plan_numbered : (c legs left k n : ℕ) → 1 ≤ c → left + k ≡ legs → n < c ^ k → n * c ^ left < c ^ legs
first_plan_numbered c legs left k n some e lt =
    let place = one-le-pow left c some in
    let next : n + 1 ≤ c ^ k = omega arith in
    let product = mul-le-mul_right (c ^ left) next in
    let sum : c ^ (left + k) ≡ c ^ left * c ^ k = pow-add c left k in
    let whole : c ^ legs ≡ c ^ left * c ^ k = ap (λ (m : ℕ). c ^ m) (sym e) ∙ sum in
    omega arith

pub first_plan_begins : (c legs left k n : ℕ) → 1 ≤ c → left + k ≡ legs → take k (plan_of c legs (n * c ^ left)) ≡ plan_of c k n
first_plan_begins c legs left k n some e =
    let place = one-le-pow left c some in
    let found = plan_in_block c k left n (n * c ^ left) some (record { from = omega arith; to = omega arith }) in
    let whole : plan_of c legs (n * c ^ left) ≡ plan_of c k n ++ found.0 = ap (λ (m : ℕ). plan_of c m (n * c ^ left)) (sym e) ∙ found.1 in
    ap (take k) whole ∙ (ap (λ (m : ℕ). take m (plan_of c k n ++ found.0)) (sym (length-plan_of c k n)) ∙ take-append_seam (plan_of c k n) found.0)

-- ---- what lasts

pub told_within : (grid : Grid) (legs : ℕ) → steps_told grid legs ≤ positions_of grid
told_within grid legs = elim (cases_lt legs grid.legs) [
  | inl lt ↦ (let le : legs ≤ grid.legs = omega arith in
      let few = mul-le-mul_right grid.leg_ticks le in
      subst (λ (k : ℕ). k ≤ positions_of grid) (sym (when_less legs grid.legs (legs * grid.leg_ticks) (positions_of grid) lt)) (omega arith))
  | inr ge ↦ subst (λ (k : ℕ). k ≤ positions_of grid) (sym (when_not_less legs grid.legs (legs * grid.leg_ticks) (positions_of grid) ge)) (omega arith)
]

few_or_all : (a b : ℕ) → b ≤ a ⊎ a < b
few_or_all a b = elim (cases_lt a b) [ inl lt ↦ inr lt | inr ge ↦ inl ge ]

pub shared : (grid : Grid) (X Y : List ℕ) (legs : ℕ) → 1 ≤ grid.legs → ((i : ℕ) → i < legs → slice_index X i ≡ slice_index Y i)
    → (step : ℕ) → step < steps_told grid legs → choice_in_force grid X step ≡ choice_in_force grid Y step
shared grid X Y legs some same step lt = in_force grid X Y legs same some (few_or_all legs grid.legs) step lt

pub reached_end : (s : Situation) (legs : ℕ) → s.lattice.legs ≤ legs → reached s legs ≡ end_of s
reached_end s legs le = ap (λ (k : ℕ). now_of s + k) (when_not_less legs s.lattice.legs (legs * s.lattice.leg_ticks) (positions_of s.lattice) le)

-- a plan fails if a prefix of it has failed
pub prefix_lasts : (s : Situation) (prefix plan : List ℕ) (legs : ℕ) → 1 ≤ s.lattice.legs → ((i : ℕ) → i < legs → slice_index prefix i ≡ slice_index plan i)
    → FailsBy s (reached s legs) prefix → Fails s plan
prefix_lasts s prefix plan legs some same h =
    let told = told_within s.lattice legs in
    fails_too s prefix plan (steps_told s.lattice legs) (shared s.lattice prefix plan legs some same) (reached s legs) (omega arith) (end_of s) (omega arith) (omega arith) h

-- ---- one number more

pub all_so_far : (s : Situation) (n : ℕ) → ((m : ℕ) → m < n → Fails s (numbered s m)) → Fails s (numbered s n) → (m : ℕ) → m < n + 1 → Fails s (numbered s m)
all_so_far s n before here m lt = elim (cases_lt m n) [
  | inl earlier ↦ before m earlier
  | inr last ↦ (let e : n ≡ m = omega arith in subst (λ (k : ℕ). Fails s (numbered s k)) e here)
]

some_choice : (c legs n : ℕ) → 1 ≤ legs → n < c ^ legs → 0 < c
some_choice zero zero n some lt = absurd (omega arith)
some_choice zero (suc legs) n some lt = let none : zero ^ suc legs ≡ zero ^ legs * zero = pow-suc zero legs in absurd (omega arith)
some_choice (suc c) legs n some lt = omega arith

pub least_of : (s : Situation) → 1 ≤ s.lattice.legs → (n : ℕ) (plan : List ℕ) → n < plans_of s.lattice → plan ≡ plan_of (choices_of s.lattice) s.lattice.legs n
    → IsPlan (choices_of s.lattice) s.lattice.legs plan → (¬ Fails s plan) → ((m : ℕ) → m < n → Fails s (numbered s m)) → IsLeastPlan s plan
least_of s some n plan lt is whole passes before =
    let choice = some_choice (choices_of s.lattice) s.lattice.legs n some lt in
    let number : number_of (choices_of s.lattice) plan ≡ n = ap (number_of (choices_of s.lattice)) is ∙ (inverse (choices_of s.lattice) s.lattice.legs choice).number n lt in
    record {
      whole = whole;
      passes = passes;
      least = subst (AllFailBelow s) (sym number) before;
    }

pub same_front : (X rest : List ℕ) (i : ℕ) → i < length X → slice_index X i ≡ slice_index (X ++ rest) i
same_front X rest i lt = sym (get_or_append_left X rest 0 i lt)

-- ---- the block law

pub one_block : (s : Situation) → 1 ≤ s.lattice.legs → (prefix : List ℕ) → 0 < choices_of s.lattice → AllBelowBase (choices_of s.lattice) prefix → length prefix ≤ s.lattice.legs → AreOneBlock s prefix
one_block s some prefix p below few = record {
  fail = λ fails plan is e. prefix_lasts s prefix plan (length prefix) some
      (λ i lt. ap (λ (ds : List ℕ). slice_index ds i) (sym e) ∙ get_or-take (length prefix) plan i 0 lt) fails;
  block = λ plan is. blocks (choices_of s.lattice) s.lattice.legs p prefix plan below is few;
}
