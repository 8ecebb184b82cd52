-- Plans and their numbers are inverse.
use Rattle.std.proofs.Common.{◌≡◌, ◌∙◌, ℕ, zero, suc, ◌+◌, ◌-◌, ◌*◌, ◌/◌, ◌%◌, ◌^◌, ◌<◌, ◌≤◌, List, [], ◌∷◌, ◌++◌, length, take, get_or, length-take, ap, sym, arith, refl, length-append, append_assoc, add-one}
use Rattle.std.proofs.lemmas.List.{append-nil}
use Rattle.std.specs.Int.Digits.{number_from_digits_after, number_from_digits, AllBelowBase}
use Rattle.std.proofs.lemmas.Int.Digits.{number_push, number_more, number_lt}
use Rattle.std.proofs.Math.Nat.{div-lt_iff_lt-mul, pow-suc, pow-zero, pow-le-pow_right, mod-lt, mul-div_cancel, mul-le-mul_right, div-div-eq-div-mul}
use Rattle.std.proofs.lemmas.Nat.{div-mul-add, mod-mul-add, div-add-mod', pow-add}
use Rattle.lattice.specs.PlanNumbers.{plan_of, number_of, IsPlan, AreInverse}

pub plan_none : (b n : ℕ) → plan_of b 0 n ≡ []
unfolding plan_of
plan_none b n = refl

-- one more leg
pub plan_push : (b k n c : ℕ) → c < b → plan_of b (suc k) (n * b + c) ≡ plan_of b k n ++ c ∷ []
unfolding plan_of
plan_push b k n c h = rw (div-mul-add n b c h, mod-mul-add n b c h)

pub length-plan_of : (b k n : ℕ) → length (plan_of b k n) ≡ k
unfolding plan_of
length-plan_of b zero n = refl
length-plan_of b (suc k) n = omega (arith, length-append (plan_of b k (n / b)) (n % b ∷ []), length-plan_of b k (n / b))

pub below_push : (b : ℕ) (ds : List ℕ) (d : ℕ) → AllBelowBase b ds → d < b → AllBelowBase b (ds ++ d ∷ [])
below_push b [] d h lt = (lt, tt)
below_push b (x ∷ ds) d h lt = (h.0, below_push b ds d h.1 lt)

pub below_plan_of : (b k n : ℕ) → 0 < b → AllBelowBase b (plan_of b k n)
unfolding plan_of
below_plan_of b zero n h = tt
below_plan_of b (suc k) n h = below_push b (plan_of b k (n / b)) (n % b) (below_plan_of b k (n / b) h) (mod-lt n h)

pub number_plan_of : (b k n : ℕ) → 0 < b → n < b ^ k → number_from_digits b (plan_of b k n) ≡ n
unfolding plan_of
number_plan_of b zero n p h = omega (arith, pow-zero b)
number_plan_of b (suc k) n p h =
    let small : n / b < b ^ k = (div-lt_iff_lt-mul p).1 (rw pow-suc at h) in
    number_push b (plan_of b k (n / b)) (n % b) ∙ (ap (λ q. q * b + n % b) (number_plan_of b k (n / b) p small) ∙ div-add-mod' n b)

-- the plan of a number after which digits are written: the plan of the number, and then the digits
pub plan_after : (b k n : ℕ) (ds : List ℕ) → AllBelowBase b ds → plan_of b (length ds + k) (number_from_digits_after b n ds) ≡ plan_of b k n ++ ds
plan_after b k n [] h = let e : 0 + k ≡ k = omega arith in rw e (sym (append-nil (plan_of b k n)))
plan_after b k n (d ∷ ds) h =
    let e : suc (length ds) + k ≡ length ds + suc k = omega arith in
    let further = plan_after b (suc k) (n * b + d) ds h.1 in
    rw (e, further, plan_push b k n d h.0) (append_assoc (plan_of b k n) (d ∷ []) ds)

pub inverse : (b k : ℕ) → 0 < b → AreInverse b k
inverse b k p = record {
  number = λ n h. number_plan_of b k n p h;
  plan = λ ds h. back ds h;
}
  where
    back : (ds : List ℕ) → IsPlan b k ds → plan_of b k (number_of b ds) ≡ ds
    back ds h =
        let e : length ds + 0 ≡ k = omega (arith, h.count) in
        let f = plan_after b 0 0 ds h.below in
        let g = rw (e, plan_none b 0) at f in g

pub below_take : (b n : ℕ) (ds : List ℕ) → AllBelowBase b ds → AllBelowBase b (take n ds)
below_take b zero ds h = tt
below_take b (suc n) [] h = tt
below_take b (suc n) (d ∷ ds) h = (h.0, below_take b n ds h.1)

-- one more choice of a plan, read as a digit
pub number_small : (b k i : ℕ) (ds : List ℕ) → 0 < b → IsPlan b k ds → i < length ds → number_of b (take i ds) * b + get_or ds i 0 < b ^ k
number_small b k i ds p h lt =
    let small = number_lt b (take (i + 1) ds) (below_take b (i + 1) ds h.below) in
    let count = h.count in
    let long : length (take (i + 1) ds) ≤ k = simp length-take (omega arith) in
    omega (arith, small, number_more b ds i lt, pow-le-pow_right p long)

-- the weights of a plan's digits, the highest first
pub next_weight : (b legs leg : ℕ) → 0 < b → leg < legs → b ^ (legs - leg) ≡ b ^ (legs - (leg + 1)) * b
next_weight b legs leg p h = let e : legs - leg ≡ suc (legs - (leg + 1)) = omega arith in rw e (pow-suc b (legs - (leg + 1)))

pub lower_weight : (b legs leg : ℕ) → 0 < b → leg < legs → b ^ (legs - leg) / b ≡ b ^ (legs - (leg + 1))
lower_weight b legs leg p h = rw (next_weight b legs leg p h) (mul-div_cancel (b ^ (legs - (leg + 1))) p)

pub plan_step : (b leg n weight : ℕ) → plan_of b (leg + 1) (n / weight) ≡ plan_of b leg (n / (weight * b)) ++ n / weight % b ∷ []
unfolding plan_of
plan_step b leg n weight = rw (add-one, ← div-div-eq-div-mul n weight b) refl

-- ---- the block of a prefix that leaves this many legs

pub few_extensions : (b legs left most : ℕ) → 0 < b → left ≤ legs → b ^ legs ≤ most → b ^ left ≤ most
few_extensions b legs left most p le few = omega (arith, pow-le-pow_right p le)

pub block_within : (b k legs n : ℕ) → k ≤ legs → n < b ^ k → (n + 1) * b ^ (legs - k) ≤ b ^ legs
block_within b k legs n le lt =
    let next : n + 1 ≤ b ^ k = omega arith in
    let product = mul-le-mul_right (b ^ (legs - k)) next in
    let e : k + (legs - k) ≡ legs = omega arith in
    let whole = rw e at (pow-add b k (legs - k)) in
    omega arith
