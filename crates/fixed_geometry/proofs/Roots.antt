-- Square roots by Newton's method.
use Rattle.std.proofs.Common.{◌≡◌, ℕ, ◌+◌, ◌-◌, ◌*◌, ◌/◌, ◌%◌, ◌^◌, ◌<◌, ◌≤◌, inl, inr, add-one, arith, lit≤}
use Rattle.std.proofs.Math.Nat.{mod-lt, mul-le-mul_left, pow-le-pow_right, pow-suc}
use Rattle.std.proofs.lemmas.Bool.{cases_lt}
use Rattle.std.proofs.lemmas.Nat.{div-add-mod', pow-add}

-- A product of two numbers is at most the square of half their sum.
lesser_first : (a b m : ℕ) → a ≤ m → a + b ≤ 2 * m → a * b ≤ m * m
lesser_first a b m less h =
    let d : ℕ = m - a in
    let e : m ≡ a + d = omega arith in
    let first : a * b ≤ a * (a + d + d) = mul-le-mul_left a (omega arith) in
    rw e (omega arith)

product_small : (a b m : ℕ) → a + b ≤ 2 * m → a * b ≤ m * m
product_small a b m h =
    elim (cases_lt m a) [
      | inl over ↦ (let other : b * a ≤ m * m = lesser_first b a m (omega arith) (omega arith) in omega arith)
      | inr less ↦ lesser_first a b m less h
    ]

-- The next number is no less than the root, rounded down.
pub nearer_above : (n root : ℕ) → 0 < root → n < ((root + n / root) / 2 + 1) * ((root + n / root) / 2 + 1)
nearer_above n root some =
    let q : ℕ = n / root in
    let whole : q * root + n % root ≡ n = div-add-mod' n root in
    let rest : n % root < root = mod-lt n some in
    let small = product_small root (q + 1) ((root + q) / 2 + 1) (omega arith) in
    let next : root * (q + 1) ≡ q * root + root = omega arith in
    omega arith

-- A power of two with half the bits, and one more, is above the root.
pub power_above : (n bits : ℕ) → n < 2 * 2 ^ bits → bits < 128
    → n < (1 * 2 ^ (bits / 2 + 1) % 340282366920938463463374607431768211456 + 1) * (1 * 2 ^ (bits / 2 + 1) % 340282366920938463463374607431768211456 + 1)
power_above n bits h few =
    let k : ℕ = bits / 2 + 1 in
    let more : 2 ^ (bits + 1) ≤ 2 ^ (k + k) = pow-le-pow_right (lit≤ tt) (omega arith) in
    let twice : 2 ^ (k + k) ≡ 2 ^ k * 2 ^ k = pow-add 2 k k in
    let double : 2 ^ (bits + 1) ≡ 2 ^ bits * 2 = rw add-one (pow-suc 2 bits) in
    let few_bits : k ≤ 64 = omega arith in
    let small : 2 ^ k ≤ 2 ^ 64 = pow-le-pow_right (lit≤ tt) few_bits in
    let stays : 1 * 2 ^ k % 340282366920938463463374607431768211456 ≡ 2 ^ k = omega arith in
    rw stays (omega arith)
