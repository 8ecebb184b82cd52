-- A step that keeps off along one axis is separated.
use Rattle.std.proofs.Common.{◌≡◌, ℕ, ◌+◌, ◌*◌, ◌≤◌, ℤ, pos, negsuc, ◌+ℤ◌, ◌*ℤ◌, ◌≤ℤ◌, unsigned_abs, arith, subst, mul-le-mul}
use Rattle.std.proofs.lemmas.Int.{ints}
use Rattle.closest_approach.specs.Separation.{IsSeparated}
use Rattle.motion.specs.Steps.{RelativeMove}

abbrev pub KeepsOff : ℤ → ℤ → ℕ → Type 0
KeepsOff p w r = r + unsigned_abs w ≤ unsigned_abs p

triangle : (x y : ℤ) → unsigned_abs x ≤ unsigned_abs (x +ℤ y) + unsigned_abs y
triangle x y = grind (arith, ints)

size_times : (n : ℕ) (z : ℤ) → unsigned_abs (pos n *ℤ z) ≡ n * unsigned_abs z
size_times n (pos m) = omega (arith, ints)
size_times n (negsuc m) = omega (arith, ints)

same : (n : ℕ) → n ≤ n
same n = omega arith

along_one : (p w : ℤ) (r a b : ℕ) → KeepsOff p w r → a ≤ b → b * r ≤ unsigned_abs (pos b *ℤ p +ℤ pos a *ℤ w)
along_one p w r a b off le =
    let all = triangle (pos b *ℤ p) (pos a *ℤ w) in
    let there = size_times b p in
    let moved = size_times a w in
    let far : b * (r + unsigned_abs w) ≤ b * unsigned_abs p = mul-le-mul (same b) off in
    let less : a * unsigned_abs w ≤ b * unsigned_abs w = mul-le-mul le (same (unsigned_abs w)) in
    omega arith

square_of_size : (z : ℤ) → z *ℤ z ≡ pos (unsigned_abs z * unsigned_abs z)
square_of_size (pos n) = omega (arith, ints)
square_of_size (negsuc n) = omega (arith, ints)

pub squares : (x y : ℤ) (b r : ℕ) → b * r ≤ unsigned_abs x → (pos (b * b) *ℤ pos (r * r)) ≤ℤ (x *ℤ x +ℤ y *ℤ y)
squares x y b r h =
    let whole : b * b * (r * r) ≤ unsigned_abs x * unsigned_abs x = (let s = mul-le-mul h h in omega arith) in
    let first = square_of_size x in
    let second = square_of_size y in
    let left = natural (b * b) (r * r) in
    omega (arith, ints)
  where
    natural : (m n : ℕ) → pos m *ℤ pos n ≡ pos (m * n)
    natural m n = omega (arith, ints)

exchanged : (x y : ℤ) → x *ℤ x +ℤ y *ℤ y ≡ y *ℤ y +ℤ x *ℤ x
exchanged x y = omega (arith, ints)

pub separated_along : (step : RelativeMove) (r : ℕ) → KeepsOff step.p.x step.w.x r → IsSeparated step r
unfolding IsSeparated
separated_along step r off = λ a b le some.
    squares (pos b *ℤ step.p.x +ℤ pos a *ℤ step.w.x) (pos b *ℤ step.p.y +ℤ pos a *ℤ step.w.y) b r (along_one step.p.x step.w.x r a b off le)

pub separated_across : (step : RelativeMove) (r : ℕ) → KeepsOff step.p.y step.w.y r → IsSeparated step r
unfolding IsSeparated
separated_across step r off = λ a b le some.
    let x : ℤ = pos b *ℤ step.p.x +ℤ pos a *ℤ step.w.x in
    let y : ℤ = pos b *ℤ step.p.y +ℤ pos a *ℤ step.w.y in
    subst (λ (z : ℤ). (pos (b * b) *ℤ pos (r * r)) ≤ℤ z) (exchanged y x) (squares y x b r (along_one step.p.y step.w.y r a b off le))
