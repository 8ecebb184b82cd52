-- Being nearer than a radius at an instant, by the size of b p.w + a |w|^2 and the cross product.
use Rattle.std.proofs.Common.{ℕ, zero, suc, ◌≡◌, refl, ◌⊎◌, inl, inr, ◌+◌, ◌*◌, ◌≤◌, ◌<◌, ℤ, pos, negsuc, ◌+ℤ◌, ◌*ℤ◌, ◌≤ℤ◌, ◌<ℤ◌, unsigned_abs, arith, ap, ap₂, sym, ◌∙◌, mul-le-mul_left}
use Rattle.std.proofs.lemmas.Int.{ints, by_lt_z}
use Rattle.fixed_geometry.specs.Plane.{dot_of, norm2_of, turn_of}
use Rattle.fixed_geometry.proofs.ForCallers.{polynomials, diff_of, diff_same}
use Rattle.motion.specs.Steps.{RelativeMove}
use Rattle.closest_approach.specs.Separation.{displacement_at, IsNearer}
use Rattle.closest_approach.proofs.Order.{times-le}
use Rattle.closest_approach.proofs.Identity.{identity}
use Rattle.closest_approach.proofs.Products as by_parts

square_by_size : (z : ℤ) → z *ℤ z ≡ pos (unsigned_abs z * unsigned_abs z)
square_by_size (pos n) = omega (arith, ints)
square_by_size (negsuc n) = omega (arith, ints)

times-one : (k : ℕ) (x : ℤ) → pos k *ℤ (x +ℤ pos 1) ≡ pos k *ℤ x +ℤ pos k
times-one k x = rw (← diff_of x) (simp polynomials (diff_same _ _ _ _ (omega arith)))

-- a factor above 0 may be left out
compared : (k v m : ℕ) (n : ℤ) → 0 < k → pos k *ℤ n ≡ pos v → (v < k * m → n <ℤ pos m) × (n <ℤ pos m → v < k * m)
compared k v m n some e = (
  λ less. by_lt_z n (pos m) (λ below. below) (λ above. absurd (let h : (pos k *ℤ pos m) ≤ℤ (pos k *ℤ n) = times-le k (pos m) n above in omega (arith, ints))),
  λ below. let h : (pos k *ℤ (n +ℤ pos 1)) ≤ℤ (pos k *ℤ pos m) = times-le k (n +ℤ pos 1) (pos m) (omega (arith, ints)) in
      let f = times-one k n in omega (arith, ints),
)

-- ---- a step in which the displacement changes

module _ (step : RelativeMove) (a b : ℕ) where
  square_is : (x u l : ℕ) → pos l ≡ norm2_of step.w → u ≡ unsigned_abs (turn_of step.p step.w)
      → x ≡ unsigned_abs (pos b *ℤ dot_of step.p step.w +ℤ pos a *ℤ norm2_of step.w)
      → pos l *ℤ norm2_of (displacement_at step a b) ≡ pos (x * x + b * b * (u * u))
  square_is x u l length turned size =
      let along : ℤ = pos b *ℤ dot_of step.p step.w +ℤ pos a *ℤ norm2_of step.w in
      let turn : ℤ = turn_of step.p step.w in
      let first : along *ℤ along ≡ pos (x * x) = square_by_size along ∙ ap (λ (n : ℕ). pos (n * n)) (sym size) in
      let second : turn *ℤ turn ≡ pos (u * u) = square_by_size turn ∙ ap (λ (n : ℕ). pos (n * n)) (sym turned) in
      ap (λ (z : ℤ). z *ℤ norm2_of (displacement_at step a b)) length
      ∙ (identity step.p.x step.p.y step.w.x step.w.y a b ∙ ap₂ (λ (s t : ℤ). s +ℤ pos (b * b) *ℤ t) first second)

  pub by_squares : (r x u l d : ℕ) → 0 < l → pos l ≡ norm2_of step.w → u ≡ unsigned_abs (turn_of step.p step.w)
      → x ≡ unsigned_abs (pos b *ℤ dot_of step.p step.w +ℤ pos a *ℤ norm2_of step.w) → r * r * l ≡ u * u + d
      → (x * x < b * b * d → IsNearer step r a b) × (IsNearer step r a b → x * x < b * b * d)
  by_squares r x u l d some length turned size reach =
      let both = compared l (x * x + b * b * (u * u)) (b * b * (r * r)) (norm2_of (displacement_at step a b)) some (square_is x u l length turned size) in
      let whole : b * b * (r * r * l) ≡ b * b * (u * u + d) = ap (λ (n : ℕ). b * b * n) reach in
      (λ less. both.0 (omega arith), λ near. let less = both.1 near in omega arith)

  -- The cross product is too large.
  pub by_turn : (r x u l : ℕ) → 0 < l → pos l ≡ norm2_of step.w → u ≡ unsigned_abs (turn_of step.p step.w)
      → x ≡ unsigned_abs (pos b *ℤ dot_of step.p step.w +ℤ pos a *ℤ norm2_of step.w) → r * r * l ≤ u * u → IsNearer step r a b → ⊥
  by_turn r x u l some length turned size reach near =
      let both = compared l (x * x + b * b * (u * u)) (b * b * (r * r)) (norm2_of (displacement_at step a b)) some (square_is x u l length turned size) in
      let less = both.1 near in
      let whole : b * b * (r * r * l) ≤ b * b * (u * u) = mul-le-mul_left (b * b) reach in
      omega arith

-- ---- a step in which it stays

no_square : (x y : ℤ) → pos 0 ≡ x *ℤ x +ℤ y *ℤ y → x ≡ pos 0
no_square (pos zero) y e = refl
no_square (pos (suc n)) (pos m) e = absurd (omega (arith, ints))
no_square (pos (suc n)) (negsuc m) e = absurd (omega (arith, ints))
no_square (negsuc n) (pos m) e = absurd (omega (arith, ints))
no_square (negsuc n) (negsuc m) e = absurd (omega (arith, ints))

stays : (b : ℕ) (x y : ℤ) → by_parts.norm2_of (pos b *ℤ x) (pos b *ℤ y) ≡ pos (b * b) *ℤ by_parts.norm2_of x y
stays b x y = rw (← diff_of x, ← diff_of y) (simp polynomials (diff_same _ _ _ _ (omega arith)))

unmoved : (a b : ℕ) (p w : ℤ) → w ≡ pos 0 → pos b *ℤ p +ℤ pos a *ℤ w ≡ pos b *ℤ p
unmoved a b p w e = rw e (omega (arith, ints))

square-pos : (n : ℕ) → 0 < n → 0 < n * n
square-pos n h = grind arith

pub where_still : (step : RelativeMove) (r a b n : ℕ) → 0 < b → pos 0 ≡ norm2_of step.w → pos n ≡ norm2_of step.p
    → (n < r * r → IsNearer step r a b) × (IsNearer step r a b → n < r * r)
where_still step r a b n some still length =
    let flat : step.w.y *ℤ step.w.y +ℤ step.w.x *ℤ step.w.x ≡ step.w.x *ℤ step.w.x +ℤ step.w.y *ℤ step.w.y = omega (arith, ints) in
    let x = no_square step.w.x step.w.y still in
    let y = no_square step.w.y step.w.x (still ∙ sym flat) in
    let e : norm2_of (displacement_at step a b) ≡ pos (b * b * n) =
    ap₂ by_parts.norm2_of (unmoved a b step.p.x step.w.x x) (unmoved a b step.p.y step.w.y y)
    ∙ (stays b step.p.x step.p.y ∙ ap (λ (z : ℤ). pos (b * b) *ℤ z) (sym length)) in
    let k : 0 < b * b = square-pos b some in (
      λ less. let h : b * b * (n + 1) ≤ b * b * (r * r) = mul-le-mul_left (b * b) (omega arith) in rw e (omega (arith, ints)),
      λ near. let below : pos (b * b * n) <ℤ pos (b * b * (r * r)) = rw e at near in
          elim (le_or_lt (r * r) n) [
            | inl le ↦ absurd (let h : b * b * (r * r) ≤ b * b * n = mul-le-mul_left (b * b) le in omega (arith, ints))
            | inr lt ↦ lt
          ],
    )
  where
    le_or_lt : (m n : ℕ) → (m ≤ n) ⊎ (n < m)
    le_or_lt m n = grind arith
