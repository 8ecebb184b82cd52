-- The identity of squares, by which the least distance along a straight move is known from its ends and one product.
use Rattle.std.proofs.Common.{◌≡◌, ℕ, ℤ, pos, ◌+ℤ◌, ◌*ℤ◌, ◌*◌, arith, ◌∙◌, ap}
use Rattle.closest_approach.proofs.Products.{dot_of, turn_of}
use Rattle.fixed_geometry.proofs.ForCallers.{polynomials, diff_of, diff_same}

pub lagrange : (x y u v : ℤ) → dot_of x y x y *ℤ dot_of u v u v ≡ dot_of u v x y *ℤ dot_of u v x y +ℤ turn_of u v x y *ℤ turn_of u v x y
lagrange x y u v = rw (← diff_of x, ← diff_of y, ← diff_of u, ← diff_of v) (simp polynomials (diff_same _ _ _ _ (omega arith)))

-- the point a/b of the line from p to p + w, b times
pub dot_at : (px py wx wy : ℤ) (a b : ℕ) → dot_of (pos b *ℤ px +ℤ pos a *ℤ wx) (pos b *ℤ py +ℤ pos a *ℤ wy) wx wy ≡ pos b *ℤ dot_of px py wx wy +ℤ pos a *ℤ dot_of wx wy wx wy
dot_at px py wx wy a b = rw (← diff_of px, ← diff_of py, ← diff_of wx, ← diff_of wy) (simp polynomials (diff_same _ _ _ _ (omega arith)))

pub turn_at : (px py wx wy : ℤ) (a b : ℕ) → turn_of (pos b *ℤ px +ℤ pos a *ℤ wx) (pos b *ℤ py +ℤ pos a *ℤ wy) wx wy ≡ pos b *ℤ turn_of px py wx wy
turn_at px py wx wy a b = rw (← diff_of px, ← diff_of py, ← diff_of wx, ← diff_of wy) (simp polynomials (diff_same _ _ _ _ (omega arith)))

square_times : (t : ℤ) (b : ℕ) → (pos b *ℤ t) *ℤ (pos b *ℤ t) ≡ pos (b * b) *ℤ (t *ℤ t)
square_times t b = rw (← diff_of t) (simp polynomials (diff_same _ _ _ _ (omega arith)))

pub identity : (px py wx wy : ℤ) (a b : ℕ) → let qx = pos b *ℤ px +ℤ pos a *ℤ wx in let qy = pos b *ℤ py +ℤ pos a *ℤ wy in
    let along = pos b *ℤ dot_of px py wx wy +ℤ pos a *ℤ dot_of wx wy wx wy in
    dot_of wx wy wx wy *ℤ dot_of qx qy qx qy ≡ along *ℤ along +ℤ pos (b * b) *ℤ (turn_of px py wx wy *ℤ turn_of px py wx wy)
identity px py wx wy a b =
    let qx : ℤ = pos b *ℤ px +ℤ pos a *ℤ wx in
    let qy : ℤ = pos b *ℤ py +ℤ pos a *ℤ wy in
    let e = lagrange wx wy qx qy in
    let f = square_times (turn_of px py wx wy) b in
    e ∙ (ap (λ d. d *ℤ d +ℤ turn_of qx qy wx wy *ℤ turn_of qx qy wx wy) (dot_at px py wx wy a b)
    ∙ ap (λ t. (pos b *ℤ dot_of px py wx wy +ℤ pos a *ℤ dot_of wx wy wx wy) *ℤ (pos b *ℤ dot_of px py wx wy +ℤ pos a *ℤ dot_of wx wy wx wy) +ℤ t *ℤ t) (turn_at px py wx wy a b)
    ∙ ap (λ s. (pos b *ℤ dot_of px py wx wy +ℤ pos a *ℤ dot_of wx wy wx wy) *ℤ (pos b *ℤ dot_of px py wx wy +ℤ pos a *ℤ dot_of wx wy wx wy) +ℤ s) f)
