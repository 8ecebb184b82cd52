use Rattle.std.proofs.Common.{ℕ, refl, ◌≡◌, ◌-◌, ◌*◌, ◌<◌, IsTrue, pos, sym, ap, subst, ◌∙◌, arith}
use Rattle.fixed_geometry.specs.Plane.{norm2_of}
use Rattle.closest_approach.specs.Separation.{IsNearer}
use Rattle.refutations.proofs.ByIdentity.{by_squares, by_turn, where_still}
use Rattle.refutations.proofs.Quotients.{no, as_compared}
use Rattle.refutations.proofs.instants.is_nearer.Goals as goal

pub returns-then-length2-eq0 : goal.returns-then-length2-eq0
returns-then-length2-eq0 c =
    let r = c.args.r in
    let n = c.norm2.result in
    let radius : r * r ≡ c.from.result * c.from-2.result = rw (c.from.ensures, c.from-2.ensures) refl in
    let still = ap pos (sym c.if-length2-eq0.true) ∙ c.length2-length2.ensures.value in
    let length = c.norm2.ensures.value ∙ ap norm2_of c.p.ensures.value in
    as_compared _ _ _ (subst (λ (m : ℕ). (n < m → IsNearer c.args.step.now r c.args.moment.a c.args.moment.b) × (IsNearer c.args.step.now r c.args.moment.a c.args.moment.b → n < m)) radius
    (where_still c.args.step.now r c.args.moment.a c.args.moment.b n c.requires.some still length))

some : (n : ℕ) → (n ≡ 0 → ⊥) → 0 < n
some n h = grind arith

pub returns-then-reach-aside2 : goal.returns-then-reach-aside2
returns-then-reach-aside2 c =
    let r = c.args.r in
    let l = c.length2-length2.result in
    let reach : r * r * l ≡ c.from.result * c.from-2.result * l = rw (c.from.ensures, c.from-2.ensures) refl in
    no _ (by_turn c.args.step.now c.args.moment.a c.args.moment.b r _ c.aside-aside.result l (some l c.if-length2-eq0.false) c.length2-length2.ensures.value
    c.aside-aside.ensures.value refl (omega (arith, c.if-reach-aside2.true)))

pub returns : goal.returns
returns c =
    let r = c.args.r in
    let l = c.length2-length2.result in
    let u = c.aside-aside.result in
    let x = c.along_at.result in
    let reach : r * r * l ≡ c.from.result * c.from-2.result * l = rw (c.from.ensures, c.from-2.ensures) refl in
    let d : ℕ = c.from.result * c.from-2.result * l - u * u in
    let test = subst (λ (b : ℕ). (IsTrue c.is_square_below.result → x * x < b * b * d) × (x * x < b * b * d → IsTrue c.is_square_below.result)) c.from-3.ensures c.is_square_below.ensures in
    let both = by_squares c.args.step.now c.args.moment.a c.args.moment.b r x u l d (some l c.if-length2-eq0.false) c.length2-length2.ensures.value
    c.aside-aside.ensures.value c.along_at.ensures.value (omega (arith, c.if-reach-aside2.false)) in
    (λ yes. both.0 (test.0 yes), λ near. test.1 (both.1 near))
