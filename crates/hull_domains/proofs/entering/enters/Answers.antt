use Rattle.std.proofs.Common.{ℕ, ◌≡◌, ◌<◌, ◌≤◌, refl, arith, sym, subst}
use Rattle.closest_approach.specs.declared.nearest.Moment.{Moment}
use Rattle.hull_domains.specs.Domains.{IsInside}
use Rattle.hull_domains.proofs.SoFar.{beside, found, none, nothing_yet, one_more, small, HasBounds}
use Rattle.hull_domains.proofs.entering.enters.Goals as goal

pub loop-k-init : goal.loop-k-init
loop-k-init c = nothing_yet c.args.step.now c.args.direction c.args.shape.now

pub returns-then-stays_outside-clause-none : goal.returns-then-stays_outside-clause-none
returns-then-stays_outside-clause-none c =
    let is = c.side_of-side.ensures.value c.args.direction c.requires c.unit-ahead.ensures.value in
    let h = c.if-stays_outside.ensures.0 refl in
    (λ _. beside c.args.step.now c.args.direction c.args.shape.now c.requires c.loop-k.k c.side_of-side.result c.loop-k-test.true is h.0 h.1, λ _. refl)

pub loop-k-preserved : goal.loop-k-preserved
loop-k-preserved c =
    one_more c.args.step.now c.args.direction c.args.shape.now c.loop-k.k c.loop-k.from c.loop-k.to c.later-from.result c.earlier-to.result c.side_of-side.result
    c.loop-k.invariant (c.side_of-side.ensures.value c.args.direction c.requires c.unit-ahead.ensures.value)
    (λ flat outside. let impossible = c.if-stays_outside.ensures.1 (flat, outside) in cc)
    c.later-from.ensures.value c.earlier-to.ensures.value c.later-from.ensures.bound c.earlier-to.ensures.bound

pub mediant-requires-clause-small : goal.mediant-requires-clause-small
mediant-requires-clause-small c =
    let six : c.loop-k.k ≡ 6 = omega arith in
    let all = subst (λ (k : ℕ). HasBounds c.args.step.now c.args.direction c.args.shape.now k c.loop-k.from c.loop-k.to) six c.loop-k.invariant in
    let h = small c.args.step.now c.args.direction c.args.shape.now c.requires c.loop-k.from c.loop-k.to all (sym c.if-is_less.ensures) in
    omega (arith, h, all.from_bound.under, all.to_bound.under)

held : (c : goal.After-mediant) → (c.mediant.result.a ≤ c.mediant.result.b) × (0 < c.mediant.result.b)
    × IsInside c.args.step.now c.args.direction c.args.shape.now c.mediant.result.a c.mediant.result.b
held c =
    let six : c.loop-k.k ≡ 6 = omega arith in
    let all = subst (λ (k : ℕ). HasBounds c.args.step.now c.args.direction c.args.shape.now k c.loop-k.from c.loop-k.to) six c.loop-k.invariant in
    let P : Moment → Type 0 = λ m. (m.a ≤ m.b) × (0 < m.b) × IsInside c.args.step.now c.args.direction c.args.shape.now m.a m.b in
    subst P (sym c.mediant.ensures.value) (found c.args.step.now c.args.direction c.args.shape.now c.requires c.loop-k.from c.loop-k.to all (sym c.if-is_less.ensures))

pub returns-then-is_less-clause-none : goal.returns-then-is_less-clause-none
returns-then-is_less-clause-none c =
    let h = held c in
    (λ impossible. absurd (cc), λ outside. absurd (outside c.mediant.result.a c.mediant.result.b h.0 h.1 h.2))

pub returns-then-is_less-clause-instant : goal.returns-then-is_less-clause-instant
returns-then-is_less-clause-instant c = let h = held c in (h.0, h.1, c.mediant.ensures.small)

pub returns-then-is_less-clause-inside : goal.returns-then-is_less-clause-inside
returns-then-is_less-clause-inside c = (held c).2

pub returns-else-is_less-clause-none : goal.returns-else-is_less-clause-none
returns-else-is_less-clause-none c =
    let six : c.loop-k.k ≡ 6 = omega arith in
    let all = subst (λ (k : ℕ). HasBounds c.args.step.now c.args.direction c.args.shape.now k c.loop-k.from c.loop-k.to) six c.loop-k.invariant in
    (λ _. none c.args.step.now c.args.direction c.args.shape.now c.requires c.loop-k.from c.loop-k.to all (sym c.if-is_less.ensures), λ _. refl)
