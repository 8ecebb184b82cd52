use Rattle.std.proofs.Common.{ℕ, ◌≡◌, ◌≤◌, ◌*◌, ◌^◌, ◌∙◌, unsigned_abs, mul-le-mul, ℤ, pos, ◌+ℤ◌, ◌*ℤ◌, ◌<ℤ◌, IsTrue, ap, ap₂, arith, rules, to_z, of_z}
use Rattle.std.specs.Prelude.{int_lt}
use Rattle.std.specs.Int.{w128}
use Rattle.std.proofs.Math.Nat.{le_trans}
use Rattle.std.proofs.lemmas.Int.{ints, to_z-of_z}
use Rattle.hull_domains.proofs.Sizes.{read_small}
use Rattle.hull_domains.proofs.entering.is_inside.Goals as goal

tested : (z : ℤ) → (IsTrue (int_lt z (pos 0)) → z <ℤ pos 0) × (z <ℤ pos 0 → IsTrue (int_lt z (pos 0)))
tested z = (λ h. grind (arith, ints), λ h. grind (arith, ints))

turned : (z : ℤ) (n : ℕ) → z *ℤ pos n ≡ pos n *ℤ z
turned z n = omega (arith, ints)

product_small : {k m n p q most : ℕ} → k ≡ m * n → m ≤ p → n ≤ q → p * q ≤ most → k ≤ most
product_small e h i small = rw e (le_trans (mul-le-mul h i) small)

pub sum-requires : goal.sum-requires
sum-requires c =
    let side = c.args.side in
    let low = c.requires.side in
    let a : c.args.moment.a ≤ 2 ^ 60 = omega (arith, c.requires.a, c.requires.b) in
    let b : c.args.moment.b ≤ 2 ^ 60 = omega (arith, c.requires.b) in
    let change : unsigned_abs side.change ≤ 2 ^ 59 = omega (arith, low.change) in
    let first = rw (to_z-of_z w128 side.start (search rules)) at c.times.ensures.size in
    let second = rw (to_z-of_z w128 side.change (search rules)) at c.times-2.ensures.size in
    record {
      a_small = read_small w128 c.times.result _ (search rules) (product_small first low.start b (omega arith));
      b_small = read_small w128 c.times-2.result _ (search rules) (product_small second change a (omega arith));
    }

pub returns : goal.returns
returns c =
    let side = c.args.side in
    let a = c.args.moment.a in
    let b = c.args.moment.b in
    let first = to_z-of_z w128 c.times.result (search rules) ∙ (c.times.ensures.value ∙ (ap (λ (z : ℤ). z *ℤ pos b) (to_z-of_z w128 side.start (search rules)) ∙ turned side.start b)) in
    let second = to_z-of_z w128 c.times-2.result (search rules) ∙ (c.times-2.ensures.value ∙ (ap (λ (z : ℤ). z *ℤ pos a) (to_z-of_z w128 side.change (search rules)) ∙ turned side.change a)) in
    let is : to_z w128 (of_z w128 c.sum.result) ≡ pos b *ℤ side.start +ℤ pos a *ℤ side.change =
    to_z-of_z w128 c.sum.result (search rules) ∙ (c.sum.ensures ∙ ap₂ ◌+ℤ◌ first second) in
    rw is (tested (pos b *ℤ side.start +ℤ pos a *ℤ side.change))
