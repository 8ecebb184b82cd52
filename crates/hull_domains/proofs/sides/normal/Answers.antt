use Rattle.std.proofs.Common.{◌≡◌, ◌^◌, ◌∙◌, neg_ℤ, unsigned_abs, ap, arith, rules, to_z, of_z}
use Rattle.std.specs.Int.{w64, w128}
use Rattle.std.proofs.Math.Nat.{le_trans}
use Rattle.std.proofs.lemmas.Int.{ints, to_z-of_z}
use Rattle.fixed_geometry.proofs.ForCallers.{read}
use Rattle.fixed_geometry.specs.Plane.{dot_of, turn_of}
use Rattle.hull_domains.proofs.Sizes.{across_small, normal_small, read_small}
use Rattle.hull_domains.proofs.sides.normal.Goals as goal

pub narrow-requires-2 : goal.narrow-requires-2
narrow-requires-2 c =
    let h = across_small (unsigned_abs c.args.along.x) (unsigned_abs c.args.along.y) (unsigned_abs c.args.ahead.x) (unsigned_abs c.args.ahead.y)
    c.requires.along.x c.requires.along.y c.requires.ahead.x c.requires.ahead.y in
    omega (arith, ints)

pub narrow-requires : goal.narrow-requires
narrow-requires c =
    let along = c.args.along in
    let ahead = c.args.ahead in
    read_small w128 c.turn.result (2 ^ 60) (search rules) (le_trans c.turn.ensures.small (le_trans
    (across_small (unsigned_abs along.x) (unsigned_abs along.y) (unsigned_abs ahead.y) (unsigned_abs ahead.x) c.requires.along.x c.requires.along.y c.requires.ahead.y c.requires.ahead.x) (omega arith)))

pub negated-requires : goal.negated-requires
negated-requires c =
    let along = c.args.along in
    let ahead = c.args.ahead in
    read_small w128 c.dot.result (2 ^ 60) (search rules) (le_trans c.dot.ensures.small (le_trans
    (across_small (unsigned_abs along.x) (unsigned_abs along.y) (unsigned_abs ahead.x) (unsigned_abs ahead.y) c.requires.along.x c.requires.along.y c.requires.ahead.x c.requires.ahead.y) (omega arith)))

pub returns-clause-small : goal.returns-clause-small
returns-clause-small c =
    let along = c.args.along in
    let ahead = c.args.ahead in
    let x : to_z w64 (of_z w64 c.narrow.result) ≡ turn_of along ahead =
    read w64 c.narrow.result _ (search rules) (c.narrow.ensures ∙ (to_z-of_z w128 c.turn.result (search rules) ∙ c.turn.ensures.value)) in
    let y : to_z w64 (of_z w64 c.narrow-2.result) ≡ neg_ℤ (dot_of along ahead) =
    read w64 c.narrow-2.result _ (search rules) (c.narrow-2.ensures ∙ (to_z-of_z w128 c.negated.result (search rules)
    ∙ (c.negated.ensures.value ∙ ap neg_ℤ (to_z-of_z w128 c.dot.result (search rules) ∙ c.dot.ensures.value)))) in
    rw (x, y) (normal_small along.x along.y ahead.x ahead.y c.requires.along.x c.requires.along.y c.requires.ahead.x c.requires.ahead.y)
