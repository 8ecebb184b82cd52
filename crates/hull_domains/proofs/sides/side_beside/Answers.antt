use Rattle.std.proofs.Common.{unsigned_abs, rules}
use Rattle.std.specs.Int.{w128}
use Rattle.std.proofs.Math.Nat.{le_trans}
use Rattle.hull_domains.proofs.Sizes.{apart_small, read_small}
use Rattle.hull_domains.proofs.sides.side_beside.Goals as goal

pub in_units-requires : goal.in_units-requires
in_units-requires c =
    let from = c.args.edge.from in
    let along = c.args.edge.along in
    let h = c.requires.edge in
    read_small w128 c.turn.result 16000000 (search rules) (le_trans c.turn.ensures.small
    (apart_small (unsigned_abs from.x) (unsigned_abs from.y) (unsigned_abs along.x) (unsigned_abs along.y) h.from.x h.from.y h.along.x h.along.y))

pub side_from-requires : goal.side_from-requires
side_from-requires c = record {
  start = read_small w128 c.dot_at_start.result 137438953464000000000 (search rules) c.dot_at_start.ensures.small;
  apart = read_small w128 c.in_units.result 160000000000000000 (search rules) c.in_units.ensures.small;
  change = read_small w128 c.dot_of_change.result 536870904000000000 (search rules) c.dot_of_change.ensures.small;
}
