use Rattle.std.proofs.Common.{◌+◌, arith}
use Rattle.plan_situations.specs.Prefixes.{reached}
use Rattle.planner.proofs.Extending.{breaks_fails, early_to_end, from_through, level_before, level_through, none_fails, out_before, out_through, to_before, to_through}
use Rattle.planner.proofs.Places.{beside_leg}
use Rattle.planner.proofs.level.Level.extend.Goals as goal

pub fill_path-requires-clause-places : goal.fill_path-requires-clause-places
fill_path-requires-clause-places c = c.requires.places.path

pub enters-requires-clause-path : goal.enters-requires-clause-path
enters-requires-clause-path c = (c.fill_path.ensures c.args.basis.now c.requires.places).path

pub enters-requires-clause-bounds : goal.enters-requires-clause-bounds
enters-requires-clause-bounds c = (c.fill_path.ensures c.args.basis.now c.requires.places).bounds

pub enters-requires-clause-beside : goal.enters-requires-clause-beside
enters-requires-clause-beside c =
    beside_leg c.args.situation.now c.args.leg.now c.args.basis.now c.fill_path.new.self c.requires.leg (c.fill_path.ensures c.args.basis.now c.requires.places).places

pub returns-then-enters-clause-places : goal.returns-then-enters-clause-places
returns-then-enters-clause-places c = (c.enters.ensures.on c.args.basis.now (c.fill_path.ensures c.args.basis.now c.requires.places)).places

pub returns-then-enters-clause-fails : goal.returns-then-enters-clause-fails
returns-then-enters-clause-fails c = λ e. to_through c.args.situation.now c.args.leg.now c.requires.leg (c.enters.ensures.fails c.if-enters.true)

pub ends_broken_before-requires : goal.ends_broken_before-requires
ends_broken_before-requires c =
    let on = c.enters.ensures.on c.args.basis.now (c.fill_path.ensures c.args.basis.now c.requires.places) in
    let from = c.requires.from in
    record {
      basis = c.requires.basis;
      from = from.targets;
      early = early_to_end c.args.situation.now c.args.leg.now.index c.args.from.now.watched.items from.early;
      fits = on.places.fits;
      room = on.places.room;
    }

pub returns-then-ends_broken_before-clause-places : goal.returns-then-ends_broken_before-clause-places
returns-then-ends_broken_before-clause-places c =
    (c.ends_broken_before.ensures.on c.args.leg.now (c.enters.ensures.on c.args.basis.now (c.fill_path.ensures c.args.basis.now c.requires.places))).places

pub returns-then-ends_broken_before-clause-failed_before : goal.returns-then-ends_broken_before-clause-failed_before
returns-then-ends_broken_before-clause-failed_before c = λ e.
    let s = c.args.situation.now in
    let leg = c.args.leg.now in
    let before = level_before s leg c.requires.leg c.args.basis.now c.args.from.now.watched.items c.requires.from.stands in
    to_before s leg c.requires.leg (breaks_fails s leg.plan (reached s leg.index) (c.ends_broken_before.ensures.breaks c.if-ends_broken_before.true leg.plan (reached s leg.index) (omega arith) before))

pub follow_leg-requires-clause-on : goal.follow_leg-requires-clause-on
follow_leg-requires-clause-on c = c.ends_broken_before.ensures.on c.args.leg.now (c.enters.ensures.on c.args.basis.now (c.fill_path.ensures c.args.basis.now c.requires.places))

pub returns-then-follow_leg-clause-places : goal.returns-then-follow_leg-clause-places
returns-then-follow_leg-clause-places c = c.follow_leg.ensures.on.places

pub returns-then-follow_leg-clause-fails : goal.returns-then-follow_leg-clause-fails
returns-then-follow_leg-clause-fails c = λ e.
    let s = c.args.situation.now in
    let leg = c.args.leg.now in
    let before = level_before s leg c.requires.leg c.args.basis.now c.args.from.now.watched.items c.requires.from.stands in
    to_through s leg c.requires.leg (breaks_fails s leg.plan (reached s (leg.index + 1)) (c.follow_leg.ensures.followed.breaks c.if-follow_leg.true before))

pub ends_broken_at_last-requires-clause-early : goal.ends_broken_at_last-requires-clause-early
ends_broken_at_last-requires-clause-early c = early_to_end c.args.situation.now (c.args.leg.now.index + 1) c.follow_leg.new.self.watched.items (c.follow_leg.ensures.early c.if-follow_leg.false)

pub returns-then-ends_broken_at_last-clause-places : goal.returns-then-ends_broken_at_last-clause-places
returns-then-ends_broken_at_last-clause-places c = c.ends_broken_at_last.ensures.on.places

pub returns-then-ends_broken_at_last-clause-fails : goal.returns-then-ends_broken_at_last-clause-fails
returns-then-ends_broken_at_last-clause-fails c = λ e.
    let s = c.args.situation.now in
    let leg = c.args.leg.now in
    let before = level_before s leg c.requires.leg c.args.basis.now c.args.from.now.watched.items c.requires.from.stands in
    to_through s leg c.requires.leg (breaks_fails s leg.plan (reached s (leg.index + 1)) (c.ends_broken_at_last.ensures.breaks c.if-ends_broken_at_last.true leg.plan (reached s (leg.index + 1)) (omega arith)
    (c.follow_leg.ensures.followed.stands c.if-follow_leg.false before)))

pub returns-clause-places : goal.returns-clause-places
returns-clause-places c = c.ends_broken_at_last.ensures.on.places

pub returns-clause-after : goal.returns-clause-after
returns-clause-after c = λ e.
    let s = c.args.situation.now in
    let basis = c.args.basis.now in
    let leg = c.args.leg.now in
    let from = c.requires.from in
    let before = level_before s leg c.requires.leg basis c.args.from.now.watched.items from.stands in
    let stands = level_through s leg c.requires.leg basis c.follow_leg.new.self.watched.items (c.follow_leg.ensures.followed.stands c.if-follow_leg.false before) in
    record {
      targets = c.ends_broken_at_last.ensures.on.places.targets;
      early = rw c.ends_broken_at_last.ensures.watched (c.follow_leg.ensures.early c.if-follow_leg.false);
      stands = rw c.ends_broken_at_last.ensures.watched stands;
      outside = out_through s leg c.requires.leg (c.enters.ensures.outside c.if-enters.false (out_before s leg c.requires.leg from.outside));
    }

pub returns-clause-passes : goal.returns-clause-passes
returns-clause-passes c = λ e last fails.
    let s = c.args.situation.now in
    let leg = c.args.leg.now in
    let from = c.requires.from in
    let before = level_before s leg c.requires.leg c.args.basis.now c.args.from.now.watched.items from.stands in
    none_fails s leg.plan (reached s (leg.index + 1)) (c.enters.ensures.outside c.if-enters.false (out_before s leg c.requires.leg from.outside))
    (c.ends_broken_at_last.ensures.passes c.if-ends_broken_at_last.false (c.requires.leg.last.1 last) leg.plan (reached s (leg.index + 1)) (omega arith) (c.follow_leg.ensures.followed.stands c.if-follow_leg.false before))
    (from_through s leg c.requires.leg fails)
