use Rattle.std.proofs.Common.{ℕ, ◌+◌, length, arith}
use Rattle.planner.specs.Inner.Levels.{IsFollowedTo}
use Rattle.plan_situations.specs.Prefixes.{reached}
use Rattle.planner.specs.declared.watched.Watched.{Watched}
use Rattle.planner.proofs.Places.{in_turn}
use Rattle.planner.proofs.level.follow_all.Goals as goal

pub returns-clause-early : goal.returns-clause-early
returns-clause-early c = λ e k w lt.
    let s = c.args.situation.now in
    let W = c.args.leg.now.plan in
    let start = reached s c.args.leg.now.index in
    let end = reached s (c.args.leg.now.index + 1) in
    let one = c.follow_some.ensures.targets.count in
    let two = c.follow_some-2.ensures.targets.count in
    let three = c.follow_some-3.ensures.targets.count in
    let many = c.requires.targets.count in
    let first = c.min-before.ensures in
    let last = c.min-after.ensures in
    (in_turn (λ (j : ℕ) (x : Watched). IsFollowedTo s c.args.basis.now W start end c.args.from.now j x) c.follow_some.new.watched c.follow_some-2.new.watched c.follow_some-3.new.watched
    c.min-before.result c.min-after.result (length c.args.watched.now) (omega arith)
    (c.follow_some.ensures.followed c.if-follow_some.false) (c.follow_some-2.ensures.followed c.if-follow_some-2.false) c.follow_some-2.ensures.others
    (c.follow_some-3.ensures.followed e) c.follow_some-3.ensures.others k w (omega arith)).early

pub returns-clause-followed : goal.returns-clause-followed
returns-clause-followed c =
    let s = c.args.situation.now in
    let W = c.args.leg.now.plan in
    let start = reached s c.args.leg.now.index in
    let end = reached s (c.args.leg.now.index + 1) in
    let one = c.follow_some.ensures.targets.count in
    let two = c.follow_some-2.ensures.targets.count in
    let three = c.follow_some-3.ensures.targets.count in
    let many = c.requires.targets.count in
    let first = c.min-before.ensures in
    let last = c.min-after.ensures in
    record {
      stands = λ e stands k t a w cut inside is_cut tells.
          (in_turn (λ (j : ℕ) (x : Watched). IsFollowedTo s c.args.basis.now W start end c.args.from.now j x) c.follow_some.new.watched c.follow_some-2.new.watched c.follow_some-3.new.watched
          c.min-before.result c.min-after.result (length c.args.watched.now) (omega arith)
          (c.follow_some.ensures.followed c.if-follow_some.false) (c.follow_some-2.ensures.followed c.if-follow_some-2.false) c.follow_some-2.ensures.others
          (c.follow_some-3.ensures.followed e) c.follow_some-3.ensures.others k w (omega arith)).stands stands t a cut is_cut tells;
      breaks = λ e. c.follow_some-3.ensures.breaks e;
    }

pub returns-then-follow_some-clause-followed : goal.returns-then-follow_some-clause-followed
returns-then-follow_some-clause-followed c = record { stands = λ e. cc; breaks = λ e. c.follow_some.ensures.breaks c.if-follow_some.true }

pub returns-then-follow_some-2-clause-followed : goal.returns-then-follow_some-2-clause-followed
returns-then-follow_some-2-clause-followed c = record { stands = λ e. cc; breaks = λ e. c.follow_some-2.ensures.breaks c.if-follow_some-2.true }
