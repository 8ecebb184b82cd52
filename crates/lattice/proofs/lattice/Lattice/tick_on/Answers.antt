use Rattle.std.proofs.Common.{◌≡◌, ◌<◌, arith}
use Rattle.lattice.specs.Grids.{positions_of}
use Rattle.lattice.proofs.Advancing.{one_more, state_before_a_step, last_state}
use Rattle.lattice.proofs.lattice.Lattice.tick_on.Goals as goal
use Rattle.lattice.proofs.lattice.Lattice.tick_on.Goals.{then-k-positions, else-k-positions}

pub returns-clause-value : goal.returns-clause-value
returns-clause-value c = λ so_far. elim c.if-k-positions.branch [
  | then-k-positions w ↦
      let less : c.args.k < positions_of c.args.self.now = omega arith in
      rw (w.next-is) (state_before_a_step c.args.self.now c.args.plan.now c.args.tick c.args.k w.stepped-next.result.vessel.direction w.stepped-next.result.vessel.speed
      c.args.start c.args.passage.vessel so_far less w.stepped-next.ensures.direction w.stepped-next.ensures.speed)
  | else-k-positions w ↦
      let ended : positions_of c.args.self.now ≡ c.args.k = omega arith in
      rw (w.next-is) (last_state c.args.self.now c.args.plan.now c.args.tick c.args.k c.args.start c.args.passage.vessel so_far ended)
]

pub returns-clause-advanced : goal.returns-clause-advanced
returns-clause-advanced c = λ so_far less. elim c.if-k-positions.branch [
  | then-k-positions w ↦ rw (w.next-is) (one_more c.args.self.now c.args.plan.now c.args.tick c.args.k c.args.start c.args.passage.vessel w.stepped-next.result.vessel
      so_far w.stepped-next.ensures.direction w.stepped-next.ensures.speed w.stepped-next.ensures.point)
  | else-k-positions w ↦ absurd (omega arith)
]
