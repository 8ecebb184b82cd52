use Rattle.std.specs.Option.{option_copied}
use Rattle.meetings.proofs.Values.{values}
use Rattle.meetings.proofs.atoms.row_at.Goals as goal

pub returns : goal.returns
returns c = λ detect decides.
    let all = values (record { detect = detect; act = c.args.telling.now.act; tick = c.args.telling.now.tick }) c.args.telling.now.by_rank c.args.state.now (option_copied c.args.seen) c.args.risk decides in
    rw (c.step_of.ensures, c.direction.ensures.value, c.other_direction.ensures.value, c.changes_at.ensures, c.meeting_of.ensures) all
