use Rattle.std.proofs.Common.{arith}
use Rattle.colregs_program.proofs.streaming.room_for.Goals as goal

pub returns-clause-limited : goal.returns-clause-limited
returns-clause-limited c = λ fed given stands. (let room = c.room.ensures fed given stands in omega (arith, room))
