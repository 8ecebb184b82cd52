use Rattle.mtl_monitor.proofs.Programs.{equal_programs, Fits-equal, HasRoom-equal}
use Rattle.mtl_monitor.proofs.monitor.Monitor.copy_from.Goals as goal

pub copy_from-requires : goal.copy_from-requires
copy_from-requires c =
    let (t, is) = c.requires in
    let m = c.args.self.now in
    let other = c.args.other.now in
    let e = equal_programs m.program other.program t is.0.program is.1.program in
    (m.fits, is.0.room, Fits-equal m.program other.program e other.state other.fits, HasRoom-equal m.program other.program e other.state is.1.room)
