use Rattle.std.proofs.Common.{refl}
use Rattle.refutations.proofs.Replays.{shortened}
use Rattle.refutations.proofs.trace_so_far.TraceSoFar.shorten.Goals as goal

pub returns-clause-trace : goal.returns-clause-trace
returns-clause-trace c = λ situation plan target h.
    shortened situation plan target c.args.self.now
    (record { plan = c.args.self.now.plan; start = c.args.self.now.start; rows = c.truncate-2.new.self; followers = c.truncate-3.new.self })
    _ h refl c.truncate-2.ensures.items c.truncate-3.ensures.items
