use Rattle.settling.proofs.TakenTicks.{before_all}
use Rattle.settling.proofs.settled.Settled.new.Goals as goal

pub returns : goal.returns
returns g c = λ scenario before. before_all (g.T.TickTaker.taker c.args.taker) c.new.result scenario c.new.ensures before
