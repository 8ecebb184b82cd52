use Rattle.lattice.proofs.Steering.{same_orders}
use Rattle.lattice.proofs.lattice.Lattice.next_orders.Goals as goal

pub returns-else-step-orders : goal.returns-else-step-orders
returns-else-step-orders c = same_orders c.args.self.now c.args.plan.now c.args.start c.args.step c.args.orders c.if-step-orders.false c.requires.orders
