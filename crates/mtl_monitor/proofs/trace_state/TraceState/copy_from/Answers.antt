use Rattle.std.proofs.Common.{arith}
use Rattle.std.proofs.lemmas.Grind.{common_steps}
use Rattle.mtl_monitor.proofs.Keepers.{All-keepers, AgreeBut-keepers}
use Rattle.mtl_monitor.proofs.trace_state.TraceState.copy_from.Goals as goal

pub copy_listed-requires-clause-inside : goal.copy_listed-requires-clause-inside
copy_listed-requires-clause-inside c =
    let p = c.args.program.now in
    rw (c.deref-2.ensures.value, p.kept, c.deref.ensures.value, c.requires.2.states) (All-keepers p.nodes.items)

pub copy_listed-requires-clause-agree : goal.copy_listed-requires-clause-agree
copy_listed-requires-clause-agree c =
    let p = c.args.program.now in
    rw (c.deref-2.ensures.value, p.kept, c.deref_mut.ensures.value, c.deref.ensures.value)
    (AgreeBut-keepers p.nodes.items c.args.self.now.states.items c.args.other.now.states.items c.requires.1 c.requires.3)

pub returns-clause-fits : goal.returns-clause-fits
returns-clause-fits c = grind (arith, common_steps)

pub returns-clause-room : goal.returns-clause-room
returns-clause-room c = grind (arith, common_steps)

pub returns-clause-past : goal.returns-clause-past
returns-clause-past c = grind (arith, common_steps)

pub returns-clause-follows : goal.returns-clause-follows
returns-clause-follows c = grind (arith, common_steps)

pub returns-clause-closes : goal.returns-clause-closes
returns-clause-closes c = grind (arith, common_steps)
