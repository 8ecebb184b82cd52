use Rattle.mtl_monitor.proofs.building.look_back.Goals as goal

pub returns-clause-made : goal.returns-clause-made
returns-clause-made c =
    let x = c.in_ok-x.ensures.made in
    rw (x.0, x.1) at c.put.ensures.made
