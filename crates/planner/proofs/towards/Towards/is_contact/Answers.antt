use Rattle.planner.proofs.towards.Towards.is_contact.Goals as goal

pub returns : goal.returns
returns c = λ _. c.is_contact_on.ensures c.args.leg.now.plan c.requires.path.states
