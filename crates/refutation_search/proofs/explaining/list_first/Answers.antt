use Rattle.refutation_search.proofs.Walking.{listed_next}
use Rattle.refutation_search.proofs.explaining.list_first.Goals as goal

pub returns : goal.returns
returns c =
    listed_next c.args.situation.now c.requires.situation.some_choice c.args.legs c.args.number c.requires.legs c.requires.number c.args.list.now.items c.push.new.self.items c.in_ok-entry.entry
    c.requires.so_far c.in_ok-push.ensures.items c.in_ok-entry.ensures.prefix c.in_ok-entry.ensures.entry c.in_ok-entry.ensures.first c.requires.above
