use Rattle.traces.specs.Inner.Pairing.{MakePair}
use Rattle.traces.proofs.AddedPairs.{none_added, one_added}
use Rattle.traces.proofs.contact_pairs.add_pair.Goals as goal

pub returns-in_ok-push : goal.returns-in_ok-push
returns-in_ok-push c =
    rw c.in_ok-push.ensures.items
    (one_added c.args.pairs.now.items (MakePair c.args.watch c.args.a.now c.args.b.now) c.in-Some.pair c.in-Some.ensures.sound (λ pair h. let e = c.in-Some.ensures.complete pair h in cc))

pub returns-in_default : goal.returns-in_default
returns-in_default c = none_added c.args.pairs.now.items (MakePair c.args.watch c.args.a.now c.args.b.now) (λ pair h. let e = c.in_default.ensures.complete pair h in cc)
