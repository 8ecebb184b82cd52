use Rattle.aivdm.proofs.Appended.{all_kept, popped}
use Rattle.aivdm.proofs.bits.pop_kept.Goals as goal

pub returns-then-kept-eq0-clause-bits : goal.returns-then-kept-eq0-clause-bits
returns-then-kept-eq0-clause-bits c =
    all_kept c.args.sextets.now.items c.args.len c.args.kept c.requires.sextets c.requires.kept c.if-kept-eq0.true

pub returns-clause-bits : goal.returns-clause-bits
returns-clause-bits c =
    (popped c.args.sextets.now.items c.pop.new.self.items c.pop.result c.args.len c.args.kept c.unwrap_or-last.result c.from.result c.requires.sextets c.requires.kept
    c.if-kept-eq0.false c.pop.ensures.variant.1 c.pop.ensures.items c.unwrap_or-last.ensures c.from.ensures).0

pub returns-clause-bound : goal.returns-clause-bound
returns-clause-bound c =
    (popped c.args.sextets.now.items c.pop.new.self.items c.pop.result c.args.len c.args.kept c.unwrap_or-last.result c.from.result c.requires.sextets c.requires.kept
    c.if-kept-eq0.false c.pop.ensures.variant.1 c.pop.ensures.items c.unwrap_or-last.ensures c.from.ensures).1
