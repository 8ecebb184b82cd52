use Rattle.std.proofs.Common.{◌+◌, ◌/◌, ◌%◌, refl}
use Rattle.aivdm.proofs.Appended.{appended_so}
use Rattle.aivdm.proofs.bits.append_bits.Goals as goal

pub returns-clause-bits : goal.returns-clause-bits
returns-clause-bits c =
    let popped = c.pop_kept-high.ensures in
    (appended_so c.args.sextets.now.items c.pop_kept-high.new.sextets.items c.push_sextets.new.sextets.items c.args.len (c.args.len % 6) c.args.width c.pop_kept-high.result c.args.value
    ((c.args.len % 6 + c.args.width + 5) / 6) popped.bits popped.len popped.six popped.bound c.requires.fits refl c.requires.some c.requires.most refl c.push_sextets.ensures.items).0

pub returns-clause-sextets : goal.returns-clause-sextets
returns-clause-sextets c =
    let popped = c.pop_kept-high.ensures in
    (appended_so c.args.sextets.now.items c.pop_kept-high.new.sextets.items c.push_sextets.new.sextets.items c.args.len (c.args.len % 6) c.args.width c.pop_kept-high.result c.args.value
    ((c.args.len % 6 + c.args.width + 5) / 6) popped.bits popped.len popped.six popped.bound c.requires.fits refl c.requires.some c.requires.most refl c.push_sextets.ensures.items).1
