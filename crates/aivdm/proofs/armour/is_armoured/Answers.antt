use Rattle.std.proofs.Common.{sym, ◌∙◌, arith}
use Rattle.aivdm.specs.PayloadBits.{is_armour}
use Rattle.aivdm.proofs.Blocks.{fails_at, goes_on, last_block}
use Rattle.aivdm.proofs.armour.is_armoured.Goals as goal

pub returns-then-not-is_armoured_at : goal.returns-then-not-is_armoured_at
returns-then-not-is_armoured_at c =
    sym (fails_at is_armour c.args.payload.now c.loop-at.at 16 (sym c.is_armoured_at.ensures ∙ c.if-not-is_armoured_at.true))

pub loop-at-preserved : goal.loop-at-preserved
loop-at-preserved c = record {
  within = omega arith;
  good = goes_on is_armour c.args.payload.now c.loop-at.at 16 c.loop-at.invariant.good (sym c.is_armoured_at.ensures ∙ c.if-not-is_armoured_at.false);
}

pub returns : goal.returns
returns c =
    c.is_armoured_at-2.ensures ∙ last_block is_armour c.args.payload.now c.loop-at.at 16 (omega arith) (omega arith) c.loop-at.invariant.good
