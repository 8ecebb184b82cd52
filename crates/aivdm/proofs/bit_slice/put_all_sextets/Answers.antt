use Rattle.std.proofs.Common.{◌∙◌, arith}
use Rattle.aivdm.proofs.Payloads.{mapped_more, mapped_last}
use Rattle.aivdm.specs.PayloadBits.{six_bits}
use Rattle.aivdm.proofs.bit_slice.put_all_sextets.Goals as goal

pub loop-at-preserved : goal.loop-at-preserved
loop-at-preserved c =
    record {
      within = omega arith;
      same = c.put_sextets.ensures.len ∙ c.loop-at.invariant.same;
      done = mapped_more six_bits c.args.payload.now c.loop-at.at 16 c.loop-at.room c.put_sextets.new.room c.loop-at.invariant.done c.put_sextets.ensures.put;
    }

pub returns : goal.returns
returns c =
    mapped_last six_bits c.args.payload.now c.loop-at.at 16 c.loop-at.room c.put_sextets-2.new.room (omega arith) (omega arith) c.loop-at.invariant.done
    c.put_sextets-2.ensures.put
