use Rattle.std.proofs.Common.{◌≡◌, ◌==◌, true, false, take, get_or, sym, ap, ◌∙◌, arith}
use Rattle.std.proofs.lemmas.Bool.Decides.{nat_tests}
use Rattle.std.proofs.lemmas.List.{take_more}
use Rattle.ais_messages.specs.SixBitText.{trimmed}
use Rattle.ais_messages.proofs.Texts.{nothing_trimmed, trimmed-byte, trimmed-space}
use Rattle.ais_messages.proofs.text.trimmed_len.Goals as goal
use Rattle.ais_messages.proofs.text.trimmed_len.Goals.{then-byte-ne32, else-byte-ne32}

pub loop-k-init : goal.loop-k-init
loop-k-init c = record { within = omega arith; trimmed = sym nothing_trimmed }

pub loop-k-preserved : goal.loop-k-preserved
loop-k-preserved c =
    let text = c.args.text.now in
    let k = c.loop-k.k in
    let more = take_more text k 0 c.loop-k-test.true in
    elim c.if-byte-ne32.branch [
      | then-byte-ne32 w ↦
          let other : (get_or text k 0 == 32) ≡ false = grind (arith, nat_tests, w.if-byte-ne32) in
          rw w.len-is (record {
            within = omega arith;
            trimmed = more ∙ sym (ap trimmed more ∙ trimmed-byte (take k text) (get_or text k 0) other);
          })
      | else-byte-ne32 w ↦
          let space : (get_or text k 0 == 32) ≡ true = grind (arith, nat_tests, w.if-byte-ne32) in
          rw w.len-is (record {
            within = omega (arith, c.loop-k.invariant.within);
            trimmed = c.loop-k.invariant.trimmed ∙ sym (ap trimmed more ∙ trimmed-space (take k text) (get_or text k 0) space);
          })
    ]
