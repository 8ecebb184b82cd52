use Rattle.std.proofs.Common.{◌≡◌}
use Rattle.aivdm.specs.Armouring.{payload_of}
use Rattle.aivdm.specs.SentenceWriting.{fill_of, line_text, IsWritten}
use Rattle.aivdm.proofs.Steps.{then_ok}
use Rattle.aivdm.proofs.WrittenLines.{written}
use Rattle.aivdm.proofs.writer.write_sentence.Goals as goal

pub returns-clause-written : goal.returns-clause-written
returns-clause-written c =
    let bits = c.args.bits.now in
    then_ok c.write_line.result
    (λ line. line.items ≡ line_text c.args.stamp c.args.channel (payload_of bits) (fill_of bits))
    (λ line. IsWritten c.args.stamp bits c.args.channel line.items)
    c.write_line.ensures
    (λ line is. written c.args.stamp bits c.args.channel line.items c.requires.some c.requires.most c.requires.letter c.requires.seconds is)
