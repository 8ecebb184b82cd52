use Rattle.std.proofs.Common.{sym, arith, ◌∙◌}
use Rattle.std.specs.Char.{is_ascii_digit}
use Rattle.aivdm.proofs.Blocks.{fails_at, last_block}
use Rattle.aivdm.proofs.tag_block.are_digits.Goals as goal

pub returns-then-front : goal.returns-then-front
returns-then-front c =
    c.are_digits_at-back.ensures
    ∙ last_block is_ascii_digit c.args.bytes.now 8 8 (omega arith) (omega arith) (sym c.are_digits_at-front.ensures ∙ c.if-front.true)

pub returns-else-front : goal.returns-else-front
returns-else-front c = c.if-front.false ∙ sym (fails_at is_ascii_digit c.args.bytes.now 0 8 (sym c.are_digits_at-front.ensures ∙ c.if-front.false))
