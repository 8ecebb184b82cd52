use Rattle.std.proofs.Common.{◌∙◌, sym}
use Rattle.mtl_language.proofs.DigitRuns.{front_digits}
use Rattle.mtl_language.proofs.FrontRuns.{front_word, front_number, front_arrow, front_sign}
use Rattle.mtl_language.proofs.tokens.front.Goals as goal

pub number-requires : goal.number-requires
number-requires c = rw c.digits_len-len.ensures (front_digits c.args.bytes.now)

pub returns-then-is_letter : goal.returns-then-is_letter
returns-then-is_letter c =
    let f = front_word c.args.bytes.now _ _ c.requires (sym c.is_letter.ensures ∙ c.if-is_letter.true) c.word_len-len.ensures c.word.ensures in
    record { token = f.token; len = f.len; some = f.some; within = f.within }

pub returns-then-is_ascii_digit : goal.returns-then-is_ascii_digit
returns-then-is_ascii_digit c =
    let f = front_number c.args.bytes.now _ _ c.requires (sym c.is_letter.ensures ∙ c.if-is_letter.false) (sym c.is_ascii_digit.ensures.value ∙ c.if-is_ascii_digit.true)
    c.digits_len-len.ensures c.number.ensures in
    record { token = f.token; len = f.len; some = f.some; within = f.within }

pub returns-then-starts_with : goal.returns-then-starts_with
returns-then-starts_with c =
    let test = rw c.as_slice.ensures at c.starts_with.ensures.value in
    let f = front_arrow c.args.bytes.now c.requires (sym c.is_letter.ensures ∙ c.if-is_letter.false) (sym c.is_ascii_digit.ensures.value ∙ c.if-is_ascii_digit.false)
    (sym test ∙ c.if-starts_with.true)
    ((rw c.as_slice.ensures at c.starts_with.ensures.bound) c.if-starts_with.true) in
    record { token = f.token; len = f.len; some = f.some; within = f.within }

pub returns-else-starts_with : goal.returns-else-starts_with
returns-else-starts_with c =
    let test = rw c.as_slice.ensures at c.starts_with.ensures.value in
    let f = front_sign c.args.bytes.now _ c.requires (sym c.is_letter.ensures ∙ c.if-is_letter.false) (sym c.is_ascii_digit.ensures.value ∙ c.if-is_ascii_digit.false)
    (sym test ∙ c.if-starts_with.false) c.sign.ensures in
    record { token = f.token; len = f.len; some = f.some; within = f.within }
