use Rattle.std.proofs.Common.{◌≡◌, ◌∙◌, ap, sym, arith}
use Rattle.std.specs.Fmt.{decimal}
use Rattle.std.proofs.lemmas.Fmt.{parse-decimal}
use Rattle.refutations.proofs.ToldEntries.{not_differing, number_text}
use Rattle.refutations.proofs.entry_reading.number_in.Goals as goal

pub returns-in_default : goal.returns-in_default
returns-in_default c = λ number h.
    let most = c.ranges.most.fits in
    let few = h.few in
    c.in_default.ensures.cases.0 (number_text c.args.text.now number (omega arith) h.told)

pub returns-in_default-parse : goal.returns-in_default-parse
returns-in_default-parse c = λ number h.
    let most = c.ranges.most.fits in
    let few = h.few in
    let e : c.in-Ok.word.now ≡ decimal number = c.in-Ok.ensures.cases.0 ∙ sym h.told in
    let ok = parse-decimal 64 number c.in-Ok.word.now c.parse.result (omega arith) (omega arith) e c.parse.ensures.value.0 in
    let err = c.in_default-parse.is in
    cc

pub returns-then-number-most : goal.returns-then-number-most
returns-then-number-most c = λ number h.
    let most = c.ranges.most.fits in
    let few = h.few in
    let e : c.in-Ok.word.now ≡ decimal number = c.in-Ok.ensures.cases.0 ∙ sym h.told in
    let ok = parse-decimal 64 number c.in-Ok.word.now c.parse.result (omega arith) (omega arith) e c.parse.ensures.value.0 in
    let is = c.in-Ok-parse.is in
    let same : c.in-Ok-parse.number ≡ number = cc in
    let more = c.if-number-most.true in
    omega arith

pub returns-then-ne : goal.returns-then-ne
returns-then-ne c = λ number h.
    let most = c.ranges.most.fits in
    let few = h.few in
    let e : c.in-Ok.word.now ≡ decimal number = c.in-Ok.ensures.cases.0 ∙ sym h.told in
    let ok = parse-decimal 64 number c.in-Ok.word.now c.parse.result (omega arith) (omega arith) e c.parse.ensures.value.0 in
    let is = c.in-Ok-parse.is in
    let same : c.in-Ok-parse.number ≡ number = cc in
    let digits : c.digits.result.now ≡ c.args.text.now = c.digits.ensures ∙ (ap decimal same ∙ h.told) in
    not_differing c.digits.result.now c.args.text.now c.ne.result c.ne.ensures c.if-ne.true digits
