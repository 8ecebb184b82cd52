use Rattle.std.proofs.Common.{None, Some, ap, arith, sym, ◌∙◌}
use Rattle.std.proofs.lemmas.Bool.{cond-false, cond-true}
use Rattle.std.proofs.lemmas.List.{take_all}
use Rattle.std.specs.Str.Parse.{digits_value}
use Rattle.aivdm.proofs.Digits.{digits_tests}
use Rattle.aivdm.proofs.tag_block.decimal.Goals as goal

pub returns-then-not-are_digits : goal.returns-then-not-are_digits
returns-then-not-are_digits c =
    let digits = c.args.digits.now in
    sym (cond-false _ (Some (digits_value 10 digits)) None (digits_tests digits ∙ sym c.are_digits.ensures ∙ c.if-not-are_digits.true))

pub returns-then-digits-eq-SECONDS_DIGITS : goal.returns-then-digits-eq-SECONDS_DIGITS
returns-then-digits-eq-SECONDS_DIGITS c =
    let digits = c.args.digits.now in
    ap Some (c.spelled.ensures ∙ ap (digits_value 10) (take_all 10 digits (omega (arith, c.if-digits-eq-SECONDS_DIGITS.true))))
    ∙ sym (cond-true _ (Some (digits_value 10 digits)) None (digits_tests digits ∙ sym c.are_digits.ensures ∙ c.if-not-are_digits.false))

pub returns-else-digits-eq-SECONDS_DIGITS : goal.returns-else-digits-eq-SECONDS_DIGITS
returns-else-digits-eq-SECONDS_DIGITS c =
    let digits = c.args.digits.now in
    ap Some c.spelled-else-digits-eq-SECONDS_DIGITS.ensures
    ∙ sym (cond-true _ (Some (digits_value 10 digits)) None (digits_tests digits ∙ sym c.are_digits.ensures ∙ c.if-not-are_digits.false))
