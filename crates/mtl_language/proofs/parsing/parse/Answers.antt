use Rattle.std.proofs.Common.{◌∙◌}
use Rattle.std.proofs.lemmas.Result.{err_from_is_err_and}
use Rattle.mtl_language.specs.FormulaReading.{answered, number_fault}
use Rattle.mtl_language.proofs.Meanings.{one_meaning, only_answer, can_build, number_answer, built_answer, built_valid, arranged_fault}
use Rattle.mtl_language.proofs.parsing.parse.Goals as goal

pub returns-in_err-postfix-clause-right : goal.returns-in_err-postfix-clause-right
returns-in_err-postfix-clause-right c =
    let tokens = c.deref.ensures.value ∙ c.in_ok-tokens.ensures in
    let p = err_from_is_err_and c.from_residual-in_err-postfix.result c.from_residual-in_err-postfix.ensures.1 in
    rw (p.1, p.2) (arranged_fault c.args.text.now c.args.tick c.in_err-postfix.field-0.0 (rw tokens at c.in_err-postfix.ensures))

pub returns-in_err-postfix-clause-only : goal.returns-in_err-postfix-clause-only
returns-in_err-postfix-clause-only c =
    only_answer c.args.text.now c.args.tick (answered c.from_residual-in_err-postfix.result) (returns-in_err-postfix-clause-right c)

pub returns-in-Some-clause-right : goal.returns-in-Some-clause-right
returns-in-Some-clause-right c =
    let text = c.args.text.now in
    let tokens = c.deref.ensures.value ∙ c.in_ok-tokens.ensures in
    let again = c.deref-2.ensures.value ∙ c.in_ok-tokens.ensures in
    number_answer text c.args.tick c.in_ok-postfix.postfix.items c.in-Some.index c.in-Some.ensures.0 (rw tokens at c.in_ok-postfix.ensures) (rw again at c.in-Some.ensures.1)

pub returns-in-Some-clause-only : goal.returns-in-Some-clause-only
returns-in-Some-clause-only c m k = one_meaning c.args.text.now c.args.tick (number_fault c.in-Some.index) m (returns-in-Some-clause-right c) k

pub build-requires-clause-tree : goal.build-requires-clause-tree
build-requires-clause-tree c =
    let tokens = c.deref.ensures.value ∙ c.in_ok-tokens.ensures in
    let again = c.deref-2.ensures.value ∙ c.in_ok-tokens.ensures in
    rw c.deref-3.ensures.value
    (can_build c.args.text.now c.args.tick c.in_ok-postfix.postfix.items (rw tokens at c.in_ok-postfix.ensures) (rw again at c.in_default.ensures) c.requires.tick.0)

pub returns-clause-right : goal.returns-clause-right
returns-clause-right c =
    let tokens = c.deref.ensures.value ∙ c.in_ok-tokens.ensures in
    let again = c.deref-2.ensures.value ∙ c.in_ok-tokens.ensures in
    built_answer c.args.text.now c.args.tick c.in_ok-postfix.postfix.items c.build.result (rw tokens at c.in_ok-postfix.ensures) (rw again at c.in_default.ensures)
    (rw c.deref-3.ensures.value at c.build.ensures)

pub returns-clause-only : goal.returns-clause-only
returns-clause-only c = only_answer c.args.text.now c.args.tick (answered c.build.result) (returns-clause-right c)

pub returns-clause-valid : goal.returns-clause-valid
returns-clause-valid c =
    let tokens = c.deref.ensures.value ∙ c.in_ok-tokens.ensures in
    let again = c.deref-2.ensures.value ∙ c.in_ok-tokens.ensures in
    built_valid c.args.text.now c.args.tick c.in_ok-postfix.postfix.items c.build.result
    (can_build c.args.text.now c.args.tick c.in_ok-postfix.postfix.items (rw tokens at c.in_ok-postfix.ensures) (rw again at c.in_default.ensures) c.requires.tick.0)
    (rw c.deref-3.ensures.value at c.build.ensures)
