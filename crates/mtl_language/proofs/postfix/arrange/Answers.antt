use Rattle.std.proofs.Common.{get_or}
use Rattle.std.proofs.lemmas.List.{drop_more, drop_all}
use Rattle.std.proofs.lemmas.Result.{err_from_is_err_and}
use Rattle.mtl_formulas.specs.declared.atom.Atom.TheVariants.{Always}
use Rattle.mtl_language.specs.declared.tokens.Token.TheVariants.{Atom}
use Rattle.mtl_language.specs.declared.tokens.IndexedToken.{IndexedToken}
use Rattle.mtl_language.proofs.ParserRun.{memory_out, arranged_none, arranged_more, arranged_wrong, arranged_early, arranged_all}
use Rattle.mtl_language.proofs.postfix.arrange.Goals as goal

pub loop-indexed-preserved : goal.loop-indexed-preserved
loop-indexed-preserved c =
    let d : IndexedToken = record { token = Atom Always; index = 0 } in
    let next = drop_more c.args.tokens.now c.loop-indexed.indexed-index d c.loop-indexed-test.true in
    arranged_more c.args.end c.args.tokens.now _ _ _ _ (get_or c.args.tokens.now c.loop-indexed.indexed-index d) _
    (rw next at c.loop-indexed.invariant) (rw c.if-not-branch.false at c.in_ok-offer.ensures)

pub loop-indexed-init : goal.loop-indexed-init
loop-indexed-init c = arranged_none c.args.end c.args.tokens.now _ _ (rw c.new-stack.ensures.items at c.in_ok-expect_formula.ensures) c.new-postfix.ensures.items

pub returns-in_err-expect_formula : goal.returns-in_err-expect_formula
returns-in_err-expect_formula c =
    let p = err_from_is_err_and c.from_residual.result c.from_residual.ensures.1 in
    memory_out _ p.0 _ p.1 p.2

pub returns-in_err-offer : goal.returns-in_err-offer
returns-in_err-offer c =
    let p = err_from_is_err_and c.from_residual-in_err-offer.result c.from_residual-in_err-offer.ensures.1 in
    memory_out _ p.0 _ p.1 p.2

pub returns-in_err-finish : goal.returns-in_err-finish
returns-in_err-finish c =
    let p = err_from_is_err_and c.from_residual-in_err-finish.result c.from_residual-in_err-finish.ensures.1 in
    memory_out _ p.0 _ p.1 p.2

pub returns-then-not-branch : goal.returns-then-not-branch
returns-then-not-branch c =
    let d : IndexedToken = record { token = Atom Always; index = 0 } in
    let next = drop_more c.args.tokens.now c.loop-indexed.indexed-index d c.loop-indexed-test.true in
    arranged_wrong c.args.end c.args.tokens.now _ _ _ _ (get_or c.args.tokens.now c.loop-indexed.indexed-index d) _
    (rw next at c.loop-indexed.invariant) (rw c.if-not-branch.true at c.in_ok-offer.ensures)

pub returns-then-not-branch-2 : goal.returns-then-not-branch-2
returns-then-not-branch-2 c =
    let none = drop_all c.loop-indexed.indexed-index c.args.tokens.now c.loop-indexed-test.false in
    arranged_early c.args.end c.args.tokens.now _ _ _ (rw none at c.loop-indexed.invariant) (rw c.if-not-branch-2.true at c.in_ok-finish.ensures)

pub returns : goal.returns
returns c =
    let none = drop_all c.loop-indexed.indexed-index c.args.tokens.now c.loop-indexed-test.false in
    arranged_all c.args.end c.args.tokens.now _ _ _ (rw none at c.loop-indexed.invariant) (rw c.if-not-branch-2.false at c.in_ok-finish.ensures)
