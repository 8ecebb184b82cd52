use Rattle.std.proofs.Common.{◌≡◌, [], arith}
use Rattle.std.proofs.lemmas.List.{nil_from_length}
use Rattle.mtl_language.proofs.ParserLoops.{left_none, left_more, left_wrong, left_all}
use Rattle.mtl_language.proofs.postfix.finish.Goals as goal

pub loop-expected-init : goal.loop-expected-init
loop-expected-init c = left_none c.args.stack.now.items c.args.postfix.now.items

pub returns-then-not-branch : goal.returns-then-not-branch
returns-then-not-branch c =
    left_wrong c.args.stack.now.items c.args.postfix.now.items _ _ _ _ _ c.loop-expected.invariant c.in-Some.ensures.items (rw c.if-not-branch.true at c.in_ok-leave_out.ensures)

pub loop-expected-preserved : goal.loop-expected-preserved
loop-expected-preserved c =
    left_more c.args.stack.now.items c.args.postfix.now.items _ _ _ _ _ c.loop-expected.invariant c.in-Some.ensures.items (rw c.if-not-branch.false at c.in_ok-leave_out.ensures)

pub returns : goal.returns
returns c =
    let none : c.loop-expected.stack.items ≡ [] = nil_from_length c.loop-expected.stack.items (omega (arith, c.in_default.ensures.cases.0, c.loop-expected.stack.ok.0)) in
    left_all c.args.stack.now.items c.args.postfix.now.items _ _ c.loop-expected.invariant none
