use Rattle.std.proofs.Common.{◌≡◌, [], arith}
use Rattle.std.proofs.lemmas.List.{nil_from_length}
use Rattle.mtl_language.proofs.ParserLoops.{offered_none, offered_more, offered_put, offered_wrong, offered_all, left_shorter}
use Rattle.mtl_language.proofs.postfix.offer.Goals as goal

pub loop-expected-init : goal.loop-expected-init
loop-expected-init c = offered_none c.args.token c.args.stack.now.items c.args.postfix.now.items

pub returns-then-branch : goal.returns-then-branch
returns-then-branch c =
    offered_put c.args.token c.args.stack.now.items c.args.postfix.now.items _ _ _ _ _ c.loop-expected.invariant c.in-Some.ensures.items (rw c.if-branch.true at c.in_ok-replace.ensures)

pub returns-then-not-branch : goal.returns-then-not-branch
returns-then-not-branch c =
    offered_wrong c.args.token c.args.stack.now.items c.args.postfix.now.items _ _ _ _ _ _ c.loop-expected.invariant c.in-Some.ensures.items
    (rw c.if-branch.false at c.in_ok-replace.ensures) (rw c.if-not-branch.true at c.in_ok-leave_out.ensures)

pub loop-expected-smaller : goal.loop-expected-smaller
loop-expected-smaller c = left_shorter _ _ _ _ _ c.in-Some.ensures.items (rw c.if-branch.false at c.in_ok-replace.ensures)

pub loop-expected-preserved : goal.loop-expected-preserved
loop-expected-preserved c =
    offered_more c.args.token c.args.stack.now.items c.args.postfix.now.items _ _ _ _ _ _ c.loop-expected.invariant c.in-Some.ensures.items
    (rw c.if-branch.false at c.in_ok-replace.ensures) (rw c.if-not-branch.false at c.in_ok-leave_out.ensures)

pub returns : goal.returns
returns c =
    let none : c.loop-expected.stack.items ≡ [] = nil_from_length c.loop-expected.stack.items (omega (arith, c.in_default.ensures.cases.0, c.loop-expected.stack.ok.0)) in
    offered_all c.args.token c.args.stack.now.items c.args.postfix.now.items _ _ _ c.loop-expected.invariant none
