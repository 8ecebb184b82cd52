use Rattle.std.proofs.Common.{◌+◌, get_or, drop, arith}
use Rattle.std.proofs.lemmas.List.{drop_more, drop_all}
use Rattle.std.proofs.lemmas.Result.{err_from_is_err_and}
use Rattle.mtl_formulas.specs.declared.atom.Atom.TheVariants.{Always}
use Rattle.mtl_language.specs.declared.postfix.PostfixItem.{PostfixItem}
use Rattle.mtl_language.specs.declared.postfix.PostfixItem.TheVariants.{Leaf}
use Rattle.mtl_language.specs.FormulaReading.{in_positions}
use Rattle.mtl_language.specs.Inner.Building.{trees}
use Rattle.mtl_language.proofs.Trees.{all_built-tree, can_add, not_added, too_many, few_nodes, whole}
use Rattle.mtl_language.proofs.building.build.Goals as goal

pub returns-then-postfix-gt-NODES : goal.returns-then-postfix-gt-NODES
returns-then-postfix-gt-NODES c t is = too_many c.args.tick c.args.postfix.now t c.if-postfix-gt-NODES.true is

pub loop-item-init : goal.loop-item-init
loop-item-init c t is = rw (c.new-parts.ensures.items, is) (all_built-tree c.args.tick t)

pub add-requires-clause-fit : goal.add-requires-clause-fit
add-requires-clause-fit c =
    let d : PostfixItem = Leaf Always in
    let postfix = c.args.postfix.now in
    let front = drop_more postfix c.loop-item.item-index d c.loop-item-test.true in
    let t = c.requires.tree.0 in
    can_add c.args.tick (get_or postfix c.loop-item.item-index d) (drop (c.loop-item.item-index + 1) postfix) (trees c.loop-item.parts.items) (in_positions c.args.tick t)
    (rw front at (c.loop-item.invariant t c.requires.tree.1)) c.requires.tree.2 (few_nodes c.args.tick postfix t c.if-postfix-gt-NODES.false c.requires.tree.1)

pub returns-in_err-add : goal.returns-in_err-add
returns-in_err-add c t is =
    let d : PostfixItem = Leaf Always in
    let postfix = c.args.postfix.now in
    let front = drop_more postfix c.loop-item.item-index d c.loop-item-test.true in
    let p = err_from_is_err_and c.from_residual.result c.from_residual.ensures.1 in
    rw (p.1, p.2) (not_added c.args.tick (get_or postfix c.loop-item.item-index d) (drop (c.loop-item.item-index + 1) postfix) (trees c.loop-item.parts.items) (in_positions c.args.tick t)
    (rw front at (c.loop-item.invariant t is)) c.in_err-add.field-0.0 _ c.in_err-add.ensures)

pub returns : goal.returns
returns c t is =
    let postfix = c.args.postfix.now in
    let none = drop_all c.loop-item.item-index postfix c.loop-item-test.false in
    whole c.args.tick (trees c.loop-item.parts.items) _ _ (in_positions c.args.tick t) (rw none at (c.loop-item.invariant t is)) c.pop.ensures
    (omega (arith, c.pop.result.depth_is, c.pop.result.depth_within)) (omega (arith, c.pop.result.reach_is, c.pop.result.reach_within))
    (few_nodes c.args.tick postfix t c.if-postfix-gt-NODES.false is)
