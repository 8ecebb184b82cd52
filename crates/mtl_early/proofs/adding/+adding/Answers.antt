use Rattle.std.proofs.Common.{ap, subst, arith}
use Rattle.mtl_formulas.specs.FormulaTree.{tree_of}
use Rattle.mtl_formulas.specs.FormulaMeasures.{IsValid, node_count}
use Rattle.mtl_early.specs.Inner.Built.{Adds}
use Rattle.mtl_early.proofs.Putting.{Adds-ahead, Adds-not, Adds-pair, Adds-until, node_some}
use Rattle.mtl_early.proofs.adding.+adding.Goals as goal

pub add-add_now-requires-clause-few : goal.add-add_now-requires-clause-few
add-add_now-requires-clause-few t c = omega (arith, c.requires.few, node_some (tree_of c.args.formula.now))

pub add_not-returns-clause-adds : goal.add_not-returns-clause-adds
add_not-returns-clause-adds t c =
    let first : Adds c.args.building c.in-Some.built (tree_of c.args.a.now) = rw c.in-Some.is at c.in_ok-built.ensures.adds in
    Adds-not c.args.building c.in-Some.built c.in_ok-put.field-0 (tree_of c.args.a.now) c.last-operand.result first c.last-operand.ensures c.in_ok-put.ensures

pub add_ahead-returns-clause-adds : goal.add_ahead-returns-clause-adds
add_ahead-returns-clause-adds t c =
    let first : Adds c.args.building c.in-Some.built (tree_of c.args.a.now) = rw c.in-Some.is at c.in_ok-built.ensures.adds in
    let parts = c.requires.valid.parts in
    Adds-ahead c.args.building c.in-Some.built c.in_ok-put.field-0 (tree_of c.args.a.now) c.last-operand.result first c.last-operand.ensures
    c.args.turned c.args.lower c.args.upper parts.0 parts.1 c.in_ok-put.ensures

pub add_pair-returns-clause-adds : goal.add_pair-returns-clause-adds
add_pair-returns-clause-adds t c =
    let first : Adds c.args.building c.in-Some.built (tree_of c.args.a.now) = rw c.in-Some.is at c.in_ok-built.ensures.adds in
    let second : Adds c.in-Some.built c.in-Some-2.built (tree_of c.args.b.now) = rw c.in-Some-2.is at c.in_ok-built-2.ensures.adds in
    Adds-pair c.args.building c.in-Some.built c.in-Some-2.built c.in_ok-put.field-0 (tree_of c.args.a.now) (tree_of c.args.b.now) c.last-first.result c.last-second.result
    first second c.last-first.ensures c.last-second.ensures c.args.kind c.in_ok-put.ensures

pub add_until-returns-clause-adds : goal.add_until-returns-clause-adds
add_until-returns-clause-adds t c =
    let first : Adds c.args.building c.in-Some.built (tree_of c.args.a.now) = rw c.in-Some.is at c.in_ok-built.ensures.adds in
    let second : Adds c.in-Some.built c.in-Some-2.built (tree_of c.args.b.now) = rw c.in-Some-2.is at c.in_ok-built-2.ensures.adds in
    let parts = c.requires.valid.parts in
    Adds-until c.args.building c.in-Some.built c.in-Some-2.built c.in_ok-put.field-0 (tree_of c.args.a.now) (tree_of c.args.b.now) c.last-first.result c.last-second.result
    first second c.last-first.ensures c.last-second.ensures c.args.lower c.args.upper parts.0 parts.1 c.in_ok-put.ensures

pub add_pair-put-requires : goal.add_pair-put-requires
add_pair-put-requires t c =
    let first : Adds c.args.building c.in-Some.built (tree_of c.args.a.now) = rw c.in-Some.is at c.in_ok-built.ensures.adds in
    let second : Adds c.in-Some.built c.in-Some-2.built (tree_of c.args.b.now) = rw c.in-Some-2.is at c.in_ok-built-2.ensures.adds in
    record {
      fit = (omega (arith, c.last-first.ensures, first.longer, second.longer), omega (arith, c.last-second.ensures, second.longer));
      few = omega (arith, first.few, second.few, c.requires.few);
    }

pub add_until-put-requires : goal.add_until-put-requires
add_until-put-requires t c =
    let first : Adds c.args.building c.in-Some.built (tree_of c.args.a.now) = rw c.in-Some.is at c.in_ok-built.ensures.adds in
    let second : Adds c.in-Some.built c.in-Some-2.built (tree_of c.args.b.now) = rw c.in-Some-2.is at c.in_ok-built-2.ensures.adds in
    let parts = c.requires.valid.parts in
    record {
      fit = (omega (arith, c.last-first.ensures, first.longer, second.longer), omega (arith, c.last-second.ensures, second.longer), parts.0, parts.1);
      few = omega (arith, first.few, second.few, c.requires.few);
    }

pub add-returns-in-Not-clause-adds : goal.add-returns-in-Not-clause-adds
add-returns-in-Not-clause-adds t c = rw c.in-Not.ensures c.add_not.ensures.adds

pub add-returns-in-Not-clause-none : goal.add-returns-in-Not-clause-none
add-returns-in-Not-clause-none t c = rw c.in-Not.ensures c.add_not.ensures.none

pub add-returns-in-And-clause-adds : goal.add-returns-in-And-clause-adds
add-returns-in-And-clause-adds t c = rw c.in-And.ensures c.add_pair.ensures.adds

pub add-returns-in-And-clause-none : goal.add-returns-in-And-clause-none
add-returns-in-And-clause-none t c = rw c.in-And.ensures c.add_pair.ensures.none

pub add-returns-in-Or-clause-adds : goal.add-returns-in-Or-clause-adds
add-returns-in-Or-clause-adds t c = rw c.in-Or.ensures c.add_pair-in-Or.ensures.adds

pub add-returns-in-Or-clause-none : goal.add-returns-in-Or-clause-none
add-returns-in-Or-clause-none t c = rw c.in-Or.ensures c.add_pair-in-Or.ensures.none

pub add-returns-in-Implies-clause-adds : goal.add-returns-in-Implies-clause-adds
add-returns-in-Implies-clause-adds t c = rw c.in-Implies.ensures c.add_pair-in-Implies.ensures.adds

pub add-returns-in-Implies-clause-none : goal.add-returns-in-Implies-clause-none
add-returns-in-Implies-clause-none t c = rw c.in-Implies.ensures c.add_pair-in-Implies.ensures.none

pub add-returns-in-F-clause-adds : goal.add-returns-in-F-clause-adds
add-returns-in-F-clause-adds t c = rw c.in-F.ensures c.add_ahead.ensures.adds

pub add-returns-in-F-clause-none : goal.add-returns-in-F-clause-none
add-returns-in-F-clause-none t c = rw c.in-F.ensures c.add_ahead.ensures.none

pub add-returns-in-G-clause-adds : goal.add-returns-in-G-clause-adds
add-returns-in-G-clause-adds t c = rw c.in-G.ensures c.add_ahead-in-G.ensures.adds

pub add-returns-in-G-clause-none : goal.add-returns-in-G-clause-none
add-returns-in-G-clause-none t c = rw c.in-G.ensures c.add_ahead-in-G.ensures.none

pub add-returns-in-U-clause-adds : goal.add-returns-in-U-clause-adds
add-returns-in-U-clause-adds t c = rw c.in-U.ensures c.add_until.ensures.adds

pub add-returns-in-U-clause-none : goal.add-returns-in-U-clause-none
add-returns-in-U-clause-none t c = rw c.in-U.ensures c.add_until.ensures.none

pub add-add_not-requires : goal.add-add_not-requires
add-add_not-requires t c =
    let count = ap node_count c.in-Not.ensures in
    (omega (arith, count, c.decreases), (subst IsValid c.in-Not.ensures c.requires.valid, omega (arith, count, c.requires.few)))

pub add-add_pair-requires : goal.add-add_pair-requires
add-add_pair-requires t c =
    let count = ap node_count c.in-And.ensures in
    (omega (arith, count, c.decreases), (subst IsValid c.in-And.ensures c.requires.valid, omega (arith, count, c.requires.few)))

pub add-add_pair-requires-in-Or : goal.add-add_pair-requires-in-Or
add-add_pair-requires-in-Or t c =
    let count = ap node_count c.in-Or.ensures in
    (omega (arith, count, c.decreases), (subst IsValid c.in-Or.ensures c.requires.valid, omega (arith, count, c.requires.few)))

pub add-add_pair-requires-in-Implies : goal.add-add_pair-requires-in-Implies
add-add_pair-requires-in-Implies t c =
    let count = ap node_count c.in-Implies.ensures in
    (omega (arith, count, c.decreases), (subst IsValid c.in-Implies.ensures c.requires.valid, omega (arith, count, c.requires.few)))

pub add-add_ahead-requires : goal.add-add_ahead-requires
add-add_ahead-requires t c =
    let count = ap node_count c.in-F.ensures in
    (omega (arith, count, c.decreases), (subst IsValid c.in-F.ensures c.requires.valid, omega (arith, count, c.requires.few)))

pub add-add_ahead-requires-in-G : goal.add-add_ahead-requires-in-G
add-add_ahead-requires-in-G t c =
    let count = ap node_count c.in-G.ensures in
    (omega (arith, count, c.decreases), (subst IsValid c.in-G.ensures c.requires.valid, omega (arith, count, c.requires.few)))

pub add-add_until-requires : goal.add-add_until-requires
add-add_until-requires t c =
    let count = ap node_count c.in-U.ensures in
    (omega (arith, count, c.decreases), (subst IsValid c.in-U.ensures c.requires.valid, omega (arith, count, c.requires.few)))
