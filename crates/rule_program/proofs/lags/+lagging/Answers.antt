use Rattle.std.proofs.Common.{ap, subst, arith}
use Rattle.mtl_formulas.specs.FormulaMeasures.{IsValid, node_count}
use Rattle.rule_program.proofs.lags.+lagging.Goals as goal

pub lags_of-returns-in-Not : goal.lags_of-returns-in-Not
lags_of-returns-in-Not t c = rw c.in-Not.ensures c.not_lags.ensures

pub lags_of-returns-in-And : goal.lags_of-returns-in-And
lags_of-returns-in-And t c = rw c.in-And.ensures c.pair_lags.ensures

pub lags_of-returns-in-Or : goal.lags_of-returns-in-Or
lags_of-returns-in-Or t c = rw c.in-Or.ensures c.pair_lags-in-Or.ensures

pub lags_of-returns-in-Implies : goal.lags_of-returns-in-Implies
lags_of-returns-in-Implies t c = rw c.in-Implies.ensures c.pair_lags-in-Implies.ensures

pub lags_of-returns-in-F : goal.lags_of-returns-in-F
lags_of-returns-in-F t c = rw c.in-F.ensures c.span_lags.ensures

pub lags_of-returns-in-G : goal.lags_of-returns-in-G
lags_of-returns-in-G t c = rw c.in-G.ensures c.span_lags-in-G.ensures

pub lags_of-returns-in-O : goal.lags_of-returns-in-O
lags_of-returns-in-O t c = rw c.in-O.ensures c.span_lags-in-O.ensures

pub lags_of-returns-in-H : goal.lags_of-returns-in-H
lags_of-returns-in-H t c = rw c.in-H.ensures c.span_lags-in-H.ensures

pub lags_of-returns-in-U : goal.lags_of-returns-in-U
lags_of-returns-in-U t c = rw c.in-U.ensures c.link_lags.ensures

pub lags_of-returns-in-S : goal.lags_of-returns-in-S
lags_of-returns-in-S t c = rw c.in-S.ensures c.link_lags-in-S.ensures

pub lags_of-not_lags-requires : goal.lags_of-not_lags-requires
lags_of-not_lags-requires t c = (omega (arith, ap node_count c.in-Not.ensures, c.decreases), subst IsValid c.in-Not.ensures c.requires)

pub lags_of-pair_lags-requires : goal.lags_of-pair_lags-requires
lags_of-pair_lags-requires t c = (omega (arith, ap node_count c.in-And.ensures, c.decreases), subst IsValid c.in-And.ensures c.requires)

pub lags_of-pair_lags-requires-in-Or : goal.lags_of-pair_lags-requires-in-Or
lags_of-pair_lags-requires-in-Or t c = (omega (arith, ap node_count c.in-Or.ensures, c.decreases), subst IsValid c.in-Or.ensures c.requires)

pub lags_of-pair_lags-requires-in-Implies : goal.lags_of-pair_lags-requires-in-Implies
lags_of-pair_lags-requires-in-Implies t c = (omega (arith, ap node_count c.in-Implies.ensures, c.decreases), subst IsValid c.in-Implies.ensures c.requires)

pub lags_of-span_lags-requires : goal.lags_of-span_lags-requires
lags_of-span_lags-requires t c = (omega (arith, ap node_count c.in-F.ensures, c.decreases), subst IsValid c.in-F.ensures c.requires)

pub lags_of-span_lags-requires-in-G : goal.lags_of-span_lags-requires-in-G
lags_of-span_lags-requires-in-G t c = (omega (arith, ap node_count c.in-G.ensures, c.decreases), subst IsValid c.in-G.ensures c.requires)

pub lags_of-span_lags-requires-in-O : goal.lags_of-span_lags-requires-in-O
lags_of-span_lags-requires-in-O t c = (omega (arith, ap node_count c.in-O.ensures, c.decreases), subst IsValid c.in-O.ensures c.requires)

pub lags_of-span_lags-requires-in-H : goal.lags_of-span_lags-requires-in-H
lags_of-span_lags-requires-in-H t c = (omega (arith, ap node_count c.in-H.ensures, c.decreases), subst IsValid c.in-H.ensures c.requires)

pub lags_of-link_lags-requires : goal.lags_of-link_lags-requires
lags_of-link_lags-requires t c = (omega (arith, ap node_count c.in-U.ensures, c.decreases), subst IsValid c.in-U.ensures c.requires)

pub lags_of-link_lags-requires-in-S : goal.lags_of-link_lags-requires-in-S
lags_of-link_lags-requires-in-S t c = (omega (arith, ap node_count c.in-S.ensures, c.decreases), subst IsValid c.in-S.ensures c.requires)
