use Rattle.std.proofs.Common.{arith}
use Rattle.refutation_search.proofs.FirstEntries.{broken_first, entry_first, some_broken}
use Rattle.refutation_search.proofs.explaining.first_towards.Goals as goal

pub returns-in-Some : goal.returns-in-Some
returns-in-Some c = entry_first c.args.situation.now c.args.plan.now c.args.until c.args.target.now c.in-Some.entry (rw c.in-Some.is at c.in_ok-entered.ensures)

pub unwrap-broken-requires : goal.unwrap-broken-requires
unwrap-broken-requires c =
    some_broken c.args.situation.now c.args.plan.now c.args.until c.args.target.now c.in_ok-found.found (rw c.in_default.is at c.in_ok-entered.ensures) c.requires.fails c.in_ok-found.ensures

pub overflow_cast-result : goal.overflow_cast-result
overflow_cast-result c =
    let first = broken_first c.args.situation.now c.args.plan.now c.args.until c.args.target.now c.unwrap-broken.result (rw c.in_default.is at c.in_ok-entered.ensures) (rw c.unwrap-broken.ensures at c.in_ok-found.ensures) in
    record { fits = omega (arith, first.known, c.len-rules.ensures.rules.few) }

pub returns : goal.returns
returns c =
    broken_first c.args.situation.now c.args.plan.now c.args.until c.args.target.now c.unwrap-broken.result (rw c.in_default.is at c.in_ok-entered.ensures) (rw c.unwrap-broken.ensures at c.in_ok-found.ensures)
