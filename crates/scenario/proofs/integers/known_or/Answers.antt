use Rattle.std.proofs.Common.{ℤ, Option, MatchOption, ◌≤ℤ◌, subst, sym, ap, ◌∙◌, w64, rules}
use Rattle.std.proofs.lemmas.Int.{to_z-of_z}
use Rattle.toml.specs.View.{table_view}
use Rattle.scenario_keys.specs.KeyValues.{found_in, integer_or, table_at}
use Rattle.scenario.specs.Inner.KnownKeys.{is_own, least_in, most_in, range_at}
use Rattle.scenario.specs.KeyFaults.{basis_of}
use Rattle.scenario.proofs.Held.{known_or, optional_bounds, wider}
use Rattle.scenario.proofs.integers.known_or.Goals as goal

pub returns-clause-in_range : goal.returns-clause-in_range
returns-clause-in_range c =
    let document = table_view c.args.document.now in
    let r = range_at (basis_of (is_own c.args.table.now) document) c.args.table.now c.args.name.now in
    let found = found_in c.args.name.now (table_at c.args.table.now document) in
    let h = known_or (is_own c.args.table.now) document c.args.table.now c.args.name.now c.args.low c.args.high c.args.otherwise c.requires.known c.requires.faultless in
    let same = to_z-of_z w64 c.args.otherwise (search rules) in
    let e = c.integer_or.ensures ∙ ap (λ (z : ℤ). integer_or z found) same in
    subst (λ (o : Option ℤ). MatchOption o ⊥ (λ n. (least_in r ≤ℤ n) × (n ≤ℤ most_in r))) (sym e) h

pub returns-clause-held : goal.returns-clause-held
returns-clause-held c =
    let r = range_at (basis_of (is_own c.args.table.now) (table_view c.args.document.now)) c.args.table.now c.args.name.now in
    let (a, b) = optional_bounds c.args.low c.args.high c.args.otherwise r c.requires.known in
    wider c.args.low c.args.high (least_in r) (most_in r) c.integer_or.result a b (returns-clause-in_range c)
