use Rattle.std.proofs.Common.{pos}
use Rattle.toml.specs.View.{table_view}
use Rattle.scenario_keys.specs.KeyValues.{list_at}
use Rattle.scenario.specs.Inner.KnownKeys.{fewest_in, high_in, is_own, list_range_at, longest_in, low_in}
use Rattle.scenario.specs.KeyFaults.{basis_of}
use Rattle.scenario.proofs.ListsHeld.{elements_within, list_bounds, list_held, naturals_in_range}
use Rattle.scenario.proofs.listed.naturals.Goals as goal

pub naturals_found-requires : goal.naturals_found-requires
naturals_found-requires c =
    elements_within (is_own c.args.table.now) (table_view c.args.document.now) c.args.table.now c.args.name.now (pos 0) (pos 4294967295) c.requires.known c.requires.faultless

pub returns-clause-in_range : goal.returns-clause-in_range
returns-clause-in_range c =
    let r = list_range_at (basis_of (is_own c.args.table.now) (table_view c.args.document.now)) c.args.table.now c.args.name.now in
    let held = list_held (is_own c.args.table.now) (table_view c.args.document.now) c.args.table.now c.args.name.now (pos 0) (pos 4294967295) c.requires.known c.requires.faultless in
    (naturals_in_range (fewest_in r) (longest_in r) (low_in r) (high_in r) (list_at c.args.table.now c.args.name.now (table_view c.args.document.now))
    c.naturals_found.result (list_bounds (pos 0) (pos 4294967295) r c.requires.known).0 held c.naturals_found.ensures).0

pub returns-clause-fewest : goal.returns-clause-fewest
returns-clause-fewest c =
    let r = list_range_at (basis_of (is_own c.args.table.now) (table_view c.args.document.now)) c.args.table.now c.args.name.now in
    let held = list_held (is_own c.args.table.now) (table_view c.args.document.now) c.args.table.now c.args.name.now (pos 0) (pos 4294967295) c.requires.known c.requires.faultless in
    (naturals_in_range (fewest_in r) (longest_in r) (low_in r) (high_in r) (list_at c.args.table.now c.args.name.now (table_view c.args.document.now))
    c.naturals_found.result (list_bounds (pos 0) (pos 4294967295) r c.requires.known).0 held c.naturals_found.ensures).1

pub returns-clause-most : goal.returns-clause-most
returns-clause-most c =
    let r = list_range_at (basis_of (is_own c.args.table.now) (table_view c.args.document.now)) c.args.table.now c.args.name.now in
    let held = list_held (is_own c.args.table.now) (table_view c.args.document.now) c.args.table.now c.args.name.now (pos 0) (pos 4294967295) c.requires.known c.requires.faultless in
    (naturals_in_range (fewest_in r) (longest_in r) (low_in r) (high_in r) (list_at c.args.table.now c.args.name.now (table_view c.args.document.now))
    c.naturals_found.result (list_bounds (pos 0) (pos 4294967295) r c.requires.known).0 held c.naturals_found.ensures).2
