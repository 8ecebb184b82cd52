use Rattle.std.proofs.Common.{negsuc, pos}
use Rattle.toml.specs.View.{table_view}
use Rattle.scenario_keys.specs.KeyValues.{list_at}
use Rattle.scenario.specs.Inner.KnownKeys.{fewest_in, high_in, is_own, list_range_at, longest_in, low_in}
use Rattle.scenario.specs.KeyFaults.{basis_of}
use Rattle.scenario.proofs.ListsHeld.{elements_within, integers_in_range, list_held}
use Rattle.scenario.proofs.listed.shorts.Goals as goal

pub shorts_found-requires : goal.shorts_found-requires
shorts_found-requires c =
    elements_within (is_own c.args.table.now) (table_view c.args.document.now) c.args.table.now c.args.name.now (negsuc 32767) (pos 32767) c.requires.known c.requires.faultless

pub returns-clause-in_range : goal.returns-clause-in_range
returns-clause-in_range c =
    let r = list_range_at (basis_of (is_own c.args.table.now) (table_view c.args.document.now)) c.args.table.now c.args.name.now in
    let held = list_held (is_own c.args.table.now) (table_view c.args.document.now) c.args.table.now c.args.name.now (negsuc 32767) (pos 32767) c.requires.known c.requires.faultless in
    (integers_in_range (fewest_in r) (longest_in r) (low_in r) (high_in r) (list_at c.args.table.now c.args.name.now (table_view c.args.document.now))
    c.shorts_found.result held c.shorts_found.ensures).0

pub returns-clause-fewest : goal.returns-clause-fewest
returns-clause-fewest c =
    let r = list_range_at (basis_of (is_own c.args.table.now) (table_view c.args.document.now)) c.args.table.now c.args.name.now in
    let held = list_held (is_own c.args.table.now) (table_view c.args.document.now) c.args.table.now c.args.name.now (negsuc 32767) (pos 32767) c.requires.known c.requires.faultless in
    (integers_in_range (fewest_in r) (longest_in r) (low_in r) (high_in r) (list_at c.args.table.now c.args.name.now (table_view c.args.document.now))
    c.shorts_found.result held c.shorts_found.ensures).1

pub returns-clause-most : goal.returns-clause-most
returns-clause-most c =
    let r = list_range_at (basis_of (is_own c.args.table.now) (table_view c.args.document.now)) c.args.table.now c.args.name.now in
    let held = list_held (is_own c.args.table.now) (table_view c.args.document.now) c.args.table.now c.args.name.now (negsuc 32767) (pos 32767) c.requires.known c.requires.faultless in
    (integers_in_range (fewest_in r) (longest_in r) (low_in r) (high_in r) (list_at c.args.table.now c.args.name.now (table_view c.args.document.now))
    c.shorts_found.result held c.shorts_found.ensures).2
