use Rattle.toml.specs.View.{table_view}
use Rattle.scenario.specs.Inner.KnownKeys.{is_own}
use Rattle.scenario.proofs.Held.{known, known_in_range, from_tick, in_ticks}
use Rattle.scenario.proofs.integers.known.Goals as goal

pub returns-clause-held : goal.returns-clause-held
returns-clause-held c =
    known (is_own c.args.table.now) (table_view c.args.document.now) c.args.table.now c.args.name.now c.args.low c.args.high c.integer_found.result c.requires.known c.requires.faultless c.integer_found.ensures

pub returns-clause-tick : goal.returns-clause-tick
returns-clause-tick c =
    λ begins. from_tick (is_own c.args.table.now) (table_view c.args.document.now) c.args.table.now c.args.name.now c.integer_found.result begins c.requires.faultless c.integer_found.ensures

pub returns-clause-ticks : goal.returns-clause-ticks
returns-clause-ticks c =
    λ ticks. in_ticks (is_own c.args.table.now) (table_view c.args.document.now) c.args.table.now c.args.name.now c.integer_found.result ticks c.requires.faultless c.integer_found.ensures

pub returns-clause-in_range : goal.returns-clause-in_range
returns-clause-in_range c =
    known_in_range (is_own c.args.table.now) (table_view c.args.document.now) c.args.table.now c.args.name.now c.args.low c.args.high c.integer_found.result c.requires.known c.requires.faultless c.integer_found.ensures
