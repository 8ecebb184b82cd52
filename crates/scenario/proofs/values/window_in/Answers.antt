use Rattle.toml.specs.View.{table_view}
use Rattle.scenario_keys.specs.ScenarioKeys.{first_rows}
use Rattle.scenario.specs.Inner.KnownKeys.{kind_at}
use Rattle.scenario.proofs.Held.{tick_is}
use Rattle.scenario.proofs.values.window_in.Goals as goal

pub returns-clause-tick : goal.returns-clause-tick
unfolding kind_at first_rows
returns-clause-tick c =
    tick_is (table_view c.args.document.now) c.natural.result c.natural.ensures.least c.natural.ensures.most c.natural.ensures.there
