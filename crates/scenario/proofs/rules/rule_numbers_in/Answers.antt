use Rattle.std.proofs.Common.{refl}
use Rattle.toml.specs.View.{table_view}
use Rattle.scenario_keys.specs.ScenarioKeys.{first_rows}
use Rattle.scenario.specs.Inner.KnownKeys.{kind_at}
use Rattle.scenario.proofs.Held.{one_le_tick, tick_le_60}
use Rattle.scenario.specs.RuleValues.{rule_numbers_of}
use Rattle.scenario.proofs.rules.rule_numbers_in.Goals as goal

pub returns-clause-values : goal.returns-clause-values
unfolding rule_numbers_of
returns-clause-values c =
    rw (
      c.safe_in.ensures.values,
      c.natural.ensures.value,
      c.natural-2.ensures.value,
      c.natural-3.ensures.value,
      c.natural-4.ensures.value,
      c.natural-5.ensures.value,
      c.natural-6.ensures.value,
      c.natural-7.ensures.value,
    )

pub returns-clause-in_range : goal.returns-clause-in_range
unfolding kind_at first_rows
returns-clause-in_range c =
    let document = table_view c.args.document.now in
    record {
      is_tick = (one_le_tick document, tick_le_60 document);
      safe = c.safe_in.ensures.in_range;
      overtake = c.natural.ensures.most;
      close = c.natural-2.ensures.most;
      t8 = record { few = c.natural-3.ensures.most; whole = c.natural-3.ensures.ticks refl };
      ta = record { few = c.natural-4.ensures.most; whole = c.natural-4.ensures.ticks refl };
      tl = record { few = c.natural-5.ensures.most; whole = c.natural-5.ensures.ticks refl };
      tw = record { few = c.natural-6.ensures.most; whole = c.natural-6.ensures.ticks refl };
      te = record { few = c.natural-7.ensures.most; whole = c.natural-7.ensures.ticks refl };
    }
