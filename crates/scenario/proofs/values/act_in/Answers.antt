use Rattle.scenario.specs.ScenarioValues.{act_of}
use Rattle.scenario.proofs.values.act_in.Goals as goal

pub returns-clause-values : goal.returns-clause-values
unfolding act_of
returns-clause-values c =
    rw (c.short_natural.ensures.value, c.short_natural-2.ensures.value, c.short_natural-3.ensures.value, c.short_natural-4.ensures.value)
