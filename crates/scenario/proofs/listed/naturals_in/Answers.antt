use Rattle.toml.specs.Data.{as_integer}
use Rattle.toml.specs.View.{view}
use Rattle.toml.specs.declared.value.Value.{Value}
use Rattle.scenario_keys.specs.KeyValues.{natural_of}
use Rattle.scenario.proofs.OneMore.{mapped_more}
use Rattle.scenario.proofs.listed.naturals_in.Goals as goal

pub loop-found-preserved : goal.loop-found-preserved
loop-found-preserved c =
    mapped_more (λ (v : Value). natural_of (as_integer (view v))) c.args.list.now.items c.deref-found-items.result.now c.loop-found.found-index c.found-item.result c.natural_in.result c.loop-found.naturals.items _
    c.deref-found-items.ensures.value c.loop-found-test.true c.found-item.is c.natural_in.ensures c.loop-found.invariant c.in_ok-push.ensures.items
