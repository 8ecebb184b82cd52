use Rattle.std.proofs.Common.{◌∙◌, ℤ, [], ◌∷◌, ◌++◌, ap, w16, rules}
use Rattle.std.proofs.lemmas.Int.{to_z-of_z}
use Rattle.toml.specs.Data.{as_integer}
use Rattle.toml.specs.View.{view}
use Rattle.toml.specs.declared.value.Value.{Value}
use Rattle.scenario_keys.specs.KeyValues.{integer_of}
use Rattle.scenario.proofs.OneMore.{mapped_more}
use Rattle.scenario.proofs.listed.shorts_in.Goals as goal

pub loop-found-preserved : goal.loop-found-preserved
loop-found-preserved c =
    mapped_more (λ (v : Value). integer_of (as_integer (view v))) c.args.list.now.items c.deref-found-items.result.now c.loop-found.found-index c.found-item.result c.short_in.result c.loop-found.shorts.items _
    c.deref-found-items.ensures.value c.loop-found-test.true c.found-item.is c.short_in.ensures c.loop-found.invariant
    (c.in_ok-push.ensures.items ∙ ap (λ (n : ℤ). c.loop-found.shorts.items ++ n ∷ []) (to_z-of_z w16 c.short_in.result (search rules)))
