use Rattle.std.proofs.Common.{ℕ, pos, List, IfOk, subst, ◌≡◌, ◌∙◌}
use Rattle.toml.specs.Data.{as_integer}
use Rattle.toml.specs.View.{table_view}
use Rattle.scenario_keys.specs.KeyValues.{natural_of}
use Rattle.scenario.proofs.ListsHeld.{mapped, nothing_mapped, values_held}
use Rattle.scenario.proofs.listed.naturals_found.Goals as goal

pub naturals_in-requires : goal.naturals_in-requires
naturals_in-requires c =
    values_held (table_view c.args.document.now) c.args.table.now c.args.name.now (pos 0) (pos 4294967295) c.in-Some.list.now.items c.in-Some.ensures c.requires

pub returns-in-Some : goal.returns-in-Some
returns-in-Some c =
    subst (λ (l : List ℕ). IfOk c.naturals_in.result (λ v. v.items ≡ l))
    (mapped (λ d. natural_of (as_integer d)) (table_view c.args.document.now) c.args.table.now c.args.name.now c.in-Some.list.now.items c.in-Some.ensures)
    c.naturals_in.ensures

pub returns-in-None : goal.returns-in-None
returns-in-None c =
    c.new.ensures.items ∙ nothing_mapped (λ d. natural_of (as_integer d)) (table_view c.args.document.now) c.args.table.now c.args.name.now c.in-None.ensures
