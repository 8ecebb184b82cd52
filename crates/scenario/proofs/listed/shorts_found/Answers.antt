use Rattle.std.proofs.Common.{ℤ, negsuc, pos, List, IfOk, subst, ◌≡◌, ◌∙◌}
use Rattle.toml.specs.Data.{as_integer}
use Rattle.toml.specs.View.{table_view}
use Rattle.scenario_keys.specs.KeyValues.{integer_of}
use Rattle.scenario.proofs.ListsHeld.{mapped, nothing_mapped, values_held}
use Rattle.scenario.proofs.listed.shorts_found.Goals as goal

pub shorts_in-requires : goal.shorts_in-requires
shorts_in-requires c =
    values_held (table_view c.args.document.now) c.args.table.now c.args.name.now (negsuc 32767) (pos 32767) c.in-Some.list.now.items c.in-Some.ensures c.requires

pub returns-in-Some : goal.returns-in-Some
returns-in-Some c =
    subst (λ (l : List ℤ). IfOk c.shorts_in.result (λ v. v.items ≡ l))
    (mapped (λ d. integer_of (as_integer d)) (table_view c.args.document.now) c.args.table.now c.args.name.now c.in-Some.list.now.items c.in-Some.ensures)
    c.shorts_in.ensures

pub returns-in-None : goal.returns-in-None
returns-in-None c =
    c.new.ensures.items ∙ nothing_mapped (λ d. integer_of (as_integer d)) (table_view c.args.document.now) c.args.table.now c.args.name.now c.in-None.ensures
