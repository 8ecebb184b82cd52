use Rattle.std.proofs.Common.{◌≡◌, List, IfOk, subst, ap, ◌∙◌}
use Rattle.toml.specs.Data.{Members}
use Rattle.toml.specs.View.{members_view, table_view}
use Rattle.scenario_keys.specs.ScenarioKeys.{first_rows, own_rows, Row}
use Rattle.scenario.specs.Inner.PutTogether.{with_keys}
use Rattle.scenario.proofs.Kept.{keys_in_parts}
use Rattle.scenario.proofs.migration.keys_of.Goals as goal

pub returns : goal.returns
returns c =
    let document = table_view c.args.document.now in
    let keys = with_keys document c.args.table.now in
    let front = c.in_ok-members.ensures ∙ ap (λ (rows : List Row). keys rows (table_view c.new.result)) c.first_rows.ensures
    ∙ ap (keys first_rows) (ap members_view c.new.ensures.empty) in
    subst (λ (m : Members). IfOk c.with_keys-2.result (λ t. table_view t ≡ m))
    (ap (λ (rows : List Row). keys rows (table_view c.in_ok-members.members)) c.own_rows.ensures ∙ ap (keys own_rows) front ∙ keys_in_parts document c.args.table.now)
    c.with_keys-2.ensures
