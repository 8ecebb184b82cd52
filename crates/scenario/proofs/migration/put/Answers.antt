use Rattle.std.proofs.Common.{List, ℕ, ap, ◌∙◌}
use Rattle.toml.specs.View.{members_view, table_view, view}
use Rattle.scenario.specs.Inner.PutTogether.{with_member}
use Rattle.scenario.proofs.Members.{put_seen}
use Rattle.scenario.proofs.migration.put.Goals as goal

pub returns : goal.returns
returns c =
    ap members_view c.in_ok-insert.ensures.entries
    ∙ put_seen c.in_ok-name.name c.args.value c.args.members.now.entries
    ∙ ap (λ (name : List ℕ). with_member name (view c.args.value) (table_view c.args.members.now)) c.in_ok-name.ensures.ok
