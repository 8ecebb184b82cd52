use Rattle.std.proofs.Common.{option_map, ◌∙◌}
use Rattle.toml.specs.View.{view}
use Rattle.predictions.proofs.Ranges.{changes_are, changes_held}
use Rattle.predictions.proofs.reading.changes_of.Goals as goal

pub changes_in-requires : goal.changes_in-requires
changes_in-requires c =
    changes_held (option_map (λ v. view v.now) c.args.found) c.in-Some.list.now.items c.requires c.in-Some.ensures

pub returns-in_ok-changes_in-in-Some : goal.returns-in_ok-changes_in-in-Some
returns-in_ok-changes_in-in-Some c =
    c.new.ensures ∙ c.in_ok-changes_in-in-Some.ensures
    ∙ changes_are (option_map (λ v. view v.now) c.args.found) c.in-Some.list.now.items c.in-Some.ensures
