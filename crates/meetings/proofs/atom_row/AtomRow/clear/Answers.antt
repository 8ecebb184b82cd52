use Rattle.std.proofs.Common.{ap, ◌∙◌}
use Rattle.meetings.specs.Inner.Tests.{is_separated, told}
use Rattle.meetings.proofs.SeparatedByEnds.{same_test}
use Rattle.meetings.proofs.atom_row.AtomRow.clear.Goals as goal

pub returns-in-Some : goal.returns-in-Some
returns-in-Some c =
    let step = c.in-Some.step in
    let same = same_test step c.tenths.result c.separated.result c.separated.ensures.ends.0 c.separated.ensures.ends.1 in
    rw (← c.self.view_is, c.in-Some.is) (c.told.ensures ∙ ap told (same ∙ ap (is_separated step) c.tenths.ensures.value))
