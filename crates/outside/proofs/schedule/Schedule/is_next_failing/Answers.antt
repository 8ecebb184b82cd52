use Rattle.std.proofs.Common.{◌∙◌, sym}
use Rattle.outside.proofs.CallLists.{listed-below}
use Rattle.outside.proofs.schedule.Schedule.is_next_failing.Goals as goal

pub returns-clause-early : goal.returns-clause-early
returns-clause-early c =
    let s = c.self.inside in
    let answer = rw c.deref.ensures.value at c.contains.ensures.value in
    rw (← c.self.view_is) (λ listed. listed-below s.fails.items s.made (sym answer ∙ listed) c.self.invariant)
