use Rattle.std.proofs.lemmas.List.{length-map}
use Rattle.rule_set.proofs.RuleLists.{added}
use Rattle.rule_set.proofs.rule_set.RuleSet.add.Goals as goal
use Rattle.rule_set.proofs.rule_set.RuleSet.add.Goals.{in-Ok, in-Err}

pub invariant_of-self : goal.invariant_of-self
invariant_of-self c =
    let few = rw (← c.self.view_is, length-map) at c.requires.few in
    let new = rw (← c.self.view_is) at c.requires.new in
    elim c.match-push.branch [
      | in-Ok w ↦ rw w.in-Ok.ensures.items (added c.self.inside.rules.items _ few c.self.invariant.1 new)
      | in-Err w ↦ rw w.in-Err.ensures.items c.self.invariant
    ]
