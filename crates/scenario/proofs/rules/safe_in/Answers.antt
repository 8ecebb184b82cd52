use Rattle.std.proofs.Common.{sym, ◌∙◌}
use Rattle.scenario.specs.RuleValues.{safe_of}
use Rattle.scenario.proofs.rules.safe_in.Goals as goal

pub returns-then-is_version_two-clause-values : goal.returns-then-is_version_two-clause-values
unfolding safe_of
returns-then-is_version_two-clause-values c =
    rw (
      c.natural.ensures.value,
      c.natural-then-is_version_two.ensures.value,
      c.natural-then-is_version_two-2.ensures.value,
      c.natural-then-is_version_two-3.ensures.value,
      sym c.is_version_two.ensures ∙ c.if-is_version_two.true,
    )
