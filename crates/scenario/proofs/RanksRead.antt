-- Whether ranks count in what is read.
use Rattle.std.proofs.Common.{◌≡◌, ℕ, List, Bool, true, false, if◌then◌else◌, refl, ap, ◌∙◌}
use Rattle.toml.specs.Data.{Members}
use Rattle.rule_set.specs.NamedTrees.{NamedTree}
use Rattle.rule_set.specs.declared.ranking.Ranking.TheVariants.{Ignored}
use Rattle.scenario.specs.Purposes.{are_counted, purpose_by, ranking_of, wants_ranks}
use Rattle.scenario.specs.ScenarioReading.{Means}
use Rattle.scenario.specs.ScenarioValues.{scenario_of, scenario_with}
use Rattle.scenario.specs.declared.purpose.Purpose.{Purpose}
use Rattle.scenario_values.specs.declared.values.Scenario.{Scenario}

pub ranks_read : (purpose : Purpose) (document : Members) (rules : List NamedTree) → (scenario_of purpose document rules).ranks ≡ are_counted (ranking_of purpose document)
unfolding scenario_with
ranks_read purpose document rules = refl

-- With own ship they do not.
pub unranked : (bytes : List ℕ) (scenario : Scenario) → Means true bytes scenario → scenario.ranks ≡ false
unfolding ranking_of
unranked bytes scenario means =
    ap (λ (s : Scenario). s.ranks) means.values ∙ ranks_read (purpose_by true) means.document scenario.rules ∙ none (wants_ranks means.document)
  where
    none : (wanted : Bool) → are_counted (if wanted then Ignored else Ignored) ≡ false
    none true = refl
    none false = refl
