-- The purpose of reading a scenario, and whether ranks count for it.
use Rattle.std.specs.Prelude.{◌==◌, ℤ, pos, negsuc, codes, Bool, true, false, if◌then◌else◌, Option, Some, None}
use Rattle.toml.specs.Data.{Members}
use Rattle.rule_set.specs.declared.ranking.Ranking.{Ranking}
use Rattle.rule_set.specs.declared.ranking.Ranking.TheVariants.{Ignored, Counted}
use Rattle.scenario_keys.specs.KeyValues.{integer_at}
use Rattle.scenario.specs.declared.purpose.Purpose.{Purpose}

-- A search for a manoeuvre needs own ship and ignores ranks. Judging vessels does not need her, and ranks count.
abbrev pub purpose_by : Bool → Purpose
purpose_by true = record { need_own = true; ranks = Ignored }
purpose_by false = record { need_own = false; ranks = Counted }

-- The document asks for ranks if their key is 1.

abbrev pub is_one : Option ℤ → Bool
is_one None = false
is_one (Some (pos n)) = n == 1
is_one (Some (negsuc n)) = false

unfoldable pub wants_ranks : Members → Bool
wants_ranks document = is_one (integer_at (codes "rules") (codes "ranks") document)

-- They count if the document asks for them and they count for this purpose.
unfoldable pub ranking_of : Purpose → Members → Ranking
ranking_of purpose document = if wants_ranks document then purpose.ranks else Ignored

abbrev pub are_counted : Ranking → Bool
are_counted Ignored = false
are_counted Counted = true
