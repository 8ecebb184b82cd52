-- When a canonical list says why every plan fails: that there is none is refuted.
use Rattle.std.specs.Prelude.{IfSome, List}
use Rattle.hull_domains.specs.Shapes.{IsShape}
use Rattle.plan_situations.specs.LeastPlans.{AllFail}
use Rattle.plan_situations.specs.Situations.{IsSituation}
use Rattle.plan_situations.specs.declared.situation.Situation.{Situation}
use Rattle.refutation_search.specs.CanonicalLists.{IsCanonical}
use Rattle.refutations.specs.declared.entry.WhyEntry.{WhyEntry}

-- If every plan fails in the situation, whose domains are of a shape or are circles, a canonical list says why.
abbrev pub SomeCanonicalList : Type 0
SomeCanonicalList = (situation : Situation) → IsSituation situation → IfSome situation.shape IsShape → AllFail situation
    → ¬ ((entries : List WhyEntry) → ¬ IsCanonical situation entries)
