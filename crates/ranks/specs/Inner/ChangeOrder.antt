-- The stored changes of one vessel.
use Rattle.std.specs.Prelude.{◌<◌, ◌≢◌, List, [], ◌∷◌}
use Rattle.std.specs.List.{AllPairs}
use Rattle.ranks.specs.declared.change.Change.{Change}
use Rattle.ranks.specs.declared.rank.Rank.{Rank}
use Rattle.ranks.specs.declared.rank.Rank.TheVariants.{Power}

-- Each rank differs from the one before it, the first from this one.
abbrev pub Differ : Rank → List Change → Type 0
Differ before [] = Unit {0}
Differ before (change ∷ changes) = (change.rank ≢ before) × Differ change.rank changes

-- Each change is later than those before it, and changes the rank.
pub record AreChanges (changes : List Change) : Type 0 where
  pub order : AllPairs (λ earlier later. earlier.time < later.time) changes
  pub differ : Differ Power changes
