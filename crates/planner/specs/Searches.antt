-- What a search stands for. A reader has only to know that a new search is sound and of its situation, and that a run leaves this so.
use Rattle.planner.specs.Walks.{IsWalk}
use Rattle.planner.specs.declared.search.Search.{Search}
use Rattle.plan_situations.specs.declared.situation.Situation.{Situation}

-- the situation that it was made of
abbrev pub searched_situation : Search → Situation
searched_situation search = search.situation

-- It has what a walk over the prefixes of that situation's plans needs.
abbrev pub IsSound : Search → Type 0
IsSound search = IsWalk search.situation search.walk
