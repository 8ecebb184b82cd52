-- The state after a call, whatever further lines the judge has taken.
use Rattle.std.specs.Prelude.{ℕ, ◌++◌, List}
use Rattle.log_lines.specs.Standing.{StandsFor as JudgeStandsFor}
use Rattle.log_lines.specs.declared.judge.Judge.{Judge}
use Rattle.scenario_values.specs.declared.values.Scenario.{Scenario}

-- If its model was some lines and the items returned, and the judge's model is these and further lines, this holds for
-- all these lines and the items returned.
abbrev pub Then : {Item : Type 0} → (List (List ℕ) → List Item → Type 0) → Scenario → Judge → (List (List ℕ) → List Item → Type 0) → Type 0
Then {Item} Stood scenario judge Holds = (lines more : List (List ℕ)) (given : List Item) → Stood lines given → JudgeStandsFor judge scenario (lines ++ more) → Holds (lines ++ more) given
