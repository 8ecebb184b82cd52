-- How far formulas look ahead.
use Rattle.std.specs.Prelude.{ℕ, max, List, [], ◌∷◌}
use Rattle.mtl_formulas.specs.FormulaTree.{FormulaTree}
use Rattle.mtl_formulas.specs.FormulaMeasures.{reach_of}

-- how many positions ahead the farthest of the formulas looks
abbrev pub greatest_reach : List FormulaTree → ℕ
greatest_reach [] = 0
greatest_reach (t ∷ ts) = max (reach_of t) (greatest_reach ts)
