-- Which formulas sweeps compute.
use Rattle.std.specs.Prelude.{◌≡◌}
use Rattle.mtl_formulas.specs.declared.formula.SpanKind.TheVariants.{F, G, O, H}
use Rattle.mtl_formulas.specs.declared.formula.LinkKind.TheVariants.{U, S}
use Rattle.mtl_formulas.specs.FormulaTree.{FormulaTree, leaf, negation, pair, span, link}
use Rattle.mtl_formulas.specs.FormulaMeasures.{reach_of}

-- No part of it looks back at one that looks ahead.
abbrev pub IsSweepable : FormulaTree → Type 0
IsSweepable (leaf a) = Unit {0}
IsSweepable (negation t) = IsSweepable t
IsSweepable (pair kind s t) = IsSweepable s × IsSweepable t
IsSweepable (span F l u t) = IsSweepable t
IsSweepable (span G l u t) = IsSweepable t
IsSweepable (span O l u t) = reach_of t ≡ 0
IsSweepable (span H l u t) = reach_of t ≡ 0
IsSweepable (link U l u s t) = IsSweepable s × IsSweepable t
IsSweepable (link S l u s t) = (reach_of s ≡ 0) × (reach_of t ≡ 0)
