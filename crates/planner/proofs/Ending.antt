-- The end of a trace over rules whose No needs all rows that the rule reaches.
use Rattle.std.proofs.Common.{ℕ, ◌<◌, List, length, arith}
use Rattle.std.specs.Prelude.{All}
use Rattle.mtl_formulas.specs.FormulaTree.{FormulaTree, leaf}
use Rattle.mtl_formulas.specs.declared.atom.Atom.TheVariants.{Always}
use Rattle.mtl_formulas.specs.Traces.{Trace}
use Rattle.planner.specs.Inner.Breaking.{IsNewlyBrokenAt}
use Rattle.rule_program.specs.Lags.{IsNoLast}

-- No row beyond the end decides a position as newly broken.
pub none_beyond : (formulas : List FormulaTree) → All IsNoLast formulas → (cut rows : Trace) (passed : ℕ) → length rows < passed → ¬ IsNewlyBrokenAt formulas cut rows passed
none_beyond formulas last cut rows passed beyond told =
    let came = last told.rule (leaf Always) told.known rows told.at.position told.at.broken in
    let decided = told.at.decided in
    absurd (omega arith)
