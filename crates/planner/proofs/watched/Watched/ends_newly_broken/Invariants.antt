use Rattle.std.proofs.Common.{◌≡◌, ℕ, ◌+◌, ◌<◌, ◌≤◌, List, length}
use Rattle.mtl_formulas.specs.FormulaTree.{FormulaTree}
use Rattle.mtl_monitor.specs.Following.{Closes, Fits, Follows, HasRoom, fed_of, past_of}
use Rattle.mtl_formulas.specs.Traces.{Trace}
use Rattle.planner.specs.Inner.Breaking.{IsNewlyBrokenAt, Tells}
use Rattle.planner.proofs.watched.Watched.ends_newly_broken.Given as goal

abbrev pub invariant-loop-past : goal.invariant-loop-past
invariant-loop-past l = record {
  fits : Fits l.towards.program.now l.ending;
  room : HasRoom l.towards.program.now l.ending;
  past : past_of l.ending ≡ l.past;
  fed : fed_of l.ending ≡ fed_of l.self.values;
  first : (formulas : List FormulaTree) (rows : Trace) → Follows l.towards.program.now l.self.values formulas rows → l.past ≡ 0 → Follows l.towards.program.now l.ending formulas rows;
  later : (formulas : List FormulaTree) (rows : Trace) → Follows l.towards.program.now l.self.values formulas rows → 0 < l.past → Closes l.towards.program.now l.ending formulas rows;
  none : (formulas : List FormulaTree) (cut rows : Trace) → Follows l.towards.program.now l.self.values formulas rows → Tells formulas cut l.towards.already.now → fed_of l.self.values ≡ length cut + l.self.since_now
      → (passed : ℕ) → length rows < passed → passed ≤ length rows + l.past → ¬ IsNewlyBrokenAt formulas cut rows passed;
}
