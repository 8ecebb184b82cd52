use Rattle.std.proofs.Common.{◌≡◌, ◌*◌, ◌<◌, List, length}
use Rattle.mtl_formulas.specs.FormulaTree.{FormulaTree}
use Rattle.mtl_monitor.specs.Following.{Closes, Fits, Follows, HasRoom, count_of, fed_of, past_of}
use Rattle.mtl_formulas.specs.Traces.{Trace}
use Rattle.planner.proofs.TellingNow.{AreTold}
use Rattle.planner.proofs.already.Already.of.Given as goal

abbrev pub invariant-loop-past : goal.invariant-loop-past
invariant-loop-past l = record {
  fits : Fits l.program l.ending;
  room : HasRoom l.program l.ending;
  past : past_of l.ending ≡ l._past;
  fed : fed_of l.ending ≡ fed_of l.values;
  width : l.already.rules ≡ count_of l.program;
  count : length l.already.flags.items ≡ l._past * count_of l.program;
  told : (formulas : List FormulaTree) (rows : Trace) → Follows l.program l.values formulas rows → AreTold formulas rows (count_of l.program) l._past l.already.flags.items;
  first : (formulas : List FormulaTree) (rows : Trace) → Follows l.program l.values formulas rows → l._past ≡ 0 → Follows l.program l.ending formulas rows;
  later : (formulas : List FormulaTree) (rows : Trace) → Follows l.program l.values formulas rows → 0 < l._past → Closes l.program l.ending formulas rows;
}
