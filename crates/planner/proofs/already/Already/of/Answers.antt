use Rattle.std.proofs.Common.{◌≡◌, ℕ, ◌*◌, List, length, inr, ap, subst, ◌∙◌, arith}
use Rattle.mtl_formulas.specs.FormulaTree.{FormulaTree}
use Rattle.mtl_monitor.specs.Following.{Closes, Follows, count_of}
use Rattle.mtl_formulas.specs.Traces.{Trace}
use Rattle.planner.proofs.TellingNow.{AreTold, all_told, closes_next, next_row, none_told, row_told}
use Rattle.planner.proofs.already.Already.of.Goals as goal

pub loop-past-init : goal.loop-past-init
loop-past-init c = record {
  fits = c.copy_from.ensures.fits c.args.program.now c.requires.fits;
  room = c.copy_from.ensures.room c.args.program.now c.requires.room;
  past = c.copy_from.ensures.past ∙ c.requires.unended;
  fed = c.copy_from.ensures.fed;
  width = c.formula_count.ensures.count;
  count = omega (arith, ap length c.new.ensures.items);
  told = λ formulas rows f. none_told formulas rows _ _;
  first = λ formulas rows f e. c.copy_from.ensures.follows c.args.program.now formulas rows f;
  later = λ formulas rows f lt. absurd (omega arith);
}

pub loop-past-preserved : goal.loop-past-preserved
loop-past-preserved c =
    let was = c.loop-past.invariant in
    let past = was.past in
    let one_more = c.pass_end.ensures.past in
    let row = c.in_ok-add_row.ensures.row in
    let long = row.longer in
    let closes : (formulas : List FormulaTree) (rows : Trace) → Follows c.args.program.now c.args.values.now formulas rows → Closes c.args.program.now c.pass_end.new.self formulas rows = λ formulas rows f.
    closes_next c.loop-past._past (was.first formulas rows f) (was.later formulas rows f) (c.pass_end.ensures.begins formulas rows) (c.pass_end.ensures.goes_on formulas rows) in
    record {
      fits = c.pass_end.ensures.fits;
      room = c.pass_end.ensures.room was.room;
      past = omega arith;
      fed = c.pass_end.ensures.fed ∙ was.fed;
      width = c.in_ok-add_row.ensures.rules ∙ was.width;
      count = next_row c.loop-past._past (count_of c.args.program.now) _ _ long was.count;
      told = λ formulas rows f. row_told c.args.program.now c.pass_end.new.self c.loop-past.already c.add_row.new.self formulas rows c.loop-past._past row was.count
          (inr (closes formulas rows f, omega arith)) (was.told formulas rows f);
      first = λ formulas rows f e. absurd (omega arith);
      later = λ formulas rows f lt. closes formulas rows f;
    }

pub returns-clause-tells : goal.returns-clause-tells
returns-clause-tells c = λ formulas rows f.
    let was = c.loop-past.invariant in
    let many : count_of c.args.program.now ≡ length formulas = f.of.count in
    let reach = c.reach-past-end.ensures.formulas formulas (record { trees = f.trees; of = f.of }) in
    let over = c.loop-past-test.false in
    all_told formulas rows c.loop-past.already c.loop-past._past (was.width ∙ many) (was.count ∙ ap (λ (n : ℕ). c.loop-past._past * n) many) (omega arith)
    (subst (λ (n : ℕ). AreTold formulas rows n c.loop-past._past c.loop-past.already.flags.items) many (was.told formulas rows f))
