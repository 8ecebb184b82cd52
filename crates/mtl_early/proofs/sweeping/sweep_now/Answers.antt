use Rattle.std.proofs.Common.{◌≡◌, ◌+◌, ◌-◌, ◌<◌, ◌≤◌, refl, ◌∙◌, arith, inr, [], ◌∷◌, ◌++◌, length}
use Rattle.std.proofs.lemmas.List.{get_or_default, length_push}
use Rattle.mtl_formulas.specs.declared.verdict.Verdict.TheVariants.{Open}
use Rattle.mtl_early.specs.Inner.Cells.{aged}
use Rattle.mtl_early.proofs.Sweeps.{AreRight-more, SameOutside-more, value_before}
use Rattle.mtl_early.proofs.sweeping.sweep_now.Goals as goal

pub loop-age-init : goal.loop-age-init
loop-age-init c = record {
  carried = λ rows row t near few right is some. let all : length rows - 0 ≡ length rows = omega arith in rw all is;
  right = λ rows row t near few right is age below. absurd (omega (arith, below));
  others = λ k outside. refl;
}

pub loop-age-preserved : goal.loop-age-preserved
loop-age-preserved c =
    let a = c.args in
    let l = c.loop-age in
    let room : a.at + a.size ≤ length l.cells = omega (arith, l.auto.cells, c.requires.inside) in
    let inside : a.at + l.age < length l.cells = omega (arith, room, c.loop-age-test.true) in
    record {
      carried = λ rows row t near few right is more.
          get_or_default l.cells (a.at + l.age) _ Open inside
          ∙ (l.invariant.others (a.at + l.age) (inr (omega arith))
          ∙ (right l.age (omega (arith, more))
          ∙ value_before rows row t (aged rows l.age) (omega (arith, near, few, more))));
      right = λ rows row t near few right is.
          let one_more : length (rows ++ row ∷ []) ≡ length rows + 1 = length_push rows row in
          let position : aged (rows ++ row ∷ []) l.age ≡ length rows - l.age = omega (arith, one_more) in
          AreRight-more l.cells a.at l.age l.carried inside (rows ++ row ∷ []) t
          (rw position (l.invariant.carried rows row t near few right is c.loop-age-test.true))
          (l.invariant.right rows row t near few right is);
      others = SameOutside-more l.cells a.at l.age l.carried inside a.cells.now l.invariant.others;
    }
