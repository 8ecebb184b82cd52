use Rattle.std.proofs.Common.{◌≡◌, ℕ, Bool, true, false, refl, map, take}
use Rattle.std.proofs.lemmas.List.{take-map}
use Rattle.std.specs.Prelude.{IsTrue, not, ◌↔◌}
use Rattle.meetings.specs.Answers.{answer_of}
use Rattle.mtl_formulas.specs.FormulaTree.{FormulaTree, tree_of}
use Rattle.mtl_formulas.specs.declared.verdict.Verdict.TheVariants.{No}
use Rattle.mtl_formulas.specs.Traces.{Trace, value_in}
use Rattle.plan_situations.specs.FailingPlans.{IsNewlyBrokenHere}
use Rattle.plan_situations.proofs.reasons.is_newly_broken.Goals as goal

newly : (b : Bool) (cut : ℕ) (rows : Trace) (f : FormulaTree) (position : ℕ) → value_in rows f position ≡ No → IsTrue b ↔ (value_in (take cut rows) f position ≡ No)
    → IsTrue (not b) ↔ IsNewlyBrokenHere cut rows f position
newly true cut rows f position broken h = (λ t. cc, λ p. absurd (p.not_before (h.0 refl)))
newly false cut rows f position broken h = (λ t. record { broken = broken; not_before = λ was. let t = h.1 was in cc }, λ p. refl)

pub returns : goal.returns
returns c =
    newly c.is_broken-2.result c.args.cut (map answer_of c.args.rows.now) (tree_of c.args.formula.now) c.args.position
    (c.is_broken.ensures.0 c.if-not-is_broken.false) (rw (← take-map answer_of c.args.cut c.args.rows.now) at c.is_broken-2.ensures)
