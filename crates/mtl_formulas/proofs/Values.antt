-- Every formula is Open at the trace's end and beyond.
use Rattle.std.proofs.Common.{◌≡◌, ℕ, ◌≤◌, inl, inr, List, length, min, refl, ap, sym, ◌∙◌, arith}
use Rattle.std.specs.Prelude.{nat_lt, false}
use Rattle.std.proofs.lemmas.Option.{slice_get_past}
use Rattle.std.proofs.lemmas.Bool.{cases_lt}
use Rattle.std.proofs.lemmas.Bool.Decides.{nat_tests}
use Rattle.mtl_formulas.specs.declared.atom.Atom.{Atom}
use Rattle.mtl_formulas.specs.declared.verdict.Verdict.{Verdict}
use Rattle.mtl_formulas.specs.declared.verdict.Verdict.TheVariants.{Open}
use Rattle.mtl_formulas.specs.declared.formula.PairKind.{PairKind}
use Rattle.mtl_formulas.specs.declared.formula.PairKind.TheVariants.{And, Or, Implies}
use Rattle.mtl_formulas.specs.VerdictOrder.{turned_round}
use Rattle.mtl_formulas.specs.FormulaTree.{FormulaTree, leaf, negation, pair, span, link}
use Rattle.mtl_formulas.specs.FormulaValue.{value_of, answer_at, pair_value}

pair_value-open : (kind : PairKind) → pair_value kind Open Open ≡ Open
pair_value-open And = refl
pair_value-open Or = refl
pair_value-open Implies = refl

module _ {A : Type 0} (answer : A → Atom → Verdict) where
  pub value_of-past : (rows : List A) (t : FormulaTree) (i : ℕ) → length rows ≤ i → value_of answer rows t i ≡ Open
  value_of-past rows (leaf a) i h = ap (answer_at answer rows a) (slice_get_past rows i h)
  value_of-past rows (negation t) i h = ap turned_round (value_of-past rows t i h)
  value_of-past rows (pair kind s t) i h = rw (value_of-past rows s i h, value_of-past rows t i h) (pair_value-open kind)
  value_of-past rows (span kind l u t) i h =
      let past : nat_lt i (length rows) ≡ false = grind (arith, nat_tests) in rw past
  value_of-past rows (link kind l u s t) i h =
      let past : nat_lt i (length rows) ≡ false = grind (arith, nat_tests) in rw past

  -- the trace's end stands for all that lies beyond it
  pub value_of-min : (rows : List A) (t : FormulaTree) (i : ℕ) → value_of answer rows t (min i (length rows)) ≡ value_of answer rows t i
  value_of-min rows t i = elim (cases_lt i (length rows)) [
    | inl before ↦ ap (value_of answer rows t) (omega arith)
    | inr past ↦
        ap (value_of answer rows t) (omega arith)
        ∙ (value_of-past rows t (length rows) (omega arith) ∙ sym (value_of-past rows t i past))
  ]
