-- If a glance at a position at which the vessels are apart decides a formula's value, it is the value there.
use Rattle.std.proofs.Common.{◌≡◌, ℕ, refl, ap, ap₂, Option, Some, None}
use Rattle.std.specs.Prelude.{slice_get, IfSome}
use Rattle.mtl_formulas.specs.declared.atom.Atom.{Atom}
use Rattle.mtl_formulas.specs.declared.verdict.Verdict.{Verdict}
use Rattle.mtl_formulas.specs.declared.verdict.Verdict.TheVariants.{No, Open, Yes}
use Rattle.mtl_formulas.specs.declared.formula.PairKind.{PairKind}
use Rattle.mtl_formulas.specs.declared.formula.PairKind.TheVariants.{And, Or, Implies}
use Rattle.mtl_formulas.specs.VerdictOrder.{turned_round, least, greatest}
use Rattle.mtl_formulas.specs.FormulaTree.{FormulaTree, leaf, negation, pair, span, link}
use Rattle.mtl_formulas.specs.FormulaValue.{pair_value}
use Rattle.mtl_formulas.specs.Glances.{IsTold}
use Rattle.mtl_formulas.specs.Traces.{Trace, value_in}
use Rattle.mtl_formulas.specs.declared.glance.Glance.TheVariants.{Apart}
use Rattle.mtl_monitor.specs.Inner.Idle.{apart_value, known_greatest, known_least, known_pair, known_turned}

-- The value is the known one, if one is.
abbrev pub Is : Option Verdict → Verdict → Type 0
Is known value = IfSome known (λ v. value ≡ v)

Is-turned : (k : Option Verdict) (v : Verdict) → Is k v → Is (known_turned k) (turned_round v)
Is-turned None v h = tt
Is-turned (Some x) v h = ap turned_round h

least_no : (v : Verdict) → least v No ≡ No
least_no No = refl
least_no Open = refl
least_no Yes = refl

greatest_yes : (v : Verdict) → greatest v Yes ≡ Yes
greatest_yes No = refl
greatest_yes Open = refl
greatest_yes Yes = refl

Is-least : (j k : Option Verdict) (v w : Verdict) → Is j v → Is k w → Is (known_least j k) (least v w)
Is-least (Some No) k v w g h = rw g
Is-least (Some Yes) k v w g h = rw g h
Is-least (Some Open) None v w g h = tt
Is-least (Some Open) (Some x) v w g h = ap₂ least g h
Is-least None (Some No) v w g h = rw h (least_no v)
Is-least None (Some Open) v w g h = tt
Is-least None (Some Yes) v w g h = tt
Is-least None None v w g h = tt

Is-greatest : (j k : Option Verdict) (v w : Verdict) → Is j v → Is k w → Is (known_greatest j k) (greatest v w)
Is-greatest (Some Yes) k v w g h = rw g
Is-greatest (Some No) k v w g h = rw g h
Is-greatest (Some Open) None v w g h = tt
Is-greatest (Some Open) (Some x) v w g h = ap₂ greatest g h
Is-greatest None (Some Yes) v w g h = rw h (greatest_yes v)
Is-greatest None (Some Open) v w g h = tt
Is-greatest None (Some No) v w g h = tt
Is-greatest None None v w g h = tt

Is-pair : (kind : PairKind) (j k : Option Verdict) (v w : Verdict) → Is j v → Is k w → Is (known_pair kind j k) (pair_value kind v w)
Is-pair And j k v w g h = Is-least j k v w g h
Is-pair Or j k v w g h = Is-greatest j k v w g h
Is-pair Implies j k v w g h = Is-greatest (known_turned j) k (turned_round v) w (Is-turned j v g) h

module _ (rows : Trace) (i : ℕ) (row : Atom → Verdict) (at : slice_get rows i ≡ Some row) (told : IsTold Apart row) where
  pub apart_value-is : (t : FormulaTree) → Is (apart_value t) (value_in rows t i)
  apart_value-is (leaf a) = rw at (told a)
  apart_value-is (negation t) = Is-turned (apart_value t) (value_in rows t i) (apart_value-is t)
  apart_value-is (pair kind s t) =
      Is-pair kind (apart_value s) (apart_value t) (value_in rows s i) (value_in rows t i) (apart_value-is s) (apart_value-is t)
  apart_value-is (span kind l u t) = tt
  apart_value-is (link kind l u s t) = tt
