-- What is quiet at a row is quiet at the next, and so are nodes that have just been passed without a move.
use Rattle.std.proofs.Common.{◌≡◌, ◌≢◌, ℕ, ◌+◌, ◌-◌, ◌≤◌, refl, sym, ap, ap₂, ◌∙◌, arith, inl, inr, List}
use Rattle.std.specs.Prelude.{nat_lt}
use Rattle.std.proofs.lemmas.Bool.{cases_lt, lt-ltb, le-ltb}
use Rattle.mtl_formulas.specs.declared.atom.Atom.{Atom}
use Rattle.mtl_formulas.specs.declared.verdict.Verdict.{Verdict}
use Rattle.mtl_formulas.specs.VerdictOrder.{turned_round}
use Rattle.mtl_formulas.specs.FormulaValue.{pair_value}
use Rattle.mtl_monitor.specs.declared.node.Operator.{Operator}
use Rattle.mtl_monitor.specs.declared.node.Operator.TheVariants as op
use Rattle.mtl_monitor.specs.declared.node.Kept.{Kept}
use Rattle.mtl_monitor.specs.declared.node.Kept.TheVariants as kinds
use Rattle.mtl_monitor.specs.Inner.Steps.{value_at, given, kept}
use Rattle.mtl_monitor.specs.Inner.Standing.{AllOperands}
use Rattle.mtl_monitor.specs.Inner.Reading.{IsAtom}
use Rattle.mtl_monitor.specs.Inner.Quiet.{IsAwake, Answers, GoesOn, IsQuiet}

module _ (values : List Verdict) (i : ℕ) where
  -- on one side of the trace's end
  given-later : (row : Atom → Verdict) (o : Operator) (s : Kept) (late end next : ℕ) → IsAwake o i → late ≤ i → nat_lt ((i + 1) - late) next ≡ nat_lt (i - late) end
      → given o s late values row (i + 1) next ≡ given o s late values row i end
  given-later row (op.Late cells from a) (kinds.Ring d) late end next awake ready side =
      rw (le-ltb (i + 1) from (omega arith), le-ltb i from awake)
  given-later row (op.Window kind width from a) (kinds.Window s) late end next awake ready side =
      rw (le-ltb (i + 1) from (omega arith), le-ltb i from awake, side)
  given-later row (op.Since width lower from a b) (kinds.Since hits bars) late end next awake ready side =
      rw (le-ltb (i + 1) from (omega arith), le-ltb i from awake, le-ltb (i + 1) late (omega arith), le-ltb i late ready, side)
  given-later row (op.Until from full lower a behind b) s late end next awake ready side = absurd awake
  given-later row _ _ late end next awake ready side = refl

  given-ended : (row : Atom → Verdict) (o : Operator) (s : Kept) (late end next : ℕ) → nat_lt (i - late) next ≡ nat_lt (i - late) end
      → given o s late values row i next ≡ given o s late values row i end
  given-ended row (op.Late cells from a) (kinds.Ring d) late end next side = refl
  given-ended row (op.Window kind width from a) (kinds.Window s) late end next side = rw side
  given-ended row (op.Since width lower from a b) (kinds.Since hits bars) late end next side = rw side
  given-ended row (op.Until from full lower a behind b) (kinds.Until s) late end next side = rw side
  given-ended row _ _ late end next side = refl

  kept-later : (o : Operator) (s : Kept) (late : ℕ) → IsAwake o i → late ≤ i → kept o s late values (i + 1) ≡ kept o s late values i
  kept-later (op.Late cells from a) (kinds.Ring d) late awake ready =
      rw (le-ltb (i + 1) from (omega arith), le-ltb i from awake)
  kept-later (op.Window kind width from a) (kinds.Window s) late awake ready =
      rw (le-ltb (i + 1) from (omega arith), le-ltb i from awake)
  kept-later (op.Since width lower from a b) (kinds.Since hits bars) late awake ready =
      rw (le-ltb (i + 1) from (omega arith), le-ltb i from awake, le-ltb (i + 1) late (omega arith), le-ltb i late ready)
  kept-later (op.Until from full lower a behind b) s late awake ready = absurd awake
  kept-later _ _ late awake ready = refl

  awake-later : (o : Operator) → IsAwake o i → IsAwake o (i + 1)
  awake-later (op.Late cells from a) h = omega arith
  awake-later (op.Window kind width from a) h = omega arith
  awake-later (op.Since width lower from a b) h = omega arith
  awake-later (op.Until from full lower a behind b) h = h
  awake-later _ h = tt

  -- What was fed is the whole trace.
  pub IsQuiet-ended : (o : Operator) (s : Kept) (late : ℕ) (v : Verdict) → IsQuiet o s late values v i (i + 1) → IsQuiet o s late values v i i
  IsQuiet-ended o s late v h =
      record {
        awake = h.awake;
        ready = h.ready;
        gives = λ uncrossed row answers.
            given-ended row o s late (i + 1) i (lt-ltb (i - late) i (omega (arith, h.ready)) ∙ sym (lt-ltb (i - late) (i + 1) (omega arith))) ∙ h.gives (omega arith) row answers;
        keeps = h.keeps;
      }

  pub IsQuiet-later : (o : Operator) (s : Kept) (late : ℕ) (v : Verdict) (end next : ℕ) → GoesOn i end next → i ≢ end + late
      → IsQuiet o s late values v i end → IsQuiet o s late values v (i + 1) next
  IsQuiet-later o s late v end next onward here h =
      record {
        awake = awake-later o h.awake;
        ready = omega (arith, h.ready);
        gives = λ uncrossed row answers. given-later row o s late end next h.awake h.ready (onward late h.ready uncrossed) ∙ h.gives here row answers;
        keeps = kept-later o s late h.awake h.ready ∙ h.keeps;
      }

  -- the value that a node gives does not depend on the row, but for its atom
  same_given : (o : Operator) (s : Kept) (late end : ℕ) (row other : Atom → Verdict) → Answers o other (given o s late values row i end)
      → given o s late values other i end ≡ given o s late values row i end
  same_given (op.Atom a) s late end row other h = h
  same_given (op.Not a) s late end row other h = refl
  same_given (op.Pair kind a b) s late end row other h = refl
  same_given (op.Late cells from a) kinds.Plain late end row other h = refl
  same_given (op.Late cells from a) (kinds.Ring d) late end row other h = refl
  same_given (op.Late cells from a) (kinds.Window w) late end row other h = refl
  same_given (op.Late cells from a) (kinds.Since w x) late end row other h = refl
  same_given (op.Late cells from a) (kinds.Until w) late end row other h = refl
  same_given (op.Window kind width from a) kinds.Plain late end row other h = refl
  same_given (op.Window kind width from a) (kinds.Ring d) late end row other h = refl
  same_given (op.Window kind width from a) (kinds.Window w) late end row other h = refl
  same_given (op.Window kind width from a) (kinds.Since w x) late end row other h = refl
  same_given (op.Window kind width from a) (kinds.Until w) late end row other h = refl
  same_given (op.Since width lower from a b) kinds.Plain late end row other h = refl
  same_given (op.Since width lower from a b) (kinds.Ring d) late end row other h = refl
  same_given (op.Since width lower from a b) (kinds.Window w) late end row other h = refl
  same_given (op.Since width lower from a b) (kinds.Since w x) late end row other h = refl
  same_given (op.Since width lower from a b) (kinds.Until w) late end row other h = refl
  same_given (op.Until from full lower a behind b) kinds.Plain late end row other h = refl
  same_given (op.Until from full lower a behind b) (kinds.Ring d) late end row other h = refl
  same_given (op.Until from full lower a behind b) (kinds.Window w) late end row other h = refl
  same_given (op.Until from full lower a behind b) (kinds.Since w x) late end row other h = refl
  same_given (op.Until from full lower a behind b) (kinds.Until w) late end row other h = refl

  -- a node that was passed and has kept what it kept
  pub IsQuiet-passed : (o : Operator) (s : Kept) (late : ℕ) (row : Atom → Verdict) (end next : ℕ) → GoesOn i end next → IsAwake o i → late ≤ i → kept o s late values i ≡ s
      → IsQuiet o s late values (given o s late values row i end) (i + 1) next
  IsQuiet-passed o s late row end next onward awake ready still =
      record {
        awake = awake-later o awake;
        ready = omega (arith, ready);
        gives = λ uncrossed other answers. given-later other o s late end next awake ready (onward late ready uncrossed) ∙ same_given o s late end row other answers;
        keeps = kept-later o s late awake ready ∙ still;
      }

-- what a node gives and keeps depends on its operands' values alone
module _ (values others : List Verdict) (i : ℕ) where
  given-same : (o : Operator) (s : Kept) (late end : ℕ) (row : Atom → Verdict) → AllOperands (λ a. value_at others a ≡ value_at values a) o
      → given o s late others row i end ≡ given o s late values row i end
  given-same (op.Atom a) s late end row same = refl
  given-same (op.Not a) s late end row same = ap turned_round same
  given-same (op.Pair kind a b) s late end row same = ap₂ (pair_value kind) same.0 same.1
  given-same (op.Late cells from a) (kinds.Ring d) late end row same = rw same
  given-same (op.Window kind width from a) (kinds.Window s) late end row same = rw same
  given-same (op.Since width lower from a b) (kinds.Since hits bars) late end row same = rw (same.0, same.1)
  given-same (op.Until from full lower a behind b) (kinds.Until s) late end row same = rw (same.0, same.1, same.2)
  given-same _ _ late end row same = refl

  kept-same : (o : Operator) (s : Kept) (late : ℕ) → AllOperands (λ a. value_at others a ≡ value_at values a) o
      → kept o s late others i ≡ kept o s late values i
  kept-same (op.Late cells from a) (kinds.Ring d) late same = rw same
  kept-same (op.Window kind width from a) (kinds.Window s) late same = rw same
  kept-same (op.Since width lower from a b) (kinds.Since hits bars) late same = rw (same.0, same.1)
  kept-same (op.Until from full lower a behind b) (kinds.Until s) late same = rw (same.0, same.1, same.2)
  kept-same _ _ late same = refl

  pub IsQuiet-same : (o : Operator) (s : Kept) (late : ℕ) (v : Verdict) → AllOperands (λ a. value_at others a ≡ value_at values a) o
      → (end : ℕ) → IsQuiet o s late values v i end → IsQuiet o s late others v i end
  IsQuiet-same o s late v same end h =
      record {
        awake = h.awake;
        ready = h.ready;
        gives = λ uncrossed row answers. given-same o s late end row same ∙ h.gives uncrossed row answers;
        keeps = kept-same o s late same ∙ h.keeps;
      }

-- An atom's node is quiet with whatever value the row answers.
pub IsQuiet-atom : (o : Operator) (s : Kept) (late : ℕ) (values : List Verdict) (v : Verdict) (i end : ℕ) → IsAtom o → late ≤ i → IsQuiet o s late values v i end
IsQuiet-atom (op.Atom a) s late values v i end is ready = record { awake = tt; ready = ready; gives = λ uncrossed row answers. answers; keeps = refl }
IsQuiet-atom (op.Not a) s late values v i end is ready = absurd is
IsQuiet-atom (op.Pair kind a b) s late values v i end is ready = absurd is
IsQuiet-atom (op.Late cells from a) s late values v i end is ready = absurd is
IsQuiet-atom (op.Window kind width from a) s late values v i end is ready = absurd is
IsQuiet-atom (op.Since width lower from a b) s late values v i end is ready = absurd is
IsQuiet-atom (op.Until from full lower a behind b) s late values v i end is ready = absurd is

-- A row answers an atom's node with the value that the node gives at it, and a row that answers everything with a value, with that.
pub Answers-given : (o : Operator) (s : Kept) (late : ℕ) (values : List Verdict) (row : Atom → Verdict) (i end : ℕ) → Answers o row (given o s late values row i end)
Answers-given (op.Atom a) s late values row i end = refl
Answers-given (op.Not a) s late values row i end = tt
Answers-given (op.Pair kind a b) s late values row i end = tt
Answers-given (op.Late cells from a) s late values row i end = tt
Answers-given (op.Window kind width from a) s late values row i end = tt
Answers-given (op.Since width lower from a b) s late values row i end = tt
Answers-given (op.Until from full lower a behind b) s late values row i end = tt

pub Answers-all : (o : Operator) (v : Verdict) → Answers o (λ a. v) v
Answers-all (op.Atom a) v = refl
Answers-all (op.Not a) v = tt
Answers-all (op.Pair kind a b) v = tt
Answers-all (op.Late cells from a) v = tt
Answers-all (op.Window kind width from a) v = tt
Answers-all (op.Since width lower from a b) v = tt
Answers-all (op.Until from full lower a behind b) v = tt

-- while rows are fed, and once the trace is over
pub GoesOn-fed : (i : ℕ) → GoesOn i (i + 1) ((i + 1) + 1)
GoesOn-fed i late ready uncrossed = lt-ltb ((i + 1) - late) ((i + 1) + 1) (omega arith) ∙ sym (lt-ltb (i - late) (i + 1) (omega arith))

pub GoesOn-ended : (i end : ℕ) → GoesOn i end end
GoesOn-ended i end late ready uncrossed = elim (cases_lt (i - late) end) [
  | inl inside ↦ lt-ltb ((i + 1) - late) end (omega arith) ∙ sym (lt-ltb (i - late) end inside)
  | inr past ↦ le-ltb ((i + 1) - late) end (omega arith) ∙ sym (le-ltb (i - late) end past)
]
