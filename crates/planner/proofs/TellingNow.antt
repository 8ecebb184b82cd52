-- What is known of a trace that is cut at now.
use Rattle.std.proofs.Common.{◌≡◌, ◌∙◌, ℕ, zero, suc, ◌+◌, ◌*◌, ◌<◌, ◌≤◌, inl, inr, List, [], ◌∷◌, ◌++◌, length, length-append, get_or, refl, sym, ap, subst, arith, Some, None, Bool, true, false}
use Rattle.std.proofs.lemmas.Bool.{cases_lt}
use Rattle.std.proofs.lemmas.List.{append-nil, get_or_append_left, get_or_push}
use Rattle.std.proofs.lemmas.Nat.{mul-add-lt}
use Rattle.std.proofs.Math.Nat.{mul-le-mul_right}
use Rattle.std.specs.Prelude.{IsTrue, ◌↔◌}
use Rattle.mtl_formulas.proofs.Values.{value_of-past}
use Rattle.mtl_formulas.specs.FormulaMeasures.{reach_of}
use Rattle.mtl_formulas.specs.FormulaTree.{FormulaTree}
use Rattle.mtl_formulas.specs.declared.atom.Atom.{Atom}
use Rattle.mtl_formulas.specs.declared.verdict.Verdict.{Verdict}
use Rattle.mtl_formulas.specs.declared.verdict.Verdict.TheVariants.{No, Open}
use Rattle.mtl_monitor.specs.Following.{Closes, Follows, IsEnded, IsFed, count_of, formula_at, past_of}
use Rattle.mtl_monitor.specs.Reaches.{greatest_reach}
use Rattle.mtl_formulas.specs.Traces.{Trace, value_in}
use Rattle.mtl_monitor.specs.declared.program.Program.{Program}
use Rattle.mtl_monitor.specs.declared.trace_state.TraceState.{TraceState}
use Rattle.planner.specs.Inner.Breaking.{HasPassed, IsBrokenAt, IsNewlyBrokenAt, IsRowAdded, Tells, flag_at}
use Rattle.planner.specs.declared.already.Already.{Already}
use Rattle.planner.proofs.Watching.{within_greatest}
use Rattle.plan_situations.proofs.Lifting.{no_within}

-- Row i of the flags, one flag per formula, says what is broken once i + 1 rows have passed the
-- end.
pub AreTold : List FormulaTree → Trace → ℕ → ℕ → List Bool → Type 0
AreTold formulas rows count done flags = (i rule : ℕ) → i < done → rule < count → (IsTrue (get_or flags (i * count + rule) false) ↔ IsBrokenAt rows (formula_at formulas rule) (length rows + i + 1))

past_list : (flags : List Bool) (k : ℕ) → length flags ≤ k → get_or flags k false ≡ false
past_list [] k le = refl
past_list (x ∷ flags) zero le = absurd (omega arith)
past_list (x ∷ flags) (suc k) le = past_list flags k (omega arith)

pub none_told : (formulas : List FormulaTree) (rows : Trace) (count : ℕ) (flags : List Bool) → AreTold formulas rows count 0 flags
unfolding AreTold
none_told formulas rows count flags = λ i rule lt within. absurd (omega arith)

pub row_told : (program : Program) (values : TraceState) (old new : Already) (formulas : List FormulaTree) (rows : Trace) (done : ℕ)
    → IsRowAdded program values old new → length old.flags.items ≡ done * count_of program → HasPassed program values formulas rows (length rows + done + 1)
    → AreTold formulas rows (count_of program) done old.flags.items → AreTold formulas rows (count_of program) (done + 1) new.flags.items
unfolding AreTold
row_told program values old new formulas rows done added long passed told = λ i rule lt within.
    elim (cases_lt i done) [
      | inl before ↦ (let place = mul-add-lt i (count_of program) rule done before within in
          let same = added.before (i * count_of program + rule) (omega arith) in
          subst (λ (b : Bool). IsTrue b ↔ IsBrokenAt rows (formula_at formulas rule) (length rows + i + 1)) (sym same) (told i rule before within))
      | inr here ↦ (let e : i ≡ done = omega arith in
          let at : length old.flags.items + rule ≡ i * count_of program + rule = ap (λ (n : ℕ). n + rule) (long ∙ ap (λ (n : ℕ). n * count_of program) (sym e)) in
          let told_here = added.here rule within formulas rows (length rows + done + 1) passed in
          subst (λ (n : ℕ). IsTrue (get_or new.flags.items (i * count_of program + rule) false) ↔ IsBrokenAt rows (formula_at formulas rule) (length rows + n + 1)) (sym e)
          (subst (λ (k : ℕ). IsTrue (get_or new.flags.items k false) ↔ IsBrokenAt rows (formula_at formulas rule) (length rows + done + 1)) at told_here))
    ]

pub all_told : (formulas : List FormulaTree) (rows : Trace) (already : Already) (done : ℕ) → already.rules ≡ length formulas → length already.flags.items ≡ done * length formulas
    → greatest_reach formulas ≤ done → AreTold formulas rows (length formulas) done already.flags.items → Tells formulas rows already
unfolding AreTold
all_told formulas rows already done width long reach told = record {
  width = width;
  each = λ index rule position within at.
      let f = formula_at formulas rule in
      let less = within_greatest formulas rule within in
      let spelled : flag_at already index rule ≡ get_or already.flags.items (index * length formulas + rule) false =
      ap (λ (n : ℕ). get_or already.flags.items (index * n + rule) false) width in
      subst (λ (b : Bool). IsTrue b ↔ (value_in rows f position ≡ No)) (sym spelled)
      (elim (cases_lt index done) [
        | inl lt ↦ (let told_here = told index rule lt within in (
          λ holds. let h = told_here.0 holds in let decided = h.decided in let same : h.position ≡ position = omega arith in
              subst (λ (i : ℕ). value_in rows f i ≡ No) same h.broken,
          λ is_no. told_here.1 (record { position = position; decided = omega arith; broken = is_no }),
        ))
        | inr ge ↦ (let far = mul-le-mul_right (length formulas) ge in
            let fails_so : get_or already.flags.items (index * length formulas + rule) false ≡ false = past_list already.flags.items (index * length formulas + rule) (omega arith) in
            let is_open : value_in rows f position ≡ Open = value_of-past (λ (row : Atom → Verdict). row) rows f position (omega arith) in (
              λ holds. cc,
              λ is_no. cc,
            ))
      ]);
}

-- ---- what a state answers

module _ (program : Program) (values : TraceState) (rule : ℕ) (formulas : List FormulaTree) (rows : Trace) (passed : ℕ) (has : HasPassed program values formulas rows passed) where
  -- An answer counts if it is No.
  pub told_some : (answer : ℕ × Verdict) → ((formulas : List FormulaTree) (rows : Trace) → Follows program values formulas rows → IsFed (Some answer) (formula_at formulas rule) rows)
      → ((formulas : List FormulaTree) (rows : Trace) → Closes program values formulas rows → IsEnded (Some answer) (formula_at formulas rule) rows (past_of values))
      → (answer.1 ≡ No → IsBrokenAt rows (formula_at formulas rule) passed) × (IsBrokenAt rows (formula_at formulas rule) passed → answer.1 ≡ No)
  told_some answer fed ended = by has
    where
      both : answer.0 + 1 + reach_of (formula_at formulas rule) ≡ passed → answer.1 ≡ value_in rows (formula_at formulas rule) answer.0
          → (answer.1 ≡ No → IsBrokenAt rows (formula_at formulas rule) passed) × (IsBrokenAt rows (formula_at formulas rule) passed → answer.1 ≡ No)
      both at is = (
        λ is_no. record { position = answer.0; decided = at; broken = sym is ∙ is_no },
        λ h. let decided = h.decided in let same : h.position ≡ answer.0 = omega arith in is ∙ subst (λ (i : ℕ). value_in rows (formula_at formulas rule) i ≡ No) same h.broken,
      )

      by : HasPassed program values formulas rows passed → (answer.1 ≡ No → IsBrokenAt rows (formula_at formulas rule) passed) × (IsBrokenAt rows (formula_at formulas rule) passed → answer.1 ≡ No)
      by (inl (follows, e)) = let h = fed formulas rows follows in
          let value : answer.1 ≡ value_in rows (formula_at formulas rule) answer.0 = h.1 [] ∙ ap (λ (r : Trace). value_in r (formula_at formulas rule) answer.0) (append-nil rows) in
          both (h.0 ∙ sym e) value
      by (inr (closes, e)) = let h = ended formulas rows closes in both (h.0 ∙ sym e) h.2

  pub told_none : ((formulas : List FormulaTree) (rows : Trace) → Follows program values formulas rows → IsFed None (formula_at formulas rule) rows)
      → ((formulas : List FormulaTree) (rows : Trace) → Closes program values formulas rows → IsEnded None (formula_at formulas rule) rows (past_of values))
      → ¬ IsBrokenAt rows (formula_at formulas rule) passed
  told_none fed ended h = by has
    where
      by : HasPassed program values formulas rows passed → ⊥
      by (inl (follows, e)) = let short = fed formulas rows follows in let decided = h.decided in absurd (omega arith)
      by (inr (closes, e)) = let decided = h.decided in let there = no_within rows (formula_at formulas rule) h.position h.broken in
          elim (ended formulas rows closes) [
            | inl short ↦ absurd (omega arith)
            | inr far ↦ absurd (omega arith)
          ]

-- ---- beyond the end

pub closes_next : {A B C : Type 0} (n : ℕ) → (n ≡ 0 → A) → (0 < n → B) → (A → C) → (B → C) → C
closes_next zero first later begins goes_on = begins (first refl)
closes_next (suc n) first later begins goes_on = goes_on (later (omega arith))

pub next_row : (n count old new : ℕ) → new ≡ old + count → old ≡ n * count → new ≡ (n + 1) * count
next_row n count old new e h = omega arith

-- ---- flags, one after the other

pub flag_before : (flags new : List Bool) (b : Bool) (k : ℕ) → new ≡ flags ++ b ∷ [] → k < length flags → get_or new k false ≡ get_or flags k false
flag_before flags new b k e lt = ap (λ (xs : List Bool). get_or xs k false) e ∙ get_or_append_left flags (b ∷ []) false k lt

flag_last : (flags new : List Bool) (b : Bool) (k : ℕ) → new ≡ flags ++ b ∷ [] → length flags ≡ k → get_or new k false ≡ b
flag_last flags new b k e at = ap (λ (xs : List Bool). get_or xs k false) e ∙ get_or_push flags b false k at

pub longer_by_one : (flags new : List Bool) (b : Bool) (old rule : ℕ) → new ≡ flags ++ b ∷ [] → length flags ≡ old + rule → length new ≡ old + (rule + 1)
longer_by_one flags new b old rule e h = omega (arith, ap length e, length-append flags (b ∷ []))

pub flags_here : (program : Program) (values : TraceState) (flags new : List Bool) (b : Bool) (old rule : ℕ) → new ≡ flags ++ b ∷ [] → length flags ≡ old + rule
    → ((r : ℕ) → r < rule → (formulas : List FormulaTree) (rows : Trace) (passed : ℕ) → HasPassed program values formulas rows passed
    → (IsTrue (get_or flags (old + r) false) ↔ IsBrokenAt rows (formula_at formulas r) passed))
    → ((formulas : List FormulaTree) (rows : Trace) (passed : ℕ) → HasPassed program values formulas rows passed → (IsTrue b ↔ IsBrokenAt rows (formula_at formulas rule) passed))
    → (r : ℕ) → r < rule + 1 → (formulas : List FormulaTree) (rows : Trace) (passed : ℕ) → HasPassed program values formulas rows passed
    → (IsTrue (get_or new (old + r) false) ↔ IsBrokenAt rows (formula_at formulas r) passed)
flags_here program values flags new b old rule e long before here r lt formulas rows passed has = elim (cases_lt r rule) [
  | inl earlier ↦ subst (λ (x : Bool). IsTrue x ↔ IsBrokenAt rows (formula_at formulas r) passed) (sym (flag_before flags new b (old + r) e (omega arith))) (before r earlier formulas rows passed has)
  | inr last ↦ (let same : rule ≡ r = omega arith in
      subst (λ (x : Bool). IsTrue x ↔ IsBrokenAt rows (formula_at formulas r) passed) (sym (flag_last flags new b (old + r) e (omega arith)))
      (subst (λ (i : ℕ). IsTrue b ↔ IsBrokenAt rows (formula_at formulas i) passed) same (here formulas rows passed has)))
]

-- ---- what is newly broken

module _ (program : Program) (values : TraceState) (formulas : List FormulaTree) (cut rows : Trace) (passed : ℕ) (already : Already) (index : ℕ)
    (has : HasPassed program values formulas rows passed) (tells : Tells formulas cut already) (at : passed ≡ length cut + index + 1) where
  as_many : count_of program ≡ length formulas
  as_many = by has
    where
      by : HasPassed program values formulas rows passed → count_of program ≡ length formulas
      by (inl (follows, e)) = follows.of.count
      by (inr (closes, e)) = closes.of.count

  pub newly : (rule : ℕ) → rule < count_of program → IsBrokenAt rows (formula_at formulas rule) passed → flag_at already index rule ≡ false → IsNewlyBrokenAt formulas cut rows passed
  newly rule lt broken flag =
      let decided = broken.decided in
      let many = as_many in
      record {
        rule = rule;
        known = omega arith;
        at = broken;
        not_before = λ was. let told = (tells.each index rule broken.position (omega arith) (omega arith)).1 was in cc;
      }

  pub none_newly : (n : ℕ) → count_of program ≤ n → ((r : ℕ) → r < n → IsBrokenAt rows (formula_at formulas r) passed → flag_at already index r ≡ false → ⊥) → ¬ IsNewlyBrokenAt formulas cut rows passed
  none_newly n le none h =
      let decided = h.at.decided in
      let known = h.known in
      let many = as_many in
      let told = tells.each index h.rule h.at.position known (omega arith) in
      by (flag_at already index h.rule) refl told
    where
      by : (b : Bool) → flag_at already index h.rule ≡ b → (IsTrue (flag_at already index h.rule) ↔ (value_in cut (formula_at formulas h.rule) h.at.position ≡ No)) → ⊥
      by true e told = h.not_before (told.0 e)
      by false e told = let known = h.known in let many = as_many in none h.rule (omega arith) h.at e

pub none_newly_so_far : (formulas : List FormulaTree) (rows : Trace) (passed : ℕ) (already : Already) (index n : ℕ)
    → ((r : ℕ) → r < n → IsBrokenAt rows (formula_at formulas r) passed → flag_at already index r ≡ false → ⊥)
    → (IsBrokenAt rows (formula_at formulas n) passed → flag_at already index n ≡ false → ⊥)
    → (r : ℕ) → r < n + 1 → IsBrokenAt rows (formula_at formulas r) passed → flag_at already index r ≡ false → ⊥
none_newly_so_far formulas rows passed already index n before here r lt b f = elim (cases_lt r n) [
  | inl earlier ↦ before r earlier b f
  | inr last ↦ (let e : r ≡ n = omega arith in here (subst (λ (i : ℕ). IsBrokenAt rows (formula_at formulas i) passed) e b) (subst (λ (i : ℕ). flag_at already index i ≡ false) e f))
]
