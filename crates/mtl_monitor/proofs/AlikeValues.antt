-- Over traces that differ in distances and bearings alone, where the vessels are apart, an idle formula has the same values.
use Rattle.std.proofs.Common.{◌≡◌, ℕ, zero, suc, [], ◌∷◌, ◌++◌, length, refl, ap, ap₂, sym, ◌∙◌, inl, inr, subst, Option, Some, None, Bool, true, false, not}
use Rattle.std.specs.Prelude.{◌⊎◌, slice_get, nat_lt, is_none, ◌&&◌, if◌then◌else◌}
use Rattle.std.proofs.lemmas.Bool.{and_parts, true≢false}
use Rattle.mtl_formulas.specs.declared.atom.Atom.{Atom}
use Rattle.mtl_formulas.specs.declared.glance.Glance.TheVariants.{Apart}
use Rattle.mtl_formulas.specs.declared.verdict.Verdict.{Verdict}
use Rattle.mtl_formulas.specs.declared.verdict.Verdict.TheVariants.{Open}
use Rattle.mtl_formulas.specs.declared.formula.PairKind.{PairKind}
use Rattle.mtl_formulas.specs.VerdictOrder.{turned_round}
use Rattle.mtl_formulas.specs.FormulaTree.{FormulaTree, leaf, negation, pair, span, link}
use Rattle.mtl_formulas.specs.FormulaValue.{answer_at, pair_value, span_value, link_value}
use Rattle.mtl_formulas.specs.Glances.{apart_answer, IsTold}
use Rattle.mtl_formulas.specs.Traces.{Trace, value_in}
use Rattle.mtl_monitor.specs.Inner.Idle.{AreAlikeTraces, apart_value, is_idle, known_pair}
use Rattle.mtl_monitor.proofs.ApartValues.{Is, apart_value-is}

pub alike-same : (idle : Bool) (rows : Trace) → AreAlikeTraces idle rows rows
alike-same idle [] = tt
alike-same idle (row ∷ rows) = (inl refl, alike-same idle rows)

pub alike-append : (idle : Bool) (rows others more further : Trace) → AreAlikeTraces idle rows others → AreAlikeTraces idle more further
    → AreAlikeTraces idle (rows ++ more) (others ++ further)
alike-append idle [] [] more further h k = k
alike-append idle (row ∷ rows) (other ∷ others) more further h k = (h.0, alike-append idle rows others more further h.1 k)
alike-append idle [] (other ∷ others) more further h k = absurd h
alike-append idle (row ∷ rows) [] more further h k = absurd h

pub alike-length : (idle : Bool) (rows others : Trace) → AreAlikeTraces idle rows others → length rows ≡ length others
alike-length idle [] [] h = refl
alike-length idle (row ∷ rows) (other ∷ others) h = ap suc (alike-length idle rows others h.1)
alike-length idle [] (other ∷ others) h = absurd h
alike-length idle (row ∷ rows) [] h = absurd h

-- Where the program is not idle, alike traces are one.
alike-equal : (rows others : Trace) → AreAlikeTraces false rows others → rows ≡ others
alike-equal [] [] h = refl
alike-equal (row ∷ rows) (other ∷ others) h = elim h.0 [
  | inl same ↦ ap₂ (λ (r : Atom → Verdict) (rs : Trace). r ∷ rs) same (alike-equal rows others h.1)
  | inr apart ↦ absurd (true≢false (sym apart.0))
]
alike-equal [] (other ∷ others) h = absurd h
alike-equal (row ∷ rows) [] h = absurd h

abbrev plain : (Atom → Verdict) → Atom → Verdict
plain row = row

-- Both traces answer the same at a position, or neither has a row there.
abbrev AnswerSame : Trace → Trace → ℕ → Type 0
AnswerSame rows others i = (a : Atom) → answer_at plain rows a (slice_get rows i) ≡ answer_at plain others a (slice_get others i)

-- The vessels are apart at a position of both.
record ApartAt (rows others : Trace) (i : ℕ) : Type 0 where
  row : Atom → Verdict
  other : Atom → Verdict
  row_at : slice_get rows i ≡ Some row
  other_at : slice_get others i ≡ Some other
  row_told : IsTold Apart row
  other_told : IsTold Apart other

alike-at : (rows others : Trace) → AreAlikeTraces true rows others → (i : ℕ) → AnswerSame rows others i ⊎ ApartAt rows others i
alike-at [] [] h i = inl (λ a. refl)
alike-at (row ∷ rows) (other ∷ others) h zero = elim h.0 [
  | inl same ↦ inl (λ a. ap (λ (r : Atom → Verdict). r a) same)
  | inr apart ↦ inr (record { row = row; other = other; row_at = refl; other_at = refl; row_told = apart.1; other_told = apart.2 })
]
alike-at (row ∷ rows) (other ∷ others) h (suc i) = elim (alike-at rows others h.1 i) [
  | inl same ↦ inl same
  | inr at ↦ inr (record { row = at.row; other = at.other; row_at = at.row_at; other_at = at.other_at; row_told = at.row_told; other_told = at.other_told })
]
alike-at [] (other ∷ others) h i = absurd h
alike-at (row ∷ rows) [] h i = absurd h

-- Two values are the same where the same is known of both.
known-same : (k : Option Verdict) (v w : Verdict) → is_none k ≡ false → Is k v → Is k w → v ≡ w
known-same None v w some g h = cc
known-same (Some x) v w some g h = g ∙ sym h

and_true : (b : Bool) → (b && true) ≡ b
and_true false = refl
and_true true = refl

and_false : (b : Bool) → (b && false) ≡ false
and_false false = refl
and_false true = refl

module _ (rows others : Trace) (alike : AreAlikeTraces true rows others) where
  -- A formula whose value is known where the vessels are apart has the same values where it has them where they are not.
  known-value : (t : FormulaTree) (i : ℕ) → is_none (apart_value t) ≡ false
      → (AnswerSame rows others i → value_in rows t i ≡ value_in others t i) → value_in rows t i ≡ value_in others t i
  known-value t i known same = elim (alike-at rows others alike i) [
    | inl told ↦ same told
    | inr at ↦
        known-same (apart_value t) _ _ known (apart_value-is rows i at.row at.row_at at.row_told t) (apart_value-is others i at.other at.other_at at.other_told t)
  ]

  -- An atom is not asked where they are apart, or a glance there shows its answer.
  leaf-same : (apart : Bool) (a : Atom) → not (apart && is_none (apart_answer a)) ≡ true → (i : ℕ) → (apart ≡ false → AnswerSame rows others i)
      → value_in rows (leaf a) i ≡ value_in others (leaf a) i
  leaf-same false a idle i same = same refl a
  leaf-same true a idle i same = known-value (leaf a) i (told (is_none (apart_answer a)) idle) (λ answers. answers a)
    where
      told : (b : Bool) → not b ≡ true → b ≡ false
      told false h = refl
      told true h = cc

  -- Where the operator's value is known, its operands are asked where the vessels are not apart alone.
  pair-same : (kind : PairKind) (s t : FormulaTree) (apart : Bool) → is_idle apart (pair kind s t) ≡ true
      → (i : ℕ) → (apart ≡ false → AnswerSame rows others i)
      → ((here : Bool) → is_idle here s ≡ true → (here ≡ false → AnswerSame rows others i) → value_in rows s i ≡ value_in others s i)
      → ((here : Bool) → is_idle here t ≡ true → (here ≡ false → AnswerSame rows others i) → value_in rows t i ≡ value_in others t i)
      → value_in rows (pair kind s t) i ≡ value_in others (pair kind s t) i
  pair-same kind s t apart idle i same first second = by_known (is_none (known_pair kind (apart_value s) (apart_value t))) refl
    where
      asked : (here : Bool) → (apart && is_none (known_pair kind (apart_value s) (apart_value t))) ≡ here → (here ≡ false → AnswerSame rows others i)
          → pair_value kind (value_in rows s i) (value_in rows t i) ≡ pair_value kind (value_in others s i) (value_in others t i)
      asked here is told =
          let both : (is_idle here s && is_idle here t) ≡ true =
          subst (λ (b : Bool). (is_idle b s && is_idle b t) ≡ true) is idle in
          let parts = and_parts (is_idle here s) (is_idle here t) both in
          ap₂ (pair_value kind) (first here parts.0 told) (second here parts.1 told)

      by_known : (none : Bool) → is_none (known_pair kind (apart_value s) (apart_value t)) ≡ none
          → pair_value kind (value_in rows s i) (value_in rows t i) ≡ pair_value kind (value_in others s i) (value_in others t i)
      by_known true is = asked apart (ap (λ b. apart && b) is ∙ and_true apart) same
      by_known false is =
          known-value (pair kind s t) i is (λ told. asked false (ap (λ b. apart && b) is ∙ and_false apart) (λ no. told))

  value-same : (t : FormulaTree) (apart : Bool) → is_idle apart t ≡ true → (i : ℕ) → (apart ≡ false → AnswerSame rows others i)
      → value_in rows t i ≡ value_in others t i
  value-same (leaf a) apart idle i same = leaf-same apart a idle i same
  value-same (negation t) apart idle i same = ap turned_round (value-same t apart idle i same)
  value-same (pair kind s t) apart idle i same =
      pair-same kind s t apart idle i same (λ here h told. value-same s here h i told) (λ here h told. value-same t here h i told)
  value-same (span kind l u t) apart idle i same =
      let operand : value_in rows t ≡ value_in others t = λ j k. value-same t true idle k (λ no. absurd (cc)) j in
      ap₂ (λ b v. if b then v else Open) (ap (nat_lt i) (alike-length true rows others alike)) (ap (λ f. span_value kind l u f i) operand)
  value-same (link kind l u s t) apart idle i same =
      let parts = and_parts (is_idle true s) (is_idle true t) idle in
      let first : value_in rows s ≡ value_in others s = λ j k. value-same s true parts.0 k (λ no. absurd (cc)) j in
      let second : value_in rows t ≡ value_in others t = λ j k. value-same t true parts.1 k (λ no. absurd (cc)) j in
      ap₂ (λ b v. if b then v else Open) (ap (nat_lt i) (alike-length true rows others alike)) (ap₂ (λ f g. link_value kind l u f g i) first second)

-- Over alike traces of a program, each of its formulas has the same values.
pub alike-value : (idle : Bool) (rows others : Trace) → AreAlikeTraces idle rows others → (t : FormulaTree) → (idle ≡ true → is_idle true t ≡ true)
    → (i : ℕ) → value_in rows t i ≡ value_in others t i
alike-value true rows others alike t is i = value-same rows others alike t true (is refl) i (λ no. absurd (cc))
alike-value false rows others alike t is i = ap (λ (r : Trace). value_in r t i) (alike-equal rows others alike)

-- The same, whatever rows follow.
pub alike-value-on : (idle : Bool) (rows others more : Trace) → AreAlikeTraces idle rows others → (t : FormulaTree) → (idle ≡ true → is_idle true t ≡ true)
    → (i : ℕ) → value_in (rows ++ more) t i ≡ value_in (others ++ more) t i
alike-value-on idle rows others more alike t is i =
    alike-value idle (rows ++ more) (others ++ more) (alike-append idle rows others more more alike (alike-same idle more)) t is i
