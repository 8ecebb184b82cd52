-- A value that is Yes or No over a trace is the same over every longer trace that begins with it.
use Rattle.std.proofs.Common.{◌≡◌, ◌≢◌, ℕ, zero, suc, ◌+◌, ◌-◌, List, [], ◌∷◌, ◌++◌, length, refl, ap, arith, length-append, true, false, Bool}
use Rattle.std.specs.Prelude.{slice_get, nat_lt}
use Rattle.std.proofs.lemmas.Bool.Decides.{nat_tests}
use Rattle.mtl_formulas.specs.declared.atom.Atom.{Atom}
use Rattle.mtl_formulas.specs.declared.verdict.Verdict.{Verdict}
use Rattle.mtl_formulas.specs.declared.verdict.Verdict.TheVariants.{No, Open, Yes}
use Rattle.mtl_formulas.specs.declared.formula.PairKind.{PairKind}
use Rattle.mtl_formulas.specs.declared.formula.PairKind.TheVariants.{And, Or, Implies}
use Rattle.mtl_formulas.specs.declared.formula.SpanKind.{SpanKind}
use Rattle.mtl_formulas.specs.declared.formula.SpanKind.TheVariants.{F, G, O, H}
use Rattle.mtl_formulas.specs.declared.formula.LinkKind.{LinkKind}
use Rattle.mtl_formulas.specs.declared.formula.LinkKind.TheVariants.{U, S}
use Rattle.mtl_formulas.specs.VerdictOrder.{turned_round, least, greatest}
use Rattle.mtl_formulas.specs.FormulaTree.{FormulaTree, leaf, negation, pair, span, link}
use Rattle.mtl_formulas.specs.FormulaValue.{value_of, answer_at, before_end, greatest_over, least_over, pair_value, span_value, link_value, past_start, past_count, ahead_count}

-- A value that is decided stays.
abbrev pub Stays : Verdict → Verdict → Type 0
Stays No w = w ≡ No
Stays Open w = Unit {0}
Stays Yes w = w ≡ Yes

pub decided-Stays : (v w : Verdict) → Stays v w → v ≢ Open → w ≡ v
decided-Stays No w stays decided = stays
decided-Stays Open w stays decided = absurd (decided refl)
decided-Stays Yes w stays decided = stays

Stays-same : (v : Verdict) → Stays v v
Stays-same No = refl
Stays-same Open = tt
Stays-same Yes = refl

Stays-turned : (v w : Verdict) → Stays v w → Stays (turned_round v) (turned_round w)
Stays-turned No w h = ap turned_round h
Stays-turned Open w h = tt
Stays-turned Yes w h = ap turned_round h

Stays-least : (v w x y : Verdict) → Stays v w → Stays x y → Stays (least v x) (least w y)
Stays-least No w x y h k = rw h
Stays-least Yes w Yes y h k = rw (h, k)
Stays-least Yes w No y h k = rw (h, k)
Stays-least Yes w Open y h k = tt
Stays-least Open w Yes y h k = tt
Stays-least Open Yes No y h k = rw k
Stays-least Open No No y h k = refl
Stays-least Open Open No y h k = rw k
Stays-least Open w Open y h k = tt

Stays-greatest : (v w x y : Verdict) → Stays v w → Stays x y → Stays (greatest v x) (greatest w y)
Stays-greatest Yes w x y h k = rw h
Stays-greatest No w Yes y h k = rw (h, k)
Stays-greatest No w No y h k = rw (h, k)
Stays-greatest No w Open y h k = tt
Stays-greatest Open w No y h k = tt
Stays-greatest Open Yes Yes y h k = refl
Stays-greatest Open No Yes y h k = rw k
Stays-greatest Open Open Yes y h k = rw k
Stays-greatest Open w Open y h k = tt

Stays-greatest_over : (f g : ℕ → Verdict) → ((k : ℕ) → Stays (f k) (g k)) → (start count : ℕ) → Stays (greatest_over f start count) (greatest_over g start count)
Stays-greatest_over f g stays start zero = refl
Stays-greatest_over f g stays start (suc count) =
    Stays-greatest (f start) (g start) (greatest_over f (start + 1) count) (greatest_over g (start + 1) count) (stays start) (Stays-greatest_over f g stays (start + 1) count)

Stays-least_over : (f g : ℕ → Verdict) → ((k : ℕ) → Stays (f k) (g k)) → (start count : ℕ) → Stays (least_over f start count) (least_over g start count)
Stays-least_over f g stays start zero = refl
Stays-least_over f g stays start (suc count) =
    Stays-least (f start) (g start) (least_over f (start + 1) count) (least_over g (start + 1) count) (stays start) (Stays-least_over f g stays (start + 1) count)

Stays-pair : (kind : PairKind) (v w x y : Verdict) → Stays v w → Stays x y → Stays (pair_value kind v x) (pair_value kind w y)
Stays-pair And v w x y h k = Stays-least v w x y h k
Stays-pair Or v w x y h k = Stays-greatest v w x y h k
Stays-pair Implies v w x y h k = Stays-greatest (turned_round v) (turned_round w) x y (Stays-turned v w h) k

Stays-span : (kind : SpanKind) (l u : ℕ) (f g : ℕ → Verdict) → ((k : ℕ) → Stays (f k) (g k)) → (i : ℕ) → Stays (span_value kind l u f i) (span_value kind l u g i)
Stays-span F l u f g stays i = Stays-greatest_over f g stays (i + l) (ahead_count l u)
Stays-span G l u f g stays i = Stays-least_over f g stays (i + l) (ahead_count l u)
Stays-span O l u f g stays i = Stays-greatest_over f g stays (past_start i u) (past_count i l u)
Stays-span H l u f g stays i = Stays-least_over f g stays (past_start i u) (past_count i l u)

Stays-link : (kind : LinkKind) (l u : ℕ) (f g p q : ℕ → Verdict) → ((k : ℕ) → Stays (f k) (g k)) → ((k : ℕ) → Stays (p k) (q k)) → (i : ℕ)
    → Stays (link_value kind l u f p i) (link_value kind l u g q i)
Stays-link U l u f g p q a_stays b_stays i =
    Stays-greatest_over _ _ (λ k. Stays-least (p k) (q k) _ _ (b_stays k) (Stays-least_over f g a_stays i (k - i))) (i + l) (ahead_count l u)
Stays-link S l u f g p q a_stays b_stays i =
    Stays-greatest_over _ _ (λ k. Stays-least (p k) (q k) _ _ (b_stays k) (Stays-least_over f g a_stays (k + 1) (i - k))) (past_start i u) (past_count i l u)

module _ {A : Type 0} (answer : A → Atom → Verdict) where
  Stays-answer : (a : Atom) (rows more : List A) (i : ℕ) → Stays (answer_at answer rows a (slice_get rows i)) (answer_at answer (rows ++ more) a (slice_get (rows ++ more) i))
  Stays-answer a [] more i = tt
  Stays-answer a (row ∷ rows) more zero = Stays-same _
  Stays-answer a (row ∷ rows) more (suc i) = Stays-answer a rows more i

  -- within the shorter trace an operator's value is that of its operands, over the longer one too
  Stays-before_end : (rows more : List A) (i : ℕ) (v w : Verdict) → Stays v w → Stays (before_end answer rows i v) (before_end answer (rows ++ more) i w)
  Stays-before_end rows more i v w stays = within (nat_lt i (length rows)) refl
    where
      within : (b : Bool) → nat_lt i (length rows) ≡ b → Stays (before_end answer rows i v) (before_end answer (rows ++ more) i w)
      within false past = rw past tt
      within true inside =
          let longer : nat_lt i (length (rows ++ more)) ≡ true = rw (length-append rows more) (grind (arith, nat_tests)) in
          rw (inside, longer) stays

  pub Stays-value : (rows more : List A) (t : FormulaTree) (i : ℕ) → Stays (value_of answer rows t i) (value_of answer (rows ++ more) t i)
  Stays-value rows more (leaf a) i = Stays-answer a rows more i
  Stays-value rows more (negation t) i = Stays-turned _ _ (Stays-value rows more t i)
  Stays-value rows more (pair kind s t) i = Stays-pair kind _ _ _ _ (Stays-value rows more s i) (Stays-value rows more t i)
  Stays-value rows more (span kind l u t) i =
      Stays-before_end rows more i _ _ (Stays-span kind l u _ _ (Stays-value rows more t) i)
  Stays-value rows more (link kind l u s t) i =
      Stays-before_end rows more i _ _ (Stays-link kind l u _ _ _ _ (Stays-value rows more s) (Stays-value rows more t) i)
