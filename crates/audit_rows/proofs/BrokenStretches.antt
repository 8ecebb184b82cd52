-- How many stretches of broken marks there are with one mark more.
use Rattle.std.proofs.Common.{◌≡◌, ℕ, zero, suc, ◌+◌, ◌≤◌, Bool, true, false, cond, List, [], ◌∷◌, ◌++◌, length, refl, sym, ap, ◌∙◌, arith}
use Rattle.std.specs.Prelude.{◌&&◌, not}
use Rattle.std.specs.List.{filter, range_with_len}
use Rattle.audit_rows.specs.declared.mark.Mark.{Mark}
use Rattle.audit_rows.specs.MarkCounts.{broken_stretches, ends_broken, is_broken}
use Rattle.audit_rows.specs.Stretches.{mark_at}

-- ---- the same by recursion

abbrev runs : List Mark → ℕ
runs [] = 0
runs (m ∷ ms) = cond (is_broken m && not (is_broken (mark_at ms 0))) 1 0 + runs ms

one_end : {X : Type 0} (b c : Bool) (x : X) (xs : List X) (n : ℕ) → b ≡ c → length xs ≡ n → length (cond b (x ∷ xs) xs) ≡ cond c 1 0 + n
one_end true true x xs n e h = omega arith
one_end false false x xs n e h = omega arith
one_end true false x xs n e h = absurd (cc)
one_end false true x xs n e h = absurd (cc)

runs_from : (marks all : List Mark) (a : ℕ) → ((i : ℕ) → mark_at all (a + i) ≡ mark_at marks i) → length (filter (ends_broken all) (range_with_len a (length marks))) ≡ runs marks
runs_from [] all a same = refl
runs_from (m ∷ ms) all a same =
    let here : a ≡ a + 0 = omega arith in
    let first : mark_at all a ≡ m = ap (mark_at all) here ∙ same 0 in
    let next : mark_at all (a + 1) ≡ mark_at ms 0 = same 1 in
    one_end (ends_broken all a) (is_broken m && not (is_broken (mark_at ms 0))) a (filter (ends_broken all) (range_with_len (a + 1) (length ms))) (runs ms)
    (ap (λ (z : Mark). is_broken z && not (is_broken (mark_at all (a + 1)))) first ∙ ap (λ (z : Mark). is_broken m && not (is_broken z)) next)
    (runs_from ms all (a + 1) (λ i. let there : (a + 1) + i ≡ a + suc i = omega arith in ap (mark_at all) there ∙ same (suc i)))

are_runs : (marks : List Mark) → broken_stretches marks ≡ runs marks
are_runs marks = runs_from marks marks 0 (λ i. let same : 0 + i ≡ i = omega arith in ap (mark_at marks) same)

-- ---- one mark more

both_ends : (a b : Bool) → cond (a && not b) 1 0 + (cond b 1 0 + 0) ≡ (cond a 1 0 + 0) + cond (b && not a) 1 0
both_ends true true = refl
both_ends true false = refl
both_ends false true = refl
both_ends false false = refl

alone : (b : Bool) → (b && true) ≡ b
alone true = refl
alone false = refl

one_run : (m : Mark) → runs (m ∷ []) ≡ cond (is_broken m) 1 0 + 0
one_run m = ap (λ (b : Bool). cond b 1 0 + 0) (alone (is_broken m))

runs_more : (marks : List Mark) (m : Mark) (n : ℕ) → n + 1 ≡ length marks → runs (marks ++ m ∷ []) ≡ runs marks + cond (is_broken m && not (is_broken (mark_at marks n))) 1 0
runs_more [] m n e = absurd (omega arith)
runs_more (x ∷ []) m zero e = ap (λ (n : ℕ). cond (is_broken x && not (is_broken m)) 1 0 + n) (one_run m) ∙ (both_ends (is_broken x) (is_broken m) ∙ ap (λ (n : ℕ). n + cond (is_broken m && not (is_broken x)) 1 0) (sym (one_run x)))
runs_more (x ∷ []) m (suc n) e = absurd (omega arith)
runs_more (x ∷ y ∷ ys) m zero e = absurd (omega arith)
runs_more (x ∷ y ∷ ys) m (suc n) e = let rest = runs_more (y ∷ ys) m n (omega arith) in omega arith

-- the first mark
pub stretches_first : (m : Mark) → broken_stretches (m ∷ []) ≡ broken_stretches [] + cond (is_broken m) 1 0
stretches_first m = are_runs (m ∷ []) ∙ (one_run m ∙ omega arith)

-- a mark after one that is broken as it is, or neither is
pub stretches_same : (marks : List Mark) (m : Mark) (n : ℕ) → n + 1 ≡ length marks → is_broken (mark_at marks n) ≡ is_broken m → broken_stretches (marks ++ m ∷ []) ≡ broken_stretches marks
stretches_same marks m n e same =
    let none : cond {A = ℕ} (is_broken m && not (is_broken (mark_at marks n))) 1 0 ≡ 0 = ap (λ (b : Bool). cond (is_broken m && not b) 1 0) same ∙ never (is_broken m) in
    omega (arith, runs_more marks m n e, are_runs marks, are_runs (marks ++ m ∷ []))
  where
    never : (b : Bool) → cond {A = ℕ} (b && not b) 1 0 ≡ 0
    never true = refl
    never false = refl

-- a mark that is not broken if the last one is
pub stretches_more : (marks : List Mark) (m : Mark) (n : ℕ) → n + 1 ≡ length marks → (is_broken m ≡ true → is_broken (mark_at marks n) ≡ false)
    → broken_stretches (marks ++ m ∷ []) ≡ broken_stretches marks + cond (is_broken m) 1 0
stretches_more marks m n e other =
    let one : cond {A = ℕ} (is_broken m && not (is_broken (mark_at marks n))) 1 0 ≡ cond (is_broken m) 1 0 = by (is_broken m) (is_broken (mark_at marks n)) other in
    omega (arith, runs_more marks m n e, are_runs marks, are_runs (marks ++ m ∷ []))
  where
    by : (b c : Bool) → (b ≡ true → c ≡ false) → cond {A = ℕ} (b && not c) 1 0 ≡ cond b 1 0
    by true true h = let e = h refl in absurd (cc)
    by true false h = refl
    by false c h = refl

-- ---- no more than marks

few_runs : (marks : List Mark) → runs marks ≤ length marks
few_runs [] = omega arith
few_runs (m ∷ ms) = let rest = few_runs ms in let most = one_at_most (is_broken m && not (is_broken (mark_at ms 0))) in omega arith
  where
    one_at_most : (b : Bool) → cond {A = ℕ} b 1 0 ≤ 1
    one_at_most true = omega arith
    one_at_most false = omega arith

pub few_stretches : (marks : List Mark) → broken_stretches marks ≤ length marks
few_stretches marks = omega (arith, are_runs marks, few_runs marks)
