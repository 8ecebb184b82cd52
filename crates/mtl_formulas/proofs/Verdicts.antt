-- The least and the greatest of values, and over several positions.
use Rattle.std.proofs.Common.{◌≡◌, ℕ, zero, suc, ◌+◌, ◌-◌, ◌<◌, ◌≤◌, min, inl, inr, refl, ap, ap₂, sym, ◌∙◌, arith}
use Rattle.std.proofs.lemmas.Bool.{cases_lt}
use Rattle.mtl_formulas.specs.declared.verdict.Verdict.{Verdict}
use Rattle.mtl_formulas.specs.declared.verdict.Verdict.TheVariants.{No, Open, Yes}
use Rattle.mtl_formulas.specs.VerdictOrder.{least, greatest}
use Rattle.mtl_formulas.specs.FormulaValue.{greatest_over, least_over, past_start, past_count}

pub greatest_no : (v : Verdict) → greatest v No ≡ v
greatest_no No = refl
greatest_no Open = refl
greatest_no Yes = refl

pub least_yes : (v : Verdict) → least v Yes ≡ v
least_yes No = refl
least_yes Open = refl
least_yes Yes = refl

pub greatest_assoc : (u v w : Verdict) → greatest (greatest u v) w ≡ greatest u (greatest v w)
greatest_assoc No v w = refl
greatest_assoc Yes v w = refl
greatest_assoc Open No w = refl
greatest_assoc Open Yes w = refl
greatest_assoc Open Open No = refl
greatest_assoc Open Open Open = refl
greatest_assoc Open Open Yes = refl

pub least_assoc : (u v w : Verdict) → least (least u v) w ≡ least u (least v w)
least_assoc No v w = refl
least_assoc Yes v w = refl
least_assoc Open No w = refl
least_assoc Open Yes w = refl
least_assoc Open Open No = refl
least_assoc Open Open Open = refl
least_assoc Open Open Yes = refl

-- one more position at the end
pub greatest_over-suc : (f : ℕ → Verdict) (start count : ℕ) → greatest_over f start (suc count) ≡ greatest (greatest_over f start count) (f (start + count))
greatest_over-suc f start zero = greatest_no (f start) ∙ ap f (omega arith)
greatest_over-suc f start (suc count) =
    ap (greatest (f start)) (greatest_over-suc f (start + 1) count)
    ∙ (sym (greatest_assoc (f start) (greatest_over f (start + 1) count) (f ((start + 1) + count)))
    ∙ ap (λ k. greatest (greatest (f start) (greatest_over f (start + 1) count)) (f k)) (omega arith))

pub least_over-suc : (f : ℕ → Verdict) (start count : ℕ) → least_over f start (suc count) ≡ least (least_over f start count) (f (start + count))
least_over-suc f start zero = least_yes (f start) ∙ ap f (omega arith)
least_over-suc f start (suc count) =
    ap (least (f start)) (least_over-suc f (start + 1) count)
    ∙ (sym (least_assoc (f start) (least_over f (start + 1) count) (f ((start + 1) + count)))
    ∙ ap (λ k. least (least (f start) (least_over f (start + 1) count)) (f k)) (omega arith))

-- equal values at those positions
pub greatest_over-same : (f g : ℕ → Verdict) (start count : ℕ) → ((k : ℕ) → start ≤ k → k < start + count → f k ≡ g k) → greatest_over f start count ≡ greatest_over g start count
greatest_over-same f g start zero same = refl
greatest_over-same f g start (suc count) same =
    ap₂ greatest (same start (omega arith) (omega arith))
    (greatest_over-same f g (start + 1) count (λ k above below. same k (omega arith) (omega arith)))

pub least_over-same : (f g : ℕ → Verdict) (start count : ℕ) → ((k : ℕ) → start ≤ k → k < start + count → f k ≡ g k) → least_over f start count ≡ least_over g start count
least_over-same f g start zero same = refl
least_over-same f g start (suc count) same =
    ap₂ least (same start (omega arith) (omega arith))
    (least_over-same f g (start + 1) count (λ k above below. same k (omega arith) (omega arith)))

-- where a window begins matters only if it holds a position
greatest_over-alike : (f : ℕ → Verdict) (start start' count count' : ℕ) → count ≡ count' → (0 < count → start ≡ start') → greatest_over f start count ≡ greatest_over f start' count'
greatest_over-alike f start start' zero count' is same = ap (greatest_over f start') is
greatest_over-alike f start start' (suc count) count' is same = ap₂ (greatest_over f) (same (omega arith)) is

least_over-alike : (f : ℕ → Verdict) (start start' count count' : ℕ) → count ≡ count' → (0 < count → start ≡ start') → least_over f start count ≡ least_over f start' count'
least_over-alike f start start' zero count' is same = ap (least_over f start') is
least_over-alike f start start' (suc count) count' is same = ap₂ (least_over f) (same (omega arith)) is

-- The positions back to the distance that a loop ended at are all, if the first position ends them too.
pub greatest_over-past : (f : ℕ → Verdict) (i lower upper distance : ℕ) (now : Verdict) → lower ≤ upper → lower ≤ distance
    → min upper i + 1 ≤ distance → (lower ≤ min upper i + 1 → distance ≤ min upper i + 1)
    → now ≡ greatest_over f ((i + 1) - distance) (((i + 1) - lower) - ((i + 1) - distance)) → now ≡ greatest_over f (past_start i upper) (past_count i lower upper)
greatest_over-past f i lower upper distance now ordered from ended last told = told ∙ elim (cases_lt i lower) [
  | inl none ↦ greatest_over-alike f _ (past_start i upper) (((i + 1) - lower) - ((i + 1) - distance)) (past_count i lower upper) (omega arith) (λ some. absurd (omega arith))
  | inr some ↦
      let is : distance ≡ min upper i + 1 = omega (arith, last (omega arith)) in
      greatest_over-alike f ((i + 1) - distance) (past_start i upper) (((i + 1) - lower) - ((i + 1) - distance)) (past_count i lower upper) (omega arith) (λ some. omega arith)
]

pub least_over-past : (f : ℕ → Verdict) (i from end distance : ℕ) (now : Verdict) → from ≤ end → from ≤ distance
    → min end (i + 1) ≤ distance → (from ≤ min end (i + 1) → distance ≤ min end (i + 1))
    → now ≡ least_over f ((i + 1) - distance) (((i + 1) - from) - ((i + 1) - distance)) → now ≡ least_over f ((i + 1) - end) (((i + 1) - from) - ((i + 1) - end))
least_over-past f i from end distance now ordered from_there ended last told = told ∙ elim (cases_lt (i + 1) from) [
  | inl none ↦ least_over-alike f _ ((i + 1) - end) (((i + 1) - from) - ((i + 1) - distance)) (((i + 1) - from) - ((i + 1) - end)) (omega arith) (λ some. absurd (omega arith))
  | inr some ↦
      let is : distance ≡ min end (i + 1) = omega (arith, last (omega arith)) in
      least_over-alike f ((i + 1) - distance) ((i + 1) - end) (((i + 1) - from) - ((i + 1) - distance)) (((i + 1) - from) - ((i + 1) - end)) (omega arith) (λ some. omega arith)
]

-- One more position of a window that looks ahead: now is the value with it, so_far without it, here that at it.
pub greatest_over-ahead : (f : ℕ → Verdict) (i lower distance : ℕ) (now so_far here : Verdict) → lower ≤ distance
    → now ≡ greatest so_far here → so_far ≡ greatest_over f (i + lower) (distance - lower) → here ≡ f (i + distance)
    → now ≡ greatest_over f (i + lower) ((distance + 1) - lower)
greatest_over-ahead f i lower distance now so_far here ordered item before at =
    let more : (distance + 1) - lower ≡ suc (distance - lower) = omega arith in
    let index : (i + lower) + (distance - lower) ≡ i + distance = omega arith in
    rw (more, greatest_over-suc f (i + lower) (distance - lower), index, ← before, ← at) item

pub least_over-ahead : (f : ℕ → Verdict) (i lower distance : ℕ) (now so_far here : Verdict) → lower ≤ distance
    → now ≡ least so_far here → so_far ≡ least_over f (i + lower) (distance - lower) → here ≡ f (i + distance)
    → now ≡ least_over f (i + lower) ((distance + 1) - lower)
least_over-ahead f i lower distance now so_far here ordered item before at =
    let more : (distance + 1) - lower ≡ suc (distance - lower) = omega arith in
    let index : (i + lower) + (distance - lower) ≡ i + distance = omega arith in
    rw (more, least_over-suc f (i + lower) (distance - lower), index, ← before, ← at) item

pub least_over-one_more : (f : ℕ → Verdict) (i distance : ℕ) (now so_far here : Verdict)
    → now ≡ least so_far here → so_far ≡ least_over f i distance → here ≡ f (i + distance)
    → now ≡ least_over f i (distance + 1)
least_over-one_more f i distance now so_far here item before at =
    let more : distance + 1 ≡ suc distance = omega arith in
    rw (more, least_over-suc f i distance, ← before, ← at) item

-- One more position of a window that looks back, and that holds all before an end.
pub greatest_over-back : (f : ℕ → Verdict) (i end distance : ℕ) (now here so_far : Verdict) → distance ≤ i → (i + 1) - distance ≤ end
    → now ≡ greatest here so_far → here ≡ f (i - distance) → so_far ≡ greatest_over f ((i + 1) - distance) (end - ((i + 1) - distance))
    → now ≡ greatest_over f ((i + 1) - (distance + 1)) (end - ((i + 1) - (distance + 1)))
greatest_over-back f i end distance now here so_far inside ends item at before =
    let start : (i + 1) - (distance + 1) ≡ i - distance = omega arith in
    let next : (i - distance) + 1 ≡ (i + 1) - distance = omega arith in
    let more : end - (i - distance) ≡ suc (end - ((i + 1) - distance)) = omega arith in
    rw (start, more, next, ← before, ← at) item

pub least_over-back : (f : ℕ → Verdict) (i end distance : ℕ) (now here so_far : Verdict) → distance ≤ i → (i + 1) - distance ≤ end
    → now ≡ least here so_far → here ≡ f (i - distance) → so_far ≡ least_over f ((i + 1) - distance) (end - ((i + 1) - distance))
    → now ≡ least_over f ((i + 1) - (distance + 1)) (end - ((i + 1) - (distance + 1)))
least_over-back f i end distance now here so_far inside ends item at before =
    let start : (i + 1) - (distance + 1) ≡ i - distance = omega arith in
    let next : (i - distance) + 1 ≡ (i + 1) - distance = omega arith in
    let more : end - (i - distance) ≡ suc (end - ((i + 1) - distance)) = omega arith in
    rw (start, more, next, ← before, ← at) item

-- b at a position, and a from i on before it
pub until_at : (a b : ℕ → Verdict) (i distance : ℕ) (here b_here before : Verdict)
    → here ≡ least b_here before → b_here ≡ b (i + distance) → before ≡ least_over a i distance
    → here ≡ least (b (i + distance)) (least_over a i ((i + distance) - i))
until_at a b i distance here b_here before item at run =
    let count : (i + distance) - i ≡ distance = omega arith in
    rw (count, ← run, ← at) item

-- b at a position, and a after it up to i
pub since_at : (a b : ℕ → Verdict) (i distance : ℕ) (here b_here after : Verdict) → distance ≤ i
    → here ≡ least b_here after → b_here ≡ b (i - distance) → after ≡ least_over a ((i + 1) - distance) ((i + 1) - ((i + 1) - distance))
    → here ≡ least (b (i - distance)) (least_over a ((i - distance) + 1) (i - (i - distance)))
since_at a b i distance here b_here after inside item at run =
    let next : (i - distance) + 1 ≡ (i + 1) - distance = omega arith in
    let count : i - (i - distance) ≡ (i + 1) - ((i + 1) - distance) = omega arith in
    rw (next, count, ← run, ← at) item
