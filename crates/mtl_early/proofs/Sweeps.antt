-- Cells that are written one after the other.
use Rattle.std.proofs.Common.{◌≡◌, ℕ, ◌+◌, ◌-◌, ◌<◌, ◌≤◌, refl, ap, sym, ◌∙◌, arith, Bool, true, false, inl, inr, ◌⊎◌, List, [], ◌∷◌, ◌++◌, length, get_or, set, get_or-set_same, get_or-set_other}
use Rattle.std.proofs.lemmas.List.{get_or_default, take_all, take-append-le}
use Rattle.std.proofs.lemmas.Bool.{cases_lt}
use Rattle.mtl_formulas.specs.declared.verdict.Verdict.{Verdict}
use Rattle.mtl_formulas.specs.declared.verdict.Verdict.TheVariants.{Open}
use Rattle.mtl_formulas.specs.declared.atom.Atom.{Atom}
use Rattle.mtl_formulas.specs.declared.formula.LinkKind.TheVariants.{U}
use Rattle.mtl_formulas.specs.VerdictOrder.{turned_round, least}
use Rattle.mtl_formulas.specs.FormulaTree.{FormulaTree, span, link}
use Rattle.mtl_formulas.specs.FormulaMeasures.{reach_of}
use Rattle.mtl_formulas.specs.FormulaValue.{greatest_over, span_value, link_value, ahead_count}
use Rattle.mtl_formulas.proofs.Values.{value_of-past}
use Rattle.mtl_monitor.proofs.Windows.{least_over-turned}
use Rattle.mtl_monitor.specs.declared.left.Left.{Left}
use Rattle.mtl_monitor.specs.WindowCounts.{left_after, left_under, left_value}
use Rattle.mtl_early.specs.Inner.Counts.{Reads, sensed, held_ahead}
use Rattle.mtl_early.specs.Inner.Cells.{ahead_kind}
use Rattle.mtl_monitor.proofs.ForCallers.{within_end}
use Rattle.mtl_early.proofs.Deciding.{value_take}
use Rattle.mtl_early.proofs.Ahead.{Reads-before, Reads-open, Reads-value, Reads-under, held_at, held-open}
use Rattle.mtl_formulas.specs.Traces.{Trace, value_in}
use Rattle.mtl_early.specs.Inner.Cells.{cell_at, aged, AreRight, SameOutside}

module _ (cells : List Verdict) (at age : ℕ) (v : Verdict) (inside : at + age < length cells) where
  pub cell_written : cell_at (set cells (at + age) v) (at + age) ≡ v
  cell_written = get_or-set_same cells (at + age) v Open inside

  pub AreRight-more : (rows : Trace) (t : FormulaTree) → v ≡ value_in rows t (aged rows age) → AreRight cells at age rows t → AreRight (set cells (at + age) v) at (age + 1) rows t
  AreRight-more rows t is right k below = elim (cases_lt k age) [
    | inl earlier ↦ get_or-set_other cells (at + age) (at + k) v Open (λ e. omega (arith, e, earlier)) ∙ right k earlier
    | inr here ↦ let same : k ≡ age = omega (arith, here, below) in rw same (cell_written ∙ is)
  ]

  pub SameOutside-more : (old : List Verdict) → SameOutside old cells at (at + age) → SameOutside old (set cells (at + age) v) at (at + (age + 1))
  SameOutside-more old same k outside = get_or-set_other cells (at + age) k v Open (other outside) ∙ same k (elim outside [ inl before ↦ inl before | inr behind ↦ inr (omega (arith, behind)) ])
    where
      other : ((k < at) ⊎ (at + (age + 1) ≤ k)) → ¬ (k ≡ at + age)
      other (inl before) e = omega (arith, before, e)
      other (inr behind) e = omega (arith, behind, e)

-- an operand's cell, which stands before those that are written
pub operand_cell : (old cells : List Verdict) (d : Verdict) (operand at size age other : ℕ) (rows : Trace) (s : FormulaTree) → SameOutside old cells at (at + age)
    → operand + size ≤ at → at + size ≤ length cells → other < size → AreRight old operand size rows s → get_or cells (operand + other) d ≡ value_in rows s (aged rows other)
operand_cell old cells d operand at size age other rows s same below inside within right =
    get_or_default cells (operand + other) d Open (omega (arith, below, inside, within))
    ∙ (same (operand + other) (inl (omega (arith, below, within))) ∙ right other within)

-- the value of an operand so many positions ahead
pub ahead_value : (old cells : List Verdict) (result : Verdict) (operand at size age lower : ℕ) (rows : Trace) (s : FormulaTree) → SameOutside old cells at (at + age)
    → operand + size ≤ at → at + size ≤ length cells → age < size → size ≤ length rows → (age < lower → result ≡ Open) → (lower ≤ age → result ≡ cell_at cells (operand + (age - lower)))
    → AreRight old operand size rows s → result ≡ value_in rows s (aged rows age + lower)
ahead_value old cells result operand at size age lower rows s same below inside within few unfed fed right = elim (cases_lt age lower) [
  | inl beyond ↦ unfed beyond ∙ sym (value_of-past (λ row. row) rows s (aged rows age + lower) (omega (arith, beyond, within, few)))
  | inr there ↦
      let position : aged rows age + lower ≡ aged rows (age - lower) = omega (arith, there, within, few) in
      rw position (fed there ∙ operand_cell old cells Open operand at size age (age - lower) rows s same below inside (omega (arith, within)) right)
]

-- F and G, once a position is read
pub ahead_reads : (turned : Bool) (left : Left) (width age lower : ℕ) (rows : Trace) (s : FormulaTree) (read v : Verdict) → age < length rows
    → read ≡ value_in rows s (aged rows age + lower) → v ≡ sensed turned read
    → Reads (λ k. sensed turned (value_in rows s k)) left width ((length rows + lower) - age)
    → Reads (λ k. sensed turned (value_in rows s k)) (left_after left width v) width ((length rows + lower) - (age + 1))
ahead_reads turned left width age lower rows s read v within is seen h =
    let now : (length rows + lower) - (age + 1) ≡ aged rows age + lower = omega (arith, within) in
    let before : (length rows + lower) - age ≡ (aged rows age + lower) + 1 = omega (arith, within) in
    rw now (Reads-before (λ k. sensed turned (value_in rows s k)) left width (aged rows age + lower) v (seen ∙ ap (sensed turned) is) (rw before at h))

sensed_window : (turned : Bool) (rows : Trace) (s : FormulaTree) (lower upper i : ℕ)
    → sensed turned (greatest_over (λ k. sensed turned (value_in rows s k)) (i + lower) (ahead_count lower upper)) ≡ span_value (ahead_kind turned) lower upper (value_in rows s) i
sensed_window true rows s lower upper i = least_over-turned (value_in rows s) (i + lower) (ahead_count lower upper)
sensed_window false rows s lower upper i = refl

pub ahead_is : (turned : Bool) (left : Left) (width age lower upper : ℕ) (rows : Trace) (s : FormulaTree) (value v : Verdict) → age < length rows → lower ≤ upper
    → width ≡ (upper - lower) + 1 → value ≡ left_value left → v ≡ sensed turned value
    → Reads (λ k. sensed turned (value_in rows s k)) left width ((length rows + lower) - (age + 1))
    → v ≡ value_in rows (span (ahead_kind turned) lower upper s) (aged rows age)
ahead_is turned left width age lower upper rows s value v within ordered wide is seen h =
    let now : (length rows + lower) - (age + 1) ≡ aged rows age + lower = omega (arith, within) in
    let count : width ≡ ahead_count lower upper = omega (arith, wide, ordered) in
    let window : left_value left ≡ greatest_over (λ k. sensed turned (value_in rows s k)) (aged rows age + lower) (ahead_count lower upper) =
    rw (now, count) at (Reads-value (λ k. sensed turned (value_in rows s k)) left width ((length rows + lower) - (age + 1)) h) in
    (seen ∙ ap (sensed turned) (is ∙ window))
    ∙ (sensed_window turned rows s lower upper (aged rows age)
    ∙ sym (within_end rows (aged rows age) (span_value (ahead_kind turned) lower upper (value_in rows s) (aged rows age)) (omega (arith, within))))

open_from : (rows : Trace) (s : FormulaTree) (p k : ℕ) → length rows ≤ p → p ≤ k → value_in rows s k ≡ Open
open_from rows s p k past after = value_of-past (λ row. row) rows s k (omega (arith, past, after))

pub ahead_begins : (turned : Bool) (width lower : ℕ) (rows : Trace) (s : FormulaTree)
    → Reads (λ k. sensed turned (value_in rows s k)) (record { yes = 0; some = width }) width ((length rows + lower) - 0)
ahead_begins turned width lower rows s =
    Reads-open (λ k. sensed turned (value_in rows s k)) width ((length rows + lower) - 0)
    (λ k after. ap (sensed turned) (open_from rows s ((length rows + lower) - 0) k (omega arith) after) ∙ open_sensed turned)
  where
    open_sensed : (b : Bool) → sensed b Open ≡ Open
    open_sensed true = refl
    open_sensed false = refl

-- U
module _ (rows : Trace) (s t : FormulaTree) where
  pub bars_begin : (lower : ℕ) → Reads (λ k. turned_round (value_in rows s k)) (record { yes = 0; some = lower }) lower (length rows - 0)
  bars_begin lower = Reads-open _ lower (length rows - 0) (λ k after. ap turned_round (open_from rows s (length rows - 0) k (omega arith) after))

  pub hits_begin : (width lower : ℕ) → Reads (held_ahead (value_in rows s) (value_in rows t) (length rows - 0)) (record { yes = 0; some = width }) width ((length rows - 0) + lower)
  hits_begin width lower =
      Reads-open _ width ((length rows - 0) + lower) (λ k after.
      held-open (value_in rows s) (value_in rows t) (length rows - 0) k
      (λ j from. open_from rows s (length rows - 0) j (omega arith) from) (λ j from. open_from rows t (length rows - 0) j (omega arith) from) (omega (arith, after)))

  pub bars_read : (bars : Left) (lower age : ℕ) (here v : Verdict) → age < length rows → here ≡ value_in rows s (aged rows age) → v ≡ turned_round here
      → Reads (λ k. turned_round (value_in rows s k)) bars lower (length rows - age)
      → Reads (λ k. turned_round (value_in rows s k)) (left_after bars lower v) lower (length rows - (age + 1))
  bars_read bars lower age here v within is turned h =
      let before : length rows - age ≡ aged rows age + 1 = omega (arith, within) in
      Reads-before _ bars lower (aged rows age) v (turned ∙ ap turned_round is) (rw before at h)

  pub hits_read : (hits bars : Left) (width lower age : ℕ) (here ahead barred v : Verdict) → age < length rows → here ≡ value_in rows s (aged rows age)
      → ahead ≡ value_in rows t (aged rows age + lower) → barred ≡ turned_round (left_value bars) → v ≡ least ahead barred
      → Reads (λ k. turned_round (value_in rows s k)) bars lower (length rows - (age + 1))
      → Reads (held_ahead (value_in rows s) (value_in rows t) (length rows - age)) hits width ((length rows - age) + lower)
      → Reads (held_ahead (value_in rows s) (value_in rows t) (length rows - (age + 1))) (left_after (left_under hits here) width v) width ((length rows - (age + 1)) + lower)
  hits_read hits bars width lower age here ahead barred v within is reached bar joined passed h =
      let before : length rows - age ≡ aged rows age + 1 = omega (arith, within) in
      let next : (aged rows age + 1) + lower ≡ (aged rows age + lower) + 1 = omega arith in
      let value : v ≡ held_ahead (value_in rows s) (value_in rows t) (aged rows age) (aged rows age + lower) =
      rw bar at joined ∙ held_at (value_in rows s) (value_in rows t) bars lower (aged rows age) ahead reached passed in
      let under = Reads-under (value_in rows s) (value_in rows t) hits width (aged rows age) ((aged rows age + 1) + lower) here is (omega arith) (rw before at h) in
      Reads-before _ (left_under hits here) width (aged rows age + lower) v value (rw next at under)

  pub until_is : (hits : Left) (width age lower upper : ℕ) (v : Verdict) → age < length rows → lower ≤ upper → width ≡ (upper - lower) + 1 → v ≡ left_value hits
      → Reads (held_ahead (value_in rows s) (value_in rows t) (length rows - (age + 1))) hits width ((length rows - (age + 1)) + lower)
      → v ≡ value_in rows (link U lower upper s t) (aged rows age)
  until_is hits width age lower upper v within ordered wide is h =
      let count : width ≡ ahead_count lower upper = omega (arith, wide, ordered) in
      is ∙ (rw count at (Reads-value (held_ahead (value_in rows s) (value_in rows t) (aged rows age)) hits width (aged rows age + lower) h)
      ∙ sym (within_end rows (aged rows age) (link_value U lower upper (value_in rows s) (value_in rows t) (aged rows age)) (omega (arith, within))))

-- with one row more the values of a formula that looks no position ahead stay
pub value_before : (rows : Trace) (row : Atom → Verdict) (t : FormulaTree) (j : ℕ) → j + reach_of t < length rows → value_in rows t j ≡ value_in (rows ++ row ∷ []) t j
value_before rows row t j far =
    rw (take-append-le (length rows) rows (row ∷ []) (omega arith), take_all (length rows) rows (omega arith))
    at (value_take (rows ++ row ∷ []) t j (length rows) far)

-- cells that were not written
pub AreRight-kept : (old new : List Verdict) (from to at size : ℕ) (rows : Trace) (t : FormulaTree) → SameOutside old new from to → ((at + size ≤ from) ⊎ (to ≤ at))
    → AreRight old at size rows t → AreRight new at size rows t
AreRight-kept old new from to at size rows t same apart right age below =
    same (at + age) (elim apart [ inl before ↦ inl (omega (arith, before, below)) | inr behind ↦ inr (omega (arith, behind)) ]) ∙ right age below
