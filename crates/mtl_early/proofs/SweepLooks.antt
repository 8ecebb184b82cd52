-- How a state of sweeps goes from row to row, and from age to age.
use Rattle.std.proofs.Common.{◌≡◌, ◌≢◌, ℕ, zero, suc, ◌+◌, ◌-◌, ◌<◌, ◌≤◌, sym, ◌∙◌, arith, true, false, inl, inr, [], ◌∷◌, ◌++◌, length, Option, Some, None}
use Rattle.std.specs.Prelude.{is_some}
use Rattle.std.proofs.lemmas.Bool.{cases_lt}
use Rattle.std.proofs.lemmas.List.{length_push}
use Rattle.mtl_formulas.specs.declared.atom.Atom.{Atom}
use Rattle.mtl_formulas.specs.declared.verdict.Verdict.{Verdict}
use Rattle.mtl_formulas.specs.declared.verdict.Verdict.TheVariants.{Open}
use Rattle.mtl_formulas.specs.FormulaTree.{FormulaTree}
use Rattle.mtl_formulas.proofs.Values.{value_of-past}
use Rattle.mtl_formulas.specs.Traces.{Trace, value_in}
use Rattle.mtl_early.specs.declared.sweep_program.SweepProgram.{SweepProgram}
use Rattle.mtl_early.specs.declared.sweep_state.SweepState.{SweepState}
use Rattle.mtl_early.specs.Inner.Cells.{aged, cell_at}
use Rattle.mtl_early.specs.Decided.{IsDecidedNow, IsNextDecided}
use Rattle.mtl_early.specs.Inner.Nodes.{AllRight, cells_of}
use Rattle.mtl_early.specs.Inner.Zones.{HasZone, IsFinished, IsBehind, old_value}
use Rattle.mtl_early.specs.Standing.{IsGiving, Continues}
use Rattle.mtl_early.specs.Inner.Looking.{IsLooking, Stands, IsDecidedAt, IsLooked}
use Rattle.mtl_early.proofs.Deciding.{decided_now, decided_before, open_still}
use Rattle.mtl_early.proofs.Zones.{HasZone-next, behind_zone}

-- where the formula's own cells begin
abbrev pub root_at : SweepProgram → ℕ
root_at p = cells_of p.nodes.items (length p.nodes.items - 1)

pub root_value : (p : SweepProgram) (s : SweepState) (t : FormulaTree) (rows : Trace) (age : ℕ) → Stands p s t rows → age < s.size → cell_at s.cells.items (root_at p + age) ≡ value_in rows t (aged rows age)
root_value p s t rows age at within = rw at.root at (at.right (length p.nodes.items - 1) (omega (arith, p.some)) age within)

module _ (p : SweepProgram) (s : SweepState) (t : FormulaTree) (before : Trace) (row : Atom → Verdict) (looks : IsLooking p s t before row) where
  one_more : length (before ++ row ∷ []) ≡ length before + 1
  one_more = length_push before row

  pub old_is : (age : ℕ) → age < s.size → old_value s.was.items age ≡ value_in before t (aged (before ++ row ∷ []) age)
  old_is zero within =
      let position : aged (before ++ row ∷ []) zero ≡ length before = omega (arith, one_more) in
      rw position (sym (value_of-past (λ r. r) before t (length before) (omega arith)))
  old_is (suc age) within =
      let position : aged (before ++ row ∷ []) (suc age) ≡ aged before age = omega (arith, one_more) in
      rw position (looks.old age (omega (arith, within)))

  pub look_some : (age position : ℕ) (v : Verdict) → age < s.size → v ≡ cell_at s.cells.items (root_at p + age) → v ≢ Open → old_value s.was.items age ≡ Open
      → position + (age + 1) ≡ length (before ++ row ∷ []) → IsDecidedAt (position, v) t (before ++ row ∷ []) age
  look_some age position v within is now was at =
      let here : aged (before ++ row ∷ []) age ≡ position = omega (arith, at) in
      let value : v ≡ value_in (before ++ row ∷ []) t position = rw here at (is ∙ root_value p s t (before ++ row ∷ []) age looks.stands within) in
      let old : old_value s.was.items age ≡ value_in before t position = rw here at (old_is age within) in
      record {
        position = at;
        decided = decided_now before row t position (sym old ∙ was) (λ unknown. now (value ∙ unknown));
        value = value;
      }

  pub look_open : (age : ℕ) (v : Verdict) → age < s.size → v ≡ cell_at s.cells.items (root_at p + age) → v ≡ Open → IsLooked None t (before ++ row ∷ []) age
  look_open age v within is none = λ j at.
      let here : aged (before ++ row ∷ []) age ≡ j = omega (arith, at) in
      let value : v ≡ value_in (before ++ row ∷ []) t j = rw here at (is ∙ root_value p s t (before ++ row ∷ []) age looks.stands within) in
      open_still (before ++ row ∷ []) t j (sym value ∙ none)

  pub look_old : (age : ℕ) → age < s.size → old_value s.was.items age ≢ Open → IsLooked None t (before ++ row ∷ []) age
  look_old age within was = λ j at.
      let here : aged (before ++ row ∷ []) age ≡ j = omega (arith, at) in
      let old : old_value s.was.items age ≡ value_in before t j = rw here at (old_is age within) in
      decided_before before row t j (λ unknown. was (old ∙ unknown))

-- a state that differs in its place alone
pub IsLooking-place : (p : SweepProgram) (s n : SweepState) (t : FormulaTree) (before : Trace) (row : Atom → Verdict) → n.state ≡ s.state → n.cells ≡ s.cells
    → n.was ≡ s.was → n.fed ≡ s.fed → n.size ≡ s.size → n.still ≡ s.still → IsLooking p s t before row → IsLooking p n t before row
IsLooking-place p s n t before row state cells was fed size still looks = record {
  stands = record {
    formulas = looks.stands.formulas;
    trees = looks.stands.trees;
    follows = rw state looks.stands.follows;
    computes = looks.stands.computes;
    root = looks.stands.root;
    reach = looks.stands.reach;
    all_fed = fed ∙ looks.stands.all_fed;
    right = rw (cells, size) looks.stands.right;
    zone = rw size looks.stands.zone;
    rests = λ rested.
        let old = looks.stands.rests (sym still ∙ rested) in record {
          swept = rw (state, cells, size) old.swept;
          kept = rw (was, cells, size) old.kept;
        };
  };
  old = rw (was, size) looks.old;
}

-- Between two places no position was decided.
abbrev pub NoneFrom : FormulaTree → Trace → ℕ → ℕ → Type 0
NoneFrom t rows from to = (j : ℕ) → length rows ≤ j + from → j + to < length rows → ¬ IsDecidedNow t rows j

pub none_more : (answer : Option (ℕ × Verdict)) (t : FormulaTree) (rows : Trace) (from place next : ℕ) → is_some answer ≡ false → place ≡ next + 1 → IsLooked answer t rows next → NoneFrom t rows from place → NoneFrom t rows from next
none_more (Some a) t rows from place next none step looked earlier = cc
none_more None t rows from place next none step looked earlier = λ j after below. elim (cases_lt (j + place) (length rows)) [
  | inl before ↦ earlier j after before
  | inr here ↦ looked j (omega (arith, here, below, step))
]

module _ (p : SweepProgram) (s : SweepState) (t : FormulaTree) (rows : Trace) (from : ℕ) (h : IsGiving p s t rows from) where
  earlier_none : (place j : ℕ) → NoneFrom t rows s.place place → from ≤ j → j + place < length rows → ¬ IsDecidedNow t rows j
  earlier_none place j none after below = elim (cases_lt (j + s.place) (length rows)) [
    | inl given ↦ h.passed j after given
    | inr since ↦ none j since below
  ]

  pub gives_some : (n : SweepState) (answer : Option (ℕ × Verdict)) (place : ℕ) → is_some answer ≡ true → place ≤ s.place → place ≡ n.place + 1
      → NoneFrom t rows s.place place → IsLooked answer t rows n.place → IsLooking p n t h.before h.row
      → IsNextDecided answer t rows from × Continues p answer n t rows
  gives_some n None place some since next none looked looks = cc
  gives_some n (Some a) place some since next none looked looks =
      let at : a.0 + (n.place + 1) ≡ length rows = looked.position in (
        record {
          after = omega (arith, at, since, next, h.behind);
          decided = looked.decided;
          value = looked.value;
          first = λ j after below. earlier_none place j none after (omega (arith, at, below, next));
        },
        record {
          before = h.before;
          row = h.row;
          split = h.split;
          looks = looks;
          passed = λ j after below. absurd (omega (arith, after, below, at));
          behind = omega (arith, at);
        },
      )

  pub gives_none : (n : SweepState) → n.place ≡ 0 → NoneFrom t rows s.place n.place → IsLooking p n t h.before h.row
      → IsNextDecided None t rows from × Continues p None n t rows
  gives_none n done none looks = (
    λ j after decided. earlier_none n.place j none after (omega (arith, decided.inside, done)) decided,
    record { stands = rw h.split looks.stands; done = done },
  )

-- a row more
module _ (p : SweepProgram) (s : SweepState) (count : ℕ) (row : Atom → Verdict) (within : count ≤ s.size)
    (behind : (age : ℕ) → count ≤ age → age < s.size → IsBehind s.cells.items (root_at p) p.reach age)
    (t : FormulaTree) (rows : Trace) (at : Stands p s t rows) where
  zone_open : HasZone t rows count
  zone_open i far = elim (cases_lt (i + s.size) (length rows)) [
    | inl old ↦ at.zone i old
    | inr here ↦ by_age ((length rows - 1) - i) (omega (arith, far, here)) (omega (arith, here, far)) (behind ((length rows - 1) - i) (omega (arith, far)) (omega (arith, here, far)))
  ]
    where
      is_open : (age : ℕ) → i + (age + 1) ≡ length rows → age < s.size → value_in rows t i ≡ Open → cell_at s.cells.items (root_at p + age) ≡ Open
      is_open age is inside unknown =
          let position : aged rows age ≡ i = omega (arith, is) in
          rw position at (root_value p s t rows age at inside) ∙ unknown

      by_age : (age : ℕ) → i + (age + 1) ≡ length rows → age < s.size → IsBehind s.cells.items (root_at p) p.reach age → IsFinished t rows i
      by_age age is inside (inl decided) = inl (λ unknown. decided (is_open age is inside unknown))
      by_age age is inside (inr late) = inr (omega (arith, is, late, at.reach))

  pub fed_zone : HasZone t (rows ++ row ∷ []) (count + 1)
  fed_zone = HasZone-next t rows row count zone_open

  pub fed_passed : (j : ℕ) → j + (count + 1) < length (rows ++ row ∷ []) → ¬ IsDecidedNow t (rows ++ row ∷ []) j
  fed_passed j below = behind_zone t rows row count j zone_open (omega (arith, below, length_push rows row))

  pub fed_few : count + 1 ≤ length rows + 1
  fed_few = omega (arith, within, s.inside, at.all_fed)

  pub fed_before : AllRight p.nodes.items at.trees s.cells.items ((count + 1) - 1) rows
  fed_before k inside age below = at.right k inside age (omega (arith, below, within))

  pub fed_old : (age : ℕ) (v : Verdict) → age + 1 < count + 1 → v ≡ cell_at s.cells.items (root_at p + age) → v ≡ value_in rows t (aged rows age)
  fed_old age v below is = is ∙ root_value p s t rows age at (omega (arith, below, within))
