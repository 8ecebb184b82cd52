-- A state that follows some rows follows them with the next, and can be closed; and its answers are right.
use Rattle.std.proofs.Common.{◌≡◌, ◌≢◌, ℕ, ◌+◌, ◌-◌, ◌<◌, ◌≤◌, refl, ap, subst, sym, ◌∙◌, arith, Bool, true, false, inl, inr, List, [], ◌∷◌, ◌++◌, length, Option, Some, None, append_assoc, length-append}
use Rattle.std.specs.Prelude.{nat_lt, slice_get, ◌⊎◌, ◌%◌}
use Rattle.std.proofs.lemmas.Bool.Decides.{nat_tests}
use Rattle.std.proofs.lemmas.List.{length_push, append-nil}
use Rattle.std.proofs.lemmas.Option.{slice_get_past}
use Rattle.std.proofs.lemmas.Nat.Bits.{bit_at-zero}
use Rattle.mtl_formulas.specs.declared.atom.Atom.{Atom}
use Rattle.mtl_formulas.specs.declared.atom.Atom.TheVariants.{Always}
use Rattle.mtl_formulas.specs.declared.verdict.Verdict.{Verdict}
use Rattle.mtl_formulas.specs.declared.verdict.Verdict.TheVariants.{Open, Yes}
use Rattle.mtl_formulas.specs.FormulaTree.{FormulaTree}
use Rattle.mtl_formulas.specs.FormulaMeasures.{reach_of}
use Rattle.mtl_formulas.specs.FormulaValue.{answer_at}
use Rattle.mtl_monitor.specs.declared.building.Operand.{Operand}
use Rattle.mtl_monitor.specs.declared.program.Program.{Program}
use Rattle.mtl_monitor.specs.declared.trace_state.TraceState.{TraceState}
use Rattle.mtl_formulas.specs.Traces.{Trace, value_in}
use Rattle.mtl_monitor.specs.Inner.Steps.{value_at}
use Rattle.mtl_monitor.specs.Inner.Quiet.{AreAnswered, AreQuiet, flag_at, CanStay, MayRest, Walked}
use Rattle.mtl_monitor.specs.Inner.Marks.{IsUnmarked, OnlyMarked}
use Rattle.mtl_monitor.specs.Inner.Reading.{atom_at, IsAtom, AreAllListed, IsUntold, AreReadable, ReadsAtoms}
use Rattle.mtl_monitor.specs.Inner.Idle.{AreAlike, HasShown, IsReadAs}
use Rattle.mtl_monitor.specs.declared.node.AtomNode.{AtomNode}
use Rattle.mtl_monitor.specs.declared.node.Kept.{Kept}
use Rattle.mtl_monitor.specs.declared.node.ProgramNode.{ProgramNode}
use Rattle.mtl_monitor.specs.declared.node.Operator.{Operator}
use Rattle.mtl_monitor.specs.declared.node.Operator.TheVariants as op
use Rattle.mtl_monitor.proofs.QuietNodes.{IsQuiet-ended, GoesOn-fed, GoesOn-ended}
use Rattle.mtl_monitor.proofs.Operands.{operands_are}
use Rattle.mtl_formulas.specs.declared.glance.Glance.{Glance}
use Rattle.mtl_formulas.specs.Glances.{IsTold}
use Rattle.mtl_monitor.proofs.AlikeValues.{alike-append, alike-length, alike-value, alike-value-on}
use Rattle.mtl_monitor.proofs.Walks.{Walk-begins, Walk-reached}
use Rattle.mtl_monitor.specs.Inner.Standing.{node_at, late_at, root_at, AllBelow, IsRow, EndsAt, KeepAll, GiveAll, Passes}
use Rattle.mtl_monitor.specs.Following.{Follows, Closes, IsEnded, formula_at, last_value}
use Rattle.mtl_monitor.specs.Monitoring.{IsNext}

next_row : (rows more : Trace) (r : Atom → Verdict) → slice_get (rows ++ r ∷ more) (length rows) ≡ Some r
next_row [] more r = refl
next_row (first ∷ rows) more r = next_row rows more r

IsRow-next : (rows more : Trace) (r : Atom → Verdict) → IsRow (rows ++ r ∷ more) r (length rows)
IsRow-next rows more r a = rw (next_row rows more r)

EndsAt-next : (rows more : Trace) (r : Atom → Verdict) → EndsAt (rows ++ r ∷ more) (length rows) (length rows + 1)
EndsAt-next rows more r j h =
    let count : length (rows ++ r ∷ more) ≡ length rows + length (r ∷ more) = length-append rows (r ∷ more) in
    let before : nat_lt j (length rows + 1) ≡ true = grind (arith, nat_tests) in
    let inside : j < length (rows ++ r ∷ more) = omega arith in
    let within : nat_lt j (length (rows ++ r ∷ more)) ≡ true = grind (arith, nat_tests) in
    rw (before, within)

regrouped : (rows more : Trace) (r : Atom → Verdict) → (rows ++ r ∷ []) ++ more ≡ rows ++ r ∷ more
regrouped rows more r = append_assoc rows (r ∷ []) more

abbrev pub beyond : Atom → Verdict
beyond a = Open

IsRow-beyond : (rows : Trace) (i : ℕ) → length rows ≤ i → IsRow rows beyond i
IsRow-beyond rows i h a = sym (ap (answer_at (λ r. r) rows a) (slice_get_past rows i h))

-- what follows its rows can be closed
pub Closes-Follows : (p : Program) (s : TraceState) (formulas : List FormulaTree) (rows : Trace) → Follows p s formulas rows → Closes p s formulas rows
Closes-Follows p s formulas rows h =
    let all : KeepAll (h.fed ++ []) h.trees p.nodes.items s.states.items (length rows) = h.keeps [] in
    let fed : s.fed ≡ s.passed = h.all_fed ∙ sym h.all_passed in
    record {
      trees = h.trees;
      of = h.of;
      fed = h.fed;
      alike = h.alike;
      all_fed = h.all_fed;
      all_passed = omega (arith, h.all_passed);
      keeps = rw h.all_passed (rw (append-nil h.fed) at all);
      gives = λ some. rw h.all_passed (rw (append-nil h.fed) at (h.gives (omega (arith, h.all_passed)) []));
      quiet = λ k inside flag. rw fed (IsQuiet-ended _ _ _ _ _ _ (h.quiet k inside flag));
      still = h.still;
      shown = h.shown;
    }

module _ (p : Program) (s s' : TraceState) (formulas : List FormulaTree) (rows : Trace) where
  -- a further row, for which one that is alike to it is taken
  module _ (row r : Atom → Verdict) (same : AreAlike p.idle r row) (h : Follows p s formulas rows) (fed : s'.fed ≡ s.passed + 1) (passed : s'.passed ≡ s.passed + 1)
      (q : Passes p.nodes.items s.states.items s'.states.items s'.values.items r s.passed (s.passed + 1))
      (quiet : AreQuiet p.nodes.items s'.states.items s'.values.items s'.moving.items (s.passed + 1) ((s.passed + 1) + 1))
      (still : s'.still ≡ true → (k : ℕ) → k < length p.nodes.items → flag_at s'.moving.items k ≡ false)
      (shown : HasShown s'.glance p.nodes.items s'.values.items) where
    all_so_far : s.passed ≡ length h.fed
    all_so_far = h.all_passed ∙ sym (alike-length p.idle h.fed rows h.alike)

    row_is : (more : Trace) → IsRow (h.fed ++ r ∷ more) r s.passed
    row_is more = rw all_so_far (IsRow-next h.fed more r)

    end_is : (more : Trace) → EndsAt (h.fed ++ r ∷ more) s.passed (s.passed + 1)
    end_is more = rw all_so_far (EndsAt-next h.fed more r)

    kept_before : (more : Trace) → KeepAll (h.fed ++ r ∷ more) h.trees p.nodes.items s.states.items s.passed
    kept_before more = rw h.all_passed (h.keeps (r ∷ more))

    kept_after : (more : Trace) → KeepAll ((h.fed ++ r ∷ []) ++ more) h.trees p.nodes.items s'.states.items (s.passed + 1)
    kept_after more = rw (regrouped h.fed more r) (q.kept (h.fed ++ r ∷ more) h.trees h.of.sound.program (row_is more) (end_is more) (kept_before more))

    gave_after : (more : Trace) → GiveAll ((h.fed ++ r ∷ []) ++ more) h.trees p.nodes.items s'.values.items s.passed
    gave_after more = rw (regrouped h.fed more r) (q.given (h.fed ++ r ∷ more) h.trees h.of.sound.program (row_is more) (end_is more) (kept_before more))

    pub Follows-next : Follows p s' formulas (rows ++ row ∷ [])
    Follows-next =
        let one_more : length (rows ++ row ∷ []) ≡ length rows + 1 = length_push rows row in
        let count : length (rows ++ row ∷ []) ≡ s.passed + 1 = omega (arith, h.all_passed, one_more) in
        let last : (s.passed + 1) - 1 ≡ s.passed = omega arith in
        record {
          trees = h.trees;
          of = h.of;
          fed = h.fed ++ r ∷ [];
          alike = alike-append p.idle h.fed rows (r ∷ []) (row ∷ []) h.alike (same, tt);
          all_fed = fed ∙ sym count;
          all_passed = passed ∙ sym count;
          keeps = λ more. rw count (kept_after more);
          gives = λ some more. rw (count, last) (gave_after more);
          quiet = rw passed quiet;
          still = still;
          shown = shown;
        }

  -- a row beyond the end
  pub Closes-next : Closes p s formulas rows → s'.fed ≡ s.fed → s'.passed ≡ s.passed + 1
      → Passes p.nodes.items s.states.items s'.states.items s'.values.items beyond s.passed s.fed
      → AreQuiet p.nodes.items s'.states.items s'.values.items s'.moving.items (s.passed + 1) s.fed
      → (s'.still ≡ true → (k : ℕ) → k < length p.nodes.items → flag_at s'.moving.items k ≡ false) → HasShown s'.glance p.nodes.items s'.values.items → Closes p s' formulas rows
  Closes-next h fed passed q quiet still shown =
      let last : (s.passed + 1) - 1 ≡ s.passed = omega arith in
      let count : length h.fed ≡ length rows = alike-length p.idle h.fed rows h.alike in
      let row : IsRow h.fed beyond s.passed = IsRow-beyond h.fed s.passed (omega (arith, count, h.all_passed)) in
      let end : EndsAt h.fed s.passed s.fed = λ j below. rw (h.all_fed, count) refl in
      record {
        trees = h.trees;
        of = h.of;
        fed = h.fed;
        alike = h.alike;
        all_fed = fed ∙ h.all_fed;
        all_passed = omega (arith, passed, h.all_passed);
        keeps = rw passed (q.kept h.fed h.trees h.of.sound.program row end h.keeps);
        gives = λ some. rw (passed, last) (q.given h.fed h.trees h.of.sound.program row end h.keeps);
        quiet = rw (passed, fed) quiet;
        still = still;
        shown = shown;
      }

module _ (nodes : List ProgramNode) (states : List Kept) (before values : List Verdict) (moving : List Bool) (i end : ℕ)
    (all_rest : (k : ℕ) → k < length nodes → flag_at moving k ≡ false) (uncrossed : (k : ℕ) → k < length nodes → i ≢ end + late_at nodes k) (below : AllBelow nodes)
    (s : length states ≡ length nodes) (v : length values ≡ length nodes) (m : length moving ≡ length nodes) where
  can_stay : (k : ℕ) → k < length nodes → CanStay nodes moving i end 0 k
  can_stay k inside =
      record {
        rests = all_rest k inside;
        uncrossed = uncrossed k inside;
        unmarked = operands_are (λ a. a < k) (IsUnmarked 0) (λ a h. bit_at-zero (a % 64)) (node_at nodes k).operator (below k inside);
      }

  -- All nodes rest.
  pub Walked-still : Walked nodes states before values moving i end 0 states values moving true
  Walked-still =
      record {
        marks' = 0;
        walk =
            Walk-reached nodes states before values moving i end 0 states values moving 0 true 0 (length nodes)
            (record { after = omega arith; inside = omega arith; stay = λ j h from. can_stay j h })
            (Walk-begins nodes states before values moving i end 0 s v m);
      }

-- Each atom that is listed is that of a node, so a node of no atom has the value that it had.
pub ReadsAtoms-listed : (glance : Glance) (nodes : List ProgramNode) (atoms : List AtomNode) (before values : List Verdict) (marks : ℕ) → AreReadable glance nodes (length nodes) atoms
    → OnlyMarked before values marks → ((k : ℕ) → ((j : ℕ) → j < length atoms → (atom_at atoms j).index ≢ k) → value_at values k ≡ value_at before k)
    → ReadsAtoms nodes before values marks
ReadsAtoms-listed glance nodes atoms before values marks readable changed others =
    record { changed = changed; others = λ k inside. by_operator k (node_at nodes k).operator refl }
  where
    unlisted : (k : ℕ) → (IsUntold glance (node_at nodes k).operator → ⊥) → value_at values k ≡ value_at before k
    unlisted k never = others k (λ j within same. never (rw same at (readable j within).1))

    by_operator : (k : ℕ) (o : Operator) → (node_at nodes k).operator ≡ o → IsAtom (node_at nodes k).operator ⊎ (value_at values k ≡ value_at before k)
    by_operator k (op.Atom a) is = inl (rw is tt)
    by_operator k (op.Not a) is = inr (unlisted k (λ h. rw is at h))
    by_operator k (op.Pair kind a b) is = inr (unlisted k (λ h. rw is at h))
    by_operator k (op.Late cells from a) is = inr (unlisted k (λ h. rw is at h))
    by_operator k (op.Window kind width from a) is = inr (unlisted k (λ h. rw is at h))
    by_operator k (op.Since width lower from a b) is = inr (unlisted k (λ h. rw is at h))
    by_operator k (op.Until from full lower a behind b) is = inr (unlisted k (λ h. rw is at h))

-- No glance shows, at a row beyond the end, that the vessels are apart, so none is taken for it.
beyond-alike : (idle : Bool) (row : Atom → Verdict) → AreAlike idle row beyond → row ≡ beyond
beyond-alike idle row alike = elim alike [
  | inl same ↦ same
  | inr apart ↦ let no : Open ≡ Yes = apart.2 Always in absurd (cc)
]

module _ (p : Program) (s s' : TraceState) (formulas : List FormulaTree) (rows : Trace) (values : List Verdict) (marks : ℕ)
    (reads : ReadsAtoms p.nodes.items s.values.items values marks) (below : AllBelow p.nodes.items) where
  -- The row was read, or one that is alike to it is taken for it.
  abbrev pub Read : (Atom → Verdict) → Type 0
  Read row =
      AreAllListed p.nodes.items p.atoms.items p.asked.items → HasShown s.glance p.nodes.items s.values.items → IsReadAs p.idle p.nodes.items values s'.glance row

  pub Follows-walked : (row : Atom → Verdict) → Follows p s formulas rows → s'.fed ≡ s.passed + 1 → s'.passed ≡ s.passed + 1 → Read row
      → Walked p.nodes.items s.states.items s.values.items values s.moving.items s.passed (s.passed + 1) marks s'.states.items s'.values.items s'.moving.items s'.still
      → Follows p s' formulas (rows ++ row ∷ [])
  Follows-walked row h fed passed read w =
      let rest : MayRest p.nodes.items s.states.items s.values.items values s.moving.items s.passed (s.passed + 1) marks = record { quiet = h.quiet; reads = reads } in
      let it = read h.of.listed h.shown in
      let r = it.shown.row in
      let all = it.shown.answered in
      Follows-next p s s' formulas rows row r it.alike h fed passed
      (record {
        kept = λ trace trees program answers ends keeps. record { each = (w.walk.midway trace trees r program answers ends rest all keeps).passed };
        given = λ trace trees program answers ends keeps. record { each = (w.walk.midway trace trees r program answers ends rest all keeps).gave };
      })
      (λ k inside flag. w.walk.quiet _ (GoesOn-fed s.passed) rest below k inside flag) w.walk.all_still
      (inr (record { row = r; told = it.shown.told; answered = w.walk.answered r all }))

  pub Closes-walked : Closes p s formulas rows → s'.fed ≡ s.fed → s'.passed ≡ s.passed + 1 → Read beyond
      → Walked p.nodes.items s.states.items s.values.items values s.moving.items s.passed s.fed marks s'.states.items s'.values.items s'.moving.items s'.still
      → Closes p s' formulas rows
  Closes-walked h fed passed read w =
      let rest : MayRest p.nodes.items s.states.items s.values.items values s.moving.items s.passed s.fed marks = record { quiet = h.quiet; reads = reads } in
      let it = read h.of.listed h.shown in
      let same = beyond-alike p.idle it.shown.row it.alike in
      let all : AreAnswered p.nodes.items values beyond = subst (λ (r : Atom → Verdict). AreAnswered p.nodes.items values r) same it.shown.answered in
      let told : IsTold s'.glance beyond = subst (λ (r : Atom → Verdict). IsTold s'.glance r) same it.shown.told in
      Closes-next p s s' formulas rows h fed passed
      (record {
        kept = λ trace trees program answers ends keeps. record { each = (w.walk.midway trace trees beyond program answers ends rest all keeps).passed };
        given = λ trace trees program answers ends keeps. record { each = (w.walk.midway trace trees beyond program answers ends rest all keeps).gave };
      })
      (λ k inside flag. w.walk.quiet _ (GoesOn-ended s.passed s.fed) rest below k inside flag) w.walk.all_still
      (inr (record { row = beyond; told = told; answered = w.walk.answered beyond all }))

-- the answers to the last row that passed
module _ (p : Program) (s : TraceState) (formulas : List FormulaTree) (rows : Trace) (k : ℕ) (root : Operand) (v : Verdict)
    (root_is : root ≡ root_at p.roots.items k) (v_is : v ≡ value_at s.values.items root.index) where
  pub fed_value : Follows p s formulas rows → k < length formulas → root.late < s.passed
      → ((s.passed - root.late - 1) + 1 + reach_of (formula_at formulas k) ≡ length rows)
      × ((more : Trace) → v ≡ value_in (rows ++ more) (formula_at formulas k) (s.passed - root.late - 1))
  fed_value h inside ready =
      let is = h.of.each k inside in
      let late : root.late ≡ (root_at p.roots.items k).late = ap (λ (o : Operand). o.late) root_is in
      let index : root.index ≡ (root_at p.roots.items k).index = ap (λ (o : Operand). o.index) root_is in
      let some : 0 < length rows = omega (arith, h.all_passed) in
      let at : s.passed - root.late - 1 ≡ (length rows - 1) - (root_at p.roots.items k).late = omega (arith, h.all_passed, late) in
      let given : (more : Trace) → v ≡ value_in (h.fed ++ more) (formula_at formulas k) (s.passed - root.late - 1) = λ more. rw (v_is, index, at, ← is.tree, ← is.lateness)
      ((h.gives some more).each (root_at p.roots.items k).index is.inside (omega (arith, is.lateness, late, h.all_passed))) in (
        omega (arith, h.all_passed, late, is.late),
        λ more. given more ∙ alike-value-on p.idle h.fed rows more h.alike (formula_at formulas k) (λ idle. h.of.idle idle k inside) (s.passed - root.late - 1),
      )

  pub ended_value : Closes p s formulas rows → k < length formulas → root.late < s.passed
      → v ≡ value_in rows (formula_at formulas k) (s.passed - root.late - 1)
  ended_value h inside ready =
      let is = h.of.each k inside in
      let late : root.late ≡ (root_at p.roots.items k).late = ap (λ (o : Operand). o.late) root_is in
      let index : root.index ≡ (root_at p.roots.items k).index = ap (λ (o : Operand). o.index) root_is in
      let at : s.passed - root.late - 1 ≡ (s.passed - 1) - (root_at p.roots.items k).late = omega (arith, late) in
      let given : v ≡ value_in h.fed (formula_at formulas k) (s.passed - root.late - 1) =
      rw (v_is, index, at, ← is.tree, ← is.lateness)
      ((h.gives (omega arith)).each (root_at p.roots.items k).index is.inside (omega (arith, is.lateness, late))) in
      given ∙ alike-value p.idle h.fed rows h.alike (formula_at formulas k) (λ idle. h.of.idle idle k inside) (s.passed - root.late - 1)

-- The last value of a formula is that at the position which the last row has decided.
pub last_given : (p : Program) (s : TraceState) (formulas : List FormulaTree) (rows : Trace) → Follows p s formulas rows → (k : ℕ) → k < length formulas
    → reach_of (formula_at formulas k) < length rows → (more : Trace)
    → last_value p s k ≡ value_in (rows ++ more) (formula_at formulas k) (length rows - 1 - reach_of (formula_at formulas k))
last_given p s formulas rows h k inside ready more =
    let root = root_at p.roots.items k in
    let late : root.late ≡ reach_of (formula_at formulas k) = (h.of.each k inside).late in
    let value = (fed_value p s formulas rows k root (last_value p s k) refl refl h inside (omega (arith, late, ready, h.all_passed))).1 more in
    let at : s.passed - root.late - 1 ≡ length rows - 1 - reach_of (formula_at formulas k) = omega (arith, late, h.all_passed) in
    rw at at value

-- One row beyond the end after another, a formula's next answer comes.
pub IsNext-ended : (answer : Option (ℕ × Verdict)) (t : FormulaTree) (rows : Trace) (past next : ℕ) → length rows + past ≡ next + reach_of t + 1 → past ≤ reach_of t
    → next < length rows → IsEnded answer t rows past → IsNext answer t rows next
IsNext-ended None t rows past next count few inside ended = elim ended [
  | inl early ↦ absurd (omega (arith, early, count))
  | inr late ↦ absurd (omega (arith, late, few))
]
IsNext-ended (Some a) t rows past next count few inside ended =
    let here : a.0 ≡ next = omega (arith, ended.0, count) in
    (here, inside, rw here at ended.2)
