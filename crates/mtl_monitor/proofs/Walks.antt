-- A walk through the nodes, which may leave quiet ones as they are.
use Rattle.std.proofs.Common.{◌≡◌, ◌≢◌, ℕ, zero, suc, ◌+◌, ◌-◌, ◌<◌, ◌≤◌, ◌%◌, refl, subst, sym, ◌∙◌, arith, Bool, true, false, inl, inr, List, length, get_or-set_other, get_or-set_same, below_more}
use Rattle.std.proofs.lemmas.Bool.Decides.{eqb_tells}
use Rattle.std.specs.Int.{bit_at}
use Rattle.std.proofs.lemmas.List.{length-set}
use Rattle.mtl_formulas.specs.declared.atom.Atom.{Atom}
use Rattle.mtl_formulas.specs.declared.verdict.Verdict.{Verdict}
use Rattle.mtl_formulas.specs.declared.verdict.Verdict.TheVariants.{Open}
use Rattle.mtl_formulas.specs.FormulaTree.{FormulaTree}
use Rattle.mtl_monitor.specs.declared.node.ProgramNode.{ProgramNode}
use Rattle.mtl_monitor.specs.declared.node.Kept.{Kept}
use Rattle.mtl_monitor.specs.declared.node.Kept.TheVariants as kinds
use Rattle.mtl_formulas.specs.Traces.{Trace}
use Rattle.mtl_monitor.specs.Inner.Steps.{value_at, given, kept}
use Rattle.mtl_monitor.specs.Inner.Standing.{tree_at, node_at, late_at, state_at, IsRow, EndsAt, IsProgram, Midway, AllOperands, OperandsBelow, AllBelow}
use Rattle.mtl_monitor.specs.Inner.Marks.{IsUnmarked, OnlyMarked}
use Rattle.mtl_monitor.specs.Inner.Quiet.{AreAnswered, IsQuiet, GoesOn, flag_at, Moves, CanStay, IsReached, MayRest, Walk}
use Rattle.mtl_monitor.proofs.NodeRows.{Keeps-row, IsGiven-row}
use Rattle.mtl_monitor.proofs.Rows.{Midway-next}
use Rattle.mtl_monitor.proofs.Shapes.{HaveShapes-next}
use Rattle.mtl_monitor.proofs.QuietNodes.{IsQuiet-later, IsQuiet-passed, IsQuiet-same, IsQuiet-atom, Answers-given, Answers-all}
use Rattle.mtl_monitor.proofs.Operands.{operands_are}

-- A node whose value and state a row would not change has passed it.
Midway-stays : (trace : Trace) (trees : List FormulaTree) (nodes : List ProgramNode) (states : List Kept) (values : List Verdict) (i k : ℕ) (row : Atom → Verdict) (end : ℕ)
    → IsProgram nodes trees → k < length nodes → IsRow trace row i → EndsAt trace i end
    → given (node_at nodes k).operator (state_at states k) (late_at nodes k) values row i end ≡ value_at values k
    → kept (node_at nodes k).operator (state_at states k) (late_at nodes k) values i ≡ state_at states k
    → Midway trace trees nodes states values i k → Midway trace trees nodes states values i (k + 1)
Midway-stays trace trees nodes states values i k row end program inside answers ends gives still m =
    record {
      passed = below_more _ _ m.passed
          (rw (← still)
          (Keeps-row trace trees nodes values row i end k (node_at nodes k).operator (state_at states k) (late_at nodes k) (tree_at trees k) (program.computes k inside) (program.below k inside) m.gave (m.waiting k (omega arith) inside)));
      gave = below_more _ _ m.gave
          (rw (← gives)
          (IsGiven-row trace trees nodes values row i end k (node_at nodes k).operator (state_at states k) (late_at nodes k) (tree_at trees k) (program.computes k inside) (program.below k inside) m.gave (m.waiting k (omega arith) inside) answers ends));
      waiting = λ j after h. m.waiting j (omega arith) h;
    }

module _ (nodes : List ProgramNode) (states : List Kept) (before values : List Verdict) (moving : List Bool) (i end marks : ℕ) where
  -- before the first node
  pub Walk-begins : length states ≡ length nodes → length values ≡ length nodes → length moving ≡ length nodes
      → Walk nodes states before values moving i end marks states values moving marks true 0
  Walk-begins s v m =
      record {
        states_fit = s;
        values_fit = v;
        moving_fit = m;
        states_ahead = λ j h. refl;
        values_ahead = λ j h. refl;
        moving_ahead = λ j h. refl;
        changed = λ h. h;
        answered = λ row h. h;
        midway = λ trace trees row program answers ends rest answered keeps.
            record { passed = λ j h. absurd (omega arith); gave = λ j h. absurd (omega arith); waiting = λ j after h. keeps.each j h };
        quiet = λ next onward rest below j h flag. absurd (omega arith);
        shapes = λ h. h;
        all_still = λ h j early. absurd (omega arith);
      }

  module _ (states' : List Kept) (values' : List Verdict) (moving' : List Bool) (marks' : ℕ) (still : Bool) (k : ℕ) (inside : k < length nodes)
      (w : Walk nodes states before values moving i end marks states' values' moving' marks' still k) where
    was_quiet : CanStay nodes moving' i end marks' k → MayRest nodes states before values moving i end marks
        → IsQuiet (node_at nodes k).operator (state_at states' k) (late_at nodes k) values' (value_at values' k) i end
    was_quiet can rest = elim (rest.reads.others k inside) [
      | inl atom ↦ IsQuiet-atom (node_at nodes k).operator (state_at states' k) (late_at nodes k) values' (value_at values' k) i end atom was.ready
      | inr same ↦
          let value : value_at values' k ≡ value_at before k = w.values_ahead k (omega arith) ∙ same in
          rw (w.states_ahead k (omega arith), value)
          (IsQuiet-same before values' i (node_at nodes k).operator (state_at states k) (late_at nodes k) (value_at before k)
          (operands_are (IsUnmarked marks') (λ a. value_at values' a ≡ value_at before a) (w.changed rest.reads.changed) (node_at nodes k).operator can.unmarked) end was)
    ]
      where
        was : IsQuiet (node_at nodes k).operator (state_at states k) (late_at nodes k) before (value_at before k) i end
        was = rest.quiet k inside (sym (w.moving_ahead k (omega arith)) ∙ can.rests)

    -- a quiet node is left
    pub Walk-stays : CanStay nodes moving' i end marks' k → Walk nodes states before values moving i end marks states' values' moving' marks' still (k + 1)
    Walk-stays can =
        record {
          states_fit = w.states_fit;
          values_fit = w.values_fit;
          moving_fit = w.moving_fit;
          states_ahead = λ j h. w.states_ahead j (omega arith);
          values_ahead = λ j h. w.values_ahead j (omega arith);
          moving_ahead = λ j h. w.moving_ahead j (omega arith);
          changed = w.changed;
          answered = w.answered;
          midway = λ trace trees row program answers ends rest answered keeps.
              let was = was_quiet can rest in
              Midway-stays trace trees nodes states' values' i k row end program inside answers ends (was.gives can.uncrossed row (w.answered row answered k inside)) was.keeps
              (w.midway trace trees row program answers ends rest answered keeps);
          quiet = λ next onward rest below.
              below_more _ _ (w.quiet next onward rest below)
              (λ flag. IsQuiet-later values' i (node_at nodes k).operator (state_at states' k) (late_at nodes k) (value_at values' k) end next onward can.uncrossed (was_quiet can rest));
          shapes = w.shapes;
          all_still = λ h. below_more _ _ (w.all_still h) can.rests;
        }

    -- a node is passed
    module _ (states'' : List Kept) (values'' : List Verdict) (moving'' : List Bool) (changed : Bool)
        (m : Moves nodes states' states'' values' values'' moving' moving'' i end k changed) where
      other_state : (j : ℕ) → j ≢ k → state_at states'' j ≡ state_at states' j
      other_state j ne = rw m.states_are (get_or-set_other states' k j m.keeps kinds.Plain ne)

      this_state : state_at states'' k ≡ m.keeps
      this_state = let fits : k < length states' = omega (arith, w.states_fit) in rw m.states_are (get_or-set_same states' k m.keeps kinds.Plain fits)

      other_value : (j : ℕ) → j ≢ k → value_at values'' j ≡ value_at values' j
      other_value j ne = rw m.values_are (get_or-set_other values' k j m.value Open ne)

      this_value : value_at values'' k ≡ m.value
      this_value = let fits : k < length values' = omega (arith, w.values_fit) in rw m.values_are (get_or-set_same values' k m.value Open fits)

      other_flag : (j : ℕ) → j ≢ k → flag_at moving'' j ≡ flag_at moving' j
      other_flag j ne = rw m.moving_are (get_or-set_other moving' k j m.flag true ne)

      this_flag : flag_at moving'' k ≡ m.flag
      this_flag = let fits : k < length moving' = omega (arith, w.moving_fit) in rw m.moving_are (get_or-set_same moving' k m.flag true fits)

      -- the operands of a node up to this one
      same_operands : (j : ℕ) → j ≤ k → OperandsBelow j (node_at nodes j).operator → AllOperands (λ a. value_at values'' a ≡ value_at values' a) (node_at nodes j).operator
      same_operands j h = operands_are (λ a. a < j) (λ a. value_at values'' a ≡ value_at values' a) (λ a lower. other_value a (omega arith)) (node_at nodes j).operator

      passed_quiet : (next : ℕ) → GoesOn i end next → AllBelow nodes → flag_at moving'' k ≡ false
          → IsQuiet (node_at nodes k).operator (state_at states'' k) (late_at nodes k) values'' (value_at values'' k) (i + 1) next
      passed_quiet next onward below flag =
          let rests = m.rests (sym this_flag ∙ flag) in
          let still : m.keeps ≡ state_at states' k = rests.2 in
          let value : value_at values'' k ≡ given (node_at nodes k).operator (state_at states' k) (late_at nodes k) values' (λ a. value_at values' k) i end =
          this_value ∙ m.value_is (λ a. value_at values' k) (Answers-all (node_at nodes k).operator (value_at values' k)) in
          rw (this_state, still, value)
          (IsQuiet-same values' values'' (i + 1) (node_at nodes k).operator (state_at states' k) (late_at nodes k) _ (same_operands k (omega arith) (below k inside)) next
          (IsQuiet-passed values' i (node_at nodes k).operator (state_at states' k) (late_at nodes k) (λ a. value_at values' k) end next onward rests.0 rests.1 (sym m.kept_is ∙ still)))

      pub Walk-moves : (marks'' : ℕ) → (IsUnmarked marks'' k → changed ≡ false) → ((j : ℕ) → bit_at marks'' j ≡ 0 → bit_at marks' j ≡ 0)
          → (still' : Bool) → (still' ≡ true → (still ≡ true) × (flag_at moving'' k ≡ false))
          → Walk nodes states before values moving i end marks states'' values'' moving'' marks'' still' (k + 1)
      Walk-moves marks'' here more still' stiller =
          record {
            states_fit = rw m.states_are (length-set states' k m.keeps ∙ w.states_fit);
            values_fit = rw m.values_are (length-set values' k m.value ∙ w.values_fit);
            moving_fit = rw m.moving_are (length-set moving' k m.flag ∙ w.moving_fit);
            states_ahead = λ j h. other_state j (omega arith) ∙ w.states_ahead j (omega arith);
            values_ahead = λ j h. other_value j (omega arith) ∙ w.values_ahead j (omega arith);
            moving_ahead = λ j h. other_flag j (omega arith) ∙ w.moving_ahead j (omega arith);
            changed = only_marked;
            answered = answered_after;
            midway = λ trace trees row program answers ends rest answered keeps.
                rw (m.states_are, m.values_are)
                (Midway-next trace trees nodes states' values' i k row end kinds.Plain m.keeps m.value program inside w.states_fit w.values_fit answers ends
                (m.value_is row (w.answered row answered k inside)) m.kept_is
                (w.midway trace trees row program answers ends rest answered keeps));
            quiet = λ next onward rest below.
                below_more _ _ (λ j h flag. quiet_before next j h (w.quiet next onward rest below j h (sym (other_flag j (omega arith)) ∙ flag)) (below j (omega arith)))
                (passed_quiet next onward below);
            shapes = λ h. rw m.states_are (HaveShapes-next nodes states' k (late_at nodes k) values' i kinds.Plain m.keeps inside m.kept_is (w.shapes h));
            all_still = λ h. below_more _ _ (λ j b. other_flag j (omega arith) ∙ w.all_still (stiller h).0 j b) (stiller h).1;
          }
        where
          only_marked : OnlyMarked before values marks → OnlyMarked before values'' marks''
          only_marked h j unmarked = elim (eqb_tells j k) [
            | inl equal ↦
                let same : j ≡ k = equal.1 in
                let free : IsUnmarked marks'' k = rw same at unmarked in
                rw same (this_value ∙ (m.same (here free) ∙ w.changed h k (more (k % 64) free)))
            | inr other ↦ other_value j other.1 ∙ w.changed h j (more (j % 64) unmarked)
          ]

          answered_after : (row : Atom → Verdict) → AreAnswered nodes values row → AreAnswered nodes values'' row
          answered_after row h j within = elim (eqb_tells j k) [
            | inl equal ↦
                let same : j ≡ k = equal.1 in
                let value : value_at values'' k ≡ given (node_at nodes k).operator (state_at states' k) (late_at nodes k) values' row i end =
                this_value ∙ m.value_is row (w.answered row h k inside) in
                rw (same, value) (Answers-given (node_at nodes k).operator (state_at states' k) (late_at nodes k) values' row i end)
            | inr other ↦ rw (other_value j other.1) (w.answered row h j within)
          ]

          quiet_before : (next j : ℕ) → j < k
              → IsQuiet (node_at nodes j).operator (state_at states' j) (late_at nodes j) values' (value_at values' j) (i + 1) next
              → OperandsBelow j (node_at nodes j).operator
              → IsQuiet (node_at nodes j).operator (state_at states'' j) (late_at nodes j) values'' (value_at values'' j) (i + 1) next
          quiet_before next j h was below =
              let other : j ≢ k = omega arith in
              rw (other_state j other, other_value j other)
              (IsQuiet-same values' values'' (i + 1) (node_at nodes j).operator (state_at states' j) (late_at nodes j) (value_at values' j) (same_operands j (omega arith) below) next was)

  -- all nodes up to an index are left
  Walk-on : (states' : List Kept) (values' : List Verdict) (moving' : List Bool) (marks' : ℕ) (still : Bool) (start count : ℕ)
      → IsReached nodes moving' i end marks' start (start + count)
      → Walk nodes states before values moving i end marks states' values' moving' marks' still start
      → Walk nodes states before values moving i end marks states' values' moving' marks' still (start + count)
  Walk-on states' values' moving' marks' still start zero reached w = let here : start + zero ≡ start = omega arith in rw here w
  Walk-on states' values' moving' marks' still start (suc count) reached w =
      let next : start + suc count ≡ (start + count) + 1 = omega arith in
      let earlier : IsReached nodes moving' i end marks' start (start + count) =
      record { after = omega arith; inside = omega (arith, reached.inside); stay = λ j h from. reached.stay j (omega arith) from } in
      rw next
      (Walk-stays states' values' moving' marks' still (start + count) (omega (arith, reached.inside))
      (Walk-on states' values' moving' marks' still start count earlier w) (reached.stay (start + count) (omega arith) (omega arith)))

  pub Walk-reached : (states' : List Kept) (values' : List Verdict) (moving' : List Bool) (marks' : ℕ) (still : Bool) (start k : ℕ)
      → IsReached nodes moving' i end marks' start k
      → Walk nodes states before values moving i end marks states' values' moving' marks' still start
      → Walk nodes states before values moving i end marks states' values' moving' marks' still k
  Walk-reached states' values' moving' marks' still start k reached w =
      let sum : start + (k - start) ≡ k = omega (arith, reached.after) in
      subst (λ (n : ℕ). Walk nodes states before values moving i end marks states' values' moving' marks' still n) sum
      (Walk-on states' values' moving' marks' still start (k - start) (rw sum reached) w)
