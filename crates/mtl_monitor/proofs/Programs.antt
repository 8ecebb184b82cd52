-- Programs and the states of traces.
use Rattle.std.proofs.Common.{◌≡◌, sym, ◌∙◌, arith, false, inl, List, [], ◌++◌}
use Rattle.std.proofs.lemmas.Bool.{true≢false}
use Rattle.mtl_formulas.specs.FormulaTree.{FormulaTree}
use Rattle.mtl_monitor.specs.declared.program.Program.{Program}
use Rattle.mtl_monitor.specs.declared.trace_state.TraceState.{TraceState}
use Rattle.mtl_formulas.specs.Traces.{Trace}
use Rattle.mtl_monitor.specs.Inner.Reading.{AreAllListed}
use Rattle.mtl_monitor.specs.Inner.Starting.{AreFresh}
use Rattle.mtl_monitor.specs.Following.{IsProgramWith, IsProgramOf, Fits, HasRoom, Follows, Closes}
use Rattle.mtl_monitor.specs.Growing.{IsProgramFor}
use Rattle.mtl_formulas.specs.declared.glance.Glance.TheVariants.{Nothing}
use Rattle.mtl_monitor.proofs.Beginning.{Keeps-fresh}

-- A new state follows no rows.
pub Follows-new : (p : Program) (s : TraceState) (formulas : List FormulaTree) → AreFresh p.nodes.items s.states.items s.values.items s.moving.items → s.still ≡ false → s.glance ≡ Nothing
    → s.fed ≡ 0 → s.passed ≡ 0 → IsProgramOf p formulas → Follows p s formulas []
Follows-new p s formulas fresh still glance fed passed is =
    record {
      trees = is.trees;
      of = is.of;
      all_fed = fed;
      all_passed = passed;
      fed = [];
      alike = tt;
      keeps = λ more. record { each = λ k h. Keeps-fresh ([] ++ more) p.nodes.items is.trees _ _ _ _ (is.of.sound.program.computes k h) (fresh.each k h) };
      gives = λ some more. absurd (omega arith);
      quiet = λ k h flag. absurd (true≢false (sym (fresh.move k) ∙ flag));
      still = λ h. absurd (true≢false (sym h ∙ still));
      shown = inl glance;
    }

-- Programs of one formula are equal in all that counts.
pub record AreEqual (p q : Program) : Type 0 where
  pub nodes : p.nodes.items ≡ q.nodes.items
  pub roots : p.roots.items ≡ q.roots.items
  pub reach : p.reach ≡ q.reach
  pub idle : p.idle ≡ q.idle
  pub listed : AreAllListed p.nodes.items p.atoms.items p.asked.items

pub equal_programs : (p q : Program) (t : FormulaTree) → IsProgramFor p t → IsProgramFor q t → AreEqual p q
equal_programs p q t is was =
    record { nodes = is.nodes ∙ sym was.nodes; roots = is.roots ∙ sym was.roots; reach = is.reach ∙ sym was.reach; idle = is.idle ∙ sym was.idle; listed = is.listed }

module _ (p q : Program) (e : AreEqual p q) where
  with_equal : (formulas trees : List FormulaTree) → IsProgramWith q formulas trees → IsProgramWith p formulas trees
  with_equal formulas trees is =
      record { sound = rw e.nodes is.sound; count = rw e.roots is.count; each = rw (e.nodes, e.roots) is.each; farthest = rw e.reach is.farthest; listed = e.listed; idle = rw e.idle is.idle }

  pub Follows-equal : (s : TraceState) (formulas : List FormulaTree) (rows : Trace) → Follows q s formulas rows → Follows p s formulas rows
  Follows-equal s formulas rows h =
      record {
        trees = h.trees;
        of = with_equal formulas h.trees h.of;
        fed = h.fed;
        alike = rw e.idle h.alike;
        all_fed = h.all_fed;
        all_passed = h.all_passed;
        keeps = rw e.nodes h.keeps;
        gives = rw e.nodes h.gives;
        quiet = rw e.nodes h.quiet;
        still = rw e.nodes h.still;
        shown = rw e.nodes h.shown;
      }

  pub Closes-equal : (s : TraceState) (formulas : List FormulaTree) (rows : Trace) → Closes q s formulas rows → Closes p s formulas rows
  Closes-equal s formulas rows h =
      record {
        trees = h.trees;
        of = with_equal formulas h.trees h.of;
        fed = h.fed;
        alike = rw e.idle h.alike;
        all_fed = h.all_fed;
        all_passed = h.all_passed;
        keeps = rw e.nodes h.keeps;
        gives = rw e.nodes h.gives;
        quiet = rw e.nodes h.quiet;
        still = rw e.nodes h.still;
        shown = rw e.nodes h.shown;
      }

  pub Fits-equal : (s : TraceState) → Fits q s → Fits p s
  Fits-equal s h = record { states = rw e.nodes h.states; values = rw e.nodes h.values; moving = rw e.nodes h.moving }

  pub HasRoom-equal : (s : TraceState) → HasRoom q s → HasRoom p s
  HasRoom-equal s h = rw e.nodes h
