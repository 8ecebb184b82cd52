use Rattle.std.proofs.Common.{◌≡◌, ℕ, ◌+◌, ◌-◌, ◌*◌, ◌<◌, ◌≤◌, ◌∙◌, refl, sym, ap, subst, arith, List, [], ◌∷◌, ◌++◌, length}
use Rattle.std.proofs.lemmas.List.{length_push, with_items_is}
use Rattle.std.specs.Vec.{with_items}
use Rattle.mtl_formulas.specs.declared.verdict.Verdict.{Verdict}
use Rattle.mtl_formulas.specs.Traces.{value_in}
use Rattle.mtl_monitor.specs.Following.{count_of}
use Rattle.mtl_early.specs.declared.sweeper.SweepNode.{SweepNode}
use Rattle.mtl_early.specs.Inner.Cells.{aged, cell_at}
use Rattle.mtl_early.specs.Inner.Nodes.{AllFit, AllRight, AreLaidOut}
use Rattle.mtl_early.specs.Inner.Zones.{HasZone, IsBehind}
use Rattle.mtl_early.proofs.Rests.{last_same, last_still, reads_fed, reads_last}
use Rattle.mtl_early.proofs.SweepLooks.{root_at, root_value, fed_zone, fed_passed, fed_few, fed_before, fed_old}
use Rattle.mtl_early.proofs.sweep_state.SweepState.feed.Goals as goal

pub returns-then-self-clause-giving : goal.returns-then-self-clause-giving
returns-then-self-clause-giving g c = λ t rows at.
    let p = c.args.program.now in
    let s = c.args.self.now in
    let stands = at.stands in
    let count = c.open_ages-open.result in
    let row = g.A.Atoms.answer c.args.row.now in
    let within = c.open_ages-open.ensures.within in
    let root : c.root_of-root.result ≡ root_at p = rw c.deref.ensures.value at c.root_of-root.ensures in
    let behind : (age : ℕ) → count ≤ age → age < s.size → IsBehind s.cells.items (root_at p) p.reach age = rw (root, c.deref-2.ensures.value) at c.open_ages-open.ensures.behind in
    let follows = c.feed-changed.ensures.follows stands.formulas rows stands.follows in
    let one_more : length (rows ++ row ∷ []) ≡ length rows + 1 = length_push rows row in
    let counted = c.is_counted-counted.ensures c.if-counted.true in
    let same = c.feed-changed.ensures.same counted.0 in
    let rests = stands.rests c.if-self.true in
    let zone : HasZone t (rows ++ row ∷ []) s.size = rw counted.1 at (fed_zone p s count row within behind t rows stands) in
    record {
      before = rows;
      row = row;
      split = refl;
      looks = record {
        stands = record {
          formulas = stands.formulas;
          trees = stands.trees;
          follows = follows;
          computes = stands.computes;
          root = stands.root;
          reach = stands.reach;
          all_fed = omega (arith, stands.all_fed, one_more);
          right = rests.swept rows row (last_same p.program s.state c.feed-changed.new.self stands.formulas rows row same follows) (omega (arith, s.inside, stands.all_fed))
              (λ j inside age below. stands.right j inside age (omega (arith, below)));
          zone = zone;
          rests = λ rested. record {
            swept = λ others other are. rests.swept others other (last_still p.program s.state c.feed-changed.new.self stands.formulas others other same are);
            kept = rests.kept;
          };
        };
        old = λ age below. rests.kept age below ∙ root_value p s t rows age stands (omega (arith, below));
      };
      passed = λ j after below. fed_passed p s count row within behind t rows stands j below;
      behind = omega (arith, fed_few p s count row within behind t rows stands, one_more);
    }

pub returns-clause-giving : goal.returns-clause-giving
returns-clause-giving g c = λ t rows at.
    let p = c.args.program.now in
    let s = c.args.self.now in
    let stands = at.stands in
    let count = c.open_ages-open.result in
    let row = g.A.Atoms.answer c.args.row.now in
    let within = c.open_ages-open.ensures.within in
    let root : c.root_of-root.result ≡ root_at p = rw c.deref.ensures.value at c.root_of-root.ensures in
    let behind : (age : ℕ) → count ≤ age → age < s.size → IsBehind s.cells.items (root_at p) p.reach age = rw (root, c.deref-2.ensures.value) at c.open_ages-open.ensures.behind in
    let kept : (age : ℕ) → age < count → cell_at c.keep_old.new.was age ≡ cell_at s.cells.items (root_at p + age) = rw (root, c.deref-3.ensures.value) at c.keep_old.ensures in
    let follows = c.feed-changed.ensures.follows stands.formulas rows stands.follows in
    let one_more : length (rows ++ row ∷ []) ≡ length rows + 1 = length_push rows row in
    let cells = c.sweep_row-self.new.cells in
    let cells_are : (with_items s.cells cells).items ≡ cells = with_items_is s.cells cells (c.sweep_row-self.auto.cells ∙ c.deref_mut-2.ensures.len) in
    let was_is : (with_items s.was c.keep_old.new.was).items ≡ c.keep_old.new.was = with_items_is s.was c.keep_old.new.was (c.keep_old.auto.was ∙ c.deref_mut.ensures.len) in
    let sweeps = rw (c.deref-4.ensures.value, c.deref_mut-2.ensures.value) at c.sweep_row-self.ensures.right in
    let right : AllRight p.nodes.items stands.trees (with_items s.cells cells).items (count + 1) (rows ++ row ∷ []) =
    rw cells_are (sweeps stands.formulas stands.trees rows row (reads_fed p.program c.feed-changed.new.self stands.formulas rows row follows) stands.computes (fed_few p s count row within behind t rows stands)
    (fed_before p s count row within behind t rows stands)) in
    let old : (age : ℕ) → age + 1 < count + 1 → cell_at (with_items s.was c.keep_old.new.was).items age ≡ value_in rows t (aged rows age) =
    λ age below. rw was_is (fed_old p s count row within behind t rows stands age (cell_at c.keep_old.new.was age) below (kept age (omega (arith, below)))) in
    record {
      before = rows;
      row = row;
      split = refl;
      looks = record {
        stands = record {
          formulas = stands.formulas;
          trees = stands.trees;
          follows = follows;
          computes = stands.computes;
          root = stands.root;
          reach = stands.reach;
          all_fed = omega (arith, stands.all_fed, one_more);
          right = right;
          zone = fed_zone p s count row within behind t rows stands;
          rests = λ rested.
              let stay : cells ≡ s.cells.items = rw c.deref_mut-2.ensures.value at (c.sweep_row-self.ensures.stay rested) in
              let all_same : (with_items s.cells cells).items ≡ s.cells.items = cells_are ∙ stay in
              record {
                swept = λ others other are few before. rw cells_are (sweeps stands.formulas stands.trees others other
                    (reads_last p.program c.feed-changed.new.self stands.formulas rows others row other follows are) stands.computes few (rw all_same at before));
                kept = λ age below. rw (was_is, all_same) (kept age (omega (arith, below)));
              };
        };
        old = old;
      };
      passed = λ j after below. fed_passed p s count row within behind t rows stands j below;
      behind = omega (arith, fed_few p s count row within behind t rows stands, one_more);
    }

pub open_ages-open-requires : goal.open_ages-open-requires
open_ages-open-requires g c =
    let p = c.args.program.now in
    let of = c.requires.of in
    let root : c.root_of-root.result ≡ root_at p = rw c.deref.ensures.value at c.root_of-root.ensures in
    let inside = p.laid_out.inside (length p.nodes.items - 1) (omega (arith, p.some)) in
    omega (arith, root, inside, of.sized, of.cells, ap (λ (cells : List Verdict). length cells) c.deref-2.ensures.value)

pub keep_old-requires : goal.keep_old-requires
keep_old-requires g c =
    let p = c.args.program.now in
    let of = c.requires.of in
    let ages = c.open_ages-open.ensures in
    let root : c.root_of-root.result ≡ root_at p = rw c.deref.ensures.value at c.root_of-root.ensures in
    let inside = p.laid_out.inside (length p.nodes.items - 1) (omega (arith, p.some)) in
    record {
      inside = omega (arith, root, inside, ages.reach, of.cells, ap (λ (cells : List Verdict). length cells) c.deref-3.ensures.value);
      room = omega (arith, ages.reach, of.was, ap (λ (was : List Verdict). length was) c.deref_mut.ensures.value);
    }

pub sweep_row-self-requires : goal.sweep_row-self-requires
sweep_row-self-requires g c =
    let p = c.args.program.now in
    let of = c.requires.of in
    let nodes = c.deref-4.ensures.value in
    let many : length c.deref_mut-2.result.now ≡ length p.nodes.items * (p.reach + 1) = ap (λ (cells : List Verdict). length cells) c.deref_mut-2.ensures.value ∙ of.cells in
    record {
      fits = c.feed-changed.ensures.fits;
      fit = subst (λ (ns : List SweepNode). AllFit (count_of p.program) ns) (sym nodes) p.fit;
      laid_out = subst (λ (ns : List SweepNode). AreLaidOut ns (p.reach + 1) (length c.deref_mut-2.result.now)) (sym nodes)
          (subst (λ (n : ℕ). AreLaidOut p.nodes.items (p.reach + 1) n) (sym many) p.laid_out);
      size = omega (arith, c.open_ages-open.ensures.reach);
      as_many = ap (λ (cells : List Verdict). length cells) c.deref_mut-3.ensures.value ∙ of.before ∙ sym many;
    }

pub returns-then-self-clause-of : goal.returns-then-self-clause-of
returns-then-self-clause-of g c =
    let of = c.requires.of in
    record { fits = c.feed-changed.ensures.fits; cells = of.cells; was = of.was; sized = of.sized; before = of.before }

pub returns-clause-of : goal.returns-clause-of
returns-clause-of g c =
    let s = c.args.self.now in
    let of = c.requires.of in
    let swept = c.sweep_row-self in
    let many = λ (cells : List Verdict). length cells in
    let cells_are = with_items_is s.cells swept.new.cells (swept.auto.cells ∙ c.deref_mut-2.ensures.len) in
    let was_is = with_items_is s.was c.keep_old.new.was (c.keep_old.auto.was ∙ c.deref_mut.ensures.len) in
    let before_is = with_items_is s.before swept.new.before (swept.auto.before ∙ c.deref_mut-3.ensures.len) in
    record {
      fits = c.feed-changed.ensures.fits;
      cells = ap many cells_are ∙ swept.auto.cells ∙ ap many c.deref_mut-2.ensures.value ∙ of.cells;
      was = ap many was_is ∙ c.keep_old.auto.was ∙ ap many c.deref_mut.ensures.value ∙ of.was;
      sized = omega (arith, c.open_ages-open.ensures.reach);
      before = ap many before_is ∙ swept.auto.before ∙ ap many c.deref_mut-3.ensures.value ∙ of.before;
    }
