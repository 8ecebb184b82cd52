use Rattle.std.proofs.Common.{◌≡◌, ◌∙◌, ℕ, refl, sym, arith, below_more}
use Rattle.refutations.specs.declared.entry.Checked.TheVariants as Checked
use Rattle.refutations.specs.RightLists.{IsRight, IsSoundAt}
use Rattle.refutations.proofs.Blocks.{all_sound, ends_here, sound_here, unsound_here}
use Rattle.refutations.proofs.check_list.check_each.Goals as goal

pub loop-k-preserved : goal.loop-k-preserved
loop-k-preserved c =
    let s = c.args.situation.now in
    let xs = c.args.entries.now in
    let k = c.loop-k.k in
    let entry = c.index-entries-k.result in
    let facts = rw c.in-Some.is at c.in_ok-end.ensures.end in
    record {
      replay = c.in_ok-end.ensures.replay;
      same = c.in_ok-end.ensures.same;
      covered = ends_here s xs k c.in-Some.end entry c.loop-k-test.true c.index-entries-k.is facts.2;
      sound = below_more (IsSoundAt s xs) k c.loop-k.invariant.sound
          (sound_here s xs k c.loop-k.covered entry c.loop-k-test.true c.index-entries-k.is c.loop-k.invariant.covered facts.0 facts.1);
    }

pub returns-then-covered-plans-clause-right : goal.returns-then-covered-plans-clause-right
returns-then-covered-plans-clause-right c =
    let s = c.args.situation.now in
    let xs = c.args.entries.now in
    let right : IsRight s xs = record {
      each = λ k lt. c.loop-k.invariant.sound k (omega arith);
      whole = sym (all_sound s xs c.loop-k.k c.loop-k.covered (omega arith) c.loop-k.invariant.covered (omega arith)) ∙ (c.if-covered-plans.true ∙ c.plans.ensures.value);
    } in
    (λ _. right, λ _. refl)

pub returns-in_default-clause-told : goal.returns-in_default-clause-told
returns-in_default-clause-told c =
    let lt = c.loop-k-test.true in
    record {
      within = omega arith;
      before = c.loop-k.invariant.sound;
      here = λ _ sound. unsound_here c.args.situation.now c.args.entries.now c.loop-k.k c.loop-k.covered c.index-entries-k.result c.index-entries-k.is c.loop-k.invariant.covered
          (rw c.in_default.is at c.in_ok-end.ensures.end) sound;
      short = λ e _. absurd (omega (arith, e));
    }

bad_is_not_right : (k : ℕ) → ¬ (Checked.Bad k ≡ Checked.Right)
bad_is_not_right k e = cc

pub returns-in_default-clause-right : goal.returns-in_default-clause-right
returns-in_default-clause-right c = (
  λ e. absurd (bad_is_not_right c.loop-k.k e),
  λ right. absurd (unsound_here c.args.situation.now c.args.entries.now c.loop-k.k c.loop-k.covered c.index-entries-k.result c.index-entries-k.is c.loop-k.invariant.covered
      (rw c.in_default.is at c.in_ok-end.ensures.end) (right.each c.loop-k.k c.loop-k-test.true)),
)
