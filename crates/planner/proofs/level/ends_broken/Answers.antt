use Rattle.std.proofs.Common.{◌≡◌, ◌<◌, List, length, get_or, refl, sym, ap, subst, ◌∙◌, arith}
use Rattle.plan_situations.specs.FailingPlans.{BreaksARule}
use Rattle.plan_situations.specs.Situations.{IsTarget}
use Rattle.plan_situations.specs.declared.situation.Target.{Target}
use Rattle.plan_situations.proofs.FlatList.{none_some, none_so_far_of, some_here}
use Rattle.planner.proofs.Places.{rules_few, stands_here, told_here}
use Rattle.planner.proofs.level.ends_broken.Goals as goal

pub ends_newly_broken-requires-clause-towards : goal.ends_newly_broken-requires-clause-towards
ends_newly_broken-requires-clause-towards c =
    let s = c.args.situation.now in
    let k = c.loop-k.k in
    let count = c.requires.targets.count in
    let lt = c.loop-k-test.true in
    let inside : k < length s.targets = omega arith in
    let T = c.index-as_slice-k.result in
    let is_target : T ≡ get_or s.targets k T = c.index-as_slice-k.is ∙ ap (λ (xs : List Target). get_or xs k T) c.as_slice.ensures in
    record {
      is_situation = c.requires.basis.is_situation;
      is_target = subst (IsTarget s) (sym is_target) (c.requires.basis.is_situation.are_targets k T inside);
      of_rules = c.requires.basis.of_rules;
      few = c.requires.basis.few;
      no_last = c.requires.basis.no_last;
      rules = rules_few s c.args.basis.now c.requires.basis k c.index.result.now c.index.ensures inside T;
    }

pub returns-then-ends_newly_broken-clause-breaks : goal.returns-then-ends_newly_broken-clause-breaks
returns-then-ends_newly_broken-clause-breaks c = λ plan at le stands.
    let s = c.args.situation.now in
    let k = c.loop-k.k in
    let count = c.requires.targets.count in
    let lt = c.loop-k-test.true in
    let inside : k < length s.targets = omega arith in
    let T = c.index-as_slice-k.result in
    let A = c.index.result.now in
    let is_target : T ≡ get_or s.targets k T = c.index-as_slice-k.is ∙ ap (λ (xs : List Target). get_or xs k T) c.as_slice.ensures in
    let told = told_here s c.args.basis.now c.requires.basis k T A is_target c.index.ensures inside in
    let was = stands_here s c.args.basis.now plan at c.args.watched.now k T A c.index-watched-k.result is_target c.index.ensures c.index-watched-k.is inside stands told.cut told.is_cut told.tells in
    let P = BreaksARule s plan at in (
      λ t. some_here P s.targets k T inside (subst P is_target ((c.ends_newly_broken.ensures.breaks plan told.cut at le (record { is_cut = told.is_cut; tells = told.tells }) was).0 c.if-ends_newly_broken.true)),
      λ t. refl,
    )

pub loop-k-preserved : goal.loop-k-preserved
loop-k-preserved c =
    let s = c.args.situation.now in
    let k = c.loop-k.k in
    let count = c.requires.targets.count in
    let lt = c.loop-k-test.true in
    let inside : k < length s.targets = omega arith in
    let T = c.index-as_slice-k.result in
    let A = c.index.result.now in
    let is_target : T ≡ get_or s.targets k T = c.index-as_slice-k.is ∙ ap (λ (xs : List Target). get_or xs k T) c.as_slice.ensures in
    let told = told_here s c.args.basis.now c.requires.basis k T A is_target c.index.ensures inside in
    record {
      fits = c.ends_newly_broken.ensures.fits;
      room = c.ends_newly_broken.ensures.room;
      passes = λ plan at le stands j t below.
          let was = stands_here s c.args.basis.now plan at c.args.watched.now k T A c.index-watched-k.result is_target c.index.ensures c.index-watched-k.is inside stands told.cut told.is_cut told.tells in
          none_so_far_of (BreaksARule s plan at) s.targets k T inside is_target (c.loop-k.invariant.passes plan at le stands)
          (λ h. let broken = (c.ends_newly_broken.ensures.breaks plan told.cut at le (record { is_cut = told.is_cut; tells = told.tells }) was).1 h in let f = c.if-ends_newly_broken.false in cc) j t below;
    }

pub returns-clause-breaks : goal.returns-clause-breaks
returns-clause-breaks c = λ plan at le stands. (
  λ t. cc,
  λ h. absurd (none_some (BreaksARule c.args.situation.now plan at) c.args.situation.now.targets
      (λ k d inside. let count = c.requires.targets.count in let over = c.loop-k-test.false in c.loop-k.invariant.passes plan at le stands k d (omega arith)) h),
)
