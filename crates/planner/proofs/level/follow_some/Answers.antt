use Rattle.std.proofs.Common.{◌≡◌, ℕ, ◌+◌, ◌<◌, inl, inr, List, length, get_or, sym, ap, subst, ◌∙◌, arith}
use Rattle.std.proofs.lemmas.Bool.{cases_lt}
use Rattle.std.proofs.lemmas.List.{length-set}
use Rattle.std.proofs.lemmas.List.Elements.{All-set}
use Rattle.plan_situations.specs.FailingPlans.{BreaksARule}
use Rattle.planner.specs.Inner.Levels.{IsFollowedTo}
use Rattle.planner.specs.Inner.Watching.{IsEarly, IsReady}
use Rattle.plan_situations.specs.Prefixes.{reached}
use Rattle.plan_situations.specs.Situations.{IsTarget}
use Rattle.plan_situations.specs.declared.situation.Target.{Target}
use Rattle.planner.specs.declared.watched.Watched.{Watched}
use Rattle.plan_situations.proofs.FlatList.{some_here}
use Rattle.planner.proofs.Places.{done_from, followed_here, others_set, rules_few, stands_here, told_here}
use Rattle.planner.proofs.level.follow_some.Goals as goal

pub follow_from-requires-clause-towards : goal.follow_from-requires-clause-towards
follow_from-requires-clause-towards c =
    let s = c.args.situation.now in
    let k = c.loop-k.k in
    let count = c.requires.targets.count in
    let long = c.requires.inside in
    let lt = c.loop-k-test.true in
    let inside : k < length s.targets = omega arith in
    let T = c.index-as_slice-k.result in
    let is_target : T ≡ get_or s.targets k T = c.index-as_slice-k.is ∙ ap (λ (xs : List Target). get_or xs k T) c.as_slice.ensures in
    record {
      is_situation = c.requires.basis.is_situation;
      is_target = subst (IsTarget s) (sym is_target) (c.requires.basis.is_situation.are_targets k T inside);
      of_rules = c.requires.basis.of_rules;
      few = c.requires.basis.few;
      no_last = c.requires.basis.no_last;
      rules = rules_few s c.args.basis.now c.requires.basis k c.index.result.now c.index.ensures inside T;
    }

pub follow_from-requires-clause-from : goal.follow_from-requires-clause-from
follow_from-requires-clause-from c =
    let count = c.requires.targets.count in
    let long = c.requires.inside in
    let of_from = c.requires.from.count in
    let lt = c.loop-k-test.true in
    subst (IsReady c.args.basis.now.program) (sym c.index-from-k.is) (c.requires.from.ready c.loop-k.k c.index-from-k.result (omega arith))

pub follow_from-requires-clause-early : goal.follow_from-requires-clause-early
follow_from-requires-clause-early c =
    let count = c.requires.targets.count in
    let long = c.requires.inside in
    let of_from = c.requires.from.count in
    let lt = c.loop-k-test.true in
    subst (IsEarly (reached c.args.situation.now c.args.leg.now.index)) (sym c.index-from-k.is) (c.requires.early c.loop-k.k c.index-from-k.result (omega arith))

pub returns-then-follow_from-clause-targets : goal.returns-then-follow_from-clause-targets
returns-then-follow_from-clause-targets c =
    let count = c.requires.targets.count in
    record {
      count = length-set c.loop-k.watched c.loop-k.k c.follow_from.new.watched ∙ (c.loop-k.invariant.count ∙ count);
      ready = All-set (IsReady c.args.basis.now.program) c.loop-k.watched c.loop-k.k c.follow_from.new.watched c.follow_from.ensures.ready c.loop-k.invariant.ready;
    }

pub returns-then-follow_from-clause-others : goal.returns-then-follow_from-clause-others
returns-then-follow_from-clause-others c = λ j w apart.
    let low = c.loop-k.auto.k in
    let lt = c.loop-k-test.true in
    others_set c.loop-k.watched c.args.watched.now c.args.first c.loop-k.k c.follow_from.new.watched low c.loop-k.invariant.others j w
    (elim apart [ inl before ↦ inl before | inr after ↦ inr (omega arith) ])

pub returns-then-follow_from-clause-breaks : goal.returns-then-follow_from-clause-breaks
returns-then-follow_from-clause-breaks c = λ e stands.
    let s = c.args.situation.now in
    let basis = c.args.basis.now in
    let W = c.args.leg.now.plan in
    let k = c.loop-k.k in
    let count = c.requires.targets.count in
    let long = c.requires.inside in
    let lt = c.loop-k-test.true in
    let inside : k < length s.targets = omega arith in
    let T = c.index-as_slice-k.result in
    let A = c.index.result.now in
    let is_target : T ≡ get_or s.targets k T = c.index-as_slice-k.is ∙ ap (λ (xs : List Target). get_or xs k T) c.as_slice.ensures in
    let told = told_here s basis c.requires.basis k T A is_target c.index.ensures inside in
    let P = BreaksARule s W (reached s (c.args.leg.now.index + 1)) in
    let was = stands_here s basis W _ c.args.from.now k T A c.index-from-k.result is_target c.index.ensures c.index-from-k.is inside stands told.cut told.is_cut told.tells in
    some_here P s.targets k T inside (subst P is_target (c.follow_from.ensures.followed.breaks c.if-follow_from.true told.cut (record { is_cut = told.is_cut; tells = told.tells }) was))

pub loop-k-preserved : goal.loop-k-preserved
loop-k-preserved c =
    let s = c.args.situation.now in
    let basis = c.args.basis.now in
    let plan = c.args.leg.now.plan in
    let start = reached s c.args.leg.now.index in
    let end = reached s (c.args.leg.now.index + 1) in
    let k = c.loop-k.k in
    let count = c.requires.targets.count in
    let long = c.loop-k.invariant.count in
    let few = c.requires.inside in
    let lt = c.loop-k-test.true in
    let inside : k < length s.targets = omega arith in
    let within : k < length c.loop-k.watched = omega arith in
    let T = c.index-as_slice-k.result in
    let A = c.index.result.now in
    let W = c.index-from-k.result in
    let next = c.follow_from.new.watched in
    let is_target : T ≡ get_or s.targets k T = c.index-as_slice-k.is ∙ ap (λ (xs : List Target). get_or xs k T) c.as_slice.ensures in
    record {
      count = length-set c.loop-k.watched k next ∙ long;
      ready = All-set (IsReady basis.program) c.loop-k.watched k next c.follow_from.ensures.ready c.loop-k.invariant.ready;
      others = λ j w apart. others_set c.loop-k.watched c.args.watched.now c.args.first k next c.loop-k.auto.k c.loop-k.invariant.others j w apart;
      followed = done_from (λ (j : ℕ) (x : Watched). IsFollowedTo s basis plan start end c.args.from.now j x) c.loop-k.watched c.args.first k next within c.loop-k.invariant.followed
          (record {
            early = c.follow_from.ensures.early c.if-follow_from.false;
            stands = λ stands t a cut is_cut tells.
                followed_here s basis c.requires.basis plan start end c.args.from.now k T A W next is_target c.index.ensures c.index-from-k.is inside
                (λ cut is_cut tells was. c.follow_from.ensures.followed.stands c.if-follow_from.false cut (record { is_cut = is_cut; tells = tells }) was)
                stands t a cut is_cut tells;
          });
    }

pub returns-clause-targets : goal.returns-clause-targets
returns-clause-targets c = record {
  count = c.loop-k.invariant.count ∙ c.requires.targets.count;
  ready = c.loop-k.invariant.ready;
}

pub returns-clause-others : goal.returns-clause-others
returns-clause-others c = λ j w apart. c.loop-k.invariant.others j w (elim apart [
  | inl before ↦ inl before
  | inr after ↦ (elim (cases_lt j c.loop-k.k) [ inl lt ↦ absurd (let most = c.loop-k.auto.k-end c.requires.ordered in omega arith) | inr le ↦ inr le ])
])

pub returns-clause-followed : goal.returns-clause-followed
returns-clause-followed c = λ e j w low lt.
    let over = c.loop-k-test.false in
    c.loop-k.invariant.followed j w low (omega arith)
