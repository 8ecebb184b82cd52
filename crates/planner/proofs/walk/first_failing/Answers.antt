use Rattle.std.proofs.Common.{◌≡◌, ℕ, ◌+◌, ◌<◌, List, length, get_or, sym, ap, subst, ◌∙◌, arith}
use Rattle.std.proofs.lemmas.List.{get_or_default, length-set}
use Rattle.std.proofs.lemmas.List.Elements.{All-set}
use Rattle.mtl_formulas.specs.Traces.{Trace}
use Rattle.plan_situations.specs.FailingPlans.{FailsTowards}
use Rattle.planner.specs.Inner.Breaking.{Tells, formulas_of}
use Rattle.planner.specs.Inner.Watching.{IsCutAtNow, IsEarly, IsReady, Stands}
use Rattle.plan_situations.specs.Prefixes.{reached}
use Rattle.plan_situations.specs.Situations.{IsTarget}
use Rattle.planner.specs.declared.already.Already.{Already}
use Rattle.plan_situations.specs.declared.situation.Target.{Target}
use Rattle.planner.specs.declared.watched.Watched.{Watched}
use Rattle.plan_situations.proofs.FlatList.{none_some, none_so_far_of}
use Rattle.planner.proofs.Places.{beside_here, done_set, rightly_told, rules_few, stands_here}
use Rattle.planner.proofs.walk.first_failing.Goals as goal

pub fails_by-requires-clause-towards : goal.fails_by-requires-clause-towards
fails_by-requires-clause-towards c =
    let s = c.args.situation.now in
    let k = c.loop-k.k in
    let count = c.requires.targets.count in
    let long = c.loop-k.invariant.count in
    let lt = c.loop-k-test.true in
    let inside : k < length s.targets = omega arith in
    let T = c.index-as_slice-k.result in
    let is_target : T ≡ get_or s.targets k T = c.index-as_slice-k.is ∙ ap (λ (xs : List Target). get_or xs k T) c.as_slice.ensures in
    record {
      is_situation = c.requires.basis.is_situation;
      is_target = subst (IsTarget s) (sym is_target) (c.requires.basis.is_situation.are_targets k T inside);
      of_rules = c.requires.basis.of_rules;
      few = c.requires.basis.few;
      no_last = c.requires.basis.no_last;
      rules = rules_few s c.args.basis.now c.requires.basis k c.index.result.now c.index.ensures inside T;
    }

pub fails_by-requires-clause-from : goal.fails_by-requires-clause-from
fails_by-requires-clause-from c =
    let count = c.requires.targets.count in
    let long = c.loop-k.invariant.count in
    let of_from = c.requires.from.count in
    let lt = c.loop-k-test.true in
    subst (IsReady c.args.basis.now.program) (sym c.index-from-k.is) (c.requires.from.ready c.loop-k.k c.index-from-k.result (omega arith))

pub fails_by-requires-clause-early : goal.fails_by-requires-clause-early
fails_by-requires-clause-early c =
    let count = c.requires.targets.count in
    let long = c.loop-k.invariant.count in
    let of_from = c.requires.from.count in
    let lt = c.loop-k-test.true in
    subst (IsEarly (reached c.args.situation.now c.args.leg.now.index)) (sym c.index-from-k.is) (c.requires.early c.loop-k.k c.index-from-k.result (omega arith))

pub fails_by-requires-clause-beside : goal.fails_by-requires-clause-beside
fails_by-requires-clause-beside c =
    let s = c.args.situation.now in
    let k = c.loop-k.k in
    let count = c.requires.targets.count in
    let long = c.loop-k.invariant.count in
    let lt = c.loop-k-test.true in
    let inside : k < length s.targets = omega arith in
    let T = c.index-as_slice-k.result in
    let is_target : T ≡ get_or s.targets k T = c.index-as_slice-k.is ∙ ap (λ (xs : List Target). get_or xs k T) c.as_slice.ensures in
    beside_here s c.args.leg.now.begins (length c.args.path.now) c.args.beside.now k T c.requires.beside inside is_target _

pub returns-then-fails_by-clause-targets : goal.returns-then-fails_by-clause-targets
returns-then-fails_by-clause-targets c =
    let count = c.requires.targets.count in
    record {
      count = length-set c.loop-k.watched c.loop-k.k c.fails_by.new.watched ∙ (c.loop-k.invariant.count ∙ count);
      ready = All-set (IsReady c.args.basis.now.program) c.loop-k.watched c.loop-k.k c.fails_by.new.watched c.fails_by.ensures.ready c.loop-k.invariant.ready;
    }

pub returns-then-fails_by-clause-first : goal.returns-then-fails_by-clause-first
returns-then-fails_by-clause-first c =
    let s = c.args.situation.now in
    let k = c.loop-k.k in
    let count = c.requires.targets.count in
    let long = c.loop-k.invariant.count in
    let lt = c.loop-k-test.true in
    let inside : k < length s.targets = omega arith in
    let T = c.index-as_slice-k.result in
    let is_target : T ≡ get_or s.targets k T = c.index-as_slice-k.is ∙ ap (λ (xs : List Target). get_or xs k T) c.as_slice.ensures in
    let heard = rightly_told s c.args.basis.now c.requires.basis c.args.leg.now.plan _ (reached s (c.args.leg.now.index + 1)) c.args.from.now k T c.index.result.now c.index-from-k.result
    is_target c.index.ensures c.index-from-k.is inside c.requires.stands c.requires.outside c.fails_by.result
    (λ cut is_cut tells stands out. c.fails_by.ensures.fails cut (record { is_cut = is_cut; tells = tells }) stands out) in
    record {
      inside = inside;
      fails = λ d. subst (FailsTowards s c.args.leg.now.plan (reached s (c.args.leg.now.index + 1))) (is_target ∙ get_or_default s.targets k T d inside) (heard.0 c.if-fails_by.true);
      before = c.loop-k.invariant.before;
    }

pub loop-k-preserved : goal.loop-k-preserved
loop-k-preserved c =
    let s = c.args.situation.now in
    let basis = c.args.basis.now in
    let plan = c.args.leg.now.plan in
    let end = reached s (c.args.leg.now.index + 1) in
    let k = c.loop-k.k in
    let count = c.requires.targets.count in
    let long = c.loop-k.invariant.count in
    let lt = c.loop-k-test.true in
    let inside : k < length s.targets = omega arith in
    let many = c.requires.basis.count in
    let T = c.index-as_slice-k.result in
    let A = c.index.result.now in
    let within : k < length c.loop-k.watched = omega arith in
    let W = c.index-from-k.result in
    let next = c.fails_by.new.watched in
    let is_target : T ≡ get_or s.targets k T = c.index-as_slice-k.is ∙ ap (λ (xs : List Target). get_or xs k T) c.as_slice.ensures in
    let heard = rightly_told s c.args.basis.now c.requires.basis c.args.leg.now.plan _ (reached s (c.args.leg.now.index + 1)) c.args.from.now k T c.index.result.now c.index-from-k.result
    is_target c.index.ensures c.index-from-k.is inside c.requires.stands c.requires.outside c.fails_by.result
    (λ cut is_cut tells stands out. c.fails_by.ensures.fails cut (record { is_cut = is_cut; tells = tells }) stands out) in
    record {
      count = length-set c.loop-k.watched k next ∙ long;
      ready = All-set (IsReady basis.program) c.loop-k.watched k next c.fails_by.ensures.ready c.loop-k.invariant.ready;
      fits = c.fails_by.ensures.fits;
      room = c.fails_by.ensures.room;
      early = done_set (λ (i : ℕ) (x : Watched). IsEarly end x) c.loop-k.watched k next within c.loop-k.invariant.early (c.fails_by.ensures.early c.if-fails_by.false);
      stands = λ j t a w cut below is_cut tells.
          done_set (λ (i : ℕ) (x : Watched). (t : Target) (a : Already) (cut : Trace) → IsCutAtNow s (get_or s.targets i t) cut → Tells (formulas_of s) cut (get_or basis.already.items i a)
          → Stands basis.program s plan (get_or s.targets i t) cut end x) c.loop-k.watched k next within
          (λ i x before t a cut is_cut tells. c.loop-k.invariant.stands i t a x cut before is_cut tells)
          (λ t a cut is_cut tells.
          let same_target : get_or s.targets k t ≡ T = get_or_default s.targets k t T inside ∙ sym is_target in
          let same_already : get_or basis.already.items k a ≡ A = get_or_default basis.already.items k a A (omega arith) ∙ sym c.index.ensures in
          let is_cut' = subst (λ (x : Target). IsCutAtNow s x cut) same_target is_cut in
          let tells' = subst (λ (x : Already). Tells (formulas_of s) cut x) same_already tells in
          subst (λ (x : Target). Stands basis.program s plan x cut end next) (sym same_target)
          (c.fails_by.ensures.stands c.if-fails_by.false cut (record { is_cut = is_cut'; tells = tells' })
          (stands_here s basis plan _ c.args.from.now k T A W is_target c.index.ensures c.index-from-k.is inside c.requires.stands cut is_cut' tells')))
          j w below t a cut is_cut tells;
      before = none_so_far_of (FailsTowards s plan end) s.targets k T inside is_target c.loop-k.invariant.before
          (λ h. let t = heard.1 h in let f = c.if-fails_by.false in cc);
    }

pub returns-clause-stands : goal.returns-clause-stands
returns-clause-stands c =
    let count = c.requires.targets.count in
    let long = c.loop-k.invariant.count in
    let over = c.loop-k-test.false in
    λ e k t a w cut inside is_cut tells. c.loop-k.invariant.stands k t a w cut (omega arith) is_cut tells

pub returns-clause-first : goal.returns-clause-first
returns-clause-first c =
    let s = c.args.situation.now in
    let count = c.requires.targets.count in
    let long = c.loop-k.invariant.count in
    let over = c.loop-k-test.false in
    none_some (FailsTowards s c.args.leg.now.plan (reached s (c.args.leg.now.index + 1))) s.targets (λ k d inside. c.loop-k.invariant.before k d (omega arith))
