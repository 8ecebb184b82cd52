use Rattle.std.proofs.Common.{◌≡◌, ℕ, ◌<◌, ◌∷◌, [], List, length, get_or, ap, sym, subst, ◌∙◌, arith, length-append}
use Rattle.std.specs.List.{All}
use Rattle.std.proofs.lemmas.List.{get_or_default}
use Rattle.std.proofs.lemmas.List.Elements.{All-push}
use Rattle.planner.specs.Inner.Levels.{IsToldAtNow}
use Rattle.planner.specs.Inner.Watching.{IsEarly, IsReady, StandsFor}
use Rattle.plan_situations.specs.Situations.{now_of}
use Rattle.planner.specs.declared.already.Already.{Already}
use Rattle.plan_situations.specs.declared.situation.Target.{Target}
use Rattle.planner.specs.declared.watched.Watched.{Watched}
use Rattle.planner.proofs.AtNow.{push_at, stands_at_now, told_at_now}
use Rattle.planner.proofs.walk.watch_each.Goals as goal

pub loop-target-preserved : goal.loop-target-preserved
loop-target-preserved c =
    let s = c.args.situation.now in
    let program = c.loop-target.basis.program in
    let k = c.loop-target.target-index in
    let T = c.target-item.result in
    let here = c.in_ok-here.here in
    let already = c.in_ok-already.field-0 in
    let was = c.loop-target.invariant in
    let told_count = was.told_count in
    let count = was.count in
    let inside : k < length s.targets = subst (λ (xs : List Target). k < length xs) c.as_slice-target-items.ensures c.loop-target-test.true in
    let is_target : T ≡ get_or s.targets k T = c.target-item.is ∙ ap (λ (xs : List Target). get_or xs k T) c.as_slice-target-items.ensures in
    let pushed = c.in_ok-push.ensures.items in
    let pushed_too = c.in_ok-push-2.ensures.items in
    let told : (t : Target) → IsToldAtNow s (get_or s.targets k t) already = λ t.
    subst (λ (x : Target). IsToldAtNow s x already) (is_target ∙ get_or_default s.targets k T t inside) (told_at_now program s T here already c.in_ok-here.ensures.stands c.in_ok-already.ensures.tells) in
    let stands : (t : Target) → StandsFor program s [] (get_or s.targets k t) (now_of s) here = λ t.
    subst (λ (x : Target). StandsFor program s [] x (now_of s) here) (is_target ∙ get_or_default s.targets k T t inside) c.in_ok-here.ensures.stands in
    record {
      of_rules = was.of_rules;
      few = was.few;
      no_last = was.no_last;
      told_count = omega (arith, ap length pushed, length-append c.loop-target.basis.already.items (already ∷ []));
      count = omega (arith, ap length pushed_too, length-append c.loop-target.start.watched.items (here ∷ []));
      fits = c.in_ok-already.ensures.fits;
      room = c.in_ok-already.ensures.room;
      ready = subst (All (IsReady program)) (sym pushed_too) (All-push (IsReady program) c.loop-target.start.watched.items here was.ready c.in_ok-here.ensures.ready);
      early = subst (All (IsEarly (now_of s))) (sym pushed_too) (All-push (IsEarly (now_of s)) c.loop-target.start.watched.items here was.early c.in_ok-here.ensures.early);
      told = λ i a lt. push_at (λ (n : ℕ) (x : Already). (t : Target) → IsToldAtNow s (get_or s.targets n t) x) c.loop-target.basis.already.items c.push.new.self.items already pushed was.told
          (subst (λ (n : ℕ). (t : Target) → IsToldAtNow s (get_or s.targets n t) already) (sym told_count) told) i a
          (omega (arith, ap length pushed, length-append c.loop-target.basis.already.items (already ∷ [])));
      stands = λ i w lt. push_at (λ (n : ℕ) (x : Watched). (t : Target) → StandsFor program s [] (get_or s.targets n t) (now_of s) x) c.loop-target.start.watched.items c.push-in-loop-target.new.self.items here pushed_too was.stands
          (subst (λ (n : ℕ). (t : Target) → StandsFor program s [] (get_or s.targets n t) (now_of s) here) (sym count) stands) i w
          (omega (arith, ap length pushed_too, length-append c.loop-target.start.watched.items (here ∷ [])));
      since = subst (All (λ (w : Watched). w.since_now ≡ 0)) (sym pushed_too) (All-push (λ (w : Watched). w.since_now ≡ 0) c.loop-target.start.watched.items here was.since c.in_ok-here.ensures.since);
    }

pub returns : goal.returns
returns c =
    let s = c.args.situation.now in
    let program = c.loop-target.basis.program in
    let was = c.loop-target.invariant in
    let told_count = was.told_count in
    let count = was.count in
    let over = c.loop-target-test.false in
    let end = c.loop-target.auto.target-index-end in
    let all : c.loop-target.target-index ≡ length s.targets = omega (arith, ap length c.as_slice-target-items.ensures) in
    record {
      is_basis = record {
        is_situation = c.requires.situation;
        of_rules = was.of_rules;
        few = was.few;
        no_last = was.no_last;
        count = told_count ∙ all;
        each = λ k t a lt. was.told k a (omega arith) t;
      };
      targets = record {
        count = count ∙ all;
        ready = was.ready;
      };
      early = was.early;
      stands = λ k t a w cut lt is_cut tells.
          stands_at_now program s (get_or s.targets k t) (get_or c.loop-target.start.watched.items k w) cut (was.stands k w (omega arith) t) (was.since k w (omega arith)) is_cut;
      fits = was.fits;
      room = was.room;
    }
