use Rattle.std.proofs.Common.{◌≡◌, ℕ, ◌<◌, ◌∷◌, [], List, length, get_or, ap, sym, subst, ◌∙◌, arith, length-append}
use Rattle.std.proofs.lemmas.List.{get_or_default}
use Rattle.plan_situations.specs.Boxes.{ahead_from, HoldsPath}
use Rattle.plan_situations.specs.Situations.{IsTarget}
use Rattle.plan_situations.specs.declared.boxes.Bounds.{Bounds}
use Rattle.plan_situations.specs.declared.situation.Target.{Target}
use Rattle.planner.proofs.AtNow.{push_at}
use Rattle.planner.proofs.level.all_beside.Goals as goal

pub bounds_ahead-requires-clause-target : goal.bounds_ahead-requires-clause-target
bounds_ahead-requires-clause-target c =
    let s = c.args.situation.now in
    let k = c.loop-target.target-index in
    let T = c.target-item.result in
    let inside : k < length s.targets = subst (λ (xs : List Target). k < length xs) c.as_slice-target-items.ensures c.loop-target-test.true in
    let is_target : T ≡ get_or s.targets k T = c.target-item.is ∙ ap (λ (xs : List Target). get_or xs k T) c.as_slice-target-items.ensures in
    subst (IsTarget s) (sym is_target) (c.requires.situation.are_targets k T inside)

pub loop-target-preserved : goal.loop-target-preserved
loop-target-preserved c =
    let s = c.args.situation.now in
    let k = c.loop-target.target-index in
    let T = c.target-item.result in
    let bounds = c.bounds_ahead.result in
    let count = c.loop-target.invariant.count in
    let inside : k < length s.targets = subst (λ (xs : List Target). k < length xs) c.as_slice-target-items.ensures c.loop-target-test.true in
    let is_target : T ≡ get_or s.targets k T = c.target-item.is ∙ ap (λ (xs : List Target). get_or xs k T) c.as_slice-target-items.ensures in
    let pushed = c.in_ok-push.ensures.items in
    let holds : (t : Target) → HoldsPath bounds (ahead_from (get_or s.targets k t) c.args.first c.args.ticks) = λ t.
    subst (λ (x : Target). HoldsPath bounds (ahead_from x c.args.first c.args.ticks)) (is_target ∙ get_or_default s.targets k T t inside) c.bounds_ahead.ensures in
    record {
      count = omega (arith, ap length pushed, length-append c.loop-target.beside.items (bounds ∷ []));
      each = λ i b lt. push_at (λ (n : ℕ) (x : Bounds). (t : Target) → HoldsPath x (ahead_from (get_or s.targets n t) c.args.first c.args.ticks)) c.loop-target.beside.items c.push.new.self.items bounds pushed
          c.loop-target.invariant.each (subst (λ (n : ℕ). (t : Target) → HoldsPath bounds (ahead_from (get_or s.targets n t) c.args.first c.args.ticks)) (sym count) holds) i b
          (omega (arith, ap length pushed, length-append c.loop-target.beside.items (bounds ∷ [])));
    }

pub returns : goal.returns
returns c =
    let s = c.args.situation.now in
    let over = c.loop-target-test.false in
    let end = c.loop-target.auto.target-index-end in
    let count = c.loop-target.invariant.count in
    let all : c.loop-target.target-index ≡ length s.targets = omega (arith, ap length c.as_slice-target-items.ensures) in
    record { count = count ∙ all; each = λ k t b lt. c.loop-target.invariant.each k b (omega arith) t }
