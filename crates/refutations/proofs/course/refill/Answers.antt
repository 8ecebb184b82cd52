use Rattle.std.proofs.Common.{◌≡◌, ◌∙◌, ◌-◌, ◌<◌, List, [], ◌++◌, length, take, drop, subst, ap, sym, arith, append-nil}
use Rattle.std.proofs.lemmas.List.{drop_all, length-drop, length-take-le}
use borrow.Rule.Slice.PartMut.{post_of, Post-is}
use Rattle.motion.specs.declared.leg.TickState.{TickState}
use Rattle.plan_situations.specs.Paths.{IsPath, IsTrack}
use Rattle.refutations.proofs.Courses.{refilled_path, refilled_track}
use Rattle.refutations.proofs.course.refill.Goals as goal

pub returns-clause-path : goal.returns-clause-path
returns-clause-path c = λ other is alike.
    let s = c.args.situation.now in
    let old = c.args.path.now in
    let n = c.args.first in
    let back = c.fill_path.new.path in
    let whole = c.requires.whole in
    let planned = c.requires.planned in
    let none : post_of n (length old - n) old ≡ [] = Post-is n (length old) old (omega arith) ∙ drop_all (length old) old (omega arith) in
    let all : back ++ post_of n (length old - n) old ≡ back = ap (λ (xs : List TickState). back ++ xs) none ∙ append-nil back in
    subst (λ (xs : List TickState). IsPath s c.args.plan.now 0 (take n old ++ xs)) (sym all)
    (refilled_path s other c.args.plan.now n alike old back (omega arith) is c.fill_path.ensures.path)

pub returns-clause-track : goal.returns-clause-track
returns-clause-track c = λ other is was alike.
    let s = c.args.situation.now in
    let old = c.args.path.now in
    let n = c.args.first in
    let back = c.fill_path.new.path in
    let whole = c.requires.whole in
    let planned = c.requires.planned in
    let none : post_of n (length old - n) old ≡ [] = Post-is n (length old) old (omega arith) ∙ drop_all (length old) old (omega arith) in
    let all : back ++ post_of n (length old - n) old ≡ back = ap (λ (xs : List TickState). back ++ xs) none ∙ append-nil back in
    let rest : length (drop n old) ≡ length old - n = length-drop n old in
    let many : length back ≡ length old - n = c.fill_path.ensures.count ∙ length-take-le (length old - n) (drop n old) (omega arith) in
    subst (λ (xs : List TickState). IsTrack (take n old ++ xs)) (sym all)
    (refilled_track s other c.args.plan.now n alike old back (omega arith) is c.fill_path.ensures.path (omega arith) was c.fill_path.ensures.track)
