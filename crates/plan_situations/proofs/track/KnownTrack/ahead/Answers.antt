use Rattle.std.proofs.Common.{◌≡◌, ◌∙◌, ◌+◌, ℕ, List, ◌∷◌, [], ◌++◌, map, ap, sym, subst, arith, Some}
use Rattle.std.specs.Prelude.{slice_get}
use Rattle.std.specs.List.{range_with_len}
use Rattle.std.proofs.lemmas.List.FromFn.{map-range_with_len_more}
use Rattle.motion.specs.declared.leg.TickState.{TickState}
use Rattle.plan_situations.specs.Inner.Facts.{IsKnownBelow, predicted_at}
use Rattle.plan_situations.proofs.TickLists.{slice_get_made}
use Rattle.plan_situations.proofs.Tracking.{known_so, one_predicted_more}
use Rattle.plan_situations.proofs.track.KnownTrack.ahead.Goals as goal

pub loop-tick-preserved : goal.loop-tick-preserved
loop-tick-preserved c =
    let f = predicted_at c.args.self.now in
    let k = c.loop-tick.tick in
    record {
      made = c.in_ok-push.ensures.items
          ∙ ap (λ (xs : List TickState). xs ++ c.predicted.result ∷ []) c.loop-tick.invariant.made
          ∙ ap (λ (s : TickState). map f (range_with_len 0 k) ++ s ∷ []) c.predicted.ensures.value
          ∙ sym (map-range_with_len_more f 0 k k (omega arith));
      known = one_predicted_more c.args.self.now c.requires.track k c.predicted.result c.loop-tick.invariant.known c.predicted.ensures.value c.predicted.ensures.state c.predicted.ensures.moves;
    }

pub returns-clause-known : goal.returns-clause-known
returns-clause-known c =
    let f = predicted_at c.args.self.now in
    let n = c.args.ticks + 1 in
    let all : c.loop-tick.tick ≡ n = omega (arith, c.loop-tick-test.false, c.loop-tick.auto.tick-end) in
    let made : c.new.result ≡ map f (range_with_len 0 n) = c.new.ensures ∙ c.loop-tick.invariant.made ∙ ap (λ (m : ℕ). map f (range_with_len 0 m)) all in
    known_so (λ (k : ℕ). Some (f k)) (slice_get c.new.result) n (λ k lt. ap (λ (xs : List TickState). slice_get xs k) made ∙ slice_get_made f n k lt)
    (subst (λ (m : ℕ). IsKnownBelow m (λ (k : ℕ). Some (f k))) all c.loop-tick.invariant.known)
