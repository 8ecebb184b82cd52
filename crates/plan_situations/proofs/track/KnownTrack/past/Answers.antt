use Rattle.std.proofs.Common.{◌≡◌, ◌∙◌, ◌+◌, ℕ, List, ◌∷◌, [], ◌++◌, map, ap, sym, subst, arith}
use Rattle.std.specs.Prelude.{Option, IfSome}
use Rattle.std.specs.List.{range_with_len}
use Rattle.std.proofs.lemmas.List.FromFn.{map-range_with_len_more}
use Rattle.meetings.specs.Traces.{IsShortMove}
use Rattle.motion.specs.TickStates.{IsTickState}
use Rattle.motion.specs.declared.leg.TickState.{TickState}
use Rattle.plan_situations.specs.Situations.{sighting}
use Rattle.plan_situations.specs.Inner.Facts.{IsKnownBelow, known_at}
use Rattle.plan_situations.proofs.TickLists.{sighting_made}
use Rattle.plan_situations.proofs.Tracking.{known_so, one_known_more}
use Rattle.plan_situations.proofs.track.KnownTrack.past.Goals as goal

pub loop-tick-preserved : goal.loop-tick-preserved
loop-tick-preserved c =
    let f = known_at c.args.self.now in
    let k = c.loop-tick.tick in
    record {
      made = c.in_ok-push.ensures.items
          ∙ ap (λ (xs : List (Option TickState)). xs ++ c.at.result ∷ []) c.loop-tick.invariant.made
          ∙ ap (λ (o : Option TickState). map f (range_with_len 0 k) ++ o ∷ []) c.at.ensures.value
          ∙ sym (map-range_with_len_more f 0 k k (omega arith));
      known = one_known_more f k c.loop-tick.invariant.known (subst (λ (o : Option TickState). IfSome o (IsTickState 7900640400)) c.at.ensures.value c.at.ensures.state)
          (λ e next. subst (IsShortMove (f e)) c.at.ensures.value (c.at.ensures.moves e next));
    }

pub returns-clause-known : goal.returns-clause-known
returns-clause-known c =
    let f = known_at c.args.self.now in
    let n = c.args.self.now.window.ticks + 1 in
    let all : c.loop-tick.tick ≡ n = omega (arith, c.loop-tick-test.false, c.loop-tick.auto.tick-end) in
    let made : c.new.result ≡ map f (range_with_len 0 n) = c.new.ensures ∙ c.loop-tick.invariant.made ∙ ap (λ (m : ℕ). map f (range_with_len 0 m)) all in
    known_so f (sighting c.new.result) n (λ k lt. ap (λ (xs : List (Option TickState)). sighting xs k) made ∙ sighting_made f n k lt)
    (subst (λ (m : ℕ). IsKnownBelow m f) all c.loop-tick.invariant.known)
