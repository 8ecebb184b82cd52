use Rattle.std.proofs.Common.{◌≡◌, inl, inr, List, [], ◌∷◌, ◌++◌, length, length-append, ap, sym, subst, arith}
use Rattle.std.specs.Prelude.{All}
use Rattle.std.proofs.lemmas.List.Elements.{All-push}
use Rattle.std.specs.List.{AllZip}
use Rattle.traces.specs.Inner.Distances.{IsFarUntil}
use Rattle.traces.specs.Inner.TracesKept.{Follows}
use Rattle.traces.specs.Known.{opened}
use Rattle.traces.specs.declared.followed_trace.FollowedTrace.{FollowedTrace}
use Rattle.traces.proofs.Growing.{pair_pushed, zip_push}
use Rattle.std.proofs.lemmas.Result.{on_ok_weaker}
use Rattle.traces.proofs.all_traces.AllTraces.push.Goals as goal

pub returns-clause-sound : goal.returns-clause-sound
returns-clause-sound c = on_ok_weaker c.add.result (λ added.
    let kept = c.args.self.now in
    let sound = c.requires.sound in
    let old : List FollowedTrace = kept.traces.items in
    let items : c.push.new.self.items ≡ old ++ c.new.result ∷ [] = c.in_ok-push.ensures.items in
    let IsFar : FollowedTrace → Type 0 = IsFarUntil kept.detect.watch kept.drift kept.latest.items in
    record {
      detect = sound.detect;
      window = sound.window;
      given = sound.given;
      ascending = sound.ascending;
      placed = sound.placed;
      few = omega (arith, ap (λ (ts : List FollowedTrace). length ts) items, length-append old (c.new.result ∷ []), c.requires.few);
      drift = sound.drift;
      far = subst (λ (ts : List FollowedTrace). All IsFar ts) (sym items)
          (All-push IsFar old c.new.result sound.far (c.new.ensures.far kept.detect.watch kept.drift kept.latest.items));
    }) c.add.ensures

pub returns-clause-begun : goal.returns-clause-begun
returns-clause-begun c = on_ok_weaker c.add.result (λ added numbers ticks knowns h.
    let pair = c.args.pair in
    let start = c.args.self.now.given in
    let old : List FollowedTrace = c.args.self.now.traces.items in
    let trace : FollowedTrace = c.new.result in
    let items : c.push.new.self.items ≡ old ++ trace ∷ [] = c.in_ok-push.ensures.items in
    record {
      detect = h.detect;
      act = h.act;
      tick = h.tick;
      traces = subst (λ (ts : List FollowedTrace). AllZip (Follows numbers ticks) ts (knowns ++ opened pair start ∷ [])) (sym items)
          (zip_push (Follows numbers ticks) old knowns trace (opened pair start) h.traces (c.new.ensures.follows numbers ticks (sym h.detect) (sym h.act) (sym h.tick)));
      pairs = λ other. (
        λ i. (pair_pushed knowns pair start other).1 (elim ((added other).0 i) [ inl there ↦ inl ((h.pairs other).0 there) | inr same ↦ inr same ]),
        λ i. (added other).1 (elim ((pair_pushed knowns pair start other).0 i) [ inl there ↦ inl ((h.pairs other).1 there) | inr same ↦ inr same ]),
      );
    }) c.add.ensures
