use Rattle.std.proofs.Common.{◌≡◌, ◌≢◌, ℕ, ◌+◌, ◌<◌, ◌≤◌, ◌⊎◌, inl, inr, List, length, length-set, get_or, set, get_or-set_other, get_or-set_same, refl, sym, subst, ◌∙◌, arith}
use Rattle.traces.specs.Standing.{traces_of}
use Rattle.traces.specs.Window.{IsReadyFor}
use Rattle.traces.proofs.Keeping.{ready_after}
use Rattle.traces.proofs.UnderWay.{at_step, few_steps, under_way_all, under_way_more, under_way_none}
use Rattle.traces.proofs.each_trace.follow_each.Goals as goal

before_or_at : (k n : ℕ) → k < n + 1 → (k < n) ⊎ (k ≡ n)
before_or_at k n lt = grind arith

pub loop-index-init : goal.loop-index-init
loop-index-init g c = record {
  sound = c.requires.sound;
  given = refl;
  last_tick = refl;
  latest = refl;
  traces = refl;
  many = refl;
  goes_on = c.requires.goes_on;
  done = λ k d lt. absurd (omega (arith, lt));
  rest = λ k d from lt. c.requires.ready k d lt;
  way = λ numbers ticks knowns given are stands at keeps.
      under_way_none numbers ticks c.args.seen.now c.args.step knowns given (g.K.TraceKeeper.keeper c.args.keeper.now) c.args.traces.now c.args.kept.now stands keeps
      (at_step numbers ticks knowns c.args.step are at)
      (λ known i. let few = few_steps numbers ticks knowns are known i in let count = stands.count in let most = c.requires.few in omega (arith, few, count, most));
}

pub loop-index-preserved : goal.loop-index-preserved
loop-index-preserved g c =
    let old : List g.row.K-Kept.Denot = c.loop-index.kept in
    let i : ℕ = c.loop-index.index in
    let inv = c.loop-index.invariant in
    let after : g.row.K-Kept.Denot = c.follow_one.new.one in
    let keeper = g.K.TraceKeeper.keeper c.follow_one.new.keeper in
    let count = length-set old i after in
    let many = inv.many in
    let test = c.loop-index-test.true in
    let within : i < length old = omega (arith, many, test) in
    let was = inv.rest i c.index-kept-index.result (omega arith) within in
    let followed = c.follow_one.ensures in
    let taken = c.in_ok-follow_one.ensures in
    let of_traces : i < traces_of c.loop-index.traces = omega (arith, within, many, inv.traces, c.requires.many) in
    record {
      sound = followed.sound;
      given = followed.given ∙ inv.given;
      last_tick = followed.last_tick ∙ inv.last_tick;
      latest = followed.latest ∙ inv.latest;
      traces = followed.as_many ∙ inv.traces;
      many = count ∙ inv.many;
      goes_on = taken.goes_on.sound;
      done = λ k d lt. elim (before_or_at k i lt) [
        | inl before ↦ (let ne : k ≢ i = omega (arith, before) in
            rw get_or-set_other (ready_after (g.K.TraceKeeper.keeper c.loop-index.keeper) keeper (c.args.traces.now.given + 1) (get_or old k d) taken.goes_on (inv.done k d before)))
        | inr at ↦ subst (λ (n : ℕ). IsReadyFor keeper (c.args.traces.now.given + 1) (get_or (set old i after) n d)) (sym at)
            (rw get_or-set_same (record { ready = taken.ready; few = omega (arith, was.few, taken.one_more) }))
      ];
      rest = λ k d from lt. (let ne : k ≢ i = omega (arith, from) in let inside : k < length old = omega (arith, lt, count) in
          rw get_or-set_other (ready_after (g.K.TraceKeeper.keeper c.loop-index.keeper) keeper c.args.traces.now.given (get_or old k d) taken.goes_on (inv.rest k d (omega (arith, from)) inside)));
      way = λ numbers ticks knowns given are stands at keeps.
          under_way_more numbers ticks c.args.seen.now c.args.step knowns given (g.K.TraceKeeper.keeper c.loop-index.keeper) keeper
          c.loop-index.traces c.follow_one.new.traces old i c.index-kept-index.result after at of_traces (taken.takes numbers ticks)
          (inv.way numbers ticks knowns given are stands at keeps);
    }

pub returns-clause-stepped : goal.returns-clause-stepped
returns-clause-stepped g c = λ numbers ticks knowns given are stands at keeps.
    let inv = c.loop-index.invariant in
    let many = inv.many in
    let test = c.loop-index-test.false in
    let past : traces_of c.loop-index.traces ≤ c.loop-index.index = omega (arith, many, test, inv.traces, c.requires.many) in
    under_way_all numbers ticks c.args.seen.now c.args.step knowns given (g.K.TraceKeeper.keeper c.loop-index.keeper) c.loop-index.traces c.loop-index.kept c.loop-index.index past
    (inv.way numbers ticks knowns given are stands at keeps)
