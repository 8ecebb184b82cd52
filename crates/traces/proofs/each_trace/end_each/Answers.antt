use Rattle.std.proofs.Common.{◌≢◌, ℕ, ◌<◌, ◌≤◌, List, length, length-set, get_or, get_or-set_other, refl, ◌∙◌, arith}
use Rattle.traces.proofs.Keeping.{ready_after}
use Rattle.traces.proofs.UnderWay.{ending_all, ending_more, ending_none}
use Rattle.traces.proofs.each_trace.end_each.Goals as goal

pub loop-index-init : goal.loop-index-init
loop-index-init g c = record {
  many = refl;
  goes_on = c.requires.goes_on;
  rest = λ k d from lt. c.requires.ready k d lt;
  way = λ numbers step knowns given count keeps. ending_none numbers step knowns given (g.K.TraceKeeper.keeper c.args.keeper.now) c.args.kept.now keeps;
}

pub loop-index-preserved : goal.loop-index-preserved
loop-index-preserved g c =
    let old : List g.row.K-Kept.Denot = c.loop-index.kept in
    let i : ℕ = c.loop-index.index in
    let inv = c.loop-index.invariant in
    let after : g.row.K-Kept.Denot = c.end.new.kept in
    let count = length-set old i after in
    let many = inv.many in
    let test = c.loop-index-test.true in
    let within : i < length c.args.kept.now = omega (arith, many, test) in
    let ended = c.in_ok-end.ensures in
    record {
      many = count ∙ inv.many;
      goes_on = ended.goes_on.sound;
      rest = λ k d from lt. (let ne : k ≢ i = omega (arith, from) in let inside : k < length old = omega (arith, lt, count) in
          rw get_or-set_other (ready_after (g.K.TraceKeeper.keeper c.loop-index.keeper) (g.K.TraceKeeper.keeper c.end.new.self) 20001 (get_or old k d) ended.goes_on (inv.rest k d (omega (arith, from)) inside)));
      way = λ numbers step knowns given all keeps.
          ending_more numbers step knowns given (g.K.TraceKeeper.keeper c.loop-index.keeper) (g.K.TraceKeeper.keeper c.end.new.self) old i c.index-kept-index.result after
          (omega (arith, within, many)) (omega (arith, within, all)) ended
          (inv.way numbers step knowns given all keeps);
    }

pub returns : goal.returns
returns g c = λ numbers step knowns given all keeps.
    let inv = c.loop-index.invariant in
    let many = inv.many in
    let test = c.loop-index-test.false in
    let past : length knowns ≤ c.loop-index.index = omega (arith, many, test, all) in
    ending_all numbers step knowns given (g.K.TraceKeeper.keeper c.loop-index.keeper) c.loop-index.kept c.loop-index.index past
    (inv.way numbers step knowns given all keeps)
