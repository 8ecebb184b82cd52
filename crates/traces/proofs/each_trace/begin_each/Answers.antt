use Rattle.std.proofs.Common.{rules, ◌≡◌, ℕ, ◌+◌, ◌<◌, ◌≤◌, length, ap, ◌∙◌, sym, arith}
use Rattle.std.specs.Vec.{vec_len}
use Rattle.traces.specs.Standing.{traces_of}
use Rattle.traces.proofs.UnderWay.{begin_more, beginning_all, beginning_none}
use Rattle.traces.proofs.each_trace.begin_each.Goals as goal

pub loop-index-init : goal.loop-index-init
loop-index-init g c = record {
  many = (let as_long : vec_len c.args.kept.now ≡ length c.args.kept.now.items = search rules in let all = c.len-index.ensures in omega (arith, as_long, all));
  goes_on = c.requires.goes_on;
  ready = c.requires.ready;
  begins = λ numbers ticks done new step given stands once opened le count keeps.
      beginning_none numbers done new c.args.start step given (g.K.TraceKeeper.keeper c.args.keeper.now) c.args.kept.now.items count keeps opened;
}

pub loop-index-preserved : goal.loop-index-preserved
loop-index-preserved g c =
    let test = c.loop-index-test.true in
    let all = c.len-index-end.ensures in
    let inv = c.loop-index.invariant in
    let begun = c.in_ok-begin_one.ensures in
    let within : length c.loop-index.kept.items < traces_of c.args.traces.now = omega (arith, test, all, inv.many) in
    record {
      many = begun.many ∙ ap (λ (n : ℕ). n + 1) inv.many;
      goes_on = begun.goes_on;
      ready = begun.ready;
      begins = λ numbers ticks done new step given stands once opened le count keeps.
          begin_more numbers done new c.args.start step given c.args.traces.now ticks stands (g.K.TraceKeeper.keeper c.loop-index.keeper) (g.K.TraceKeeper.keeper c.begin_one.new.keeper)
          c.loop-index.kept.items c.begin_one.new.kept.items once c.pair.result begun.many within
          (λ front known back z at. c.pair.ensures numbers ticks front known back z (sym inv.many ∙ at))
          (λ begun_so_far held fresh. begun.stands numbers step done begun_so_far given held le fresh)
          (inv.begins numbers ticks done new step given stands once opened le count keeps);
    }

pub returns-clause-stands : goal.returns-clause-stands
returns-clause-stands g c = λ numbers ticks done new step given stands once opened le count keeps.
    let test = c.loop-index-test.false in
    let all = c.len-index-end.ensures in
    let inv = c.loop-index.invariant in
    let past : traces_of c.args.traces.now ≤ length c.loop-index.kept.items = omega (arith, test, all, inv.many) in
    beginning_all numbers done new c.args.start step given c.args.traces.now ticks stands (g.K.TraceKeeper.keeper c.loop-index.keeper) c.loop-index.kept.items past
    (inv.begins numbers ticks done new step given stands once opened le count keeps)
