use Rattle.std.proofs.Common.{ℕ, ◌<◌, [], ◌∷◌, ◌++◌, length, subst, arith}
use Rattle.traces.specs.Inner.TracesKept.{AreBegun, AreTooMany}
use Rattle.traces.specs.Known.{pairs_of}
use Rattle.traces.proofs.NextTick.{begun_now, have_more, may_begin, none_begin}
use Rattle.std.proofs.lemmas.Result.{on_ok_weaker}
use Rattle.traces.proofs.all_traces.AllTraces.begin.Goals as goal

pub returns-then-self-clause-begun : goal.returns-then-self-clause-begun
returns-then-self-clause-begun c = λ numbers ticks ranks knowns next on h.
    let over = c.if-self.true in
    let count = next.count in
    let last = next.last in
    none_begin numbers ticks (record { vessels = c.args.seen.now; ranks = ranks }) knowns on c.args.self.now h (omega arith)

pub returns-clause-begun : goal.returns-clause-begun
returns-clause-begun c = on_ok_weaker c.begin_all.result (λ stands numbers ticks ranks knowns next on h.
    let under = c.if-self.false in
    let count = next.count in
    let last = next.last in
    let more : length ticks < numbers.last_tick = omega arith in
    let b = stands numbers (ticks ++ record { vessels = c.args.seen.now; ranks = ranks } ∷ []) knowns h (may_begin numbers ticks (record { vessels = c.args.seen.now; ranks = ranks }) c.args.self.now knowns on next) in
    begun_now numbers ticks (record { vessels = c.args.seen.now; ranks = ranks }) knowns on more c.begin_all.new.self
    (subst (λ (n : ℕ). AreBegun c.begin_all.new.self numbers (ticks ++ record { vessels = c.args.seen.now; ranks = ranks } ∷ []) c.args.seen.now n knowns) count b)) c.begin_all.ensures.begun

pub returns-clause-many : goal.returns-clause-many
returns-clause-many c = λ fault numbers ticks ranks knowns next on h.
    let under = c.if-self.false in
    let count = next.count in
    let last = next.last in
    let more : length ticks < numbers.last_tick = omega arith in
    let t = c.begin_all.ensures.many fault numbers (ticks ++ record { vessels = c.args.seen.now; ranks = ranks } ∷ []) knowns h (may_begin numbers ticks (record { vessels = c.args.seen.now; ranks = ranks }) c.args.self.now knowns on next) in
    have_more numbers ticks (record { vessels = c.args.seen.now; ranks = ranks }) knowns on more (subst (λ (n : ℕ). AreTooMany numbers c.args.seen.now (pairs_of knowns) n knowns) count t)
