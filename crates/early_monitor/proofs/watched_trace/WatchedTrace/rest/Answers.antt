use Rattle.std.proofs.Common.{◌≡◌, ◌<◌, ◌^◌, ◌∷◌, [], ◌++◌, ap₂, sym, subst, arith, Option}
use Rattle.std.specs.Coded.{le_prop}
use Rattle.mtl_monitor.specs.declared.trace_state.TraceState.{TraceState}
use Rattle.early_monitor.specs.declared.watched_trace.WatchedTrace.{WatchedTrace}
use Rattle.mtl_monitor.specs.Following.{fed_of}
use Rattle.traces.specs.Known.{watched}
use Rattle.early_monitor.specs.Alarms.{tree_of_rule}
use Rattle.early_monitor.specs.declared.early_rule.EarlyRule.{EarlyRule}
use Rattle.early_monitor.specs.Inner.Breaches.{IsBreachOf}
use Rattle.early_monitor.specs.Inner.RulesWatched.{FitsRule, IsCalm, StandsForRule, plain_trees}
use Rattle.early_monitor.specs.Inner.TraceWatched.{kept_at}
use Rattle.early_monitor.proofs.Calm.{no_breach, stays_calm}
use Rattle.early_monitor.proofs.Breaches.{adds_none}
use Rattle.early_monitor.proofs.watched_trace.WatchedTrace.rest.Goals as goal

pub rest-requires : goal.rest-requires
rest-requires c = record { fits = c.requires.ready.fits; unclosed = c.requires.ready.unended; small = c.requires.few }

-- By the same values a trace is the same.
same_trace : (trace : WatchedTrace) (values : TraceState) (small : trace.start < 2 ^ 31) → values ≡ trace.values
    → record { pair = trace.pair; start = trace.start; values = values; early = trace.early; calm = trace.calm; plain = trace.plain; small = small } ≡ trace
same_trace trace values small same =
    ap₂ (λ (v : TraceState) (s : trace.start < 2 ^ 31). record { pair = trace.pair; start = trace.start; values = v; early = trace.early; calm = trace.calm; plain = trace.plain; small = s })
    same (le_prop small trace.small)

pub returns-clause-stays : goal.returns-clause-stays
returns-clause-stays c = λ no. same_trace c.args.self.now c.rest.new.self _ (c.rest.ensures.stays no)

-- No rule has a program of its own, so none keeps a state.
pub returns-clause-ready : goal.returns-clause-ready
returns-clause-ready c =
    let w = c.args.rules.now in
    let new = c.rest.new.self in
    let ready = c.requires.ready in
    let none = c.has_no_alarm.ensures c.if-not-has_no_alarm.false in
    let plain = ready.plain none.1 in
    record {
      fits = c.rest.ensures.fits;
      unended = c.rest.ensures.past;
      as_many = ready.as_many;
      early = λ k lt. subst (λ (e : Option EarlyRule). FitsRule (fed_of new) e (kept_at c.args.self.now.early.items k)) (sym (plain k lt)) tt;
      calm = λ _. stays_calm w c.args.self.now.values new (ready.calm none.0) c.rest.ensures.same;
      plain = ready.plain;
    }

pub returns-clause-stands : goal.returns-clause-stands
returns-clause-stands c = λ rests numbers known seen answers told are s.
    let w = c.args.rules.now in
    let plain = c.requires.ready.plain (c.has_no_alarm.ensures c.if-not-has_no_alarm.false).1 in
    let all = known.trace ++ answers ∷ [] in
    let many = are.early.as_many in
    record {
      pair = s.pair;
      start = s.start;
      values = c.rest.ensures.follows rests (plain_trees w.early.items numbers.rules) known.trace answers told s.values;
      early = λ k lt.
          subst (λ (e : Option EarlyRule). StandsForRule e (kept_at c.args.self.now.early.items k) (tree_of_rule numbers.rules k) all) (sym (plain k (omega (arith, lt, many)))) tt;
    }

pub returns-clause-adds : goal.returns-clause-adds
returns-clause-adds c = λ rests numbers known seen answers step alarms told are s.
    let w = c.args.rules.now in
    let new = c.rest.new.self in
    let now = watched known seen answers in
    let none = c.has_no_alarm.ensures c.if-not-has_no_alarm.false in
    let calm : IsCalm w new = stays_calm w c.args.self.now.values new (c.requires.ready.calm none.0) c.rest.ensures.same in
    adds_none (IsBreachOf numbers step now) alarms
    (no_breach w numbers are new now (c.rest.ensures.follows rests (plain_trees w.early.items numbers.rules) known.trace answers told s.values) calm (c.requires.ready.plain none.1) step)
