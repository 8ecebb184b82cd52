use Rattle.std.proofs.Common.{◌≡◌, ◌≢◌, ℕ, ◌+◌, ◌-◌, ◌<◌, ◌⊎◌, inl, inr, List, [], ◌∷◌, ◌++◌, length, length-set, get_or, refl, true, set, get_or-set_other, get_or-set_same, sym, ap, subst, ◌∙◌, arith, Option, None}
use Rattle.std.proofs.lemmas.Bool.{cases_lt}
use Rattle.std.proofs.lemmas.List.{get_or_default}
use Rattle.meetings.specs.Answers.{answer_of}
use Rattle.meetings.specs.declared.pair.Pair.{Pair}
use Rattle.mtl_monitor.specs.Following.{fed_of}
use Rattle.traces.specs.Known.{watched}
use Rattle.early_monitor.specs.Alarms.{tree_of_rule}
use Rattle.early_monitor.specs.declared.alarm.Alarm.{Alarm}
use Rattle.early_monitor.specs.declared.early_program.EarlyState.{EarlyState}
use Rattle.early_monitor.specs.declared.early_rule.EarlyRule.{EarlyRule}
use Rattle.early_monitor.specs.Inner.Breaches.{Adds, IsBreach, IsBreachBelow, IsBreachOf}
use Rattle.early_monitor.specs.Inner.RulesWatched.{FitsRule, IsCalm, IsCalmRule, StandsForRule, early_at, plain_trees}
use Rattle.early_monitor.specs.Inner.TraceWatched.{kept_at}
use Rattle.early_monitor.proofs.Calm.{no_breach, stays_calm}
use Rattle.early_monitor.proofs.Breaches.{adds_none, adds_same, adds_then, below_more, below_none}
use Rattle.traces.proofs.ForCallers.{whole_written}
use Rattle.early_monitor.proofs.watched_trace.WatchedTrace.step.Goals as goal
use Rattle.early_monitor.proofs.watched_trace.WatchedTrace.step.Goals.{else-not-branch, then-not-branch}

pub feed-changes-requires : goal.feed-changes-requires
feed-changes-requires c = record {
  fits = c.requires.ready.fits;
  unclosed = c.requires.ready.unended;
  small = c.requires.few;
}

-- No rule has a program of its own, so none has a state.
pub returns-then-has_no_alarm-clause-ready : goal.returns-then-has_no_alarm-clause-ready
returns-then-has_no_alarm-clause-ready c =
    let w = c.args.rules.now in
    let new = c.feed-changes.new.self in
    let ready = c.requires.ready in
    let none = c.has_no_alarm.ensures c.if-has_no_alarm.true in
    let quiet = c.is_quiet-quiet.ensures none.0 in
    let plain = ready.plain none.1 in
    record {
      fits = c.feed-changes.ensures.fits;
      unended = c.feed-changes.ensures.past;
      as_many = ready.as_many;
      early = λ k lt. subst (λ (e : Option EarlyRule). FitsRule (fed_of new) e (kept_at c.args.self.now.early.items k)) (sym (plain k lt)) tt;
      calm = λ _. stays_calm w c.args.self.now.values new (ready.calm quiet.0) (c.feed-changes.ensures.same quiet.1);
      plain = ready.plain;
    }

pub returns-then-has_no_alarm-clause-stands : goal.returns-then-has_no_alarm-clause-stands
returns-then-has_no_alarm-clause-stands c = λ numbers known seen are s.
    let w = c.args.rules.now in
    let plain = c.requires.ready.plain (c.has_no_alarm.ensures c.if-has_no_alarm.true).1 in
    let all = known.trace ++ answer_of c.args.row.now ∷ [] in
    let many = are.early.as_many in
    record {
      pair = s.pair;
      start = s.start;
      values = c.feed-changes.ensures.follows (plain_trees w.early.items numbers.rules) known.trace s.values;
      early = λ k lt.
          subst (λ (e : Option EarlyRule). StandsForRule e (kept_at c.args.self.now.early.items k) (tree_of_rule numbers.rules k) all) (sym (plain k (omega (arith, lt, many)))) tt;
    }

pub returns-then-has_no_alarm-clause-adds : goal.returns-then-has_no_alarm-clause-adds
returns-then-has_no_alarm-clause-adds c = λ numbers known seen are s.
    let w = c.args.rules.now in
    let old = c.args.self.now.values in
    let new = c.feed-changes.new.self in
    let ready = c.requires.ready in
    let now = watched known seen (answer_of c.args.row.now) in
    let none = c.has_no_alarm.ensures c.if-has_no_alarm.true in
    let quiet = c.is_quiet-quiet.ensures none.0 in
    let calm : IsCalm w new = stays_calm w old new (ready.calm quiet.0) (c.feed-changes.ensures.same quiet.1) in
    adds_none (IsBreachOf numbers c.args.step now) c.args.alarms.now.keys
    (no_breach w numbers are new now (c.feed-changes.ensures.follows (plain_trees w.early.items numbers.rules) known.trace s.values) calm (ready.plain none.1) c.args.step)

pub take_row-requires : goal.take_row-requires
take_row-requires c =
    let w = c.args.rules.now in
    let fed = c.feed-changes.ensures.fed in
    let few = c.requires.few in
    let inv = c.loop-rule.invariant in
    let test = c.loop-rule-test.true in
    let long = c.loop-rule.auto.state-items in
    let old : List (Option EarlyState) = c.loop-rule.state-items in
    let i : ℕ = c.loop-rule.rule in
    let within : i < length old = omega (arith, test, long) in
    let rule : i < length w.early.items = omega (arith, within, inv.as_many) in
    record {
      rule = rule;
      values = c.feed-changes.ensures.fits;
      fed = omega (arith, fed, few);
      start = c.args.self.now.small;
      fits = subst (λ (s : Option EarlyState). FitsRule (fed_of c.feed-changes.new.self - 1) (early_at w i) s) (get_or_default old i None c.state-item.result within)
          (inv.fits_rest i (omega arith) rule);
      some = omega (arith, fed);
      quiet = λ is.
          let both = c.is_quiet-quiet.ensures is in
          stays_calm w c.args.self.now.values c.feed-changes.new.self (c.requires.ready.calm both.0) (c.feed-changes.ensures.same both.1) i rule;
    }

pub loop-rule-init : goal.loop-rule-init
loop-rule-init c =
    let items = c.args.self.now.early.items in
    let value : c.deref_mut-state-items.result.now ≡ items = c.deref_mut-state-items.ensures.value in
    let ready = c.requires.ready in
    let fed : fed_of c.args.self.now.values ≡ fed_of c.feed-changes.new.self - 1 = (let e = c.feed-changes.ensures.fed in omega (arith, e)) in
    record {
      as_many = ap (λ (xs : List (Option EarlyState)). length xs) value ∙ ready.as_many;
      bound = omega arith;
      calm = λ all k lt. absurd (omega (arith, lt));
      fits_done = λ k lt. absurd (omega (arith, lt));
      fits_rest = λ k from lt.
          subst (λ (xs : List (Option EarlyState)). FitsRule (fed_of c.feed-changes.new.self - 1) (early_at c.args.rules.now k) (kept_at xs k)) (sym value)
          (subst (λ (n : ℕ). FitsRule n (early_at c.args.rules.now k) (kept_at items k)) fed (ready.early k lt));
      stands_done = λ numbers known are s k lt. absurd (omega (arith, lt));
      stands_rest = λ numbers known are s k from lt.
          subst (λ (xs : List (Option EarlyState)). StandsForRule (early_at c.args.rules.now k) (kept_at xs k) (tree_of_rule numbers.rules k) known.trace) (sym value) (s.early k lt);
      adds = λ numbers known seen are s.
          let now = watched known seen (answer_of c.args.row.now) in
          adds_none (IsBreachBelow numbers c.args.step 0 now) c.args.alarms.now.keys (below_none numbers c.args.step now);
    }

pub loop-rule-preserved : goal.loop-rule-preserved
loop-rule-preserved c =
    let w = c.args.rules.now in
    let fed = fed_of c.feed-changes.new.self in
    let old : List (Option EarlyState) = c.loop-rule.state-items in
    let i : ℕ = c.loop-rule.rule in
    let new : Option EarlyState = c.take_row.new.state in
    let inv = c.loop-rule.invariant in
    let test = c.loop-rule-test.true in
    let within : i < length old = omega (arith, test) in
    let taken : Option EarlyState = get_or old i c.state-item.result in
    let was : kept_at old i ≡ taken = get_or_default old i None c.state-item.result within in
    let here : kept_at (set old i new) i ≡ new = get_or-set_same old i new None within in
    let other : (k : ℕ) → k ≢ i → kept_at (set old i new) k ≡ kept_at old k = λ k ne. get_or-set_other old i k new None ne in
    let count = length-set old i new in
    record {
      as_many = count ∙ inv.as_many;
      bound = omega (arith, count, within);
      calm = λ all k lt. elim c.if-not-branch.branch [
        | then-not-branch e ↦ absurd (let broken = e.all_calm-is in cc)
        | else-not-branch e ↦ (let is = e.all_calm-is in
            let this : c.in_ok-take_row.field-0 ≡ true = e.if-not-branch.false in
            elim (cases_lt k i) [
              | inl before ↦ inv.calm (sym is ∙ all) k before
              | inr after ↦ (let at : k ≡ i = omega (arith, lt, after) in
                  subst (λ (n : ℕ). IsCalmRule w c.feed-changes.new.self n) (sym at) (c.in_ok-take_row.ensures.calm this))
            ])
      ];
      fits_done = λ k lt. elim (cases_lt k i) [
        | inl before ↦ subst (λ (s : Option EarlyState). FitsRule fed (early_at w k) s) (sym (other k (λ e. omega (arith, e, before)))) (inv.fits_done k before)
        | inr after ↦ (let at : k ≡ i = omega (arith, lt, after) in
            subst (λ (n : ℕ). FitsRule fed (early_at w n) (kept_at (set old i new) n)) (sym at)
            (subst (λ (s : Option EarlyState). FitsRule fed (early_at w i) s) (sym here) c.in_ok-take_row.ensures.fits))
      ];
      fits_rest = λ k from lt.
          subst (λ (s : Option EarlyState). FitsRule (fed - 1) (early_at w k) s) (sym (other k (λ e. omega (arith, e, from)))) (inv.fits_rest k (omega (arith, from)) lt);
      stands_done = λ numbers known are s k lt.
          let all = known.trace ++ answer_of c.args.row.now ∷ [] in
          let many = are.early.as_many in
          let inside : i < length numbers.rules = omega (arith, within, many, inv.as_many) in
          let stood : StandsForRule (early_at w i) taken (tree_of_rule numbers.rules i) known.trace =
          subst (λ (e : Option EarlyState). StandsForRule (early_at w i) e (tree_of_rule numbers.rules i) known.trace) was (inv.stands_rest numbers known are s i (omega arith) inside) in
          elim (cases_lt k i) [
            | inl before ↦ subst (λ (e : Option EarlyState). StandsForRule (early_at w k) e (tree_of_rule numbers.rules k) all) (sym (other k (λ e. omega (arith, e, before))))
                (inv.stands_done numbers known are s k before)
            | inr after ↦ (let at : k ≡ i = omega (arith, lt, after) in
                subst (λ (n : ℕ). StandsForRule (early_at w n) (kept_at (set old i new) n) (tree_of_rule numbers.rules n) all) (sym at)
                (subst (λ (e : Option EarlyState). StandsForRule (early_at w i) e (tree_of_rule numbers.rules i) all) (sym here)
                (c.in_ok-take_row.ensures.adds numbers.rules known.trace are (c.feed-changes.ensures.follows (plain_trees w.early.items numbers.rules) known.trace s.values) stood).0))
          ];
      stands_rest = λ numbers known are s k from lt.
          subst (λ (e : Option EarlyState). StandsForRule (early_at w k) e (tree_of_rule numbers.rules k) known.trace) (sym (other k (λ e. omega (arith, e, from))))
          (inv.stands_rest numbers known are s k (omega (arith, from)) lt);
      adds = λ numbers known seen are s.
          let now = watched known seen (answer_of c.args.row.now) in
          let t = tree_of_rule numbers.rules i in
          let many = are.early.as_many in
          let inside : i < length numbers.rules = omega (arith, within, many, inv.as_many) in
          let stood : StandsForRule (early_at w i) taken t known.trace =
          subst (λ (e : Option EarlyState). StandsForRule (early_at w i) e t known.trace) was (inv.stands_rest numbers known are s i (omega arith) inside) in
          let its = (c.in_ok-take_row.ensures.adds numbers.rules known.trace are (c.feed-changes.ensures.follows (plain_trees w.early.items numbers.rules) known.trace s.values) stood).1 in
          let placed : Adds (IsBreach (record { pair = known.pair; start = known.start; rule = i; step = c.args.step }) t now.trace) c.loop-rule.alarms.keys c.take_row.new.alarms.keys =
          subst (λ (p : Pair). Adds (IsBreach (record { pair = p; start = known.start; rule = i; step = c.args.step }) t now.trace) c.loop-rule.alarms.keys c.take_row.new.alarms.keys) s.pair
          (subst (λ (n : ℕ). Adds (IsBreach (record { pair = c.args.self.now.pair; start = n; rule = i; step = c.args.step }) t now.trace) c.loop-rule.alarms.keys c.take_row.new.alarms.keys) s.start its) in
          adds_same
          (λ (a : Alarm). IsBreachBelow numbers c.args.step i now a ⊎ IsBreach (record { pair = known.pair; start = known.start; rule = i; step = c.args.step }) t now.trace a)
          (IsBreachBelow numbers c.args.step (i + 1) now) c.args.alarms.now.keys c.take_row.new.alarms.keys (below_more numbers c.args.step i now)
          (adds_then (IsBreachBelow numbers c.args.step i now) (IsBreach (record { pair = known.pair; start = known.start; rule = i; step = c.args.step }) t now.trace) c.args.alarms.now.keys
          c.loop-rule.alarms.keys c.take_row.new.alarms.keys (inv.adds numbers known seen are s) placed);
    }

pub returns-clause-ready : goal.returns-clause-ready
returns-clause-ready c =
    let inv = c.loop-rule.invariant in
    let test = c.loop-rule-test.false in
    let long = c.loop-rule.auto.state-items in
    let all : c.loop-rule.rule ≡ length c.args.rules.now.early.items = omega (arith, test, long, inv.bound, inv.as_many) in
    let old = c.args.self.now.early in
    let held = c.requires.ready.as_many in
    let written = whole_written old.len c.loop-rule.state-items old.items (omega (arith, old.ok.0)) (omega (arith, inv.as_many, held)) in
    record {
      fits = c.feed-changes.ensures.fits;
      unended = c.feed-changes.ensures.past;
      as_many = ap (λ (states : List (Option EarlyState)). length states) written ∙ inv.as_many;
      early = λ k lt.
          subst (λ (states : List (Option EarlyState)). FitsRule (fed_of c.feed-changes.new.self) (early_at c.args.rules.now k) (kept_at states k)) (sym written)
          (inv.fits_done k (omega (arith, lt, all)));
      calm = λ calm k lt. inv.calm calm k (omega (arith, lt, all));
      plain = c.requires.ready.plain;
    }

pub returns-clause-stands : goal.returns-clause-stands
returns-clause-stands c = λ numbers known seen are s.
    let inv = c.loop-rule.invariant in
    let test = c.loop-rule-test.false in
    let long = c.loop-rule.auto.state-items in
    let many = are.early.as_many in
    let all : c.loop-rule.rule ≡ length numbers.rules = omega (arith, test, long, inv.bound, inv.as_many, many) in
    let old = c.args.self.now.early in
    let held = c.requires.ready.as_many in
    let written = whole_written old.len c.loop-rule.state-items old.items (omega (arith, old.ok.0)) (omega (arith, inv.as_many, held)) in
    record {
      pair = s.pair;
      start = s.start;
      values = c.feed-changes.ensures.follows (plain_trees c.args.rules.now.early.items numbers.rules) known.trace s.values;
      early = λ k lt.
          subst (λ (states : List (Option EarlyState)). StandsForRule (early_at c.args.rules.now k) (kept_at states k) (tree_of_rule numbers.rules k) (known.trace ++ answer_of c.args.row.now ∷ []))
          (sym written) (inv.stands_done numbers known are s k (omega (arith, lt, all)));
    }

pub returns-clause-adds : goal.returns-clause-adds
returns-clause-adds c = λ numbers known seen are s.
    let inv = c.loop-rule.invariant in
    let test = c.loop-rule-test.false in
    let many = are.early.as_many in
    let all : c.loop-rule.rule ≡ length numbers.rules = omega (arith, test, inv.bound, inv.as_many, many) in
    subst (λ (n : ℕ). Adds (IsBreachBelow numbers c.args.step n (watched known seen (answer_of c.args.row.now))) c.args.alarms.now.keys c.loop-rule.alarms.keys) all (inv.adds numbers known seen are s)
