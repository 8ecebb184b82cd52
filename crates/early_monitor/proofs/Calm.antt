-- A row that changes no rule's value, if no latest value is No: it has no alarm of a rule without a program of its own.
use Rattle.std.proofs.Common.{◌≡◌, ℕ, ◌+◌, ◌-◌, ◌<◌, List, [], ◌++◌, length, append-nil, sym, ap, subst, ◌∙◌, arith, Option, None}
use Rattle.mtl_formulas.specs.FormulaTree.{FormulaTree}
use Rattle.mtl_formulas.specs.FormulaMeasures.{reach_of}
use Rattle.mtl_monitor.specs.Following.{Follows, GivesTheSame, formula_at, last_value}
use Rattle.mtl_monitor.proofs.Feeding.{last_given}
use Rattle.mtl_formulas.specs.Traces.{Trace, value_in}
use Rattle.mtl_monitor.specs.declared.program.Program.{Program}
use Rattle.mtl_monitor.specs.declared.trace_state.TraceState.{TraceState}
use Rattle.rule_set.specs.NamedTrees.{NamedTree}
use Rattle.traces.specs.Audited.{AuditNumbers}
use Rattle.traces.specs.Known.{Known}
use Rattle.early_monitor.specs.Alarms.{tree_of_rule}
use Rattle.early_monitor.specs.declared.alarm.Alarm.{Alarm}
use Rattle.early_monitor.specs.declared.alarm_set.Place.{Place}
use Rattle.early_monitor.specs.declared.early_rule.EarlyRule.{EarlyRule}
use Rattle.early_monitor.specs.declared.watched_rules.WatchedRules.{WatchedRules}
use Rattle.early_monitor.specs.Inner.Breaches.{IsBreach, IsBreachOf}
use Rattle.early_monitor.specs.Inner.RulesWatched.{AreWatched, IsCalm, IsCalmRule, IsWatchedAs, early_at, plain_trees}
use Rattle.early_monitor.proofs.Breaches.{reached}
use Rattle.early_monitor.proofs.Lists.{formula_is}

pub stays_calm : (w : WatchedRules) (old new : TraceState) → IsCalm w old → GivesTheSame w.program old new → IsCalm w new
stays_calm w old new calm same k lt = λ none e.
    let many = w.as_many in
    calm k lt none (sym (same k (omega (arith, lt, many))) ∙ e)

module _ (w : WatchedRules) (rules : List NamedTree) (are : AreWatched w rules) (values : TraceState) (rows : Trace) (follows : Follows w.program values (plain_trees w.early.items rules) rows) where
  pub rule_unbroken : (place : Place) → place.rule < length rules → early_at w place.rule ≡ None → IsCalmRule w values place.rule → (a : Alarm)
      → IsBreach place (tree_of_rule rules place.rule) rows a → ⊥
  rule_unbroken place below plain calm a b =
      let k = place.rule in
      let t = tree_of_rule rules k in
      let many = are.early.as_many in
      let count = w.as_many in
      let formulas = follows.of.count in
      let watched_as : IsWatchedAs None t = subst (λ (e : Option EarlyRule). IsWatchedAs e t) plain (are.early.each k below) in
      let at = b.at in
      let end : length rows ≡ at + reach_of t + 1 = reached place t rows watched_as.0 watched_as.1 at b.broken b.decided in
      let tree : formula_at (plain_trees w.early.items rules) k ≡ t = formula_is w.early.items rules k many below plain in
      let last : last_value w.program values k ≡ value_in (rows ++ []) t (length rows - 1 - reach_of t) =
      subst (λ (f : FormulaTree). reach_of f < length rows → last_value w.program values k ≡ value_in (rows ++ []) f (length rows - 1 - reach_of f)) tree
      (λ ready. last_given w.program values (plain_trees w.early.items rules) rows follows k (omega (arith, below, many, count, formulas)) ready []) (omega (arith, end)) in
      let position : length rows - 1 - reach_of t ≡ at = omega (arith, end) in
      calm plain (last ∙ ap (λ (r : Trace). value_in r t (length rows - 1 - reach_of t)) (append-nil rows) ∙ ap (value_in rows t) position ∙ b.broken)

-- where no rule has a program of its own
pub no_breach : (w : WatchedRules) (numbers : AuditNumbers) (are : AreWatched w numbers.rules) (values : TraceState) (known : Known)
    → Follows w.program values (plain_trees w.early.items numbers.rules) known.trace → IsCalm w values → ((k : ℕ) → k < length w.early.items → early_at w k ≡ None)
    → (step : ℕ) (a : Alarm) → IsBreachOf numbers step known a → ⊥
no_breach w numbers are values known follows calm plain step a b =
    let k = b.rule in
    let below = b.below in
    let many = are.early.as_many in
    let inside : k < length w.early.items = omega (arith, below, many) in
    let place : Place = record { pair = known.pair; start = known.start; rule = k; step = step } in
    rule_unbroken w numbers.rules are values known.trace follows place below (plain k inside) (calm k inside) a b.breach
