use Rattle.std.proofs.Common.{◌≡◌, ◌<◌, [], ◌∷◌, ◌++◌, length, sym, subst, ◌∙◌, arith, Option, Some, None}
use Rattle.std.proofs.lemmas.List.{get_or_default}
use Rattle.meetings.specs.Answers.{answer_of}
use Rattle.mtl_formulas.specs.FormulaTree.{FormulaTree}
use Rattle.mtl_monitor.specs.Following.{IsFed}
use Rattle.early_monitor.specs.Alarms.{tree_of_rule}
use Rattle.early_monitor.specs.declared.early_rule.EarlyRule.{EarlyRule}
use Rattle.early_monitor.specs.declared.early_program.EarlyState.{EarlyState}
use Rattle.early_monitor.specs.Inner.Breaches.{IsBreach, Tells}
use Rattle.early_monitor.specs.Inner.EarlyStates.{IsAt}
use Rattle.early_monitor.specs.Inner.RulesWatched.{IsWatchedAs, StandsForRule, early_at, plain_trees}
use Rattle.early_monitor.proofs.Breaches.{adds_none, adds_same, late_breach}
use Rattle.early_monitor.proofs.Calm.{rule_unbroken}
use Rattle.early_monitor.proofs.Lists.{formula_is}
use Rattle.early_monitor.proofs.watched_rules.WatchedRules.take_row.Goals as goal

pub returns-in_ok-take_answer-in-None-clause-adds : goal.returns-in_ok-take_answer-in-None-clause-adds
returns-in_ok-take_answer-in-None-clause-adds c = λ rules rows are follows stands.
    let w = c.args.self.now in
    let k = c.args.place.rule in
    let t = tree_of_rule rules k in
    let all = rows ++ answer_of c.args.row.now ∷ [] in
    let within = c.requires.rule in
    let early : early_at w k ≡ None = get_or_default w.early.items k None c.index.result.now within ∙ sym c.index.ensures ∙ c.in-None.is in
    let many = are.early.as_many in
    let inside : k < length rules = omega (arith, within, many) in
    let watched_as : IsWatchedAs None t = subst (λ (e : Option EarlyRule). IsWatchedAs e t) early (are.early.each k inside) in
    let fed : IsFed c.answer-answer.result t all = subst (λ (s : FormulaTree). IsFed c.answer-answer.result s all) (formula_is w.early.items rules k many inside early) (c.answer-answer.ensures.fed (plain_trees w.early.items rules) all follows) in (
      subst (λ (e : Option EarlyRule). StandsForRule e c.args.state.now t all) (sym early) tt,
      adds_same (Tells c.answer-answer.result c.args.place) (IsBreach c.args.place t all) c.args.alarms.now.keys c.take_answer.new.alarms.keys
          (late_breach c.args.place t all watched_as.0 watched_as.1 c.answer-answer.result fed) c.in_ok-take_answer-in-None.ensures,
    )

pub returns-in_ok-take_row-in-Some-state-clause-adds : goal.returns-in_ok-take_row-in-Some-state-clause-adds
returns-in_ok-take_row-in-Some-state-clause-adds c = λ rules rows are follows stands.
    let w = c.args.self.now in
    let k = c.args.place.rule in
    let t = tree_of_rule rules k in
    let all = rows ++ answer_of c.args.row.now ∷ [] in
    let within = c.requires.rule in
    let early : early_at w k ≡ Some c.in-Some.early = get_or_default w.early.items k None c.index.result.now within ∙ sym c.index.ensures ∙ c.in-Some.is in
    let old : StandsForRule (early_at w k) (Some c.in-Some-state.state) t rows = subst (λ (s : Option EarlyState). StandsForRule (early_at w k) s t rows) c.in-Some-state.is stands in
    let at : IsAt c.in-Some.early.program c.in-Some-state.state t rows = subst (λ (e : Option EarlyRule). StandsForRule e (Some c.in-Some-state.state) t rows) early old in
    let after = c.in_ok-take_row-in-Some-state.ensures.adds t rows at in
    (subst (λ (e : Option EarlyRule). StandsForRule e (Some c.take_row.new.state) t all) (sym early) after.0, after.1)

pub returns-then-quiet-clause-adds : goal.returns-then-quiet-clause-adds
returns-then-quiet-clause-adds c = λ rules rows are follows stands.
    let w = c.args.self.now in
    let place = c.args.place in
    let k = place.rule in
    let t = tree_of_rule rules k in
    let all = rows ++ answer_of c.args.row.now ∷ [] in
    let within = c.requires.rule in
    let early : early_at w k ≡ None = get_or_default w.early.items k None c.index.result.now within ∙ sym c.index.ensures ∙ c.in-None.is in
    let many = are.early.as_many in
    let inside : k < length rules = omega (arith, within, many) in (
      subst (λ (e : Option EarlyRule). StandsForRule e c.args.state.now t all) (sym early) tt,
      adds_none (IsBreach place t all) c.args.alarms.now.keys (rule_unbroken w rules are c.args.values.now all follows place inside early (c.requires.quiet c.if-quiet.true)),
    )

pub returns-in_ok-take_row-in-Some-state-clause-calm : goal.returns-in_ok-take_row-in-Some-state-clause-calm
returns-in_ok-take_row-in-Some-state-clause-calm c = λ _ none.
    let w = c.args.self.now in
    let k = c.args.place.rule in
    let early : early_at w k ≡ Some c.in-Some.early = get_or_default w.early.items k None c.index.result.now c.requires.rule ∙ sym c.index.ensures ∙ c.in-Some.is in
    absurd (let both = sym early ∙ none in cc)
