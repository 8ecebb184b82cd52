use Rattle.std.proofs.Common.{◌≡◌, ◌∙◌, ap, true, fold, map, refl, subst, sym, List, [], ◌∷◌}
use Rattle.std.proofs.lemmas.Result.{IfOk-weaker}
use Rattle.clap.specs.Built.{AddsArg, AddsInTurn}
use Rattle.clap.specs.Words.{App, Rule, app_of, rule_of, with_rule}
use Rattle.clap.specs.declared.builder.arg.Arg.{Arg}
use Rattle.clap.specs.declared.builder.command.Command.{Command}
use Rattle.command_line.specs.CommandLine.{colregs, mode_rule, scenario_rule, setting_rule, settings}
use Rattle.command_line.proofs.RuledArguments.{local}
use Rattle.command_line.proofs.colregs.colregs.Goals as goal

-- the rules of the arguments: each rule is simple
abbrev HaveRules : List Arg → List Rule → Type 0
HaveRules [] rules = rules ≡ []
HaveRules (a ∷ args) [] = ⊥
HaveRules (a ∷ args) (r ∷ rules) = (rule_of a ≡ r) × (r.is_simple ≡ true) × HaveRules args rules

-- each adds its rule
ruled : (old new : Command) (args : List Arg) (rules : List Rule) → HaveRules args rules → AddsInTurn AddsArg old args new → app_of new ≡ fold with_rule (app_of old) rules
ruled old new [] rules have added = ap app_of (sym added) ∙ ap (fold with_rule (app_of old)) (sym have)
ruled old new (a ∷ args) [] have added = absurd have
ruled old new (a ∷ args) (r ∷ rules) have added =
    ruled added.0 new args rules have.2 added.2
    ∙ ap (λ (app : App). fold with_rule app rules) (added.1.shape (local a r have.0 have.1) ∙ ap (with_rule (app_of old)) have.0)

pub returns : goal.returns
unfolding colregs
returns c =
    let rules : List Rule = mode_rule c.args.modes ∷ scenario_rule ∷ map setting_rule settings in
    let have : HaveRules (c.mode.result ∷ c.scenario.result ∷ c.start.result ∷ c.ticks.result ∷ c.seed.result ∷ c.why.result ∷ c.rows.result ∷ []) rules =
    (c.mode.ensures, refl, (c.scenario.ensures, refl, (c.start.ensures, refl, (c.ticks.ensures, refl, (c.seed.ensures, refl, (c.why.ensures, refl, (c.rows.ensures, refl, refl))))))) in
    IfOk-weaker c.args-2.result _ _ (λ r added.
    ruled c.program.result r _ rules (subst (λ (args : List Arg). HaveRules args rules) (sym c.in_ok-arguments.ensures.items) have) added
    ∙ ap (λ (app : App). fold with_rule app rules) c.program.ensures) c.args-2.ensures
