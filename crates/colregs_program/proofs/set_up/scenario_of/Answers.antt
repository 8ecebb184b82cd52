use Rattle.std.proofs.Common.{◌≡◌, ◌∙◌, inr, Ok, Err, None, ap, subst, sym, IsTrue}
use Rattle.std.specs.Prelude.{IsSome}
use Rattle.tasks.specs.Modes.{needs_own}
use Rattle.scenario_values.specs.ValueRanges.{IsInRange}
use Rattle.scenario_values.specs.declared.values.Scenario.{Scenario}
use Rattle.colregs_program.proofs.SettingUp.{due-from_read, in_range, own_needed, own_unneeded}
use Rattle.colregs_program.proofs.set_up.scenario_of.Goals as goal

pub returns-in-Ok-clause-due : goal.returns-in-Ok-clause-due
returns-in-Ok-clause-due g c = λ due is_due.
    let read = rw (c.as_slice.ensures.value, c.needs_own.ensures, c.mode.ensures) at c.in-Ok.ensures in
    rw c.with_options.ensures (inr (due-from_read c.args.request.now _ c.in_ok-text.text (Ok c.in-Ok.scenario) c.in_ok-text.ensures.content read.meant read.told due is_due))

pub returns-clause-due : goal.returns-clause-due
returns-clause-due g c = λ due is_due.
    let read = rw (c.as_slice.ensures.value, c.needs_own.ensures, c.mode.ensures) at c.in-Err.ensures in
    rw c.into.ensures (inr (due-from_read c.args.request.now _ c.in_ok-text.text (Err c.in-Err.fault) c.in_ok-text.ensures.content read.meant read.told due is_due))

pub returns-in-Ok-clause-own : goal.returns-in-Ok-clause-own
returns-in-Ok-clause-own g c = λ needed.
    subst (λ (s : Scenario). IsSome s.own) (sym c.with_options.ensures)
    (own_needed c.needs_own.result _ c.in-Ok.scenario (subst IsTrue (sym (c.needs_own.ensures ∙ ap needs_own c.mode.ensures)) needed) c.in-Ok.ensures.values)

pub returns-in-Ok-clause-unneeded : goal.returns-in-Ok-clause-unneeded
returns-in-Ok-clause-unneeded g c = λ unneeded.
    subst (λ (s : Scenario). s.own ≡ None) (sym c.with_options.ensures) (own_unneeded c.needs_own.result _ c.in-Ok.scenario ((c.needs_own.ensures ∙ ap needs_own c.mode.ensures) ∙ unneeded) c.in-Ok.ensures.values)

pub returns-in-Ok-clause-in_range : goal.returns-in-Ok-clause-in_range
returns-in-Ok-clause-in_range g c =
    subst IsInRange (sym c.with_options.ensures) (in_range c.args.request.now.window c.in-Ok.scenario c.requires c.in-Ok.ensures.in_range)
