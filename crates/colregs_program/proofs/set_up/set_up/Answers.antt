use Rattle.std.proofs.Common.{sym, subst, Result}
use Rattle.colregs_program.specs.Inner.SetUps.{came_of}
use Rattle.colregs_program.specs.declared.set_up.SetUp.{SetUp}
use Rattle.colregs_program.specs.declared.set_up.SetUpFault.{SetUpFault}
use Rattle.colregs_program.proofs.SettingUp.{GivesDue, both_had, handed_on, rows_fail, scenario_fails}
use Rattle.colregs_program.proofs.set_up.set_up.Goals as goal

pub returns-in_err-scenario-clause-due : goal.returns-in_err-scenario-clause-due
returns-in_err-scenario-clause-due g c =
    subst (λ (r : Result SetUp SetUpFault). GivesDue c.args.request.now (g.H.Shelf.files c.args.shelf.now) (g.H.Shelf.faults c.args.shelf.now) (g.H.Shelf.faults c.scenario_of.new.shelf) (came_of r))
    (sym (handed_on c.from_residual.result c.in_err-scenario.field-0.0 c.from_residual.ensures.1))
    (scenario_fails c.args.request.now (g.H.Shelf.files c.args.shelf.now) _ _ c.in_err-scenario.field-0.0 c.in_err-scenario.ensures.due)

pub returns-in-Err-clause-due : goal.returns-in-Err-clause-due
returns-in-Err-clause-due g c =
    rows_fail c.args.request.now (g.H.Shelf.files c.args.shelf.now) _ _ _ c.in_ok-scenario.scenario (c.in_ok-scenario.ensures.calm (λ is. cc is)) c.in_ok-scenario.ensures.due c.in-Err.ensures.steps
    c.in-Err.why (rw c.in_ok-scenario.ensures.same at c.in-Err.ensures.due)

pub returns-in-Ok-clause-due : goal.returns-in-Ok-clause-due
returns-in-Ok-clause-due g c =
    both_had c.args.request.now (g.H.Shelf.files c.args.shelf.now) _ _ _ c.in_ok-scenario.scenario (c.in_ok-scenario.ensures.calm (λ is. cc is)) c.in_ok-scenario.ensures.due c.in-Ok.ensures.steps
    c.in-Ok.rows.items (rw c.in_ok-scenario.ensures.same at c.in-Ok.ensures.due)
