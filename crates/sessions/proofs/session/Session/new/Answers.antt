use Rattle.std.proofs.Common.{◌∙◌, refl, subst, sym, IsTrue}
use Rattle.tasks.specs.declared.mode.Mode.{Mode}
use Rattle.tasks.specs.Modes.{needs_own}
use Rattle.sessions.specs.Standing.{KeepsEnough, mode_by}
use Rattle.sessions.proofs.Working.{begun_ended, keeps_begun, nothing_refused}
use Rattle.sessions.proofs.session.Session.new.Goals as goal

pub returns-clause-stands : goal.returns-clause-stands
returns-clause-stands c =
    let scenario = c.scenario_for-scenario.result in
    let done = begun_ended c.in_ok-work.work scenario c.in_ok-work.ensures.done in
    record {
      in_range = c.scenario_for-scenario.ensures.in_range;
      own = λ needs. c.scenario_for-scenario.ensures.own c.requires.own (subst (λ (m : Mode). IsTrue (needs_own m)) c.in_ok-work.ensures.mode needs);
      lines = c.new-lines.ensures.stands;
      kept = subst (KeepsEnough c.in_ok-work.work scenario) (sym (c.new-lines.ensures.keeping ∙ c.keeping.ensures)) (keeps_begun c.in_ok-work.work scenario);
      taken = refl;
      unrefused = nothing_refused (mode_by c.in_ok-work.work) scenario;
      settled = done.0;
      audited = done.1;
    }
