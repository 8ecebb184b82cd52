use Rattle.std.proofs.Common.{ℕ, List, [], subst}
use Rattle.auditor.specs.Standing.{StandsFor as AuditStandsFor}
use Rattle.settling.specs.ScenarioAudit.{audit_numbers}
use Rattle.settling.proofs.AuditedTicks.{audited_none}
use Rattle.settling.proofs.settled_audit.SettledAudit.new.Goals as goal

pub returns : goal.returns
returns c =
    let scenario = c.args.scenario.now in
    let stands : AuditStandsFor c.in_ok-audit.audit (audit_numbers scenario) [] [] = subst (λ (subjects : List ℕ). AuditStandsFor c.in_ok-audit.audit (record {
      detect = scenario.detect;
      act = scenario.act;
      tick = scenario.window.tick;
      last_tick = scenario.window.ticks;
      subjects = subjects;
      rules = scenario.rules;
    }) [] []) c.as_slice.ensures c.in_ok-audit.ensures.stands in
    c.new-2.ensures scenario (record {
      sound = c.in_ok-audit.ensures.sound;
      count = stands.window.stands.count;
      last = stands.window.stands.last_tick;
      stands = audited_none c.in_ok-audit.audit (audit_numbers scenario) stands;
    })
