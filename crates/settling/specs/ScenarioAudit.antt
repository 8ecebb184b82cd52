-- The numbers of a scenario's audit.
use Rattle.traces.specs.Audited.{AuditNumbers}
use Rattle.scenario_values.specs.declared.values.Scenario.{Scenario}

abbrev pub audit_numbers : Scenario → AuditNumbers
audit_numbers scenario = record {
  detect = scenario.detect;
  act = scenario.act;
  tick = scenario.window.tick;
  last_tick = scenario.window.ticks;
  subjects = scenario.subjects;
  rules = scenario.rules;
}
