use Rattle.std.proofs.Common.{ℕ, Option, sym, subst}
use Rattle.std.specs.Prelude.{OnOk}
use Rattle.mtl_formulas.specs.declared.verdict.Verdict.{Verdict}
use Rattle.early_monitor.specs.Inner.Breaches.{Adds, Tells}
use Rattle.early_monitor.proofs.alarm_set.take_answer.Goals as goal

pub returns-in-Some : goal.returns-in-Some
returns-in-Some c =
    subst (λ (answer : Option (ℕ × Verdict)). OnOk c.take_value.result (Adds (Tells answer c.args.place) c.args.alarms.now.keys c.take_value.new.alarms.keys)) (sym c.in-Some.is)
    c.take_value.ensures
