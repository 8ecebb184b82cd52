use Rattle.std.proofs.Common.{subst, List, ℕ}
use Rattle.colregs_c.specs.Calls.{call_of}
use Rattle.colregs_c.specs.Rooms.{Fills}
use Rattle.colregs_c.proofs.Showing.{shown_end, shown_memory}
use Rattle.colregs_c.proofs.colregs_report.Goals as goal

pub returns-in-Ok : goal.returns-in-Ok
returns-in-Ok c =
    let report = c.fill.ensures in
    let line = c.fill-in-Ok.ensures in
    shown_end _ (λ mode. call_of mode c.args.options.now c.args.scenario.now c.args.log.now c.args.rows.now) _ c.in-Ok.end (record {
      result = c.number.ensures;
      report = subst (λ (t : List ℕ). Fills c.args.out.now c.fill.new.room c.fill.new.length t) c.as_slice.ensures.value report;
      line = subst (λ (t : List ℕ). Fills c.args.fault.now c.fill-in-Ok.new.room c.fill-in-Ok.new.length t) c.as_slice-in-Ok.ensures.value line;
    }) c.in-Ok.ensures

pub returns-in-Err : goal.returns-in-Err
returns-in-Err c =
    shown_memory _ (λ mode. call_of mode c.args.options.now c.args.scenario.now c.args.log.now c.args.rows.now) _ (record {
      status = c.number-in-Err.ensures;
      report = c.fill-in-Err.ensures;
      line = c.fill-in-Err-2.ensures;
    })
