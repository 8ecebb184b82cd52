use Rattle.std.proofs.Common.{Some}
use Rattle.colregs_c.proofs.Answering.{end_of_run, if_ok}
use Rattle.colregs_c.proofs.running.run_with.Goals as goal

pub returns : goal.returns
returns c =
    let says = c.run-status.ensures in
    let out = c.new-out.ensures in
    let err = c.new-err.ensures in
    if_ok c.end_of.result _ _ (λ end are. end_of_run _ c.in_ok-shelf.shelf.files c.new-out.result c.run-status.new.out c.new-err.result c.run-status.new.err
    (Some c.run-status.new.log.rest.now) c.run-status.result end (record {
      headline = says.headline;
      due = says.due;
      log_limit = says.log_limit;
      vessel_limit = says.vessel_limit;
      pair_limit = says.pair_limit;
      silent = says.unwritten;
      unread = λ is. (says.read_fault is).0;
      unwritten = λ is. (says.write_fault is).0;
      line = says.line;
    }) c.in_ok-shelf.ensures out.bytes out.faults err.bytes err.faults are) c.end_of.ensures
