use Rattle.std.proofs.Common.{ap, sym, ◌∙◌, Err}
use Rattle.tracks.specs.VesselsHeld.{Sent}
use Rattle.log_lines.specs.JudgedLines.{judged_entry}
use Rattle.log_lines.proofs.GoingOn.{Enters-latest, few_unless}
use Rattle.log_lines.proofs.judge.Judge.judge_message.Goals as goal

pub returns-in_err-entry-clause-crowded : goal.returns-in_err-entry-clause-crowded
returns-in_err-entry-clause-crowded c = λ told numbers before stands.
    let said = rw told at c.from_residual.ensures in
    (c.in_err-entry.ensures.too_many numbers before stands).0 (ap Err (sym said.1))

pub returns-clause-judged : goal.returns-clause-judged
returns-clause-judged c = λ numbers ranked before keeps.
    let one : Sent = record { message = c.args.message.now; time = c.args.time } in
    Enters-latest numbers ranked (record c.args.self.now { book = c.take.new.self; told = c.static_told-self.result; ranks = c.note.new.ranks }) c.enter.new.self _ before _ c.enter.ensures.same (record {
      is = c.enter.ensures.came c.args.message.now (sym c.position_report.ensures) ∙ ap (judged_entry _) (c.in_ok-entry.ensures.entry numbers before keeps.book);
      told = c.static_told-self.ensures;
      keeps = record {
        book = c.in_ok-entry.ensures.stands numbers before keeps.book;
        few = few_unless _ (λ more. cc ((c.in_ok-entry.ensures.too_many numbers before keeps.book).1 more));
        notes = c.in_ok-note.ensures ranked before one c.static_told-self.ensures keeps.notes;
      };
    })
