use Rattle.std.proofs.Common.{◌++◌, List, ℕ, IsTrue, Err, ap, sym, subst}
use Rattle.log_lines.specs.GrowingLog.{ended_lines, open_part}
use Rattle.log_lines.specs.JudgedLines.{is_crowded}
use Rattle.log_lines.specs.LogLines.{without_carriage_return}
use Rattle.log_lines.specs.Standing.{StandsFor as JudgeStandsFor}
use Rattle.log_lines.proofs.Pushing.{crowded-push}
use Rattle.log_lines.proofs.Streaming.{begins_anew, line_ends, line_judged}
use Rattle.log_lines.proofs.streamed.StreamedLines.end_line.Goals as goal

pub returns-in_err-judged-clause-crowded : goal.returns-in_err-judged-clause-crowded
returns-in_err-judged-clause-crowded c = λ is scenario log stands.
    let said = rw is at c.from_residual-in_err-judged.ensures in
    let known = c.ended_by-line.ensures log (c.in_ok-extend_open.ensures log stands.line) in
    subst (λ (lines : List (List ℕ)). IsTrue (is_crowded scenario lines)) (sym (line_ends log c.args.part.now c.requires))
    (crowded-push scenario (ended_lines log) (without_carriage_return (open_part log ++ c.args.part.now))
    (c.in_err-judged.ensures.crowded (ap Err (sym said.1)) scenario (ended_lines log) _ stands.judge known))

pub returns-clause-judged : goal.returns-clause-judged
returns-clause-judged c = λ scenario log stands.
    line_judged log c.args.part.now c.requires scenario c.in_ok-judged.judged
    (c.in_ok-judged.ensures.judged scenario (ended_lines log) _ stands.judge (c.ended_by-line.ensures log (c.in_ok-extend_open.ensures log stands.line)))

pub returns-clause-stands : goal.returns-clause-stands
returns-clause-stands c = λ scenario log few stands.
    let extended = c.in_ok-extend_open.ensures log stands.line in
    record {
      judge = subst (JudgeStandsFor c.judge_line.new.judge scenario) (sym (line_ends log c.args.part.now c.requires))
          (c.in_ok-judged.ensures.stands scenario (ended_lines log) (without_carriage_return (open_part log ++ c.args.part.now)) few stands.judge (c.ended_by-line.ensures log extended));
      line = begins_anew extended.stood log c.args.part.now _ (c.end.ensures extended.stood extended.stands);
    }
