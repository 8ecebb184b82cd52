use Rattle.std.proofs.Common.{sym, subst}
use Rattle.std.proofs.lemmas.Result.{on_ok_weaker}
use Rattle.log_lines.specs.Standing.{StandsFor as JudgeStandsFor}
use Rattle.log_lines.proofs.ForCallers.{ended_so_far}
use Rattle.log_lines.proofs.streamed.StreamedLines.extend.Goals as goal

pub returns-clause-stands : goal.returns-clause-stands
returns-clause-stands c =
    on_ok_weaker c.extend.result (λ goes scenario log stands. record {
      judge = subst (JudgeStandsFor c.args.self.now.judge scenario) (sym (ended_so_far log c.args.part.now c.requires)) stands.judge;
      line = goes log stands.line;
    }) c.extend.ensures
