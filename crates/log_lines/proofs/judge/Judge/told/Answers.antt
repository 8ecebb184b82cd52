use Rattle.std.proofs.Common.{Option, ap, sym, ◌∙◌, ◌++◌}
use Rattle.std.specs.Option.{option_to_list}
use Rattle.log_lines.specs.StaticReports.{static_reports}
use Rattle.log_lines.specs.declared.told_static.ToldStatic.{ToldStatic}
use Rattle.log_lines.proofs.Pushing.{static_reports-push, told-push}
use Rattle.log_lines.proofs.judge.Judge.told.Goals as goal

pub returns-clause-line : goal.returns-clause-line
returns-clause-line c = λ scenario before line stands. stands.told ∙ told-push scenario before line

pub returns-clause-reports : goal.returns-clause-reports
returns-clause-reports c = λ scenario before line stands.
    static_reports-push scenario before line
    ∙ ap (λ (told : Option ToldStatic). static_reports scenario before ++ option_to_list told) (sym (stands.told ∙ told-push scenario before line))
