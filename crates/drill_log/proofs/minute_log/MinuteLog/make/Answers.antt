use Rattle.std.proofs.Common.{ℕ, ◌-◌, List, ◌++◌, flat_map, sym, ap, ◌∙◌, arith}
use Rattle.std.specs.List.{range_with_len}
use Rattle.drill_log.specs.Inner.MinuteLines.{lines_at, unmade}
use Rattle.drill_log.specs.declared.vessel.Vessel.{Vessel}
use Rattle.drill_log.proofs.Minutes.{minutes_split}
use Rattle.drill_log.proofs.minute_log.MinuteLog.make.Goals as goal

pub returns-clause-left : goal.returns-clause-left
returns-clause-left c =
    let source = c.args.self.now in
    let next = c.min-next.result in
    let lines = lines_at source.reference source.start source.vessels.items in
    ap (λ (l : List ℕ). l ++ flat_map lines (range_with_len next (source.reports - next)))
    (
    c.new.ensures.left ∙ c.in_ok-lines.ensures
    ∙ ap (λ (vessels : List Vessel). flat_map (lines_at source.reference source.start vessels) (range_with_len source.made (next - source.made))) c.deref.ensures.value
    )
    ∙ minutes_split lines source.made next source.reports (omega arith) (omega arith)
    ∙ ap (λ (l : List ℕ). l ++ unmade source) (sym c.requires)
