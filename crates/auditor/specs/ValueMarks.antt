-- The marks in a rule's track.
use Rattle.mtl_formulas.specs.declared.verdict.Verdict.{Verdict}
use Rattle.mtl_formulas.specs.declared.verdict.Verdict.TheVariants.{No, Open, Yes}
use Rattle.audit_rows.specs.declared.mark.Mark.{Mark}
use Rattle.audit_rows.specs.declared.mark.Mark.TheVariants.{Nothing, Broken, Undecided}

-- by the value of the rule's formula at the position
abbrev pub mark_of : Verdict → Mark
mark_of Yes = Nothing
mark_of No = Broken
mark_of Open = Undecided
