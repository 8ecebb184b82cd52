-- The three values, in the order No, Open, Yes.
use Rattle.mtl_formulas.specs.declared.verdict.Verdict.{Verdict}
use Rattle.mtl_formulas.specs.declared.verdict.Verdict.TheVariants.{No, Open, Yes}

-- the value of a negation
abbrev pub turned_round : Verdict → Verdict
turned_round No = Yes
turned_round Open = Open
turned_round Yes = No

abbrev pub least : Verdict → Verdict → Verdict
least No w = No
least Open No = No
least Open Open = Open
least Open Yes = Open
least Yes w = w

abbrev pub greatest : Verdict → Verdict → Verdict
greatest No w = w
greatest Open No = Open
greatest Open Open = Open
greatest Open Yes = Yes
greatest Yes w = Yes
