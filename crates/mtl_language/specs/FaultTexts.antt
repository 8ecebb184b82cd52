-- The texts of the faults.
use Rattle.std.specs.Prelude.{ℕ, List, ◌++◌, codes}
use Rattle.std.specs.Fmt.{decimal}
use Rattle.mtl_language.specs.declared.parsing.ParseFault.{ParseFault}
use Rattle.mtl_language.specs.declared.parsing.ParseFault.TheVariants.{Syntax, Number, Size, Memory}

abbrev pub fault_text : ParseFault → List ℕ
fault_text (Syntax byte) = codes "no formula from byte " ++ decimal byte ++ codes " on"
fault_text (Number byte) = codes "the number at byte " ++ decimal byte ++ codes " is refused"
fault_text Size = codes "the formula is too large"
fault_text Memory = codes "out of memory"
