-- What a fault's text is.
use Rattle.std.specs.Prelude.{ℕ, List, codes}
use Rattle.traces.specs.declared.fault.TickFault.{TickFault}
use Rattle.traces.specs.declared.fault.TickFault.TheVariants.{TooManyPairs, Memory}

abbrev pub tick_fault_text : TickFault → List ℕ
tick_fault_text TooManyPairs = codes "too many pairs"
tick_fault_text Memory = codes "out of memory"
