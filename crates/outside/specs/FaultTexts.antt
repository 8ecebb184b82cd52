-- The texts of faults.
use Rattle.std.specs.Prelude.{ℕ, List, codes}
use Rattle.outside.specs.declared.whole.ReadFault.{ReadFault}
use Rattle.outside.specs.declared.whole.ReadFault.TheVariants as fault

abbrev pub read_fault_text : ReadFault → List ℕ
read_fault_text fault.Failed = codes "a read failed"
read_fault_text fault.TooLong = codes "too long"
read_fault_text fault.Memory = codes "out of memory"
