-- What the shelf gave where a text was had, and where not.
use Rattle.std.specs.Prelude.{ℕ, Result, Ok, Err, Vec}
use Rattle.std.specs.declared.alloc.Global.{Global}
use Rattle.outside.specs.declared.shelf.Fetched.{Fetched}
use Rattle.outside.specs.declared.shelf.Fetched.TheVariants as fetched
use Rattle.colregs_program.specs.declared.fetching.FetchFault.{FetchFault}
use Rattle.colregs_program.specs.declared.fetching.FetchFault.TheVariants as fault

abbrev pub fetched_of : Result (Vec ℕ Global) FetchFault → Fetched
fetched_of (Ok text) = fetched.Bytes text
fetched_of (Err fault.TooLong) = fetched.TooLong
fetched_of (Err fault.NotHad) = fetched.Failed
fetched_of (Err fault.Memory) = fetched.Memory
