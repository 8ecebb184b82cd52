-- The texts of the book's faults.
use Rattle.std.specs.Prelude.{ℕ, List, codes}
use Rattle.tracks.specs.declared.entry.BookFault.{BookFault}
use Rattle.tracks.specs.declared.entry.BookFault.TheVariants.{TooManyVessels, Memory}

abbrev pub book_fault_text : BookFault → List ℕ
book_fault_text TooManyVessels = codes "too many vessels"
book_fault_text Memory = codes "out of memory"
