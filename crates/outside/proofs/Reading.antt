-- What was taken of a source in several reads.
use Rattle.std.proofs.Common.{ℕ, List, ◌++◌, length, arith, length-append}
use Rattle.std.specs.declared.option.Option.{Option}
use Rattle.std.specs.Io.KnownBytes.{Consumes}
use Rattle.std.proofs.KnownBytes.{Consumes-trans}
use Rattle.outside.specs.WholeReading.{StopsAt, TakenAt}
use Rattle.outside.specs.declared.whole.ReadFault.{ReadFault}
use Rattle.outside.specs.declared.whole.ReadFault.TheVariants as fault

taken-more : (limit : ℕ) (bytes piece : List ℕ) (why : ReadFault) → TakenAt limit (length bytes) why piece → TakenAt limit 0 why (bytes ++ piece)
taken-more limit bytes piece fault.Failed taken = omega (arith, length-append bytes piece)
taken-more limit bytes piece fault.TooLong taken = omega (arith, length-append bytes piece)
taken-more limit bytes piece fault.Memory taken = omega (arith, length-append bytes piece)

-- what the last read took stands after what was taken before it
pub stops-after : (limit : ℕ) (a b c : Option (List ℕ)) (bytes : List ℕ) (why : ReadFault) → Consumes a b bytes → StopsAt limit (length bytes) b c why → StopsAt limit 0 a c why
stops-after limit a b c bytes why before last = record {
  piece = bytes ++ last.piece;
  long = taken-more limit bytes last.piece why last.long;
  taken = Consumes-trans a b c bytes last.piece before last.taken;
}
