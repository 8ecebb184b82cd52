use Rattle.std.proofs.Common.{ap, ◌∙◌}
use Rattle.std.specs.Prelude.{slice_index}
use Rattle.aivdm.specs.declared.checksum.TheConstants.{VALUES}
use Rattle.aivdm.proofs.HexadecimalDigits.{values}
use Rattle.aivdm.proofs.checksum.digit.Goals as goal

pub returns : goal.returns
returns c = ap (slice_index VALUES) c.from.ensures ∙ values c.args.byte c.ranges.byte.fits
