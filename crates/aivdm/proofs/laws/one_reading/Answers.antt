use Rattle.aivdm.specs.ReadingOf.{reading_of}
use Rattle.aivdm.proofs.OneReading.{one_reading, reads}
use Rattle.aivdm.proofs.laws.one_reading.Goals as goal

pub returns-clause-one : goal.returns-clause-one
returns-clause-one c = reads

pub returns-clause-only : goal.returns-clause-only
returns-clause-only c = λ line content reading. one_reading line content (reading_of line) reading (reads line)
