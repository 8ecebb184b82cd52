-- Marks of one sort stand in one stretch.
use Rattle.std.specs.Prelude.{min}
use Rattle.audit_rows.specs.declared.mark.Mark.{Mark}
use Rattle.audit_rows.specs.declared.mark.Mark.TheVariants as mark

pub data Sort : Type 0 where
  Nothing : Sort
  Broken : Sort
  Undecided : Sort
  Engaged : Sort

abbrev pub sort_of : Mark → Sort
sort_of mark.Nothing = Nothing
sort_of mark.Broken = Broken
sort_of mark.Undecided = Undecided
sort_of (mark.Engaged kind least) = Engaged

-- two neighbours of one sort as one: the kind of the first, and the lesser distance
abbrev pub join : Mark → Mark → Mark
join mark.Nothing next = mark.Nothing
join mark.Broken next = mark.Broken
join mark.Undecided next = mark.Undecided
join (mark.Engaged kind least) mark.Nothing = mark.Engaged kind least
join (mark.Engaged kind least) mark.Broken = mark.Engaged kind least
join (mark.Engaged kind least) mark.Undecided = mark.Engaged kind least
join (mark.Engaged kind least) (mark.Engaged other distance) = mark.Engaged kind (min least distance)
