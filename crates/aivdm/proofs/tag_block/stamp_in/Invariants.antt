use Rattle.std.proofs.Common.{◌≡◌, ◌==◌, None, length}
use Rattle.std.specs.List.{slice_split}
use Rattle.aivdm.specs.Inner.LineCuts.{stamp_among}
use Rattle.aivdm.specs.Inner.Seen.{parts_left}
use Rattle.aivdm.proofs.tag_block.stamp_in.Given as goal

-- the fields that are left, after the time of those before them, result in what all fields result
-- in
abbrev pub invariant-loop-left : goal.invariant-loop-left
invariant-loop-left l = stamp_among l.stamp (parts_left l.left) ≡ stamp_among None (slice_split (λ byte. byte == 44) l.content)

abbrev pub decreases-loop-left : goal.decreases-loop-left
decreases-loop-left l = length (parts_left l.left)
