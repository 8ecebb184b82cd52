-- Lists that are made tick by tick.
use Rattle.std.proofs.Common.{◌≡◌, ◌∙◌, ℕ, ◌<◌, length, map, ap, arith, Some, None}
use Rattle.std.specs.Prelude.{Option, slice_get}
use Rattle.std.specs.List.{range_with_len}
use Rattle.std.proofs.lemmas.List.FromFn.{get_or-map-range_with_len, length-map-range_with_len}
use Rattle.std.proofs.lemmas.Option.{slice_get-get_or, unwrap_or-slice_get}
use Rattle.plan_situations.specs.Situations.{sighting}
use Rattle.motion.specs.declared.leg.TickState.{TickState}

-- the element at an index
pub slice_get_made : {X : Type 0} (f : ℕ → X) (n k : ℕ) → k < n → slice_get (map f (range_with_len 0 n)) k ≡ Some (f k)
slice_get_made f n k lt =
    let all = map f (range_with_len 0 n) in
    let count : length all ≡ n = length-map-range_with_len f 0 n in
    slice_get-get_or all k (f k) (omega (arith, count)) ∙ ap Some (get_or-map-range_with_len f 0 n k k (f k) lt (omega arith))

pub sighting_made : (f : ℕ → Option TickState) (n k : ℕ) → k < n → sighting (map f (range_with_len 0 n)) k ≡ f k
sighting_made f n k lt = unwrap_or-slice_get (map f (range_with_len 0 n)) k None ∙ get_or-map-range_with_len f 0 n k k None lt (omega arith)
