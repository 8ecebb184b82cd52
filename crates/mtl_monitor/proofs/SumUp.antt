-- A cell goes round from the back of a ring to its front, joined with all that follow it.
use Rattle.std.proofs.Common.{◌≡◌, ℕ, suc, ◌+◌, ◌-◌, ◌<◌, ◌≤◌, refl, ap, sym, ◌∙◌, arith, List, [], ◌∷◌, ◌++◌, length, take, drop, get_or, append_assoc, length-append, Option, Some, None}
use Rattle.std.specs.Prelude.{slice_get, min}
use Rattle.std.proofs.Math.Seq.{take-suc, drop-cons, take-append_seam}
use Rattle.std.proofs.lemmas.List.{length_push, length-take, length-drop, take_all}
use Rattle.circular_buffer.specs.Buffer.{Buffer, buffer, last_item}
use Rattle.mtl_monitor.specs.declared.lookahead.Stretch.{Stretch}
use Rattle.mtl_monitor.specs.Inner.Lookahead.{nowhere, joined, first_of, with_all_after}

at_end : (zs : List Stretch) (c : Stretch) → slice_get (zs ++ c ∷ []) (length zs) ≡ Some c
at_end [] c = refl
at_end (z ∷ zs) c = at_end zs c

length-with_all_after : (xs : List Stretch) → length (with_all_after xs) ≡ length xs
length-with_all_after [] = refl
length-with_all_after (x ∷ xs) = ap suc (length-with_all_after xs)

abbrev value_or : Stretch → Option Stretch → Stretch
value_or d None = d
value_or d (Some x) = x

module _ (all : List Stretch) (counter cap : ℕ) (inside : counter < length all) (fits : length all ≤ cap) where
  abbrev left : ℕ
  left = length all - (counter + 1)

  abbrev here : Stretch
  here = get_or all left nowhere

  abbrev done : List Stretch
  done = with_all_after (drop (suc left) all)

  one_more : length all - counter ≡ suc left
  one_more = omega arith

  within : left < length all
  within = omega arith

  -- the ring before the cell goes round
  before : done ++ take (suc left) all ≡ (done ++ take left all) ++ here ∷ []
  before = rw (take-suc all left nowhere within) (sym (append_assoc done (take left all) (here ∷ [])))

  after_here : with_all_after (drop left all) ≡ joined here (first_of done) ∷ done
  after_here = ap with_all_after (drop-cons all left nowhere within)

  pub turned : (cells popped pushed : Buffer Stretch) (cell after : Stretch)
      → cells ≡ buffer (with_all_after (drop (length all - counter) all) ++ take (length all - counter) all) cap
      → after ≡ first_of (with_all_after (drop (length all - counter) all)) → Some cell ≡ last_item cells.items
      → popped ≡ buffer (take (length cells.items - 1) cells.items) cells.capacity
      → pushed ≡ buffer (take popped.capacity (joined cell after ∷ popped.items)) popped.capacity
      → (pushed ≡ buffer (with_all_after (drop left all) ++ take left all) cap) × (joined cell after ≡ first_of (with_all_after (drop left all)))
  turned cells popped pushed cell after cells_are after_is cell_is popped_is pushed_is =
      let ring : cells ≡ buffer (done ++ take (suc left) all) cap = rw one_more at cells_are in
      let items : cells.items ≡ (done ++ take left all) ++ here ∷ [] = ap (λ (b : Buffer Stretch). b.items) ring ∙ before in
      let long : length cells.items - 1 ≡ length (done ++ take left all) = omega (arith, ap length items, length_push (done ++ take left all) here) in
      let after_are : after ≡ first_of done = rw one_more at after_is in
      let read : Some cell ≡ Some here = rw (long, items, at_end (done ++ take left all) here) at cell_is in
      let is : cell ≡ here = ap (value_or nowhere) read in
      let rest : popped ≡ buffer (done ++ take left all) cap = rw (long, items, take-append_seam (done ++ take left all) (here ∷ []), ap (λ (b : Buffer Stretch). b.capacity) ring) at popped_is in
      let joined_is : joined cell after ≡ joined here (first_of done) = rw (is, after_are) in
      let size : length (joined here (first_of done) ∷ (done ++ take left all)) ≤ cap = omega (arith, fits_whole) in (
        pushed_is ∙ (rw (rest, joined_is, take_all cap (joined here (first_of done) ∷ (done ++ take left all)) size, after_here) refl),
        joined_is ∙ sym (ap first_of after_here),
      )
    where
      fits_whole : length (joined here (first_of done) ∷ (done ++ take left all)) ≡ length all
      fits_whole =
          let older : length done ≡ length all - suc left = length-with_all_after (drop (suc left) all) ∙ length-drop (suc left) all in
          let rest : length (take left all) ≡ min left (length all) = length-take left all in
          omega (arith, length-append done (take left all), older, rest)

  pub some_left : (cells : Buffer Stretch) → cells ≡ buffer (with_all_after (drop (length all - counter) all) ++ take (length all - counter) all) cap
      → last_item cells.items ≡ Some here
  some_left cells cells_are =
      let ring : cells ≡ buffer (done ++ take (suc left) all) cap = rw one_more at cells_are in
      let items : cells.items ≡ (done ++ take left all) ++ here ∷ [] = ap (λ (b : Buffer Stretch). b.items) ring ∙ before in
      let long : length cells.items - 1 ≡ length (done ++ take left all) = omega (arith, ap length items, length_push (done ++ take left all) here) in
      rw (long, items) (at_end (done ++ take left all) here)
