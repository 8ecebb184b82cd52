use Rattle.std.proofs.Common.{◌≡◌, ◌∙◌, ℕ, ◌≤◌, ◌-◌, List, [], ◌++◌, length, drop, ap, arith, length-append}
use Rattle.circular_buffer.specs.Buffer.{buffer, keep_last}
use Rattle.mtl_monitor.proofs.copying.copy_ring.Goals as goal

module _ {X : Type 0} where
  kept : (n : ℕ) (xs : List X) → length xs ≤ n → keep_last n xs ≡ xs
  kept n xs h = let none : length xs - n ≡ 0 = omega arith in ap (λ k. drop k xs) none

  -- an empty ring takes two parts that fit, and holds both
  both : (n : ℕ) (xs ys zs : List X) → xs ++ ys ≡ zs → length zs ≤ n → keep_last n (keep_last n ([] ++ xs) ++ ys) ≡ zs
  both n xs ys zs e h =
      let long : length xs ≤ n = omega (arith, ap length e, length-append xs ys) in
      ap (λ l. keep_last n (l ++ ys)) (kept n xs long) ∙ (ap (keep_last n) e ∙ kept n zs h)

pub returns : goal.returns
returns g c =
    let other = c.args.other.now in
    rw (c.extend_from_slice-2.ensures, c.extend_from_slice.ensures, c.clear.ensures, c.requires)
    (ap (λ l. buffer l other.capacity) (both other.capacity _ _ other.items c.as_slices.ensures (omega (arith, c.len-length.ensures.within.0, c.len-length.ensures.len))))
