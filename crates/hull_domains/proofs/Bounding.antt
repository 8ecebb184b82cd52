-- The bounds that the first edges of a shape set to the time: strictly between them own ship is inside each of these edges, and where she
-- is inside each at some time of the step, they leave some time.
use Rattle.std.proofs.Common.{ℕ, zero, suc, ◌≡◌, ◌+◌, ◌≤◌, ◌<◌, ◌⊎◌, inl, inr, ℤ, pos, negsuc, neg_ℤ, ◌+ℤ◌, ◌*ℤ◌, ◌≤ℤ◌, ◌<ℤ◌, unsigned_abs, refl, arith, sym, subst, subst₂}
use Rattle.std.specs.Prelude.{true, false, int_lt}
use Rattle.std.proofs.lemmas.Int.{ints, by_lt_z}
use Rattle.hull_domains.specs.Crossings.{mediant, earliest, earlier, is_less, later, latest, lower, upper}
use Rattle.hull_domains.specs.declared.sides.Fraction.{Fraction}
use Rattle.hull_domains.specs.declared.sides.Side.{Side}
use Rattle.hull_domains.proofs.Fractions.{above, below, chain_le_lt, chain_lt_le}
use Rattle.hull_domains.proofs.Times.{after, always, before}

-- She is inside the edge of a side at the instant a / b.
unfoldable pub IsInsideEdge : Side → ℕ → ℕ → Type 0
IsInsideEdge side a b = (pos b *ℤ side.start +ℤ pos a *ℤ side.change) <ℤ pos 0

pub Less : Fraction → Fraction → Type 0
Less x y = (x.over *ℤ pos y.under) <ℤ (y.over *ℤ pos x.under)

pub AtMost : Fraction → Fraction → Type 0
AtMost x y = (x.over *ℤ pos y.under) ≤ℤ (y.over *ℤ pos x.under)

pub at : ℕ → ℕ → Fraction
at a b = record { over = pos a; under = b }

pub record LeavesTime (from to : Fraction) (a b : ℕ) : Type 0 where
  pub begun : AtMost from (at a b)
  pub not_over : AtMost (at a b) to
  pub some : Less from to

pub record AreBounds (side : ℕ → Side) (n : ℕ) (from to : Fraction) : Type 0 where
  pub from_some : 0 < from.under
  pub to_some : 0 < to.under
  pub not_early : pos 0 ≤ℤ from.over
  pub not_late : to.over ≤ℤ pos to.under
  pub within : (a b : ℕ) → 0 < b → Less from (at a b) → Less (at a b) to → (k : ℕ) → k < n → IsInsideEdge (side k) a b
  pub around : (a b : ℕ) → 0 < b → a ≤ b → ((k : ℕ) → k < n → IsInsideEdge (side k) a b) → LeavesTime from to a b

le_of_lt : (x y : ℤ) → x <ℤ y → x ≤ℤ y
le_of_lt x y h = omega (arith, ints)

-- ---- no edge yet

pub whole_step : (side : ℕ → Side) → AreBounds side 0 (record { over = pos 0; under = 1 }) (record { over = pos 1; under = 1 })
unfolding IsInsideEdge Less AtMost at
whole_step side = record {
  from_some = omega arith;
  to_some = omega arith;
  not_early = omega (arith, ints);
  not_late = omega (arith, ints);
  within = λ a b some _ _ k lt. absurd (omega arith);
  around = λ a b some le _. record { begun = omega (arith, ints); not_over = omega (arith, ints); some = omega (arith, ints) };
}

-- ---- one more edge

last_or_before : (k n : ℕ) → k < suc n → (k < n) ⊎ (k ≡ n)
last_or_before k n lt = grind arith

positive : (x y : ℤ) (k l : ℕ) → pos 0 ≤ℤ x → (x *ℤ pos l) <ℤ (y *ℤ pos k) → pos 0 ≤ℤ y
positive x (pos n) k l sign h = omega (arith, ints)
positive (pos m) (negsuc n) k l sign h = absurd (omega (arith, ints))
positive (negsuc m) (negsuc n) k l sign h = absurd (omega (arith, ints))

some_below : (z : ℤ) → z <ℤ pos 0 → 0 < unsigned_abs z
some_below z h = omega (arith, ints)

some_above : (z : ℤ) → pos 0 <ℤ z → 0 < unsigned_abs z
some_above z h = omega (arith, ints)

is_lt : (x y : ℤ) → x <ℤ y → int_lt x y ≡ true
is_lt x y h = grind (arith, ints)

is_not_lt : (x y : ℤ) → y ≤ℤ x → int_lt x y ≡ false
is_not_lt x y h = grind (arith, ints)

lt_of : (x y : ℤ) → int_lt x y ≡ true → x <ℤ y
lt_of x y h = grind (arith, ints)

both : (z : ℤ) → pos 0 ≤ℤ z → z ≤ℤ pos 0 → z ≡ pos 0
both z p q = omega (arith, ints)

module _ (side : ℕ → Side) (n : ℕ) (from to : Fraction) (old : AreBounds side n from to) where
  earlier_edges : (a b : ℕ) → ((k : ℕ) → k < suc n → IsInsideEdge (side k) a b) → (k : ℕ) → k < n → IsInsideEdge (side k) a b
  earlier_edges a b all k lt = all k (omega arith)

  all_edges : (a b : ℕ) → ((k : ℕ) → k < n → IsInsideEdge (side k) a b) → IsInsideEdge (side n) a b → (k : ℕ) → k < suc n → IsInsideEdge (side k) a b
  all_edges a b before_it here k lt =
      elim (last_or_before k n lt) [
        | inl less ↦ before_it k less
        | inr same ↦ subst (λ (j : ℕ). IsInsideEdge (side j) a b) (sym same) here
      ]

  falls_taken : (side n).change <ℤ pos 0 → Less from (lower (side n)) → AreBounds side (suc n) (lower (side n)) to
  unfolding IsInsideEdge Less AtMost at
  falls_taken falls less =
      let l : Side = side n in
      let d : ℕ = unsigned_abs l.change in
      let some_d : 0 < d = some_below l.change falls in
      record {
        from_some = some_d;
        to_some = old.to_some;
        not_early = positive from.over l.start from.under d old.not_early less;
        not_late = old.not_late;
        within = λ a b some past short.
            all_edges a b (old.within a b some (chain_le_lt from.over l.start (pos a) from.under d b old.from_some (le_of_lt _ _ less) past) short)
            ((after l.start l.change a b falls).1 past);
        around = λ a b some le all.
            let time = old.around a b some le (earlier_edges a b all) in
            let past = (after l.start l.change a b falls).0 (all n (omega arith)) in
            record { begun = le_of_lt _ _ past; not_over = time.not_over; some = chain_lt_le l.start (pos a) to.over d b to.under old.to_some past time.not_over };
      }

  falls_kept : (side n).change <ℤ pos 0 → AtMost (lower (side n)) from → AreBounds side (suc n) from to
  unfolding IsInsideEdge Less AtMost at
  falls_kept falls most =
      let l : Side = side n in
      let d : ℕ = unsigned_abs l.change in
      record {
        from_some = old.from_some;
        to_some = old.to_some;
        not_early = old.not_early;
        not_late = old.not_late;
        within = λ a b some past short.
            all_edges a b (old.within a b some past short)
            ((after l.start l.change a b falls).1 (chain_le_lt l.start from.over (pos a) d from.under b (some_below l.change falls) most past));
        around = λ a b some le all. old.around a b some le (earlier_edges a b all);
      }

  rises_taken : pos 0 <ℤ (side n).change → Less (upper (side n)) to → AreBounds side (suc n) from (upper (side n))
  unfolding IsInsideEdge Less AtMost at
  rises_taken rises less =
      let l : Side = side n in
      let d : ℕ = unsigned_abs l.change in
      let some_d : 0 < d = some_above l.change rises in
      record {
        from_some = old.from_some;
        to_some = some_d;
        not_early = old.not_early;
        not_late = at_most_one (neg_ℤ l.start) to.over d to.under less old.not_late;
        within = λ a b some past short.
            all_edges a b (old.within a b some past (chain_lt_le (pos a) (neg_ℤ l.start) to.over b d to.under old.to_some short (le_of_lt _ _ less)))
            ((before l.start l.change a b rises).1 short);
        around = λ a b some le all.
            let time = old.around a b some le (earlier_edges a b all) in
            let short = (before l.start l.change a b rises).0 (all n (omega arith)) in
            record { begun = time.begun; not_over = le_of_lt _ _ short; some = chain_le_lt from.over (pos a) (neg_ℤ l.start) from.under b d old.from_some time.begun short };
      }
    where
      at_most_one : (x y : ℤ) (k l : ℕ) → (x *ℤ pos l) <ℤ (y *ℤ pos k) → y ≤ℤ pos l → x ≤ℤ pos k
      at_most_one x y k l h le =
          let lt = chain_lt_le x y (pos 1) k l 1 (omega arith) h (omega (arith, ints)) in
          omega (arith, ints)

  rises_kept : pos 0 <ℤ (side n).change → AtMost to (upper (side n)) → AreBounds side (suc n) from to
  unfolding IsInsideEdge Less AtMost at
  rises_kept rises most =
      let l : Side = side n in
      let d : ℕ = unsigned_abs l.change in
      record {
        from_some = old.from_some;
        to_some = old.to_some;
        not_early = old.not_early;
        not_late = old.not_late;
        within = λ a b some past short.
            all_edges a b (old.within a b some past short)
            ((before l.start l.change a b rises).1 (chain_lt_le (pos a) to.over (neg_ℤ l.start) b to.under d (some_above l.change rises) short most));
        around = λ a b some le all. old.around a b some le (earlier_edges a b all);
      }

  stays : (side n).change ≡ pos 0 → (side n).start <ℤ pos 0 → AreBounds side (suc n) from to
  unfolding IsInsideEdge Less AtMost at
  stays level inside =
      let l : Side = side n in
      record {
        from_some = old.from_some;
        to_some = old.to_some;
        not_early = old.not_early;
        not_late = old.not_late;
        within = λ a b some past short. all_edges a b (old.within a b some past short) ((always l.start l.change a b some level).1 inside);
        around = λ a b some le all. old.around a b some le (earlier_edges a b all);
      }

  -- which bounds are taken

  falling : (side n).change <ℤ pos 0 → AreBounds side (suc n) (later from (side n)) to
  unfolding later Less AtMost
  falling falls =
      let l : Side = side n in
      let falls_true : int_lt l.change (pos 0) ≡ true = is_lt l.change (pos 0) falls in
      by_lt_z (from.over *ℤ pos (lower l).under) ((lower l).over *ℤ pos from.under)
      (λ less. rw (falls_true, is_lt (from.over *ℤ pos (lower l).under) ((lower l).over *ℤ pos from.under) less) (falls_taken falls less))
      (λ most. rw (falls_true, is_not_lt (from.over *ℤ pos (lower l).under) ((lower l).over *ℤ pos from.under) most) (falls_kept falls most))

  rising : pos 0 <ℤ (side n).change → AreBounds side (suc n) from (earlier to (side n))
  unfolding earlier Less AtMost
  rising rises =
      let l : Side = side n in
      let rises_true : int_lt (pos 0) l.change ≡ true = is_lt (pos 0) l.change rises in
      by_lt_z ((upper l).over *ℤ pos to.under) (to.over *ℤ pos (upper l).under)
      (λ less. rw (rises_true, is_lt ((upper l).over *ℤ pos to.under) (to.over *ℤ pos (upper l).under) less) (rises_taken rises less))
      (λ most. rw (rises_true, is_not_lt ((upper l).over *ℤ pos to.under) (to.over *ℤ pos (upper l).under) most) (rises_kept rises most))

  from_kept : pos 0 ≤ℤ (side n).change → from ≡ later from (side n)
  unfolding later
  from_kept not = rw (is_not_lt (side n).change (pos 0) not) refl

  to_kept : (side n).change ≤ℤ pos 0 → to ≡ earlier to (side n)
  unfolding earlier
  to_kept not = rw (is_not_lt (pos 0) (side n).change not) refl

  pub one_more : ((side n).change ≡ pos 0 → (side n).start <ℤ pos 0) → AreBounds side (suc n) (later from (side n)) (earlier to (side n))
  one_more level =
      by_lt_z (side n).change (pos 0)
      (λ falls. subst (AreBounds side (suc n) (later from (side n))) (to_kept (le_of_lt _ _ falls)) (falling falls))
      (λ not_falls. by_lt_z (pos 0) (side n).change
      (λ rises. subst (λ (f : Fraction). AreBounds side (suc n) f (earlier to (side n))) (from_kept (le_of_lt _ _ rises)) (rising rises))
      (λ not_rises. let is : (side n).change ≡ pos 0 = both (side n).change not_falls not_rises in
      subst₂ (AreBounds side (suc n)) (from_kept not_falls) (to_kept not_rises) (stays is (level is))))

-- ---- all edges

pub bounds_of : (side : ℕ → Side) (n : ℕ) → ((k : ℕ) → k < n → (side k).change ≡ pos 0 → (side k).start <ℤ pos 0) → AreBounds side n (latest side n) (earliest side n)
unfolding latest earliest
bounds_of side zero level = whole_step side
bounds_of side (suc n) level = one_more side n (latest side n) (earliest side n) (bounds_of side n (λ k lt. level k (omega arith))) (level n (omega arith))

size_is : (z : ℤ) → pos 0 ≤ℤ z → z ≡ pos (unsigned_abs z)
size_is z h = omega (arith, ints)

-- If the bounds leave some time, the moment between them is one at which she is inside.
pub inside_between : (side : ℕ → Side) (n : ℕ) (from to : Fraction) → AreBounds side n from to → is_less from to ≡ true
    → ((mediant from to).a ≤ (mediant from to).b) × (0 < (mediant from to).b) × ((k : ℕ) → k < n → IsInsideEdge (side k) (mediant from to).a (mediant from to).b)
unfolding mediant Less at
inside_between side n from to h is_before =
    let less : Less from to = lt_of (from.over *ℤ pos to.under) (to.over *ℤ pos from.under) is_before in
    let sum : ℤ = from.over +ℤ to.over in
    let sign : pos 0 ≤ℤ to.over = positive from.over to.over from.under to.under h.not_early less in
    let whole : sum ≡ pos (unsigned_abs sum) = size_is sum (omega (arith, ints)) in
    let early : (from.over *ℤ pos 1) <ℤ (pos 1 *ℤ pos from.under) = chain_lt_le from.over to.over (pos 1) from.under to.under 1 (omega arith) less (omega (arith, ints, h.not_late)) in
    let some : 0 < from.under + to.under = omega (arith, h.from_some) in (
      omega (arith, ints, h.not_late, h.not_early),
      some,
      h.within (unsigned_abs sum) (from.under + to.under) some
          (subst (λ (z : ℤ). (from.over *ℤ pos (from.under + to.under)) <ℤ (z *ℤ pos from.under)) whole (above from.over to.over from.under to.under less))
          (subst (λ (z : ℤ). (z *ℤ pos to.under) <ℤ (to.over *ℤ pos (from.under + to.under))) whole (below from.over to.over from.under to.under less)),
    )

pub none_inside : (side : ℕ → Side) (n : ℕ) (from to : Fraction) → AreBounds side n from to → is_less from to ≡ false
    → (a b : ℕ) → a ≤ b → 0 < b → ((k : ℕ) → k < n → IsInsideEdge (side k) a b) → ⊥
unfolding Less
none_inside side n from to h is_not a b le some all =
    let is_before : is_less from to ≡ true = is_lt (from.over *ℤ pos to.under) (to.over *ℤ pos from.under) (h.around a b some le all).some in
    cc
