-- A ring whose last values are counted; where they fill it, the same value again leaves it as it was.
use Rattle.std.proofs.Common.{◌≡◌, ℕ, ◌+◌, ◌-◌, ◌<◌, ◌≤◌, refl, ap, ap₂, sym, ◌∙◌, arith, Bool, true, false, inl, inr, List, [], ◌∷◌, ◌++◌, length, get_or}
use Rattle.std.specs.Prelude.{min, nat_lt, if◌then◌else◌}
use Rattle.std.proofs.lemmas.Bool.{cases_lt}
use Rattle.std.proofs.lemmas.List.{length_push, get_or_push, get_or_append_left, get_or-drop, length-drop, ext_get_or}
use Rattle.circular_buffer.specs.Buffer.{Buffer, buffer}
use Rattle.mtl_formulas.specs.declared.verdict.Verdict.{Verdict}
use Rattle.mtl_formulas.specs.declared.verdict.Verdict.TheVariants.{No, Open, Yes}
use Rattle.mtl_monitor.specs.declared.delay_line.Run.{Run}
use Rattle.mtl_monitor.specs.declared.delay_line.Delayed.{Delayed}
use Rattle.mtl_monitor.specs.Inner.Steps.{delayed_from, ring_after, same_verdict, run_after}
use Rattle.mtl_monitor.specs.Inner.Runs.{IsFullAs, IsRun}

pub same_verdict-equal : (v w : Verdict) → same_verdict v w ≡ true → v ≡ w
same_verdict-equal No No h = refl
same_verdict-equal Open Open h = refl
same_verdict-equal Yes Yes h = refl
same_verdict-equal _ _ h = cc

module _ (b : Buffer Verdict) (r : Run) (v : Verdict) (h : IsRun b r) where
  abbrev longer : List Verdict
  longer = b.items ++ v ∷ []

  abbrev gone : ℕ
  gone = length longer - b.capacity

  one_more : length longer ≡ length b.items + 1
  one_more = length_push b.items v

  size : length (ring_after b v).items ≡ length longer - gone
  size = length-drop gone longer

  here : (j : ℕ) → get_or (ring_after b v).items j v ≡ get_or longer (gone + j) v
  here j = get_or-drop gone longer j v

  last : get_or longer (length b.items) v ≡ v
  last = get_or_push b.items v v (length b.items) refl

  count_most : (same : Bool) → (if same then min (r.count + 1) b.capacity else min 1 b.capacity) ≤ length longer - gone
  count_most true = omega (arith, h.within, one_more)
  count_most false = omega (arith, one_more)

  -- an older value of the run
  older : v ≡ r.value → (j : ℕ) → length b.items - r.count ≤ j → j < length b.items → get_or longer j v ≡ v
  older is j from inside = rw (get_or_append_left b.items (v ∷ []) v j inside) (rw (← is) at (h.equal j from inside))

  equal_after : (same : Bool) → (same ≡ true → v ≡ r.value) → (j : ℕ)
      → length (ring_after b v).items - (if same then min (r.count + 1) b.capacity else min 1 b.capacity) ≤ j → j < length (ring_after b v).items
      → get_or (ring_after b v).items j v ≡ v
  equal_after true is j from inside = here j ∙ (elim (cases_lt (gone + j) (length b.items)) [
    | inl before ↦ older (is refl) (gone + j) (omega (arith, from, size, one_more, h.within)) before
    | inr beyond ↦ let at : gone + j ≡ length b.items = omega (arith, inside, size, one_more) in rw at last
  ])
  equal_after false is j from inside =
      let at : gone + j ≡ length b.items = omega (arith, from, inside, size, one_more) in
      here j ∙ rw at last

  pub IsRun-after : IsRun (ring_after b v) (run_after r b.capacity v)
  IsRun-after =
      record {
        fits = omega (arith, size);
        within = rw size (count_most (same_verdict v r.value));
        equal = equal_after (same_verdict v r.value) (λ h. same_verdict-equal v r.value h);
      }

  -- the ring is full of the value
  module _ (same : same_verdict v r.value ≡ true) (full : r.count ≡ b.capacity) where
    is_value : v ≡ r.value
    is_value = same_verdict-equal v r.value same

    items_still : (ring_after b v).items ≡ b.items
    items_still =
        let long : length (ring_after b v).items ≡ length b.items = omega (arith, size, one_more, h.within, h.fits, full) in
        ext_get_or v (ring_after b v).items b.items long (λ j inside.
        here j ∙ (elim (cases_lt (gone + j) (length b.items)) [
          | inl before ↦ older is_value (gone + j) (omega (arith, h.fits, full)) before
          | inr beyond ↦ let at : gone + j ≡ length b.items = omega (arith, inside, size, one_more) in rw at last
        ])
        ∙ sym (rw (← is_value) at (h.equal j (omega (arith, h.fits, full)) (omega (arith, inside, long)))))

    pub ring_still : ring_after b v ≡ b
    ring_still = ap (λ (l : List Verdict). buffer l b.capacity) items_still

    pub run_still : run_after r b.capacity v ≡ r
    run_still =
        let count : min (r.count + 1) b.capacity ≡ r.count = omega (arith, full) in
        rw same (ap₂ (λ (w : Verdict) (n : ℕ). let q : Run = record { value = w; count = n } in q) is_value count)

-- after a value at a row at which there may be none yet
pub IsRun-from : (test : Bool) (b : Buffer Verdict) (r : Run) (v : Verdict) → IsRun b r
    → IsRun (if test then b else ring_after b v) (if test then r else run_after r b.capacity v)
IsRun-from true b r v h = h
IsRun-from false b r v h = IsRun-after b r v h

-- What is full of a value is left as it is by the same value again.
pub full_stays : (d : Delayed) (from i : ℕ) (v : Verdict) → IsRun d.ring d.run → IsFullAs d v → nat_lt i from ≡ false → d ≡ delayed_from d from v i
full_stays d from i v run full late =
    rw late (ap₂ (λ (x : Buffer Verdict) (y : Run). let e : Delayed = record { ring = x; run = y } in e)
    (sym (ring_still d.ring d.run v run full.1 full.0)) (sym (run_still d.ring d.run v run full.1 full.0)))

pub IsRun-none : (cells : ℕ) (r : Run) → r.count ≡ 0 → IsRun (buffer [] cells) r
IsRun-none cells r none = record { fits = omega arith; within = omega (arith, none); equal = λ j from inside. absurd (omega arith) }

-- Two delays that are full of the same value are equal.
module _ (b c : Buffer Verdict) (r q : Run) (h : IsRun b r) (k : IsRun c q) (room : b.capacity ≡ c.capacity) (full : r.count ≡ b.capacity) (filled : q.count ≡ c.capacity)
    (same : same_verdict r.value q.value ≡ true) where
  value : r.value ≡ q.value
  value = same_verdict-equal r.value q.value same

  items : b.items ≡ c.items
  items =
      let long : length b.items ≡ length c.items = omega (arith, h.fits, h.within, k.fits, k.within, room, full, filled) in
      ext_get_or r.value b.items c.items long (λ j inside.
      h.equal j (omega (arith, h.fits, h.within, full)) inside ∙ sym (rw (← value) at (k.equal j (omega (arith, k.fits, k.within, filled)) (omega (arith, long, inside)))))

  pub equal_delays : (let d : Delayed = record { ring = b; run = r } in d) ≡ record { ring = c; run = q }
  equal_delays =
      let count : r.count ≡ q.count = full ∙ (room ∙ sym filled) in
      let rings : b ≡ c = ap₂ buffer items room in
      let runs : r ≡ q = ap₂ (λ (w : Verdict) (n : ℕ). let s : Run = record { value = w; count = n } in s) value count in
      ap₂ (λ (x : Buffer Verdict) (y : Run). let d : Delayed = record { ring = x; run = y } in d) rings runs
