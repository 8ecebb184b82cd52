-- Blocks of a window ahead give what an operator U reaches in it.
use Rattle.std.proofs.Common.{◌≡◌, ℕ, zero, suc, ◌+◌, ◌-◌, ◌<◌, ◌≤◌, refl, ap, ap₂, sym, ◌∙◌, arith, Bool, true, false, inl, inr, ◌⊎◌, List, [], ◌∷◌, ◌++◌, length, drop, length-append, append_assoc}
use Rattle.std.specs.Prelude.{◌==◌, ◌&&◌}
use Rattle.std.proofs.lemmas.List.{append-nil}
use Rattle.std.proofs.lemmas.Bool.{cases_lt}
use Rattle.std.proofs.lemmas.Bool.Decides.{nat_tests}
use Rattle.circular_buffer.specs.Buffer.{buffer, keep_last}
use Rattle.mtl_formulas.specs.declared.verdict.Verdict.{Verdict}
use Rattle.mtl_formulas.specs.declared.verdict.Verdict.TheVariants.{No, Open, Yes}
use Rattle.mtl_formulas.specs.VerdictOrder.{least, greatest}
use Rattle.mtl_formulas.proofs.Verdicts.{greatest_assoc, greatest_no, least_assoc, least_yes}
use Rattle.mtl_monitor.specs.declared.lookahead.Stretch.{Stretch}
use Rattle.mtl_monitor.specs.declared.lookahead.Lookahead.{Lookahead}
use Rattle.mtl_monitor.specs.Inner.Lookahead.{nowhere, single, joined, first_of, with_all_after, lookahead_with, lookahead_after, lookahead_value, reached_over, stretch_over, singles, to_the_last, Reads, untouched}

pub least-greatest : (u v w : Verdict) → greatest (least u v) (least u w) ≡ least u (greatest v w)
least-greatest No v w = refl
least-greatest Yes v w = refl
least-greatest Open No w = refl
least-greatest Open Open No = refl
least-greatest Open Open Open = refl
least-greatest Open Open Yes = refl
least-greatest Open Yes No = refl
least-greatest Open Yes Open = refl
least-greatest Open Yes Yes = refl

least_no : (v : Verdict) → least v No ≡ No
least_no No = refl
least_no Open = refl
least_no Yes = refl

pub joined_assoc : (x y z : Stretch) → joined (joined x y) z ≡ joined x (joined y z)
joined_assoc x y z = ap₂ (λ (h r : Verdict). let s : Stretch = record { held = h; reached = r } in s) (least_assoc x.held y.held z.held) both
  where
    both : greatest (greatest x.reached (least x.held y.reached)) (least (least x.held y.held) z.reached)
        ≡ greatest x.reached (least x.held (greatest y.reached (least y.held z.reached)))
    both =
        greatest_assoc x.reached (least x.held y.reached) (least (least x.held y.held) z.reached)
        ∙ ap (greatest x.reached)
        (ap (greatest (least x.held y.reached)) (least_assoc x.held y.held z.reached)
        ∙ least-greatest x.held y.reached (least y.held z.reached))

module _ (a b : ℕ → Verdict) where
  -- two stretches, one after the other
  pub stretch_over-plus : (start m n : ℕ) → joined (stretch_over a b start m) (stretch_over a b (start + m) n) ≡ stretch_over a b start (m + n)
  stretch_over-plus start zero n =
      let here : start + zero ≡ start = omega arith in
      let count : zero + n ≡ n = omega arith in
      rw (here, count)
  stretch_over-plus start (suc m) n =
      let here : start + suc m ≡ (start + 1) + m = omega arith in
      let count : suc m + n ≡ suc (m + n) = omega arith in
      rw (here, count)
      (joined_assoc (single (a start) (b start)) (stretch_over a b (start + 1) m) (stretch_over a b ((start + 1) + m) n)
      ∙ ap (joined (single (a start) (b start))) (stretch_over-plus (start + 1) m n))

  one_more : (start m : ℕ) → joined (stretch_over a b start m) (single (a (start + m)) (b (start + m))) ≡ stretch_over a b start (suc m)
  one_more start m =
      let count : m + 1 ≡ suc m = omega arith in
      let alone : stretch_over a b (start + m) 1 ≡ single (a (start + m)) (b (start + m)) =
      ap₂ (λ (h r : Verdict). let s : Stretch = record { held = h; reached = r } in s) (least_yes (a (start + m)))
      (ap (greatest (b (start + m))) (least_no (a (start + m))) ∙ greatest_no (b (start + m))) in
      ap (joined (stretch_over a b start m)) (sym alone) ∙ (stretch_over-plus start m 1 ∙ ap (stretch_over a b start) count)

  singles-push : (start m : ℕ) → singles a b start m ++ single (a (start + m)) (b (start + m)) ∷ [] ≡ singles a b start (suc m)
  singles-push start zero = let here : start + zero ≡ start = omega arith in rw here
  singles-push start (suc m) =
      let here : start + suc m ≡ (start + 1) + m = omega arith in
      rw here (ap (λ l. single (a start) (b start) ∷ l) (singles-push (start + 1) m))

  length-singles : (start m : ℕ) → length (singles a b start m) ≡ m
  length-singles start zero = refl
  length-singles start (suc m) = ap suc (length-singles (start + 1) m)

  length-to_the_last : (start m : ℕ) → length (to_the_last a b start m) ≡ m
  length-to_the_last start zero = refl
  length-to_the_last start (suc m) = ap suc (length-to_the_last (start + 1) m)

  first-to_the_last : (start m : ℕ) → first_of (to_the_last a b start m) ≡ stretch_over a b start m
  first-to_the_last start zero = refl
  first-to_the_last start (suc m) = refl

  -- a block that is summed up
  summed : (start m : ℕ) → with_all_after (singles a b start m) ≡ to_the_last a b start m
  summed start zero = refl
  summed start (suc m) =
      rw (summed (start + 1) m, first-to_the_last (start + 1) m)

  pub Reads-none : (w : ℕ) → 0 < w → Reads a b (untouched w) w 0
  Reads-none w some =
      record {
        block = 0;
        count = 0;
        older = [];
        so_far = omega arith;
        inside = some;
        room = refl;
        items = refl;
        size = refl;
        run = refl;
        before = inl (refl, refl);
      }

kept_all : (n : ℕ) (xs : List Stretch) → length xs ≤ n → keep_last n xs ≡ xs
kept_all n xs h = let none : length xs - n ≡ 0 = omega arith in ap (λ k. drop k xs) none

kept_but_one : (n : ℕ) (x : Stretch) (xs : List Stretch) → length xs ≡ n → keep_last n (x ∷ xs) ≡ xs
kept_but_one n x xs h = let one : suc (length xs) - n ≡ suc 0 = omega arith in ap (λ k. drop k (x ∷ xs)) one

equal : (m n : ℕ) → m ≡ n → (m == n) ≡ true
equal m n h = grind (arith, nat_tests)

unequal : (m n : ℕ) → (m ≡ n → ⊥) → (m == n) ≡ false
unequal m n h = grind (arith, nat_tests)

and_false : (p : Bool) → (p && false) ≡ false
and_false true = refl
and_false false = refl

-- a block that is full is summed up, and one that is not is left
full_block : (w : ℕ) (items : List Stretch) (older : ℕ) (run : Stretch) → older ≡ 0 → length items ≡ w
    → lookahead_with w items older run ≡ record { cells = buffer (with_all_after items) w; older = w; run = nowhere }
full_block w items older run none full = rw (equal older 0 none, equal (length items) w full)

part_block : (w : ℕ) (items : List Stretch) (older : ℕ) (run : Stretch) → (older ≡ 0 → length items ≡ w → ⊥)
    → lookahead_with w items older run ≡ record { cells = buffer items w; older = older; run = run }
part_block w items older run h = elim (cases_lt 0 older) [
  | inl some ↦ rw (unequal older 0 (λ none. absurd (omega arith)))
  | inr none ↦
      let is_none : older ≡ 0 = omega arith in
      rw (unequal (length items) w (h is_none), and_false (older == 0))
]

module _ (a b : ℕ → Verdict) where
  -- the block with its next position
  pub record Pushed (w block count : ℕ) (items : List Stretch) (older : ℕ) : Type 0 where
    pub left : List Stretch
    pub items_are : items ≡ left ++ singles a b block (count + 1)
    pub size : length left ≡ older
    pub before : (block ≡ 0) × (older ≡ 0) ⊎ (w ≤ block) × (older ≡ w - (count + 1)) × (left ≡ to_the_last a b ((block - w) + (count + 1)) (w - (count + 1)))

  Reads-pushed : (w block count older : ℕ) (items : List Stretch) (run : Stretch) → count < w → run ≡ stretch_over a b block (count + 1)
      → Pushed w block count items older → Reads a b (lookahead_with w items older run) w ((block + count) + 1)
  Reads-pushed w block count older items run inside run_is p = elim (cases_lt (count + 1) w) [ inl part ↦ goes_on part | inr all ↦ sums_up (omega arith) ]
    where
      long : length items ≡ length p.left + (count + 1)
      long = ap length p.items_are ∙ (length-append p.left (singles a b block (count + 1)) ∙ ap (λ n. length p.left + n) (length-singles a b block (count + 1)))

      goes_on : count + 1 < w → Reads a b (lookahead_with w items older run) w ((block + count) + 1)
      goes_on part =
          rw (part_block w items older run (λ none full. absurd (omega (arith, p.size, long))))
          (record {
            block = block;
            count = count + 1;
            older = p.left;
            so_far = omega arith;
            inside = part;
            room = refl;
            items = p.items_are;
            size = p.size;
            run = run_is;
            before = p.before;
          })

      none_left : count + 1 ≡ w → older ≡ 0
      none_left all = elim p.before [ inl h ↦ h.1 | inr h ↦ omega (arith, h.1) ]

      empty : (xs : List Stretch) → length xs ≡ 0 → xs ≡ []
      empty [] h = refl
      empty (x ∷ xs) h = absurd (omega arith)

      sums_up : count + 1 ≡ w → Reads a b (lookahead_with w items older run) w ((block + count) + 1)
      sums_up all =
          let none : older ≡ 0 = none_left all in
          let left : p.left ≡ [] = empty p.left (omega (arith, p.size)) in
          let block_is : items ≡ singles a b block w = rw (left, all) at p.items_are in
          let whole : with_all_after items ≡ to_the_last a b block w = ap with_all_after block_is ∙ summed a b block w in
          let start : ((block + w) - w) + 0 ≡ block = omega arith in
          let full : w - 0 ≡ w = omega arith in
          rw (full_block w items older run none (omega (arith, p.size, long)), whole)
          (record {
            block = block + w;
            count = 0;
            older = to_the_last a b block w;
            so_far = omega arith;
            inside = omega arith;
            room = refl;
            items = sym (append-nil (to_the_last a b block w));
            size = length-to_the_last a b block w;
            run = refl;
            before = inr (omega arith, omega arith, rw (start, full) refl);
          })

  empty : (xs : List Stretch) → length xs ≡ 0 → xs ≡ []
  empty [] none = refl
  empty (x ∷ xs) none = absurd (omega arith)

  module _ (s : Lookahead) (w n : ℕ) (h : Reads a b s w n) where
    abbrev here : Stretch
    here = single (a (h.block + h.count)) (b (h.block + h.count))

    more : h.count + 1 ≡ suc h.count
    more = omega arith

    run_is : joined s.run here ≡ stretch_over a b h.block (h.count + 1)
    run_is = rw (h.run, more) (one_more a b h.block h.count)

    items_are : (older : List Stretch) → h.older ≡ older → s.cells.items ++ here ∷ [] ≡ older ++ singles a b h.block (h.count + 1)
    items_are older is =
        rw (h.items, is, more)
        (append_assoc older (singles a b h.block h.count) (here ∷ []) ∙ ap (λ l. older ++ l) (singles-push a b h.block h.count))

    pushed : (h.block ≡ 0) × (s.older ≡ 0) ⊎ (w ≤ h.block) × (s.older ≡ w - h.count) × (h.older ≡ to_the_last a b ((h.block - w) + h.count) (w - h.count))
        → Pushed w h.block h.count (keep_last w (s.cells.items ++ here ∷ [])) (s.older - 1)
    pushed (inl first) =
        let none : h.older ≡ [] = empty h.older (omega (arith, h.size, first.1)) in
        let items : s.cells.items ++ here ∷ [] ≡ singles a b h.block (h.count + 1) = items_are [] none in
        let fits : length (s.cells.items ++ here ∷ []) ≤ w = rw (items, length-singles a b h.block (h.count + 1)) (omega (arith, h.inside)) in
        record {
          left = [];
          items_are = kept_all w (s.cells.items ++ here ∷ []) fits ∙ items;
          size = omega (arith, first.1);
          before = inl (first.0, omega (arith, first.1));
        }
    pushed (inr later) =
        let rest : w - h.count ≡ suc (w - (h.count + 1)) = omega (arith, h.inside) in
        let from : (h.block - w) + (h.count + 1) ≡ ((h.block - w) + h.count) + 1 = omega arith in
        let older : h.older ≡ stretch_over a b ((h.block - w) + h.count) (suc (w - (h.count + 1))) ∷ to_the_last a b (((h.block - w) + h.count) + 1) (w - (h.count + 1)) = rw rest at later.2 in
        let left = to_the_last a b (((h.block - w) + h.count) + 1) (w - (h.count + 1)) in
        let items : s.cells.items ++ here ∷ [] ≡ (stretch_over a b ((h.block - w) + h.count) (suc (w - (h.count + 1))) ∷ left) ++ singles a b h.block (h.count + 1) = items_are _ older in
        let size : length left ≡ w - (h.count + 1) = length-to_the_last a b (((h.block - w) + h.count) + 1) (w - (h.count + 1)) in
        let both : length (left ++ singles a b h.block (h.count + 1)) ≡ w =
        length-append left (singles a b h.block (h.count + 1)) ∙ (ap₂ (λ m n. m + n) size (length-singles a b h.block (h.count + 1)) ∙ omega (arith, h.inside)) in
        record {
          left = left;
          items_are = ap (keep_last w) items ∙ kept_but_one w _ (left ++ singles a b h.block (h.count + 1)) both;
          size = size ∙ omega (arith, later.1);
          before = inr (later.0, omega (arith, later.1), rw from refl);
        }

    -- the operands are read at one position more
    pub Reads-after : Reads a b (lookahead_after s (a n) (b n)) w (n + 1)
    Reads-after =
        rw (h.so_far, h.room)
        (Reads-pushed w h.block h.count (s.older - 1) (keep_last w (s.cells.items ++ here ∷ [])) (joined s.run here) h.inside run_is (pushed h.before))

  -- what the whole window gives
  pub Reads-value : (s : Lookahead) (w n : ℕ) → Reads a b s w n → w ≤ n → lookahead_value s ≡ reached_over a b (n - w) w
  Reads-value s w n h full = by_block h.before
    where
      by_block : (h.block ≡ 0) × (s.older ≡ 0) ⊎ (w ≤ h.block) × (s.older ≡ w - h.count) × (h.older ≡ to_the_last a b ((h.block - w) + h.count) (w - h.count))
          → lookahead_value s ≡ reached_over a b (n - w) w
      by_block (inl first) = absurd (omega (arith, h.so_far, h.inside, first.0))
      by_block (inr later) =
          let rest : w - h.count ≡ suc (w - (h.count + 1)) = omega (arith, h.inside) in
          let start : (h.block - w) + h.count ≡ n - w = omega (arith, h.so_far, later.0) in
          let at : h.block ≡ (n - w) + (w - h.count) = omega (arith, h.so_far, later.0, h.inside) in
          let all : (w - h.count) + h.count ≡ w = omega (arith, h.inside) in
          let older : h.older ≡ to_the_last a b (n - w) (suc (w - (h.count + 1))) = rw (start, rest) at later.2 in
          let first : first_of s.cells.items ≡ stretch_over a b (n - w) (w - h.count) = rw (h.items, older, rest) refl in
          let run : s.run ≡ stretch_over a b ((n - w) + (w - h.count)) h.count = rw (← at) h.run in
          ap (λ (x : Stretch). x.reached) (ap₂ joined first run ∙ (stretch_over-plus a b (n - w) (w - h.count) h.count ∙ ap (stretch_over a b (n - w)) all))
