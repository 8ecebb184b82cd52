-- A ring of the last values delays them.
use Rattle.std.proofs.Common.{◌≡◌, ℕ, zero, suc, ◌+◌, ◌-◌, ◌≤◌, refl, ap, arith, false, [], ◌∷◌, ◌++◌, length, drop}
use Rattle.std.specs.Prelude.{nat_lt}
use Rattle.std.proofs.lemmas.Bool.Decides.{nat_tests}
use Rattle.circular_buffer.specs.Buffer.{Buffer, buffer}
use Rattle.mtl_formulas.specs.declared.verdict.Verdict.{Verdict}
use Rattle.mtl_monitor.specs.Inner.Steps.{ring_value, ring_after}
use Rattle.mtl_monitor.specs.Inner.Standing.{run, Holds}

length-run : (f : ℕ → Verdict) (start count : ℕ) → length (run f start count) ≡ count
length-run f start zero = refl
length-run f start (suc count) = ap suc (length-run f (start + 1) count)

run-push : (f : ℕ → Verdict) (start count : ℕ) → run f start count ++ f (start + count) ∷ [] ≡ run f start (suc count)
run-push f start zero = let index : start + zero ≡ start = omega arith in rw index
run-push f start (suc count) =
    let index : start + suc count ≡ (start + 1) + count = omega arith in
    rw index (ap (λ l. f start ∷ l) (run-push f (start + 1) count))

drop-run : (f : ℕ → Verdict) (n start count : ℕ) → drop n (run f start count) ≡ run f (start + n) (count - n)
drop-run f zero start count =
    let index : start + zero ≡ start = omega arith in let all : count - zero ≡ count = omega arith in rw (index, all)
drop-run f (suc n) start zero = let none : zero - suc n ≡ zero = omega arith in rw none
drop-run f (suc n) start (suc count) =
    let index : start + suc n ≡ (start + 1) + n = omega arith in
    let rest : suc count - suc n ≡ count - n = omega arith in
    rw (index, rest) (drop-run f n (start + 1) count)

-- the ring's values with the next
pushed : (f : ℕ → Verdict) (b : Buffer Verdict) (cells n : ℕ) → Holds f b cells n
    → b.items ++ f n ∷ [] ≡ run f (n - cells) (suc (n - (n - cells)))
pushed f b cells n h =
    let index : (n - cells) + (n - (n - cells)) ≡ n = omega arith in
    rw h.last (rw index at (run-push f (n - cells) (n - (n - cells))))

pub Holds-after : (f : ℕ → Verdict) (b : Buffer Verdict) (cells n : ℕ) → Holds f b cells n → Holds f (ring_after b (f n)) cells (n + 1)
Holds-after f b cells n h =
    let count = suc (n - (n - cells)) in
    let start : (n - cells) + (count - cells) ≡ (n + 1) - cells = omega arith in
    let left : count - (count - cells) ≡ (n + 1) - ((n + 1) - cells) = omega arith in
    record {
      room = h.room;
      last = rw (h.room, pushed f b cells n h, length-run f (n - cells) count, drop-run f (count - cells) (n - cells) count, start, left);
    }

pub Holds-value : (f : ℕ → Verdict) (b : Buffer Verdict) (cells n : ℕ) → Holds f b cells n → cells ≤ n → ring_value b (f n) ≡ f (n - cells)
Holds-value f b cells n h full =
    let all : n - (n - cells) ≡ cells = omega arith in
    let len : length b.items ≡ cells = rw (h.last, length-run f (n - cells) (n - (n - cells))) all in
    let is_full : nat_lt (length b.items) b.capacity ≡ false = rw (len, h.room) (grind (arith, nat_tests)) in
    rw (is_full, pushed f b cells n h)

pub Holds-none : (f : ℕ → Verdict) (cells : ℕ) → Holds f (buffer [] cells) cells 0
Holds-none f cells =
    let none : 0 - (0 - cells) ≡ zero = omega arith in record { room = refl; last = rw none }
