-- Blocks of plans that fail, and the walk over them.
use Rattle.std.proofs.Common.{◌≡◌, ℕ, suc, ◌+◌, ◌*◌, ◌^◌, ◌<◌, ◌≤◌, List, ◌++◌, sym, subst, inl, inr, arith}
use Rattle.std.proofs.lemmas.Bool.{cases_lt}
use Rattle.std.proofs.Math.Nat.{pow-suc, mul-le-mul_left, one-le-pow}
use Rattle.lattice.specs.Grids.{choices_of}
use Rattle.lattice.specs.PlanNumbers.{number_of, plan_of}
use Rattle.lattice.proofs.Digits.{below_plan_of, inverse, length-plan_of}
use Rattle.plan_situations.specs.FailingPlans.{Fails, FailsBy}
use Rattle.planner.specs.Inner.Walk.{AllFailFrom, IsFirst}
use Rattle.plan_situations.specs.LeastPlans.{AllFail, AllFailBelow, IsLeastPlan}
use Rattle.plan_situations.specs.Prefixes.{PrefixFails, reached}
use Rattle.plan_situations.specs.declared.situation.Situation.{Situation}
use Rattle.plan_situations.proofs.Blocks.{plan_in_block, prefix_lasts, same_front}

-- the block of a prefix is made of the blocks of the prefixes that have one more leg
block_start : (c n k left : ℕ) → n * c ^ suc left ≤ (n * c + k) * c ^ left
block_start c n k left = rw pow-suc (omega arith)

block_end : (c n left : ℕ) → (n * c + c) * c ^ left ≡ (n + 1) * c ^ suc left
block_end c n left = rw pow-suc (omega arith)

block_room : (c n k left : ℕ) → k < c → (n * c + k + 1) * c ^ left ≤ (n + 1) * c ^ suc left
block_room c n k left h =
    let few : n * c + k + 1 ≤ n * c + c = omega arith in
    rw (← block_end c n left) (omega (arith, mul-le-mul_left (c ^ left) few))

pub none_before : (c n left len : ℕ) → len ≡ left + 1 → (n * c + 0) * c ^ left ≤ n * c ^ len
none_before c n left len long = let e : len ≡ suc left = omega arith in rw (e, pow-suc) (omega arith)

pub next_room : (c n k left len longer m : ℕ) → len ≡ left + 1 → k < c → longer ≡ n * c + k → (n + 1) * c ^ len ≤ m → (longer + 1) * c ^ left ≤ m
next_room c n k left len longer m long lt is h =
    let e : len ≡ suc left = omega arith in
    let all = rw e at h in
    rw is (omega (arith, block_room c n k left lt))

prefix_small : (c n left m : ℕ) → 0 < c → (n + 1) * c ^ suc left ≤ m → (n + 1) * c ≤ m
prefix_small c n left m p h = let h' = rw pow-suc at h in omega (arith, mul-le-mul_left ((n + 1) * c) (one-le-pow left c p))

pub prefix_room : (c n k left len m : ℕ) → len ≡ left + 1 → k < c → (n + 1) * c ^ len ≤ m → (n + 1) * c ≤ m
prefix_room c n k left len m long lt h =
    let e : len ≡ suc left = omega arith in
    prefix_small c n left m (omega arith) (rw e at h)

module _ (s : Situation) (some : 1 ≤ s.lattice.legs) where
  pub none_fail : (a b : ℕ) → b ≤ a → AllFailFrom s a b
  none_fail a b h = record { each = λ m low high. absurd (omega arith) }

  pub more_fail : (a b d : ℕ) → AllFailFrom s a b → AllFailFrom s b d → AllFailFrom s a d
  more_fail a b d g h = record { each = λ m low high. elim (cases_lt m b) [ inl lt ↦ g.each m low lt | inr ge ↦ h.each m ge high ] }

  -- if a prefix has failed, its whole block has
  pub block_fails : (k left n : ℕ) → 0 < choices_of s.lattice → left + k ≡ s.lattice.legs
      → PrefixFails s (plan_of (choices_of s.lattice) k n) → AllFailFrom s (n * choices_of s.lattice ^ left) ((n + 1) * choices_of s.lattice ^ left)
  block_fails k left n p e fails = record { each = each }
    where
      b : ℕ
      b = choices_of s.lattice

      each : (m : ℕ) → n * choices_of s.lattice ^ left ≤ m → m < (n + 1) * choices_of s.lattice ^ left → Fails s (plan_of (choices_of s.lattice) s.lattice.legs m)
      each m low high =
          let found = plan_in_block (choices_of s.lattice) k left n m p (record { from = low; to = high }) in
          let same : plan_of (choices_of s.lattice) s.lattice.legs m ≡ plan_of (choices_of s.lattice) k n ++ found.0 = rw e at found.1 in
          let long = length-plan_of (choices_of s.lattice) k n in
          let by : FailsBy s (reached s k) (plan_of (choices_of s.lattice) k n) = subst (λ (i : ℕ). FailsBy s (reached s i) (plan_of (choices_of s.lattice) k n)) long fails in
          subst (Fails s) (sym same)
          (prefix_lasts s (plan_of (choices_of s.lattice) k n) (plan_of (choices_of s.lattice) k n ++ found.0) k some
          (λ i lt. same_front (plan_of (choices_of s.lattice) k n) found.0 i (omega arith)) by)

  -- the loop over the choices of one more leg: all before `k` fail, and the prefix with the choice `k` has the number `longer`
  module _ (n k left len longer : ℕ) (long : len ≡ left + 1) (is : longer ≡ n * choices_of s.lattice + k)
      (so_far : AllFailFrom s (n * choices_of s.lattice ^ len) ((n * choices_of s.lattice + k) * choices_of s.lattice ^ left)) where
    pub found : (m : ℕ) → k < choices_of s.lattice → IsFirst s (longer * choices_of s.lattice ^ left) ((longer + 1) * choices_of s.lattice ^ left) m
        → IsFirst s (n * choices_of s.lattice ^ len) ((n + 1) * choices_of s.lattice ^ len) m
    found m lt h =
        let e : len ≡ suc left = omega arith in
        let first = rw is at h in
        let low = first.not_before in
        let high = first.before in
        let start = block_start (choices_of s.lattice) n k left in
        let room = block_room (choices_of s.lattice) n k left lt in
        record {
          not_before = rw e (omega arith);
          before = rw e (omega arith);
          passes = first.passes;
          lesser = more_fail (n * choices_of s.lattice ^ len) ((n * choices_of s.lattice + k) * choices_of s.lattice ^ left) m so_far first.lesser;
        }

    pub not_found : AllFailFrom s (longer * choices_of s.lattice ^ left) ((longer + 1) * choices_of s.lattice ^ left)
        → AllFailFrom s (n * choices_of s.lattice ^ len) ((n * choices_of s.lattice + (k + 1)) * choices_of s.lattice ^ left)
    not_found h =
        let e : n * choices_of s.lattice + k + 1 ≡ n * choices_of s.lattice + (k + 1) = omega arith in
        let next = rw (is, e) at h in
        more_fail (n * choices_of s.lattice ^ len) ((n * choices_of s.lattice + k) * choices_of s.lattice ^ left) _ so_far next

  pub all_tried : (n left len : ℕ) → len ≡ left + 1 → AllFailFrom s (n * choices_of s.lattice ^ len) ((n * choices_of s.lattice + choices_of s.lattice) * choices_of s.lattice ^ left)
      → AllFailFrom s (n * choices_of s.lattice ^ len) ((n + 1) * choices_of s.lattice ^ len)
  all_tried n left len long h =
      let e : suc left ≡ len = omega arith in
      let end = block_end (choices_of s.lattice) n left in
      rw (end, e) at h

  pub whole_fails : AllFailFrom s (0 * choices_of s.lattice ^ s.lattice.legs) ((0 + 1) * choices_of s.lattice ^ s.lattice.legs) → AllFail s
  whole_fails h = λ m high. h.each m (omega arith) (omega arith)

  pub first_is_least : (m : ℕ) (plan : List ℕ) → 0 < choices_of s.lattice → plan ≡ plan_of (choices_of s.lattice) s.lattice.legs m
      → IsFirst s (0 * choices_of s.lattice ^ s.lattice.legs) ((0 + 1) * choices_of s.lattice ^ s.lattice.legs) m → IsLeastPlan s plan
  first_is_least m plan p is h =
      let high = h.before in
      let number : number_of (choices_of s.lattice) plan ≡ m = rw is ((inverse (choices_of s.lattice) s.lattice.legs p).number m (omega arith)) in
      let fail : AllFailBelow s m = λ k lt. h.lesser.each k (omega arith) lt in
      record {
        whole = rw is (record { count = length-plan_of (choices_of s.lattice) s.lattice.legs m; below = below_plan_of (choices_of s.lattice) s.lattice.legs m p });
        passes = rw is h.passes;
        least = rw number fail;
      }
