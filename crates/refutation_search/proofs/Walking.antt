-- The walk over the prefixes.
use Rattle.std.proofs.Common.{ℕ, zero, suc, ◌≡◌, ◌∙◌, ◌+◌, ◌*◌, ◌-◌, ◌^◌, ◌≤◌, ◌<◌, ◌⊎◌, inl, inr, List, [], ◌∷◌, ◌++◌, length, length-append, take, refl, arith, ap, sym, subst, add-one}
use Rattle.std.specs.Prelude.{slice_get, All, IsSomeAnd, ◌↔◌}
use Rattle.std.proofs.lemmas.List.{take-append-le, take-take}
use Rattle.std.proofs.lemmas.List.Elements.{All-from_get_or}
use Rattle.std.proofs.Math.Nat.{one-le-pow, pow-suc, mul-le-mul_right}
use Rattle.std.proofs.lemmas.Int.Digits.{number_lt}
use Rattle.std.proofs.Math.Seq.{take-append_seam, take-length}
use Rattle.lattice.specs.Grids.{choices_of, plans_of}
use Rattle.lattice.specs.PlanNumbers.{plan_of, number_of}
use Rattle.lattice.proofs.Digits.{block_within, length-plan_of, number_plan_of, plan_push}
use Rattle.plan_situations.specs.FailingPlans.{FailsBy, Some_}
use Rattle.plan_situations.specs.LeastPlans.{numbered}
use Rattle.plan_situations.specs.Prefixes.{reached, PrefixFails}
use Rattle.plan_situations.specs.Reasons.{HasReason}
use Rattle.plan_situations.specs.declared.situation.Situation.{Situation}
use Rattle.plan_situations.proofs.ForCallers.{first_plan_begins, reached_end}
use Rattle.refutation_search.specs.CanonicalLists.{IsCanonical, IsCanonicalFor, IsFirstGood, SomePlanPasses}
use Rattle.refutations.specs.GoodEntries.{IsGood}
use Rattle.refutation_search.specs.Inner.Walks.{first_extension, IsNext, IsWalkedTo, NoneIsShorter}
use Rattle.refutations.specs.RightLists.{behind, ends_from, first_of, IsEntry, IsRight}
use Rattle.refutations.specs.declared.entry.WhyEntry.{WhyEntry}
use Rattle.refutations.proofs.Blocks.{there}
use Rattle.refutation_search.proofs.FirstEntries.{passes_at}
use Rattle.refutations.proofs.HeldReasons.{good_reason}

-- ---- lists with one more element

get_append : {X : Type 0} (xs : List X) (y : X) (k : ℕ) → k < length xs → slice_get (xs ++ y ∷ []) k ≡ slice_get xs k
get_append [] y k lt = absurd (omega arith)
get_append (x ∷ xs) y zero lt = refl
get_append (x ∷ xs) y (suc k) lt = get_append xs y k (omega arith)

get_last : {X : Type 0} (P : X → Type 0) (xs : List X) (y : X) → P y → IsSomeAnd (slice_get (xs ++ y ∷ []) (length xs)) P
get_last P [] y p = p
get_last P (x ∷ xs) y p = get_last P xs y p

last_or_before : (k n : ℕ) → k < n + 1 → (k < n) ⊎ (n ≡ k)
last_or_before k n lt = grind arith

-- ---- the prefixes of plans, by their numbers

-- the first plan that extends a longer prefix begins as the first that extends the shorter one
pub same_legs : (c legs k n choice : ℕ) → 1 ≤ c → k < legs → choice < c
    → take k (plan_of c legs ((n * c + choice) * c ^ (legs - (k + 1)))) ≡ take k (plan_of c legs (n * c ^ (legs - k)))
same_legs c legs k n choice some lt less =
    let longer = first_plan_begins c legs (legs - (k + 1)) (k + 1) (n * c + choice) some (omega arith) in
    let shorter = first_plan_begins c legs (legs - k) k n some (omega arith) in
    let one_leg : plan_of c (k + 1) (n * c + choice) ≡ plan_of c k n ++ choice ∷ [] = rw (add-one k) (plan_push c k n choice less) in
    let front : take k (plan_of c k n ++ choice ∷ []) ≡ plan_of c k n =
    subst (λ (i : ℕ). take i (plan_of c k n ++ choice ∷ []) ≡ plan_of c k n) (length-plan_of c k n) (take-append_seam (plan_of c k n) (choice ∷ [])) in
    let plan = plan_of c legs ((n * c + choice) * c ^ (legs - (k + 1))) in
    sym (take-take k (k + 1) plan (omega arith)) ∙ (ap (take k) (longer ∙ one_leg) ∙ (front ∙ sym shorter))

-- the block of a prefix is made of those of the prefixes with one more leg

pub blocks_begin : (c n legs k : ℕ) → k < legs → n * c ^ (legs - k) ≡ (n * c + 0) * c ^ (legs - (k + 1))
blocks_begin c n legs k lt = let e : legs - k ≡ suc (legs - (k + 1)) = omega arith in rw (e, pow-suc) (omega arith)

pub blocks_end : (c n legs k : ℕ) → k < legs → (n * c + c) * c ^ (legs - (k + 1)) ≡ (n + 1) * c ^ (legs - k)
blocks_end c n legs k lt = let e : legs - k ≡ suc (legs - (k + 1)) = omega arith in rw (e, pow-suc) (omega arith)

pub longer_below : (c n k choice : ℕ) → choice < c → n < c ^ k → n * c + choice < c ^ (k + 1)
longer_below c n k choice lt small =
    let next : (n + 1) * c ≤ c ^ k * c = mul-le-mul_right c (omega arith) in
    rw (add-one, pow-suc) (omega arith)

-- ---- the list

module _ (s : Situation) where
  ends_append : (from : ℕ) (xs : List WhyEntry) (entry : WhyEntry) → ends_from s from (xs ++ entry ∷ []) ≡ behind s entry
  ends_append from [] entry = refl
  ends_append from (x ∷ xs) entry = ends_append (behind s x) xs entry

  -- one more entry
  pub one_more : (xs new : List WhyEntry) (entry : WhyEntry) (n end : ℕ) → IsWalkedTo s xs n → new ≡ xs ++ entry ∷ [] → IsNext s xs entry → behind s entry ≡ end
      → IsWalkedTo s new end
  one_more xs new entry n end old is next ends = rw is (record {
    each = λ k lt. elim (last_or_before k (length xs) (omega (arith, length-append xs (entry ∷ [])))) [
      | inl less ↦ (let front : take k (xs ++ entry ∷ []) ≡ take k xs = take-append-le k xs (entry ∷ []) (omega arith) in
          rw (front, get_append xs entry k less) (old.each k less))
      | inr same ↦ subst (λ (i : ℕ). IsSomeAnd (slice_get (xs ++ entry ∷ []) i) (IsNext s (take i (xs ++ entry ∷ [])))) same
          (get_last (IsNext s (take (length xs) (xs ++ entry ∷ []))) xs entry
          (let front : take (length xs) (xs ++ entry ∷ []) ≡ xs = take-append_seam xs (entry ∷ []) in rw front next))
    ];
    ends = ends_append 0 xs entry ∙ ends;
  })

  -- ---- the entry of a prefix

  module _ (some : 1 ≤ choices_of s.lattice) (k n : ℕ) (le : k ≤ s.lattice.legs) (small : n < choices_of s.lattice ^ k) (xs : List WhyEntry)
      (old : IsWalkedTo s xs (first_extension s k n)) (entry : WhyEntry) (is : entry.prefix ≡ take k (numbered s (first_extension s k n))) where
    prefix_is : entry.prefix ≡ plan_of (choices_of s.lattice) k n
    prefix_is = is ∙ first_plan_begins (choices_of s.lattice) s.lattice.legs (s.lattice.legs - k) k n some (omega arith)

    lasts : length entry.prefix ≡ k
    lasts = ap length prefix_is ∙ length-plan_of (choices_of s.lattice) k n

    number : number_of (choices_of s.lattice) entry.prefix ≡ n
    number = ap (number_of (choices_of s.lattice)) prefix_is ∙ number_plan_of (choices_of s.lattice) k n some small

    pub ends_behind : behind s entry ≡ first_extension s k (n + 1)
    ends_behind = let e = lasts in let f = number in rw (e, f) refl

    pub next_entry : IsEntry s entry → IsFirstGood s entry → NoneIsShorter s k (numbered s (first_extension s k n)) → IsNext s xs entry
    next_entry is_entry first above =
        let e = lasts in
        let f = number in
        record {
          is = is_entry;
          canonical = subst (λ (m : ℕ). IsCanonicalFor s (numbered s m) entry) (sym old.ends) (record {
            prefix = is ∙ ap (λ (i : ℕ). take i (numbered s (first_extension s k n))) (sym e);
            shortest = λ other one less same. above.none other one (omega arith) same;
            first = first;
          });
          begins = (let g : first_of s entry ≡ first_extension s k n = rw (e, f) refl in g ∙ sym old.ends);
        }

  -- ---- one leg more

  module _ (reasons : (plan : List ℕ) (last : ℕ) → FailsBy s last plan ↔ Some_ (HasReason s plan last) s.targets) where
    pub not_good : (prefix : List ℕ) (entry : WhyEntry) → entry.prefix ≡ prefix → (¬ PrefixFails s prefix) → ¬ IsGood s entry
    not_good prefix entry is passes good =
        passes (subst (PrefixFails s) is ((reasons entry.prefix (reached s (length entry.prefix))).1 (good_reason s entry good)))

    pub none_longer : 1 ≤ choices_of s.lattice → (k n choice : ℕ) → k < s.lattice.legs → choice < choices_of s.lattice
        → NoneIsShorter s k (numbered s (first_extension s k n))
        → (1 ≤ k → ¬ PrefixFails s (take k (numbered s (first_extension s k n))))
        → NoneIsShorter s (k + 1) (numbered s (first_extension s (k + 1) (n * choices_of s.lattice + choice)))
    none_longer some k n choice lt less above passes = record {
      none = λ entry one shorter same.
          let plan = numbered s (first_extension s k n) in
          let next = numbered s (first_extension s (k + 1) (n * choices_of s.lattice + choice)) in
          let front : take k next ≡ take k plan = same_legs (choices_of s.lattice) s.lattice.legs k n choice some lt less in
          let i = length entry.prefix in
          let within : i ≤ k = omega arith in
          let begins : entry.prefix ≡ take i plan = same ∙ (sym (take-take i k next within) ∙ (ap (take i) front ∙ take-take i k plan within)) in
          elim (last_or_before i k shorter) [
            | inl before ↦ above.none entry one before begins
            | inr last ↦ not_good (take k plan) entry (begins ∙ ap (λ (j : ℕ). take j plan) (sym last)) (passes (omega arith))
          ];
    }

  -- ---- the first plan that extends a prefix of this many legs, if plans with these legs do not fail by its horizon

  pub begins_so : 1 ≤ choices_of s.lattice → (k n : ℕ) → k ≤ s.lattice.legs → take k (numbered s (first_extension s k n)) ≡ plan_of (choices_of s.lattice) k n
  begins_so some k n le = first_plan_begins (choices_of s.lattice) s.lattice.legs (s.lattice.legs - k) k n some (omega arith)

  pub passes_longer : 1 ≤ choices_of s.lattice → 1 ≤ s.lattice.legs → (k n : ℕ) → k ≤ s.lattice.legs → (¬ FailsBy s (reached s k) (numbered s (first_extension s k n)))
      → ¬ PrefixFails s (take k (numbered s (first_extension s k n)))
  passes_longer some leg k n le passes =
      let plan = numbered s (first_extension s k n) in
      let long = length-plan_of (choices_of s.lattice) s.lattice.legs (first_extension s k n) in
      passes_at s leg plan (take k plan) k (reached s k) refl (omega arith) refl passes

  -- one more entry, that of a prefix of this many legs
  pub listed_next : 1 ≤ choices_of s.lattice → (k n : ℕ) → k ≤ s.lattice.legs → n < choices_of s.lattice ^ k → (xs new : List WhyEntry) (entry : WhyEntry)
      → IsWalkedTo s xs (first_extension s k n) → new ≡ xs ++ entry ∷ [] → entry.prefix ≡ take k (numbered s (first_extension s k n)) → IsEntry s entry → IsFirstGood s entry
      → NoneIsShorter s k (numbered s (first_extension s k n)) → IsWalkedTo s new (first_extension s k (n + 1))
  listed_next some k n le small xs new entry so_far is prefix is_entry first above =
      one_more xs new entry (first_extension s k n) (first_extension s k (n + 1)) so_far is
      (next_entry some k n le small xs so_far entry prefix is_entry first above) (ends_behind some k n le small xs so_far entry prefix)

  -- ---- a whole plan that does not fail

  pub whole_passes : (n : ℕ) → n < plans_of s.lattice → (¬ PrefixFails s (take s.lattice.legs (numbered s n))) → SomePlanPasses s
  whole_passes n known passes =
      let long = length-plan_of (choices_of s.lattice) s.lattice.legs n in
      let whole : take s.lattice.legs (numbered s n) ≡ numbered s n =
      subst (λ (i : ℕ). take i (numbered s n) ≡ numbered s n) long (take-length (numbered s n)) in
      let end = reached_end s (length (numbered s n)) (omega arith) in
      record {
        number = n;
        known = known;
        passes = λ fails. passes (subst (PrefixFails s) (sym whole) (subst (λ (last : ℕ). FailsBy s last (numbered s n)) (sym end) fails));
      }

  -- ---- what a list that was walked to the end is

  next_weaker : (P : WhyEntry → Type 0) (before : List WhyEntry) (xs : List WhyEntry) (k : ℕ) → ((entry : WhyEntry) → IsNext s before entry → P entry)
      → IsSomeAnd (slice_get xs k) (IsNext s before) → IsSomeAnd (slice_get xs k) P
  next_weaker P before [] k f h = h
  next_weaker P before (x ∷ xs) zero f h = f x h
  next_weaker P before (x ∷ xs) (suc k) f h = next_weaker P before xs k f h

  pub walked_right : (xs : List WhyEntry) → IsWalkedTo s xs (plans_of s.lattice) → IsRight s xs
  walked_right xs h = record {
    each = λ k lt. next_weaker (λ entry. IsGood s entry × (first_of s entry ≡ ends_from s 0 (take k xs))) (take k xs) xs k
        (λ entry next. (next.canonical.first.good, next.begins)) (h.each k lt);
    whole = h.ends;
  }

  pub walked_entries : (xs : List WhyEntry) (end : ℕ) → IsWalkedTo s xs end → All (IsEntry s) xs
  walked_entries [] end h = λ k d lt. absurd (omega arith)
  walked_entries (x ∷ xs) end h = All-from_get_or (IsEntry s) (x ∷ xs) x (λ k lt. ((there (IsNext s (take k (x ∷ xs))) (x ∷ xs) k (h.each k lt)).1 x).is)

  first_known : 1 ≤ choices_of s.lattice → (entry : WhyEntry) → IsEntry s entry → first_of s entry < plans_of s.lattice
  first_known some entry is =
      let c = choices_of s.lattice in
      let k = length entry.prefix in
      let left = one-le-pow (s.lattice.legs - k) c (omega arith) in
      let within = block_within c k s.lattice.legs (number_of c entry.prefix) is.few (number_lt c entry.prefix is.below) in
      omega (arith, within, left)

  uncovered_by : 1 ≤ choices_of s.lattice → (before xs : List WhyEntry) (k : ℕ) → IsSomeAnd (slice_get xs k) (IsNext s before) → ends_from s 0 before < plans_of s.lattice
  uncovered_by some before [] k h = absurd h
  uncovered_by some before (x ∷ xs) zero h = let first = first_known some x h.is in subst (λ (n : ℕ). n < plans_of s.lattice) h.begins first
  uncovered_by some before (x ∷ xs) (suc k) h = uncovered_by some before xs k h

  pub walked_canonical : 1 ≤ choices_of s.lattice → (xs : List WhyEntry) → IsWalkedTo s xs (plans_of s.lattice) → IsCanonical s xs
  walked_canonical some xs h = record {
    uncovered = λ k lt. uncovered_by some (take k xs) xs k (h.each k lt);
    each = λ k lt. next_weaker (λ entry. IsEntry s entry × IsCanonicalFor s (numbered s (ends_from s 0 (take k xs))) entry) (take k xs) xs k
        (λ entry next. (next.is, next.canonical)) (h.each k lt);
    whole = h.ends;
  }
