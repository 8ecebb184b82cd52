-- What a further tick leaves as it was, and what it adds to a trace.
use Rattle.std.proofs.Common.{◌≡◌, ℕ, ℤ, zero, suc, ◌+◌, ◌-◌, ◌*◌, ◌<◌, ◌≤◌, ◌⊎◌, inl, inr, ◌-ℤ◌, ◌*ℤ◌, ◌+ℤ◌, List, [], ◌∷◌, ◌++◌, length, length-append, get_or-append-add, refl, sym, ap, ap₂, subst, ◌∙◌, arith}
use Rattle.std.specs.Prelude.{Option, Some, None, pos, ◌≤ℤ◌}
use Rattle.std.proofs.lemmas.List.{get_or_append_left, get_or_past}
use Rattle.fixed_geometry.proofs.ForCallers.{polynomials, diff_of, diff_same}
use Rattle.motion.specs.declared.leg.TickState.{TickState}
use Rattle.encounters.specs.declared.pair_step.PairStep.{PairStep}
use Rattle.meetings.specs.Traces.{AreInContact, IsContactAt, step_at, steps_from}
use Rattle.meetings.specs.declared.pair.Pair.{Pair}
use Rattle.meetings.proofs.ForCallers.{steps_from-last}
use Rattle.traces.specs.Audited.{Begins, IsAudited, AuditNumbers, Sighting, by_rank_in, nothing_seen, seen_state_at, sighting_at, state_in, trace_ranks, trace_steps, last_sighting, step_of}
use Rattle.traces.specs.Inner.TracesKept.{swapped}

-- ---- the two orders of a pair

square_back : (a b : ℤ) → (b -ℤ a) *ℤ (b -ℤ a) ≡ (a -ℤ b) *ℤ (a -ℤ b)
square_back a b = rw (← diff_of a, ← diff_of b) (simp polynomials (diff_same _ _ _ _ (omega arith)))

pub contact_back : (watch : ℕ) (a b : Option TickState) → AreInContact watch a b → AreInContact watch b a
contact_back watch None b h = absurd h
contact_back watch (Some a) None h = absurd h
contact_back watch (Some a) (Some b) h =
    let x = square_back a.point.x b.point.x in
    let y = square_back a.point.y b.point.y in
    subst (λ (z : ℤ). z ≤ℤ pos (watch * watch)) (ap₂ (λ (u v : ℤ). u +ℤ v) x y) h

pub audited_back : (subjects : List ℕ) (pair : Pair) → IsAudited subjects pair → IsAudited subjects (swapped pair)
audited_back subjects pair h = record {
  two = λ e. h.two (sym e);
  chosen = elim h.chosen [
    | inl all ↦ inl all
    | inr one ↦ elim one [ inl subject ↦ inr (inr subject) | inr other ↦ inr (inl other) ]
  ];
}

pub begins_back : (numbers : AuditNumbers) (ticks : List Sighting) (pair : Pair) (start : ℕ) → Begins numbers ticks pair start → Begins numbers ticks (swapped pair) start
begins_back numbers ticks pair start h = record {
  audited = audited_back numbers.subjects pair h.audited;
  begins = record {
    before_end = h.begins.before_end;
    contact = contact_back numbers.detect.watch (seen_state_at ticks pair.subject start) (seen_state_at ticks pair.other start) h.begins.contact;
    least = λ i lt near. h.begins.least i lt (contact_back numbers.detect.watch (seen_state_at ticks pair.other i) (seen_state_at ticks pair.subject i) near);
  };
}

-- ---- a pair begins one trace at most

three : (m n : ℕ) → (m < n) ⊎ (m ≡ n) ⊎ (n < m)
three m n = grind arith

pub one_beginning : (numbers : AuditNumbers) (ticks : List Sighting) (pair : Pair) (start other : ℕ) → Begins numbers ticks pair start → Begins numbers ticks pair other → start ≡ other
one_beginning numbers ticks pair start other h k =
    elim (three start other) [
      | inl before ↦ absurd (k.begins.least start before h.begins.contact)
      | inr rest ↦ elim rest [ inl same ↦ same | inr after ↦ absurd (h.begins.least other after k.begins.contact) ]
    ]

-- ---- at a tick that was given the vessels are seen as before

near_or_past : (k n : ℕ) → (k < n) ⊎ (n ≤ k)
near_or_past k n = grind arith

pub contact_within : (watch : ℕ) (ticks : List Sighting) (a b k : ℕ) → AreInContact watch (seen_state_at ticks a k) (seen_state_at ticks b k) → k < length ticks
contact_within watch ticks a b k h =
    elim (near_or_past k (length ticks)) [
      | inl within ↦ within
      | inr past ↦ absurd (subst (λ (s : Sighting). AreInContact watch (state_in a s.vessels) (state_in b s.vessels)) (get_or_past ticks k nothing_seen past) h)
    ]

module _ (ticks : List Sighting) (seen : Sighting) where
  pub given_front : (k : ℕ) → k < length ticks → sighting_at (ticks ++ seen ∷ []) k ≡ sighting_at ticks k
  given_front k lt = get_or_append_left ticks (seen ∷ []) nothing_seen k lt

  pub given_now : sighting_at (ticks ++ seen ∷ []) (length ticks) ≡ seen
  given_now =
      let same : length ticks + 0 ≡ length ticks = omega arith in
      ap (λ (k : ℕ). sighting_at (ticks ++ seen ∷ []) k) (sym same) ∙ get_or-append-add ticks (seen ∷ []) 0 nothing_seen

  pub last_is : last_sighting (ticks ++ seen ∷ []) ≡ seen
  last_is =
      let e = length-append ticks (seen ∷ []) in
      let at : length (ticks ++ seen ∷ []) - 1 ≡ length ticks = omega arith in
      ap (λ (k : ℕ). sighting_at (ticks ++ seen ∷ []) k) at ∙ given_now

  pub contact_still : (watch a b k : ℕ) → k < length ticks → AreInContact watch (seen_state_at ticks a k) (seen_state_at ticks b k)
      → AreInContact watch (seen_state_at (ticks ++ seen ∷ []) a k) (seen_state_at (ticks ++ seen ∷ []) b k)
  contact_still watch a b k lt h = subst (λ (s : Sighting). AreInContact watch (state_in a s.vessels) (state_in b s.vessels)) (sym (given_front k lt)) h

  pub contact_was : (watch a b k : ℕ) → k < length ticks → AreInContact watch (seen_state_at (ticks ++ seen ∷ []) a k) (seen_state_at (ticks ++ seen ∷ []) b k)
      → AreInContact watch (seen_state_at ticks a k) (seen_state_at ticks b k)
  contact_was watch a b k lt h = subst (λ (s : Sighting). AreInContact watch (state_in a s.vessels) (state_in b s.vessels)) (given_front k lt) h

  pub contact_now : (watch a b : ℕ) → AreInContact watch (state_in a seen.vessels) (state_in b seen.vessels)
      → AreInContact watch (seen_state_at (ticks ++ seen ∷ []) a (length ticks)) (seen_state_at (ticks ++ seen ∷ []) b (length ticks))
  contact_now watch a b h = subst (λ (s : Sighting). AreInContact watch (state_in a s.vessels) (state_in b s.vessels)) (sym given_now) h

  pub contact_is_now : (watch a b : ℕ) → AreInContact watch (seen_state_at (ticks ++ seen ∷ []) a (length ticks)) (seen_state_at (ticks ++ seen ∷ []) b (length ticks))
      → AreInContact watch (state_in a seen.vessels) (state_in b seen.vessels)
  contact_is_now watch a b h = subst (λ (s : Sighting). AreInContact watch (state_in a s.vessels) (state_in b s.vessels)) given_now h

  module _ (numbers : AuditNumbers) (pair : Pair) where
    pub begun_within : (start : ℕ) → Begins numbers ticks pair start → start < length ticks
    begun_within start h = contact_within numbers.detect.watch ticks pair.subject pair.other start h.begins.contact

    pub begins_still : (start : ℕ) → Begins numbers ticks pair start → Begins numbers (ticks ++ seen ∷ []) pair start
    begins_still start h =
        let within = begun_within start h in
        record {
          audited = h.audited;
          begins = record {
            before_end = h.begins.before_end;
            contact = contact_still numbers.detect.watch pair.subject pair.other start within h.begins.contact;
            least = λ i lt near. h.begins.least i lt (contact_was numbers.detect.watch pair.subject pair.other i (omega arith) near);
          };
        }

    pub began_before : (start : ℕ) → start < length ticks → Begins numbers (ticks ++ seen ∷ []) pair start → Begins numbers ticks pair start
    began_before start within h = record {
      audited = h.audited;
      begins = record {
        before_end = h.begins.before_end;
        contact = contact_was numbers.detect.watch pair.subject pair.other start within h.begins.contact;
        least = λ i lt near. h.begins.least i lt (contact_still numbers.detect.watch pair.subject pair.other i (omega arith) near);
      };
    }

    pub begins_until : (start : ℕ) → Begins numbers (ticks ++ seen ∷ []) pair start → (start < length ticks) ⊎ (start ≡ length ticks)
    begins_until start h =
        let within : start < length (ticks ++ seen ∷ []) = contact_within numbers.detect.watch (ticks ++ seen ∷ []) pair.subject pair.other start h.begins.contact in
        let count : length (ticks ++ seen ∷ []) ≡ length ticks + 1 = length-append ticks (seen ∷ []) in
        before_or_at start (length ticks) (omega arith)
      where
        before_or_at : (k n : ℕ) → k < n + 1 → (k < n) ⊎ (k ≡ n)
        before_or_at k n lt = grind arith

    -- A pair in contact now that had no trace before begins one now.
    module _ (audited : IsAudited numbers.subjects pair) (more : length ticks < numbers.last_tick) (new : (start : ℕ) → Begins numbers ticks pair start → ⊥) where
      none_before : (m : ℕ) → m ≤ length ticks → (i : ℕ) → i < m → ¬ IsContactAt (seen_state_at ticks pair.subject) (seen_state_at ticks pair.other) numbers.detect.watch i
      none_before zero le i lt near = absurd (omega arith)
      none_before (suc m) le i lt near =
          elim (last_or_before i m lt) [
            | inl before ↦ none_before m (omega arith) i before near
            | inr last ↦ (let here : IsContactAt (seen_state_at ticks pair.subject) (seen_state_at ticks pair.other) numbers.detect.watch m =
                subst (λ (k : ℕ). IsContactAt (seen_state_at ticks pair.subject) (seen_state_at ticks pair.other) numbers.detect.watch k) last near in
                new m (record { audited = audited; begins = record { before_end = omega arith; contact = here; least = none_before m (omega arith) } }))
          ]
        where
          last_or_before : (k n : ℕ) → k < suc n → (k < n) ⊎ (k ≡ n)
          last_or_before k n lt = grind arith

      pub begins_now : AreInContact numbers.detect.watch (state_in pair.subject seen.vessels) (state_in pair.other seen.vessels) → Begins numbers (ticks ++ seen ∷ []) pair (length ticks)
      begins_now near = record {
        audited = audited;
        begins = record {
          before_end = more;
          contact = contact_now numbers.detect.watch pair.subject pair.other near;
          least = λ i lt was. none_before (length ticks) (omega arith) i lt (contact_was numbers.detect.watch pair.subject pair.other i lt was);
        };
      }

-- ---- the steps of a trace

steps_agree : (a b c d : ℕ → Option TickState) (i count : ℕ) → ((k : ℕ) → k ≤ i + count → a k ≡ c k) → ((k : ℕ) → k ≤ i + count → b k ≡ d k)
    → steps_from a b i count ≡ steps_from c d i count
steps_agree a b c d i zero f g = refl
steps_agree a b c d i (suc count) f g =
    let a0 = f i (omega arith) in
    let a1 = f (i + 1) (omega arith) in
    let b0 = g i (omega arith) in
    let b1 = g (i + 1) (omega arith) in
    let here : step_at a b i ≡ step_at c d i = rw (a0, a1, b0, b1) in
    ap₂ (λ (x : Option PairStep) (xs : List (Option PairStep)). x ∷ xs) here (steps_agree a b c d (i + 1) count (λ k le. f k (omega arith)) (λ k le. g k (omega arith)))

module _ (numbers : AuditNumbers) (ticks : List Sighting) (seen : Sighting) (pair : Pair) (start : ℕ) where
  pub steps_then : start < length ticks → trace_steps numbers (ticks ++ seen ∷ []) pair start ≡ trace_steps numbers ticks pair start ++ step_of pair (last_sighting ticks).vessels seen.vessels ∷ []
  steps_then lt =
      let count : length (ticks ++ seen ∷ []) ≡ length ticks + 1 = length-append ticks (seen ∷ []) in
      let more : length (ticks ++ seen ∷ []) - 1 - start ≡ (length ticks - 1 - start) + 1 = omega arith in
      let last : start + (length ticks - 1 - start) ≡ length ticks - 1 = omega arith in
      let now : (length ticks - 1) + 1 ≡ length ticks = omega arith in
      let a : ℕ → Option TickState = seen_state_at (ticks ++ seen ∷ []) pair.subject in
      let b : ℕ → Option TickState = seen_state_at (ticks ++ seen ∷ []) pair.other in
      ap (steps_from a b start) more
      ∙ (steps_from-last a b start (length ticks - 1 - start)
      ∙ ap₂ (λ (xs : List (Option PairStep)) (x : Option PairStep). xs ++ x ∷ [])
      (steps_agree a b (seen_state_at ticks pair.subject) (seen_state_at ticks pair.other) start (length ticks - 1 - start)
      (λ k le. ap (λ (s : Sighting). state_in pair.subject s.vessels) (given_front ticks seen k (omega arith)))
      (λ k le. ap (λ (s : Sighting). state_in pair.other s.vessels) (given_front ticks seen k (omega arith))))
      (ap (λ (k : ℕ). step_at a b k) last
      ∙ ap₂ (λ (s t : Sighting). step_of pair s.vessels t.vessels) (given_front ticks seen (length ticks - 1) (omega arith)) (ap (λ (k : ℕ). sighting_at (ticks ++ seen ∷ []) k) now ∙ given_now ticks seen)))

  -- what the ranks said at a tick stays
  pub ranks_still : (k : ℕ) → start + k < length ticks → trace_ranks (ticks ++ seen ∷ []) pair start k ≡ trace_ranks ticks pair start k
  ranks_still k lt = ap (by_rank_in pair) (given_front ticks seen (start + k) lt)

  -- a trace that begins at the last tick has no steps yet
  pub no_steps : trace_steps numbers (ticks ++ seen ∷ []) pair (length ticks) ≡ []
  no_steps =
      let count : length (ticks ++ seen ∷ []) ≡ length ticks + 1 = length-append ticks (seen ∷ []) in
      let none : length (ticks ++ seen ∷ []) - 1 - length ticks ≡ 0 = omega arith in
      ap (steps_from (seen_state_at (ticks ++ seen ∷ []) pair.subject) (seen_state_at (ticks ++ seen ∷ []) pair.other) (length ticks)) none
