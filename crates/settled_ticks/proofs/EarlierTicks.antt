-- The clock only grows, and an earlier tick has the lesser time.
use Rattle.std.proofs.Common.{◌≡◌, ℕ, ◌+◌, ◌*◌, ◌<◌, ◌≤◌, ◌⊎◌, inl, inr, max, Bool, List, [], ◌∷◌, ◌++◌, Option, Some, None, unwrap_or, ap, sym, subst, ◌∙◌, arith, mul-le-mul}
use Rattle.std.specs.Prelude.{IsSomeAnd}
use Rattle.std.specs.List.{filter}
use Rattle.std.proofs.lemmas.List.Elements.{filter-append, filter_map-append}
use Rattle.log_lines.specs.LineTimes.{clock_of, greatest, is_in_window, stamp_of, stamps_of}
use Rattle.scenario_values.specs.declared.values.Scenario.{Scenario}
use Rattle.scenario_values.specs.declared.values.Window.{Window}
use Rattle.scenario_values.specs.Ticks.{time_of_tick}
use Rattle.settled_ticks.specs.Settled.{IsSettled}

-- ---- the clock

lt_or_le : (m n : ℕ) → (m < n) ⊎ (n ≤ m)
lt_or_le m n = grind arith

one_more : (bound x : ℕ) (old new : Option ℕ) → (IsSomeAnd old (λ n. bound < n) → IsSomeAnd new (λ n. bound < n)) → bound < max x (unwrap_or old x)
    → bound < max x (unwrap_or new x)
one_more bound x None None f h = h
one_more bound x None (Some d) f h = omega arith
one_more bound x (Some m) None f h = elim (lt_or_le bound m) [ inl lt ↦ absurd (f lt) | inr le ↦ omega arith ]
one_more bound x (Some m) (Some d) f h = elim (lt_or_le bound m) [ inl lt ↦ (let g : bound < d = f lt in omega arith) | inr le ↦ omega arith ]

-- The greatest of a longer list is no less.
greatest_over : (bound : ℕ) (xs ys : List ℕ) → IsSomeAnd (greatest xs) (λ n. bound < n) → IsSomeAnd (greatest (xs ++ ys)) (λ n. bound < n)
unfolding greatest
greatest_over bound [] ys h = absurd h
greatest_over bound (x ∷ xs) ys h = one_more bound x (greatest xs) (greatest (xs ++ ys)) (greatest_over bound xs ys) h

clock_over : (scenario : Scenario) (lines more : List (List ℕ)) (bound : ℕ) → IsSomeAnd (clock_of scenario lines) (λ clock. bound < clock)
    → IsSomeAnd (clock_of scenario (lines ++ more)) (λ clock. bound < clock)
unfolding clock_of
clock_over scenario lines more bound h =
    let test : ℕ → Bool = is_in_window scenario in
    let split : filter test (stamps_of (lines ++ more)) ≡ filter test (stamps_of lines) ++ filter test (stamps_of more) =
    ap (filter test) (filter_map-append stamp_of lines more) ∙ filter-append test (stamps_of lines) (stamps_of more) in
    subst (λ (stamps : List ℕ). IsSomeAnd (greatest stamps) (λ clock. bound < clock)) (sym split)
    (greatest_over bound (filter test (stamps_of lines)) (filter test (stamps_of more)) h)

-- ---- ticks

pub earlier_tick : (window : Window) (i j : ℕ) → j ≤ i → time_of_tick window j ≤ time_of_tick window i
earlier_tick window i j le = let ticks : j * window.tick ≤ i * window.tick = mul-le-mul le (omega arith) in omega arith

past_lower : (clock : Option ℕ) (bound lower : ℕ) → lower ≤ bound → IsSomeAnd clock (λ n. bound < n) → IsSomeAnd clock (λ n. lower < n)
past_lower None bound lower le h = h
past_lower (Some n) bound lower le h = omega arith

pub settled_ticks_stay : (scenario : Scenario) (lines more : List (List ℕ)) (i : ℕ) → IsSettled scenario lines i → IsSettled scenario (lines ++ more) i
settled_ticks_stay scenario lines more i h = record {
  within = h.within;
  past = clock_over scenario lines more (time_of_tick scenario.window i + scenario.log.gap + scenario.log.slack) h.past;
}

pub settled_ticks_are_first : (scenario : Scenario) (lines : List (List ℕ)) (i j : ℕ) → IsSettled scenario lines i → j ≤ i → IsSettled scenario lines j
settled_ticks_are_first scenario lines i j h le =
    let earlier = earlier_tick scenario.window i j le in
    record {
      within = (let within = h.within in omega arith);
      past = past_lower (clock_of scenario lines) (time_of_tick scenario.window i + scenario.log.gap + scenario.log.slack)
          (time_of_tick scenario.window j + scenario.log.gap + scenario.log.slack) (omega arith) h.past;
    }
