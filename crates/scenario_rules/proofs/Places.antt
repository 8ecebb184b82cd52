-- The places of a text's faults lie within it.
use Rattle.std.proofs.Common.{◌≡◌, ℕ, zero, suc, ◌≤◌, ◌<◌, ◌+◌, ◌-◌, ◌==◌, true, false, if◌then◌else◌, inl, inr, List, [], ◌∷◌, ◌++◌, length, All, refl, subst, arith}
use Rattle.std.proofs.lemmas.List.Elements.{All-cons}
use Rattle.mtl_language.specs.FormulaTokens.{front_run, run_token, tokens_from, tokens_of}
use Rattle.mtl_language.specs.FormulaReading.{is_refused_token, refused_indices, IsNumberFault, IsSyntaxFault}
use Rattle.scenario_keys.proofs.ForCallers.{all_append, all_back, all_head, all_none}

below_from : (most behind index : ℕ) (text : List ℕ) → index + length text ≤ most → All (λ p. p.index < most) (tokens_from behind index text)
below_from most behind index [] h = all_none (λ p. p.index < most)
below_from most (suc behind) index (b ∷ bs) h = below_from most behind (index + 1) bs (omega arith)
below_from most zero index (b ∷ bs) h =
    elim (b == 32) as (λ s. All (λ p. p.index < most) (if s then tokens_from 0 (index + 1) bs
    else record { token = run_token (front_run (b ∷ bs)); index = index } ∷ tokens_from (length (front_run (b ∷ bs)) - 1) (index + 1) bs)) [
      | true ↦ below_from most 0 (index + 1) bs (omega arith)
      | false ↦ All-cons (λ p. p.index < most) (record { token = run_token (front_run (b ∷ bs)); index = index })
          (tokens_from (length (front_run (b ∷ bs)) - 1) (index + 1) bs) (omega arith)
          (below_from most (length (front_run (b ∷ bs)) - 1) (index + 1) bs (omega arith))
    ]

inside : {A : Type 0} (P : A → Type 0) (list before : List A) (here : A) (after : List A) → list ≡ before ++ here ∷ after → All P list → P here
inside P list before here after e all = all_head P here after (all_back P before (here ∷ after) (subst (λ l. All P l) e all))

pub syntax_place : (text : List ℕ) (index : ℕ) → IsSyntaxFault text index → index ≤ length text
syntax_place text index (inl h) =
    let lt = inside (λ p. p.index < length text) (tokens_of text) h.before h.wrong h.after h.parts (below_from (length text) 0 0 text (omega arith)) in
    let same = h.at in
    omega arith
syntax_place text index (inr h) = let same = h.1 in omega arith

refused_below : (most tick : ℕ) (before : _) (ps : _) (indices : List ℕ) → refused_indices tick before ps ≡ indices → All (λ p. p.index < most) ps →
    All (λ i. i < most) indices
refused_below most tick before [] indices e all = subst (λ l. All (λ i. i < most) l) e (all_none (λ i. i < most))
refused_below most tick before (p ∷ ps) indices e all =
    subst (λ l. All (λ i. i < most) l) e
    (all_append (λ i. i < most) (if is_refused_token tick before p.token then p.index ∷ [] else []) (refused_indices tick (p.token ∷ before) ps)
    (elim (is_refused_token tick before p.token) as (λ r. All (λ i. i < most) (if r then p.index ∷ [] else [])) [
      | true ↦ All-cons (λ i. i < most) p.index [] (all_head (λ p. p.index < most) p ps all) (all_none (λ i. i < most))
      | false ↦ all_none (λ i. i < most)
    ])
    (refused_below most tick (p.token ∷ before) ps (refused_indices tick (p.token ∷ before) ps) refl (λ k d lt. all (suc k) d (omega arith))))

pub number_place : (text : List ℕ) (tick index : ℕ) → IsNumberFault text tick index → index ≤ length text
number_place text tick index h =
    let all = refused_below (length text) tick [] (tokens_of text) (index ∷ h.more) h.first (below_from (length text) 0 0 text (omega arith)) in
    let lt = all_head (λ i. i < length text) index h.more all in
    omega arith
