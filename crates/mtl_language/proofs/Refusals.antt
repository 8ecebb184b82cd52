-- The numbers that are refused.
use Rattle.std.proofs.Common.{◌≡◌, ℕ, Bool, true, false, List, [], ◌∷◌, refl, sym, ◌∙◌}
use Rattle.mtl_language.specs.declared.tokens.Token.{Token}
use Rattle.mtl_language.specs.declared.tokens.Token.TheVariants as tokens
use Rattle.mtl_language.specs.declared.tokens.Measure.TheVariants as measures
use Rattle.mtl_language.specs.declared.tokens.IndexedToken.{IndexedToken}
use Rattle.mtl_language.specs.FormulaReading.{is_refused, is_refused_token, refused_indices}

-- the nearest token, if there is one
abbrev pub nearest : List Token → Token
nearest [] = tokens.Wrong
nearest (t ∷ ts) = t

abbrev pub next_nearest : List Token → Token
next_nearest [] = tokens.Wrong
next_nearest (t ∷ ts) = nearest ts

-- Two tokens decide.
two_decide : (tick : ℕ) (before : List Token) (n : ℕ) → is_refused tick (nearest before ∷ next_nearest before ∷ []) n ≡ is_refused tick before n
two_decide tick [] n = refl
two_decide tick (tokens.OpenBounds ∷ before) n = refl
two_decide tick (tokens.Comma ∷ []) n = refl
two_decide tick (tokens.Comma ∷ tokens.Number l ∷ before) n = refl
two_decide tick (tokens.Open ∷ []) n = refl
two_decide tick (tokens.Open ∷ tokens.Measure measures.Age ∷ before) n = refl
two_decide tick (tokens.Open ∷ tokens.Measure measures.Clear ∷ before) n = refl
two_decide tick (tokens.Open ∷ tokens.Measure measures.Close ∷ before) n = refl
two_decide tick _ n = refl

two_decide_token : (tick : ℕ) (before : List Token) (t : Token) → is_refused_token tick (nearest before ∷ next_nearest before ∷ []) t ≡ is_refused_token tick before t
two_decide_token tick before (tokens.Number n) = two_decide tick before n
two_decide_token tick before _ = refl

module _ (tick : ℕ) (all : List IndexedToken) where
  -- no number before those that are left is refused
  pub record Scanned (left : List IndexedToken) (earlier previous : Token) : Type 0 where
    pub before : List Token
    pub earlier_is : earlier ≡ next_nearest before
    pub previous_is : previous ≡ nearest before
    pub same : refused_indices tick [] all ≡ refused_indices tick before left

  pub scanned_none : Scanned all tokens.Wrong tokens.Wrong
  scanned_none = record { before = []; earlier_is = refl; previous_is = refl; same = refl }

  refusal_here : (left : List IndexedToken) (earlier previous : Token) (p : IndexedToken) (b : Bool) (h : Scanned (p ∷ left) earlier previous) →
      b ≡ is_refused_token tick (previous ∷ earlier ∷ []) p.token → is_refused_token tick h.before p.token ≡ b
  refusal_here left earlier previous p b h is =
      sym (two_decide_token tick h.before p.token) ∙ sym (rw (h.earlier_is, h.previous_is) at is)

  pub scanned_more : (left : List IndexedToken) (earlier previous : Token) (p : IndexedToken) → Scanned (p ∷ left) earlier previous →
      false ≡ is_refused_token tick (previous ∷ earlier ∷ []) p.token → Scanned left previous p.token
  scanned_more left earlier previous p h is = record {
    before = p.token ∷ h.before;
    earlier_is = h.previous_is;
    previous_is = refl;
    same = h.same ∙ (rw (refusal_here left earlier previous p false h is) refl);
  }

  pub scanned_found : (left : List IndexedToken) (earlier previous : Token) (p : IndexedToken) → Scanned (p ∷ left) earlier previous →
      true ≡ is_refused_token tick (previous ∷ earlier ∷ []) p.token → (more : List ℕ) × (refused_indices tick [] all ≡ p.index ∷ more)
  scanned_found left earlier previous p h is =
      (refused_indices tick (p.token ∷ h.before) left, h.same ∙ (rw (refusal_here left earlier previous p true h is) refl))
