-- What is known while the edges are gone through, and what is known in the end.
use Rattle.std.proofs.Common.{ℕ, suc, List, ◌≡◌, ◌+◌, ◌≤◌, ◌<◌, ◌⊎◌, inl, inr, ℤ, pos, ◌+ℤ◌, ◌≤ℤ◌, ◌<ℤ◌, unsigned_abs, refl, arith, ap₂, sym, subst, subst₂, ◌∙◌, add-one}
use Rattle.std.specs.Prelude.{true, false}
use Rattle.std.proofs.lemmas.Int.{ints, by_lt_z}
use Rattle.motion.specs.Steps.{RelativeMove}
use Rattle.hull_domains.specs.Crossings.{mediant, earliest, earlier, is_less, latest, later, side_of}
use Rattle.hull_domains.specs.Domains.{side_at, IsInside, StaysOutside}
use Rattle.hull_domains.specs.Inner.EdgeSides.{IsBound}
use Rattle.hull_domains.specs.Shapes.{edge_of}
use Rattle.hull_domains.specs.declared.sides.Fraction.{Fraction}
use Rattle.hull_domains.specs.declared.sides.Side.{Side}
use Rattle.hull_domains.proofs.Bounding.{bounds_of, inside_between, none_inside, AreBounds, IsInsideEdge}
use Rattle.hull_domains.proofs.EdgeSides.{side_told}
use Rattle.hull_domains.proofs.Times.{always}

pub record HasBounds (step : RelativeMove) (direction : ℕ) (shape : List (ℤ × ℤ)) (k : ℕ) (from to : Fraction) : Type 0 where
  pub from_is : from ≡ latest (side_of step direction shape) k
  pub to_is : to ≡ earliest (side_of step direction shape) k
  pub from_bound : IsBound from
  pub to_bound : IsBound to
  pub level : (j : ℕ) → j < k → (side_of step direction shape j).change ≡ pos 0 → (side_of step direction shape j).start <ℤ pos 0

module _ (step : RelativeMove) (direction : ℕ) (shape : List (ℤ × ℤ)) where
  pub nothing_yet : HasBounds step direction shape 0 (record { over = pos 0; under = 1 }) (record { over = pos 1; under = 1 })
  unfolding latest earliest
  nothing_yet = record {
    from_is = refl;
    to_is = refl;
    from_bound = record { over = omega arith; some = omega arith; under = omega arith };
    to_bound = record { over = omega arith; some = omega arith; under = omega arith };
    level = λ j lt. absurd (omega arith);
  }

  last_or_before : (j k : ℕ) → j < suc k → (j < k) ⊎ (j ≡ k)
  last_or_before j k lt = grind arith

  longer : (k : ℕ) (from to new_from new_to : Fraction) (side : Side) → HasBounds step direction shape k from to → side ≡ side_of step direction shape k
      → (side.change ≡ pos 0 → pos 0 ≤ℤ side.start → ⊥) → new_from ≡ later from side → new_to ≡ earlier to side → IsBound new_from → IsBound new_to
      → HasBounds step direction shape (suc k) new_from new_to
  unfolding latest earliest
  longer k from to new_from new_to side old is crosses from_new to_new from_bound to_bound = record {
    from_is = from_new ∙ (ap₂ later old.from_is is);
    to_is = to_new ∙ (ap₂ earlier old.to_is is);
    from_bound = from_bound;
    to_bound = to_bound;
    level = λ j lt. elim (last_or_before j k lt) as (λ _. (side_of step direction shape j).change ≡ pos 0 → (side_of step direction shape j).start <ℤ pos 0) [
      | inl less ↦ old.level j less
      | inr same ↦ subst (λ (i : ℕ). (side_of step direction shape i).change ≡ pos 0 → (side_of step direction shape i).start <ℤ pos 0) (sym same)
          (subst (λ (l : Side). l.change ≡ pos 0 → l.start <ℤ pos 0) is (λ flat. by_lt_z side.start (pos 0) (λ inside. inside) (λ outside. absurd (crosses flat outside))))
    ];
  }

  pub one_more : (k : ℕ) (from to new_from new_to : Fraction) (side : Side) → HasBounds step direction shape k from to → side ≡ side_of step direction shape k
      → (side.change ≡ pos 0 → pos 0 ≤ℤ side.start → ⊥) → new_from ≡ later from side → new_to ≡ earlier to side → IsBound new_from → IsBound new_to
      → HasBounds step direction shape (k + 1) new_from new_to
  one_more k from to new_from new_to side old is crosses from_new to_new from_bound to_bound =
      subst (λ (n : ℕ). HasBounds step direction shape n new_from new_to) (sym (add-one k))
      (longer k from to new_from new_to side old is crosses from_new to_new from_bound to_bound)

  -- ---- instants

  module _ (lt : direction < 3600) where
    pub inside_edge : (a b k : ℕ) → side_at step direction (edge_of shape k) a b <ℤ pos 0 → IsInsideEdge (side_of step direction shape k) a b
    unfolding IsInsideEdge
    inside_edge a b k h = subst (λ (z : ℤ). z <ℤ pos 0) (side_told step direction shape k a b lt) h

    pub on_inside : (a b k : ℕ) → IsInsideEdge (side_of step direction shape k) a b → side_at step direction (edge_of shape k) a b <ℤ pos 0
    unfolding IsInsideEdge
    on_inside a b k h = subst (λ (z : ℤ). z <ℤ pos 0) (sym (side_told step direction shape k a b lt)) h

    -- An edge beside which she moves outside keeps her outside.
    pub beside : (k : ℕ) (side : Side) → k < 6 → side ≡ side_of step direction shape k → side.change ≡ pos 0 → pos 0 ≤ℤ side.start → StaysOutside step direction shape
    unfolding IsInside IsInsideEdge
    beside k side known is flat outside a b le some inside =
        let here : IsInsideEdge side a b = subst (λ (l : Side). IsInsideEdge l a b) (sym is) (inside_edge a b k (inside k known)) in
        let start : side.start <ℤ pos 0 = (always side.start side.change a b some flat).0 here in
        omega (arith, ints)

    bounds : (from to : Fraction) → HasBounds step direction shape 6 from to → AreBounds (side_of step direction shape) 6 from to
    bounds from to h = subst₂ (AreBounds (side_of step direction shape) 6) (sym h.from_is) (sym h.to_is) (bounds_of (side_of step direction shape) 6 h.level)

    pub found : (from to : Fraction) → HasBounds step direction shape 6 from to → is_less from to ≡ true
        → ((mediant from to).a ≤ (mediant from to).b) × (0 < (mediant from to).b) × IsInside step direction shape (mediant from to).a (mediant from to).b
    unfolding IsInside
    found from to h is_before =
        let all = inside_between (side_of step direction shape) 6 from to (bounds from to h) is_before in
        (all.0, all.1, λ k known. on_inside (mediant from to).a (mediant from to).b k (all.2 k known))

    pub small : (from to : Fraction) → HasBounds step direction shape 6 from to → is_less from to ≡ true → unsigned_abs (from.over +ℤ to.over) ≤ from.under + to.under
    unfolding mediant
    small from to h is_before = (found from to h is_before).0

    pub none : (from to : Fraction) → HasBounds step direction shape 6 from to → is_less from to ≡ false → StaysOutside step direction shape
    unfolding IsInside
    none from to h is_not a b le some inside =
        none_inside (side_of step direction shape) 6 from to (bounds from to h) is_not a b le some (λ k known. inside_edge a b k (inside k known))
