use Rattle.std.proofs.Common.{inl, inr, refl}
use Rattle.plan_situations.proofs.boxes.Bounds.lie_apart.Goals as goal

pub returns-then-is_east_of : goal.returns-then-is_east_of
returns-then-is_east_of c = (λ t. inl (inl (c.is_east_of.ensures.0 c.if-is_east_of.true)), λ h. refl)

pub returns-then-is_east_of-2 : goal.returns-then-is_east_of-2
returns-then-is_east_of-2 c = (λ t. inl (inr (c.is_east_of-2.ensures.0 c.if-is_east_of-2.true)), λ h. refl)

pub returns-then-is_north_of : goal.returns-then-is_north_of
returns-then-is_north_of c = (λ t. inr (inl (c.is_north_of.ensures.0 c.if-is_north_of.true)), λ h. refl)

pub returns : goal.returns
returns c = (
  λ t. inr (inr (c.is_north_of-2.ensures.0 t)),
  λ h. elim h [
    | inl along ↦ elim along [
      | inl one ↦ absurd (let t = c.is_east_of.ensures.1 one in let f = c.if-is_east_of.false in cc)
      | inr other ↦ absurd (let t = c.is_east_of-2.ensures.1 other in let f = c.if-is_east_of-2.false in cc)
    ]
    | inr across ↦ elim across [
      | inl one ↦ absurd (let t = c.is_north_of.ensures.1 one in let f = c.if-is_north_of.false in cc)
      | inr other ↦ c.is_north_of-2.ensures.1 other
    ]
  ],
)
