use Rattle.std.proofs.Common.{inl, inr, arith}
use Rattle.traces.proofs.contact_pairs.pair_of.Goals as goal

pub returns-then-a-b-clause-complete : goal.returns-then-a-b-clause-complete
returns-then-a-b-clause-complete c = λ pair h. elim h [
  | inl joined ↦ c.joined.ensures.complete pair joined
  | inr joined ↦ absurd (let lt = joined.order in omega arith)
]

pub returns-then-b-a-clause-complete : goal.returns-then-b-a-clause-complete
returns-then-b-a-clause-complete c = λ pair h. elim h [
  | inl joined ↦ absurd (let lt = joined.order in omega arith)
  | inr joined ↦ c.joined-then-b-a.ensures.complete pair joined
]
