-- What a search for the vessels in contact has found.
use Rattle.std.specs.Prelude.{ℕ, ◌≡◌, ◌<◌, ◌⊎◌, List, [], ◌∷◌, ◌≤ℤ◌}
use Rattle.std.specs.List.{AllPairs, Contains}
use Rattle.meetings.specs.Traces.{IsContact}
use Rattle.meetings.specs.declared.pair.Pair.{Pair}
use Rattle.motion.specs.declared.leg.TickState.{TickState}

-- None lies to the west of an earlier one.
abbrev pub AreWestToEast : List (ℕ × TickState) → Type 0
AreWestToEast vessels = AllPairs (λ (a b : ℕ × TickState). a.1.point.x ≤ℤ b.1.point.x) vessels

-- A and B are in contact and make the pair; A has the lesser MMSI.
pub record AreJoined (watch : ℕ) (a b : ℕ × TickState) (pair : Pair) : Type 0 where
  pub subject : pair.subject ≡ a.0
  pub other : pair.other ≡ b.0
  pub order : a.0 < b.0
  pub near : IsContact watch a.1 b.1

-- A and B are in contact and make the pair, whichever comes first.
abbrev pub MakePair : ℕ → (ℕ × TickState) → (ℕ × TickState) → Pair → Type 0
MakePair watch a b pair = AreJoined watch a b pair ⊎ AreJoined watch b a pair

-- A makes the pair with one of the others.
abbrev pub HasPairWith : ℕ → (ℕ × TickState) → List (ℕ × TickState) → Pair → Type 0
HasPairWith watch a [] pair = ⊥
HasPairWith watch a (b ∷ others) pair = MakePair watch a b pair ⊎ HasPairWith watch a others pair

-- Two of the vessels make the pair.
abbrev pub HasPair : ℕ → List (ℕ × TickState) → Pair → Type 0
HasPair watch [] pair = ⊥
HasPair watch (a ∷ others) pair = HasPairWith watch a others pair ⊎ HasPair watch others pair

-- A is a subject, and makes the pair with one of the others.
pub record HasPairOf (watch : ℕ) (subjects : List ℕ) (a : ℕ × TickState) (others : List (ℕ × TickState)) (pair : Pair) : Type 0 where
  pub subject : Contains subjects a.0
  pub makes : HasPairWith watch a others pair

-- One of the vessels is a subject, and makes the pair with one of the others.
abbrev pub HasSubjectPair : ℕ → List ℕ → List (ℕ × TickState) → List (ℕ × TickState) → Pair → Type 0
HasSubjectPair watch subjects [] others pair = ⊥
HasSubjectPair watch subjects (a ∷ vessels) others pair = HasPairOf watch subjects a others pair ⊎ HasSubjectPair watch subjects vessels others pair

-- The pairs after a call are those before it, and those of a kind.
pub record AreAdded (before : List Pair) (IsNew : Pair → Type 0) (after : List Pair) : Type 0 where
  pub sound : (pair : Pair) → Contains after pair → Contains before pair ⊎ IsNew pair
  pub complete : (pair : Pair) → Contains before pair ⊎ IsNew pair → Contains after pair
