-- Pairs that are added to a list, in one go or one after the other.
use Rattle.std.proofs.Common.{◌≡◌, ◌⊎◌, inl, inr, List, [], ◌∷◌, ◌++◌, subst}
use Rattle.std.proofs.lemmas.List.Elements.{Contains-append_left, Contains-push, Contains-push_cases}
use Rattle.std.specs.List.{Contains}
use Rattle.meetings.specs.declared.pair.Pair.{Pair}
use Rattle.traces.specs.Inner.Pairing.{AreAdded}

pub none_added : (before : List Pair) (IsNew : Pair → Type 0) → ((pair : Pair) → ¬ IsNew pair) → AreAdded before IsNew before
none_added before IsNew none = record {
  sound = λ pair h. inl h;
  complete = λ pair h. elim h [ inl old ↦ old | inr new ↦ absurd (none pair new) ];
}

pub one_added : (before : List Pair) (IsNew : Pair → Type 0) (one : Pair) → IsNew one → ((pair : Pair) → IsNew pair → one ≡ pair) → AreAdded before IsNew (before ++ one ∷ [])
one_added before IsNew one holds only = record {
  sound = λ pair h. elim (Contains-push_cases before one pair h) [ inl old ↦ inl old | inr e ↦ inr (subst IsNew e holds) ];
  complete = λ pair h. elim h [
    | inl old ↦ Contains-append_left before (one ∷ []) pair old
    | inr new ↦ subst (Contains (before ++ one ∷ [])) (only pair new) (Contains-push before one)
  ];
}

-- Of the new pairs some are among those now, and some are left to find.
pub record IsUnderWay (before : List Pair) (IsNew : Pair → Type 0) (now : List Pair) (IsLeft : Pair → Type 0) : Type 0 where
  pub sound : (pair : Pair) → Contains now pair ⊎ IsLeft pair → Contains before pair ⊎ IsNew pair
  pub complete : (pair : Pair) → Contains before pair ⊎ IsNew pair → Contains now pair ⊎ IsLeft pair

pub begun : (before : List Pair) (IsNew : Pair → Type 0) → IsUnderWay before IsNew before IsNew
begun before IsNew = record { sound = λ pair h. h; complete = λ pair h. h }

-- Those that are left are those that are added next, and the rest.
pub gone_on : (before : List Pair) (IsNew : Pair → Type 0) (now : List Pair) (IsLeft IsNext IsRest : Pair → Type 0) (after : List Pair)
    → ((pair : Pair) → IsLeft pair → IsNext pair ⊎ IsRest pair) → ((pair : Pair) → IsNext pair ⊎ IsRest pair → IsLeft pair)
    → IsUnderWay before IsNew now IsLeft → AreAdded now IsNext after → IsUnderWay before IsNew after IsRest
gone_on before IsNew now IsLeft IsNext IsRest after split join way added = record {
  sound = λ pair h. elim h [
    | inl found ↦ (elim (added.sound pair found) [ inl old ↦ way.sound pair (inl old) | inr next ↦ way.sound pair (inr (join pair (inl next))) ])
    | inr rest ↦ way.sound pair (inr (join pair (inr rest)))
  ];
  complete = λ pair h. elim (way.complete pair h) [
    | inl old ↦ inl (added.complete pair (inl old))
    | inr left ↦ (elim (split pair left) [ inl next ↦ inl (added.complete pair (inr next)) | inr rest ↦ inr rest ])
  ];
}

pub ended : (before : List Pair) (IsNew : Pair → Type 0) (now : List Pair) (IsLeft : Pair → Type 0)
    → IsUnderWay before IsNew now IsLeft → ((pair : Pair) → ¬ IsLeft pair) → AreAdded before IsNew now
ended before IsNew now IsLeft way none = record {
  sound = λ pair h. way.sound pair (inl h);
  complete = λ pair h. elim (way.complete pair h) [ inl found ↦ found | inr left ↦ absurd (none pair left) ];
}
