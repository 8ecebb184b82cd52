-- Rows that are taken off one after the other.
use Rattle.std.proofs.Common.{◌≡◌, ℕ, ◌<◌, ◌≤◌, List, [], ◌∷◌, ◌++◌, length, map, refl, sym, ap, subst, ◌∙◌, arith, inl, inr, append_assoc, Some, None}
use Rattle.std.specs.Prelude.{Option}
use Rattle.std.specs.declared.cmp.Ordering.{Ordering}
use Rattle.std.specs.List.{All, AllByRecursion, slice_get}
use Rattle.std.specs.Map.{keys_of, values_of}
use Rattle.std.specs.BTreeMap.Range.{IsLeBy}
use Rattle.std.proofs.lemmas.List.Elements.{Contains-push_cases, recursion_from_All}
use Rattle.audit_rows.specs.declared.sort_key.SortKey.{SortKey}
use Rattle.audit_rows.specs.declared.row.Row.{Row}
use Rattle.audit_rows.specs.Order.{last_step_of, place_cmp, sort_key_of}
use Rattle.audit_rows.specs.Inner.Queues.{IsPopping, IsPopped}
use Rattle.audit_rows.specs.Standing.{ArePlaced}
use Rattle.audit_rows.proofs.Places.{derived_cmp, derived_is, not_later}
use Rattle.outside.proofs.Members.{in_none}
use Rattle.audit_rows.proofs.StrictOrder.{all_at}
use Rattle.audit_rows.proofs.Pending.{keys_are_places}

pub nothing_popped : (bound : ℕ) (old : List (SortKey × Row)) → ArePlaced old → IsPopping bound old [] old
nothing_popped bound old h = record { whole = refl; early = λ row i. in_none row i; placed = h }

pub one_popped : (bound : ℕ) (old : List (SortKey × Row)) (rows : List Row) (e : SortKey × Row) (es : List (SortKey × Row)) → IsPopping bound old rows (e ∷ es) → e.0.last < bound
    → IsPopping bound old (rows ++ e.1 ∷ []) es
one_popped bound old rows e es h lt = record {
  whole = h.whole ∙ sym (append_assoc rows (e.1 ∷ []) (values_of es));
  early = λ row i. elim (Contains-push_cases rows e.1 row i) [
    | inl was ↦ h.early row was
    | inr now ↦ (let same : e.0.last ≡ last_step_of row = ap (λ (p : SortKey). p.last) h.placed.0 ∙ ap (λ (r : Row). last_step_of r) now in omega arith)
  ];
  placed = h.placed.1;
}

pub all_popped : (bound : ℕ) (old : List (SortKey × Row)) (rows : List Row) (es : List (SortKey × Row)) → IsPopping bound old rows es → length es ≡ 0 → IsPopped bound old rows es
all_popped bound old rows [] h e = record { front = h; late = λ row i. in_none row i }
all_popped bound old rows (x ∷ es) h e = absurd (omega arith)

pub enough_popped : (bound : ℕ) (old : List (SortKey × Row)) (rows : List Row) (es : List (SortKey × Row)) (place : SortKey) → IsPopping bound old rows es
    → bound ≤ place.last → All (IsLeBy derived_cmp place) (keys_of es) → IsPopped bound old rows es
enough_popped bound old rows es place h le all = record {
  front = h;
  late = λ row i. let behind = not_later place (sort_key_of row) (all_at sort_key_of place_cmp (IsLeBy place_cmp place) (values_of es) row keys i) in omega arith;
}
  where
    keys : AllByRecursion (IsLeBy place_cmp place) (map sort_key_of (values_of es))
    keys = subst (AllByRecursion (IsLeBy place_cmp place)) (keys_are_places es h.placed) (recursion_from_All (IsLeBy place_cmp place) (keys_of es) (subst (λ (cmp : SortKey → SortKey → Ordering). All (IsLeBy cmp place) (keys_of es)) derived_is all))

-- The first entry is the one that was checked.
pub first_place : (es rest : List (SortKey × Row)) (e : SortKey × Row) (p : SortKey) (v : Row) → es ≡ e ∷ rest → slice_get es 0 ≡ Some (p, v) → e.0 ≡ p
first_place es rest e p v is at = ap (λ (o : Option (SortKey × Row)). key o) (ap (λ (xs : List (SortKey × Row)). slice_get xs 0) (sym is) ∙ at)
  where
    key : Option (SortKey × Row) → SortKey
    key None = p
    key (Some x) = x.0
