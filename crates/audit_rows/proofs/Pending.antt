-- A new entry among the pending ones.
use Rattle.std.proofs.Common.{◌≡◌, List, [], ◌∷◌, map, refl, ap, ap₂, subst, ◌∙◌, ◌⊎◌, inl, inr}
use Rattle.std.specs.List.{Contains, AllByRecursion}
use Rattle.std.specs.List.Sorted.{IsStrictlySortedBy}
use Rattle.std.specs.declared.cmp.Ordering.{Ordering}
use Rattle.std.specs.declared.cmp.Ordering.TheVariants.{Less, Equal, Greater}
use Rattle.std.specs.Ordering.{match_ordering}
use Rattle.std.specs.Map.{keys_of, values_of}
use Rattle.std.specs.BTreeMap.{insert_entry}
use Rattle.audit_rows.specs.declared.sort_key.SortKey.{SortKey}
use Rattle.audit_rows.specs.declared.row.Row.{Row}
use Rattle.audit_rows.specs.Order.{InOrder, last_step_of, place_cmp, sort_key_of, topic_of}
use Rattle.audit_rows.specs.Standing.{ArePlaced}
use Rattle.audit_rows.proofs.Places.{derived_cmp, derived_is, same_place}
use Rattle.outside.proofs.Members.{in_cons, in_head, in_none, in_tail}

-- the pending entries at one place each
pub keys_are_places : (es : List (SortKey × Row)) → ArePlaced es → keys_of es ≡ map sort_key_of (values_of es)
keys_are_places [] h = refl
keys_are_places (e ∷ es) h = ap₂ (λ (k : SortKey) (ks : List SortKey). k ∷ ks) h.0 (keys_are_places es h.1)

pub placed_in_order : (es : List (SortKey × Row)) → ArePlaced es → IsStrictlySortedBy place_cmp (keys_of es) → InOrder (values_of es)
placed_in_order es h s = subst (IsStrictlySortedBy place_cmp) (keys_are_places es h) s

abbrev pub IsFree : SortKey → List (SortKey × Row) → Type 0
IsFree k es = AllByRecursion (λ e. place_cmp k e.0 ≡ Equal → ⊥) es

module _ (k : SortKey) (v : Row) where
  abbrev pub inserted : List (SortKey × Row) → List (SortKey × Row)
  inserted es = insert_entry place_cmp es k v

  abbrev stepped : Ordering → (SortKey × Row) → List (SortKey × Row) → List (SortKey × Row)
  stepped o x es = match_ordering o ((k, v) ∷ x ∷ es) ((x.0, v) ∷ es) (x ∷ inserted es)

  pub placed_inserted : (es : List (SortKey × Row)) → IsFree k es → ArePlaced es → k ≡ sort_key_of v → ArePlaced (inserted es)
  placed_inserted [] free h e = (e, tt)
  placed_inserted (x ∷ es) free h e =
      elim (place_cmp k x.0) as (λ o. (o ≡ Equal → ⊥) → ArePlaced (stepped o x es)) [
        | Less ↦ λ _. (e, h)
        | Equal ↦ λ q. absurd (q refl)
        | Greater ↦ λ _. (h.0, placed_inserted es free.1 h.1 e)
      ] free.0

  pub has_inserted : (es : List (SortKey × Row)) → Contains (values_of (inserted es)) v
  has_inserted [] = in_head v []
  has_inserted (x ∷ es) =
      elim (place_cmp k x.0) as (λ o. Contains (values_of (stepped o x es)) v) [
        | Less ↦ in_head v (x.1 ∷ values_of es)
        | Equal ↦ in_head v (values_of es)
        | Greater ↦ in_tail x.1 (values_of (inserted es)) v (has_inserted es)
      ]

  pub still_inserted : (es : List (SortKey × Row)) (r : Row) → IsFree k es → Contains (values_of es) r → Contains (values_of (inserted es)) r
  still_inserted [] r free h = in_none r h
  still_inserted (x ∷ es) r free h =
      elim (place_cmp k x.0) as (λ o. (o ≡ Equal → ⊥) → Contains (values_of (stepped o x es)) r) [
        | Less ↦ λ _. in_tail v (x.1 ∷ values_of es) r h
        | Equal ↦ λ q. absurd (q refl)
        | Greater ↦ λ _. elim (in_cons x.1 (values_of es) r h) [
          | inl e ↦ subst (Contains (x.1 ∷ values_of (inserted es))) e (in_head x.1 (values_of (inserted es)))
          | inr later ↦ in_tail x.1 (values_of (inserted es)) r (still_inserted es r free.1 later)
        ]
      ] free.0

  pub only_inserted : (es : List (SortKey × Row)) (r : Row) → Contains (values_of (inserted es)) r → Contains (values_of es) r ⊎ (v ≡ r)
  only_inserted [] r h = elim (in_cons v [] r h) [ inl e ↦ inr e | inr none ↦ in_none r none ]
  only_inserted (x ∷ es) r h =
      elim (place_cmp k x.0) as (λ o. Contains (values_of (stepped o x es)) r → Contains (values_of (x ∷ es)) r ⊎ (v ≡ r)) [
        | Less ↦ λ i. elim (in_cons v (x.1 ∷ values_of es) r i) [ inl e ↦ inr e | inr later ↦ inl later ]
        | Equal ↦ λ i. elim (in_cons v (values_of es) r i) [ inl e ↦ inr e | inr later ↦ inl (in_tail x.1 (values_of es) r later) ]
        | Greater ↦ λ i. elim (in_cons x.1 (values_of (inserted es)) r i) [
          | inl e ↦ inl (subst (Contains (x.1 ∷ values_of es)) e (in_head x.1 (values_of es)))
          | inr later ↦ elim (only_inserted es r later) [ inl was ↦ inl (in_tail x.1 (values_of es) r was) | inr e ↦ inr e ]
        ]
      ] h

-- The place of a row is free if no row stands there.
pub free_place : (row : Row) (es : List (SortKey × Row)) → ArePlaced es → ((other : Row) → Contains (values_of es) other → topic_of row ≡ topic_of other → last_step_of row ≡ last_step_of other → ⊥)
    → IsFree (sort_key_of row) es
free_place row [] h none = tt
free_place row (x ∷ es) h none = (
  λ q. let same : sort_key_of row ≡ sort_key_of x.1 = same_place (sort_key_of row) x.0 q ∙ h.0 in
      none x.1 (in_head x.1 (values_of es)) (ap (λ (p : SortKey). p.topic) same) (ap (λ (p : SortKey). p.last) same),
  free_place row es h.1 (λ other i. none other (in_tail x.1 (values_of es) other i)),
)

-- ---- the map's own order

pub entries_after : (old new : List (SortKey × Row)) (place : SortKey) (row : Row) → new ≡ insert_entry derived_cmp old place row → place ≡ sort_key_of row → new ≡ inserted (sort_key_of row) row old
entries_after old new place row e placed = e ∙ ap (λ (cmp : SortKey → SortKey → Ordering). insert_entry cmp old place row) derived_is ∙ ap (λ (k : SortKey). inserted k row old) placed

pub keys_in_order : (old new : List (SortKey × Row)) (row : Row) → IsStrictlySortedBy derived_cmp (keys_of new) → new ≡ inserted (sort_key_of row) row old → IsStrictlySortedBy place_cmp (keys_of (inserted (sort_key_of row) row old))
keys_in_order old new row s e =
    subst (λ (es : List (SortKey × Row)). IsStrictlySortedBy place_cmp (keys_of es)) e (subst (λ (cmp : SortKey → SortKey → Ordering). IsStrictlySortedBy cmp (keys_of new)) derived_is s)
