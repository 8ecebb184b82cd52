-- As traces begin, and take their steps.
use Rattle.std.proofs.Common.{◌≡◌, ℕ, suc, ◌⊎◌, ◌↔◌, inl, inr, List, [], ◌∷◌, ◌++◌, length, get_or, set, refl, sym, ap, ap₂, subst}
use Rattle.std.specs.List.{AllZip, Contains}
use Rattle.std.proofs.lemmas.List.{map-append}
use Rattle.std.proofs.lemmas.List.Elements.{Contains-append_left, Contains-append_right, Contains-append_cases}
use Rattle.meetings.specs.declared.pair.Pair.{Pair}
use Rattle.traces.specs.Audited.{AuditNumbers, SeenVessels, Sighting}
use Rattle.traces.specs.Inner.TracesKept.{Follows, Holds}
use Rattle.traces.specs.Known.{IsFollowed, Known, opened, pairs_of}
use Rattle.traces.specs.declared.all_traces.AllTraces.{AllTraces}
use Rattle.traces.specs.declared.followed_trace.FollowedTrace.{FollowedTrace}
use Rattle.outside.proofs.Members.{in_cons, in_head, in_none, in_tail}

-- ---- lists of traces and what they stand for

module _ {X Y : Type 0} (R : X → Y → Type 0) where
  pub zip_push : (xs : List X) (ys : List Y) (x : X) (y : Y) → AllZip R xs ys → R x y → AllZip R (xs ++ x ∷ []) (ys ++ y ∷ [])
  zip_push [] [] x y z r = (r, tt)
  zip_push [] (w ∷ ws) x y z r = absurd z
  zip_push (v ∷ vs) [] x y z r = absurd z
  zip_push (v ∷ vs) (w ∷ ws) x y z r = (z.0, zip_push vs ws x y z.1 r)

  pub zip_length : (xs : List X) (ys : List Y) → AllZip R xs ys → length xs ≡ length ys
  zip_length [] [] z = refl
  zip_length [] (w ∷ ws) z = absurd z
  zip_length (v ∷ vs) [] z = absurd z
  zip_length (v ∷ vs) (w ∷ ws) z = ap suc (zip_length vs ws z.1)

  pub zip_at : (xs : List X) (ys : List Y) (y : Y) (zs : List Y) (d : X) → AllZip R xs (ys ++ y ∷ zs) → R (get_or xs (length ys) d) y
  zip_at [] [] y zs d z = absurd z
  zip_at [] (w ∷ ws) y zs d z = absurd z
  zip_at (x ∷ xs) [] y zs d z = z.0
  zip_at (x ∷ xs) (w ∷ ws) y zs d z = zip_at xs ws y zs d z.1

  pub zip_set : (xs : List X) (ys : List Y) (y : Y) (zs : List Y) (x' : X) (y' : Y) → AllZip R xs (ys ++ y ∷ zs) → R x' y' → AllZip R (set xs (length ys) x') (ys ++ y' ∷ zs)
  zip_set [] [] y zs x' y' z r = absurd z
  zip_set [] (w ∷ ws) y zs x' y' z r = absurd z
  zip_set (x ∷ xs) [] y zs x' y' z r = (r, z.1)
  zip_set (x ∷ xs) (w ∷ ws) y zs x' y' z r = (z.0, zip_set xs ws y zs x' y' z.1 r)

  pub zip_member : (xs : List X) (ys : List Y) (y : Y) → AllZip R xs ys → Contains ys y → (x : X) × Contains xs x × R x y
  zip_member [] [] y z i = in_none y i
  zip_member [] (w ∷ ws) y z i = absurd z
  zip_member (x ∷ xs) [] y z i = absurd z
  zip_member (x ∷ xs) (w ∷ ws) y z i =
      elim (in_cons w ws y i) [
        | inl same ↦ (x, in_head x xs, subst (λ (v : Y). R x v) same z.0)
        | inr later ↦ (let (u, j, r) = zip_member xs ws y z.1 later in (u, in_tail x xs u j, r))
      ]

-- ---- the pairs of further traces

pub pairs_push : (knowns : List Known) (pair : Pair) (start : ℕ) → pairs_of (knowns ++ opened pair start ∷ []) ≡ pairs_of knowns ++ pair ∷ []
pairs_push knowns pair start = map-append (λ (k : Known). k.pair) knowns (opened pair start ∷ [])

pub pair_pushed : (knowns : List Known) (pair : Pair) (start : ℕ) (other : Pair) → Contains (pairs_of (knowns ++ opened pair start ∷ [])) other ↔ (Contains (pairs_of knowns) other ⊎ (pair ≡ other))
pair_pushed knowns pair start other = (
  λ i. elim (Contains-append_cases (pairs_of knowns) (pair ∷ []) other (subst (λ (ps : List Pair). Contains ps other) (pairs_push knowns pair start) i)) [
    | inl there ↦ inl there
    | inr last ↦ elim (in_cons pair [] other last) [ inl same ↦ inr same | inr none ↦ in_none other none ]
  ],
  λ h. subst (λ (ps : List Pair). Contains ps other) (sym (pairs_push knowns pair start)) (elim h [
    | inl there ↦ Contains-append_left (pairs_of knowns) (pair ∷ []) other there
    | inr same ↦ Contains-append_right (pairs_of knowns) (pair ∷ []) other (subst (λ (p : Pair). Contains (pair ∷ []) p) same (in_head pair []))
  ]),
)

-- ---- steps leave the pairs

pub pairs_followed : (numbers : AuditNumbers) (ticks : List Sighting) (seen : SeenVessels) (knowns after : List Known) → AllZip (IsFollowed numbers ticks seen) knowns after → pairs_of after ≡ pairs_of knowns
pairs_followed numbers ticks seen [] [] z = refl
pairs_followed numbers ticks seen [] (k ∷ ks) z = absurd z
pairs_followed numbers ticks seen (k ∷ ks) [] z = absurd z
pairs_followed numbers ticks seen (k ∷ ks) (l ∷ ls) z = ap₂ (λ (p : Pair) (ps : List Pair). p ∷ ps) (ap (λ (m : Known). m.pair) z.0.is) (pairs_followed numbers ticks seen ks ls z.1)

-- A trace that takes its step leaves the pairs.
pub pairs_changed : (front back : List Known) (known after : Known) → after.pair ≡ known.pair → pairs_of (front ++ after ∷ back) ≡ pairs_of (front ++ known ∷ back)
pairs_changed [] back known after e = ap (λ (p : Pair). p ∷ pairs_of back) e
pairs_changed (k ∷ ks) back known after e = ap (λ (ps : List Pair). k.pair ∷ ps) (pairs_changed ks back known after e)

-- The trace at an index follows what is known there.
pub follows_at : (numbers : AuditNumbers) (ticks : List Sighting) (items : List FollowedTrace) (front : List Known) (known : Known) (back : List Known) (index : ℕ) (trace : FollowedTrace)
    → trace ≡ get_or items index trace → index ≡ length front → AllZip (Follows numbers ticks) items (front ++ known ∷ back) → Follows numbers ticks trace known
follows_at numbers ticks items front known back index trace e at z =
    subst (λ (t : FollowedTrace). Follows numbers ticks t known) (sym e)
    (subst (λ (n : ℕ). Follows numbers ticks (get_or items n trace) known) (sym at) (zip_at (Follows numbers ticks) items front known back trace z))

-- Where the trace at an index changes, and its pair does not, the traces stand for the changed ones, and the pairs are theirs.
pub trace_changed : (kept : AllTraces) (numbers : AuditNumbers) (ticks : List Sighting) (front back : List Known) (known after : Known) (index : ℕ) (trace : FollowedTrace) → after.pair ≡ known.pair
    → index ≡ length front → Holds kept numbers ticks (front ++ known ∷ back) → Follows numbers ticks trace after
    → AllZip (Follows numbers ticks) (set kept.traces.items index trace) (front ++ after ∷ back)
    × ((pair : Pair) → Contains kept.pairs.keys pair ↔ Contains (pairs_of (front ++ after ∷ back)) pair)
trace_changed kept numbers ticks front back known after index trace of_pair at h now =
    let same = pairs_changed front back known after of_pair in (
      subst (λ (n : ℕ). AllZip (Follows numbers ticks) (set kept.traces.items n trace) (front ++ after ∷ back)) (sym at)
          (zip_set (Follows numbers ticks) kept.traces.items front known back trace after h.traces now),
      λ pair. (
        λ i. subst (λ (ps : List Pair). Contains ps pair) (sym same) ((h.pairs pair).0 i),
        λ i. (h.pairs pair).1 (subst (λ (ps : List Pair). Contains ps pair) same i),
      ),
    )
