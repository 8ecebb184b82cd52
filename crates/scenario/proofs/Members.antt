-- Members to which one more is put: what is found among them, and how deep they are.
use Rattle.std.proofs.Common.{◌≡◌, ◌≤◌, ℕ, max, List, [], ◌∷◌, false, Option, Some, None, String, Global, Ordering, Less, Equal, Greater, string_bytes, nat_cmp, is_eq, refl, ap, sym, ◌∙◌, subst, arith}
use Rattle.std.specs.Cmp.Lexicographic.{slice_cmp}
use Rattle.std.specs.Ordering.{match_ordering}
use Rattle.std.specs.Str.{bytes_eq}
use Rattle.std.specs.String.{string_cmp}
use Rattle.std.specs.BTreeMap.{insert_entry}
use Rattle.std.proofs.lemmas.Cmp.{nat_list_cmp_total, tied_itself}
use Rattle.std.proofs.lemmas.Map.Text.{is_eq-slice_cmp}
use Rattle.std.proofs.lemmas.Map.Lookups.{exact_bytes}
use Rattle.toml.specs.Data.{Data, Members, no_members, member, depth, get_member, members_depth}
use Rattle.toml.specs.View.{members_view, view}
use Rattle.toml.specs.declared.value.Value.{Value}
use Rattle.scenario.specs.Inner.PutTogether.{with_found, with_member}

-- an insertion into the entries of a map

abbrev pub Entry : Type 0
Entry = String Global × Value

put_by : (o : Ordering) (k : String Global) (v : Value) (e : Entry) (es : List Entry) →
    members_view (insert_entry string_cmp es k v) ≡ with_member (string_bytes k) (view v) (members_view es) →
    members_view (match_ordering o ((k, v) ∷ e ∷ es) ((e.0, v) ∷ es) (e ∷ insert_entry string_cmp es k v))
    ≡ match_ordering o
    (member (string_bytes k) (view v) (members_view (e ∷ es)))
    (member (string_bytes e.0) (view v) (members_view es))
    (member (string_bytes e.0) (view e.1) (with_member (string_bytes k) (view v) (members_view es)))
put_by Less k v e es ih = refl
put_by Equal k v e es ih = refl
put_by Greater k v e es ih = ap (member (string_bytes e.0) (view e.1)) ih

pub put_seen : (k : String Global) (v : Value) (es : List Entry) →
    members_view (insert_entry string_cmp es k v) ≡ with_member (string_bytes k) (view v) (members_view es)
put_seen k v [] = refl
put_seen k v (e ∷ es) = put_by (string_cmp k e.0) k v e es (put_seen k v es)

-- what is found at the name of the new member

same_by : (o : Ordering) (name other : List ℕ) (found here : Data) (rest : Members) → o ≡ slice_cmp nat_cmp name other →
    get_member name (with_member name found rest) ≡ Some found →
    get_member name (match_ordering o (member name found (member other here rest)) (member other found rest) (member other here (with_member name found rest))) ≡ Some found
same_by Less name other found here rest e ih = rw (tied_itself nat_list_cmp_total name)
same_by Equal name other found here rest e ih = rw (← e)
same_by Greater name other found here rest e ih = rw (← e) ih

pub get_same : (name : List ℕ) (found : Data) (members : Members) → get_member name (with_member name found members) ≡ Some found
get_same name found no_members = rw (tied_itself nat_list_cmp_total name)
get_same name found (member other here rest) = same_by (slice_cmp nat_cmp name other) name other found here rest refl (get_same name found rest)

-- what is found at another name

pub passed : (o : Ordering) (a b : Option Data) → is_eq o ≡ false → match_ordering o a b a ≡ a
passed Less a b h = refl
passed Equal a b h = cc
passed Greater a b h = refl

pub unlike : (name other : List ℕ) → bytes_eq name other ≡ false → is_eq (slice_cmp nat_cmp name other) ≡ false
unlike name other h = is_eq-slice_cmp name other ∙ h

other_by : (o : Ordering) (name new other : List ℕ) (found here : Data) (rest : Members) → o ≡ slice_cmp nat_cmp new other → bytes_eq name new ≡ false →
    get_member name (with_member new found rest) ≡ get_member name rest →
    get_member name (match_ordering o (member new found (member other here rest)) (member other found rest) (member other here (with_member new found rest)))
    ≡ get_member name (member other here rest)
other_by Less name new other found here rest e h ih = passed (slice_cmp nat_cmp name new) (get_member name (member other here rest)) (Some found) (unlike name new h)
other_by Equal name new other found here rest e h ih =
    let same : new ≡ other = exact_bytes new other (sym e) in
    let far = unlike name other (subst (λ (n : List ℕ). bytes_eq name n ≡ false) same h) in
    passed (slice_cmp nat_cmp name other) (get_member name rest) (Some found) far
    ∙ sym (passed (slice_cmp nat_cmp name other) (get_member name rest) (Some here) far)
other_by Greater name new other found here rest e h ih =
    ap (λ (x : Option Data). match_ordering (slice_cmp nat_cmp name other) x (Some here) x) ih

pub get_other : (name new : List ℕ) (found : Data) (members : Members) → bytes_eq name new ≡ false →
    get_member name (with_member new found members) ≡ get_member name members
get_other name new found no_members h = passed (slice_cmp nat_cmp name new) None (Some found) (unlike name new h)
get_other name new found (member other here rest) h =
    other_by (slice_cmp nat_cmp new other) name new other found here rest refl h (get_other name new found rest h)

-- how deep they are

max_below : (a b n : ℕ) → a ≤ n → b ≤ n → max a b ≤ n
max_below a b n h k = omega arith

deep_by : (o : Ordering) (n : ℕ) (name other : List ℕ) (found here : Data) (rest : Members) → depth found ≤ n → max (depth here) (members_depth rest) ≤ n →
    members_depth (with_member name found rest) ≤ n →
    members_depth (match_ordering o (member name found (member other here rest)) (member other found rest) (member other here (with_member name found rest))) ≤ n
deep_by Less n name other found here rest h k ih = max_below (depth found) (max (depth here) (members_depth rest)) n h k
deep_by Equal n name other found here rest h k ih = omega arith
deep_by Greater n name other found here rest h k ih = omega arith

pub no_deeper : (n : ℕ) (name : List ℕ) (found : Data) (members : Members) → depth found ≤ n → members_depth members ≤ n → members_depth (with_member name found members) ≤ n
no_deeper n name found no_members h k = omega arith
no_deeper n name found (member other here rest) h k =
    deep_by (slice_cmp nat_cmp name other) n name other found here rest h k (no_deeper n name found rest h (omega arith))

-- what may be put

abbrev pub or_else : Option Data → Option Data → Option Data
or_else None other = other
or_else (Some found) other = Some found

pub found_same : (name : List ℕ) (found : Option Data) (members : Members) → get_member name (with_found name found members) ≡ or_else found (get_member name members)
found_same name None members = refl
found_same name (Some found) members = get_same name found members

pub found_other : (name new : List ℕ) (found : Option Data) (members : Members) → bytes_eq name new ≡ false → get_member name (with_found new found members) ≡ get_member name members
found_other name new None members h = refl
found_other name new (Some found) members h = get_other name new found members h

pub or_none : (found : Option Data) → or_else found None ≡ found
or_none None = refl
or_none (Some found) = refl
