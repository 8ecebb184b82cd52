-- The document of version 2 is the one that is put together, and there is no other.
use Rattle.std.proofs.Common.{◌≡◌, ℕ, List, [], ◌∷◌, All, Bool, true, false, ◌&&◌, if◌then◌else◌, Option, Some, None, Ordering, Less, Equal, Greater, nat_cmp, is_lt, refl, ap, sym, ◌∙◌, subst}
use Rattle.std.specs.Prelude.{codes, filter, find, is_some}
use Rattle.std.specs.Cmp.Lexicographic.{slice_cmp}
use Rattle.std.specs.Ordering.{match_ordering, ordering_reverse}
use Rattle.std.specs.Str.{bytes_eq}
use Rattle.std.proofs.lemmas.Bool.{and_parts}
use Rattle.std.proofs.lemmas.Cmp.{nat_list_cmp_total, tied_itself}
use Rattle.std.proofs.lemmas.List.Elements.{All-filter, filter_passes}
use Rattle.std.proofs.lemmas.Map.Lookups.{exact_bytes}
use Rattle.std.proofs.lemmas.Slice.Eq.{bytes_eq-Decides}
use Rattle.toml.specs.Data.{Data, Members, no_members, member, get_member, is_before}
use Rattle.toml.specs.Data as toml
use Rattle.scenario_keys.specs.ScenarioKeys.{rows, Row}
use Rattle.scenario_keys.proofs.ForCallers.{all_head}
use Rattle.scenario.specs.Migration.{are_in_order, has_table, is_key, is_key_at, is_key_of, new_value, table_names, value_at, value_of_key, IsMigratedDocument}
use Rattle.scenario.specs.Inner.PutTogether.{keys_of, migrated, with_found, with_key, with_keys, with_member, with_table, with_tables}
use Rattle.scenario.proofs.Kept.{keys_by, tables_by, value_by}
use Rattle.scenario.proofs.Members.{or_none}
use Rattle.scenario.proofs.MovedKeys.{all_known, IsKnown}

-- the names ascend as one member after the other is put

before_put : (k name other : List ℕ) (found here : Data) (rest : Members) (o : Ordering) → is_lt (slice_cmp nat_cmp k name) ≡ true → is_lt (slice_cmp nat_cmp k other) ≡ true →
    is_before k (match_ordering o (member name found (member other here rest)) (member other found rest) (member other here (with_member name found rest))) ≡ true
before_put k name other found here rest Less h b = h
before_put k name other found here rest Equal h b = b
before_put k name other found here rest Greater h b = b

before_more : (k name : List ℕ) (found : Data) (members : Members) → is_lt (slice_cmp nat_cmp k name) ≡ true → is_before k members ≡ true → is_before k (with_member name found members) ≡ true
before_more k name found no_members h b = h
before_more k name found (member other here rest) h b = before_put k name other found here rest (slice_cmp nat_cmp name other) h b

turned : (a b : List ℕ) (o : Ordering) → slice_cmp nat_cmp a b ≡ o → slice_cmp nat_cmp b a ≡ ordering_reverse o
turned a b o e = nat_list_cmp_total.antisymm b a ∙ ap ordering_reverse e

both : (a b : Bool) → a ≡ true → b ≡ true → a && b ≡ true
both true true h k = refl
both true false h k = k
both false b h k = h

order_put : (name : List ℕ) (found : Data) (members : Members) → are_in_order members ≡ true → are_in_order (with_member name found members) ≡ true
order_put name found no_members h = refl
order_put name found (member other here rest) h = by (λ more. order_put name found rest more) (slice_cmp nat_cmp name other) refl
  where
    by : (are_in_order rest ≡ true → are_in_order (with_member name found rest) ≡ true) → (o : Ordering) → slice_cmp nat_cmp name other ≡ o →
        are_in_order (match_ordering o (member name found (member other here rest)) (member other found rest) (member other here (with_member name found rest))) ≡ true
    by put Less e = both (is_lt (slice_cmp nat_cmp name other)) (is_before other rest && are_in_order rest) (ap is_lt e) h
    by put Equal e = h
    by put Greater e =
        let (a, b) = and_parts (is_before other rest) (are_in_order rest) h in
        both (is_before other (with_member name found rest)) (are_in_order (with_member name found rest))
        (before_more other name found rest (ap is_lt (turned name other Greater e)) a) (put b)

order_found : (name : List ℕ) (found : Option Data) (members : Members) → are_in_order members ≡ true → are_in_order (with_found name found members) ≡ true
order_found name None members h = h
order_found name (Some found) members h = order_put name found members h

order_key : (document : Members) (table : List ℕ) (row : Row) (members : Members) → are_in_order members ≡ true → are_in_order (with_key document table row members) ≡ true
order_key document table row members h = by (is_key_of table row)
  where
    by : (b : Bool) → are_in_order (if b then with_found row.name (new_value document row) members else members) ≡ true
    by true = order_found row.name (new_value document row) members h
    by false = h

order_keys : (document : Members) (table : List ℕ) (list : List Row) (members : Members) → are_in_order members ≡ true → are_in_order (with_keys document table list members) ≡ true
order_keys document table [] members h = h
order_keys document table (row ∷ rest) members h = order_keys document table rest (with_key document table row members) (order_key document table row members h)

keys_in_order : (document : Members) (table : List ℕ) → are_in_order (keys_of document table) ≡ true
unfolding keys_of
keys_in_order document table = order_keys document table rows no_members refl

order_tables : (document : Members) (names : List (List ℕ)) (members : Members) → are_in_order members ≡ true → are_in_order (with_tables document names members) ≡ true
order_tables document [] members h = h
order_tables document (name ∷ names) members h = order_tables document names (with_table document name members) (by (is_some (get_member name document)))
  where
    by : (b : Bool) → are_in_order (if b then with_member name (toml.table (keys_of document name)) members else members) ≡ true
    by true = order_put name (toml.table (keys_of document name)) members h
    by false = h

-- at each name stands the new value of the one key of that name

found_none : (p : Row → Bool) (list : List Row) → filter p list ≡ [] → find p list ≡ None
found_none p [] e = refl
found_none p (row ∷ rest) e = by (λ f. found_none p rest f) (p row) e
  where
    by : (filter p rest ≡ [] → find p rest ≡ None) → (b : Bool) → (if b then row ∷ filter p rest else filter p rest) ≡ [] → (if b then Some row else find p rest) ≡ None
    by next true f = (let g : row ∷ filter p rest ≡ [] = f in cc)
    by next false f = next f

found_first : (p : Row → Bool) (list : List Row) (here : Row) (more : List Row) → filter p list ≡ here ∷ more → find p list ≡ Some here
found_first p [] here more e = (let g : [] ≡ here ∷ more = e in cc)
found_first p (row ∷ rest) here more e = by (λ f. found_first p rest here more f) (p row) e
  where
    by : (filter p rest ≡ here ∷ more → find p rest ≡ Some here) → (b : Bool) → (if b then row ∷ filter p rest else filter p rest) ≡ here ∷ more → (if b then Some row else find p rest) ≡ Some here
    by next true f = (let g : row ∷ filter p rest ≡ here ∷ more = f in cc)
    by next false f = next f

alone : (table name : List ℕ) (here : Row) (more : List Row) → filter (is_key_at table name) rows ≡ here ∷ more → filter (is_key_at table name) rows ≡ here ∷ []
alone table name here more e =
    let p : Row → Bool = is_key_at table name in
    let known : IsKnown here = all_head IsKnown here more (subst (λ (list : List Row). All IsKnown list) e (All-filter p IsKnown rows all_known)) in
    let passes : p here ≡ true = all_head (λ row. p row ≡ true) here more (subst (λ (list : List Row). All (λ row. p row ≡ true) list) e (filter_passes p rows)) in
    let (of_table, named) = and_parts (is_key_of table here) (bytes_eq name here.name) passes in
    let (key, placed) = and_parts (is_key here.kind) (bytes_eq here.table table) of_table in
    let same_table : here.table ≡ table = (bytes_eq-Decides here.table table).0 placed in
    let same_name : here.name ≡ name = sym ((bytes_eq-Decides name here.name).0 named) in
    subst (λ (t : List ℕ). filter (is_key_at t name) rows ≡ here ∷ []) same_table
    (subst (λ (n : List ℕ). filter (is_key_at here.table n) rows ≡ here ∷ []) same_name (known key).0)

value_found : (document : Members) (table name : List ℕ) (list : List Row) → filter (is_key_at table name) rows ≡ list → value_by document list None ≡ value_at document table name
value_found document table name [] e = sym (ap (value_of_key document) (found_none (is_key_at table name) rows e))
value_found document table name (here ∷ more) e =
    ap (λ (list : List Row). value_by document list None) (sym e ∙ alone table name here more e)
    ∙ or_none (new_value document here)
    ∙ sym (ap (value_of_key document) (found_first (is_key_at table name) rows here more e))

key_at : (document : Members) (table name : List ℕ) → get_member name (keys_of document table) ≡ value_at document table name
unfolding keys_of
key_at document table name =
    keys_by document table name rows no_members ∙ value_found document table name (filter (is_key_at table name) rows) refl

pub put_together : (document : Members) → IsMigratedDocument document (migrated document)
unfolding migrated
put_together document = record {
  in_order = order_tables document table_names (keys_of document (codes "")) (keys_in_order document (codes ""));
  tables = λ name has. (
    keys_of document name,
    tables_by document name table_names (keys_of document (codes "")) ∙ rw has refl,
    (keys_in_order document name, λ key. key_at document name key),
  );
  keys = λ name has. tables_by document name table_names (keys_of document (codes "")) ∙ rw has (key_at document (codes "") name);
}

-- members in order are known by what stands at each name

none_before : (name : List ℕ) (members : Members) → is_before name members ≡ true → are_in_order members ≡ true → get_member name members ≡ None
none_before name no_members b h = refl
none_before name (member other here rest) b h =
    let (next, more) = and_parts (is_before other rest) (are_in_order rest) h in
    let less = less_of (slice_cmp nat_cmp name other) b in
    rw less (none_before name rest (chain rest next) more)
  where
    less_of : (o : Ordering) → is_lt o ≡ true → o ≡ Less
    less_of Less e = refl
    less_of Equal e = cc
    less_of Greater e = cc

    chain : (after : Members) → is_before other after ≡ true → is_before name after ≡ true
    chain no_members next = refl
    chain (member third there after) next =
        ap is_lt (nat_list_cmp_total.trans name other third (less_of (slice_cmp nat_cmp name other) b) (less_of (slice_cmp nat_cmp other third) next))

abbrev pub AreAlike : Members → Members → Type 0
AreAlike a b = (name : List ℕ) → get_member name a ≡ get_member name b

here_found : (name : List ℕ) (found : Data) (rest : Members) → get_member name (member name found rest) ≡ Some found
here_found name found rest = rw (tied_itself nat_list_cmp_total name) refl

pub same_members : (a b : Members) → are_in_order a ≡ true → are_in_order b ≡ true → AreAlike a b → a ≡ b
same_members no_members no_members h k alike = refl
same_members no_members (member name found rest) h k alike = (let e = alike name ∙ here_found name found rest in cc)
same_members (member name found rest) no_members h k alike = (let e = sym (alike name) ∙ here_found name found rest in cc)
same_members (member name found rest) (member other there others) h k alike =
    by (λ same. same_members rest others parts.1 other_parts.1 same) (slice_cmp nat_cmp name other) refl
  where
    parts : (is_before name rest ≡ true) × (are_in_order rest ≡ true)
    parts = and_parts (is_before name rest) (are_in_order rest) h

    other_parts : (is_before other others ≡ true) × (are_in_order others ≡ true)
    other_parts = and_parts (is_before other others) (are_in_order others) k

    rests : name ≡ other → AreAlike rest others
    rests same q = at (slice_cmp nat_cmp q name) refl
      where
        passed : (o : Ordering) (x : Option Data) (y : Data) (m n : List ℕ) (after : Members) → slice_cmp nat_cmp m n ≡ o → (o ≡ Equal → ⊥) →
            get_member m (member n y after) ≡ get_member m after
        passed Less x y m n after e f = rw e refl
        passed Equal x y m n after e f = absurd (f refl)
        passed Greater x y m n after e f = rw e refl

        apart : (o : Ordering) → slice_cmp nat_cmp q name ≡ o → (o ≡ Equal → ⊥) → get_member q rest ≡ get_member q others
        apart o e f =
            sym (passed o None found q name rest e f) ∙ alike q
            ∙ passed o None there q other others (subst (λ (n : List ℕ). slice_cmp nat_cmp q n ≡ o) same e) f

        at : (o : Ordering) → slice_cmp nat_cmp q name ≡ o → get_member q rest ≡ get_member q others
        at Less e = apart Less e (λ f. cc)
        at Greater e = apart Greater e (λ f. cc)
        at Equal e =
            let is : q ≡ name = exact_bytes q name e in
            let left : get_member q rest ≡ None = subst (λ (n : List ℕ). get_member n rest ≡ None) (sym is) (none_before name rest parts.0 parts.1) in
            let right : get_member q others ≡ None = subst (λ (n : List ℕ). get_member n others ≡ None) (sym (is ∙ same)) (none_before other others other_parts.0 other_parts.1) in
            left ∙ sym right

    by : (AreAlike rest others → rest ≡ others) → (o : Ordering) → slice_cmp nat_cmp name other ≡ o → member name found rest ≡ member other there others
    by tail Less e =
        let none : get_member name (member other there others) ≡ None = none_before name (member other there others) (ap is_lt e) k in
        let some = sym (alike name) ∙ here_found name found rest in
        cc
    by tail Greater e =
        let none : get_member other (member name found rest) ≡ None = none_before other (member name found rest) (ap is_lt (turned name other Greater e)) h in
        let some = alike other ∙ here_found other there others in
        cc
    by tail Equal e =
        let same : name ≡ other = exact_bytes name other e in
        let one : Some found ≡ Some there =
        sym (here_found name found rest) ∙ alike name ∙ subst (λ (n : List ℕ). get_member n (member other there others) ≡ Some there) (sym same) (here_found other there others) in
        let tails : rest ≡ others = tail (rests same) in
        cc

-- so there is one document of version 2

module _ (document a b : Members) (is : IsMigratedDocument document a) (also : IsMigratedDocument document b) where
  alike_by : (name : List ℕ) (has : Bool) → has_table document name ≡ has → get_member name a ≡ get_member name b
  alike_by name true e =
      let (keys, found, (order, held)) = is.tables name e in
      let (others, there, (other_order, other_held)) = also.tables name e in
      let same : keys ≡ others = same_members keys others order other_order (λ key. held key ∙ sym (other_held key)) in
      found ∙ ap (λ (m : Members). Some (toml.table m)) same ∙ sym there
  alike_by name false e = is.keys name e ∙ sym (also.keys name e)

  pub one_migrated : a ≡ b
  one_migrated = same_members a b is.in_order also.in_order (λ name. alike_by name (has_table document name) refl)
