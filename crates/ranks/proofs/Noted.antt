-- One more note.
use Rattle.std.proofs.Common.{◌≡◌, ◌∙◌, ◌<◌, inl, inr, ℕ, Bool, true, false, cond, List, [], ◌∷◌, ◌++◌, Some, None, refl, ap, subst, sym, arith}
use Rattle.std.specs.Prelude.{Option, ◌==◌, ◌&&◌, nat_le, nat_lt, nat_eq, unwrap_or, if◌then◌else◌}
use Rattle.std.specs.Map.{lookup}
use Rattle.std.specs.Ordering.{is_eq, nat_cmp}
use Rattle.std.specs.List.{filter, last_or}
use Rattle.std.proofs.lemmas.Bool.{cases_Bool}
use Rattle.std.proofs.lemmas.Bool.Decides.{nat_tests}
use Rattle.std.proofs.lemmas.List.{append-nil}
use Rattle.std.proofs.lemmas.List.Elements.{filter-append}
use Rattle.tracks.proofs.Lasts.{last_or-push}
use Rattle.ranks.specs.VesselRanks.{Note, rank_by_note, rank_by_type, rank_in, ranks_by_kind}
use Rattle.ranks.specs.Standing.{StandsFor, changes_of, rank_after, rank_until}
use Rattle.ranks.specs.declared.change.Change.{Change}
use Rattle.ranks.specs.declared.rank.Rank.{Rank}
use Rattle.ranks.specs.declared.rank.Rank.TheVariants.{Power}

-- A note changes the rank of its vessel by type from its time on, and no other.
pub rank_by_type-push : (noted : List Note) (note : Note) (mmsi time : ℕ)
    → rank_by_type (noted ++ note ∷ []) mmsi time ≡ (if note.mmsi == mmsi && nat_le note.time time then rank_in ranks_by_kind note.kind else rank_by_type noted mmsi time)
unfolding rank_by_type
rank_by_type-push noted note mmsi time =
    let p : Note → Bool = λ one. one.mmsi == mmsi && nat_le one.time time in
    let parted : filter p (noted ++ note ∷ []) ≡ filter p noted ++ filter p (note ∷ []) = filter-append p noted (note ∷ []) in
    elim (cases_Bool (p note)) [
      | inl holds ↦ (let last : filter p (note ∷ []) ≡ note ∷ [] = rw holds refl in
          rw holds (ap (λ notes. rank_by_note (last_or None notes)) (parted ∙ ap (λ notes. filter p noted ++ notes) last)
          ∙ ap rank_by_note (last_or-push None (filter p noted) note)))
      | inr fails ↦ (let last : filter p (note ∷ []) ≡ [] = rw fails refl in
          rw fails (ap (λ notes. rank_by_note (last_or None notes)) (parted ∙ ap (λ notes. filter p noted ++ notes) last ∙ append-nil (filter p noted))))
    ]

-- A note changes nothing before its time.
pub past_stays : (noted : List Note) (note : Note) (mmsi time : ℕ) → time < note.time → rank_by_type (noted ++ note ∷ []) mmsi time ≡ rank_by_type noted mmsi time
past_stays noted note mmsi time lt =
    let not : (note.mmsi == mmsi && nat_le note.time time) ≡ false = grind (arith, nat_tests) in
    rank_by_type-push noted note mmsi time ∙ ap (λ (b : Bool). if b then rank_in ranks_by_kind note.kind else rank_by_type noted mmsi time) not

-- ---- the changes of one vessel among all

same_key : (a b : ℕ) → is_eq (nat_cmp a b) ≡ nat_eq b a
same_key a b =
    elim (cases_Bool (nat_lt a b)) [
      | inl less ↦ (let e : nat_eq b a ≡ false = grind (arith, nat_tests) in rw (less, e) refl)
      | inr not ↦ elim (cases_Bool (nat_eq a b)) [
        | inl same ↦ (let e : nat_eq b a ≡ true = grind (arith, nat_tests) in rw (not, same, e) refl)
        | inr other ↦ (let e : nat_eq b a ≡ false = grind (arith, nat_tests) in rw (not, other, e) refl)
      ]
    ]

-- as the map finds them
abbrev pub found : List (ℕ × List Change) → ℕ → Option (List Change)
found vessels mmsi = lookup (λ held. is_eq (nat_cmp mmsi held)) vessels

pub changes_of-found : (vessels : List (ℕ × List Change)) (mmsi : ℕ) → changes_of vessels mmsi ≡ unwrap_or (found vessels mmsi) []
changes_of-found vessels mmsi = λ i. unwrap_or (lookup (λ held. sym (same_key mmsi held) i) vessels) []

pub changes_found : (vessels : List (ℕ × List Change)) (mmsi : ℕ) (changes : List Change) → found vessels mmsi ≡ Some changes → changes_of vessels mmsi ≡ changes
changes_found vessels mmsi changes e = changes_of-found vessels mmsi ∙ ap (λ (o : Option (List Change)). unwrap_or o []) e

pub none_found : (vessels : List (ℕ × List Change)) (mmsi : ℕ) → found vessels mmsi ≡ None → changes_of vessels mmsi ≡ []
none_found vessels mmsi e = changes_of-found vessels mmsi ∙ ap (λ (o : Option (List Change)). unwrap_or o []) e

-- ---- what is kept stands for one more note

-- Only the vessel's changes became these.
abbrev pub Becomes : List (ℕ × List Change) → List (ℕ × List Change) → ℕ → List Change → Type 0
Becomes old new mmsi changes = (q : ℕ) → found new q ≡ cond (is_eq (nat_cmp mmsi q)) (Some changes) (found old q)

pub stands_more : (old new : List (ℕ × List Change)) (note : Note) (changes : List Change) → Becomes old new note.mmsi changes
    → ((t : ℕ) → rank_after changes t ≡ (if nat_le note.time t then rank_in ranks_by_kind note.kind else rank_after (changes_of old note.mmsi) t))
    → (noted : List Note) → StandsFor old noted → StandsFor new (noted ++ note ∷ [])
stands_more old new note changes becomes told noted stands mmsi time =
    elim (cases_Bool (nat_eq note.mmsi mmsi)) [
      | inl same ↦ (let own : note.mmsi ≡ mmsi = grind (arith, nat_tests) in
          let key : is_eq (nat_cmp note.mmsi mmsi) ≡ true = same_key note.mmsi mmsi ∙ grind (arith, nat_tests) in
          let now : changes_of new mmsi ≡ changes = changes_found new mmsi changes (becomes mmsi ∙ ap (λ b. cond b (Some changes) (found old mmsi)) key) in
          ap (λ cs. rank_after cs time) now ∙ told time
          ∙ ap (λ (m : ℕ). if nat_le note.time time then rank_in ranks_by_kind note.kind else rank_after (changes_of old m) time) own
          ∙ ap (λ (r : Rank). if nat_le note.time time then rank_in ranks_by_kind note.kind else r) (stands mmsi time)
          ∙ sym (rank_by_type-push noted note mmsi time
          ∙ ap (λ (b : Bool). if b && nat_le note.time time then rank_in ranks_by_kind note.kind else rank_by_type noted mmsi time) same))
      | inr other ↦ (let key : is_eq (nat_cmp note.mmsi mmsi) ≡ false = same_key note.mmsi mmsi ∙ grind (arith, nat_tests) in
          let now : found new mmsi ≡ found old mmsi = becomes mmsi ∙ ap (λ b. cond b (Some changes) (found old mmsi)) key in
          ap (λ cs. rank_after cs time) (changes_of-found new mmsi ∙ ap (λ (o : Option (List Change)). unwrap_or o []) now ∙ sym (changes_of-found old mmsi)) ∙ stands mmsi time
          ∙ sym (rank_by_type-push noted note mmsi time
          ∙ ap (λ (b : Bool). if b && nat_le note.time time then rank_in ranks_by_kind note.kind else rank_by_type noted mmsi time) other))
    ]

-- A vessel without kept changes stays `Power`.
pub stands_same : (vessels : List (ℕ × List Change)) (note : Note) → found vessels note.mmsi ≡ None → rank_in ranks_by_kind note.kind ≡ Power
    → (noted : List Note) → StandsFor vessels noted → StandsFor vessels (noted ++ note ∷ [])
stands_same vessels note none power noted stands mmsi time =
    elim (cases_Bool (nat_eq note.mmsi mmsi && nat_le note.time time)) [
      | inl counts ↦ (let own : note.mmsi ≡ mmsi = grind (arith, nat_tests) in
          let unknown : found vessels mmsi ≡ None = subst (λ (m : ℕ). found vessels m ≡ None) own none in
          ap (λ cs. rank_after cs time) (none_found vessels mmsi unknown) ∙ sym power
          ∙ sym (rank_by_type-push noted note mmsi time ∙ ap (λ (b : Bool). if b then rank_in ranks_by_kind note.kind else rank_by_type noted mmsi time) counts))
      | inr not ↦ stands mmsi time
          ∙ sym (rank_by_type-push noted note mmsi time ∙ ap (λ (b : Bool). if b then rank_in ranks_by_kind note.kind else rank_by_type noted mmsi time) not)
    ]

-- The type of such a vessel gives the rank that she had only if it makes her `Power`.
pub power_as_before : (vessels now : List (ℕ × List Change)) (mmsi time kind : ℕ) → vessels ≡ now → found vessels mmsi ≡ None
    → rank_until (changes_of now mmsi) time ≡ rank_in ranks_by_kind kind → rank_in ranks_by_kind kind ≡ Power
power_as_before vessels now mmsi time kind view none same =
    sym same ∙ ap (λ (held : List (ℕ × List Change)). rank_until (changes_of held mmsi) time) (sym view)
    ∙ ap (λ (changes : List Change). rank_until changes time) (none_found vessels mmsi none)

pub nothing_noted : StandsFor [] []
unfolding rank_by_type
nothing_noted mmsi time = refl
