-- The rows at which a rule is broken are as many as the stretches of broken marks in its tracks: each of both has its last step.
use Rattle.std.proofs.Common.{◌≡◌, ◌≢◌, ℕ, zero, suc, ◌+◌, ◌-◌, ◌<◌, ◌≤◌, ◌==◌, ◌⊎◌, inl, inr, Bool, true, false, cond, List, [], ◌∷◌, ◌++◌, length, map, refl, sym, ap, subst, ◌∙◌, arith, eq-eqb, length-append}
use Rattle.std.specs.Prelude.{◌&&◌, not}
use Rattle.std.specs.List.{AllPairs, Contains, filter, range_with_len}
use Rattle.std.proofs.lemmas.List.{get_or_past, length-map}
use Rattle.std.proofs.lemmas.List.Elements.{Contains-append_cases, Contains-append_left, Contains-append_right}
use Rattle.std.proofs.lemmas.List.FromFn.{get_or-range_with_len, length-range_with_len}
use Rattle.std.proofs.lemmas.List.Kept.{AllPairs-filter}
use Rattle.std.proofs.lemmas.Bool.Decides.{nat_tests}
use Rattle.std.proofs.lemmas.List.Sums.{sum_by-cons}
use Rattle.meetings.specs.declared.pair.Pair.{Pair}
use Rattle.audit_rows.specs.declared.mark.Mark.{Mark}
use Rattle.audit_rows.specs.declared.mark.Mark.TheVariants.{Nothing, Broken, Undecided, Engaged}
use Rattle.audit_rows.specs.declared.row.Row.{Row}
use Rattle.audit_rows.specs.declared.row.Row.TheVariants as row
use Rattle.audit_rows.specs.declared.sort_key.SortKey.{SortKey}
use Rattle.audit_rows.specs.declared.topic.Topic.{Topic}
use Rattle.audit_rows.specs.declared.topic.Topic.TheVariants as topic
use Rattle.audit_rows.specs.MarkCounts.{broken_stretches, ends_broken, is_broken}
use Rattle.audit_rows.specs.Order.{sort_key_of}
use Rattle.audit_rows.specs.Rows.{AreRows, IsRowOf}
use Rattle.audit_rows.specs.Stretches.{mark_at}
use Rattle.audit_rows.specs.Standing.{HaveOwnTopics}
use Rattle.audit_rows.specs.Tracks.{IsNew, Track}
use Rattle.audit_rows.proofs.ForCallers.{different_keys, from_filter, in_filter, in_rows, ordered_filter, row_in}
use Rattle.auditor.specs.RuleCounts.{is_run_of}
use Rattle.auditor.specs.Tallies.{counted, is_of_rule, of_rule}
use Rattle.outside.proofs.Members.{in_cons, in_head, in_none, in_tail}
use Rattle.traces.proofs.ForCallers.{different_append, different_map, different_none, few_different, from_map, in_map}

compared : (k n : ℕ) → (k < n) ⊎ (n ≤ k)
compared k n = grind arith

-- ---- broken marks

is_it : (m : Mark) → (m ≡ Broken) ⊎ (is_broken m ≡ false)
is_it Nothing = inr refl
is_it Broken = inl refl
is_it Undecided = inr refl
is_it (Engaged kind least) = inr refl

broken_is : (m : Mark) → is_broken m ≡ true → m ≡ Broken
broken_is m e = elim (is_it m) [ inl is ↦ is | inr other ↦ absurd (cc) ]

other_is : (m : Mark) → is_broken m ≡ false → m ≡ Broken → ⊥
other_is m e is = let yes : is_broken m ≡ true = ap is_broken is in absurd (cc)

is_other : (m : Mark) → (m ≡ Broken → ⊥) → is_broken m ≡ false
is_other m h = elim (is_it m) [ inl is ↦ absurd (h is) | inr other ↦ other ]

both : (a b : Bool) → (a && not b) ≡ true → (a ≡ true) × (b ≡ false)
both true false e = (refl, refl)
both true true e = absurd (cc)
both false b e = absurd (cc)

ends_by : (a b : Bool) → a ≡ true → b ≡ false → (a && not b) ≡ true
ends_by true false e f = refl
ends_by true true e f = absurd (cc)
ends_by false b e f = absurd (cc)

-- ---- where a stretch that ends at an index begins

record BeginsAt (marks : List Mark) (to : ℕ) : Type 0 where
  from : ℕ
  ordered : from ≤ to
  each : (k : ℕ) → from ≤ k → k ≤ to → mark_at marks k ≡ Broken
  before : 0 < from → mark_at marks (from - 1) ≡ Broken → ⊥

or_last : (k n : ℕ) → k ≤ suc n → (k ≤ n) ⊎ (k ≡ suc n)
or_last k n le = grind arith

begins_at : (marks : List Mark) (to : ℕ) → mark_at marks to ≡ Broken → BeginsAt marks to
begins_at marks zero e = record {
  from = 0;
  ordered = omega arith;
  each = λ k low high. let same : k ≡ 0 = omega arith in ap (mark_at marks) same ∙ e;
  before = λ some. absurd (omega arith);
}
begins_at marks (suc n) e =
    elim (is_it (mark_at marks n)) [
      | inl more ↦ (let rest = begins_at marks n more in
          let le = rest.ordered in
          record {
            from = rest.from;
            ordered = omega arith;
            each = λ k low high. elim (or_last k n high) [ inl earlier ↦ rest.each k low earlier | inr last ↦ ap (mark_at marks) last ∙ e ];
            before = rest.before;
          })
      | inr other ↦ record {
        from = suc n;
        ordered = omega arith;
        each = λ k low high. let same : k ≡ suc n = omega arith in ap (mark_at marks) same ∙ e;
        before = λ some is. let same : n ≡ suc n - 1 = omega arith in other_is (mark_at marks n) other (ap (mark_at marks) same ∙ is);
      }
    ]

within : (marks : List Mark) (k : ℕ) → mark_at marks k ≡ Broken → k < length marks
within marks k e = elim (compared k (length marks)) [
  | inl lt ↦ lt
  | inr past ↦ (let none : mark_at marks k ≡ Nothing = get_or_past marks k Nothing past in absurd (cc))
]

-- ---- the ends of one track's stretches

abbrev key : Track → ℕ → SortKey
key track k = record { last = track.first + k; topic = track.topic }

abbrev ends : Track → List ℕ
ends track = filter (ends_broken track.marks) (range_with_len 0 (length track.marks))

abbrev keys : Track → List SortKey
keys track = map (key track) (ends track)

in_range : (n k : ℕ) → k < n → Contains (range_with_len 0 n) k
in_range n k lt =
    let long = length-range_with_len 0 n in
    let at = get_or-range_with_len 0 n k k lt in
    (k, omega arith, (let same : 0 + k ≡ k = omega arith in at ∙ same))

range_different : (n : ℕ) → AllPairs ◌≢◌ (range_with_len 0 n)
range_different n i j d lt inside same =
    let long = length-range_with_len 0 n in
    let one = get_or-range_with_len 0 n i d (omega arith) in
    let two = get_or-range_with_len 0 n j d (omega arith) in
    let equal : 0 + i ≡ 0 + j = sym one ∙ (same ∙ two) in
    absurd (omega arith)

keys_different : (track : Track) → AllPairs ◌≢◌ (keys track)
keys_different track =
    different_map (key track) (λ i j e. let same : track.first + i ≡ track.first + j = ap (λ (k : SortKey). k.last) e in omega arith) (ends track)
    (AllPairs-filter ◌≢◌ (ends_broken track.marks) (range_with_len 0 (length track.marks)) (range_different (length track.marks)))

key_topic : (track : Track) (k : SortKey) → Contains (keys track) k → k.topic ≡ track.topic
key_topic track k i = let (j, there, e) = from_map (key track) (ends track) k i in sym (ap (λ (k : SortKey). k.topic) e)

module _ (rule : ℕ) where
  -- the row of a stretch that ends there
  record HasRow (track : Track) (k : SortKey) : Type 0 where
    told : Row
    is : IsRowOf track told
    run : is_run_of rule told ≡ true
    key_is : sort_key_of told ≡ k

  row_of_end : (track : Track) (pair : Pair) (k : ℕ) → topic.Verdict pair rule ≡ track.topic → ends_broken track.marks k ≡ true → HasRow track (key track k)
  row_of_end track pair k about e =
      let (here, next) = both (is_broken (mark_at track.marks k)) (is_broken (mark_at track.marks (k + 1))) e in
      let broken = broken_is (mark_at track.marks k) here in
      let b = begins_at track.marks k broken in
      record {
        told = row.Verdict pair rule false (track.first + b.from) (track.first + k);
        is = (
          b.from,
          k,
          record {
            topic = about;
            first = refl;
            last = refl;
            stretch = record {
              ordered = b.ordered;
              within = within track.marks k broken;
              each = b.each;
              before = b.before;
              after = λ lt. other_is (mark_at track.marks (k + 1)) next;
            };
            measures = tt;
          },
        );
        run = ap (λ (b : Bool). b && true) (eq-eqb rule rule refl);
        key_is = λ i. record { last = track.first + k; topic = about i };
      }

  verdict_of : (about : Topic) → is_of_rule rule about ≡ true → (pair : Pair) × (topic.Verdict pair rule ≡ about)
  verdict_of (topic.Meeting pair) e = absurd (cc)
  verdict_of (topic.Verdict pair other) e = (pair, ap (λ (n : ℕ). topic.Verdict pair n) (grind (arith, nat_tests)))

  has_row : (track : Track) (k : SortKey) → is_of_rule rule track.topic ≡ true → Contains (keys track) k → HasRow track k
  has_row track k own i =
      let (pair, about) = verdict_of track.topic own in
      let (j, there, e) = from_map (key track) (ends track) k i in
      subst (λ (k : SortKey). HasRow track k) e (row_of_end track pair j about (from_filter (ends_broken track.marks) (range_with_len 0 (length track.marks)) j there).1)

  -- the end of a row's stretch
  end_of_row : (track : Track) (told : Row) → IsRowOf track told → is_run_of rule told ≡ true → (is_of_rule rule track.topic ≡ true) × Contains (keys track) (sort_key_of told)
  end_of_row track (row.Meeting pair kind first last least) is run = absurd (cc)
  end_of_row track (row.Verdict pair other true first last) is run = let never = both (other == rule) true run in absurd (cc)
  end_of_row track (row.Verdict pair other false first last) (from, to, t) run =
      let (own, _) = both (other == rule) false run in
      let ordered = t.stretch.ordered in
      let here : is_broken (mark_at track.marks to) ≡ true = ap is_broken (t.stretch.each to ordered (omega arith)) in
      let next : is_broken (mark_at track.marks (to + 1)) ≡ false =
      elim (compared (to + 1) (length track.marks)) [
        | inl lt ↦ is_other (mark_at track.marks (to + 1)) (t.stretch.after lt)
        | inr past ↦ ap is_broken (get_or_past track.marks (to + 1) Nothing past)
      ] in
      let at : Contains (ends track) to =
      in_filter (ends_broken track.marks) (range_with_len 0 (length track.marks)) to (in_range (length track.marks) to t.stretch.within)
      (ends_by (is_broken (mark_at track.marks to)) (is_broken (mark_at track.marks (to + 1))) here next) in
      let same : key track to ≡ sort_key_of (row.Verdict pair other false first last) = λ i. record { last = sym t.last i; topic = sym t.topic i } in
      (sym (ap (is_of_rule rule) t.topic) ∙ own, subst (λ (k : SortKey). Contains (keys track) k) same (in_map (key track) (ends track) to at))

  -- ---- the ends of all tracks' stretches

  abbrev own_keys : Track → List SortKey
  own_keys track = cond (is_of_rule rule track.topic) (keys track) []

  abbrev all_keys : List Track → List SortKey
  all_keys [] = []
  all_keys (t ∷ ts) = own_keys t ++ all_keys ts

  if_own : {X : Type 0} (b : Bool) (xs : List X) (x : X) → Contains (cond b xs []) x → (b ≡ true) × Contains xs x
  if_own true xs x i = (refl, i)
  if_own false xs x i = in_none x i

  own_if : {X : Type 0} (b : Bool) (xs : List X) (x : X) → b ≡ true → Contains xs x → Contains (cond b xs []) x
  own_if true xs x e i = i
  own_if false xs x e i = absurd (cc)

  long_if : {X : Type 0} (b : Bool) (xs : List X) (n : ℕ) → length xs ≡ n → length (cond b xs []) ≡ cond b n 0
  long_if true xs n e = e
  long_if false xs n e = refl

  different_if : (b : Bool) (xs : List SortKey) → AllPairs ◌≢◌ xs → AllPairs ◌≢◌ (cond b xs [])
  different_if true xs d = d
  different_if false xs d = different_none

  as_many : (tracks : List Track) → length (all_keys tracks) ≡ counted rule broken_stretches tracks
  as_many [] = refl
  as_many (t ∷ ts) =
      let here : length (own_keys t) ≡ of_rule rule broken_stretches t = long_if (is_of_rule rule t.topic) (keys t) (broken_stretches t.marks) (length-map (ends t) (key t)) in
      let rest = as_many ts in
      omega (arith, length-append (own_keys t) (all_keys ts), sum_by-cons (of_rule rule broken_stretches) t ts)

  record IsKey (tracks : List Track) (k : SortKey) : Type 0 where
    track : Track
    among : Contains tracks track
    own : is_of_rule rule track.topic ≡ true
    at : Contains (keys track) k

  from_keys : (tracks : List Track) (k : SortKey) → Contains (all_keys tracks) k → IsKey tracks k
  from_keys [] k i = in_none k i
  from_keys (t ∷ ts) k i =
      elim (Contains-append_cases (own_keys t) (all_keys ts) k i) [
        | inl here ↦ (let (own, at) = if_own (is_of_rule rule t.topic) (keys t) k here in record { track = t; among = in_head t ts; own = own; at = at })
        | inr there ↦ (let rest = from_keys ts k there in record { track = rest.track; among = in_tail t ts rest.track rest.among; own = rest.own; at = rest.at })
      ]

  in_keys : (tracks : List Track) (k : SortKey) → IsKey tracks k → Contains (all_keys tracks) k
  in_keys tracks k is = there tracks is.among
    where
      there : (tracks : List Track) → Contains tracks is.track → Contains (all_keys tracks) k
      there [] i = in_none is.track i
      there (t ∷ ts) i =
          elim (in_cons t ts is.track i) [
            | inl same ↦ Contains-append_left (own_keys t) (all_keys ts) k
                (subst (λ (z : Track). Contains (own_keys z) k) (sym same) (own_if (is_of_rule rule is.track.topic) (keys is.track) k is.own is.at))
            | inr later ↦ Contains-append_right (own_keys t) (all_keys ts) k (there ts later)
          ]

  not_new : (about : Topic) (tracks : List Track) (track : Track) → IsNew about tracks → Contains tracks track → track.topic ≡ about → ⊥
  not_new about [] track new i e = in_none track i
  not_new about (t ∷ ts) track new i e = elim (in_cons t ts track i) [ inl same ↦ new.0 (ap (λ (z : Track). z.topic) same ∙ e) | inr later ↦ not_new about ts track new.1 later e ]

  all_different : (tracks : List Track) → HaveOwnTopics tracks → AllPairs ◌≢◌ (all_keys tracks)
  all_different [] own = different_none
  all_different (t ∷ ts) own =
      different_append (own_keys t) (all_keys ts) (different_if (is_of_rule rule t.topic) (keys t) (keys_different t)) (all_different ts own.1)
      (λ k i j.
      let there = from_keys ts k j in
      not_new t.topic ts there.track own.0 there.among (sym (key_topic there.track k there.at) ∙ key_topic t k (if_own (is_of_rule rule t.topic) (keys t) k i).1))

  -- ---- rows and stretches

  pub runs_counted : (tracks : List Track) (rows : List Row) → HaveOwnTopics tracks → AreRows tracks rows → counted rule broken_stretches tracks ≡ length (filter (is_run_of rule) rows)
  runs_counted tracks rows own are =
      let runs = filter (is_run_of rule) rows in
      let le = few_different (map sort_key_of runs) (all_keys tracks) (different_keys runs (ordered_filter (is_run_of rule) rows are.ordered)) (λ k i.
      let (told, j, e) = from_map sort_key_of runs k i in
      let (held, run) = from_filter (is_run_of rule) rows told j in
      let (track, among, is) = row_in tracks told ((are.each told).0 held) in
      let (mine, at) = end_of_row track told is run in
      in_keys tracks k (record { track = track; among = among; own = mine; at = subst (λ (k : SortKey). Contains (keys track) k) e at })) in
      let ge = few_different (all_keys tracks) (map sort_key_of runs) (all_different tracks own) (λ k i.
      let there = from_keys tracks k i in
      let r = has_row there.track k there.own there.at in
      let held = (are.each r.told).1 (in_rows tracks there.track r.told there.among r.is) in
      subst (λ (k : SortKey). Contains (map sort_key_of runs) k) r.key_is (in_map sort_key_of runs r.told (in_filter (is_run_of rule) rows r.told held r.run))) in
      omega (arith, length-map runs sort_key_of, as_many tracks)
