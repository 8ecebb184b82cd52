-- The traces that the ticks have begun, from one tick to the next.
use Rattle.std.proofs.Common.{◌≡◌, ◌≢◌, ℕ, ◌-◌, ◌<◌, ◌≤◌, inl, inr, List, [], ◌∷◌, ◌++◌, length, length-append, get_or, append-nil, sym, ap, subst, ◌∙◌, arith}
use Rattle.std.specs.Prelude.{All, Option}
use Rattle.std.specs.List.{AllPairs, AllZip, Contains}
use Rattle.std.proofs.lemmas.List.{length-map, map-append}
use Rattle.std.proofs.lemmas.List.Elements.{All-contains, Contains-append_cases, Contains-get_or}
use Rattle.encounters.specs.declared.pair_step.PairStep.{PairStep}
use Rattle.meetings.specs.Traces.{AreInContact}
use Rattle.meetings.specs.declared.pair.Pair.{Pair}
use Rattle.meetings.proofs.ForCallers.{follows_same_ranks, row_same_ranks, rows_same_ranks, rows_then, steps_from-length}
use Rattle.traces.specs.Audited.{Begins, AuditNumbers, Sighting, nothing_seen, seen_state_at, terms_of, trace_ranks}
use Rattle.traces.specs.Inner.TracesKept.{AreBegun, AreKnownOn, AreTooMany, Follows, HaveBegunNow, HaveBoth, Holds, IsFresh, IsNextTick, MayBegin, swapped}
use Rattle.traces.specs.Known.{AreKnown, AreOpened, IsFollowed, IsKnown, Known, next_step_of, opened, pairs_of}
use Rattle.traces.specs.Standing.{StandsFor, traces_of}
use Rattle.traces.specs.ManyTraces.{HaveMoreThan}
use Rattle.traces.specs.declared.all_traces.AllTraces.{AllTraces}
use Rattle.traces.specs.declared.all_traces.TheConstants.{MOST_TRACES}
use Rattle.traces.specs.declared.followed_trace.FollowedTrace.{FollowedTrace}
use Rattle.traces.proofs.Different.{different_before, different_cons, few_different, from_map}
use Rattle.traces.proofs.Growing.{pairs_followed, zip_length, zip_member}
use Rattle.outside.proofs.Members.{in_cons, in_head, in_tail}
use Rattle.traces.proofs.Taking.{pairs_still}
use Rattle.traces.proofs.Ticks.{began_before, begins_back, begins_now, begins_still, begins_until, begun_within, contact_is_now, no_steps, ranks_still, steps_then}

pub all_members : {X : Type 0} (P : X → Type 0) (xs : List X) → ((x : X) → Contains xs x → P x) → All P xs
all_members P xs h = λ k d lt. h (get_or xs k d) (Contains-get_or xs k d lt)

opened_is : (start : ℕ) (knowns : List Known) (known : Known) → AreOpened start knowns → Contains knowns known → known ≡ opened known.pair start
opened_is start [] known all i = let lt = i.1 in absurd (omega arith)
opened_is start (k ∷ ks) known all i =
    elim (in_cons k ks known i) [
      | inl same ↦ subst (λ (m : Known). m ≡ opened m.pair start) same all.0
      | inr later ↦ opened_is start ks known all.1 later
    ]

pub steps_count : (numbers : AuditNumbers) (ticks : List Sighting) (known : Known) → IsKnown numbers ticks known → length known.steps ≡ length ticks - 1 - known.start
steps_count numbers ticks known is =
    ap length is.steps ∙ steps_from-length (seen_state_at ticks known.pair.subject) (seen_state_at ticks known.pair.other) known.start (length ticks - 1 - known.start)

-- ---- each trace takes its step

module _ (numbers : AuditNumbers) (ticks : List Sighting) where
  pub known_within : (known : Known) → IsKnown numbers ticks known → known.start < length ticks
  known_within known is = begun_within ticks nothing_seen numbers known.pair known.start is.begins

  began : (knowns : List Known) → AreKnown numbers ticks knowns → (pair : Pair) → Contains (pairs_of knowns) pair → (start : ℕ) × Begins numbers ticks pair start
  began knowns are pair i =
      let (known, j, e) = from_map (λ (k : Known). k.pair) knowns pair i in
      (known.start, subst (λ (p : Pair). Begins numbers ticks p known.start) e (are.each known j).begins)

  module _ (seen : Sighting) where
    followed_known : (known after : Known) → IsKnown numbers ticks known → IsFollowed numbers ticks seen.vessels known after → IsKnown numbers (ticks ++ seen ∷ []) after
    followed_known known after is f =
        let step : Option PairStep = next_step_of ticks seen.vessels known in
        let within = begun_within ticks seen numbers known.pair known.start is.begins in
        let count = steps_count numbers ticks known is in
        let was = trace_ranks ticks known.pair known.start in
        let now = trace_ranks (ticks ++ seen ∷ []) known.pair known.start in
        subst (λ (k : Known). IsKnown numbers (ticks ++ seen ∷ []) k) (sym f.is) (record {
          begins = begins_still ticks seen numbers known.pair known.start is.begins;
          steps = ap (λ (s : List (Option PairStep)). s ++ step ∷ []) is.steps ∙ sym (steps_then numbers ticks seen known.pair known.start within);
          rows = rows_then (terms_of numbers) now known.steps known.trace step f.answers
              (rows_same_ranks (terms_of numbers) was now known.steps known.trace (λ k lt. sym (ranks_still numbers ticks seen known.pair known.start k (omega arith))) is.rows)
              (row_same_ranks (terms_of numbers) was now (known.steps ++ step ∷ []) (length known.steps) f.answers
              (λ k le. sym (ranks_still numbers ticks seen known.pair known.start k (omega arith))) f.row);
        })

    pub known_on : (knowns after : List Known) → AreKnown numbers ticks knowns → AllZip (IsFollowed numbers ticks seen.vessels) knowns after → AreKnownOn numbers ticks seen after
    known_on knowns after are z =
        let same = pairs_followed numbers ticks seen.vessels knowns after z in
        record {
          each = λ known i. let (old, j, f) = zip_member (IsFollowed numbers ticks seen.vessels) knowns after known z i in followed_known old known (are.each old j) f;
          all = λ pair start begins. subst (λ (ps : List Pair). Contains ps pair) (sym same) (are.all pair start begins);
          before = λ pair i. began knowns are pair (subst (λ (ps : List Pair). Contains ps pair) same i);
          once = subst (λ (ps : List Pair). AllPairs ◌≢◌ ps) (sym same) are.once;
        }

    -- They follow the same steps where the next tick is among the ticks.
    follows_on : (traces : List FollowedTrace) (knowns : List Known) → ((known : Known) → Contains knowns known → IsKnown numbers (ticks ++ seen ∷ []) known)
        → AllZip (Follows numbers ticks) traces knowns → AllZip (Follows numbers (ticks ++ seen ∷ [])) traces knowns
    follows_on [] [] each z = tt
    follows_on [] (k ∷ ks) each z = absurd z
    follows_on (t ∷ ts) [] each z = absurd z
    follows_on (t ∷ ts) (k ∷ ks) each z = (one, follows_on ts ks (λ known i. each known (in_tail k ks known i)) z.1)
      where
        one : Follows numbers (ticks ++ seen ∷ []) t k
        one =
            let count = length-append ticks (seen ∷ []) in
            let steps = steps_count numbers (ticks ++ seen ∷ []) k (each k (in_head k ks)) in
            record {
              pair = z.0.pair;
              start = z.0.start;
              follows = follows_same_ranks (terms_of numbers) (trace_ranks ticks k.pair k.start) (trace_ranks (ticks ++ seen ∷ []) k.pair k.start) k.steps t.follower
                  (λ i lt. sym (ranks_still numbers ticks seen k.pair k.start i (omega arith))) z.0.follows;
            }

    pub holds_on : (kept : AllTraces) (knowns : List Known) → AreKnownOn numbers ticks seen knowns → Holds kept numbers ticks knowns
        → Holds kept numbers (ticks ++ seen ∷ []) knowns
    holds_on kept knowns on h = record {
      detect = h.detect;
      act = h.act;
      tick = h.tick;
      traces = follows_on kept.traces.items knowns on.each h.traces;
      pairs = h.pairs;
    }

    have_both : (knowns : List Known) → AreKnownOn numbers ticks seen knowns → HaveBoth knowns
    have_both knowns on pair i = let (start, begins) = on.before pair i in on.all (swapped pair) start (begins_back numbers ticks pair start begins)

    -- ---- traces begin

    pub may_begin : (kept : AllTraces) (knowns : List Known) → AreKnownOn numbers ticks seen knowns → IsNextTick kept numbers ticks → MayBegin kept numbers knowns
    may_begin kept knowns on next = record { chosen = next.chosen; once = on.once; both = have_both knowns on }

    module _ (knowns : List Known) (on : AreKnownOn numbers ticks seen knowns) where
      known_still : numbers.last_tick ≤ length ticks → AreKnown numbers (ticks ++ seen ∷ []) knowns
      known_still over = record {
        each = on.each;
        all = λ pair start begins. elim (begins_until ticks seen numbers pair start begins) [
          | inl before ↦ on.all pair start (began_before ticks seen numbers pair start before begins)
          | inr at ↦ (let early = begins.begins.before_end in absurd (omega arith))
        ];
        once = on.once;
      }

      pub none_begin : (kept : AllTraces) → Holds kept numbers (ticks ++ seen ∷ []) knowns → numbers.last_tick ≤ length ticks → HaveBegunNow kept numbers (ticks ++ seen ∷ []) (length ticks) knowns
      none_begin kept holds over = record {
        new = [];
        opened = tt;
        holds = subst (λ (ks : List Known). Holds kept numbers (ticks ++ seen ∷ []) ks) (sym (append-nil knowns)) holds;
        are_known = subst (λ (ks : List Known). AreKnown numbers (ticks ++ seen ∷ []) ks) (sym (append-nil knowns)) (known_still over);
      }

      module _ (more : length ticks < numbers.last_tick) where
        fresh_begins : (pair : Pair) → IsFresh numbers seen.vessels (pairs_of knowns) pair → Begins numbers (ticks ++ seen ∷ []) pair (length ticks)
        fresh_begins pair fresh = begins_now ticks seen numbers pair fresh.audited more (λ start begins. fresh.new (on.all pair start begins)) fresh.contact

        opened_known : (known : Known) → IsFresh numbers seen.vessels (pairs_of knowns) known.pair → known ≡ opened known.pair (length ticks) → IsKnown numbers (ticks ++ seen ∷ []) known
        opened_known known fresh e = subst (λ (k : Known). IsKnown numbers (ticks ++ seen ∷ []) k) (sym e) (record {
          begins = fresh_begins known.pair fresh;
          steps = sym (no_steps numbers ticks seen known.pair 0);
          rows = record { count = omega arith; each = λ i lt. absurd (omega arith) };
        })

        known_among : (full new : List Known) → full ≡ knowns ++ new → AreOpened (length ticks) new → ((known : Known) → Contains new known → IsFresh numbers seen.vessels (pairs_of knowns) known.pair)
            → (known : Known) → Contains full known → IsKnown numbers (ticks ++ seen ∷ []) known
        known_among full new whole all fresh known i =
            elim (Contains-append_cases knowns new known (subst (λ (ks : List Known). Contains ks known) whole i)) [
              | inl old ↦ on.each known old
              | inr now ↦ opened_known known (fresh known now) (opened_is (length ticks) new known all now)
            ]

        known_begun : (kept : AllTraces) (b : AreBegun kept numbers (ticks ++ seen ∷ []) seen.vessels (length ticks) knowns) → AreKnown numbers (ticks ++ seen ∷ []) b.after
        known_begun kept b = record {
          each = known_among b.after b.grew.new b.grew.whole b.grew.opened b.grew.fresh;
          all = λ pair start begins. elim (begins_until ticks seen numbers pair start begins) [
            | inl before ↦ pairs_still knowns b.grew.new b.after b.grew.whole pair (on.all pair start (began_before ticks seen numbers pair start before begins))
            | inr at ↦ b.all pair begins.audited (contact_is_now ticks seen numbers.detect.watch pair.subject pair.other
                (subst (λ (n : ℕ). AreInContact numbers.detect.watch (seen_state_at (ticks ++ seen ∷ []) pair.subject n) (seen_state_at (ticks ++ seen ∷ []) pair.other n)) at begins.begins.contact))
          ];
          once = b.once;
        }

        pub begun_now : (kept : AllTraces) → AreBegun kept numbers (ticks ++ seen ∷ []) seen.vessels (length ticks) knowns → HaveBegunNow kept numbers (ticks ++ seen ∷ []) (length ticks) knowns
        begun_now kept b = record {
          new = b.grew.new;
          opened = b.grew.opened;
          holds = subst (λ (ks : List Known). Holds kept numbers (ticks ++ seen ∷ []) ks) b.grew.whole b.holds;
          are_known = subst (λ (ks : List Known). AreKnown numbers (ticks ++ seen ∷ []) ks) b.grew.whole (known_begun kept b);
        }

        -- ---- the limit

        full_begins : (full : List Known) → ((known : Known) → Contains full known → IsKnown numbers (ticks ++ seen ∷ []) known)
            → (pair : Pair) → Contains (pairs_of full) pair → (start : ℕ) × Begins numbers (ticks ++ seen ∷ []) pair start
        full_begins full each pair i =
            let (known, j, e) = from_map (λ (k : Known). k.pair) full pair i in
            (known.start, subst (λ (p : Pair). Begins numbers (ticks ++ seen ∷ []) p known.start) e (each known j).begins)

        pub have_more : AreTooMany numbers seen.vessels (pairs_of knowns) (length ticks) knowns → HaveMoreThan MOST_TRACES numbers (ticks ++ seen ∷ [])
        have_more t =
            let count = length-map t.full (λ (k : Known). k.pair) in
            let many = t.many in
            record {
              pairs = t.further ∷ pairs_of t.full;
              many = omega arith;
              once = different_cons t.further (pairs_of t.full) t.new t.once;
              begin = all_members (λ pair. (start : ℕ) × Begins numbers (ticks ++ seen ∷ []) pair start) (t.further ∷ pairs_of t.full) (λ pair i. elim (in_cons t.further (pairs_of t.full) pair i) [
                | inl same ↦ (length ticks, subst (λ (p : Pair). Begins numbers (ticks ++ seen ∷ []) p (length ticks)) same (fresh_begins t.further t.fresh))
                | inr later ↦ full_begins t.full (known_among t.full t.grew.new t.grew.whole t.grew.opened t.grew.fresh) pair later
              ]);
            }

  pub no_more : (knowns : List Known) → AreKnown numbers ticks knowns → length knowns ≤ MOST_TRACES → HaveMoreThan MOST_TRACES numbers ticks → ⊥
  no_more knowns are few m =
      let le = few_different m.pairs (pairs_of knowns) m.once
      (λ pair i. let (start, begins) = All-contains (λ (p : Pair). (s : ℕ) × Begins numbers ticks p s) m.pairs pair m.begin i in are.all pair start begins) in
      let count = length-map knowns (λ (k : Known). k.pair) in
      let many = m.many in
      omega arith

pub next_tick : (numbers : AuditNumbers) (ticks : List Sighting) (kept : AllTraces) (knowns : List Known) → StandsFor kept numbers ticks knowns → IsNextTick kept numbers ticks
next_tick numbers ticks kept knowns s = record { count = s.count; chosen = sym s.subjects; last = sym s.last_tick }

pub known_count_of : (kept : AllTraces) (numbers : AuditNumbers) (ticks : List Sighting) (knowns : List Known) → Holds kept numbers ticks knowns
    → length kept.traces.items ≡ length knowns
known_count_of kept numbers ticks knowns h = zip_length (Follows numbers ticks) kept.traces.items knowns h.traces

-- What is known of the traces is known of each of them.
pub known_count : (kept : AllTraces) (numbers : AuditNumbers) (ticks : List Sighting) (knowns : List Known) → StandsFor kept numbers ticks knowns → traces_of kept ≡ length knowns
known_count kept numbers ticks knowns s = known_count_of kept numbers ticks knowns s.holds

-- Of different pairs none stands before itself.
pub different_pairs : (front : List Known) (known : Known) (back : List Known) → AllPairs ◌≢◌ (pairs_of (front ++ known ∷ back)) → Contains (pairs_of front) known.pair → ⊥
different_pairs front known back once i =
    different_before (pairs_of front) known.pair (pairs_of back)
    (subst (λ (ps : List Pair). AllPairs ◌≢◌ ps) (map-append (λ (k : Known). k.pair) front (known ∷ back)) once) i
