-- A drill has forty vessels, so its log meets no limit of vessels or traces.
use Rattle.std.proofs.Math.ListN.{get_or}
use Rattle.std.proofs.lemmas.List.{get_or-map, length-map}
use Rattle.std.proofs.Common.{ℕ, zero, suc, ap₂, ◌≡◌, ◌≢◌, ◌≤◌, ◌<◌, ◌+◌, ◌*◌, ◌==◌, Bool, true, false, List, [], ◌∷◌, ◌++◌, length, take, drop, map, Option, None, Some, Result, Ok, Err, refl, sym, ap, subst, ◌∙◌, arith}
use Rattle.std.specs.Prelude.{All, IfOk, fold, nat_lt}
use Rattle.std.specs.List.{AllPairs, filter_map, range_with_len}
use Rattle.std.proofs.lemmas.Bool.Decides.{nat_tests}
use Rattle.std.proofs.lemmas.List.Elements.{All-cons, All-filter, All-head, All-map, All-nil, All-push, All-tail, All-weaker}
use Rattle.std.proofs.lemmas.List.Folds.{list_any_none}
use Rattle.aivdm.specs.FragmentJoining.{Taken, joined_of}
use Rattle.log_lines.specs.EachLine.{each_after, each_line, ok_value}
use Rattle.log_lines.specs.JudgedLines.{greatest_held, held_behind, is_crowded, numbers_of}
use Rattle.log_lines.specs.LogLines.{lines_of}
use Rattle.log_lines.specs.SentLines.{heard, heard_of, heard_unless, sent, sent_heard, sent_of, untimely}
use Rattle.log_lines.specs.LineTimes.{clock_of, time_of}
use Rattle.log_lines.specs.declared.outcome.LineOutcome.{LineOutcome}
use Rattle.scenario_values.specs.declared.values.Scenario.{Scenario}
use Rattle.tracks.specs.AcceptedReports.{JudgingNumbers}
use Rattle.tracks.specs.VesselsHeld.{Sent, held_of, is_held, legs_of, sender_of, senders_of, with_number}
use Rattle.tracks.proofs.ForCallers.{held_in_order}
use Rattle.tracks.specs.SeenVessels.{seen_of, seen_vessel}
use Rattle.motion.specs.TickStates.{state_at as leg_state}
use Rattle.motion.specs.declared.leg.Leg.{Leg}
use Rattle.motion.specs.declared.leg.TickState.{TickState}
use Rattle.meetings.specs.Traces.{AreInContact}
use Rattle.meetings.specs.declared.pair.Pair.{Pair}
use Rattle.traces.specs.Audited.{Begins, AuditNumbers, SeenVessels, Sighting, seen_state_at, sighting_at, state_in}
use Rattle.traces.specs.ManyTraces.{HaveMoreThan}
use Rattle.settled_ticks.specs.Sightings.{seen_first, sighted, sighting_by}
use Rattle.settling.specs.ManySettled.{HaveManySettled}
use Rattle.settling.specs.ScenarioAudit.{audit_numbers}
use Rattle.std.proofs.lemmas.List.{take-append-drop}
use Rattle.log_lines.specs.GrowingLog.{ended_lines}
use Rattle.traces.specs.declared.all_traces.TheConstants.{MOST_TRACES}
use Rattle.drill_laws.specs.Limits.{MeetsNoLimit}
use Rattle.drill_laws.proofs.FewDifferent.{few_between}
use Rattle.drill_laws.proofs.FleetLines.{InFleet, IsFleetLine}

-- ---- the messages

abbrev OfFleet : Sent → Type 0
OfFleet one = InFleet (sender_of one.message)

heard_so : (line : List ℕ) (is : IsFleetLine line) (before : List Taken) (time : ℕ) (unheard : Option LineOutcome)
    → IfOk (sent_heard before (heard_unless unheard time is.fields)) OfFleet
unfolding joined_of
heard_so line is before time None = rw is.whole (rw is.says is.of_fleet)
heard_so line is before time (Some outcome) = tt

-- each line sends a message of the fleet, or none
line_sends : (scenario : Scenario) (before : List (List ℕ)) (line : List ℕ) → IsFleetLine line → IfOk (sent_of scenario before line) OfFleet
unfolding sent_of heard_of
line_sends scenario before line is =
    rw is.body (heard_so line is (heard scenario before) (time_of scenario (before ++ line ∷ [])) (untimely scenario (clock_of scenario before) (time_of scenario (before ++ line ∷ []))))

-- what holds of what is made of each line
all_after : {A B : Type 0} (f : List A → A → B) (P : A → Type 0) (Q : B → Type 0) → ((before : List A) (x : A) → All P before → P x → Q (f before x))
    → (before xs : List A) → All P before → All P xs → All Q (each_after f before xs)
unfolding each_after
all_after f P Q step before [] had all = All-nil Q
all_after f P Q step before (x ∷ xs) had all =
    let head = All-head P x xs all in
    All-cons Q (f before x) _ (step before x had head) (all_after f P Q step (before ++ x ∷ []) xs (All-push P before x had head) (All-tail P x xs all))

values_so : {A E : Type 0} (P : A → Type 0) (results : List (Result A E)) → All (λ r. IfOk r P) results → All P (filter_map ok_value results)
values_so P [] all = All-nil P
values_so {A} {E} P (Ok a ∷ more) all = All-cons P a _ (All-head (λ (r : Result A E). IfOk r P) (Ok a) more all) (values_so P more (All-tail (λ (r : Result A E). IfOk r P) (Ok a) more all))
values_so {A} {E} P (Err e ∷ more) all = values_so P more (All-tail (λ (r : Result A E). IfOk r P) (Err e) more all)

sent_so : (scenario : Scenario) (lines : List (List ℕ)) → All IsFleetLine lines → All OfFleet (sent scenario lines)
unfolding sent
sent_so scenario lines all =
    values_so OfFleet (each_line (sent_of scenario) lines)
    (all_after (sent_of scenario) IsFleetLine (λ r. IfOk r OfFleet) (λ before line _ is. line_sends scenario before line is) [] lines (All-nil IsFleetLine) all)

-- ---- the vessels held

with_so : (n : ℕ) (ms : List ℕ) → InFleet n → All InFleet ms → All InFleet (with_number n ms)
with_so n [] is all = All-cons InFleet n [] is (All-nil InFleet)
with_so n (m ∷ ms) is all = cases (nat_lt n m) (n == m) refl refl (with_so n ms is (All-tail InFleet m ms all))
  where
    cases : (below same : Bool) → nat_lt n m ≡ below → (n == m) ≡ same → All InFleet (with_number n ms) → All InFleet (with_number n (m ∷ ms))
    cases true same b s more = rw b (All-cons InFleet n (m ∷ ms) is all)
    cases false true b s more = rw b (rw s all)
    cases false false b s more = rw b (rw s (All-cons InFleet m (with_number n ms) (All-head InFleet m ms all) more))

senders_so : (had : List ℕ) (messages : List Sent) → All InFleet had → All OfFleet messages → All InFleet (fold (λ ms one. with_number (sender_of one.message) ms) had messages)
senders_so had [] all of = all
senders_so had (one ∷ more) all of =
    senders_so (with_number (sender_of one.message) had) more (with_so (sender_of one.message) had (All-head OfFleet one more of) all) (All-tail OfFleet one more of)

held_so : (numbers : JudgingNumbers) (messages : List Sent) → All OfFleet messages → All InFleet (held_of numbers messages)
unfolding held_of
held_so numbers messages of = All-filter (is_held numbers messages) InFleet (senders_of messages) (senders_so [] messages (All-nil InFleet) of)

few_held : (numbers : JudgingNumbers) (messages : List Sent) → All OfFleet messages → length (held_of numbers messages) ≤ 40
few_held numbers messages of =
    few_between 200000001 40 (held_of numbers messages)
    (λ i j d lt within same. (let below = held_in_order numbers messages i j d lt within in absurd (omega arith)))
    (held_so numbers messages of)

not_more : (n : ℕ) → n ≤ 40 → nat_lt greatest_held n ≡ false
not_more n le = grind (arith, nat_tests)

not_crowded : (scenario : Scenario) (lines : List (List ℕ)) → All IsFleetLine lines → is_crowded scenario lines ≡ false
unfolding is_crowded held_behind
not_crowded scenario lines all =
    list_any_none (λ held. nat_lt greatest_held held) (each_line (held_behind scenario) lines)
    (all_after (held_behind scenario) IsFleetLine (λ n. nat_lt greatest_held n ≡ false)
    (λ before line had is. not_more _ (few_held (numbers_of scenario) (sent scenario (before ++ line ∷ [])) (sent_so scenario (before ++ line ∷ []) (All-push IsFleetLine before line had is))))
    [] lines (All-nil IsFleetLine) all)

-- ---- the traces

abbrev AreOfFleet : SeenVessels → Type 0
AreOfFleet seen = All (λ (vessel : ℕ × TickState). InFleet vessel.0) seen

abbrev SightsFleet : Sighting → Type 0
SightsFleet sighting = AreOfFleet sighting.vessels

sightings_so : (time : ℕ) (legs : ℕ → List Leg) (held : List ℕ) → All InFleet held → AreOfFleet (filter_map (seen_vessel time legs) held)
sightings_so time legs [] all = All-nil (λ (vessel : ℕ × TickState). InFleet vessel.0)
sightings_so time legs (m ∷ ms) all = cases (leg_state time (legs m)) refl (sightings_so time legs ms (All-tail InFleet m ms all))
  where
    cases : (state : Option TickState) → leg_state time (legs m) ≡ state → AreOfFleet (filter_map (seen_vessel time legs) ms)
        → AreOfFleet (filter_map (seen_vessel time legs) (m ∷ ms))
    cases None is more = rw is more
    cases (Some state) is more = rw is (All-cons (λ (vessel : ℕ × TickState). InFleet vessel.0) (m, state) _ (All-head InFleet m ms all) more)

seen_so : (numbers : JudgingNumbers) (messages : List Sent) (time : ℕ) → All OfFleet messages → AreOfFleet (seen_of numbers messages time)
unfolding seen_of
seen_so numbers messages time of = sightings_so time (legs_of numbers messages) (held_of numbers messages) (held_so numbers messages of)

is_hers : (m n : ℕ) → (m == n) ≡ true → m ≡ n
is_hers m n h = grind (arith, nat_tests)

state_so : (mmsi : ℕ) (seen : SeenVessels) (state : TickState) → AreOfFleet seen → state_in mmsi seen ≡ Some state → InFleet mmsi
state_so mmsi [] state all is = cc is
state_so mmsi (vessel ∷ more) state all is =
    cases (vessel.0 == mmsi) refl (λ e. state_so mmsi more state (All-tail (λ (v : ℕ × TickState). InFleet v.0) vessel more all) e)
  where
    cases : (here : Bool) → (vessel.0 == mmsi) ≡ here → (state_in mmsi more ≡ Some state → InFleet mmsi) → InFleet mmsi
    cases true h later = subst InFleet (is_hers vessel.0 mmsi h) (All-head (λ (v : ℕ × TickState). InFleet v.0) vessel more all)
    cases false h later = later (rw h at is)

tick_so : (ticks : List Sighting) (k : ℕ) → All SightsFleet ticks → SightsFleet (sighting_at ticks k)
tick_so [] k all = All-nil (λ (vessel : ℕ × TickState). InFleet vessel.0)
tick_so (seen ∷ more) zero all = All-head SightsFleet seen more all
tick_so (seen ∷ more) (suc k) all = tick_so more k (All-tail SightsFleet seen more all)

both_seen : (watch : ℕ) (a b : Option TickState) → AreInContact watch a b → ((s : TickState) × (a ≡ Some s)) × ((s : TickState) × (b ≡ Some s))
both_seen watch (Some a) (Some b) contact = ((a, refl), (b, refl))
both_seen watch (Some a) None contact = absurd contact
both_seen watch None b contact = absurd contact

abbrev IsFleetPair : Pair → Type 0
IsFleetPair pair = InFleet pair.subject × InFleet pair.other

pair_so : (numbers : AuditNumbers) (ticks : List Sighting) → All SightsFleet ticks → (pair : Pair) (start : ℕ) → Begins numbers ticks pair start → IsFleetPair pair
pair_so numbers ticks all pair start begins =
    let seen = tick_so ticks start all in
    let (subject, other) = both_seen numbers.detect.watch (seen_state_at ticks pair.subject start) (seen_state_at ticks pair.other start) begins.begins.contact in
    (state_so pair.subject (sighting_at ticks start).vessels subject.0 seen subject.1, state_so pair.other (sighting_at ticks start).vessels other.0 seen other.1)

-- a number for each pair
abbrev code : Pair → ℕ
code pair = pair.subject * 40 + pair.other

one_code : (a b : Pair) → IsFleetPair a → IsFleetPair b → code a ≡ code b → a ≡ b
one_code a b of of' same =
    let subject : a.subject ≡ b.subject = omega (arith, of.1.0, of.1.1, of'.1.0, of'.1.1, same) in
    let other : a.other ≡ b.other = omega (arith, subject, same) in
    ap₂ (λ (s o : ℕ). record { subject = s; other = o }) subject other

few_pairs : (pairs : List Pair) → AllPairs ◌≢◌ pairs → All IsFleetPair pairs → length pairs ≤ 1600
few_pairs pairs once all =
    let none : Pair = record { subject = 0; other = 0 } in
    let count = length-map pairs code in
    let few = few_between 8200000041 1600 (map code pairs)
    (λ i j d lt within same. (
    let first : i < length pairs = omega arith in
    let second : j < length pairs = omega arith in
    let is : code (get_or pairs i none) ≡ code (get_or pairs j none) = sym (get_or-map code pairs i none d first) ∙ same ∙ get_or-map code pairs j none d second in
    once i j none lt second (one_code (get_or pairs i none) (get_or pairs j none) (all i none first) (all j none second) is)
    ))
    (All-map (λ n. (8200000041 ≤ n) × (n < 8200000041 + 1600)) code pairs (All-weaker IsFleetPair (λ p. (8200000041 ≤ code p) × (code p < 8200000041 + 1600)) coded pairs all)) in
    omega (arith, few, count)
  where
    coded : (p : Pair) → IsFleetPair p → (8200000041 ≤ code p) × (code p < 8200000041 + 1600)
    coded p of = (omega (arith, of.0.0, of.1.0), omega (arith, of.0.1, of.1.1))

few_traces : (numbers : AuditNumbers) (ticks : List Sighting) → All SightsFleet ticks → HaveMoreThan MOST_TRACES numbers ticks → ⊥
few_traces numbers ticks all many =
    let few = few_pairs many.pairs many.once
    (All-weaker (λ pair. (start : ℕ) × Begins numbers ticks pair start) IsFleetPair (λ pair begins. pair_so numbers ticks all pair begins.0 begins.1) many.pairs many.begin) in
    omega (arith, few, many.many)

-- ---- a log of the fleet

abbrev Stays : Type 0
Stays = (front more : List ℕ) → (lines : List (List ℕ)) × (lines_of (front ++ more) ≡ ended_lines front ++ lines)

module _ (scenario : Scenario) (log : List ℕ) (fleet : All IsFleetLine (lines_of log)) where
  few_in_all : HaveMoreThan MOST_TRACES (audit_numbers scenario) (sighted scenario (sent scenario (lines_of log))) → ⊥
  unfolding sighting_by
  few_in_all many =
      let messages = sent scenario (lines_of log) in
      let of = sent_so scenario (lines_of log) fleet in
      few_traces (audit_numbers scenario) (sighted scenario messages)
      (All-map SightsFleet (sighting_by scenario messages) (range_with_len 0 (scenario.window.ticks + 1)) (λ k d lt. seen_so (numbers_of scenario) messages _ of))
      many

  first_all : (P : List ℕ → Type 0) (xs ys : List (List ℕ)) → All P (xs ++ ys) → All P xs
  first_all P [] ys all = All-nil P
  first_all P (x ∷ xs) ys all = All-cons P x xs (All-head P x (xs ++ ys) all) (first_all P xs ys (All-tail P x (xs ++ ys) all))

  -- what is ended of a front are lines of the log
  front_so : Stays → (place : ℕ) → All IsFleetLine (ended_lines (take place log))
  front_so stays place =
      let lines = stays (take place log) (drop place log) in
      let whole = subst (All IsFleetLine) (ap lines_of (sym (take-append-drop place log)) ∙ lines.1) fleet in
      first_all IsFleetLine (ended_lines (take place log)) lines.0 whole

  few_in_front : Stays → (place : ℕ) → HaveManySettled scenario (ended_lines (take place log)) → ⊥
  unfolding sighting_by
  few_in_front stays place many =
      let messages = sent scenario (ended_lines (take place log)) in
      let of = sent_so scenario (ended_lines (take place log)) (front_so stays place) in
      few_traces (audit_numbers scenario) (seen_first scenario messages many.count)
      (All-map SightsFleet (sighting_by scenario messages) (range_with_len 0 many.count) (λ k d lt. seen_so (numbers_of scenario) messages _ of))
      many.many

  pub no_limit : Stays → MeetsNoLimit scenario log
  no_limit stays = record {
    calm = not_crowded scenario (lines_of log) fleet;
    few = few_in_all;
    front_calm = λ place. not_crowded scenario (ended_lines (take place log)) (front_so stays place);
    front_few = few_in_front stays;
  }
