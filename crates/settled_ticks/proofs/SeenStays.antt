-- What is seen at a settled tick is the same whatever lines follow.
use Rattle.std.proofs.Common.{◌≡◌, ℕ, ◌+◌, ◌<◌, ◌≤◌, Bool, true, false, nat_lt, nat_eq, List, [], ◌∷◌, ◌++◌, append_assoc, append-nil, if◌then◌else◌, refl, sym, ap, ap₂, ◌∙◌, arith}
use Rattle.std.specs.Prelude.{IfOk, IsSomeAnd, Option, None, Some, Result, Ok, Err}
use Rattle.std.specs.Prelude.{map}
use Rattle.std.specs.List.{cons_option, filter_map, last_or}
use Rattle.std.specs.Option.{option_map}
use Rattle.std.proofs.lemmas.Bool.Decides.{nat_tests}
use Rattle.aivdm.specs.FragmentJoining.{Taken, joined_of}
use Rattle.aivdm.specs.ReadingOf.{reading_of}
use Rattle.aivdm.specs.Sentences.{SentenceFields}
use Rattle.aivdm.specs.declared.joiner.Joined.{Joined}
use Rattle.aivdm.specs.declared.joiner.Joined.TheVariants as joined
use Rattle.aivdm.specs.declared.sentence.LineCause.{LineCause}
use Rattle.ais_messages.specs.MessageFields.{decoded_of}
use Rattle.ais_messages.specs.declared.message.Decoded.{Decoded}
use Rattle.ais_messages.specs.declared.message.Decoded.TheVariants as decoded
use Rattle.motion.specs.TickStates.{state_at}
use Rattle.motion.specs.declared.leg.TickState.{TickState}
use Rattle.ranks.specs.VesselRanks.{rank_at, rank_by_report}
use Rattle.scenario_values.specs.declared.values.Scenario.{Scenario}
use Rattle.scenario_values.specs.Ticks.{time_of_tick}
use Rattle.tracks.specs.AcceptedReports.{JudgingNumbers}
use Rattle.tracks.specs.JoinedReports.{legs_between}
use Rattle.tracks.specs.SeenVessels.{seen_of, seen_vessel}
use Rattle.tracks.specs.VesselsHeld.{Sent, held_of, is_held, legs_of, sender_of, with_number}
use Rattle.tracks.specs.declared.accepted.Accepted.{Accepted}
use Rattle.tracks.proofs.Ascending.{with_number-among}
use Rattle.tracks.proofs.Holding.{held_among, held_of-ascends, held_of-more, held_of-same, is_held-stays, no_points}
use Rattle.tracks.proofs.ForCallers.{past_reports_stay}
use Rattle.tracks.proofs.Settled.{past_stays}
use Rattle.log_lines.specs.JudgedLines.{numbers_of}
use Rattle.log_lines.specs.LineTimes.{clock_of, is_in_window, is_late, time_of}
use Rattle.log_lines.specs.SentLines.{heard, heard_in, heard_of, heard_unless, sent, sent_decoded, sent_heard, sent_joined, sent_of, untimely}
use Rattle.log_lines.specs.declared.outcome.LineOutcome.{LineOutcome}
use Rattle.log_lines.specs.declared.outcome.LineOutcome.TheVariants as outcome
use Rattle.log_lines.specs.Inner.JudgeState.{listed}
use Rattle.log_lines.proofs.ForCallers.{sent-push, types_stay}
use Rattle.settled_ticks.specs.Settled.{IsSettled}
use Rattle.settled_ticks.specs.Sightings.{seen_ranked, sighting_by, vessel_rank}
use Rattle.settled_ticks.proofs.EarlierTicks.{settled_ticks_stay}

-- ---- one message more

module _ {X : Type 0} (f g : ℕ → Option X) where
  same_kept : ((n : ℕ) → f n ≡ g n) → (ns : List ℕ) → filter_map f ns ≡ filter_map g ns
  same_kept same [] = refl
  same_kept same (n ∷ ns) = ap₂ cons_option (same n) (same_kept same ns)

  -- a number that stands for nothing
  nothing_more : (n : ℕ) (ns : List ℕ) → f n ≡ None → filter_map f (with_number n ns) ≡ filter_map f ns
  nothing_more n [] none = rw none refl
  nothing_more n (m ∷ ms) none =
      elim (nat_lt n m) as (λ b. filter_map f (if b then n ∷ m ∷ ms else (if nat_eq n m then m ∷ ms else m ∷ with_number n ms)) ≡ filter_map f (m ∷ ms)) [
        | true ↦ rw none refl
        | false ↦ elim (nat_eq n m) as (λ b. filter_map f (if b then m ∷ ms else m ∷ with_number n ms) ≡ filter_map f (m ∷ ms)) [
          | true ↦ refl
          | false ↦ ap (cons_option (f m)) (nothing_more n ms none)
        ]
      ]

module _ (numbers : JudgingNumbers) (messages : List Sent) (one : Sent) (t : ℕ) where
  not_there : (mmsi : ℕ) → is_held numbers messages mmsi ≡ false → state_at t (legs_of numbers messages mmsi) ≡ None
  unfolding legs_of state_at
  not_there mmsi h = ap (λ (points : List Accepted). state_at t (legs_between numbers.gap points)) (no_points numbers messages mmsi h)

  module _ (later : t + numbers.gap < one.time) where
    same_sighting : (mmsi : ℕ) → seen_vessel t (legs_of numbers (messages ++ one ∷ [])) mmsi ≡ seen_vessel t (legs_of numbers messages) mmsi
    same_sighting mmsi = ap (option_map (λ (state : TickState). (mmsi, state))) (past_stays numbers messages one mmsi t later)

    same_vessels : (after before : Bool) → is_held numbers (messages ++ one ∷ []) (sender_of one.message) ≡ after → is_held numbers messages (sender_of one.message) ≡ before
        → filter_map (seen_vessel t (legs_of numbers messages)) (held_of numbers (messages ++ one ∷ [])) ≡ filter_map (seen_vessel t (legs_of numbers messages)) (held_of numbers messages)
    same_vessels true true is was =
        ap (filter_map (seen_vessel t (legs_of numbers messages)))
        (held_of-more numbers messages one is
        ∙ with_number-among (sender_of one.message) (held_of numbers messages) (held_of-ascends numbers messages) (held_among numbers messages (sender_of one.message) was))
    same_vessels true false is was =
        let f = seen_vessel t (legs_of numbers messages) in
        let mmsi : ℕ = sender_of one.message in
        ap (filter_map f) (held_of-more numbers messages one is)
        ∙ nothing_more f f mmsi (held_of numbers messages) (ap (option_map (λ (state : TickState). (mmsi, state))) (not_there mmsi was))
    same_vessels false true is was =
        absurd (let stays = is_held-stays numbers messages one (sender_of one.message) refl was in cc)
    same_vessels false false is was = ap (filter_map (seen_vessel t (legs_of numbers messages))) (held_of-same numbers messages one was is)

    sees_the_same : seen_of numbers (messages ++ one ∷ []) t ≡ seen_of numbers messages t
    unfolding seen_of
    sees_the_same =
        same_kept (seen_vessel t (legs_of numbers (messages ++ one ∷ []))) (seen_vessel t (legs_of numbers messages)) same_sighting (held_of numbers (messages ++ one ∷ []))
        ∙ same_vessels (is_held numbers (messages ++ one ∷ []) (sender_of one.message)) (is_held numbers messages (sender_of one.message)) refl refl

-- ---- and their ranks

module _ (scenario : Scenario) (messages : List Sent) (one : Sent) where
  same_rank : (t : ℕ) (vessel : ℕ × TickState) → t < one.time → vessel_rank scenario (messages ++ one ∷ []) t vessel ≡ vessel_rank scenario messages t vessel
  unfolding vessel_rank rank_at
  same_rank t vessel later =
      let numbers = numbers_of scenario in
      let reports = past_reports_stay numbers messages one vessel.0 t later in
      let types = types_stay messages one vessel.0 t later in
      λ i. rank_by_report (last_or None (reports i)) (types i)

  same_sighting_by : (k : ℕ) → time_of_tick scenario.window k + scenario.log.gap < one.time
      → sighting_by scenario (messages ++ one ∷ []) k ≡ sighting_by scenario messages k
  unfolding sighting_by
  same_sighting_by k later =
      let t = time_of_tick scenario.window k in
      let numbers = numbers_of scenario in
      let vessels = seen_of numbers messages t in
      let rank : (vessel : ℕ × TickState) → vessel_rank scenario (messages ++ one ∷ []) t vessel ≡ vessel_rank scenario messages t vessel =
      λ vessel. same_rank t vessel (omega arith) in
      let ranked : seen_ranked scenario (messages ++ one ∷ []) t vessels ≡ seen_ranked scenario messages t vessels =
      λ i. record { vessels = vessels; ranks = if scenario.ranks then map (λ vessel. rank vessel i) vessels else [] } in
      ap (seen_ranked scenario (messages ++ one ∷ []) t) (sees_the_same numbers messages one t later) ∙ ranked

-- ---- no message is late

module _ (P : ℕ → Type 0) where
  decoded_at : (time : ℕ) (message : Decoded) → P time → IfOk (sent_decoded time message) (λ one. P one.time)
  decoded_at time (decoded.Message message) h = h
  decoded_at time (decoded.Dropped cause) h = tt

  joined_at : (time : ℕ) (whole : Joined) → P time → IfOk (sent_joined time whole) (λ one. P one.time)
  joined_at time (joined.Message bits) h = decoded_at time (decoded_of bits) h
  joined_at time joined.Waiting h = tt
  joined_at time joined.Orphan h = tt

  heard_at : (before : List Taken) (line : Result Taken LineOutcome) → IfOk line (λ taken. P taken.time) → IfOk (sent_heard before line) (λ one. P one.time)
  heard_at before (Ok taken) h = joined_at taken.time (joined_of before taken) h
  heard_at before (Err came) h = tt

  timely_at : (cause : Option LineOutcome) (time : ℕ) (sentence : SentenceFields) → (cause ≡ None → P time) → IfOk (heard_unless cause time sentence) (λ taken. P taken.time)
  timely_at None time sentence h = h refl
  timely_at (Some came) time sentence h = tt

not_late : (within late : Bool) → (if within then (if late then Some outcome.Late else None) else Some outcome.Outside) ≡ None → late ≡ false
not_late true true e = absurd (cc)
not_late true false e = refl
not_late false late e = absurd (cc)

heard_in_time : (scenario : Scenario) (clock : Option ℕ) (time : ℕ) (body : Result SentenceFields LineCause)
    → IfOk (heard_in scenario clock time body) (λ taken. is_late scenario.log.slack clock taken.time ≡ false)
heard_in_time scenario clock time (Ok sentence) =
    timely_at (λ time. is_late scenario.log.slack clock time ≡ false) (untimely scenario clock time) time sentence
    (λ e. not_late (is_in_window scenario time) (is_late scenario.log.slack clock time) e)
heard_in_time scenario clock time (Err cause) = tt

sent_in_time : (scenario : Scenario) (before : List (List ℕ)) (line : List ℕ)
    → IfOk (sent_of scenario before line) (λ one. is_late scenario.log.slack (clock_of scenario before) one.time ≡ false)
unfolding sent_of heard_of
sent_in_time scenario before line =
    heard_at (λ time. is_late scenario.log.slack (clock_of scenario before) time ≡ false) (heard scenario before) (heard_of scenario before line)
    (heard_in_time scenario (clock_of scenario before) (time_of scenario (before ++ line ∷ [])) (reading_of line).body)

-- What is not late comes behind a tick that is settled.
comes_behind : (clock : Option ℕ) (t gap slack time : ℕ) → IsSomeAnd clock (λ clock. t + gap + slack < clock) → is_late slack clock time ≡ false → t + gap < time
comes_behind None t gap slack time past late = absurd past
comes_behind (Some clock) t gap slack time past late = let in_time : clock ≤ time + slack = grind (arith, nat_tests) in omega arith

-- ---- the law

module _ (scenario : Scenario) (i : ℕ) where
  with_message : (messages : List Sent) (line : Result Sent LineOutcome) → IfOk line (λ one. time_of_tick scenario.window i + scenario.log.gap < one.time)
      → sighting_by scenario (messages ++ listed line) i ≡ sighting_by scenario messages i
  with_message messages (Ok one) later = same_sighting_by scenario messages one i later
  with_message messages (Err came) later = ap (λ (all : List Sent). sighting_by scenario all i) (append-nil messages)

  line_behind : (clock : Option ℕ) (line : Result Sent LineOutcome) → IsSomeAnd clock (λ clock. time_of_tick scenario.window i + scenario.log.gap + scenario.log.slack < clock)
      → IfOk line (λ one. is_late scenario.log.slack clock one.time ≡ false) → IfOk line (λ one. time_of_tick scenario.window i + scenario.log.gap < one.time)
  line_behind clock (Ok one) past late = comes_behind clock (time_of_tick scenario.window i) scenario.log.gap scenario.log.slack one.time past late
  line_behind clock (Err came) past late = tt

  line_more : (lines : List (List ℕ)) (line : List ℕ) → IsSettled scenario lines i
      → sighting_by scenario (sent scenario (lines ++ line ∷ [])) i ≡ sighting_by scenario (sent scenario lines) i
  line_more lines line h =
      ap (λ (messages : List Sent). sighting_by scenario messages i) (sent-push scenario lines line)
      ∙ with_message (sent scenario lines) (sent_of scenario lines line)
      (line_behind (clock_of scenario lines) (sent_of scenario lines line) h.past (sent_in_time scenario lines line))

  pub stays_seen : (lines more : List (List ℕ)) → IsSettled scenario lines i
      → sighting_by scenario (sent scenario (lines ++ more)) i ≡ sighting_by scenario (sent scenario lines) i
  stays_seen lines [] h = ap (λ (all : List (List ℕ)). sighting_by scenario (sent scenario all) i) (append-nil lines)
  stays_seen lines (line ∷ more) h =
      ap (λ (all : List (List ℕ)). sighting_by scenario (sent scenario all) i) (sym (append_assoc lines (line ∷ []) more))
      ∙ stays_seen (lines ++ line ∷ []) more (settled_ticks_stay scenario lines (line ∷ []) i h)
      ∙ line_more lines line h

pub what_is_settled_stays : (scenario : Scenario) (lines more : List (List ℕ)) (i : ℕ) → IsSettled scenario lines i
    → sighting_by scenario (sent scenario (lines ++ more)) i ≡ sighting_by scenario (sent scenario lines) i
what_is_settled_stays scenario lines more i h = stays_seen scenario i lines more h
