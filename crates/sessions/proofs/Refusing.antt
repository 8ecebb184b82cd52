-- Refusals, and the places where they stand.
use Rattle.std.proofs.Common.{ℕ, zero, suc, ◌≡◌, ◌+◌, ◌-◌, ◌<◌, ◌≤◌, inl, inr, Bool, true, false, ◌||◌, IsTrue, List, [], ◌∷◌, ◌++◌, length, take, drop, nat_lt, Option, Some, None, Err, refl, sym, ap, subst, ◌∙◌, arith, length-append}
use Rattle.std.proofs.lemmas.Bool.{cases_lt}
use Rattle.std.proofs.lemmas.List.{length-take, length-take-le, take-append-drop, take-append-le, take-take, take_all}
use Rattle.std.proofs.lemmas.List.Elements.{All-take}
use Rattle.std.proofs.Math.Seq.{take-append-add}
use Rattle.std.specs.List.{All, list_any}
use Rattle.log_lines.specs.GrowingLog.{ended_lines}
use Rattle.log_lines.specs.EachLine.{each_after}
use Rattle.log_lines.specs.JudgedLines.{greatest_held, held_behind, is_crowded, numbers_of}
use Rattle.log_lines.specs.LogLines.{is_line_feed}
use Rattle.refutation_check.specs.CheckedRows.{IsFirstBadRow, why_rows}
use Rattle.scenario_values.specs.declared.values.Scenario.{Scenario}
use Rattle.settling.specs.ManySettled.{HaveManySettled}
use Rattle.sessions.specs.Inner.Pieces.{IsPiece}
use Rattle.tasks.specs.declared.mode.Mode.{Mode}
use Rattle.plan_situations.specs.PlanSituations.{greatest_targets, targets_near}
use Rattle.plan_situations.specs.declared.readiness.Unready.{Unready}
use Rattle.sessions.specs.Endings.{Came, First, HasBadEntry, MeetsTargetLimit, IsAnswerOf, OfOwn, Unless, lack_by, unready_of}
use Rattle.tasks.specs.Modes.{Focus, OfOwnShip, OfTicks, WhereChecked, each_line, each_tick, early_by, focus_of, needs_of, needs_rows, nothing, own_ship}
use Rattle.sessions.specs.PlanReport.{log_messages, situation_on}
use Rattle.sessions.specs.Inner.Lines.{IsCause}
use Rattle.sessions.specs.Refusals.{HasManySettled, IsMet, IsLogRefused, IsRefusedAt, IsStopped, IsUnrefused}
use Rattle.sessions.specs.SettledText.{IsDecidedBy, IsDecidedText, IsSettledText}
use Rattle.sessions.specs.Tasks.{Task}
use Rattle.sessions.specs.declared.session_fault.SessionFault.{SessionFault}
use Rattle.sessions.specs.declared.session_fault.SessionFault.TheVariants as fault
use Rattle.sessions.proofs.Meeting.{behind_own, entry_fault, first_once, one_answer_to}
use Rattle.sessions.proofs.Working.{nothing_refused}

-- ---- what a front has, longer ones have

any_after : {A B : Type 0} (p : B → Bool) (f : List A → A → B) (before xs ys : List A) → list_any p (each_after f before xs) ≡ true
    → list_any p (each_after f before (xs ++ ys)) ≡ true
unfolding each_after
any_after p f before [] ys any = cc any
any_after p f before (x ∷ xs) ys any =
    elim (p (f before x)) as (λ (b : Bool). (b || list_any p (each_after f (before ++ x ∷ []) xs)) ≡ true → (b || list_any p (each_after f (before ++ x ∷ []) (xs ++ ys))) ≡ true) [
      | true ↦ λ is. refl
      | false ↦ λ is. any_after p f (before ++ x ∷ []) xs ys is
    ] any

crowded_on : (scenario : Scenario) (lines more : List (List ℕ)) → is_crowded scenario lines ≡ true → is_crowded scenario (lines ++ more) ≡ true
unfolding is_crowded
crowded_on scenario lines more crowded = any_after (λ held. nat_lt greatest_held held) (held_behind scenario) [] lines more crowded

calm_before : (scenario : Scenario) (lines more : List (List ℕ)) → is_crowded scenario (lines ++ more) ≡ false → is_crowded scenario lines ≡ false
calm_before scenario lines more calm =
    elim (is_crowded scenario lines) as (λ (b : Bool). is_crowded scenario lines ≡ b → is_crowded scenario lines ≡ false) [
      | true ↦ λ is. (let on = crowded_on scenario lines more is in cc (on, calm))
      | false ↦ λ is. is
    ] refl

abbrev pub EndedStay : Type 0
EndedStay = (log more : List ℕ) → (lines : List (List ℕ)) × (ended_lines (log ++ more) ≡ ended_lines log ++ lines)

abbrev pub ManyStay : Type 0
ManyStay = (scenario : Scenario) (lines more : List (List ℕ)) → HaveManySettled scenario lines → HaveManySettled scenario (lines ++ more)

abbrev pub PartsGoOn : Type 0
PartsGoOn = (log part : List ℕ) → All (λ byte. is_line_feed byte ≡ false) part → ended_lines (log ++ part) ≡ ended_lines log

many_on : ManyStay → (focus : Focus) (scenario : Scenario) (lines more : List (List ℕ)) → OfTicks focus (HaveManySettled scenario lines) → OfTicks focus (HaveManySettled scenario (lines ++ more))
many_on stay each_line scenario lines more many = many
many_on stay (each_tick told) scenario lines more many = stay scenario lines more many
many_on stay own_ship scenario lines more many = many
many_on stay nothing scenario lines more many = many

-- ---- what is not refused

pub not_both : (m : Mode) (scenario : Scenario) (front : List ℕ) (came : Came) → IsUnrefused m scenario front → IsLogRefused m scenario front came → ⊥
not_both m scenario front came un (inl (long, is)) = absurd (let short = un.short in omega arith)
not_both m scenario front came un (inr (short, inl (crowded, is))) = let calm = un.calm in cc (crowded, calm)
not_both m scenario front came un (inr (short, inr (calm, inl (many, is)))) = un.few many
not_both m scenario front came un (inr (short, inr (calm, inr (few, none)))) = none

module _ (m : Mode) (scenario : Scenario) (front : List ℕ) where
  -- what comes behind each test

  abbrev behind_vessels : Came → Type 0
  behind_vessels = First (HasManySettled m scenario (ended_lines front)) (Err fault.Pairs) (λ (came : Came). ⊥)

  abbrev behind_bytes : Came → Type 0
  behind_bytes = First (IsTrue (is_crowded scenario (ended_lines front))) (Err fault.Vessels) behind_vessels

  one_refusal : (a b : Came) → IsLogRefused m scenario front a → IsLogRefused m scenario front b → a ≡ b
  one_refusal a b =
      first_once (scenario.log.max_bytes < length front) (Err fault.LogBytes) behind_bytes a b
      (λ c d. first_once (IsTrue (is_crowded scenario (ended_lines front))) (Err fault.Vessels) behind_vessels c d
      (λ e f. first_once (HasManySettled m scenario (ended_lines front)) (Err fault.Pairs) (λ (came : Came). ⊥) e f (λ g h none none'. absurd none)))

module _ (stay : EndedStay) (settle : ManyStay) (m : Mode) (scenario : Scenario) where
  front_unrefused : (front more : List ℕ) → IsUnrefused m scenario (front ++ more) → IsUnrefused m scenario front
  front_unrefused front more un =
      let lines = stay front more in
      let long = length-append front more in
      record {
        short = (let short = un.short in omega (arith, long));
        calm = calm_before scenario (ended_lines front) lines.0 (ap (is_crowded scenario) (sym lines.1) ∙ un.calm);
        few = λ many. un.few (subst (HasManySettled m scenario) (sym lines.1) (many_on settle (focus_of m) scenario (ended_lines front) lines.0 many));
      }

  pub first_unrefused : (log : List ℕ) (place : ℕ) → IsUnrefused m scenario log → IsUnrefused m scenario (take place log)
  first_unrefused log place un = front_unrefused (take place log) (drop place log) (subst (IsUnrefused m scenario) (sym (take-append-drop place log)) un)

  -- ---- there is one refusal

  earlier : (log : List ℕ) (p q : ℕ) (a b : Came) → IsRefusedAt m scenario log p a → IsRefusedAt m scenario log q b → p < q → ⊥
  earlier log p q a b at at' lt = not_both m scenario (take p log) a (at'.before p lt) at.here

  one_place : (log : List ℕ) (p q : ℕ) (a b : Came) → IsRefusedAt m scenario log p a → IsRefusedAt m scenario log q b → a ≡ b
  one_place log p q a b at at' = elim (cases_lt p q) [
    | inl lt ↦ absurd (earlier log p q a b at at' lt)
    | inr ge ↦ elim (cases_lt q p) [
      | inl lt ↦ absurd (earlier log q p b a at' at lt)
      | inr le ↦ (let same : q ≡ p = omega arith in
          one_refusal m scenario (take p log) a b at.here (subst (λ (n : ℕ). IsLogRefused m scenario (take n log) b) same at'.here))
    ]
  ]

  never : (log : List ℕ) (p : ℕ) (a : Came) → IsRefusedAt m scenario log p a → IsUnrefused m scenario log → ⊥
  never log p a at un = not_both m scenario (take p log) a (first_unrefused log p un) at.here

  pub one_met_in : (why : Bool) (rows log : List ℕ) (a b : Came) → IsMet (record { mode = m; why = why; rows = rows }) scenario log a
      → IsMet (record { mode = m; why = why; rows = rows }) scenario log b → a ≡ b
  one_met_in why rows log a b (inl at) (inl at') = one_place log at.0 at'.0 a b at.1 at'.1
  one_met_in why rows log a b (inl at) (inr end) = absurd (never log at.0 a at.1 end.0)
  one_met_in why rows log a b (inr end) (inl at) = absurd (never log at.0 b at.1 end.0)
  one_met_in why rows log a b (inr end) (inr end') = one_answer_to m rows scenario log a b end.1 end'.1

  -- ---- a piece without a line feed but at its end

  module _ (parts : PartsGoOn) (fed piece : List ℕ) (is : IsPiece piece) where
    no_feed : (k : ℕ) → k < length piece → All (λ byte. is_line_feed byte ≡ false) (take k piece)
    no_feed k lt =
        let inner : take k (take (length piece - 1) piece) ≡ take k piece = take-take k (length piece - 1) piece (omega arith) in
        subst (All (λ (byte : ℕ). is_line_feed byte ≡ false)) inner (All-take (λ (byte : ℕ). is_line_feed byte ≡ false) k (take (length piece - 1) piece) is)

    within_piece : (k : ℕ) → take (length fed + k) (fed ++ piece) ≡ fed ++ take k piece
    within_piece k = take-append-add fed piece k

    -- What is ended within a piece is what was ended before.
    pub ended_within : (place : ℕ) → length fed ≤ place → place < length (fed ++ piece) → ended_lines (take place (fed ++ piece)) ≡ ended_lines fed
    ended_within place from lt =
        let k : ℕ = place - length fed in
        let at : place ≡ length fed + k = omega arith in
        let long = length-append fed piece in
        ap (λ (n : ℕ). ended_lines (take n (fed ++ piece))) at ∙ ap ended_lines (within_piece k) ∙ parts fed (take k piece) (no_feed k (omega (arith, long)))

    pub unrefused_within : IsUnrefused m scenario fed → (place : ℕ) → place < length (fed ++ piece) → place ≤ scenario.log.max_bytes
        → IsUnrefused m scenario (take place (fed ++ piece))
    unrefused_within un place lt short = elim (cases_lt place (length fed)) [
      | inl before ↦ subst (IsUnrefused m scenario) (sym (take-append-le place fed piece (omega arith))) (first_unrefused fed place un)
      | inr behind ↦ (let same = ended_within place behind lt in
          let taken = length-take place (fed ++ piece) in
          record {
            short = omega (arith, taken);
            calm = ap (is_crowded scenario) same ∙ un.calm;
            few = λ many. un.few (subst (HasManySettled m scenario) same many);
          })
    ]

    settled_within : (place : ℕ) (text : List ℕ) → length fed ≤ place → place < length (fed ++ piece) → IsSettledText m scenario fed text
        → IsSettledText m scenario (take place (fed ++ piece)) text
    settled_within place text from lt settled = subst (λ (lines : List (List ℕ)). IsDecidedText m scenario lines text) (sym (ended_within place from lt)) settled

    -- ---- why a piece is refused

    module _ (some : 0 < length piece) (un : IsUnrefused m scenario fed) (text : List ℕ) (settled : IsSettledText m scenario fed text) where
      at_end : (why : SessionFault) → length (fed ++ piece) ≤ scenario.log.max_bytes → IsLogRefused m scenario (fed ++ piece) (Err why) → IsStopped m scenario (fed ++ piece) why text
      at_end why short is =
          let all : take (length (fed ++ piece)) (fed ++ piece) ≡ fed ++ piece = take_all (length (fed ++ piece)) (fed ++ piece) (omega arith) in
          let long = length-append fed piece in
          record {
            place = length (fed ++ piece);
            refused = record {
              within = omega arith;
              before = λ shorter lt. unrefused_within un shorter lt (omega arith);
              here = subst (λ (l : List ℕ). IsLogRefused m scenario l (Err why)) (sym all) is;
            };
            settled = settled_within (length (fed ++ piece) - 1) text (omega (arith, long)) (omega (arith, long)) settled;
          }

      pub stopped_by : (why : SessionFault) → length (fed ++ piece) ≤ scenario.log.max_bytes → IsCause why m scenario (ended_lines (fed ++ piece)) → IsStopped m scenario (fed ++ piece) why text
      stopped_by fault.Vessels short crowded = at_end fault.Vessels short (inr ((λ long. absurd (omega arith)), inl (crowded, refl)))
      stopped_by fault.Pairs short (calm, many) = at_end fault.Pairs short (inr ((λ long. absurd (omega arith)), inr ((λ crowded. cc (crowded, calm)), inl (many, refl))))
      stopped_by fault.LogBytes short none = absurd none
      stopped_by (fault.Own lack) short none = absurd none
      stopped_by fault.Targets short none = absurd none
      stopped_by (fault.Entry k) short none = absurd none
      stopped_by fault.Memory short none = absurd none

  -- ---- more bytes than the log may have

  pub stopped_bytes : (log text : List ℕ) → IsUnrefused m scenario (take scenario.log.max_bytes log) → IsSettledText m scenario (take scenario.log.max_bytes log) text
      → scenario.log.max_bytes < length log → IsStopped m scenario log fault.LogBytes text
  stopped_bytes log text un settled long =
      let most = scenario.log.max_bytes in
      let taken = length-take-le (most + 1) log (omega arith) in
      let last : (most + 1) - 1 ≡ most = omega arith in
      record {
        place = most + 1;
        refused = record {
          within = omega arith;
          before = λ shorter lt. subst (IsUnrefused m scenario) (take-take shorter most log (omega arith)) (first_unrefused (take most log) shorter un);
          here = inl (omega (arith, taken), refl);
        };
        settled = subst (λ (n : ℕ). IsSettledText m scenario (take n log) text) (sym last) settled;
      }

pub one_met : EndedStay → ManyStay → (task : Task) (scenario : Scenario) (log : List ℕ) (a b : Came) → IsMet task scenario log a → IsMet task scenario log b → a ≡ b
one_met stay settle task scenario = one_met_in stay settle task.mode scenario task.why task.rows

-- ---- more of the log

same_takes : (log more : List ℕ) (p place : ℕ) → p ≤ place → place ≤ length log → take p (log ++ more) ≡ take p log
same_takes log more p place le within = take-append-le p log more (omega arith)

pub stopped_on : (m : Mode) (scenario : Scenario) (log more : List ℕ) (why : SessionFault) (text : List ℕ) → IsStopped m scenario log why text
    → IsStopped m scenario (log ++ more) why text
stopped_on m scenario log more why text is =
    let at = is.refused in
    let within = at.within in
    let long = length-append log more in
    record {
      place = is.place;
      refused = record {
        within = omega (arith, long);
        before = λ shorter lt. subst (IsUnrefused m scenario) (sym (same_takes log more shorter is.place (omega arith) within)) (at.before shorter lt);
        here = subst (λ (l : List ℕ). IsLogRefused m scenario l (Err why)) (sym (same_takes log more is.place is.place (omega arith) within)) at.here;
      };
      settled = subst (λ (l : List ℕ). IsSettledText m scenario l text) (sym (same_takes log more (is.place - 1) is.place (omega arith) within)) is.settled;
    }

-- Before the place of a refusal no other is met.
pub before_refused : (m : Mode) (scenario : Scenario) (log : List ℕ) (why : SessionFault) (text : List ℕ)
    → (is : IsStopped m scenario log why text) → IsUnrefused m scenario (take (is.place - 1) log)
before_refused m scenario log why text is = at is.place is.refused.before
  where
    at : (place : ℕ) → ((shorter : ℕ) → shorter < place → IsUnrefused m scenario (take shorter log)) → IsUnrefused m scenario (take (place - 1) log)
    at zero before = nothing_refused m scenario
    at (suc count) before = before (suc count - 1) (omega arith)

-- ---- which refusals come when

pub stopped_long : (m : Mode) (scenario : Scenario) (log text : List ℕ) → IsStopped m scenario log fault.LogBytes text → scenario.log.max_bytes < length log
stopped_long m scenario log text is = at is.refused.here
  where
    at : IsLogRefused m scenario (take is.place log) (Err fault.LogBytes) → scenario.log.max_bytes < length log
    at (inl (long, same)) = let taken = length-take is.place log in omega (arith, long, taken)
    at (inr (short, inl (crowded, same))) = cc same
    at (inr (short, inr (calm, inl (many, same)))) = cc same
    at (inr (short, inr (calm, inr (few, none)))) = absurd none

own_not_refused : (m : Mode) (scenario : Scenario) (front : List ℕ) (lack : Unready) → IsLogRefused m scenario front (Err (fault.Own lack)) → ⊥
own_not_refused m scenario front lack (inl (long, same)) = cc same
own_not_refused m scenario front lack (inr (short, inl (crowded, same))) = cc same
own_not_refused m scenario front lack (inr (short, inr (calm, inl (many, same)))) = cc same
own_not_refused m scenario front lack (inr (short, inr (calm, inr (few, none)))) = none

pub own_not_stopped : (m : Mode) (scenario : Scenario) (log : List ℕ) (lack : Unready) (text : List ℕ) → IsStopped m scenario log (fault.Own lack) text → ⊥
own_not_stopped m scenario log lack text is = own_not_refused m scenario (take is.place log) lack is.refused.here

targets_not_refused : (m : Mode) (scenario : Scenario) (front : List ℕ) → IsLogRefused m scenario front (Err fault.Targets) → ⊥
targets_not_refused m scenario front (inl (long, same)) = cc same
targets_not_refused m scenario front (inr (short, inl (crowded, same))) = cc same
targets_not_refused m scenario front (inr (short, inr (calm, inl (many, same)))) = cc same
targets_not_refused m scenario front (inr (short, inr (calm, inr (few, none)))) = none

pub targets_not_stopped : (m : Mode) (scenario : Scenario) (log text : List ℕ) → IsStopped m scenario log fault.Targets text → ⊥
targets_not_stopped m scenario log text is = targets_not_refused m scenario (take is.place log) is.refused.here

entry_not_refused : (m : Mode) (scenario : Scenario) (front : List ℕ) (k : ℕ) → IsLogRefused m scenario front (Err (fault.Entry k)) → ⊥
entry_not_refused m scenario front k (inl (long, same)) = cc same
entry_not_refused m scenario front k (inr (short, inl (crowded, same))) = cc same
entry_not_refused m scenario front k (inr (short, inr (calm, inl (many, same)))) = cc same
entry_not_refused m scenario front k (inr (short, inr (calm, inr (few, none)))) = none

pub entry_not_stopped : (m : Mode) (scenario : Scenario) (log : List ℕ) (k : ℕ) (text : List ℕ) → IsStopped m scenario log (fault.Entry k) text → ⊥
entry_not_stopped m scenario log k text is = entry_not_refused m scenario (take is.place log) k is.refused.here

-- The limit of bytes is met before a log's end.
pub bytes_not_at_end : (m : Mode) (rows : List ℕ) (scenario : Scenario) (log : List ℕ) → IsAnswerOf m rows scenario log (Err fault.LogBytes) → ⊥
bytes_not_at_end m rows scenario log (inl (crowded, same)) = cc same
bytes_not_at_end m rows scenario log (inr (calm, inl (many, same))) = cc same
bytes_not_at_end m rows scenario log (inr (calm, inr (few, own))) = behind (unready_of m scenario log) own
  where
    behind : (lack : Option Unready) → Unless lack (behind_own m rows scenario log) (Err fault.LogBytes) → ⊥
    behind (Some why) same = cc same
    behind None (inl (many, same)) = cc same
    behind None (inr (few, inl (none, same))) = cc same
    behind None (inr (few, inr (some, inl (k, bad, same)))) = cc same
    behind None (inr (few, inr (some, inr (none, same)))) = cc same

-- ---- own ship alone is examined

own_needed : (m : Mode) (rows : List ℕ) (scenario : Scenario) (log : List ℕ) (lack : Unready) → unready_of m scenario log ≡ None
    → IsAnswerOf m rows scenario log (Err (fault.Own lack)) → ⊥
own_needed m rows scenario log lack none (inl (crowded, same)) = cc same
own_needed m rows scenario log lack none (inr (calm, inl (many, same))) = cc same
own_needed m rows scenario log lack none (inr (calm, inr (few, own))) =
    behind (subst (λ (o : Option Unready). Unless o (behind_own m rows scenario log) (Err (fault.Own lack))) none own)
  where
    behind : behind_own m rows scenario log (Err (fault.Own lack)) → ⊥
    behind (inl (many, same)) = cc same
    behind (inr (few, inl (none, same))) = cc same
    behind (inr (few, inr (some, inl (k, bad, same)))) = cc same
    behind (inr (few, inr (some, inr (none, same)))) = cc same

targets_needed : (m : Mode) (rows : List ℕ) (scenario : Scenario) (log : List ℕ) → ¬ MeetsTargetLimit m scenario log → IsAnswerOf m rows scenario log (Err fault.Targets) → ⊥
targets_needed m rows scenario log few (inl (crowded, same)) = cc same
targets_needed m rows scenario log few (inr (calm, inl (many, same))) = cc same
targets_needed m rows scenario log few (inr (calm, inr (traces, own))) = behind (unready_of m scenario log) own
  where
    behind : (lack : Option Unready) → Unless lack (behind_own m rows scenario log) (Err fault.Targets) → ⊥
    behind (Some why) same = cc same
    behind None (inl (many, same)) = few many
    behind None (inr (not, inl (none, same))) = cc same
    behind None (inr (not, inr (some, inl (k, bad, same)))) = cc same
    behind None (inr (not, inr (some, inr (none, same)))) = cc same

entry_needed : (m : Mode) (rows : List ℕ) (scenario : Scenario) (log : List ℕ) (k : ℕ) → ¬ HasBadEntry m rows scenario log k → IsAnswerOf m rows scenario log (Err (fault.Entry k)) → ⊥
entry_needed m rows scenario log k good (inl (crowded, same)) = cc same
entry_needed m rows scenario log k good (inr (calm, inl (many, same))) = cc same
entry_needed m rows scenario log k good (inr (calm, inr (traces, own))) = behind (unready_of m scenario log) own
  where
    told : (l : ℕ) → HasBadEntry m rows scenario log l → entry_fault k ≡ entry_fault l → ⊥
    told l bad same = let is : k ≡ l = cc same in good (subst (HasBadEntry m rows scenario log) (sym is) bad)

    behind : (lack : Option Unready) → Unless lack (behind_own m rows scenario log) (Err (fault.Entry k)) → ⊥
    behind (Some why) same = cc same
    behind None (inl (many, same)) = cc same
    behind None (inr (not, inl (none, same))) = cc same
    behind None (inr (not, inr (some, inl (l, bad, same)))) = told l bad same
    behind None (inr (not, inr (some, inr (none, same)))) = cc same

-- If own ship is examined, nothing is settled.
nothing_by : (focus : Focus) (early : Bool) (scenario : Scenario) (lines : List (List ℕ)) (log text : List ℕ) → IsDecidedBy (early_by focus early) scenario lines text
    → (lack_by focus scenario log ≡ None → ⊥) → text ≡ []
nothing_by each_line early scenario lines log text settled own = absurd (own refl)
nothing_by (each_tick told) early scenario lines log text settled own = absurd (own refl)
nothing_by own_ship early scenario lines log text settled own = settled
nothing_by nothing early scenario lines log text settled own = absurd (own refl)

nothing_towards : (focus : Focus) (early : Bool) (scenario : Scenario) (lines : List (List ℕ)) (text : List ℕ) (P : Type 0) → IsDecidedBy (early_by focus early) scenario lines text
    → ((OfOwnShip focus P → ⊥) → ⊥) → text ≡ []
nothing_towards each_line early scenario lines text P settled own = absurd (own (λ x. x))
nothing_towards (each_tick told) early scenario lines text P settled own = absurd (own (λ x. x))
nothing_towards own_ship early scenario lines text P settled own = settled
nothing_towards nothing early scenario lines text P settled own = absurd (own (λ x. x))

-- Where own ship cannot be planned for, nothing is settled.
pub nothing_with_own : (m : Mode) (rows : List ℕ) (scenario : Scenario) (log text : List ℕ) (lack : Unready) → IsSettledText m scenario log text
    → IsAnswerOf m rows scenario log (Err (fault.Own lack)) → text ≡ []
nothing_with_own m rows scenario log text lack settled answer =
    nothing_by (focus_of m) (needs_of m).early scenario (ended_lines log) log text settled (λ none. own_needed m rows scenario log lack none answer)

pub nothing_with_targets : (m : Mode) (rows : List ℕ) (scenario : Scenario) (log text : List ℕ) → IsSettledText m scenario log text
    → IsAnswerOf m rows scenario log (Err fault.Targets) → text ≡ []
nothing_with_targets m rows scenario log text settled answer =
    nothing_towards (focus_of m) (needs_of m).early scenario (ended_lines log) text
    (OfOwn scenario log (λ own ready. greatest_targets < length (targets_near (numbers_of scenario) (log_messages scenario log) scenario own ready))) settled
    (λ few. targets_needed m rows scenario log few answer)

pub nothing_with_entry : (m : Mode) (rows : List ℕ) (scenario : Scenario) (log text : List ℕ) (k : ℕ) → IsSettledText m scenario log text
    → IsAnswerOf m rows scenario log (Err (fault.Entry k)) → text ≡ []
nothing_with_entry m rows scenario log text k settled answer =
    nothing_towards (focus_of m) (needs_of m).early scenario (ended_lines log) text
    (WhereChecked (needs_rows m) (OfOwn scenario log (λ own ready. IsFirstBadRow (situation_on scenario log own ready) (why_rows rows) k))) settled
    (λ good. entry_needed m rows scenario log k good answer)
