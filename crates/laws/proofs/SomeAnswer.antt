-- A log comes to something: that it comes to nothing is refuted. Whether too many traces begin, or every plan fails, is not decided here.
use Rattle.std.proofs.Common.{ℕ, zero, suc, ◌≡◌, ◌+◌, ◌<◌, ◌≤◌, ◌⊎◌, inl, inr, Bool, true, false, IsTrue, List, length, take, Option, None, Some, Ok, Err, refl, sym, subst, arith}
use Rattle.std.proofs.lemmas.Bool.{cases_lt}
use Rattle.std.proofs.lemmas.List.{take_all}
use Rattle.log_lines.specs.GrowingLog.{ended_lines}
use Rattle.log_lines.specs.JudgedLines.{is_crowded}
use Rattle.log_lines.specs.LogLines.{lines_of}
use Rattle.plan_situations.specs.declared.readiness.Unready.{Unready}
use Rattle.scenario_values.specs.declared.values.Scenario.{Scenario}
use Rattle.tasks.specs.declared.mode.Mode.{Mode}
use Rattle.sessions.specs.Endings.{Came, First, FirstOf, HasBadEntry, HasManyTraces, HasNoManoeuvre, IsAnswerOf, MeetsTargetLimit, Unless, unready_of}
use Rattle.sessions.specs.Refusals.{HasManySettled, IsLogRefused, IsMet, IsRefusedAt, IsUnrefused}
use Rattle.sessions.specs.Tasks.{Task}
use Rattle.sessions.specs.declared.session_fault.SessionFault.TheVariants as fault
use Rattle.sessions.proofs.ForCallers.{behind_own, behind_search, behind_targets, behind_traces, behind_vessels, entry_fault, reported}
use Rattle.laws.proofs.Refuted.{holds_or_not}

-- that there is none is refuted
abbrev pub ComesToSome : (Came → Type 0) → Type 0
ComesToSome Comes = ¬ ((came : Came) → ¬ Comes came)

-- ---- at the log's end

first_some : (Stands : Type 0) (here : Came) (Else : Came → Type 0) → ComesToSome Else → ComesToSome (First Stands here Else)
first_some Stands here Else some none = holds_or_not Stands (λ either. (elim either [
  | inl stands ↦ none here (inl (stands, refl))
  | inr not ↦ some (λ came else. none came (inr (not, else)))
]))

unless_some : (lack : Option Unready) (Else : Came → Type 0) → ComesToSome Else → ComesToSome (Unless lack Else)
unless_some None Else some = some
unless_some (Some why) Else some = λ none. none (Err (fault.Own why)) refl

first_of_some : (Stands : ℕ → Type 0) (here : ℕ → Came) (Else : Came → Type 0) → ComesToSome Else → ComesToSome (FirstOf Stands here Else)
first_of_some Stands here Else some none = holds_or_not ((k : ℕ) × Stands k) (λ either. (elim either [
  | inl stands ↦ none (here stands.0) (inl (stands.0, stands.1, refl))
  | inr not ↦ some (λ came else. none came (inr ((λ k stands. not (k, stands)), else)))
]))

module _ (m : Mode) (rows : List ℕ) (scenario : Scenario) (log : List ℕ) where
  some_answer_to : ComesToSome (IsAnswerOf m rows scenario log)
  some_answer_to =
      first_some (IsTrue (is_crowded scenario (lines_of log))) (Err fault.Vessels) (behind_vessels m rows scenario log)
      (first_some (HasManyTraces m scenario log) (Err fault.Pairs) (behind_traces m rows scenario log)
      (unless_some (unready_of m scenario log) (behind_own m rows scenario log)
      (first_some (MeetsTargetLimit m scenario log) (Err fault.Targets) (behind_targets m rows scenario log)
      (first_some (HasNoManoeuvre m scenario log) (Ok true) (behind_search m rows scenario log)
      (first_of_some (HasBadEntry m rows scenario log) entry_fault reported (λ none. none (Ok false) refl))))))

-- ---- at a place

not_true : (b : Bool) → (IsTrue b → ⊥) → b ≡ false
not_true true fails = absurd (fails refl)
not_true false fails = refl

at_most : (m n : ℕ) → (m < n → ⊥) → n ≤ m
at_most m n fails = elim (cases_lt m n) [
  | inl lt ↦ absurd (fails lt)
  | inr ge ↦ ge
]

module _ (m : Mode) (scenario : Scenario) where
  abbrev RefusedOrNot : List ℕ → Type 0
  RefusedOrNot front = ((came : Came) × IsLogRefused m scenario front came) ⊎ IsUnrefused m scenario front

  refused_or_not : (front : List ℕ) → ¬ ¬ RefusedOrNot front
  refused_or_not front neither = holds_or_not (scenario.log.max_bytes < length front) (λ long. (elim long [
    | inl over ↦ neither (inl (Err fault.LogBytes, inl (over, refl)))
    | inr within ↦ holds_or_not (IsTrue (is_crowded scenario (ended_lines front))) (λ vessels. (elim vessels [
      | inl crowded ↦ neither (inl (Err fault.Vessels, inr (within, inl (crowded, refl))))
      | inr calm ↦ holds_or_not (HasManySettled m scenario (ended_lines front)) (λ pairs. (elim pairs [
        | inl many ↦ neither (inl (Err fault.Pairs, inr (within, inr (calm, inl (many, refl)))))
        | inr few ↦ neither (inr (record {
          short = at_most scenario.log.max_bytes (length front) within;
          calm = not_true (is_crowded scenario (ended_lines front)) calm;
          few = few;
        }))
      ]))
    ]))
  ]))

  module _ (log : List ℕ) where
    -- a refusal stands at some place, or none before this one
    abbrev Stopped : Type 0
    Stopped = (place : ℕ) × (came : Came) × IsRefusedAt m scenario log place came

    abbrev IsCalmBelow : ℕ → Type 0
    IsCalmBelow place = (shorter : ℕ) → shorter < place → IsUnrefused m scenario (take shorter log)

    one_further : (place : ℕ) → IsCalmBelow place → IsUnrefused m scenario (take place log) → IsCalmBelow (suc place)
    one_further place calm here shorter lt = elim (cases_lt shorter place) [
      | inl before ↦ calm shorter before
      | inr ge ↦ (let same : place ≡ shorter = omega arith in subst (λ (n : ℕ). IsUnrefused m scenario (take n log)) same here)
    ]

    up_to : (place : ℕ) → place ≤ length log + 1 → ¬ ¬ (Stopped ⊎ IsCalmBelow place)
    up_to zero within neither = neither (inr (λ shorter lt. absurd (omega arith)))
    up_to (suc place) within neither = up_to place (omega arith) (λ before. (elim before [
      | inl stopped ↦ neither (inl stopped)
      | inr calm ↦ refused_or_not (take place log) (λ here. (elim here [
        | inl refused ↦ neither (inl (place, refused.0, record { within = omega arith; before = calm; here = refused.1 }))
        | inr unrefused ↦ neither (inr (one_further place calm unrefused))
      ]))
    ]))

    some_met_in : (why : Bool) (rows : List ℕ) → ComesToSome (IsMet (record { mode = m; why = why; rows = rows }) scenario log)
    some_met_in why rows none = up_to (length log + 1) (omega arith) (λ all. (elim all [
      | inl stopped ↦ none stopped.1 (inl (stopped.0, stopped.2))
      | inr calm ↦ (
          let whole : take (length log) log ≡ log = take_all (length log) log (omega arith) in
          let unrefused = subst (IsUnrefused m scenario) whole (calm (length log) (omega arith)) in
          some_answer_to m rows scenario log (λ came answer. none came (inr (unrefused, answer))))
    ]))

pub some_met : (task : Task) (scenario : Scenario) (log : List ℕ) → ComesToSome (IsMet task scenario log)
some_met task scenario log = some_met_in task.mode scenario log task.why task.rows

-- ---- no log results in out of memory

first_not : (Stands : Type 0) (here : Came) (Else : Came → Type 0) (came : Came) → (here ≡ came → ⊥) → (Else came → ⊥) → First Stands here Else came → ⊥
first_not Stands here Else came other rest (inl (stands, is)) = other (sym is)
first_not Stands here Else came other rest (inr (not, else)) = rest else

unless_not : (lack : Option Unready) (Else : Came → Type 0) → (Else (Err fault.Memory) → ⊥) → Unless lack Else (Err fault.Memory) → ⊥
unless_not None Else rest is = rest is
unless_not (Some why) Else rest is = cc is

first_of_not : (Stands : ℕ → Type 0) (here : ℕ → Came) (Else : Came → Type 0) (came : Came) → ((k : ℕ) → here k ≡ came → ⊥) → (Else came → ⊥) → FirstOf Stands here Else came → ⊥
first_of_not Stands here Else came other rest (inl (k, stands, is)) = other k (sym is)
first_of_not Stands here Else came other rest (inr (not, else)) = rest else

abbrev none_left : Came → Type 0
none_left came = ⊥

pub memory_not_met : (task : Task) (scenario : Scenario) (log : List ℕ) → IsMet task scenario log (Err fault.Memory) → ⊥
memory_not_met task scenario log (inl (place, at)) = not_refused (take place log) at.here
  where
    not_refused : (front : List ℕ) → IsLogRefused task.mode scenario front (Err fault.Memory) → ⊥
    not_refused front refused =
        first_not (scenario.log.max_bytes < length front) (Err fault.LogBytes)
        (First (IsTrue (is_crowded scenario (ended_lines front))) (Err fault.Vessels) (First (HasManySettled task.mode scenario (ended_lines front)) (Err fault.Pairs) none_left))
        (Err fault.Memory) (λ is. cc is)
        (λ e. first_not (IsTrue (is_crowded scenario (ended_lines front))) (Err fault.Vessels) (First (HasManySettled task.mode scenario (ended_lines front)) (Err fault.Pairs) none_left)
        (Err fault.Memory) (λ is. cc is)
        (λ f. first_not (HasManySettled task.mode scenario (ended_lines front)) (Err fault.Pairs) none_left (Err fault.Memory) (λ is. cc is) (λ none. none) f) e) refused
memory_not_met task scenario log (inr (unrefused, answer)) = not_answered task.mode task.rows scenario log answer
  where
    not_answered : (m : Mode) (rows : List ℕ) (scenario : Scenario) (log : List ℕ) → IsAnswerOf m rows scenario log (Err fault.Memory) → ⊥
    not_answered m rows scenario log =
        first_not (IsTrue (is_crowded scenario (lines_of log))) (Err fault.Vessels) (behind_vessels m rows scenario log) (Err fault.Memory) (λ is. cc is)
        (λ a. first_not (HasManyTraces m scenario log) (Err fault.Pairs) (behind_traces m rows scenario log) (Err fault.Memory) (λ is. cc is)
        (λ b. unless_not (unready_of m scenario log) (behind_own m rows scenario log)
        (λ c. first_not (MeetsTargetLimit m scenario log) (Err fault.Targets) (behind_targets m rows scenario log) (Err fault.Memory) (λ is. cc is)
        (λ d. first_not (HasNoManoeuvre m scenario log) (Ok true) (behind_search m rows scenario log) (Err fault.Memory) (λ is. cc is)
        (λ e. first_of_not (HasBadEntry m rows scenario log) entry_fault reported (Err fault.Memory) (λ k is. cc is) (λ is. cc is) e) d) c) b) a)
