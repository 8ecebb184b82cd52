-- A session that ends.
use Rattle.std.proofs.Common.{◌∙◌, ℕ, ◌≡◌, ◌+◌, ◌<◌, ◌≤◌, List, [], ◌∷◌, ◌++◌, length, length-append, append-nil, IsTrue, Err, refl, ap, ap₂, sym, subst, arith}
use Rattle.audit_report.specs.declared.report_text.ReportText.{ReportText}
use Rattle.tasks.specs.declared.mode.Mode.{Mode}
use Rattle.log_lines.specs.GrowingLog.{ended_lines}
use Rattle.log_lines.specs.LogLines.{lines_of}
use Rattle.log_lines.specs.Standing.{StandsFor as JudgeStandsFor, LinesStandFor, kept_of}
use Rattle.tracks.specs.declared.keeping.Keeping.{Keeping}
use Rattle.tracks.specs.declared.keeping.Keeping.TheVariants.{Tracks}
use Rattle.log_lines.specs.declared.judge.Judge.{Judge}
use Rattle.scenario_values.specs.declared.values.Scenario.{Scenario}
use Rattle.settling.proofs.ForCallers.{many_settled_in_all}
use Rattle.settling.specs.ManySettled.{HaveManySettled}
use Rattle.settling.specs.ScenarioAudit.{audit_numbers}
use Rattle.traces.specs.ManyTraces.{HaveMoreThan}
use Rattle.traces.specs.declared.all_traces.TheConstants.{MOST_TRACES}
use Rattle.sessions.specs.AuditReport.{sightings_of}
use Rattle.sessions.specs.Feeding.{UnlessMemory}
use Rattle.tasks.specs.Modes.{Focus, OfTicks, each_line, each_tick, is_own, focus_of, needs_own, nothing, own_ship}
use Rattle.sessions.specs.Endings.{IsAnswerOf, IsAnswerTo}
use Rattle.sessions.specs.Tasks.{Task}
use Rattle.sessions.specs.Standing.{KeepsEnough, StandsFor, mode_by, mode_of, session_scenario}
use Rattle.sessions.specs.Inner.Lines.{Follows, HasRoomFor, IsCause, IsEnded, IsReadyToTake, RefusesLine}
use Rattle.sessions.specs.Inner.Working.{IsDone}
use Rattle.sessions.specs.Inner.AtEnd.{IsAtEnd}
use Rattle.sessions.specs.Inner.Faults.{EndCause}
use Rattle.sessions.specs.declared.session.Session.{Session}
use Rattle.sessions.specs.declared.session_fault.SessionFault.{SessionFault}
use Rattle.sessions.specs.declared.session_fault.SessionFault.TheVariants as why
use Rattle.sessions.specs.declared.work.Work.{Work}
use Rattle.sessions.specs.declared.work.Work.TheVariants as work
use Rattle.sessions.proofs.Feeding.{follows_of}
use Rattle.sessions.proofs.Meeting.{crowded_answer, pairs_answer}

-- what holds for each log that was fed, unless memory ran out
pub all_causes : (because : SessionFault) (self : Session) (P : List ℕ → Type 0) → ((fed given : List ℕ) → StandsFor self fed given → UnlessMemory because (P fed))
    → UnlessMemory because ((fed given : List ℕ) → StandsFor self fed given → P fed)
all_causes why.Vessels self P each = each
all_causes why.Pairs self P each = each
all_causes why.LogBytes self P each = each
all_causes (why.Own lack) self P each = each
all_causes why.Targets self P each = each
all_causes (why.Entry k) self P each = each
all_causes why.Memory self P each = tt

-- ---- the line that is left open

-- A line feed is one piece.
one_feed : (before piece behind : List ℕ) → 10 ∷ [] ≡ (before ++ piece) ++ behind → 0 < length piece → (before ≡ []) × (piece ≡ 10 ∷ [])
one_feed [] (byte ∷ []) behind is some = (refl, cc is)
one_feed [] (byte ∷ next ∷ piece) behind is some = absurd (let long = ap length is in omega (arith, long))
one_feed [] [] behind is some = absurd (omega (arith, some))
one_feed (byte ∷ before) piece behind is some =
    absurd (let long = ap length is ∙ length-append ((byte ∷ before) ++ piece) behind in let front = length-append (byte ∷ before) piece in omega (arith, long, front, some))

many_in_all : (focus : Focus) (scenario : Scenario) (log : List ℕ) → OfTicks focus (HaveManySettled scenario (lines_of log))
    → OfTicks focus (HaveMoreThan MOST_TRACES (audit_numbers scenario) (sightings_of scenario log))
unfolding sightings_of
many_in_all each_line scenario log many = many
many_in_all (each_tick told) scenario log many = many_settled_in_all scenario (lines_of log) many
many_in_all own_ship scenario log many = many
many_in_all nothing scenario log many = many

-- why all lines of a log are refused
cause_at_end : (because : SessionFault) (m : Mode) (rows : List ℕ) (scenario : Scenario) (log : List ℕ) → IsCause because m scenario (lines_of log) → IsAnswerOf m rows scenario log (Err because)
cause_at_end why.Vessels m rows scenario log crowded = crowded_answer m rows scenario log crowded
cause_at_end why.Pairs m rows scenario log (calm, many) = pairs_answer m rows scenario log calm (many_in_all (focus_of m) scenario log many)
cause_at_end why.LogBytes m rows scenario log none = absurd none
cause_at_end (why.Own lack) m rows scenario log none = absurd none
cause_at_end why.Targets m rows scenario log none = absurd none
cause_at_end (why.Entry k) m rows scenario log none = absurd none
cause_at_end why.Memory m rows scenario log none = absurd none

-- The session reads a line feed behind a log whose last line is open.
module _ (self : Session) (fed given : List ℕ) (stands : StandsFor self fed given) where
  pub room_for_feed : HasRoomFor self fed (10 ∷ [])
  room_for_feed = let short = stands.unrefused.short in omega (arith, short)

  pub ready_for_feed : IsReadyToTake self (10 ∷ [])
  ready_for_feed = record { read = fed; given = given; follows = follows_of self fed given stands; room = room_for_feed }

  pub ended_by_feed : (session : Session) (more : List ℕ) → lines_of fed ≡ ended_lines (fed ++ 10 ∷ []) → Follows session (fed ++ 10 ∷ []) (given ++ more) → IsEnded session fed (given ++ more)
  ended_by_feed session more whole follows = record { read = fed ++ 10 ∷ []; whole = sym whole; follows = follows }

  pub ended_before : lines_of fed ≡ ended_lines fed → IsEnded self fed (given ++ [])
  ended_before whole = record { read = fed; whole = sym whole; follows = subst (Follows self fed) (sym (append-nil given)) (follows_of self fed given stands) }

  pub refused_by_feed : (front : List ℕ) (text : ReportText) (because : SessionFault) → lines_of fed ≡ ended_lines (fed ++ 10 ∷ []) → RefusesLine self (10 ∷ []) front text because
      → (task : Task) → task.mode ≡ mode_of self → IsAnswerTo task (session_scenario self) fed (Err because)
  refused_by_feed front text because whole line task same =
      let (none, feed) = one_feed line.before line.piece line.behind line.is line.some in
      let size = length-append fed line.before in
      let short = stands.unrefused.short in
      let none_long = ap length none in
      let on = line.took.follows fed given (follows_of self fed given stands) (omega (arith, short, none_long)) in
      let room : length (fed ++ line.before) + length line.piece ≤ self.scenario.log.max_bytes + 1 = let feed_long = ap length feed in omega (arith, short, size, none_long, feed_long) in
      let cause = line.refuses (fed ++ line.before) (given ++ line.took.more) on
      (subst (λ (s : Scenario). length (fed ++ line.before) + length line.piece ≤ s.log.max_bytes + 1) (sym line.same_scenario) room) in
      let here : (fed ++ line.before) ++ line.piece ≡ fed ++ 10 ∷ [] = ap₂ (λ (b p : List ℕ). (fed ++ b) ++ p) none feed ∙ ap (λ (l : List ℕ). l ++ 10 ∷ []) (append-nil fed) in
      let lines : ended_lines ((fed ++ line.before) ++ line.piece) ≡ lines_of fed = ap ended_lines here ∙ sym whole in
      cause_at_end because task.mode task.rows self.scenario fed
      (subst (λ (l : List (List ℕ)). IsCause because task.mode self.scenario l) lines
      (subst (λ (m : Mode). IsCause because m self.scenario (ended_lines ((fed ++ line.before) ++ line.piece))) (line.same_mode ∙ sym same)
      (subst (λ (s : Scenario). IsCause because (mode_of line.stopped) s (ended_lines ((fed ++ line.before) ++ line.piece))) line.same_scenario cause)))

-- All is kept where own ship is planned for.
all_kept : (work : Work) (scenario : Scenario) (keeping : Keeping) → IsTrue (needs_own (mode_by work)) → KeepsEnough work scenario keeping → keeping ≡ Tracks
all_kept work.Points scenario keeping needs keeps = absurd (cc needs)
all_kept (work.Audit audit) scenario keeping needs keeps = absurd (cc needs)
all_kept work.Plan scenario keeping needs keeps = keeps
all_kept (work.Drill audit) scenario keeping needs keeps = absurd (cc needs)
all_kept work.Recheck scenario keeping needs keeps = keeps
all_kept (work.Watch watch) scenario keeping needs keeps = absurd (cc needs)

pub all_kept_at_end : (self : Session) (keeping : Keeping) → IsTrue (needs_own (mode_of self)) → keeping ≡ kept_of self.lines → KeepsEnough self.work self.scenario (kept_of self.lines)
    → keeping ≡ Tracks
all_kept_at_end self keeping needs same keeps = same ∙ all_kept self.work self.scenario (kept_of self.lines) needs keeps

-- ---- the work at the end

module _ (session : Session) (judge : Judge) (judges : (scenario : Scenario) (log : List ℕ) → LinesStandFor session.lines scenario log → JudgeStandsFor judge scenario (ended_lines log))
    (log given : List ℕ) (ended : IsEnded session log given) where
  pub judged_at_end : JudgeStandsFor judge session.scenario (lines_of log)
  judged_at_end = subst (JudgeStandsFor judge session.scenario) ended.whole (judges session.scenario ended.read ended.follows.lines)

  pub at_end : IsAtEnd session.work judge session.scenario log given
  at_end = record {
    done = subst (λ (lines : List (List ℕ)). IsDone session.work session.scenario lines given) ended.whole ended.follows.done;
    judged = judged_at_end;
  }

-- ---- own ship's situation

is_own_ship : (focus : Focus) → IsTrue (is_own focus) → focus ≡ own_ship
is_own_ship each_line needs = cc needs
is_own_ship (each_tick told) needs = cc needs
is_own_ship own_ship needs = refl
is_own_ship nothing needs = cc needs

-- every task of the mode is refused for this
abbrev pub NoSituation : Session → SessionFault → Type 0
NoSituation self because = UnlessMemory because ((fed given : List ℕ) → StandsFor self fed given → (task : Task) → task.mode ≡ mode_of self
    → IsAnswerTo task (session_scenario self) fed (Err because))

module _ (self : Session) (judge : Judge) (judges : (fed given : List ℕ) → StandsFor self fed given → JudgeStandsFor judge self.scenario (lines_of fed)) (needs : IsTrue (needs_own (mode_of self))) where
  pub no_situation : (because : SessionFault)
      → ((log : List ℕ) → JudgeStandsFor judge self.scenario (lines_of log) → (mode : Mode) (rows : List ℕ) → focus_of mode ≡ own_ship → EndCause mode rows self.scenario log because)
      → NoSituation self because
  no_situation because cause = all_causes because self
      (λ fed. (task : Task) → task.mode ≡ mode_of self → IsAnswerTo task (session_scenario self) fed (Err because))
      (λ fed given stands.
      each_task because fed (λ task same.
      cause fed (judges fed given stands) task.mode task.rows (ap focus_of same ∙ is_own_ship (focus_of (mode_of self)) needs)))
    where
      each_task : (because : SessionFault) (fed : List ℕ) → ((task : Task) → task.mode ≡ mode_of self → UnlessMemory because (IsAnswerTo task self.scenario fed (Err because)))
          → UnlessMemory because ((task : Task) → task.mode ≡ mode_of self → IsAnswerTo task self.scenario fed (Err because))
      each_task why.Vessels fed each = each
      each_task why.Pairs fed each = each
      each_task why.LogBytes fed each = each
      each_task (why.Own lack) fed each = each
      each_task why.Targets fed each = each
      each_task (why.Entry k) fed each = each
      each_task why.Memory fed each = tt
