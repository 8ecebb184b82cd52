-- A session that is fed.
use Rattle.std.proofs.Common.{ℕ, suc, ◌≡◌, ◌≢◌, ◌+◌, ◌-◌, ◌<◌, ◌≤◌, ◌^◌, List, [], ◌∷◌, ◌++◌, length, take, drop, get_or, Some, None, Result, Ok, Err, IsTrue, Bool, true, false, nat_lt, if◌then◌else◌, arith, append_assoc, append-nil, length-append, refl, ◌∙◌, ap, sym, subst, subst₂}
use Rattle.std.specs.Prelude.{All, IfErr, IsErrAnd, position}
use Rattle.std.proofs.Math.Seq.{take-add, take-append-add, take-suc}
use Rattle.std.proofs.lemmas.Bool.{ltb-false}
use Rattle.std.proofs.lemmas.Bool.Decides.{nat_tests}
use Rattle.std.proofs.lemmas.List.Quantifiers.{position-Some}
use Rattle.std.proofs.lemmas.List.Splits.{length-slice_split}
use Rattle.std.proofs.lemmas.List.Sums.{count_by-le-length, fails_before_first}
use Rattle.std.proofs.lemmas.List.{get_or-take, length-drop, length-map, length-take, length-take-le, take-append-drop, take-take, take_all}
use Rattle.std.specs.List.{position_or_len, slice_split}
use Rattle.outside.proofs.ForCallers.{err_cause}
use Rattle.audit_report.specs.ReportTexts.{HasText}
use Rattle.audit_report.specs.declared.report_text.ReportText.{ReportText}
use Rattle.log_lines.specs.GrowingLog.{ended_among, ended_lines}
use Rattle.log_lines.specs.JudgedLines.{judged_lines}
use Rattle.log_lines.specs.LogLines.{is_line_feed, without_carriage_return}
use Rattle.log_lines.specs.Standing.{StandsFor as JudgeStandsFor, LinesStandFor, keeping_of, kept_of}
use Rattle.log_lines.specs.declared.judge.Judge.{Judge}
use Rattle.log_lines.specs.declared.judged.Judged.{Judged}
use Rattle.scenario_values.specs.declared.values.Scenario.{Scenario}
use Rattle.sessions.specs.Inner.Pieces.{IsPiece}
use Rattle.log_lines.specs.declared.streamed.StreamedLines.{StreamedLines}
use Rattle.tasks.specs.declared.mode.Mode.{Mode}
use Rattle.sessions.specs.Feeding.{Refuses, TookPiece, UnlessMemory}
use Rattle.tasks.specs.Modes.{needs_own}
use Rattle.sessions.specs.Refusals.{HasManySettled, IsStopped, IsUnrefused}
use Rattle.sessions.specs.Standing.{IsInUse, KeepsEnough, StandsFor, mode_by, mode_of, session_scenario, taken_of}
use Rattle.sessions.specs.Inner.Lines.{Follows, HasRoomFor, IsCause, IsReadyToTake, RefusesLine, RefusesPiece, TookLines}
use Rattle.sessions.specs.Inner.Working.{GoesOn, IsDone, Works}
use Rattle.sessions.specs.SettledText.{IsSettledText}
use Rattle.sessions.specs.declared.session.Session.{Session}
use Rattle.sessions.specs.declared.session_fault.SessionFault.{SessionFault}
use Rattle.sessions.specs.declared.session_fault.SessionFault.TheVariants as why
use Rattle.sessions.specs.declared.work.Work.{Work}
use Rattle.tracks.specs.declared.entry.BookFault.{BookFault}
use Rattle.tracks.specs.declared.entry.BookFault.TheVariants as book
use Rattle.sessions.specs.Inner.Faults.{judging_fault}
use Rattle.sessions.proofs.Refusing.{EndedStay, ManyStay, PartsGoOn, stopped_by, stopped_bytes, stopped_on}
use Rattle.sessions.proofs.Working.{few_by}

-- ---- how many lines there are

few_among : (parts : List (List ℕ)) → 0 < length parts → length (ended_among parts) + 1 ≡ length parts
few_among [] some = absurd (omega arith)
few_among (part ∷ []) some = omega arith
few_among (part ∷ next ∷ more) some = let rest = few_among (next ∷ more) (omega arith) in omega (arith, rest)

pub few_ended : (log : List ℕ) → length (ended_lines log) ≤ length log
unfolding ended_lines
few_ended log =
    let parts = slice_split is_line_feed log in
    let count = length-slice_split is_line_feed log in
    let feeds = count_by-le-length is_line_feed log in
    let among = few_among parts (omega (arith, count)) in
    let same = length-map (ended_among parts) without_carriage_return in
    omega (arith, count, feeds, among, same)

-- ---- pieces

pub no_feed_before : (bytes : List ℕ) (at : ℕ) → position is_line_feed bytes ≡ Some at → All (λ byte. is_line_feed byte ≡ false) (take at bytes)
no_feed_before bytes at is k d lt =
    let found = position-Some is_line_feed bytes at d is in
    let long = length-take-le at bytes (let within = found.0 in omega arith) in
    let below : k < at = omega (arith, lt, long) in
    ap is_line_feed (get_or-take at bytes k d below) ∙ found.2 k below

last_of_take : (bytes : List ℕ) (at : ℕ) → at < length bytes → take (length (take (at + 1) bytes) - 1) (take (at + 1) bytes) ≡ take at bytes
last_of_take bytes at lt =
    let long = length-take-le (at + 1) bytes (omega arith) in
    let last : length (take (at + 1) bytes) - 1 ≡ at = omega (arith, long) in
    ap (λ (n : ℕ). take n (take (at + 1) bytes)) last ∙ take-take at (at + 1) bytes (omega arith)

pub piece_by_feed : (bytes : List ℕ) (at : ℕ) → position is_line_feed bytes ≡ Some at → IsPiece (take (at + 1) bytes)
piece_by_feed bytes at is =
    let within = (position-Some is_line_feed bytes at 0 is).0 in
    subst (All (λ (byte : ℕ). is_line_feed byte ≡ false)) (sym (last_of_take bytes at within)) (no_feed_before bytes at is)

-- The bytes up to a line feed, with it.
pub up_to_feed : (bytes : List ℕ) (at : ℕ) → position is_line_feed bytes ≡ Some at → take (at + 1) bytes ≡ take at bytes ++ 10 ∷ []
up_to_feed bytes at is =
    let found = position-Some is_line_feed bytes at 0 is in
    let within = found.0 in
    let told = found.1 in
    let feed : get_or bytes at 0 ≡ 10 = grind (arith, nat_tests, told) in
    let next : at + 1 ≡ suc at = omega arith in
    ap (λ (n : ℕ). take n bytes) next ∙ take-suc bytes at 0 within ∙ ap (λ (byte : ℕ). take at bytes ++ byte ∷ []) feed

pub feed_within : (bytes : List ℕ) (at : ℕ) → position is_line_feed bytes ≡ Some at → at + 1 ≤ length bytes
feed_within bytes at is = let within = (position-Some is_line_feed bytes at 0 is).0 in omega (arith, within)

none_within : (bytes : List ℕ) (first : ℕ) (b : Bool) → nat_lt first (length bytes) ≡ b → (if b then Some first else None) ≡ None → length bytes ≤ first
none_within bytes first true t e = absurd cc
none_within bytes first false t e = ltb-false first (length bytes) t

pub no_feed : (bytes : List ℕ) → position is_line_feed bytes ≡ None → All (λ byte. is_line_feed byte ≡ false) bytes
no_feed bytes is k d below =
    let past = none_within bytes (position_or_len is_line_feed bytes) (nat_lt (position_or_len is_line_feed bytes) (length bytes)) refl is in
    fails_before_first is_line_feed bytes k d (omega (arith, below, past))

-- ---- what a session stands for, with its limit of bytes and without

pub follows_of : (session : Session) (fed given : List ℕ) → StandsFor session fed given → Follows session fed given
follows_of session fed given stands = record {
  in_range = stands.in_range;
  own = stands.own;
  lines = stands.lines;
  kept = stands.kept;
  done = (stands.settled, stands.audited);
}

pub unrefused_of : (session : Session) (read given : List ℕ) → Follows session read given → length read ≤ session.scenario.log.max_bytes → IsUnrefused (mode_of session) session.scenario read
unrefused_of session read given follows short = record {
  short = short;
  calm = follows.lines.judge.calm;
  few = few_by session.work session.scenario (ended_lines read) given follows.done;
}

-- with the count of its bytes
pub stands_of : (session : Session) (read given : List ℕ) (taken : ℕ) → Follows session read given → length read ≤ session.scenario.log.max_bytes → taken ≡ length read
    → StandsFor (record session { taken = taken }) read given
stands_of session read given taken follows short count = record {
  in_range = follows.in_range;
  own = follows.own;
  lines = follows.lines;
  kept = follows.kept;
  taken = count;
  unrefused = unrefused_of session read given follows short;
  settled = follows.done.0;
  audited = follows.done.1;
}

-- ---- a piece that is taken

module _ (old : Session) (piece front : List ℕ) where
  -- the session with other lines and other work
  abbrev pub with : StreamedLines → Work → Session
  with lines work = record old { lines = lines; work = work }

  abbrev pub LinesGoOn : StreamedLines → Type 0
  LinesGoOn lines' = (scenario : Scenario) (log : List ℕ) → length (ended_lines log) + 1 < 2 ^ 64 → LinesStandFor old.lines scenario log → LinesStandFor lines' scenario (log ++ piece)

  lines_on : (lines' : StreamedLines) → LinesGoOn lines' → (read given : List ℕ) → Follows old read given → HasRoomFor old read piece → LinesStandFor lines' old.scenario (read ++ piece)
  lines_on lines' go read given follows room =
      let most = follows.in_range.log.max_bytes_to in
      let few = few_ended read in
      go old.scenario read (omega (arith, most, room, few)) follows.lines

  follows_on : (lines' : StreamedLines) (work' : Work) → LinesGoOn lines' → mode_by work' ≡ mode_by old.work → KeepsEnough work' old.scenario (kept_of lines')
      → (read given more : List ℕ) → Follows old read given → HasRoomFor old read piece
      → IsDone work' old.scenario (ended_lines (read ++ piece)) (given ++ more) → Follows (with lines' work') (read ++ piece) (given ++ more)
  follows_on lines' work' go same_mode keeps read given more follows room done = record {
    in_range = follows.in_range;
    own = λ needs. follows.own (subst (λ (m : Mode). IsTrue (needs_own m)) same_mode needs);
    lines = lines_on lines' go read given follows room;
    kept = keeps;
    done = done;
  }

  -- no line feed
  pub takes_part : (lines' : StreamedLines) (text : ReportText) → LinesGoOn lines' → kept_of lines' ≡ kept_of old.lines
      → ((log : List ℕ) → ended_lines (log ++ piece) ≡ ended_lines log) → HasText text front → TookLines old (with lines' old.work) piece front text
  takes_part lines' text go same_kept nothing has = record {
    more = [];
    has = subst (HasText text) (sym (append-nil front)) has;
    follows = λ read given follows room. (
        let done : IsDone old.work old.scenario (ended_lines (read ++ piece)) (given ++ []) =
        subst (IsDone old.work old.scenario (ended_lines (read ++ piece))) (sym (append-nil given))
        (subst (λ (lines : List (List ℕ)). IsDone old.work old.scenario lines given) (sym (nothing read)) follows.done) in
        follows_on lines' old.work go refl (subst (KeepsEnough old.work old.scenario) (sym same_kept) follows.kept) read given [] follows room done
        );
  }

  module _ (stay : EndedStay) (judge : Judge) (judged : Judged) (lines' : StreamedLines) (go : LinesGoOn lines')
      (judge_stands : (scenario : Scenario) (log : List ℕ) → LinesStandFor lines' scenario log → JudgeStandsFor judge scenario (ended_lines log))
      (told : (scenario : Scenario) (log : List ℕ) → LinesStandFor old.lines scenario log
      → judged_lines scenario (ended_lines (log ++ piece)) ≡ judged_lines scenario (ended_lines log) ++ judged ∷ []) where
    judge_on : (read given : List ℕ) → Follows old read given → HasRoomFor old read piece → JudgeStandsFor judge old.scenario (ended_lines read ++ (stay read piece).0)
    judge_on read given follows room = subst (JudgeStandsFor judge old.scenario) (stay read piece).1 (judge_stands old.scenario (read ++ piece) (lines_on lines' go read given follows room))

    pub works_on : (read given : List ℕ) → Follows old read given → HasRoomFor old read piece → Works old.work old.scenario judge (ended_lines read) (stay read piece).0
    works_on read given follows room = record { given = given; done = follows.done; judged = judge_on read given follows room }

    -- a line that is ended
    pub takes_line : (work' : Work) (text : ReportText) → mode_by work' ≡ mode_by old.work → keeping_of judge ≡ kept_of lines' → GoesOn old.work work' old.scenario judge judged front text
        → TookLines old (with lines' work') piece front text
    takes_line work' text same_mode same_kept on = record {
      more = on.decided;
      has = on.has;
      follows = λ read given follows room. (
          let lines = stay read piece in
          let is = subst (λ (l : List (List ℕ)). judged_lines old.scenario l ≡ judged_lines old.scenario (ended_lines read) ++ judged ∷ []) lines.1 (told old.scenario read follows.lines) in
          let done = on.done (ended_lines read) lines.0 given follows.done (judge_on read given follows room) is in
          follows_on lines' work' go same_mode (subst (KeepsEnough work' old.scenario) same_kept on.keeps) read given on.decided follows room
          (subst (λ (l : List (List ℕ)). IsDone work' old.scenario l (given ++ on.decided)) (sym lines.1) done)
          );
    }

    -- too many traces
    pub refuses_pairs : ((lines more : List (List ℕ)) → Works old.work old.scenario judge lines more → HasManySettled (mode_by old.work) old.scenario (lines ++ more))
        → RefusesPiece old piece why.Pairs
    refuses_pairs many read given follows room =
        let lines = stay read piece in (
          (lines_on lines' go read given follows room).judge.calm,
          subst (HasManySettled (mode_by old.work) old.scenario) (sym lines.1) (many (ended_lines read) lines.0 (works_on read given follows room)),
        )

-- Work ends for too many traces, or if memory runs out.
pub refused_by : (r : Result (Unit {0}) SessionFault) (P : SessionFault → Type 0) → IfErr r (λ because. because ≢ why.Pairs → because ≡ why.Memory) → (r ≡ Err why.Pairs → P why.Pairs)
    → IfErr r (λ because. UnlessMemory because (P because))
refused_by (Ok done) P alone pairs = tt
refused_by (Err why.Pairs) P alone pairs = pairs refl
refused_by (Err why.Memory) P alone pairs = tt
refused_by (Err why.Vessels) P alone pairs = (let is = alone (λ same. cc same) in cc is)
refused_by (Err why.LogBytes) P alone pairs = (let is = alone (λ same. cc same) in cc is)
refused_by (Err (why.Own lack)) P alone pairs = (let is = alone (λ same. cc same) in cc is)
refused_by (Err why.Targets) P alone pairs = (let is = alone (λ same. cc same) in cc is)
refused_by (Err (why.Entry k)) P alone pairs = (let is = alone (λ same. cc same) in cc is)

-- ---- several pieces

module _ (first old : Session) (done piece all : List ℕ) (is : all ≡ done ++ piece) (same : session_scenario old ≡ session_scenario first) where
  -- There is room for the first pieces, and then for the next one.
  pub room_before : (read : List ℕ) → HasRoomFor first read all → HasRoomFor first read done
  room_before read room = let long = ap length is ∙ length-append done piece in omega (arith, room, long)

  pub room_behind : (read : List ℕ) → HasRoomFor first read all → HasRoomFor old (read ++ done) piece
  room_behind read room =
      let long = ap length is ∙ length-append done piece in
      let front = length-append read done in
      subst (λ (s : Scenario). length (read ++ done) + length piece ≤ s.log.max_bytes + 1) (sym same) (omega (arith, room, long, front))

  pub takes_more : (front : List ℕ) (text text' : ReportText) (new : Session) → (so_far : TookLines first old done front text)
      → TookLines old new piece (front ++ so_far.more) text' → TookLines first new all front text'
  takes_more front text text' new so_far next = record {
    more = so_far.more ++ next.more;
    has = subst (HasText text') (append_assoc front so_far.more next.more) next.has;
    follows = λ read given follows room. (
        let on = next.follows (read ++ done) (given ++ so_far.more) (so_far.follows read given follows (room_before read room)) (room_behind read room) in
        let whole : (read ++ done) ++ piece ≡ read ++ all = append_assoc read done piece ∙ ap (λ (l : List ℕ). read ++ l) (sym is) in
        subst (λ (l : List ℕ). Follows new l (given ++ (so_far.more ++ next.more))) whole
        (subst (Follows new ((read ++ done) ++ piece)) (append_assoc given so_far.more next.more) on)
        );
  }

  -- It is ready for the next piece, and for the bytes after that.
  pub ready_behind : (front : List ℕ) (text : ReportText) → TookLines first old done front text → IsReadyToTake first all → IsReadyToTake old piece
  ready_behind front text so_far ready = record {
    read = ready.read ++ done;
    given = ready.given ++ so_far.more;
    follows = so_far.follows ready.read ready.given ready.follows (room_before ready.read ready.room);
    room = room_behind ready.read ready.room;
  }

-- A piece is a part of the bytes after the first ones.
pub ready_for_piece : (session : Session) (piece rest : List ℕ) → length piece ≤ length rest → IsReadyToTake session rest → IsReadyToTake session piece
ready_for_piece session piece rest le ready = record {
  read = ready.read;
  given = ready.given;
  follows = ready.follows;
  room = (let room = ready.room in omega (arith, room, le));
}

-- ---- the bytes that fit

module _ (old : Session) (room : ℕ) (left : (fed given : List ℕ) → StandsFor old fed given → room ≡ old.scenario.log.max_bytes - length fed) (bytes all : List ℕ) (is : bytes ≡ take room all) where
  pub fits : (fed given : List ℕ) → StandsFor old fed given → length fed + length bytes ≤ old.scenario.log.max_bytes
  fits fed given stands = let short = stands.unrefused.short in let room_is = left fed given stands in let size = ap length is ∙ length-take room all in omega (arith, short, room_is, size)

  pub ready_for_first : IsInUse old → IsReadyToTake old bytes
  ready_for_first used = record {
    read = used.fed;
    given = used.given;
    follows = follows_of old used.fed used.given used.stands;
    room = (let fit = fits used.fed used.given used.stands in omega (arith, fit));
  }

  pub behind_first : all ≡ bytes ++ drop room all
  behind_first = sym (take-append-drop room all) ∙ ap (λ (l : List ℕ). l ++ drop room all) (sym is)

  -- They were taken, and are counted.
  pub took_first : (new : Session) (taken : ℕ) (front : List ℕ) (text : ReportText) → session_scenario new ≡ session_scenario old → taken_of new ≡ taken_of old → taken ≡ taken_of new + length bytes
      → TookLines old new bytes front text → TookPiece old (record new { taken = taken }) bytes front text
  took_first new taken front text same_scenario same_count count took = record {
    more = took.more;
    has = took.has;
    stands = λ fed given stands. (
        let fit = fits fed given stands in
        let long = length-append fed bytes in
        let was = stands.taken in
        stands_of new (fed ++ bytes) (given ++ took.more) taken (took.follows fed given (follows_of old fed given stands) (omega (arith, fit)))
        (subst (λ (s : Scenario). length (fed ++ bytes) ≤ s.log.max_bytes) (sym same_scenario) (omega (arith, fit, long)))
        (omega (arith, count, same_count, was, long))
        );
  }

-- ---- a log that is refused

module _ (stay : EndedStay) (settle : ManyStay) (parts : PartsGoOn) (first : Session) (bytes all front : List ℕ) (text : ReportText) where
  -- at a line: the bytes before it were taken, and there is room for the line
  pub refuses_at : (because : SessionFault) (more : List ℕ) → all ≡ bytes ++ more → ((fed given : List ℕ) → StandsFor first fed given → length fed + length bytes ≤ first.scenario.log.max_bytes)
      → RefusesLine first bytes front text because → Refuses first all front text because
  refuses_at because more is fits line = record {
    more = line.took.more;
    has = line.took.has;
    stopped = λ fed given stands. (
        let m = mode_of first in
        let scenario = session_scenario first in
        let done = line.before in
        let fit = fits fed given stands in
        let long = ap length line.is ∙ length-append (done ++ line.piece) line.behind in
        let cut = length-append done line.piece in
        let on = line.took.follows fed given (follows_of first fed given stands) (omega (arith, fit, long, cut)) in
        let fed_long = length-append fed done in
        let whole_long = length-append (fed ++ done) line.piece in
        let short : length (fed ++ done) ≤ scenario.log.max_bytes = omega (arith, fit, long, cut, fed_long) in
        let un = subst₂ (λ (m : Mode) (s : Scenario). IsUnrefused m s (fed ++ done)) line.same_mode line.same_scenario
        (unrefused_of line.stopped (fed ++ done) (given ++ line.took.more) on (subst (λ (s : Scenario). length (fed ++ done) ≤ s.log.max_bytes) (sym line.same_scenario) short)) in
        let settled = subst₂ (λ (m : Mode) (s : Scenario). IsSettledText m s (fed ++ done) (given ++ line.took.more)) line.same_mode line.same_scenario on.done.0 in
        let room : length (fed ++ done) + length line.piece ≤ scenario.log.max_bytes + 1 = omega (arith, fit, long, cut, fed_long) in
        let cause = subst₂ (λ (m : Mode) (s : Scenario). IsCause because m s (ended_lines ((fed ++ done) ++ line.piece))) line.same_mode line.same_scenario
        (line.refuses (fed ++ done) (given ++ line.took.more) on (subst (λ (s : Scenario). length (fed ++ done) + length line.piece ≤ s.log.max_bytes + 1) (sym line.same_scenario) room)) in
        let here = stopped_by stay settle m scenario parts (fed ++ done) line.piece line.line line.some un (given ++ line.took.more) settled because
        (omega (arith, fit, long, cut, fed_long, whole_long)) cause in
        let whole : ((fed ++ done) ++ line.piece) ++ (line.behind ++ more) ≡ fed ++ all =
        sym (append_assoc ((fed ++ done) ++ line.piece) line.behind more)
        ∙ ap (λ (l : List ℕ). l ++ more) (ap (λ (l : List ℕ). l ++ line.behind) (append_assoc fed done line.piece) ∙ append_assoc fed (done ++ line.piece) line.behind
        ∙ ap (λ (l : List ℕ). fed ++ l) (sym line.is))
        ∙ append_assoc fed bytes more ∙ ap (λ (l : List ℕ). fed ++ l) (sym is) in
        subst (λ (l : List ℕ). IsStopped m scenario l because (given ++ line.took.more)) whole
        (stopped_on m scenario ((fed ++ done) ++ line.piece) (line.behind ++ more) because (given ++ line.took.more) here)
        );
  }

  -- at the first byte for which there is no room: those before it were taken
  pub refuses_bytes : (new : Session) (room : ℕ) → mode_of new ≡ mode_of first → session_scenario new ≡ session_scenario first
      → ((fed given : List ℕ) → StandsFor first fed given → room ≡ first.scenario.log.max_bytes - length fed) → bytes ≡ take room all → length bytes < length all
      → TookLines first new bytes front text → Refuses first all front text why.LogBytes
  refuses_bytes new room same_mode same_scenario left is less took = record {
    more = took.more;
    has = took.has;
    stopped = λ fed given stands. (
        let scenario = session_scenario first in
        let most = scenario.log.max_bytes in
        let room_is = left fed given stands in
        let short = stands.unrefused.short in
        let size = ap length is ∙ length-take room all in
        let long = length-append fed all in
        let on = took.follows fed given (follows_of first fed given stands) (omega (arith, room_is, short, size)) in
        let front_is : take most (fed ++ all) ≡ fed ++ bytes =
        ap (λ (n : ℕ). take n (fed ++ all)) (let whole : most ≡ length fed + room = omega (arith, room_is, short) in whole) ∙ take-append-add fed all room ∙ ap (λ (l : List ℕ). fed ++ l) (sym is) in
        let front_long = length-append fed bytes in
        let within : length (fed ++ bytes) ≤ most = omega (arith, room_is, short, size, front_long) in
        let un = subst₂ (λ (m : Mode) (s : Scenario). IsUnrefused m s (fed ++ bytes)) same_mode same_scenario
        (unrefused_of new (fed ++ bytes) (given ++ took.more) on (subst (λ (s : Scenario). length (fed ++ bytes) ≤ s.log.max_bytes) (sym same_scenario) within)) in
        let settled = subst₂ (λ (m : Mode) (s : Scenario). IsSettledText m s (fed ++ bytes) (given ++ took.more)) same_mode same_scenario on.done.0 in
        stopped_bytes stay settle (mode_of first) scenario (fed ++ all) (given ++ took.more)
        (subst (IsUnrefused (mode_of first) scenario) (sym front_is) un)
        (subst (λ (l : List ℕ). IsSettledText (mode_of first) scenario l (given ++ took.more)) (sym front_is) settled)
        (omega (arith, room_is, short, size, less, long))
        );
  }

-- A line makes too many vessels held, or there was no memory.
pub vessels_refused : {X : Type 0} (r : Result X SessionFault) (x : BookFault) (P : SessionFault → Type 0) → IsErrAnd r (λ e. e ≡ judging_fault x) → (x ≡ book.TooManyVessels → P why.Vessels)
    → IfErr r (λ because. UnlessMemory because (P because))
vessels_refused r book.TooManyVessels P is many = err_cause r why.Vessels (λ because. UnlessMemory because (P because)) is (many refl)
vessels_refused r book.Memory P is many = err_cause r why.Memory (λ because. UnlessMemory because (P because)) is tt

pub unless_weaker : (because : SessionFault) (P Q : Type 0) → (P → Q) → UnlessMemory because P → UnlessMemory because Q
unless_weaker why.Vessels P Q so p = so p
unless_weaker why.Pairs P Q so p = so p
unless_weaker why.LogBytes P Q so p = so p
unless_weaker (why.Own lack) P Q so p = so p
unless_weaker why.Targets P Q so p = so p
unless_weaker (why.Entry k) P Q so p = so p
unless_weaker why.Memory P Q so p = tt

-- ---- cuts of a piece

pub rest_is : (all : List ℕ) (at : ℕ) → at ≤ length all → take (length all - at) (drop at all) ≡ drop at all
rest_is all at le = take_all (length all - at) (drop at all) (let long = length-drop at all in omega (arith, long))

pub cut_on : (all : List ℕ) (at count : ℕ) → at ≤ length all → take (at + count) all ≡ take at all ++ take count (take (length all - at) (drop at all))
cut_on all at count le = take-add at count all ∙ ap (λ (l : List ℕ). take at all ++ take count l) (sym (rest_is all at le))

pub cut_all : (all : List ℕ) (at count : ℕ) → at ≤ length all → all ≡ (take at all ++ take count (take (length all - at) (drop at all))) ++ drop (at + count) all
cut_all all at count le = sym (take-append-drop (at + count) all) ∙ ap (λ (l : List ℕ). l ++ drop (at + count) all) (cut_on all at count le)
