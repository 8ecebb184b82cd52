-- The answers to one row, one after the other, and the tracks that get their marks.
use Rattle.std.proofs.Common.{◌≡◌, ℕ, ◌+◌, List, [], ◌∷◌, ◌++◌, length, append_assoc, refl, sym, ap, subst, ◌∙◌, arith, length-append}
use Rattle.std.specs.Prelude.{None, Some}
use Rattle.mtl_formulas.specs.declared.verdict.Verdict.{Verdict}
use Rattle.mtl_monitor.specs.declared.program.Program.{Program}
use Rattle.mtl_monitor.specs.declared.trace_state.TraceState.{TraceState}
use Rattle.audit_rows.specs.Tracks.{IsNextAt, Track, marked}
use Rattle.audit_rows.specs.declared.row.Row.{Row}
use Rattle.audit_rows.proofs.ForCallers.{marked_there, next_there}
use Rattle.auditor.specs.ValueMarks.{mark_of}
use Rattle.auditor.specs.Inner.RowAnswers.{Answer, AreAnswers, AwaitAll, Awaits, IsAnswer, MarksRule, MarksRules, answered, answered_all}
use Rattle.audit_rows.specs.Standing.{QueueStandsFor}
use Rattle.audit_rows.specs.declared.row_queue.RowQueue.{RowQueue}
use Rattle.auditor.specs.declared.trace.AuditTrace.{AuditTrace}

-- ---- one rule

-- what marking the track with a value's mark says
abbrev pub MarkedBy : RowQueue → RowQueue → ℕ → ℕ → Verdict → Type 0
MarkedBy old new index step value = (tracks : List Track) (bound : ℕ) (given : List Row) → QueueStandsFor old tracks bound given
    → IsNextAt tracks index step → QueueStandsFor new (marked tracks index (mark_of value)) bound given

module _ (program : Program) (trace : AuditTrace) (index rule : ℕ) (old new : RowQueue) where
  pub with_mark : (position : ℕ) (value : Verdict) → IsAnswer program trace.values rule (Some (position, value))
      → MarkedBy old new index (trace.start + position) value → MarksRule program trace index rule old new
  with_mark position value is by = record {
    answer = Some (position, value);
    is = is;
    keeps = λ bound before track after given e awaits keeps.
        let there : QueueStandsFor new (marked (before ++ track ∷ after) index (mark_of value)) bound given =
        by (before ++ track ∷ after) bound given keeps
        (subst (λ (i : ℕ). IsNextAt (before ++ track ∷ after) i (trace.start + position)) (sym e) (next_there before after track (trace.start + position) awaits)) in
        subst (λ (tracks : List Track). QueueStandsFor new tracks bound given)
        (ap (λ (i : ℕ). marked (before ++ track ∷ after) i (mark_of value)) e ∙ marked_there before after track (mark_of value)) there;
  }

  pub with_none : old ≡ new → IsAnswer program trace.values rule None → MarksRule program trace index rule old new
  with_none same is = record {
    answer = None;
    is = is;
    keeps = λ bound before track after given e awaits keeps. subst (λ (m : RowQueue). QueueStandsFor m (before ++ track ∷ after) bound given) same keeps;
  }

-- ---- one rule more

answers_then : (program : Program) (values : TraceState) (rule : ℕ) (answers : List Answer) (answer : Answer) → AreAnswers program values rule answers
    → IsAnswer program values (rule + length answers) answer → AreAnswers program values rule (answers ++ answer ∷ [])
answers_then program values rule [] answer all one =
    let same : rule + 0 ≡ rule = omega arith in
    (subst (λ (k : ℕ). IsAnswer program values k answer) same one, tt)
answers_then program values rule (x ∷ xs) answer all one =
    let same : rule + length (x ∷ xs) ≡ (rule + 1) + length xs = omega arith in
    (all.0, answers_then program values (rule + 1) xs answer all.1 (subst (λ (k : ℕ). IsAnswer program values k answer) same one))

-- the tracks of some answers, and then that of one more
record Last (start : ℕ) (answers : List Answer) (answer : Answer) (tracks : List Track) : Type 0 where
  front : List Track
  track : Track
  is : tracks ≡ front ++ track ∷ []
  await : AwaitAll start answers front
  awaits : Awaits start answer track
  marks : answered_all (answers ++ answer ∷ []) tracks ≡ answered_all answers front ++ answered answer track ∷ []
  many : length (answered_all answers front) ≡ length answers

last_of : (start : ℕ) (answers : List Answer) (answer : Answer) (tracks : List Track) → AwaitAll start (answers ++ answer ∷ []) tracks
    → Last start answers answer tracks
last_of start [] answer [] h = absurd h
last_of start [] answer (t ∷ u ∷ ts) h = absurd h.1
last_of start [] answer (t ∷ []) h = record {
  front = [];
  track = t;
  is = refl;
  await = tt;
  awaits = h.0;
  marks = refl;
  many = refl;
}
last_of start (x ∷ xs) answer [] h = absurd h
last_of start (x ∷ xs) answer (t ∷ ts) h =
    let r = last_of start xs answer ts h.1 in
    record {
      front = t ∷ r.front;
      track = r.track;
      is = ap (λ (us : List Track). t ∷ us) r.is;
      await = (h.0, r.await);
      awaits = r.awaits;
      marks = ap (λ (us : List Track). answered x t ∷ us) r.marks;
      many = let many = r.many in omega arith;
    }

module _ (program : Program) (trace : AuditTrace) (first : ℕ) where
  pub no_rules : (marks : RowQueue) → MarksRules program trace first 0 marks marks
  no_rules marks = record {
    answers = [];
    many = refl;
    are = tt;
    keeps = λ bound before mine after given e await keeps. keeps;
  }

  pub one_rule_more : (n : ℕ) (old now new : RowQueue) → MarksRules program trace first n old now → MarksRule program trace (first + n) n now new
      → MarksRules program trace first (n + 1) old new
  one_rule_more n old now new so_far one =
      let many = so_far.many in
      let place : n ≡ 0 + length so_far.answers = omega arith in
      record {
        answers = so_far.answers ++ one.answer ∷ [];
        many = omega (arith, length-append so_far.answers (one.answer ∷ []));
        are = answers_then program trace.values 0 so_far.answers one.answer so_far.are
            (subst (λ (k : ℕ). IsAnswer program trace.values k one.answer) place one.is);
        keeps = λ bound before mine after given e await keeps.
            let l = last_of trace.start so_far.answers one.answer mine await in
            let done = answered_all so_far.answers l.front in
            let regrouped : before ++ (mine ++ after) ≡ before ++ (l.front ++ l.track ∷ after) =
            ap (λ (ts : List Track). before ++ (ts ++ after)) l.is ∙ ap (λ (ts : List Track). before ++ ts) (append_assoc l.front (l.track ∷ []) after) in
            let now_kept : QueueStandsFor now (before ++ (done ++ l.track ∷ after)) bound given =
            so_far.keeps bound before l.front (l.track ∷ after) given e l.await
            (subst (λ (ts : List Track). QueueStandsFor old ts bound given) regrouped keeps) in
            let there : first + n ≡ length (before ++ done) = (let m = l.many in omega (arith, length-append before done)) in
            let new_kept : QueueStandsFor new ((before ++ done) ++ answered one.answer l.track ∷ after) bound given =
            one.keeps bound (before ++ done) l.track after given there l.awaits
            (subst (λ (ts : List Track). QueueStandsFor now ts bound given) (sym (append_assoc before done (l.track ∷ after))) now_kept) in
            subst (λ (ts : List Track). QueueStandsFor new ts bound given)
            (append_assoc before done (answered one.answer l.track ∷ after)
            ∙ ap (λ (ts : List Track). before ++ ts) (sym (append_assoc done (answered one.answer l.track ∷ []) after))
            ∙ ap (λ (ts : List Track). before ++ (ts ++ after)) (sym l.marks))
            new_kept;
      }
