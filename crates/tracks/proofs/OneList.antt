-- There is exactly one accepted list.
use Rattle.std.proofs.Common.{◌≡◌, ◌∙◌, ℕ, zero, suc, Bool, true, false, List, [], ◌∷◌, length, take, Some, None, Ok, Err, refl, ap, sym, subst, arith}
use Rattle.std.specs.Prelude.{Option, Result, IsOk, ◌↔◌, slice_get}
use Rattle.std.specs.List.{find, last_or}
use Rattle.std.proofs.lemmas.Bool.{false≢true}
use Rattle.tracks.specs.AcceptedReports.{AreAccepted, IsFree, JudgingNumbers, Reported, accepted_after, accepted_list, accepted_with, applies, judged, judged_after, judged_at, accepted_at_marks, placed, unless, with_placed}
use Rattle.tracks.specs.declared.accepted.Accepted.{Accepted}
use Rattle.tracks.specs.declared.entry.ReportCause.{ReportCause}
use Rattle.tracks.specs.declared.entry.ReportCause.TheVariants.{Back, Repeat, Jump}

-- ---- judged reports

unless_ok : (now accepted : Accepted) (o : Option ReportCause) → unless now o ≡ Ok accepted → now ≡ accepted
unless_ok now accepted None e = cc
unless_ok now accepted (Some cause) e = cc

after_ok : (numbers : JudgingNumbers) (latest : Option Accepted) (now accepted : Accepted) → judged_after numbers latest now ≡ Ok accepted → now ≡ accepted
after_ok numbers None now accepted e = cc
after_ok numbers (Some latest) now accepted e = unless_ok now accepted (find (applies numbers latest now) (Back ∷ Repeat ∷ Jump ∷ [])) e

at_ok : (numbers : JudgingNumbers) (latest : Option Accepted) (r : Result Accepted ReportCause) (accepted : Accepted) → judged_at numbers latest r ≡ Ok accepted → r ≡ Ok accepted
at_ok numbers latest (Err cause) accepted e = cc
at_ok numbers latest (Ok now) accepted e = ap (λ (a : Accepted). Ok a) (after_ok numbers latest now accepted e)

-- An accepted report stands at its point.
pub judged_placed : (numbers : JudgingNumbers) (latest : Option Accepted) (now : Reported) (accepted : Accepted) → judged numbers latest now ≡ Ok accepted
    → placed numbers.reference now ≡ Ok accepted
unfolding judged
judged_placed numbers latest now accepted e = at_ok numbers latest (placed numbers.reference now) accepted e

free_ok : (r : Result Accepted ReportCause) → IsOk r → (accepted : Accepted) × (r ≡ Ok accepted)
free_ok (Ok accepted) h = (accepted, refl)
free_ok (Err cause) h = absurd (false≢true h)

ok_free : (r : Result Accepted ReportCause) (accepted : Accepted) → r ≡ Ok accepted → IsOk r
ok_free (Ok x) accepted e = refl
ok_free (Err cause) accepted e = cc

-- ---- marks, after a latest accepted report

record AreMarks (numbers : JudgingNumbers) (reports : List Reported) (latest : Option Accepted) (marks : List Bool) : Type 0 where
  one_each : length marks ≡ length reports
  stands : (k : ℕ) (now : Reported) → slice_get reports k ≡ Some now
      → (slice_get marks k ≡ Some true) ↔ IsFree numbers (last_or latest (accepted_at_marks numbers.reference (take k marks) (take k reports))) now

-- after a first report that is accepted
after_true : (numbers : JudgingNumbers) (now : Reported) (accepted : Accepted) (latest : Option Accepted) (others : List Accepted) → placed numbers.reference now ≡ Ok accepted
    → last_or latest (with_placed (placed numbers.reference now) others) ≡ last_or (Some accepted) others
after_true numbers now accepted latest others e = ap (λ (r : Result Accepted ReportCause). last_or latest (with_placed r others)) e

-- ---- at most one

rest_true : (numbers : JudgingNumbers) (now : Reported) (reports : List Reported) (latest : Option Accepted) (marks : List Bool) (accepted : Accepted)
    → placed numbers.reference now ≡ Ok accepted → AreMarks numbers (now ∷ reports) latest (true ∷ marks) → AreMarks numbers reports (Some accepted) marks
rest_true numbers now reports latest marks accepted e h = record {
  one_each = let each = h.one_each in omega arith;
  stands = λ k n is. subst (λ (o : Option Accepted). (slice_get marks k ≡ Some true) ↔ IsFree numbers o n)
      (after_true numbers now accepted latest (accepted_at_marks numbers.reference (take k marks) (take k reports)) e) (h.stands (suc k) n is);
}

rest_false : (numbers : JudgingNumbers) (now : Reported) (reports : List Reported) (latest : Option Accepted) (marks : List Bool)
    → AreMarks numbers (now ∷ reports) latest (false ∷ marks) → AreMarks numbers reports latest marks
rest_false numbers now reports latest marks h = record {
  one_each = let each = h.one_each in omega arith;
  stands = λ k n is. h.stands (suc k) n is;
}

not_free : (r : Result Accepted ReportCause) → ¬ IsOk r → (cause : ReportCause) × (r ≡ Err cause)
not_free (Ok accepted) h = absurd (h refl)
not_free (Err cause) h = (cause, refl)

at_most_one : (numbers : JudgingNumbers) (reports : List Reported) (latest : Option Accepted) (marks : List Bool) → AreMarks numbers reports latest marks
    → accepted_at_marks numbers.reference marks reports ≡ accepted_after numbers reports latest
unfolding accepted_after
at_most_one numbers [] latest [] h = refl
at_most_one numbers [] latest (mark ∷ marks) h = absurd (let each = h.one_each in omega arith)
at_most_one numbers (now ∷ reports) latest [] h = absurd (let each = h.one_each in omega arith)
at_most_one numbers (now ∷ reports) latest (true ∷ marks) h =
    let (accepted, is) = free_ok (judged numbers latest now) ((h.stands 0 now refl).0 refl) in
    let at : placed numbers.reference now ≡ Ok accepted = judged_placed numbers latest now accepted is in
    let others = at_most_one numbers reports (Some accepted) marks (rest_true numbers now reports latest marks accepted at h) in
    ap (λ (r : Result Accepted ReportCause). with_placed r (accepted_at_marks numbers.reference marks reports)) at ∙ ap (λ (xs : List Accepted). accepted ∷ xs) others
    ∙ ap (accepted_with (accepted_after numbers reports) latest) (sym is)
at_most_one numbers (now ∷ reports) latest (false ∷ marks) h =
    let (cause, is) = not_free (judged numbers latest now) (λ free. let e = (h.stands 0 now refl).1 free in cc) in
    at_most_one numbers reports latest marks (rest_false numbers now reports latest marks h)
    ∙ ap (accepted_with (accepted_after numbers reports) latest) (sym is)

pub one_list : (numbers : JudgingNumbers) (reports : List Reported) (accepted : List Accepted) → AreAccepted numbers reports accepted → accepted ≡ accepted_list numbers reports
one_list numbers reports accepted h = h.list ∙ at_most_one numbers reports None h.marks (record { one_each = h.one_each; stands = h.stands })

-- ---- at least one

abbrev marks_with : (Option Accepted → List Bool) → Option Accepted → Result Accepted ReportCause → List Bool
marks_with others latest (Ok accepted) = true ∷ others (Some accepted)
marks_with others latest (Err cause) = false ∷ others latest

marks_after : JudgingNumbers → List Reported → Option Accepted → List Bool
marks_after numbers [] latest = []
marks_after numbers (now ∷ reports) latest = marks_with (marks_after numbers reports) latest (judged numbers latest now)

more_true : (numbers : JudgingNumbers) (now : Reported) (reports : List Reported) (latest : Option Accepted) (marks : List Bool) (accepted : Accepted)
    → judged numbers latest now ≡ Ok accepted → AreMarks numbers reports (Some accepted) marks → AreMarks numbers (now ∷ reports) latest (true ∷ marks)
more_true numbers now reports latest marks accepted is h = record {
  one_each = let each = h.one_each in omega arith;
  stands = stands;
}
  where
    stands : (k : ℕ) (n : Reported) → slice_get (now ∷ reports) k ≡ Some n
        → (slice_get (true ∷ marks) k ≡ Some true) ↔ IsFree numbers (last_or latest (accepted_at_marks numbers.reference (take k (true ∷ marks)) (take k (now ∷ reports)))) n
    stands zero n e =
        let same : now ≡ n = cc in
        let free : IsFree numbers latest n = subst (IsFree numbers latest) same (ok_free (judged numbers latest now) accepted is) in
        (λ _. free, λ _. refl)
    stands (suc k) n e =
        subst (λ (o : Option Accepted). (slice_get marks k ≡ Some true) ↔ IsFree numbers o n)
        (sym (after_true numbers now accepted latest (accepted_at_marks numbers.reference (take k marks) (take k reports)) (judged_placed numbers latest now accepted is)))
        (h.stands k n e)

more_false : (numbers : JudgingNumbers) (now : Reported) (reports : List Reported) (latest : Option Accepted) (marks : List Bool) (cause : ReportCause)
    → judged numbers latest now ≡ Err cause → AreMarks numbers reports latest marks → AreMarks numbers (now ∷ reports) latest (false ∷ marks)
more_false numbers now reports latest marks cause is h = record {
  one_each = let each = h.one_each in omega arith;
  stands = stands;
}
  where
    stands : (k : ℕ) (n : Reported) → slice_get (now ∷ reports) k ≡ Some n
        → (slice_get (false ∷ marks) k ≡ Some true) ↔ IsFree numbers (last_or latest (accepted_at_marks numbers.reference (take k (false ∷ marks)) (take k (now ∷ reports)))) n
    stands zero n e =
        let same : now ≡ n = cc in (
          λ wrong. cc,
          λ free. absurd (let (accepted, ok) = free_ok (judged numbers latest n) free in
              let err : judged numbers latest n ≡ Err cause = subst (λ (r : Reported). judged numbers latest r ≡ Err cause) same is in cc),
        )
    stands (suc k) n e = h.stands k n e

exists_marks : (numbers : JudgingNumbers) (reports : List Reported) (latest : Option Accepted) → AreMarks numbers reports latest (marks_after numbers reports latest)
unfolding marks_after
exists_marks numbers [] latest = record { one_each = refl; stands = λ k now e. absurd (cc) }
exists_marks numbers (now ∷ reports) latest = further (judged numbers latest now) refl (λ o. exists_marks numbers reports o)
  where
    further : (r : Result Accepted ReportCause) → judged numbers latest now ≡ r → ((o : Option Accepted) → AreMarks numbers reports o (marks_after numbers reports o))
        → AreMarks numbers (now ∷ reports) latest (marks_with (marks_after numbers reports) latest r)
    further (Ok accepted) is others = more_true numbers now reports latest (marks_after numbers reports (Some accepted)) accepted is (others (Some accepted))
    further (Err cause) is others = more_false numbers now reports latest (marks_after numbers reports latest) cause is (others latest)

pub some_list : (numbers : JudgingNumbers) (reports : List Reported) → AreAccepted numbers reports (accepted_list numbers reports)
some_list numbers reports =
    let h = exists_marks numbers reports None in
    record {
      marks = marks_after numbers reports None;
      one_each = h.one_each;
      stands = h.stands;
      list = sym (at_most_one numbers reports None (marks_after numbers reports None) h);
    }
