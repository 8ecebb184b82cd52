-- How a state that passes rows beyond the last one goes from place to place.
use Rattle.std.proofs.Common.{◌≡◌, ℕ, ◌+◌, ◌<◌, ◌≤◌, sym, ◌∙◌, arith, Bool, true, false, inl, inr, [], ◌∷◌, ◌++◌, length, set, get_or-set_same, get_or-set_other, Option, Some, None}
use Rattle.std.specs.Prelude.{is_some}
use Rattle.std.proofs.lemmas.Bool.{cases_lt}
use Rattle.std.proofs.lemmas.List.{get_or_past}
use Rattle.mtl_formulas.specs.declared.atom.Atom.{Atom}
use Rattle.mtl_formulas.specs.declared.verdict.Verdict.{Verdict}
use Rattle.mtl_formulas.specs.FormulaTree.{FormulaTree}
use Rattle.mtl_formulas.specs.FormulaMeasures.{reach_of}
use Rattle.mtl_formulas.specs.Traces.{Trace}
use Rattle.mtl_monitor.specs.Following.{Closes, IsEnded, past_of}
use Rattle.mtl_monitor.specs.declared.program.Program.{Program}
use Rattle.early_monitor.specs.declared.pass_state.PassState.{PassState}
use Rattle.mtl_early.specs.Decided.{IsDecidedNow, IsNextDecided}
use Rattle.early_monitor.specs.Inner.Known.{is_known, is_answered, known_at}
use Rattle.early_monitor.specs.Inner.Passing.{Continues, IsGiving, IsLooked, IsLooking}
use Rattle.early_monitor.proofs.Places.{known_by_answer, last_known, looked_some, looked_unknown, looked_known}

module _ (p : Program) (m : PassState) (t : FormulaTree) (before : Trace) (row : Atom → Verdict) (looks : IsLooking p m t before row) (more : m.place ≤ m.reach) where
  -- what was known of the position at this place
  pub was_known : (was : Bool) → was ≡ known_at m.known.items (m.place + 1) → is_known before t (m.place + 1) ≡ was
  was_known was is = elim (cases_lt m.place m.reach) [
    | inl within ↦ sym (looks.old (m.place + 1) (omega arith) (omega (arith, within))) ∙ sym is
    | inr last ↦
        let place : m.place + 1 ≡ reach_of t + 1 = omega (arith, last, more, looks.reach) in
        let past : length m.known.items ≤ m.place + 1 = omega (arith, m.places, last) in
        let none : known_at m.known.items (m.place + 1) ≡ false = get_or_past m.known.items (m.place + 1) false past in
        (rw place (last_known before t)) ∙ sym (is ∙ none)
  ]

  pub is_known_now : (answer : Option (ℕ × Verdict)) → IsEnded answer t (before ++ row ∷ []) (past_of m.ahead) → is_answered answer ≡ is_known (before ++ row ∷ []) t m.place
  is_known_now answer ended = known_by_answer answer (before ++ row ∷ []) t m.place (omega (arith, more, looks.reach)) (rw looks.past at ended)

  pub looks_some : (answer : Option (ℕ × Verdict)) → IsEnded answer t (before ++ row ∷ []) (past_of m.ahead) → is_answered answer ≡ true → known_at m.known.items (m.place + 1) ≡ false
      → IsLooked answer t (before ++ row ∷ []) m.place
  looks_some None ended is was = cc
  looks_some (Some a) ended is was =
      looked_some before row t m.place a (rw looks.past at ended) (sym (is_known_now (Some a) ended) ∙ is) (was_known false (sym was))

  pub looks_none : (answer : Option (ℕ × Verdict)) → IsEnded answer t (before ++ row ∷ []) (past_of m.ahead) → is_answered answer ≡ false → IsLooked None t (before ++ row ∷ []) m.place
  looks_none answer ended is = looked_unknown before row t m.place (sym (is_known_now answer ended) ∙ is)

  pub looks_known : known_at m.known.items (m.place + 1) ≡ true → IsLooked None t (before ++ row ∷ []) m.place
  looks_known was = looked_known before row t m.place (was_known true (sym was))

  pub IsLooking-next : (n : PassState) (is : Bool) → n.state ≡ m.state → n.reach ≡ m.reach → n.place ≡ m.place + 1
      → n.known.items ≡ set m.known.items m.place is → Closes p n.ahead (t ∷ []) (before ++ row ∷ []) → past_of n.ahead ≡ past_of m.ahead + 1
      → is ≡ is_known (before ++ row ∷ []) t m.place → IsLooking p n t before row
  IsLooking-next n is state reach place known closes past now =
      record {
        follows = rw state looks.follows;
        reach = reach ∙ looks.reach;
        ahead = closes;
        past = omega (arith, past, place, looks.past);
        new = λ k below. elim (cases_lt k m.place) [
          | inl earlier ↦
              let other : known_at (set m.known.items m.place is) k ≡ known_at m.known.items k = get_or-set_other m.known.items m.place k is false (λ e. omega (arith, e, earlier)) in
              rw known (other ∙ looks.new k earlier)
          | inr here ↦
              let place_is : k ≡ m.place = omega (arith, here, below, place) in
              let inside : m.place < length m.known.items = omega (arith, m.places, more) in
              rw (known, place_is) (get_or-set_same m.known.items m.place is false inside ∙ now)
        ];
        old = λ k from within.
            let later : m.place < k = omega (arith, from, place) in
            let other : known_at (set m.known.items m.place is) k ≡ known_at m.known.items k = get_or-set_other m.known.items m.place k is false (λ e. omega (arith, e, later)) in
            rw known (other ∙ looks.old k (omega (arith, later)) (omega (arith, within, reach)));
      }

-- Between two places no position was decided.
abbrev pub NoneFrom : FormulaTree → Trace → ℕ → ℕ → Type 0
NoneFrom t rows from to = (j : ℕ) → from + length rows ≤ j + (reach_of t + 1) → j + (reach_of t + 1) < to + length rows → ¬ IsDecidedNow t rows j

pub none_more : (answer : Option (ℕ × Verdict)) (t : FormulaTree) (rows : Trace) (from place : ℕ) → is_some answer ≡ false → IsLooked answer t rows place → NoneFrom t rows from place → NoneFrom t rows from (place + 1)
none_more (Some a) t rows from place none looked earlier = cc
none_more None t rows from place none looked earlier = λ j after below. elim (cases_lt (j + (reach_of t + 1)) (place + length rows)) [
  | inl before ↦ earlier j after before
  | inr here ↦ looked j (omega (arith, here, below))
]

module _ (p : Program) (m : PassState) (t : FormulaTree) (rows : Trace) (from : ℕ) (h : IsGiving p m t rows from) where
  earlier_none : (place j : ℕ) → NoneFrom t rows m.place place → from ≤ j → j + (reach_of t + 1) < place + length rows → ¬ IsDecidedNow t rows j
  earlier_none place j none after below = elim (cases_lt (j + (reach_of t + 1)) (m.place + length rows)) [
    | inl given ↦ h.passed j after given
    | inr since ↦ none j since below
  ]

  pub gives_some : (n : PassState) (answer : Option (ℕ × Verdict)) (place : ℕ) → is_some answer ≡ true → m.place ≤ place → n.place ≡ place + 1
      → NoneFrom t rows m.place place → IsLooked answer t rows place → IsLooking p n t h.before h.row
      → IsNextDecided answer t rows from × Continues p answer n t rows
  gives_some n None place some since next none looked looks = cc
  gives_some n (Some a) place some since next none looked looks =
      let at : a.0 + (reach_of t + 1) ≡ place + length rows = looked.position in (
        record {
          after = omega (arith, at, since, h.behind);
          decided = looked.decided;
          value = looked.value;
          first = λ j after below. earlier_none place j none after (omega (arith, at, below));
        },
        record {
          before = h.before;
          row = h.row;
          split = h.split;
          looks = looks;
          passed = λ j after below. absurd (omega (arith, after, below, at, next));
          behind = omega (arith, at, next);
        },
      )

  pub gives_none : (n : PassState) → n.place ≡ n.reach + 1 → n.reach ≡ m.reach → NoneFrom t rows m.place n.place → IsLooking p n t h.before h.row
      → IsNextDecided None t rows from × Continues p None n t rows
  gives_none n done reach none looks = (
    λ j after decided. earlier_none n.place j none after (omega (arith, decided.inside, done, looks.reach)) decided,
    record {
      follows = rw h.split looks.follows;
      reach = looks.reach;
      done = done;
      known = λ k within. rw h.split (looks.new k (omega (arith, within, done)));
    },
  )
