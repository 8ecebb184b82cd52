-- The joiner stands for the sentences that it has taken, one more each time.
use Rattle.std.proofs.Common.{◌≡◌, ◌==◌, ◌&&◌, ℕ, suc, ◌+◌, ◌<◌, ◌≤◌, Bool, true, false, cond, not, List, [], ◌∷◌, ◌++◌, length, set, get_or, filter, nat_eq, nat_lt, Option, Some, None, position, slice_get, if◌then◌else◌, refl, sym, ap, ap₂, ◌∙◌, subst, arith, append-nil, eq-eqb}
use Rattle.std.proofs.lemmas.Bool.{and_parts, and_from, and_left, and_right, eqb-true, ne_eqb, lt-ltb, le-ltb, ltb-true, ltb-false, cond-true, cond-false, false_from_ne_true, false≢true}
use Rattle.std.proofs.lemmas.List.Elements.{filter-append}
use Rattle.std.proofs.lemmas.List.Folds.{find_at}
use Rattle.std.proofs.lemmas.Option.{slice_get-get_or, slice_get_past}
use Rattle.std.specs.List.{find, position_or_len}
use Rattle.std.specs.Option.{option_eq}
use Rattle.aivdm.specs.FragmentJoining.{Taken, total_of, number_of_part, have_one_key, is_run, of_key, last_of, part_bits, joined_run, joined_of}
use Rattle.aivdm.specs.Inner.OpenRuns.{has_key, awaits, begun_by, joined_on, run_on, joined_by, run_by, put, put_some, joined_next, runs_next}
use Rattle.aivdm.specs.Inner.KeptParts.{open_parts, KeepsOpen}
use Rattle.aivdm.specs.OpenMessages.{StandsFor}
use Rattle.aivdm.specs.Sentences.{SentenceFields}
use Rattle.aivdm.specs.declared.joiner.Begun.{Begun}
use Rattle.aivdm.specs.declared.joiner.Joined.TheVariants.{Message, Waiting, Orphan}
use Rattle.aivdm.proofs.Joining.{closed_run, first_joined, first_run, last_number, orphan_run, steps}

-- ---- keys

option_same : (a b : Option ℕ) → option_eq nat_eq a b ≡ true → a ≡ b
option_same None None h = refl
option_same None (Some y) h = absurd (false≢true h)
option_same (Some x) None h = absurd (false≢true h)
option_same (Some x) (Some y) h = ap Some (eqb-true x y h)

option_itself : (a : Option ℕ) → option_eq nat_eq a a ≡ true
option_itself None = refl
option_itself (Some x) = eq-eqb x x refl

-- The sentences have one key.
record SameKey (a b : SentenceFields) : Type 0 where
  seq : a.seq ≡ b.seq
  channel : a.channel ≡ b.channel

same_key : (a b : SentenceFields) → have_one_key a b ≡ true → SameKey a b
same_key a b h =
    let both = and_parts (option_eq nat_eq a.seq b.seq) (option_eq nat_eq a.channel b.channel) h in
    record { seq = option_same a.seq b.seq both.0; channel = option_same a.channel b.channel both.1 }

own_key : (a : SentenceFields) → have_one_key a a ≡ true
own_key a = and_from (option_eq nat_eq a.seq a.seq) (option_eq nat_eq a.channel a.channel) (option_itself a.seq) (option_itself a.channel)

-- a message of one key has no other
other_key : (a b : SentenceFields) (run : Begun) → have_one_key a b ≡ false → has_key b run ≡ true → has_key a run ≡ false
other_key a b run apart here = false_from_ne_true (has_key a run) (λ there.
    let at = and_parts (option_eq nat_eq run.seq a.seq) (option_eq nat_eq run.channel a.channel) there in
    let bt = and_parts (option_eq nat_eq run.seq b.seq) (option_eq nat_eq run.channel b.channel) here in
    let seq : a.seq ≡ b.seq = sym (option_same run.seq a.seq at.0) ∙ option_same run.seq b.seq bt.0 in
    let channel : a.channel ≡ b.channel = sym (option_same run.channel a.channel at.1) ∙ option_same run.channel b.channel bt.1 in
    false≢true (sym apart ∙ rw (seq, channel) (own_key b)))

find_of : (a b : SentenceFields) (runs : List Begun) → SameKey a b → find (has_key a) runs ≡ find (has_key b) runs
find_of a b runs same =
    ap₂ (λ (seq channel : Option ℕ). find (λ (run : Begun). option_eq nat_eq run.seq seq && option_eq nat_eq run.channel channel) runs) same.seq same.channel

of_key_of : (a b : SentenceFields) (taken : List Taken) → SameKey a b → of_key a taken ≡ of_key b taken
of_key_of a b taken same =
    ap₂ (λ (seq channel : Option ℕ). filter (λ (part : Taken). nat_lt 1 (total_of part) && (option_eq nat_eq seq part.sentence.seq && option_eq nat_eq channel part.sentence.channel)) taken)
    same.seq same.channel

-- ---- the sentences of a key, and one more

of_key_more : (key : SentenceFields) (taken : List Taken) (part : Taken) (b : Bool) → (nat_lt 1 (total_of part) && have_one_key key part.sentence) ≡ b
    → of_key key (taken ++ part ∷ []) ≡ of_key key taken ++ (if b then part ∷ [] else [])
of_key_more key taken part b e =
    filter-append (λ (other : Taken). nat_lt 1 (total_of other) && have_one_key key other.sentence) taken (part ∷ []) ∙ rw e refl

of_key_same : (key : SentenceFields) (taken : List Taken) (part : Taken) → (nat_lt 1 (total_of part) && have_one_key key part.sentence) ≡ false
    → of_key key (taken ++ part ∷ []) ≡ of_key key taken
of_key_same key taken part e = of_key_more key taken part false e ∙ append-nil (of_key key taken)

-- ---- the messages, and one of them changed

some_none : {x : Begun} → Some x ≡ None → ⊥
some_none e = cc

found_passes : (key : SentenceFields) (runs : List Begun) (run : Begun) → find (has_key key) runs ≡ Some run → has_key key run ≡ true
found_passes key [] run e = absurd cc
found_passes key (first ∷ runs) run e = by_first (has_key key first) refl e (found_passes key runs run)
  where
    by_first : (b : Bool) → has_key key first ≡ b → cond b (Some first) (find (has_key key) runs) ≡ Some run → (find (has_key key) runs ≡ Some run → has_key key run ≡ true) → has_key key run ≡ true
    by_first true h e later = let is : first ≡ run = cc in ap (has_key key) (sym is) ∙ h
    by_first false h e later = later e

put_found : (key : SentenceFields) (new : Begun) (runs : List Begun) → has_key key new ≡ true → find (has_key key) (put key new runs) ≡ Some new
put_found key new [] h = cond-true (has_key key new) (Some new) None h
put_found key new (run ∷ runs) h = by_run (has_key key run) refl (put_found key new runs h)
  where
    by_run : (b : Bool) → has_key key run ≡ b → find (has_key key) (put key new runs) ≡ Some new → find (has_key key) (if has_key key run then new ∷ runs else run ∷ put key new runs) ≡ Some new
    by_run true e later =
        ap (find (has_key key)) (cond-true (has_key key run) (new ∷ runs) (run ∷ put key new runs) e)
        ∙ cond-true (has_key key new) (Some new) (find (has_key key) runs) h
    by_run false e later =
        ap (find (has_key key)) (cond-false (has_key key run) (new ∷ runs) (run ∷ put key new runs) e)
        ∙ cond-false (has_key key run) (Some run) (find (has_key key) (put key new runs)) e
        ∙ later

put_other : (key other : SentenceFields) (new : Begun) (runs : List Begun) → have_one_key other key ≡ false → has_key key new ≡ true
    → find (has_key other) (put key new runs) ≡ find (has_key other) runs
put_other key other new [] apart h = cond-false (has_key other new) (Some new) None (other_key other key new apart h)
put_other key other new (run ∷ runs) apart h = by_run (has_key key run) refl (put_other key other new runs apart h)
  where
    by_run : (b : Bool) → has_key key run ≡ b → find (has_key other) (put key new runs) ≡ find (has_key other) runs
        → find (has_key other) (if has_key key run then new ∷ runs else run ∷ put key new runs) ≡ cond (has_key other run) (Some run) (find (has_key other) runs)
    by_run true e later =
        ap (find (has_key other)) (cond-true (has_key key run) (new ∷ runs) (run ∷ put key new runs) e)
        ∙ cond-false (has_key other new) (Some new) (find (has_key other) runs) (other_key other key new apart h)
        ∙ sym (cond-false (has_key other run) (Some run) (find (has_key other) runs) (other_key other key run apart e))
    by_run false e later =
        ap (find (has_key other)) (cond-false (has_key key run) (new ∷ runs) (run ∷ put key new runs) e)
        ∙ ap (cond (has_key other run) (Some run)) later

-- the message after a part has the part's key
run_on_key : (key : SentenceFields) (run : Begun) (part : Taken) → has_key key (run_on run part) ≡ has_key key run
run_on_key key run part = by_tests (awaits run part) (nat_lt (number_of_part part) (total_of part)) refl refl
  where
    by_tests : (a b : Bool) → awaits run part ≡ a → nat_lt (number_of_part part) (total_of part) ≡ b → has_key key (run_on run part) ≡ has_key key run
    by_tests true true p q = rw (p, q) refl
    by_tests true false p q = rw (p, q) refl
    by_tests false b p q = rw p refl

run_by_key : (part : Taken) (found : Option Begun) (new : Begun) → ((run : Begun) → found ≡ Some run → has_key part.sentence run ≡ true) → run_by found part ≡ Some new → has_key part.sentence new ≡ true
run_by_key part None new keys e = by_first (number_of_part part == 1) e
  where
    by_first : (b : Bool) → (if b then Some (begun_by part) else None) ≡ Some new → has_key part.sentence new ≡ true
    by_first true e = let is : begun_by part ≡ new = cc in ap (has_key part.sentence) (sym is) ∙ own_key part.sentence
    by_first false e = absurd cc
run_by_key part (Some run) new keys e = by_first (number_of_part part == 1) e
  where
    by_first : (b : Bool) → (if b then Some (begun_by part) else Some (run_on run part)) ≡ Some new → has_key part.sentence new ≡ true
    by_first true e = let is : begun_by part ≡ new = cc in ap (has_key part.sentence) (sym is) ∙ own_key part.sentence
    by_first false e = let is : run_on run part ≡ new = cc in ap (has_key part.sentence) (sym is) ∙ run_on_key part.sentence run part ∙ keys run refl

run_by_none : (found : Option Begun) (part : Taken) → run_by found part ≡ None → found ≡ None
run_by_none None part e = refl
run_by_none (Some run) part e = by_first (number_of_part part == 1) e
  where
    by_first : (b : Bool) → (if b then Some (begun_by part) else Some (run_on run part)) ≡ None → Some run ≡ None
    by_first true e = absurd (some_none e)
    by_first false e = absurd (some_none e)

-- ---- the step

next_found : (runs : List Begun) (part : Taken) → find (has_key part.sentence) (runs_next runs part) ≡ run_by (find (has_key part.sentence) runs) part
unfolding runs_next
next_found runs part = by_run (run_by (find (has_key part.sentence) runs) part) refl
  where
    by_run : (r : Option Begun) → run_by (find (has_key part.sentence) runs) part ≡ r
        → find (has_key part.sentence) (put_some part.sentence (run_by (find (has_key part.sentence) runs) part) runs) ≡ run_by (find (has_key part.sentence) runs) part
    by_run None e =
        ap (λ (r : Option Begun). find (has_key part.sentence) (put_some part.sentence r runs)) e ∙ run_by_none (find (has_key part.sentence) runs) part e ∙ sym e
    by_run (Some new) e =
        ap (λ (r : Option Begun). find (has_key part.sentence) (put_some part.sentence r runs)) e
        ∙ put_found part.sentence new runs (run_by_key part (find (has_key part.sentence) runs) new (found_passes part.sentence runs) e)
        ∙ sym e

next_other : (runs : List Begun) (part : Taken) (other : SentenceFields) → have_one_key other part.sentence ≡ false
    → find (has_key other) (runs_next runs part) ≡ find (has_key other) runs
unfolding runs_next
next_other runs part other apart = by_run (run_by (find (has_key part.sentence) runs) part) refl
  where
    by_run : (r : Option Begun) → run_by (find (has_key part.sentence) runs) part ≡ r
        → find (has_key other) (put_some part.sentence (run_by (find (has_key part.sentence) runs) part) runs) ≡ find (has_key other) runs
    by_run None e = ap (λ (r : Option Begun). find (has_key other) (put_some part.sentence r runs)) e
    by_run (Some new) e =
        ap (λ (r : Option Begun). find (has_key other) (put_some part.sentence r runs)) e
        ∙ put_other part.sentence other new runs apart (run_by_key part (find (has_key part.sentence) runs) new (found_passes part.sentence runs) e)

-- a sentence of a message of several
pub stands_more : (runs : List Begun) (taken : List Taken) (part : Taken) → StandsFor runs taken → 1 ≤ number_of_part part → number_of_part part ≤ total_of part → 1 < total_of part
    → (joined_next runs part ≡ joined_of taken part) × StandsFor (runs_next runs part) (taken ++ part ∷ [])
unfolding StandsFor joined_next joined_of
stands_more runs taken part stands some within more =
    let key = part.sentence in
    let step = steps (find (has_key key) runs) (of_key key taken) part (stands key) some within more in
    let several : nat_lt 1 (total_of part) ≡ true = lt-ltb 1 (total_of part) more in
    let counted : of_key key (taken ++ part ∷ []) ≡ of_key key taken ++ part ∷ []
    = of_key_more key taken part true (and_from (nat_lt 1 (total_of part)) (have_one_key key part.sentence) several (own_key key)) in
    let not_one : (total_of part == 1) ≡ false = ne_eqb (total_of part) 1 (λ e. absurd (omega arith)) in (
      step.joined
          ∙ ap (λ (l : List Taken). joined_run part (last_of (number_of_part part) l)) (sym counted)
          ∙ sym (cond-false _ (Message (part_bits part)) (joined_run part (last_of (number_of_part part) (of_key key (taken ++ part ∷ [])))) not_one),
      λ other. by_key other (have_one_key other key) refl step.keeps counted,
    )
  where
    by_key : (other : SentenceFields) (b : Bool) → have_one_key other part.sentence ≡ b
        → KeepsOpen (run_by (find (has_key part.sentence) runs) part) (open_parts (of_key part.sentence taken ++ part ∷ []))
        → of_key part.sentence (taken ++ part ∷ []) ≡ of_key part.sentence taken ++ part ∷ []
        → KeepsOpen (find (has_key other) (runs_next runs part)) (open_parts (of_key other (taken ++ part ∷ [])))
    by_key other true e keeps counted =
        let same = same_key other part.sentence e in
        let found : find (has_key other) (runs_next runs part) ≡ run_by (find (has_key part.sentence) runs) part
        = find_of other part.sentence (runs_next runs part) same ∙ next_found runs part in
        let parts : of_key other (taken ++ part ∷ []) ≡ of_key part.sentence taken ++ part ∷ [] = of_key_of other part.sentence (taken ++ part ∷ []) same ∙ counted in
        subst (λ (f : Option Begun). KeepsOpen f (open_parts (of_key other (taken ++ part ∷ [])))) (sym found)
        (subst (λ (l : List Taken). KeepsOpen (run_by (find (has_key part.sentence) runs) part) (open_parts l)) (sym parts) keeps)
    by_key other false e keeps counted =
        let parts : of_key other (taken ++ part ∷ []) ≡ of_key other taken = of_key_same other taken part (and_right (nat_lt 1 (total_of part)) (have_one_key other part.sentence) e) in
        subst (λ (f : Option Begun). KeepsOpen f (open_parts (of_key other (taken ++ part ∷ [])))) (sym (next_other runs part other e))
        (subst (λ (l : List Taken). KeepsOpen (find (has_key other) runs) (open_parts l)) (sym parts) (stands other))

-- a sentence that is a message by itself
pub stands_alone : (runs : List Begun) (taken : List Taken) (part : Taken) → StandsFor runs taken → total_of part ≡ 1
    → (Message (part_bits part) ≡ joined_of taken part) × StandsFor runs (taken ++ part ∷ [])
unfolding StandsFor joined_of
stands_alone runs taken part stands one = (
  sym (cond-true _ (Message (part_bits part)) (joined_run part (last_of (number_of_part part) (of_key part.sentence (taken ++ part ∷ [])))) (eq-eqb (total_of part) 1 one)),
  λ other.
      let single : nat_lt 1 (total_of part) ≡ false = le-ltb 1 (total_of part) (omega arith) in
      subst (λ (l : List Taken). KeepsOpen (find (has_key other) runs) (open_parts l))
      (sym (of_key_same other taken part (and_left (nat_lt 1 (total_of part)) (have_one_key other part.sentence) single)))
      (stands other),
)

-- no sentence was taken
pub stands_empty : StandsFor [] []
unfolding StandsFor open_parts
stands_empty = λ key. tt

-- ---- the code's list of messages

module _ (key : SentenceFields) (runs : List Begun) where
  place_some : (at : ℕ) (b : Bool) → nat_lt (position_or_len (has_key key) runs) (length runs) ≡ b
      → Some at ≡ (if b then Some (position_or_len (has_key key) runs) else None) → (at ≡ position_or_len (has_key key) runs) × (position_or_len (has_key key) runs < length runs)
  place_some at true t e = (cc, ltb-true (position_or_len (has_key key) runs) (length runs) t)
  place_some at false t e = absurd cc

  place : (at : ℕ) → Some at ≡ position (has_key key) runs → (at ≡ position_or_len (has_key key) runs) × (position_or_len (has_key key) runs < length runs)
  place at e = place_some at (nat_lt (position_or_len (has_key key) runs) (length runs)) refl e

  pub place_found : (at : ℕ) (d : Begun) → Some at ≡ position (has_key key) runs → find (has_key key) runs ≡ Some (get_or runs at d)
  place_found at d e =
      let p = place at e in
      find_at (has_key key) runs ∙ ap (slice_get runs) (sym p.0) ∙ slice_get-get_or runs at d (omega arith)

  place_past : (b : Bool) → nat_lt (position_or_len (has_key key) runs) (length runs) ≡ b → None ≡ (if b then Some (position_or_len (has_key key) runs) else None)
      → length runs ≤ position_or_len (has_key key) runs
  place_past true t e = absurd cc
  place_past false t e = ltb-false (position_or_len (has_key key) runs) (length runs) t

  pub place_none : None ≡ position (has_key key) runs → find (has_key key) runs ≡ None
  place_none e =
      find_at (has_key key) runs
      ∙ slice_get_past runs (position_or_len (has_key key) runs) (place_past (nat_lt (position_or_len (has_key key) runs) (length runs)) refl e)

pub set_put : (key : SentenceFields) (new : Begun) (runs : List Begun) → position_or_len (has_key key) runs < length runs → set runs (position_or_len (has_key key) runs) new ≡ put key new runs
set_put key new [] below = absurd (omega arith)
set_put key new (run ∷ runs) below = by_run (has_key key run) refl (set_put key new runs)
  where
    by_run : (b : Bool) → has_key key run ≡ b → (position_or_len (has_key key) runs < length runs → set runs (position_or_len (has_key key) runs) new ≡ put key new runs)
        → set (run ∷ runs) (cond (not (has_key key run)) (1 + position_or_len (has_key key) runs) 0) new ≡ (if has_key key run then new ∷ runs else run ∷ put key new runs)
    by_run true e later = rw e refl
    by_run false e later =
        let place : cond (not (has_key key run)) (1 + position_or_len (has_key key) runs) 0 ≡ suc (position_or_len (has_key key) runs) = rw e (omega arith) in
        ap (λ (n : ℕ). set (run ∷ runs) n new) place
        ∙ ap (λ (l : List Begun). run ∷ l) (later (omega arith))
        ∙ sym (cond-false (has_key key run) (new ∷ runs) (run ∷ put key new runs) e)

pub append_put : (key : SentenceFields) (new : Begun) (runs : List Begun) → find (has_key key) runs ≡ None → runs ++ new ∷ [] ≡ put key new runs
append_put key new [] e = refl
append_put key new (run ∷ runs) e = by_run (has_key key run) refl e (append_put key new runs)
  where
    by_run : (b : Bool) → has_key key run ≡ b → cond b (Some run) (find (has_key key) runs) ≡ None → (find (has_key key) runs ≡ None → runs ++ new ∷ [] ≡ put key new runs)
        → run ∷ (runs ++ new ∷ []) ≡ (if has_key key run then new ∷ runs else run ∷ put key new runs)
    by_run true h e later = absurd (some_none e)
    by_run false h e later = ap (λ (l : List Begun). run ∷ l) (later e) ∙ sym (cond-false (has_key key run) (new ∷ runs) (run ∷ put key new runs) h)

-- what the code's places make of the step

pub joined_at : (runs : List Begun) (part : Taken) (found : Option Begun) → find (has_key part.sentence) runs ≡ found → joined_next runs part ≡ joined_by found part
unfolding joined_next
joined_at runs part found e = ap (λ (f : Option Begun). joined_by f part) e

pub runs_at : (runs : List Begun) (part : Taken) (found : Option Begun) → find (has_key part.sentence) runs ≡ found → runs_next runs part ≡ put_some part.sentence (run_by found part) runs
unfolding runs_next
runs_at runs part found e = ap (λ (f : Option Begun). put_some part.sentence (run_by f part) runs) e

pub put_place : (key : SentenceFields) (new : Begun) (runs : List Begun) (at : ℕ) → Some at ≡ position (has_key key) runs → set runs at new ≡ put key new runs
put_place key new runs at e =
    let p = place key runs at e in
    ap (λ (n : ℕ). set runs n new) p.0 ∙ set_put key new runs p.1

-- ---- the step by the place of the part's key

module _ (runs : List Begun) (part : Taken) where
  pub at_first : number_of_part part ≡ 1 → (Waiting ≡ joined_next runs part) × (put part.sentence (begun_by part) runs ≡ runs_next runs part)
  at_first one =
      let found = find (has_key part.sentence) runs in
      let first : (number_of_part part == 1) ≡ true = eq-eqb (number_of_part part) 1 one in (
        sym (joined_at runs part found refl ∙ first_joined found part first),
        sym (runs_at runs part found refl ∙ ap (λ (r : Option Begun). put_some part.sentence r runs) (first_run found part first)),
      )

  pub at_found : (run : Begun) → (number_of_part part ≡ 1 → ⊥) → find (has_key part.sentence) runs ≡ Some run
      → (joined_on run part ≡ joined_next runs part) × (put part.sentence (run_on run part) runs ≡ runs_next runs part)
  at_found run later e =
      let other : (number_of_part part == 1) ≡ false = ne_eqb (number_of_part part) 1 later in (
        sym (joined_at runs part (Some run) e ∙ cond-false (number_of_part part == 1) Waiting (joined_on run part) other),
        sym (
            runs_at runs part (Some run) e
            ∙ ap (λ (r : Option Begun). put_some part.sentence r runs) (cond-false (number_of_part part == 1) (Some (begun_by part)) (Some (run_on run part)) other)
            ),
      )

  pub at_none : (number_of_part part ≡ 1 → ⊥) → find (has_key part.sentence) runs ≡ None → (Orphan ≡ joined_next runs part) × (runs ≡ runs_next runs part)
  at_none later e =
      let other : (number_of_part part == 1) ≡ false = ne_eqb (number_of_part part) 1 later in (
        sym (joined_at runs part None e ∙ cond-false (number_of_part part == 1) Waiting Orphan other),
        sym (runs_at runs part None e ∙ ap (λ (r : Option Begun). put_some part.sentence r runs) (cond-false (number_of_part part == 1) (Some (begun_by part)) None other)),
      )

-- ---- a whole message is closed

pub closed : (before : List Taken) (last next : Taken) (bits : List Bool) → 1 < total_of last → joined_of before last ≡ Message bits
    → have_one_key next.sentence last.sentence ≡ true → 2 ≤ number_of_part next → number_of_part next ≤ total_of next
    → joined_of (before ++ last ∷ []) next ≡ Orphan
unfolding joined_of
closed before last next bits several completes same two within =
    let several_last : nat_lt 1 (total_of last) ≡ true = lt-ltb 1 (total_of last) several in
    let several_next : nat_lt 1 (total_of next) ≡ true = lt-ltb 1 (total_of next) (omega arith) in
    let last_not_one : (total_of last == 1) ≡ false = ne_eqb (total_of last) 1 (λ e. absurd (omega arith)) in
    let next_not_one : (total_of next == 1) ≡ false = ne_eqb (total_of next) 1 (λ e. absurd (omega arith)) in
    let run = last_of (number_of_part last) (of_key last.sentence (before ++ last ∷ [])) in
    let whole : number_of_part last ≡ total_of last
    = last_number last run bits (sym (cond-false _ (Message (part_bits last)) (joined_run last run) last_not_one) ∙ completes) in
    let key = next.sentence in
    let front = of_key key before in
    let with_last : of_key key (before ++ last ∷ []) ≡ front ++ last ∷ []
    = of_key_more key before last true (and_from (nat_lt 1 (total_of last)) (have_one_key key last.sentence) several_last same) in
    let with_next : of_key key ((before ++ last ∷ []) ++ next ∷ []) ≡ (front ++ last ∷ []) ++ next ∷ []
    = of_key_more key (before ++ last ∷ []) next true (and_from (nat_lt 1 (total_of next)) (have_one_key key next.sentence) several_next (own_key key))
    ∙ ap (λ (l : List Taken). l ++ next ∷ []) with_last in
    let looked = last_of (number_of_part next) (of_key key ((before ++ last ∷ []) ++ next ∷ [])) in
    cond-false _ (Message (part_bits next)) (joined_run next looked) next_not_one
    ∙ orphan_run next looked (ap (λ (l : List Taken). is_run (last_of (number_of_part next) l)) with_next ∙ closed_run front last next whole two within)
