-- As one trace of a window after the other takes its step, begins, or ends.
use Rattle.std.proofs.Common.{◌≡◌, ◌≢◌, ℕ, ◌+◌, ◌-◌, ◌<◌, ◌≤◌, ◌^◌, List, [], ◌∷◌, ◌++◌, length, length-append, get_or, set, append_assoc, append-nil, refl, sym, ap, subst, ◌∙◌, arith}
use Rattle.std.specs.Prelude.{Option}
use Rattle.std.specs.List.{AllPairs, AllZip, Contains}
use Rattle.std.specs.Option.{option_copied}
use Rattle.encounters.specs.Standing.{IsStateAfter}
use Rattle.encounters.specs.declared.pair_step.PairStep.{PairStep}
use Rattle.meetings.specs.Answers.{answer_of}
use Rattle.meetings.specs.Atoms.{IsRankedRow}
use Rattle.meetings.specs.declared.pair.Pair.{Pair}
use Rattle.mtl_formulas.specs.declared.glance.Glance.{Glance}
use Rattle.outside.proofs.Members.{in_head, in_tail}
use Rattle.traces.specs.Audited.{AuditNumbers, SeenVessels, Sighting, step_of, terms_of, trace_ranks}
use Rattle.traces.specs.Keeping.{HasEndedTrace, HasRested, HasTakenStep, IsAtStep, IsNextRow, Keeper}
use Rattle.traces.specs.Known.{AreKnown, AreOpened, IsFollowed, IsUpTo, Known, next_step_of, opened, pairs_of, watched}
use Rattle.traces.specs.Standing.{StandsApart, StandsFor, latest_vessels, traces_of}
use Rattle.traces.specs.Window.{AreStepped, TakesStep}
use Rattle.traces.specs.declared.all_traces.AllTraces.{AllTraces}
use Rattle.traces.specs.declared.next_row.NextRow.{NextRow}
use Rattle.traces.proofs.Growing.{zip_push}
use Rattle.traces.proofs.NextTick.{different_pairs, known_count, known_within, steps_count}

-- ---- which step comes next

module _ (numbers : AuditNumbers) (ticks : List Sighting) where
  pub at_step : (knowns : List Known) (step : ℕ) → AreKnown numbers ticks knowns → step ≡ length ticks - 1 → (known : Known) → Contains knowns known → IsAtStep step known
  at_step knowns step are e known i =
      let is = are.each known i in
      let count = steps_count numbers ticks known is in
      let within = known_within numbers ticks known is in
      (omega (arith, e, count, within), omega (arith, e, within))

  pub few_steps : (knowns : List Known) → AreKnown numbers ticks knowns → (known : Known) → Contains knowns known → length known.steps ≤ length ticks
  few_steps knowns are known i = omega (arith, steps_count numbers ticks known (are.each known i))

-- ---- steps

module _ {Kept Given : Type 0} (numbers : AuditNumbers) (ticks : List Sighting) (seen : SeenVessels) (step : ℕ) (knowns : List Known) (given : Given) where
  -- The first traces have taken their step, and the others have not.
  pub record IsUnderWay (keeper : Keeper Kept Given) (traces : AllTraces) (kept : List Kept) (index : ℕ) : Type 0 where
    pub front : List Known
    pub rest : List Known
    pub done : List Known
    pub parted : knowns ≡ front ++ rest
    pub count : length done ≡ index
    pub followed : AllZip (IsFollowed numbers ticks seen) front done
    pub at : (known : Known) → Contains rest known → IsAtStep step known
    pub short : (known : Known) → Contains rest known → length known.steps < 2 ^ 31
    pub stands : StandsFor traces numbers ticks (done ++ rest)
    pub keeps : keeper.Stands numbers step kept done rest given

  pub under_way_none : (keeper : Keeper Kept Given) (traces : AllTraces) (kept : List Kept) → StandsFor traces numbers ticks knowns → keeper.Stands numbers step kept [] knowns given
      → ((known : Known) → Contains knowns known → IsAtStep step known) → ((known : Known) → Contains knowns known → length known.steps < 2 ^ 31) → IsUnderWay keeper traces kept 0
  under_way_none keeper traces kept stands keeps at short = record {
    front = [];
    rest = knowns;
    done = [];
    parted = refl;
    count = refl;
    followed = tt;
    at = at;
    short = short;
    stands = stands;
    keeps = keeps;
  }

  module _ (old new : Keeper Kept Given) (traces traces' : AllTraces) (kept : List Kept) (index : ℕ) (other is : Kept) (latest : step ≡ length ticks - 1) (within : index < traces_of traces)
      (takes : (front : List Known) (known : Known) (back : List Known) → StandsFor traces numbers ticks (front ++ known ∷ back) → index ≡ length front → length known.steps < 2 ^ 31 → IsUpTo ticks known
      → IsAtStep step known → TakesStep old new numbers ticks seen step traces' index (get_or kept index other) is front known back) where
    by_rest : (front rest done : List Known) → knowns ≡ front ++ rest → length done ≡ index → AllZip (IsFollowed numbers ticks seen) front done
        → ((known : Known) → Contains rest known → IsAtStep step known) → ((known : Known) → Contains rest known → length known.steps < 2 ^ 31)
        → StandsFor traces numbers ticks (done ++ rest) → old.Stands numbers step kept done rest given
        → IsUnderWay new traces' (set kept index is) (index + 1)
    by_rest front [] done parted count followed at short stands keeps =
        absurd (omega (arith, length-append done [], known_count traces numbers ticks (done ++ []) stands, count, within))
    by_rest front (k ∷ ks) done parted count followed at short stands keeps =
        let here : IsAtStep step k = at k (in_head k ks) in
        let taken = takes done k ks stands (sym count) (short k (in_head k ks)) (sym here.0 ∙ latest) here in
        let after : Known = watched k (next_step_of ticks seen k) taken.answers in
        record {
          front = front ++ k ∷ [];
          rest = ks;
          done = done ++ after ∷ [];
          parted = parted ∙ sym (append_assoc front (k ∷ []) ks);
          count = omega (arith, length-append done (after ∷ []), count);
          followed = zip_push (IsFollowed numbers ticks seen) front done k after followed (record { answers = taken.answers; is = refl; row = taken.row });
          at = λ known i. at known (in_tail k ks known i);
          short = λ known i. short known (in_tail k ks known i);
          stands = subst (λ (ys : List Known). StandsFor traces' numbers ticks ys) (sym (append_assoc done (after ∷ []) ks)) taken.stands;
          keeps = taken.keeps kept other given keeps refl;
        }

    pub under_way_more : IsUnderWay old traces kept index → IsUnderWay new traces' (set kept index is) (index + 1)
    under_way_more u = by_rest u.front u.rest u.done u.parted u.count u.followed u.at u.short u.stands u.keeps

  -- all have taken it
  module _ (keeper : Keeper Kept Given) (traces : AllTraces) (kept : List Kept) (index : ℕ) (past : traces_of traces ≤ index) where
    all_by_rest : (front rest done : List Known) → knowns ≡ front ++ rest → length done ≡ index → AllZip (IsFollowed numbers ticks seen) front done
        → StandsFor traces numbers ticks (done ++ rest) → keeper.Stands numbers step kept done rest given → AreStepped keeper numbers ticks seen step traces kept knowns given
    all_by_rest front (k ∷ ks) done parted count followed stands keeps =
        absurd (omega (arith, length-append done (k ∷ ks), known_count traces numbers ticks (done ++ k ∷ ks) stands, count, past))
    all_by_rest front [] done parted count followed stands keeps = record {
      after = done;
      followed = subst (λ (xs : List Known). AllZip (IsFollowed numbers ticks seen) xs done) (sym (parted ∙ append-nil front)) followed;
      stands = subst (λ (ys : List Known). StandsFor traces numbers ticks ys) (append-nil done) stands;
      keeps = keeps;
    }

    pub under_way_all : IsUnderWay keeper traces kept index → AreStepped keeper numbers ticks seen step traces kept knowns given
    under_way_all u = all_by_rest u.front u.rest u.done u.parted u.count u.followed u.stands u.keeps

-- ---- the next row of a trace

-- what a call says of the trace at an index, whatever the traces stand for
abbrev pub Says : AllTraces → ℕ → (AuditNumbers → List Sighting → List Known → Known → List Known → Type 0) → Type 0
Says traces index Is =
    (numbers : AuditNumbers) (ticks : List Sighting) (front : List Known) (known : Known) (back : List Known) → StandsFor traces numbers ticks (front ++ known ∷ back) → index ≡ length front
    → Is numbers ticks front known back

-- as the calls say it, one after the other, by the vessels seen at the latest tick
module _ (numbers : AuditNumbers) (ticks : List Sighting) (seen : SeenVessels) where
  pub gives_row : (traces middle traces' : AllTraces) (index : ℕ) (taken : Option PairStep) (next : NextRow) → option_copied next.seen ≡ taken
      → Says traces index (λ numbers ticks front known back. IsStateAfter numbers.detect known.steps next.was.now)
      → Says traces index (λ numbers ticks front known back. taken ≡ step_of known.pair (latest_vessels traces) seen)
      → Says traces index (λ numbers ticks front known back. StandsFor middle numbers ticks (front ++ known ∷ back))
      → Says middle index (λ numbers ticks front known back. length known.steps < 2 ^ 31 → IsUpTo ticks known
      → IsRankedRow (terms_of numbers) (trace_ranks ticks known.pair known.start) (known.steps ++ option_copied next.seen ∷ []) (length known.steps) (answer_of next.row.now))
      → Says middle index (λ numbers ticks front known back. length known.steps < 2 ^ 31 → IsUpTo ticks known
      → StandsFor traces' numbers ticks (front ++ watched known (option_copied next.seen) (answer_of next.row.now) ∷ back))
      → Says traces' index (λ numbers ticks front known back. IsStateAfter numbers.detect known.steps next.is.now)
      → (front : List Known) (known : Known) (back : List Known) → StandsFor traces numbers ticks (front ++ known ∷ back) → index ≡ length front → length known.steps < 2 ^ 31 → IsUpTo ticks known
      → IsNextRow numbers (trace_ranks ticks known.pair known.start) known (next_step_of ticks seen known) next
      × StandsFor traces' numbers ticks (front ++ watched known (next_step_of ticks seen known) (answer_of next.row.now) ∷ back)
  gives_row traces middle traces' index taken next same was is_step stands row took is front known back h e short up =
      let here : option_copied next.seen ≡ next_step_of ticks seen known =
      same ∙ is_step numbers ticks front known back h e ∙ ap (λ (s : Sighting). step_of known.pair s.vessels seen) h.latest in
      let now = stands numbers ticks front known back h e in
      let after = took numbers ticks front known back now e short up in (
        record {
          seen = here;
          was = was numbers ticks front known back h e;
          is = subst (λ (o : Option PairStep). IsStateAfter numbers.detect (known.steps ++ o ∷ []) next.is.now) here
              (is numbers ticks front (watched known (option_copied next.seen) (answer_of next.row.now)) back after e);
          row = subst (λ (o : Option PairStep). IsRankedRow (terms_of numbers) (trace_ranks ticks known.pair known.start) (known.steps ++ o ∷ []) (length known.steps) (answer_of next.row.now)) here
              (row numbers ticks front known back now e short up);
        },
        subst (λ (o : Option PairStep). StandsFor traces' numbers ticks (front ++ watched known o (answer_of next.row.now) ∷ back)) here after,
      )

-- ---- one trace takes its step

module _ {Kept Given : Type 0} (numbers : AuditNumbers) (ticks : List Sighting) (seen : SeenVessels) (step : ℕ) (traces : AllTraces) (index : ℕ) (was is : Kept) (front : List Known)
    (known : Known) (back : List Known) (at : index ≡ length front) (here : IsAtStep step known) where
  pub takes_row : (old new : Keeper Kept Given) (next : NextRow) → HasTakenStep old new index step next was is
      → IsNextRow numbers (trace_ranks ticks known.pair known.start) known (next_step_of ticks seen known) next
      × StandsFor traces numbers ticks (front ++ watched known (next_step_of ticks seen known) (answer_of next.row.now) ∷ back)
      → TakesStep old new numbers ticks seen step traces index was is front known back
  takes_row old new next it row = record {
    answers = answer_of next.row.now;
    row = row.0.row;
    stands = row.1;
    keeps = λ kept other given keeps same.
        it.stands numbers (trace_ranks ticks known.pair known.start) kept other front back known (next_step_of ticks seen known) given keeps at same here row.0;
  }

  pub takes_none : (keeper : Keeper Kept Given) (glance : Glance) → HasRested keeper index step glance was is
      → (taken : Option PairStep) → taken ≡ next_step_of ticks seen known → StandsApart traces numbers ticks front known back taken glance
      → TakesStep keeper keeper numbers ticks seen step traces index was is front known back
  takes_none keeper glance it taken same apart =
      let row : StandsApart traces numbers ticks front known back (next_step_of ticks seen known) glance =
      subst (λ (o : Option PairStep). StandsApart traces numbers ticks front known back o glance) same apart in
      record {
        answers = row.answers;
        row = row.row.row;
        stands = row.stands;
        keeps = λ kept other given keeps same.
            it.stands numbers (trace_ranks ticks known.pair known.start) kept other front back known (next_step_of ticks seen known) row.answers given keeps at same here row.row;
      }

-- ---- traces begin

all_count : (numbers : AuditNumbers) (done new : List Known) (traces : AllTraces) (ticks : List Sighting) → StandsFor traces numbers ticks (done ++ new) → (begun left : List Known) → new ≡ begun ++ left
    → traces_of traces ≡ length done + (length begun + length left)
all_count numbers done new traces ticks stands begun left e =
    known_count traces numbers ticks (done ++ new) stands ∙ length-append done new ∙ ap (λ (n : ℕ). length done + n) (ap (λ (ks : List Known). length ks) e ∙ length-append begun left)

module _ {Kept Given : Type 0} (numbers : AuditNumbers) (done new : List Known) (start step : ℕ) (given : Given) where
  -- The first of the new traces have begun, and the others have not.
  pub record AreBeginning (keeper : Keeper Kept Given) (kept : List Kept) : Type 0 where
    pub begun : List Known
    pub left : List Known
    pub parted : new ≡ begun ++ left
    pub opened_left : AreOpened start left
    pub count : length kept ≡ length done + length begun
    pub keeps : keeper.Stands numbers step kept done begun given

  pub beginning_none : (keeper : Keeper Kept Given) (kept : List Kept) → length kept ≡ length done → keeper.Stands numbers step kept done [] given → AreOpened start new → AreBeginning keeper kept
  beginning_none keeper kept count keeps all = record {
    begun = [];
    left = new;
    parted = refl;
    opened_left = all;
    count = omega (arith, count);
    keeps = keeps;
  }

  module _ (traces : AllTraces) (ticks : List Sighting) (stands : StandsFor traces numbers ticks (done ++ new)) where
    pub beginning_all : (keeper : Keeper Kept Given) (kept : List Kept) → traces_of traces ≤ length kept → AreBeginning keeper kept → keeper.Stands numbers step kept done new given
    beginning_all keeper kept past b = by_left b.begun b.left b.parted b.count b.keeps
      where
        by_left : (begun left : List Known) → new ≡ begun ++ left → length kept ≡ length done + length begun → keeper.Stands numbers step kept done begun given → keeper.Stands numbers step kept done new given
        by_left begun [] e count keeps = subst (λ (ks : List Known). keeper.Stands numbers step kept done ks given) (sym (e ∙ append-nil begun)) keeps
        by_left begun (k ∷ ks) e count keeps = absurd (omega (arith, all_count numbers done new traces ticks stands begun (k ∷ ks) e, count, past))

    module _ (old keeper : Keeper Kept Given) (kept kept' : List Kept) (once : AllPairs ◌≢◌ (pairs_of (done ++ new))) (pair : Pair) (one_more : length kept' ≡ length kept + 1)
        (within : length kept < traces_of traces)
        (is : (front : List Known) (known : Known) (back : List Known) → StandsFor traces numbers ticks (front ++ known ∷ back) → length kept ≡ length front → pair ≡ known.pair)
        (it : (begun : List Known) → old.Stands numbers step kept done begun given → (Contains (pairs_of (done ++ begun)) pair → ⊥)
        → keeper.Stands numbers step kept' done (begun ++ opened pair start ∷ []) given) where
      pub begin_more : AreBeginning old kept → AreBeginning keeper kept'
      begin_more b = by_left b.begun b.left b.parted b.opened_left b.count b.keeps
        where
          by_left : (begun left : List Known) → new ≡ begun ++ left → AreOpened start left → length kept ≡ length done + length begun → old.Stands numbers step kept done begun given
              → AreBeginning keeper kept'
          by_left begun [] e all count keeps = absurd (omega (arith, all_count numbers done new traces ticks stands begun [] e, count, within))
          by_left begun (k ∷ ks) e all count keeps =
              let parted : done ++ new ≡ (done ++ begun) ++ k ∷ ks = ap (λ (ks : List Known). done ++ ks) e ∙ sym (append_assoc done begun (k ∷ ks)) in
              let at : length kept ≡ length (done ++ begun) = count ∙ sym (length-append done begun) in
              let same : pair ≡ k.pair = is (done ++ begun) k ks (subst (λ (ys : List Known). StandsFor traces numbers ticks ys) parted stands) at in
              let here : opened pair start ≡ k = ap (λ (p : Pair). opened p start) same ∙ sym all.0 in
              let fresh : Contains (pairs_of (done ++ begun)) pair → ⊥ =
              λ i. different_pairs (done ++ begun) k ks (subst (λ (ys : List Known). AllPairs ◌≢◌ (pairs_of ys)) parted once) (subst (λ (p : Pair). Contains (pairs_of (done ++ begun)) p) same i) in
              record {
                begun = begun ++ k ∷ [];
                left = ks;
                parted = e ∙ sym (append_assoc begun (k ∷ []) ks);
                opened_left = all.1;
                count = omega (arith, one_more, count, length-append begun (k ∷ []));
                keeps = subst (λ (m : Known). keeper.Stands numbers step kept' done (begun ++ m ∷ []) given) here (it begun keeps fresh);
              }

-- ---- ends

module _ {Kept Given : Type 0} (numbers : AuditNumbers) (step : ℕ) (knowns : List Known) (given : Given) where
  -- The first traces have ended, and the others have not.
  pub record AreEnding (keeper : Keeper Kept Given) (kept : List Kept) (index : ℕ) : Type 0 where
    pub ended : List Known
    pub rest : List Known
    pub parted : knowns ≡ ended ++ rest
    pub count : length ended ≡ index
    pub keeps : keeper.Ends numbers step kept ended rest given

  pub ending_none : (keeper : Keeper Kept Given) (kept : List Kept) → keeper.Ends numbers step kept [] knowns given → AreEnding keeper kept 0
  ending_none keeper kept keeps = record { ended = []; rest = knowns; parted = refl; count = refl; keeps = keeps }

  pub ending_more : (old new : Keeper Kept Given) (kept : List Kept) (index : ℕ) (other is : Kept) → index < length kept → index < length knowns → HasEndedTrace old new index (get_or kept index other) is
      → AreEnding old kept index → AreEnding new (set kept index is) (index + 1)
  ending_more old new kept index other is inside within it a = by_rest a.ended a.rest a.parted a.count a.keeps
    where
      by_rest : (ended rest : List Known) → knowns ≡ ended ++ rest → length ended ≡ index → old.Ends numbers step kept ended rest given → AreEnding new (set kept index is) (index + 1)
      by_rest ended [] parted count keeps = absurd (omega (arith, ap (λ (ks : List Known). length ks) parted, length-append ended [], count, within))
      by_rest ended (k ∷ ks) parted count keeps = record {
        ended = ended ++ k ∷ [];
        rest = ks;
        parted = parted ∙ sym (append_assoc ended (k ∷ []) ks);
        count = omega (arith, length-append ended (k ∷ []), count);
        keeps = it.ends numbers step kept other ended ks k given keeps (sym count) inside refl;
      }

  pub ending_all : (keeper : Keeper Kept Given) (kept : List Kept) (index : ℕ) → length knowns ≤ index → AreEnding keeper kept index → keeper.Ends numbers step kept knowns [] given
  ending_all keeper kept index past a = by_rest a.ended a.rest a.parted a.count a.keeps
    where
      by_rest : (ended rest : List Known) → knowns ≡ ended ++ rest → length ended ≡ index → keeper.Ends numbers step kept ended rest given → keeper.Ends numbers step kept knowns [] given
      by_rest ended [] parted count keeps = subst (λ (ks : List Known). keeper.Ends numbers step kept ks [] given) (sym (parted ∙ append-nil ended)) keeps
      by_rest ended (k ∷ ks) parted count keeps = absurd (omega (arith, ap (λ (ks : List Known). length ks) parted, length-append ended (k ∷ ks), count, past))
