-- Ticks taken one after the other, as lines settle them.
use Rattle.std.proofs.Common.{ℕ, zero, suc, ◌≡◌, ◌+◌, ◌<◌, ◌≤◌, ◌⊎◌, inl, inr, List, [], ◌∷◌, ◌++◌, append_assoc, append-nil, length, take, drop, refl, sym, ap, ap₂, subst, ◌∙◌, arith}
use Rattle.std.specs.Prelude.{All}
use Rattle.std.proofs.lemmas.List.{take-append-drop}
use Rattle.std.proofs.lemmas.List.FromFn.{take-map-range_with_len}
use Rattle.auditor.proofs.ForCallers.{more_stay}
use Rattle.log_lines.specs.SentLines.{sent}
use Rattle.log_lines.specs.Standing.{StandsFor as JudgeStandsFor}
use Rattle.log_lines.specs.declared.judge.Judge.{Judge}
use Rattle.meetings.specs.declared.pair.Pair.{Pair}
use Rattle.ranks.specs.declared.rank.Rank.{Rank}
use Rattle.scenario_values.specs.declared.values.Scenario.{Scenario}
use Rattle.settled_ticks.specs.Settled.{IsSettled}
use Rattle.settled_ticks.specs.Sightings.{seen_first, sighted, sighting_by}
use Rattle.settled_ticks.specs.Standing.{IsHandedOut, handed_out, latest_sighting as sighting_of}
use Rattle.settled_ticks.specs.declared.settled_ticks.SettledTicks.{SettledTicks}
use Rattle.settled_ticks.proofs.ForCallers.{first_push, none_settled, settled_ticks_are_first, settled_ticks_stay, what_is_settled_stays}
use Rattle.settling.specs.Inner.TakenTicks.{HasTaken, HasTakenAll, HasTakenSettled, IsBeforeAll, IsSettling, Taker, TakesNext}
use Rattle.settling.specs.ManySettled.{HaveManySettled}
use Rattle.settling.specs.ScenarioAudit.{audit_numbers}
use Rattle.traces.specs.Audited.{AuditNumbers, Begins, MoveLittle, SeenVessels, Sighting}
use Rattle.traces.specs.ManyTraces.{HaveMoreThan}
use Rattle.traces.specs.declared.all_traces.TheConstants.{MOST_TRACES}
use Rattle.tracks.specs.VesselsHeld.{Sent}

lt_or_le : (m n : ℕ) → (m < n) ⊎ (n ≤ m)
lt_or_le m n = grind arith

-- ---- before the first tick

pub none_begin : (numbers : AuditNumbers) → HaveMoreThan MOST_TRACES numbers [] → ⊥
none_begin numbers h = some h.pairs h.many h.begin
  where
    some : (pairs : List Pair) → MOST_TRACES < length pairs → All (λ (pair : Pair). (start : ℕ) × Begins numbers [] pair start) pairs → ⊥
    some [] lt all = absurd (omega arith)
    some (pair ∷ pairs) lt all = (all 0 pair (omega arith)).1.begins.contact

pub before_all : {Item : Type 0} (taker : Taker Item) (ticks : SettledTicks) (scenario : Scenario) → handed_out ticks ≡ 0
    → IsBeforeAll taker scenario → HasTakenSettled taker ticks scenario [] []
before_all taker ticks scenario none before = record {
  settled = λ i. ((λ h. absurd (none_settled scenario i h)), (λ lt. absurd (omega (arith, none))));
  taken = record {
    sound = before.sound;
    next = before.count ∙ sym none;
    last = before.last;
    stands = rw none before.stands;
    few = rw none (none_begin (audit_numbers scenario));
  };
}

-- ---- what a tick that was handed out is to the one who takes it

module _ (scenario : Scenario) (old ticks : SettledTicks) (judge : Judge) (handed : IsHandedOut old ticks scenario judge) where
  pub moves_now : {Item : Type 0} (taker : Taker Item) (lines : List (List ℕ)) (given : List Item) → JudgeStandsFor judge scenario lines
      → HasTaken taker old scenario lines given → MoveLittle taker.latest (sighting_of ticks).vessels
  moves_now taker lines given judged up =
      let seen = seen_first scenario (sent scenario lines) (handed_out old) in
      subst (λ (vessels : SeenVessels). MoveLittle vessels (sighting_of ticks).vessels)
      (sym (taker.seen_last (audit_numbers scenario) seen given up.stands)) (handed.moves lines judged)

  pub more_then : {Item : Type 0} (taker : Taker Item) (lines : List (List ℕ)) (given : List Item) → HasTaken taker old scenario lines given → taker.count ≤ taker.last_tick
  more_then taker lines given up = let next = up.next in let last = up.last in let within = handed.within in omega (arith, next, last, within)

-- what is given, of the vessels and their ranks
pub sighting_given : (ticks : SettledTicks) (vessels : SeenVessels) (ranks : List Rank) → vessels ≡ (sighting_of ticks).vessels → ranks ≡ (sighting_of ticks).ranks
    → record { vessels = vessels; ranks = ranks } ≡ sighting_of ticks
sighting_given ticks vessels ranks seen told = λ i. record { vessels = seen i; ranks = told i }

module _ (scenario : Scenario) where
  -- ---- too many traces

  -- Where too many traces begin at the first ticks, they do so at more of them.
  pub many_later : (lines : List (List ℕ)) (j k : ℕ) → j ≤ k → HaveMoreThan MOST_TRACES (audit_numbers scenario) (seen_first scenario (sent scenario lines) j)
      → HaveMoreThan MOST_TRACES (audit_numbers scenario) (seen_first scenario (sent scenario lines) k)
  many_later lines j k le many =
      let all = seen_first scenario (sent scenario lines) k in
      let front : take j all ≡ seen_first scenario (sent scenario lines) j = take-map-range_with_len (sighting_by scenario (sent scenario lines)) 0 k j le in
      subst (HaveMoreThan MOST_TRACES (audit_numbers scenario))
      (ap (λ (l : List Sighting). l ++ drop j all) (sym front) ∙ take-append-drop j all)
      (more_stay MOST_TRACES (audit_numbers scenario) (seen_first scenario (sent scenario lines) j) (drop j all) many)

  -- This tick begins too many.
  pub many_now : (lines : List (List ℕ)) (k : ℕ) (seen : Sighting) → seen ≡ sighting_by scenario (sent scenario lines) k
      → HaveMoreThan MOST_TRACES (audit_numbers scenario) (seen_first scenario (sent scenario lines) k ++ seen ∷ [])
      → HaveMoreThan MOST_TRACES (audit_numbers scenario) (seen_first scenario (sent scenario lines) (k + 1))
  many_now lines k seen told many =
      subst (HaveMoreThan MOST_TRACES (audit_numbers scenario))
      (ap (λ (s : Sighting). seen_first scenario (sent scenario lines) k ++ s ∷ []) told ∙ first_push scenario (sent scenario lines) k) many

  -- A tick that is left at the end begins too many.
  pub many_at_end : (old ticks : SettledTicks) (judge : Judge) → IsHandedOut old ticks scenario judge → (seen : Sighting) (lines : List (List ℕ)) → JudgeStandsFor judge scenario lines
      → seen ≡ sighting_of ticks → HaveMoreThan MOST_TRACES (audit_numbers scenario) (seen_first scenario (sent scenario lines) (handed_out old) ++ seen ∷ [])
      → HaveMoreThan MOST_TRACES (audit_numbers scenario) (sighted scenario (sent scenario lines))
  many_at_end old ticks judge handed seen lines judged is many =
      let within = handed.within in
      many_later lines (handed_out old + 1) (scenario.window.ticks + 1) (omega (arith, within)) (many_now lines (handed_out old) seen (is ∙ handed.seen lines judged) many)

  -- ---- more lines

  -- What was seen at settled ticks stays.
  same_first : (lines more : List (List ℕ)) (k : ℕ) → ((i : ℕ) → i < k → IsSettled scenario lines i)
      → seen_first scenario (sent scenario lines) k ≡ seen_first scenario (sent scenario (lines ++ more)) k
  same_first lines more zero settled = refl
  same_first lines more (suc k) settled =
      let next : k + 1 ≡ suc k = omega arith in
      let push : (messages : List Sent) → seen_first scenario messages (suc k) ≡ seen_first scenario messages k ++ sighting_by scenario messages k ∷ [] =
      λ messages. sym (first_push scenario messages k ∙ ap (seen_first scenario messages) next) in
      push (sent scenario lines)
      ∙ ap₂ (λ (ts : List Sighting) (s : Sighting). ts ++ s ∷ []) (same_first lines more k (λ i lt. settled i (omega arith)))
      (sym (what_is_settled_stays scenario lines more k (settled k (omega arith))))
      ∙ sym (push (sent scenario (lines ++ more)))

  pub many_settled_stay : (lines more : List (List ℕ)) → HaveManySettled scenario lines → HaveManySettled scenario (lines ++ more)
  many_settled_stay lines more many = record {
    count = many.count;
    settled = λ i lt. settled_ticks_stay scenario lines more i (many.settled i lt);
    many = subst (HaveMoreThan MOST_TRACES (audit_numbers scenario)) (same_first lines more many.count many.settled) many.many;
  }

  -- Where too many traces begin at settled ticks, they do so in the whole window.
  pub many_settled_in_all : (lines : List (List ℕ)) → HaveManySettled scenario lines → HaveMoreThan MOST_TRACES (audit_numbers scenario) (sighted scenario (sent scenario lines))
  many_settled_in_all lines many = many_later lines many.count (scenario.window.ticks + 1) (few many.count many.settled) many.many
    where
      few : (count : ℕ) → ((i : ℕ) → i < count → IsSettled scenario lines i) → count ≤ scenario.window.ticks + 1
      few zero settled = omega arith
      few (suc last) settled = let within = (settled last (omega arith)).within in omega (arith, within)

  -- ---- settled ticks

  pub settled_below : (lines : List (List ℕ)) (k next : ℕ) → next ≡ k + 1 → ((i : ℕ) → i < k → IsSettled scenario lines i) → IsSettled scenario lines k
      → (i : ℕ) → i < next → IsSettled scenario lines i
  settled_below lines k next is below at i lt =
      elim (lt_or_le i k) [ inl less ↦ below i less | inr le ↦ settled_ticks_are_first scenario lines k i at (omega (arith, is)) ]

  module _ {Item : Type 0} (taker : Taker Item) (ticks : SettledTicks) where
    pub taken_with_more : (lines more : List (List ℕ)) (given : List Item) → HasTakenSettled taker ticks scenario lines given → HasTaken taker ticks scenario (lines ++ more) given
    taken_with_more lines more given stands =
        let same = same_first lines more (handed_out ticks) (λ i lt. (stands.settled i).1 lt) in
        let up = stands.taken in
        record {
          sound = up.sound;
          next = up.next;
          last = up.last;
          stands = subst (λ (ts : List Sighting). taker.Stands (audit_numbers scenario) ts given) same up.stands;
          few = subst (λ (ts : List Sighting). HaveMoreThan MOST_TRACES (audit_numbers scenario) ts → ⊥) same up.few;
        }

    pub nothing_more : (lines : List (List ℕ)) (given items : List Item) → items ≡ [] → HasTaken taker ticks scenario lines given → HasTaken taker ticks scenario lines (given ++ items)
    nothing_more lines given items none up =
        subst (λ (l : List Item). HasTaken taker ticks scenario lines l) (sym (ap (λ (l : List Item). given ++ l) none ∙ append-nil given)) up

    pub settling_from : (lines more : List (List ℕ)) (given items : List Item) → items ≡ [] → HasTakenSettled taker ticks scenario lines given
        → IsSettling taker ticks scenario (lines ++ more) (given ++ items)
    settling_from lines more given items none stands = record {
      taken = nothing_more (lines ++ more) given items none (taken_with_more lines more given stands);
      settled = λ i lt. settled_ticks_stay scenario lines more i ((stands.settled i).1 lt);
    }

    pub stands_then : (lines : List (List ℕ)) (given : List Item) → IsSettling taker ticks scenario lines given → (IsSettled scenario lines (handed_out ticks) → ⊥)
        → HasTakenSettled taker ticks scenario lines given
    stands_then lines given up open_next = record {
      settled = λ i. (
        (λ h. elim (lt_or_le i (handed_out ticks)) [
          | inl lt ↦ lt
          | inr le ↦ absurd (open_next (settled_ticks_are_first scenario lines i (handed_out ticks) h le))
        ]),
        (λ lt. up.settled i lt),
      );
      taken = up.taken;
    }

    pub few_taken : (lines : List (List ℕ)) (given : List Item) → HasTakenSettled taker ticks scenario lines given → HaveManySettled scenario lines → ⊥
    few_taken lines given stands h =
        let le : h.count ≤ handed_out ticks = elim (lt_or_le (handed_out ticks) h.count) [
          | inl lt ↦ absurd (let bad : handed_out ticks < handed_out ticks = (stands.settled (handed_out ticks)).0 (h.settled (handed_out ticks) lt) in omega arith)
          | inr le ↦ le
        ] in
        stands.taken.few (many_later lines h.count (handed_out ticks) le h.many)

    -- ---- one tick more

    module _ (new : Taker Item) (after : SettledTicks) (judge : Judge) (seen : Sighting) (lines : List (List ℕ)) (given items further all : List Item)
        (takes : TakesNext taker new seen further) (is_seen : seen ≡ sighting_of after) (put : all ≡ items ++ further) (handed : IsHandedOut ticks after scenario judge)
        (judged : JudgeStandsFor judge scenario lines) where
      pub taken_on : HasTaken taker ticks scenario lines (given ++ items) → HasTaken new after scenario lines (given ++ all)
      taken_on up =
          let numbers = audit_numbers scenario in
          let before = seen_first scenario (sent scenario lines) (handed_out ticks) in
          let grown : before ++ seen ∷ [] ≡ seen_first scenario (sent scenario lines) (handed_out after) =
          ap (λ (s : Sighting). before ++ s ∷ []) (is_seen ∙ handed.seen lines judged)
          ∙ first_push scenario (sent scenario lines) (handed_out ticks) ∙ ap (seen_first scenario (sent scenario lines)) (sym handed.next) in
          let behind : (given ++ items) ++ further ≡ given ++ all = append_assoc given items further ∙ ap (λ (l : List Item). given ++ l) (sym put) in
          record {
            sound = takes.sound;
            next = takes.count ∙ ap (λ (n : ℕ). n + 1) up.next ∙ sym handed.next;
            last = takes.last_tick ∙ up.last;
            stands = subst (λ (l : List Item). new.Stands numbers (seen_first scenario (sent scenario lines) (handed_out after)) l) behind
                (subst (λ (ts : List Sighting). new.Stands numbers ts ((given ++ items) ++ further)) grown (takes.stands numbers before (given ++ items) up.stands));
            few = subst (λ (ts : List Sighting). HaveMoreThan MOST_TRACES numbers ts → ⊥) grown (takes.few numbers before (given ++ items) up.stands);
          }

      pub settling_on : IsSettled scenario lines (handed_out ticks) → IsSettling taker ticks scenario lines (given ++ items) → IsSettling new after scenario lines (given ++ all)
      settling_on settled up = record {
        taken = taken_on up.taken;
        settled = settled_below lines (handed_out ticks) (handed_out after) handed.next up.settled settled;
      }

    -- ---- after the last tick

    all_handed_out : (lines : List (List ℕ)) (given : List Item) → HasTaken taker ticks scenario lines given
        → scenario.window.ticks < handed_out ticks → handed_out ticks ≡ scenario.window.ticks + 1
    all_handed_out lines given up past =
        let within = taker.within up.sound in
        let next = up.next in
        let last = up.last in
        omega (arith, within, next, last, past)

    -- What stands for all ticks that were handed out stands for the window's, where none is left.
    pub taken_all : (lines : List (List ℕ)) (given : List Item) → HasTaken taker ticks scenario lines given → scenario.window.ticks < handed_out ticks
        → HasTakenAll taker scenario lines given
    taken_all lines given up past =
        let all = all_handed_out lines given up past in
        record {
          sound = up.sound;
          all = up.next ∙ all ∙ ap (λ (n : ℕ). n + 1) (sym up.last);
          stands = subst (λ (k : ℕ). taker.Stands (audit_numbers scenario) (seen_first scenario (sent scenario lines) k) given) all up.stands;
          few = λ many.
              up.few (subst (λ (k : ℕ). HaveMoreThan MOST_TRACES (audit_numbers scenario) (seen_first scenario (sent scenario lines) k)) (sym all) many);
        }
