-- What the marks of all traces come to is what the definition counts.
use Rattle.std.proofs.Common.{◌≡◌, ◌≢◌, ℕ, zero, suc, ◌+◌, ◌<◌, Bool, true, false, cond, if◌then◌else◌, List, [], ◌∷◌, ◌++◌, length, map, refl, sym, ap, subst, ◌∙◌, arith, eq-eqb, ne_eqb}
use Rattle.std.specs.Prelude.{IsSomeAnd, Option, None, Some, slice_get}
use Rattle.std.specs.List.{AllPairs, Contains, filter, range_with_len, sum_by}
use Rattle.std.proofs.lemmas.List.Sums.{sum_by-append, sum_by-cons}
use Rattle.mtl_formulas.specs.declared.verdict.Verdict.{Verdict}
use Rattle.mtl_formulas.specs.declared.verdict.Verdict.TheVariants.{No, Open, Yes}
use Rattle.mtl_formulas.specs.Traces.{value_in}
use Rattle.rule_set.specs.NamedTrees.{NamedTree, rule_at}
use Rattle.encounters.specs.declared.pair_step.PairStep.{PairStep}
use Rattle.meetings.specs.Atoms.{AreRankedRows}
use Rattle.meetings.specs.declared.pair.Pair.{Pair}
use Rattle.audit_rows.specs.Stretches.{mark_at}
use Rattle.audit_rows.specs.Standing.{HaveOwnTopics}
use Rattle.audit_rows.specs.Tracks.{Track}
use Rattle.audit_rows.specs.declared.mark.Mark.{Mark}
use Rattle.audit_rows.specs.declared.row.Row.{Row}
use Rattle.audit_rows.specs.declared.topic.Topic.{Topic}
use Rattle.audit_rows.specs.declared.topic.Topic.TheVariants as topic
use Rattle.traces.specs.Audited.{AuditNumbers, Sighting, terms_of, trace_ranks}
use Rattle.traces.specs.Known.{AreKnown, Known, pairs_of}
use Rattle.auditor.specs.AuditTotals.{AreTotals, AreTraces, IsTotal, Traced, is_value, positions_with}
use Rattle.auditor.specs.AuditTracks.{IsTraceOf}
use Rattle.auditor.specs.Inner.AuditKeeping.{AreTracksOfAll}
use Rattle.auditor.specs.Inner.TracesMarked.{AreEnded}
use Rattle.auditor.specs.RuleCounts.{told}
use Rattle.audit_rows.specs.MarkCounts.{is_any, is_broken, is_nothing, is_undecided, passing}
use Rattle.audit_rows.specs.Rows.{AreRows}
use Rattle.auditor.proofs.RuleRuns.{runs_counted}
use Rattle.auditor.specs.Tallies.{Tallies, counted, is_of_rule, of_rule}
use Rattle.auditor.specs.TraceKeeping.{AreRuleMarksWhole, AreRuleTracks, AreTracks}
use Rattle.auditor.specs.ValueMarks.{mark_of}
use Rattle.auditor.specs.declared.total.Total.{Total}
use Rattle.traces.proofs.ForCallers.{from_map}
use Rattle.auditor.proofs.TracksOf.{HaveRows}

-- ---- the traces

abbrev pub traced : Known → Traced
traced known = record { pair = known.pair; start = known.start; trace = known.trace }

same_pairs : (knowns : List Known) → map (λ (t : Traced). t.pair) (map traced knowns) ≡ pairs_of knowns
same_pairs [] = refl
same_pairs (k ∷ ks) = ap (λ (ps : List Pair). k.pair ∷ ps) (same_pairs ks)

pub are_traces : (numbers : AuditNumbers) (ticks : List Sighting) (knowns : List Known) → AreKnown numbers ticks knowns → HaveRows numbers ticks knowns → AreTraces numbers ticks (map traced knowns)
are_traces numbers ticks knowns are rows = record {
  each = λ t i. (let (known, j, e) = from_map traced knowns t i in
      let is = are.each known j in
      let of : IsTraceOf numbers ticks known.pair known.start known.trace = record {
        begins = is.begins;
        rows = subst (λ (s : List (Option PairStep)). AreRankedRows (terms_of numbers) (trace_ranks ticks known.pair known.start) s known.trace) is.steps (rows known j);
      } in
      subst (λ (u : Traced). IsTraceOf numbers ticks u.pair u.start u.trace) e of);
  all = λ pair start begins. subst (λ (ps : List Pair). Contains ps pair) (sym (same_pairs knowns)) (are.all pair start begins);
  once = subst (λ (ps : List Pair). AllPairs ◌≢◌ ps) (sym (same_pairs knowns)) are.once;
}

-- ---- counting marks

same_length : {X Y : Type 0} (b c : Bool) (x : X) (y : Y) (xs : List X) (ys : List Y) → b ≡ c → length xs ≡ length ys → length (cond b (x ∷ xs) xs) ≡ length (cond c (y ∷ ys) ys)
same_length {X} {Y} b c x y xs ys e h =
    subst (λ (d : Bool). length (cond b (x ∷ xs) xs) ≡ length (cond d (y ∷ ys) ys)) e
    (elim b as (λ d. length (cond d (x ∷ xs) xs) ≡ length (cond d (y ∷ ys) ys)) [ true ↦ ap suc h | false ↦ h ])

marks_passing : (test : Mark → Bool) (passes : Verdict → Bool) → ((v : Verdict) → test (mark_of v) ≡ passes v) → (values : ℕ → Verdict) (a : ℕ) (marks : List Mark)
    → ((i : ℕ) → i < length marks → mark_at marks i ≡ mark_of (values (a + i))) → length (filter test marks) ≡ length (filter (λ i. passes (values i)) (range_with_len a (length marks)))
marks_passing test passes agree values a [] each = refl
marks_passing test passes agree values a (m ∷ ms) each =
    let here : a + 0 ≡ a = omega arith in
    let first : m ≡ mark_of (values a) = each 0 (omega arith) ∙ ap (λ (n : ℕ). mark_of (values n)) here in
    same_length (test m) (passes (values a)) m a (filter test ms) (filter (λ i. passes (values i)) (range_with_len (a + 1) (length ms))) (ap test first ∙ agree (values a))
    (marks_passing test passes agree values (a + 1) ms (λ i lt. let there : a + suc i ≡ (a + 1) + i = omega arith in each (suc i) (omega arith) ∙ ap (λ (n : ℕ). mark_of (values n)) there))

yes_agree : (v : Verdict) → is_nothing (mark_of v) ≡ is_value Yes v
yes_agree Yes = refl
yes_agree No = refl
yes_agree Open = refl

no_agree : (v : Verdict) → is_broken (mark_of v) ≡ is_value No v
no_agree Yes = refl
no_agree No = refl
no_agree Open = refl

open_agree : (v : Verdict) → is_undecided (mark_of v) ≡ is_value Open v
open_agree Yes = refl
open_agree No = refl
open_agree Open = refl

all_pass : (marks : List Mark) → length (filter (λ (m : Mark). true) marks) ≡ length marks
all_pass [] = refl
all_pass (m ∷ ms) = ap suc (all_pass ms)

-- ---- counting the marks of a rule's tracks

module _ (rule : ℕ) (measure : List Mark → ℕ) where
  in_meeting : (track : Track) (pair : Pair) → track.topic ≡ topic.Meeting pair → of_rule rule measure track ≡ 0
  in_meeting track pair e = ap (λ (t : Topic). if is_of_rule rule t then measure track.marks else 0) e

  in_other : (track : Track) (pair : Pair) (other : ℕ) → track.topic ≡ topic.Verdict pair other → other ≢ rule → of_rule rule measure track ≡ 0
  in_other track pair other e ne =
      ap (λ (t : Topic). if is_of_rule rule t then measure track.marks else 0) e
      ∙ ap (λ (b : Bool). if b then measure track.marks else 0) (ne_eqb other rule ne)

  in_rule : (track : Track) (pair : Pair) (other : ℕ) → track.topic ≡ topic.Verdict pair other → other ≡ rule → of_rule rule measure track ≡ measure track.marks
  in_rule track pair other e same =
      ap (λ (t : Topic). if is_of_rule rule t then measure track.marks else 0) e
      ∙ ap (λ (b : Bool). if b then measure track.marks else 0) (eq-eqb other rule same)

  none_counted : (known : Known) (from : ℕ) (rules : List NamedTree) (tracks : List Track) → rule < from
      → AreRuleTracks AreRuleMarksWhole known from (map (λ (r : NamedTree). r.tree) rules) tracks → counted rule measure tracks ≡ 0
  none_counted known from [] [] lt h = refl
  none_counted known from [] (t ∷ ts) lt h = absurd h
  none_counted known from (r ∷ rs) [] lt h = absurd h
  none_counted known from (r ∷ rs) (t ∷ ts) lt h =
      let here = in_other t known.pair from h.0.topic (λ e. absurd (omega arith)) in
      let rest = none_counted known (from + 1) rs ts (omega arith) h.1 in
      let all = sum_by-cons (of_rule rule measure) t ts in
      omega arith

  one_counted : (count : ℕ) (known : Known) (from : ℕ) (rules : List NamedTree) (tracks : List Track) (k : ℕ) → rule ≡ from + k → k < length rules
      → ((marks : List Mark) → AreRuleMarksWhole (rule_at rules k).tree known.trace marks → measure marks ≡ count)
      → AreRuleTracks AreRuleMarksWhole known from (map (λ (r : NamedTree). r.tree) rules) tracks → counted rule measure tracks ≡ count
  one_counted count known from [] tracks k e lt f h = absurd (omega arith)
  one_counted count known from (r ∷ rs) [] k e lt f h = absurd h
  one_counted count known from (r ∷ rs) (t ∷ ts) zero e lt f h =
      let here = in_rule t known.pair from h.0.topic (omega arith) in
      let this = f t.marks h.0.marks in
      let rest = none_counted known (from + 1) rs ts (omega arith) h.1 in
      let all = sum_by-cons (of_rule rule measure) t ts in
      omega arith
  one_counted count known from (r ∷ rs) (t ∷ ts) (suc k) e lt f h =
      let here = in_other t known.pair from h.0.topic (λ same. absurd (omega arith)) in
      let rest = one_counted count known (from + 1) rs ts k (omega arith) (omega arith) f h.1 in
      let all = sum_by-cons (of_rule rule measure) t ts in
      omega arith

  trace_counted : (numbers : AuditNumbers) (count : ℕ) (known : Known) (mine : List Track) → rule < length numbers.rules
      → ((marks : List Mark) → AreRuleMarksWhole (rule_at numbers.rules rule).tree known.trace marks → measure marks ≡ count)
      → AreTracks AreRuleMarksWhole numbers known mine → counted rule measure mine ≡ count
  trace_counted numbers count known [] lt f h = absurd h
  trace_counted numbers count known (meeting ∷ rules) lt f h =
      let none = in_meeting meeting known.pair h.0.topic in
      let rest = one_counted count known 0 numbers.rules rules rule (omega arith) lt f h.1 in
      let all = sum_by-cons (of_rule rule measure) meeting rules in
      omega arith

  all_counted : (numbers : AuditNumbers) (count : Traced → ℕ) → rule < length numbers.rules
      → ((known : Known) (marks : List Mark) → AreRuleMarksWhole (rule_at numbers.rules rule).tree known.trace marks → measure marks ≡ count (traced known))
      → (knowns : List Known) (tracks : List Track) → AreTracksOfAll AreRuleMarksWhole numbers knowns tracks → counted rule measure tracks ≡ sum_by count (map traced knowns)
  all_counted numbers count lt f [] tracks h = ap (λ (ts : List Track). counted rule measure ts) h
  all_counted numbers count lt f (k ∷ ks) tracks (mine, others, h) =
      let whole : counted rule measure tracks ≡ counted rule measure (mine ++ others) = ap (λ (ts : List Track). counted rule measure ts) h.0.whole in
      let both = sum_by-append (of_rule rule measure) mine others in
      let here = trace_counted numbers (count (traced k)) k mine lt (f k) h.1 in
      let rest = all_counted numbers count lt f ks others h.2 in
      let all = sum_by-cons count (traced k) (map traced ks) in
      omega arith

-- ---- the totals

module _ (numbers : AuditNumbers) (rule : ℕ) (lt : rule < length numbers.rules) (knowns : List Known) (tracks : List Track) (h : AreTracksOfAll AreRuleMarksWhole numbers knowns tracks) where
  by_value : (value : Verdict) (test : Mark → Bool) → ((v : Verdict) → test (mark_of v) ≡ is_value value v)
      → counted rule (passing test) tracks ≡ sum_by (positions_with value (rule_at numbers.rules rule).tree) (map traced knowns)
  by_value value test agree =
      all_counted rule (passing test) numbers (positions_with value (rule_at numbers.rules rule).tree) lt (λ known marks is.
      marks_passing test (is_value value) agree (value_in known.trace (rule_at numbers.rules rule).tree) 0 marks
      (λ i within. let same : i ≡ 0 + i = omega arith in is.each i within ∙ ap (λ (n : ℕ). mark_of (value_in known.trace (rule_at numbers.rules rule).tree n)) same)
      ∙ ap (λ (n : ℕ). length (filter (λ i. is_value value (value_in known.trace (rule_at numbers.rules rule).tree i)) (range_with_len 0 n))) is.count) knowns tracks h

  by_length : counted rule (passing is_any) tracks ≡ sum_by (λ (t : Traced). length t.trace) (map traced knowns)
  by_length = all_counted rule (passing is_any) numbers (λ (t : Traced). length t.trace) lt (λ known marks is. all_pass marks ∙ is.count) knowns tracks h

  pub is_total : (rows : List Row) (total : Total) → HaveOwnTopics tracks → AreRows tracks rows → Tallies rule tracks total → IsTotal numbers (map traced knowns) rows rule total
  is_total rows total own are t = record {
    positions = t.positions ∙ ap told by_length;
    yes = t.yes ∙ ap told (by_value Yes is_nothing yes_agree);
    no = t.no ∙ ap told (by_value No is_broken no_agree);
    undecided = t.undecided ∙ ap told (by_value Open is_undecided open_agree);
    runs = t.runs ∙ ap told (runs_counted rule tracks rows own are);
  }

some_still : {X : Type 0} (P Q : X → Type 0) (o : Option X) → ((x : X) → P x → Q x) → IsSomeAnd o P → IsSomeAnd o Q
some_still P Q None f h = h
some_still P Q (Some x) f h = f x h

pub are_totals : (numbers : AuditNumbers) (ticks : List Sighting) (knowns : List Known) (rows : List Row) (totals : List Total) → AreKnown numbers ticks knowns → HaveRows numbers ticks knowns
    → AreEnded numbers knowns rows totals → AreTotals numbers ticks rows totals
are_totals numbers ticks knowns rows totals are rows_of ended = record {
  traces = map traced knowns;
  are_traces = are_traces numbers ticks knowns are rows_of;
  count = ended.are_totals.0;
  each = λ rule lt. some_still (Tallies rule ended.tracks) (IsTotal numbers (map traced knowns) rows rule) (slice_get totals rule)
      (λ total t. is_total numbers rule lt knowns ended.tracks ended.are_tracks rows total ended.own_topics ended.are_rows t) (ended.are_totals.1 rule lt);
}
