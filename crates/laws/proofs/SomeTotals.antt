-- That an audit has no totals is refuted: the pairs that are seen have finitely many traces, and the totals count over them.
use Rattle.std.proofs.Common.{ℕ, ◌≡◌, ◌≢◌, List, [], ◌∷◌, length, map, refl, sym, ap, subst}
use Rattle.std.specs.Prelude.{IsSomeAnd, Option}
use Rattle.std.specs.List.{AllPairs, Contains, filter, range_with_len, sum_by}
use Rattle.std.proofs.lemmas.List.FromFn.{length-map-range_with_len}
use Rattle.meetings.specs.declared.pair.Pair.{Pair}
use Rattle.mtl_formulas.specs.declared.verdict.Verdict.TheVariants.{No, Open, Yes}
use Rattle.rule_set.specs.NamedTrees.{rule_at}
use Rattle.audit_rows.specs.Order.{place_cmp}
use Rattle.audit_rows.specs.declared.row.Row.{Row}
use Rattle.audit_rows.specs.declared.sort_key.SortKey.{SortKey}
use Rattle.audit_rows.specs.declared.topic.Topic.TheVariants.{Meeting}
use Rattle.audit_rows.proofs.ForCallers.{all_different, place_total}
use Rattle.auditor.specs.AuditTotals.{AreTotals, AreTraces, IsTotal, Traced, positions_with}
use Rattle.auditor.specs.AuditTracks.{IsTraceOf}
use Rattle.auditor.specs.RuleCounts.{is_run_of, told}
use Rattle.auditor.specs.Tallies.{pair_of}
use Rattle.auditor.specs.declared.total.Total.{Total}
use Rattle.auditor.proofs.ForCallers.{same_traced}
use Rattle.plan_situations.proofs.TickLists.{slice_get_made}
use Rattle.traces.specs.Audited.{AuditNumbers, Begins, Sighting, terms_of, trace_ranks, trace_steps}
use Rattle.traces.proofs.ForCallers.{different_from_map, in_map}
use Rattle.laws.proofs.Candidates.{begun, pairs_seen}
use Rattle.laws.proofs.HaveRows.{HaveRows}
use Rattle.laws.proofs.Merging.{same_place}
use Rattle.laws.proofs.Sorting.{AreSorted, some_sorted}

-- ---- the traces in the order of their pairs

abbrev place_of : Pair → SortKey
place_of pair = record { last = 0; topic = Meeting pair }

abbrev trace_place : Traced → SortKey
trace_place t = place_of t.pair

places_by_pair : (traces : List Traced) → map trace_place traces ≡ map place_of (map (λ t. t.pair) traces)
places_by_pair [] = refl
places_by_pair (t ∷ traces) = ap (λ (places : List SortKey). place_of t.pair ∷ places) (places_by_pair traces)

same_pair : (a b : Pair) → place_of a ≡ place_of b → a ≡ b
same_pair a b same = ap (λ (place : SortKey). pair_of place.topic) same

module _ (rows_of : HaveRows) (numbers : AuditNumbers) (ticks : List Sighting) where
  abbrev IsTraced : Traced → Type 0
  IsTraced t = IsTraceOf numbers ticks t.pair t.start t.trace

  traced : (pair : Pair) (start : ℕ) → Begins numbers ticks pair start → (t : Traced) × (IsTraced t × (t.pair ≡ pair))
  traced pair start begins =
      let found = rows_of (terms_of numbers) (trace_ranks ticks pair start) (trace_steps numbers ticks pair start) in
      (record { pair = pair; start = start; trace = found.0 }, (record { begins = begins; rows = found.1 }, refl))

  are_traces : (all : AreSorted trace_place place_cmp IsTraced) → AreTraces numbers ticks all.items
  are_traces all = record {
    each = all.sound;
    all = λ pair start begins.
        let (t, (is, same)) = traced pair start begins in
        subst (Contains (map (λ t. t.pair) all.items)) same (in_map (λ (t : Traced). t.pair) all.items t (all.complete t is));
    once = different_from_map place_of (map (λ (t : Traced). t.pair) all.items)
        (subst (AllPairs ◌≢◌) (places_by_pair all.items) (all_different trace_place place_cmp place_total all.items all.ordered));
  }

  pub some_traces : ¬ ((traces : List Traced) → ¬ AreTraces numbers ticks traces)
  some_traces none =
      some_sorted trace_place place_cmp place_total same_place IsTraced (λ a b x y same. same_traced numbers ticks a b (same_pair a.pair b.pair same) x y)
      (map place_of (pairs_seen ticks)) (λ t is. in_map place_of (pairs_seen ticks) t.pair (begun ticks numbers t.pair t.start is.begins).0)
      (λ all. none all.items (are_traces all))

  -- ---- the totals over them

  module _ (rows : List Row) where
    total_over : List Traced → ℕ → Total
    total_over traces rule = record {
      positions = told (sum_by (λ t. length t.trace) traces);
      yes = told (sum_by (positions_with Yes (rule_at numbers.rules rule).tree) traces);
      no = told (sum_by (positions_with No (rule_at numbers.rules rule).tree) traces);
      undecided = told (sum_by (positions_with Open (rule_at numbers.rules rule).tree) traces);
      runs = told (length (filter (is_run_of rule) rows));
    }

    is_total : (traces : List Traced) (rule : ℕ) → IsTotal numbers traces rows rule (total_over traces rule)
    unfolding total_over
    is_total traces rule = record { positions = refl; yes = refl; no = refl; undecided = refl; runs = refl }

    totals_over : (traces : List Traced) → AreTraces numbers ticks traces → (totals : List Total) × AreTotals numbers ticks rows totals
    totals_over traces are = (
      map (total_over traces) (range_with_len 0 (length numbers.rules)),
      record {
        traces = traces;
        are_traces = are;
        count = length-map-range_with_len (total_over traces) 0 (length numbers.rules);
        each = λ rule lt.
            subst (λ (o : Option Total). IsSomeAnd o (IsTotal numbers traces rows rule)) (sym (slice_get_made (total_over traces) (length numbers.rules) rule lt)) (is_total traces rule);
      },
    )

    pub some_totals : ¬ ((totals : List Total) → ¬ AreTotals numbers ticks rows totals)
    some_totals none = some_traces (λ traces are. let (totals, is) = totals_over traces are in none totals is)
