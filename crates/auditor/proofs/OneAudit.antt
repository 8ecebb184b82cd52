-- An audit has one list of rows, and one of totals.
use Rattle.std.proofs.Common.{◌≡◌, ℕ, ◌<◌, inl, inr, List, [], ◌∷◌, length, get_or, ext_get_or, sym, ap, subst, ◌∙◌, arith}
use Rattle.std.specs.Prelude.{IsSomeAnd, Option}
use Rattle.std.specs.List.{Contains, sum_by}
use Rattle.std.proofs.lemmas.Option.{slice_get-get_or}
use Rattle.mtl_formulas.specs.declared.verdict.Verdict.TheVariants.{No, Open, Yes}
use Rattle.rule_set.specs.NamedTrees.{rule_at}
use Rattle.meetings.specs.declared.pair.Pair.{Pair}
use Rattle.meetings.proofs.ForCallers.{one_list as one_trace}
use Rattle.audit_rows.specs.Rows.{IsRow, IsRowOf}
use Rattle.audit_rows.specs.Tracks.{Track}
use Rattle.audit_rows.specs.declared.row.Row.{Row}
use Rattle.audit_rows.proofs.ForCallers.{one_list}
use Rattle.traces.specs.Audited.{AuditNumbers, Sighting, terms_of, trace_ranks, trace_steps}
use Rattle.auditor.specs.AuditTracks.{IsTraceOf}
use Rattle.auditor.specs.RuleCounts.{told}
use Rattle.auditor.specs.declared.total.Total.{Total}
use Rattle.auditor.specs.AuditRows.{AreAuditRows, IsAuditRow}
use Rattle.auditor.specs.AuditTotals.{AreTotals, AreTraces, IsTotal, Traced, positions_with}
use Rattle.outside.proofs.Members.{in_cons, in_head, in_none, in_tail}
use Rattle.traces.proofs.ForCallers.{different_from_map, from_map, one_beginning, same_sum}

module _ (numbers : AuditNumbers) (ticks : List Sighting) where
  -- ---- rows

  -- Each of the rows is one of these tracks, and all rows of the tracks are the audit's.
  record HaveTracks (rows : List Row) : Type 0 where
    pub tracks : List Track
    pub among : (row : Row) → Contains rows row → IsRow tracks row
    pub audited : (row : Row) → IsRow tracks row → IsAuditRow numbers ticks row

  have_tracks : (rows : List Row) → ((row : Row) → Contains rows row → IsAuditRow numbers ticks row) → HaveTracks rows
  have_tracks [] each = record { tracks = []; among = λ row i. in_none row i; audited = λ row is. absurd is }
  have_tracks (r ∷ rs) each =
      let (track, here) = each r (in_head r rs) in
      let rest = have_tracks rs (λ row i. each row (in_tail r rs row i)) in
      record {
        tracks = track ∷ rest.tracks;
        among = λ row i. elim (in_cons r rs row i) [
          | inl same ↦ inl (subst (λ (x : Row). IsRowOf track x) same here.1)
          | inr later ↦ inr (rest.among row later)
        ];
        audited = λ row is. elim is [ inl mine ↦ (track, (here.0, mine)) | inr later ↦ rest.audited row later ];
      }

  pub one_list_of_rows : (rows others : List Row) → AreAuditRows numbers ticks rows → AreAuditRows numbers ticks others → rows ≡ others
  one_list_of_rows rows others h k =
      let have = have_tracks rows (λ row i. (h.each row).0 i) in
      one_list have.tracks rows others
      (record { each = λ row. (λ i. have.among row i, λ is. (h.each row).1 (have.audited row is)); ordered = h.ordered })
      (record { each = λ row. (λ i. have.among row ((h.each row).1 ((k.each row).0 i)), λ is. (k.each row).1 (have.audited row is)); ordered = k.ordered })

  -- ---- traces

  -- A pair has one trace.
  pub same_traced : (t other : Traced) → t.pair ≡ other.pair → IsTraceOf numbers ticks t.pair t.start t.trace → IsTraceOf numbers ticks other.pair other.start other.trace → t ≡ other
  same_traced t other e h k =
      let here : IsTraceOf numbers ticks other.pair t.start t.trace = subst (λ (p : Pair). IsTraceOf numbers ticks p t.start t.trace) e h in
      let begun : t.start ≡ other.start = one_beginning numbers ticks other.pair t.start other.start here.begins k.begins in
      let there : IsTraceOf numbers ticks other.pair other.start t.trace = subst (λ (n : ℕ). IsTraceOf numbers ticks other.pair n t.trace) begun here in
      let answers : t.trace ≡ other.trace =
      one_trace (terms_of numbers) (trace_ranks ticks other.pair other.start) (trace_steps numbers ticks other.pair other.start) t.trace other.trace there.rows k.rows in
      λ i. record { pair = e i; start = begun i; trace = answers i }

  traced_too : (traces others : List Traced) → AreTraces numbers ticks traces → AreTraces numbers ticks others → (t : Traced) → Contains traces t → Contains others t
  traced_too traces others h k t i =
      let is = h.each t i in
      let (u, j, e) = from_map (λ (v : Traced). v.pair) others t.pair (k.all t.pair t.start is.begins) in
      subst (λ (v : Traced). Contains others v) (same_traced u t e (k.each u j) is) j

  -- ---- totals

  module _ (traces others : List Traced) (h : AreTraces numbers ticks traces) (k : AreTraces numbers ticks others) where
    -- Sums over all traces do not depend on their order.
    same_told : (f : Traced → ℕ) → told (sum_by f traces) ≡ told (sum_by f others)
    same_told f =
        ap told (same_sum f traces others (different_from_map (λ (t : Traced). t.pair) traces h.once) (different_from_map (λ (t : Traced). t.pair) others k.once)
        (traced_too traces others h k) (traced_too others traces k h))

    same_total : (rows : List Row) (rule : ℕ) (total other : Total) → IsTotal numbers traces rows rule total → IsTotal numbers others rows rule other → total ≡ other
    same_total rows rule total other a b =
        let tree = (rule_at numbers.rules rule).tree in
        let positions : total.positions ≡ other.positions = a.positions ∙ (same_told (λ (t : Traced). length t.trace) ∙ sym b.positions) in
        let yes : total.yes ≡ other.yes = a.yes ∙ (same_told (positions_with Yes tree) ∙ sym b.yes) in
        let no : total.no ≡ other.no = a.no ∙ (same_told (positions_with No tree) ∙ sym b.no) in
        let undecided : total.undecided ≡ other.undecided = a.undecided ∙ (same_told (positions_with Open tree) ∙ sym b.undecided) in
        let runs : total.runs ≡ other.runs = a.runs ∙ sym b.runs in
        λ i. record { positions = positions i; yes = yes i; no = no i; undecided = undecided i; runs = runs i }

  pub one_list_of_totals : (rows : List Row) (totals others : List Total) → AreTotals numbers ticks rows totals → AreTotals numbers ticks rows others → totals ≡ others
  one_list_of_totals rows totals others h k =
      let count = h.count in
      let other_count = k.count in
      let none : Total = record { positions = 0; yes = 0; no = 0; undecided = 0; runs = 0 } in
      ext_get_or none totals others (omega arith) (λ rule lt.
      let within : rule < length numbers.rules = omega arith in
      let mine : IsTotal numbers h.traces rows rule (get_or totals rule none) =
      subst (λ (o : Option Total). IsSomeAnd o (IsTotal numbers h.traces rows rule)) (slice_get-get_or totals rule none lt) (h.each rule within) in
      let theirs : IsTotal numbers k.traces rows rule (get_or others rule none) =
      subst (λ (o : Option Total). IsSomeAnd o (IsTotal numbers k.traces rows rule)) (slice_get-get_or others rule none (omega arith)) (k.each rule within) in
      same_total h.traces k.traces h.are_traces k.are_traces rows rule (get_or totals rule none) (get_or others rule none) mine theirs)
