-- Whether an alarm is one depends on the ticks alone up to that at which its deciding step ends.
use Rattle.std.proofs.Common.{◌≡◌, ◌≢◌, ℕ, zero, suc, ◌+◌, ◌<◌, ◌≤◌, List, [], ◌∷◌, length, take, take-take, refl, sym, ap, ap₂, subst, ◌∙◌, arith}
use Rattle.std.specs.Prelude.{Option, slice_get, unwrap_or}
use Rattle.encounters.specs.declared.pair_step.PairStep.{PairStep}
use Rattle.mtl_formulas.specs.declared.atom.Atom.{Atom}
use Rattle.mtl_formulas.specs.declared.verdict.Verdict.{Verdict}
use Rattle.mtl_formulas.specs.declared.verdict.Verdict.TheVariants.{Open}
use Rattle.mtl_formulas.specs.FormulaTree.{FormulaTree}
use Rattle.mtl_formulas.specs.Traces.{Trace, value_in}
use Rattle.meetings.specs.Atoms.{AreRankedRows}
use Rattle.meetings.specs.declared.pair.Pair.{Pair}
use Rattle.meetings.proofs.SomeRows.{some_rows}
use Rattle.auditor.specs.AuditTracks.{IsTraceOf}
use Rattle.early_monitor.specs.Alarms.{IsAlarm, tree_of_rule}
use Rattle.early_monitor.specs.Decided.{IsDecided}
use Rattle.early_monitor.specs.declared.alarm.Alarm.{Alarm}
use Rattle.early_monitor.proofs.ForCallers.{decided_value}
use Rattle.traces.specs.Audited.{AuditNumbers, Begins, Sighting, sighting_at, terms_of, trace_ranks, trace_steps}
use Rattle.settling.proofs.SameRows.{answers_too, begins_too, steps_length}

-- ---- traces with the same first rows

same_take : (rows others : Trace) (n : ℕ) → n ≤ length rows → n ≤ length others → ((k : ℕ) → k < n → slice_get rows k ≡ slice_get others k) → take n rows ≡ take n others
same_take rows others zero long other_long same = refl
same_take [] others (suc n) long other_long same = absurd (omega arith)
same_take (row ∷ rows) [] (suc n) long other_long same = absurd (omega arith)
same_take (row ∷ rows) (other ∷ others) (suc n) long other_long same =
    let first : row ≡ other = ap (λ (o : Option (Atom → Verdict)). unwrap_or o row) (same 0 (omega arith)) in
    ap₂ (λ (x : Atom → Verdict) (xs : Trace). x ∷ xs) first (same_take rows others n (omega arith) (omega arith) (λ k lt. same (suc k) (omega arith)))

module _ (rows others : Trace) (t : FormulaTree) (i m : ℕ) (same : take m rows ≡ take m others) where
  same_fewer : (k : ℕ) → k ≤ m → take k rows ≡ take k others
  same_fewer k le = sym (take-take k m rows le) ∙ (ap (λ (front : Trace). take k front) same ∙ take-take k m others le)

  decided_too : m ≤ length others → IsDecided t rows i m → IsDecided t others i m
  decided_too among h = record {
    inside = h.inside;
    among = among;
    decided = subst (λ (front : Trace). value_in front t i ≢ Open) same h.decided;
    first = λ k below. subst (λ (front : Trace). value_in front t i ≡ Open) (same_fewer k (omega (arith, below))) (h.first k below);
  }

  same_value : IsDecided t rows i m → IsDecided t others i m → value_in rows t i ≡ value_in others t i
  same_value h g = decided_value rows t i m h ∙ (ap (λ (front : Trace). value_in front t i) same ∙ sym (decided_value others t i m g))

-- ---- alarms

pub same_alarm : (numbers : AuditNumbers) (ticks others : List Sighting) (alarm : Alarm) → alarm.decided + 1 < length ticks → alarm.decided + 1 < length others
    → ((k : ℕ) → k ≤ alarm.decided + 1 → sighting_at ticks k ≡ sighting_at others k) → IsAlarm numbers ticks alarm → IsAlarm numbers others alarm
same_alarm numbers ticks others alarm here there agree is =
    let until : ℕ = alarm.decided + 1 in
    let pair : Pair = is.known.pair in
    let start : ℕ = is.known.start in
    let rows : Trace = is.known.trace in
    let t : FormulaTree = tree_of_rule numbers.rules alarm.rule in
    let deciding : until ≡ start + is.count = is.deciding in
    let begun : start ≤ until = omega (arith, deciding) in
    let begins : Begins numbers others pair start = begins_too numbers ticks others until here there agree pair start begun is.of.begins in
    let ranked : AreRankedRows (terms_of numbers) (trace_ranks ticks pair start) (trace_steps numbers ticks pair start) rows =
    subst (λ (steps : List (Option PairStep)). AreRankedRows (terms_of numbers) (trace_ranks ticks pair start) steps rows) is.of.steps is.of.rows in
    let of : IsTraceOf numbers ticks pair start rows = record { begins = is.of.begins; rows = ranked } in
    let others_rows = some_rows (terms_of numbers) (trace_ranks others pair start) (trace_steps numbers others pair start) in
    let other : Trace = others_rows.0 in
    let other_of : IsTraceOf numbers others pair start other = record { begins = begins; rows = others_rows.1 } in
    let long = ranked.count in
    let steps = steps_length numbers ticks others until here there agree pair start begun ticks in
    let other_long = other_of.rows.count in
    let other_steps = steps_length numbers ticks others until here there agree pair start begun others in
    let inside : is.count ≤ length rows = omega (arith, deciding, long, steps, here) in
    let other_inside : is.count ≤ length other = omega (arith, deciding, other_long, other_steps, there) in
    let same : take is.count rows ≡ take is.count other =
    same_take rows other is.count inside other_inside
    (λ k lt. answers_too numbers ticks others until here there agree pair start begun rows other of other_of k (omega (arith, deciding, lt))) in
    let decided : IsDecided t other is.at is.count = decided_too rows other t is.at is.count same other_inside is.decided in
    record {
      within = is.within;
      known = record { pair = pair; start = start; steps = trace_steps numbers others pair start; trace = other };
      of = record { begins = begins; steps = refl; rows = others_rows.1 };
      pair = is.pair;
      at = is.at;
      position = is.position;
      broken = sym (same_value rows other t is.at is.count same is.decided decided) ∙ is.broken;
      count = is.count;
      deciding = is.deciding;
      decided = decided;
    }
