-- What a node gives at a row, and what it keeps after it, are right if its operands gave what is right.
use Rattle.std.proofs.Common.{◌≡◌, ℕ, ◌+◌, ◌-◌, ◌<◌, ◌≤◌, ap, ap₂, sym, arith, true, false, inl, inr, List}
use Rattle.std.specs.Prelude.{nat_lt, if◌then◌else◌}
use Rattle.std.proofs.lemmas.Bool.{cases_lt}
use Rattle.std.proofs.lemmas.Bool.Decides.{nat_tests}
use Rattle.mtl_formulas.specs.declared.atom.Atom.{Atom}
use Rattle.mtl_formulas.specs.declared.verdict.Verdict.{Verdict}
use Rattle.mtl_formulas.specs.declared.verdict.Verdict.TheVariants.{Open}
use Rattle.circular_buffer.specs.Buffer.{Buffer}
use Rattle.mtl_formulas.specs.VerdictOrder.{turned_round, least}
use Rattle.mtl_formulas.specs.FormulaTree.{FormulaTree}
use Rattle.mtl_formulas.specs.FormulaValue.{before_end, pair_value, greatest_over}
use Rattle.mtl_monitor.specs.declared.left.Left.{Left}
use Rattle.mtl_monitor.specs.declared.lookahead.Lookahead.{Lookahead}
use Rattle.mtl_monitor.specs.Inner.Lookahead.{lookahead_after, lookahead_value, reached_over, Reads}
use Rattle.mtl_monitor.proofs.Lookaheads.{Reads-after, Reads-value}
use Rattle.mtl_monitor.proofs.Untils.{until-split}
use Rattle.mtl_formulas.specs.declared.formula.SpanKind.{SpanKind}
use Rattle.mtl_monitor.specs.declared.node.Operator.{Operator}
use Rattle.mtl_monitor.specs.declared.node.Operator.TheVariants as op
use Rattle.mtl_monitor.specs.declared.node.ProgramNode.{ProgramNode}
use Rattle.mtl_monitor.specs.declared.node.Kept.{Kept}
use Rattle.mtl_monitor.specs.declared.node.Kept.TheVariants as kinds
use Rattle.mtl_formulas.specs.Traces.{Trace, value_in}
use Rattle.mtl_monitor.specs.Inner.Countdown.{Lasts, held_at}
use Rattle.mtl_monitor.specs.WindowCounts.{left_after, left_value}
use Rattle.mtl_monitor.specs.Inner.Steps.{value_at, sensed, ring_after, hits_under, hits_after, before_after, given, kept}
use Rattle.mtl_monitor.specs.Inner.Standing.{tree_at, late_at, Holds, IsWindow, IsSince, IsUntil, Computes, OperandsBelow, Keeps, IsGiven, IsRow, EndsAt}
use Rattle.mtl_monitor.proofs.Countdown.{Lasts-after, Lasts-value, Lasts-nowhere, Lasts-nowhere_after, counted}
use Rattle.mtl_monitor.proofs.Windows.{least_over-turned}
use Rattle.mtl_monitor.proofs.CountdownSince.{Lasts-under, Lasts-held, counted-since}
use Rattle.mtl_monitor.proofs.Rings.{Holds-after, Holds-value}

module _ (trace : Trace) (trees : List FormulaTree) (nodes : List ProgramNode) (values : List Verdict) (row : Atom → Verdict) (i end : ℕ) where
  -- The operands gave what is right.
  abbrev pub Gave : ℕ → Type 0
  Gave a = IsGiven trace (tree_at trees a) (late_at nodes a) i (value_at values a)

  Lasts-row : (f : ℕ → Verdict) (s : Left) (width from : ℕ) (v : Verdict) → (from ≤ i → v ≡ f (i - from)) → Lasts f s width (i - from)
      → Lasts f (if nat_lt i from then s else left_after s width v) width ((i + 1) - from)
  Lasts-row f s width from v is lasts = elim (cases_lt i from) [ inl early ↦ not_yet early | inr come ↦ reads come ]
    where
      not_yet : i < from → Lasts f (if nat_lt i from then s else left_after s width v) width ((i + 1) - from)
      not_yet h =
          let test : nat_lt i from ≡ true = grind (arith, nat_tests) in
          let count : (i + 1) - from ≡ i - from = omega arith in
          rw (test, count) lasts

      reads : from ≤ i → Lasts f (if nat_lt i from then s else left_after s width v) width ((i + 1) - from)
      reads h =
          let test : nat_lt i from ≡ false = grind (arith, nat_tests) in
          let count : (i + 1) - from ≡ (i - from) + 1 = omega arith in
          rw (test, count, is h) (Lasts-after f s width (i - from) lasts)

  -- the first operand of S, and then the second
  under-row : (f g : ℕ → Verdict) (hits : Left) (width from late : ℕ) (v : Verdict) → late ≤ from → (late ≤ i → v ≡ f (i - late))
      → Lasts (held_at f g (i - late)) hits width (i - from)
      → Lasts (held_at f g ((i + 1) - late)) (hits_under hits late v i) width (i - from)
  under-row f g hits width from late v after is lasts = elim (cases_lt i late) [ inl early ↦ not_yet early | inr come ↦ reads come ]
    where
      not_yet : i < late → Lasts (held_at f g ((i + 1) - late)) (hits_under hits late v i) width (i - from)
      not_yet h =
          let test : nat_lt i late ≡ true = grind (arith, nat_tests) in
          let count : (i + 1) - late ≡ i - late = omega arith in
          rw (test, count) lasts

      reads : late ≤ i → Lasts (held_at f g ((i + 1) - late)) (hits_under hits late v i) width (i - from)
      reads h =
          let test : nat_lt i late ≡ false = grind (arith, nat_tests) in
          let count : (i + 1) - late ≡ (i - late) + 1 = omega arith in
          rw (test, count, is h) (Lasts-under f g hits width (i - from) (i - late) (omega arith) lasts)

  held-row : (f g : ℕ → Verdict) (hits bars : Left) (width lower from late : ℕ) (v : Verdict) → from ≡ late + lower → (from ≤ i → v ≡ g (i - from))
      → Lasts (held_at f g ((i + 1) - late)) hits width (i - from) → Lasts (λ k. turned_round (f k)) bars lower ((i + 1) - late)
      → Lasts (held_at f g ((i + 1) - late)) (hits_after hits bars width from v i) width ((i + 1) - from)
  held-row f g hits bars width lower from late v delayed is lasts barred = elim (cases_lt i from) [ inl early ↦ not_yet early | inr come ↦ reads come ]
    where
      not_yet : i < from → Lasts (held_at f g ((i + 1) - late)) (hits_after hits bars width from v i) width ((i + 1) - from)
      not_yet h =
          let test : nat_lt i from ≡ true = grind (arith, nat_tests) in
          let count : (i + 1) - from ≡ i - from = omega arith in
          rw (test, count) lasts

      reads : from ≤ i → Lasts (held_at f g ((i + 1) - late)) (hits_after hits bars width from v i) width ((i + 1) - from)
      reads h =
          let test : nat_lt i from ≡ false = grind (arith, nat_tests) in
          let count : (i + 1) - from ≡ (i - from) + 1 = omega arith in
          rw (test, count, is h) (Lasts-held f g hits bars width lower (i - from) ((i + 1) - late) (omega arith) lasts barred)

  -- an operand that is known to be so late
  gave_late : (a from : ℕ) → late_at nodes a ≡ from → Gave a → from ≤ i → value_at values a ≡ value_in trace (tree_at trees a) (i - from)
  gave_late a from same gave h = let ready : late_at nodes a ≤ i = omega arith in rw (← same) (gave ready)

  Holds-row : (f : ℕ → Verdict) (b : Buffer Verdict) (cells from : ℕ) (v : Verdict) → (from ≤ i → v ≡ f (i - from)) → Holds f b cells (i - from)
      → Holds f (if nat_lt i from then b else ring_after b v) cells ((i + 1) - from)
  Holds-row f b cells from v is holds = elim (cases_lt i from) [ inl early ↦ not_yet early | inr come ↦ takes come ]
    where
      not_yet : i < from → Holds f (if nat_lt i from then b else ring_after b v) cells ((i + 1) - from)
      not_yet h =
          let test : nat_lt i from ≡ true = grind (arith, nat_tests) in
          let count : (i + 1) - from ≡ i - from = omega arith in
          rw (test, count) holds

      takes : from ≤ i → Holds f (if nat_lt i from then b else ring_after b v) cells ((i + 1) - from)
      takes h =
          let test : nat_lt i from ≡ false = grind (arith, nat_tests) in
          let count : (i + 1) - from ≡ (i - from) + 1 = omega arith in
          rw (test, count, is h) (Holds-after f b cells (i - from) holds)

  -- the window of U, and its first operand before that
  Reads-row : (f g : ℕ → Verdict) (s : Lookahead) (width from : ℕ) (v w : Verdict) → (from ≤ i → v ≡ f (i - from)) → (from ≤ i → w ≡ g (i - from)) → Reads f g s width (i - from)
      → Reads f g (if nat_lt i from then s else lookahead_after s v w) width ((i + 1) - from)
  Reads-row f g s width from v w is_v is_w reads = elim (cases_lt i from) [ inl early ↦ not_yet early | inr come ↦ takes come ]
    where
      not_yet : i < from → Reads f g (if nat_lt i from then s else lookahead_after s v w) width ((i + 1) - from)
      not_yet h =
          let test : nat_lt i from ≡ true = grind (arith, nat_tests) in
          let count : (i + 1) - from ≡ i - from = omega arith in
          rw (test, count) reads

      takes : from ≤ i → Reads f g (if nat_lt i from then s else lookahead_after s v w) width ((i + 1) - from)
      takes h =
          let test : nat_lt i from ≡ false = grind (arith, nat_tests) in
          let count : (i + 1) - from ≡ (i - from) + 1 = omega arith in
          rw (test, count, is_v h, is_w h) (Reads-after f g s width (i - from) reads)

  before-row : (f : ℕ → Verdict) (bars : Left) (lower full : ℕ) (v : Verdict) → (0 < lower → full ≤ i → v ≡ f (i - full)) → Lasts (λ k. turned_round (f k)) bars lower (i - full)
      → Lasts (λ k. turned_round (f k)) (before_after bars lower full v i) lower ((i + 1) - full)
  before-row f bars lower full v is lasts = elim (cases_lt 0 lower) [
    | inl some ↦ Lasts-row (λ k. turned_round (f k)) bars lower full (turned_round v) (λ h. ap turned_round (is some h)) lasts
    | inr none ↦ elim (cases_lt i full) [ inl early ↦ not_yet none early | inr come ↦ reads none come ]
  ]
    where
      not_yet : lower ≤ 0 → i < full → Lasts (λ k. turned_round (f k)) (before_after bars lower full v i) lower ((i + 1) - full)
      not_yet none h =
          let test : nat_lt i full ≡ true = grind (arith, nat_tests) in
          rw test (Lasts-nowhere _ bars lower _ none lasts.yes_fits lasts.some_fits lasts.graded)

      reads : lower ≤ 0 → full ≤ i → Lasts (λ k. turned_round (f k)) (before_after bars lower full v i) lower ((i + 1) - full)
      reads none h =
          let test : nat_lt i full ≡ false = grind (arith, nat_tests) in
          rw test (Lasts-nowhere_after _ bars lower _ _ (turned_round v) none lasts)

  pub Keeps-row : (k : ℕ) (o : Operator) (s : Kept) (late : ℕ) (t : FormulaTree) → Computes nodes trees o late t → OperandsBelow k o
      → ((a : ℕ) → a < k → Gave a) → Keeps trace trees o late s i → Keeps trace trees o late (kept o s late values i) (i + 1)
  Keeps-row k (op.Atom a) s late t is below gave keeps = tt
  Keeps-row k (op.Not a) s late t is below gave keeps = tt
  Keeps-row k (op.Pair kind a b) s late t is below gave keeps = tt
  Keeps-row k (op.Late cells from a) (kinds.Ring d) late t is below gave keeps =
      Holds-row (value_in trace (tree_at trees a)) d.ring cells from (value_at values a) (gave_late a from is.1 (gave a below)) keeps
  Keeps-row k (op.Late cells from a) kinds.Plain late t is below gave keeps = absurd keeps
  Keeps-row k (op.Late cells from a) (kinds.Window w) late t is below gave keeps = absurd keeps
  Keeps-row k (op.Late cells from a) (kinds.Since w x) late t is below gave keeps = absurd keeps
  Keeps-row k (op.Late cells from a) (kinds.Until w) late t is below gave keeps = absurd keeps
  Keeps-row k (op.Window kind width from a) (kinds.Window s) late t is below gave keeps =
      Lasts-row (λ j. sensed kind (value_in trace (tree_at trees a) j)) s width from (sensed kind (value_at values a))
      (λ h. ap (sensed kind) (gave_late a from is.0 (gave a below) h)) keeps
  Keeps-row k (op.Window kind width from a) kinds.Plain late t is below gave keeps = absurd keeps
  Keeps-row k (op.Window kind width from a) (kinds.Ring d) late t is below gave keeps = absurd keeps
  Keeps-row k (op.Window kind width from a) (kinds.Since w x) late t is below gave keeps = absurd keeps
  Keeps-row k (op.Window kind width from a) (kinds.Until w) late t is below gave keeps = absurd keeps
  Keeps-row k (op.Since width lower from a b) (kinds.Since hits bars) late t is below gave keeps =
      let first = gave_late a late is.0 (gave a below.0) in
      let second = gave_late b from is.1 (gave b below.1) in
      let barred = Lasts-row (λ j. turned_round (value_in trace (tree_at trees a) j)) bars lower late (turned_round (value_at values a)) (λ h. ap turned_round (first h)) keeps.1 in (
        held-row (value_in trace (tree_at trees a)) (value_in trace (tree_at trees b)) _ _ width lower from late (value_at values b) is.2.delayed second
            (under-row (value_in trace (tree_at trees a)) (value_in trace (tree_at trees b)) hits width from late (value_at values a) (omega (arith, is.2.delayed)) first keeps.0) barred,
        barred,
      )
  Keeps-row k (op.Since width lower from a b) kinds.Plain late t is below gave keeps = absurd keeps
  Keeps-row k (op.Since width lower from a b) (kinds.Ring d) late t is below gave keeps = absurd keeps
  Keeps-row k (op.Since width lower from a b) (kinds.Window w) late t is below gave keeps = absurd keeps
  Keeps-row k (op.Since width lower from a b) (kinds.Until w) late t is below gave keeps = absurd keeps
  Keeps-row k (op.Until from full lower a behind b) (kinds.Until s) late t is below gave keeps =
      let first = gave_late a from is.0 (gave a below.0) in
      let second = gave_late b from is.1 (gave b below.2) in (
        Reads-row (value_in trace (tree_at trees a)) (value_in trace (tree_at trees b)) s.window (full - from) from (value_at values a) (value_at values b) first second keeps.0,
        before-row (value_in trace (tree_at trees a)) s.bars lower full (value_at values behind)
            (λ some h. rw (is.2.tree some) at (gave_late behind full (is.2.lateness some) (gave behind below.1) h)) keeps.1,
      )
  Keeps-row k (op.Until from full lower a behind b) kinds.Plain late t is below gave keeps = absurd keeps
  Keeps-row k (op.Until from full lower a behind b) (kinds.Ring d) late t is below gave keeps = absurd keeps
  Keeps-row k (op.Until from full lower a behind b) (kinds.Window w) late t is below gave keeps = absurd keeps
  Keeps-row k (op.Until from full lower a behind b) (kinds.Since w x) late t is below gave keeps = absurd keeps

  window-given : (kind : SpanKind) (s t : FormulaTree) (width from late : ℕ) (w : Left) (ok : IsWindow kind s t width from late)
      → EndsAt trace i end → Lasts (λ j. sensed kind (value_in trace s j)) w width ((i + 1) - from) → late ≤ i
      → (if nat_lt (i - late) end then sensed kind (left_value w) else Open) ≡ value_in trace t (i - late)
  window-given kind s t width from late w ok ends lasts ready =
      rw (ok.tree, ends (i - late) (omega arith))
      (ap (before_end (λ (r : Atom → Verdict). r) trace (i - late))
      (counted kind ok.lower ok.upper (value_in trace s) w from late i ok.ordered ok.timed ready (rw ok.wide at lasts)))

  since-given : (s t whole : FormulaTree) (width lower from late : ℕ) (hits : Left) (ok : IsSince s t whole width lower from late)
      → EndsAt trace i end → Lasts (held_at (value_in trace s) (value_in trace t) ((i + 1) - late)) hits width ((i + 1) - from) → late ≤ i
      → (if nat_lt (i - late) end then left_value hits else Open) ≡ value_in trace whole (i - late)
  since-given s t whole width lower from late hits ok ends lasts ready =
      let heard : (i + 1) - late ≡ (i - late) + 1 = omega arith in
      let read : (i + 1) - from ≡ ((i - late) + 1) - lower = omega (arith, ok.delayed) in
      rw (ok.tree, ends (i - late) (omega arith))
      (ap (before_end (λ (r : Atom → Verdict). r) trace (i - late))
      (counted-since (value_in trace s) (value_in trace t) hits lower ok.upper (i - late) ok.ordered (rw (ok.wide, heard, read) at lasts)))

  until-given : (s t whole : FormulaTree) (from full lower late : ℕ) (w : Lookahead) (bars : Left) (ok : IsUntil s t whole from full lower late)
      → EndsAt trace i end → Reads (value_in trace s) (value_in trace t) w (full - from) ((i + 1) - from)
      → Lasts (λ k. turned_round (value_in trace s k)) bars lower ((i + 1) - full) → late ≤ i
      → (if nat_lt (i - late) end then least (turned_round (left_value bars)) (lookahead_value w) else Open) ≡ value_in trace whole (i - late)
  until-given s t whole from full lower late w bars ok ends reads lasts ready =
      let width : full - from ≡ (ok.upper + 1) - lower = omega (arith, ok.wide) in
      let read : (full - from) ≤ (i + 1) - from = omega (arith, ok.wide, ok.timed, ok.ordered) in
      let start : ((i + 1) - from) - (full - from) ≡ (i - late) + lower = omega (arith, ok.wide, ok.timed, ok.ordered) in
      let first : ((i + 1) - full) - lower ≡ i - late = omega (arith, ok.wide, ok.timed, ok.ordered) in
      let count : ((i + 1) - full) - (i - late) ≡ lower = omega (arith, ok.wide, ok.timed, ok.ordered) in
      let ahead : lookahead_value w ≡ reached_over (value_in trace s) (value_in trace t) ((i - late) + lower) ((ok.upper + 1) - lower) =
      rw (start, width) at (Reads-value (value_in trace s) (value_in trace t) w (full - from) ((i + 1) - from) reads read) in
      let barred : left_value bars ≡ greatest_over (λ k. turned_round (value_in trace s k)) (i - late) lower =
      rw (first, count) at (Lasts-value (λ k. turned_round (value_in trace s k)) bars lower ((i + 1) - full) lasts) in
      rw (ok.tree, ends (i - late) (omega arith), ahead, barred, least_over-turned (value_in trace s) (i - late) lower)
      (ap (before_end (λ (r : Atom → Verdict). r) trace (i - late)) (sym (until-split (value_in trace s) (value_in trace t) (i - late) lower ok.upper)))

  pub IsGiven-row : (k : ℕ) (o : Operator) (s : Kept) (late : ℕ) (t : FormulaTree) → Computes nodes trees o late t → OperandsBelow k o
      → ((a : ℕ) → a < k → Gave a) → Keeps trace trees o late s i → IsRow trace row i → EndsAt trace i end
      → IsGiven trace t late i (given o s late values row i end)
  IsGiven-row k (op.Atom a) s late t is below gave keeps answers ends ready =
      let here : i - late ≡ i = omega arith in
      rw (is.0, here) (answers a)
  IsGiven-row k (op.Not a) s late t is below gave keeps answers ends ready =
      rw is.0 (ap turned_round (gave_late a late is.1 (gave a below) ready))
  IsGiven-row k (op.Pair kind a b) s late t is below gave keeps answers ends ready =
      rw is.0 (ap₂ (pair_value kind) (gave_late a late is.1 (gave a below.0) ready) (gave_late b late is.2 (gave b below.1) ready))
  IsGiven-row k (op.Late cells from a) (kinds.Ring d) late t is below gave keeps answers ends ready =
      let come : nat_lt i from ≡ false = grind (arith, nat_tests) in
      let index : (i - from) - cells ≡ i - late = omega arith in
      rw (is.0, come, gave_late a from is.1 (gave a below) (omega arith), Holds-value (value_in trace (tree_at trees a)) d.ring cells (i - from) keeps (omega arith), index)
  IsGiven-row k (op.Late cells from a) kinds.Plain late t is below gave keeps answers ends ready = absurd keeps
  IsGiven-row k (op.Late cells from a) (kinds.Window w) late t is below gave keeps answers ends ready = absurd keeps
  IsGiven-row k (op.Late cells from a) (kinds.Since w x) late t is below gave keeps answers ends ready = absurd keeps
  IsGiven-row k (op.Late cells from a) (kinds.Until w) late t is below gave keeps answers ends ready = absurd keeps
  IsGiven-row k (op.Window kind width from a) (kinds.Window s) late t is below gave keeps answers ends ready =
      window-given kind (tree_at trees a) t width from late _ is.1 ends
      (Lasts-row (λ j. sensed kind (value_in trace (tree_at trees a) j)) s width from (sensed kind (value_at values a))
      (λ h. ap (sensed kind) (gave_late a from is.0 (gave a below) h)) keeps) ready
  IsGiven-row k (op.Window kind width from a) kinds.Plain late t is below gave keeps answers ends ready = absurd keeps
  IsGiven-row k (op.Window kind width from a) (kinds.Ring d) late t is below gave keeps answers ends ready = absurd keeps
  IsGiven-row k (op.Window kind width from a) (kinds.Since w x) late t is below gave keeps answers ends ready = absurd keeps
  IsGiven-row k (op.Window kind width from a) (kinds.Until w) late t is below gave keeps answers ends ready = absurd keeps
  IsGiven-row k (op.Since width lower from a b) (kinds.Since hits bars) late t is below gave keeps answers ends ready =
      let after = Keeps-row k (op.Since width lower from a b) (kinds.Since hits bars) late t is below gave keeps in
      since-given (tree_at trees a) (tree_at trees b) t width lower from late _ is.2 ends after.0 ready
  IsGiven-row k (op.Since width lower from a b) kinds.Plain late t is below gave keeps answers ends ready = absurd keeps
  IsGiven-row k (op.Since width lower from a b) (kinds.Ring d) late t is below gave keeps answers ends ready = absurd keeps
  IsGiven-row k (op.Since width lower from a b) (kinds.Window w) late t is below gave keeps answers ends ready = absurd keeps
  IsGiven-row k (op.Since width lower from a b) (kinds.Until w) late t is below gave keeps answers ends ready = absurd keeps
  IsGiven-row k (op.Until from full lower a behind b) (kinds.Until s) late t is below gave keeps answers ends ready =
      let after = Keeps-row k (op.Until from full lower a behind b) (kinds.Until s) late t is below gave keeps in
      until-given (tree_at trees a) (tree_at trees b) t from full lower late _ _ is.3 ends after.0 after.1 ready
  IsGiven-row k (op.Until from full lower a behind b) kinds.Plain late t is below gave keeps answers ends ready = absurd keeps
  IsGiven-row k (op.Until from full lower a behind b) (kinds.Ring d) late t is below gave keeps answers ends ready = absurd keeps
  IsGiven-row k (op.Until from full lower a behind b) (kinds.Window w) late t is below gave keeps answers ends ready = absurd keeps
  IsGiven-row k (op.Until from full lower a behind b) (kinds.Since w x) late t is below gave keeps answers ends ready = absurd keeps
