use Rattle.std.proofs.Common.{◌≡◌, ◌++◌, ◌∷◌, [], length, length-append, sym, subst, arith}
use Rattle.std.specs.Prelude.{Option}
use Rattle.std.specs.Option.{option_copied}
use Rattle.encounters.specs.Standing.{IsStateAfter}
use Rattle.encounters.specs.declared.pair_step.PairStep.{PairStep}
use Rattle.meetings.specs.Answers.{answer_of}
use Rattle.auditor.specs.AuditTracks.{IsMeetingMark}
use Rattle.auditor.specs.SettledRows.{formulas_of}
use Rattle.std.proofs.lemmas.Result.{on_ok_weaker}
use Rattle.auditor.proofs.Resting.{rested}
use Rattle.auditor.proofs.TraceKeeping.{meeting_marked, stepped}
use Rattle.auditor.proofs.trace.AuditTrace.step.Goals as goal

pub returns-clause-stands : goal.returns-clause-stands
returns-clause-stands c = on_ok_weaker c.mark_rules.result
    (λ marks numbers ranks known seen before mine after bound given stands at of tracks e keeps.
    let next = c.args.next in
    let row = answer_of next.row.now in
    let count = stands.rows in
    let same : option_copied next.seen ≡ seen = of.seen in
    let is_mark : IsMeetingMark numbers.detect (known.steps ++ seen ∷ []) (length known.steps) c.meeting_mark.result =
    subst (λ (o : Option PairStep). IsMeetingMark numbers.detect (known.steps ++ o ∷ []) (length known.steps) c.meeting_mark.result) same
    (c.meeting_mark.ensures numbers.detect known.steps (subst (λ (o : Option PairStep). IsStateAfter numbers.detect (known.steps ++ o ∷ []) next.is.now) (sym same) of.is)) in
    let begins = stands.start in
    let apart = c.stays_apart-apart.ensures in
    let meets = meeting_marked numbers known seen c.meeting_mark.result next.was.now next.is.now c.stays_apart-apart.result c.args.first c.args.step
    c.args.queue.now c.mark_or_repeat.new.queue at of.was of.is is_mark apart.was apart.is (λ rests. let later = apart.later rests in omega arith)
    c.in_ok-mark_or_repeat.ensures in
    stepped c.args.program.now numbers _ known seen row c.meeting_mark.result
    (record {
      start = stands.start;
      rows = omega (arith, length-append known.steps (seen ∷ []), length-append known.trace (row ∷ []));
      values = c.feed-changes.ensures.follows (formulas_of numbers) known.trace stands.values;
    })
    is_mark c.args.first c.args.queue.now c.mark_or_repeat.new.queue c.mark_rules.new.queue meets marks
    before mine after bound given tracks e keeps)
    c.mark_rules.ensures

pub returns-then-has_answered-clause-stands : goal.returns-then-has_answered-clause-stands
returns-then-has_answered-clause-stands c = λ numbers ranks known seen before mine after bound given stands at of tracks e keeps.
    let next = c.args.next in
    let row = answer_of next.row.now in
    let count = stands.rows in
    let same : option_copied next.seen ≡ seen = of.seen in
    let is_mark : IsMeetingMark numbers.detect (known.steps ++ seen ∷ []) (length known.steps) c.meeting_mark.result =
    subst (λ (o : Option PairStep). IsMeetingMark numbers.detect (known.steps ++ o ∷ []) (length known.steps) c.meeting_mark.result) same
    (c.meeting_mark.ensures numbers.detect known.steps (subst (λ (o : Option PairStep). IsStateAfter numbers.detect (known.steps ++ o ∷ []) next.is.now) (sym same) of.is)) in
    let begins = stands.start in
    let apart = c.stays_apart-apart.ensures in
    let meets = meeting_marked numbers known seen c.meeting_mark.result next.was.now next.is.now c.stays_apart-apart.result c.args.first c.args.step
    c.args.queue.now c.mark_or_repeat.new.queue at of.was of.is is_mark apart.was apart.is (λ rests. let later = apart.later rests in omega arith)
    c.in_ok-mark_or_repeat.ensures in
    let reach = c.has_answered.ensures c.if-has_answered.true (formulas_of numbers) (record { trees = stands.values.trees; of = stands.values.of }) in
    rested c.args.program.now numbers _ known seen row c.meeting_mark.result
    (record {
      start = stands.start;
      rows = omega (arith, length-append known.steps (seen ∷ []), length-append known.trace (row ∷ []));
      values = c.feed-changes.ensures.follows (formulas_of numbers) known.trace stands.values;
    })
    is_mark _ stands.values (c.feed-changes.ensures.same c.if-not-changes.true) (omega arith)
    c.args.first c.args.queue.now c.mark_or_repeat.new.queue meets before mine after bound given tracks e keeps
