use Rattle.std.proofs.Common.{◌∙◌, [], refl, ap, arith}
use Rattle.log_lines.specs.JudgedLines.{numbers_of}
use Rattle.log_lines.specs.SentLines.{sent}
use Rattle.tracks.specs.AcceptedReports.{JudgingNumbers}
use Rattle.plan_rows.proofs.Situated.{grown, situated}
use Rattle.plan_rows.proofs.head_on.situation_with.Goals as goal

pub loop-k-init : goal.loop-k-init
loop-k-init c = record { keeping = c.new-judge.ensures.keeping; stands = ([], refl, c.new-judge.ensures.stands) }

pub loop-k-preserved : goal.loop-k-preserved
loop-k-preserved c =
    let lines = c.loop-k.invariant.stands.0 in
    let long = c.loop-k.invariant.stands.1 in
    let few = c.loop-k-test.true in
    record {
      keeping = c.take.ensures.keeping ∙ c.loop-k.invariant.keeping;
      stands = grown c.take.new.self c.in-Ok.scenario lines _ c.loop-k.k long (c.in_ok-take.ensures.stands c.in-Ok.scenario lines (omega arith) c.loop-k.invariant.stands.2);
    }

pub prepare-requires-clause-keeping : goal.prepare-requires-clause-keeping
prepare-requires-clause-keeping c = c.book.ensures.keeping ∙ c.loop-k.invariant.keeping

pub prepare-requires-clause-gap : goal.prepare-requires-clause-gap
prepare-requires-clause-gap c =
    let stands = c.book.ensures.stands c.in-Ok.scenario c.loop-k.invariant.stands.0 c.loop-k.invariant.stands.2 in
    ap (λ (numbers : JudgingNumbers). numbers.gap) stands.by

pub prepare-requires-clause-stands : goal.prepare-requires-clause-stands
prepare-requires-clause-stands c =
    let scenario = c.in-Ok.scenario in
    let lines = c.loop-k.invariant.stands.0 in
    (numbers_of scenario, sent scenario lines, c.book.ensures.stands scenario lines c.loop-k.invariant.stands.2)

pub returns-in-Ok-prepare : goal.returns-in-Ok-prepare
returns-in-Ok-prepare c =
    let scenario = c.in-Ok.scenario in
    let lines = c.loop-k.invariant.stands.0 in
    situated (numbers_of scenario) (sent scenario lines) scenario c.in-Ok-prepare.prepared scenario.own c.is_none.result c.is_none.ensures c.if-is_none.false
    (c.in-Ok-prepare.ensures.prepared (numbers_of scenario) (sent scenario lines) (c.book.ensures.stands scenario lines c.loop-k.invariant.stands.2))
