use Rattle.std.proofs.Common.{inl, inr, length, ap, ◌∙◌, arith}
use Rattle.ais_messages.specs.MessageFields.{decoded_of}
use Rattle.ais_messages.specs.PositionWriting.{class_a_fields, class_b_fields}
use Rattle.ais_messages.proofs.ReadAgain.{read_again_a, read_again_b}
use Rattle.ais_messages.proofs.Writing.{IfOk-weaker, length-written, widths_of}
use Rattle.ais_messages.proofs.encoding.encode_position.Goals as goal

pub returns-then-report-eq18-clause-length : goal.returns-then-report-eq18-clause-length
unfolding class_b_fields widths_of
returns-then-report-eq18-clause-length c =
    IfOk-weaker c.class_b.result (λ bits is. ap length is ∙ length-written (class_b_fields c.args.report.now)) c.class_b.ensures

pub returns-else-report-eq18-clause-length : goal.returns-else-report-eq18-clause-length
unfolding class_a_fields widths_of
returns-else-report-eq18-clause-length c =
    IfOk-weaker c.class_a.result (λ bits is. ap length is ∙ length-written (class_a_fields c.args.report.now)) c.class_a.ensures

pub returns-then-report-eq18-clause-decodes : goal.returns-then-report-eq18-clause-decodes
returns-then-report-eq18-clause-decodes c =
    elim c.requires.kind [
      | inl kinds ↦ absurd (omega (arith, kinds.1, c.if-report-eq18.true))
      | inr b ↦ IfOk-weaker c.class_b.result (λ bits is. ap decoded_of is ∙ read_again_b c.args.report.now c.requires.ranges b.0 b.1) c.class_b.ensures
    ]

pub returns-else-report-eq18-clause-decodes : goal.returns-else-report-eq18-clause-decodes
returns-else-report-eq18-clause-decodes c =
    elim c.requires.kind [
      | inl kinds ↦ IfOk-weaker c.class_a.result (λ bits is. ap decoded_of is ∙ read_again_a c.args.report.now c.requires.ranges kinds.0 kinds.1) c.class_a.ensures
      | inr b ↦ absurd (c.if-report-eq18.false b.0)
    ]
