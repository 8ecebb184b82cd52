use Rattle.std.proofs.Common.{sym, ap, subst, ◌∷◌, [], ◌++◌}
use Rattle.std.proofs.lemmas.Result.{IfOk-weaker}
use Rattle.aivdm.specs.FragmentJoining.{Taken, part_bits}
use Rattle.aivdm.specs.OpenMessages.{StandsFor as JoinerStandsFor}
use Rattle.aivdm.specs.Sentences.{fields_seen}
use Rattle.aivdm.specs.declared.joiner.Joined.TheVariants as joined
use Rattle.aivdm.proofs.ForCallers.{whole_message}
use Rattle.ais_messages.specs.declared.message.Decoded.TheVariants as decoded
use Rattle.ais_messages.specs.declared.message.Message.TheVariants as message
use Rattle.log_lines.specs.SentLines.{sent_decoded}
use Rattle.log_lines.specs.Inner.JudgeState.{judged_by}
use Rattle.log_lines.specs.declared.judge.Judge.{Judge}
use Rattle.log_lines.proofs.GoingOn.{GoesOn-message, crowded_message}
use Rattle.log_lines.proofs.judge.Judge.judge_sentence.Goals as goal

pub returns-in-Some-clause-judged : goal.returns-in-Some-clause-judged
returns-in-Some-clause-judged c =
    let next : Taken = record { sentence = fields_seen c.args.sentence; time = c.args.time } in
    let judge = c.judge_report.new.self in
    let kept = ap (λ (j : Judge). j.joiner) c.judge_report.ensures.same in
    let report = c.in-Some.ensures.report in
    IfOk-weaker c.judge_report.result _ _
    (λ came enters numbers ranked taken messages stands keeps.
    let whole = whole_message c.args.self.now.joiner taken next stands report.0 in
    GoesOn-message numbers ranked judge (judged_by came judge.latest) taken messages next (joined.Message (part_bits next)) (decoded.Message (message.Position c.in-Some.report)) whole.0
    (ap (sent_decoded c.args.time) report.1) (subst (λ joiner. JoinerStandsFor joiner (taken ++ next ∷ [])) (sym kept) whole.1) (enters numbers ranked messages keeps))
    c.judge_report.ensures.judged

pub returns-in-Some-clause-crowded : goal.returns-in-Some-clause-crowded
returns-in-Some-clause-crowded c = λ fault numbers taken messages stands book.
    let next : Taken = record { sentence = fields_seen c.args.sentence; time = c.args.time } in
    let report = c.in-Some.ensures.report in
    let whole = whole_message c.args.self.now.joiner taken next stands report.0 in
    crowded_message numbers taken messages next (joined.Message (part_bits next)) (decoded.Message (message.Position c.in-Some.report)) whole.0
    (ap (sent_decoded c.args.time) report.1) (c.judge_report.ensures.crowded fault numbers messages book)
