use Rattle.std.proofs.Common.{refl, sym, ap, subst, ◌∙◌, ◌∷◌, [], ◌++◌}
use Rattle.std.proofs.lemmas.Result.{IfOk-weaker}
use Rattle.aivdm.specs.FragmentJoining.{Taken}
use Rattle.aivdm.specs.OpenMessages.{StandsFor as JoinerStandsFor}
use Rattle.aivdm.specs.Sentences.{fields_seen}
use Rattle.log_lines.specs.SentLines.{sent_decoded}
use Rattle.log_lines.specs.Inner.JudgeState.{judged_by}
use Rattle.log_lines.specs.declared.judge.Judge.{Judge}
use Rattle.log_lines.specs.declared.outcome.LineOutcome.TheVariants as outcome
use Rattle.log_lines.proofs.GoingOn.{GoesOn-message, GoesOn-silent, crowded_message}
use Rattle.log_lines.proofs.judge.Judge.judge_part.Goals as goal

pub returns-in-Message-clause-judged : goal.returns-in-Message-clause-judged
returns-in-Message-clause-judged c =
    let next : Taken = record { sentence = fields_seen c.args.sentence.now; time = c.args.time } in
    let judge = c.judge_decoded.new.self in
    let kept = ap (λ (j : Judge). j.joiner) c.judge_decoded.ensures.same in
    IfOk-weaker c.judge_decoded.result _ _
    (λ came enters numbers ranked taken messages stands keeps. GoesOn-message numbers ranked judge (judged_by came judge.latest) taken messages next _ c.decode.result
    (sym c.in-Message.is ∙ c.in_ok-bits.ensures.joined taken stands)
    (ap (sent_decoded c.args.time) (sym c.decode.ensures.fields))
    (subst (λ joiner. JoinerStandsFor joiner (taken ++ next ∷ [])) (sym kept) (c.in_ok-bits.ensures.stands taken stands))
    (enters numbers ranked messages keeps))
    c.judge_decoded.ensures.judged

pub returns-in-Message-clause-crowded : goal.returns-in-Message-clause-crowded
returns-in-Message-clause-crowded c = λ fault numbers taken messages stands book.
    crowded_message numbers taken messages _ _ c.decode.result (sym c.in-Message.is ∙ c.in_ok-bits.ensures.joined taken stands)
    (ap (sent_decoded c.args.time) (sym c.decode.ensures.fields)) (c.judge_decoded.ensures.crowded fault numbers messages book)

pub returns-in-Waiting-clause-judged : goal.returns-in-Waiting-clause-judged
returns-in-Waiting-clause-judged c = λ numbers ranked taken messages stands keeps.
    GoesOn-silent numbers ranked _ outcome.Part taken messages _ _ (sym c.in-Waiting.is ∙ c.in_ok-bits.ensures.joined taken stands) refl c.requires.untold
    (c.in_ok-bits.ensures.stands taken stands) keeps

pub returns-in-Orphan-clause-judged : goal.returns-in-Orphan-clause-judged
returns-in-Orphan-clause-judged c = λ numbers ranked taken messages stands keeps.
    GoesOn-silent numbers ranked _ outcome.Orphan taken messages _ _ (sym c.in-Orphan.is ∙ c.in_ok-bits.ensures.joined taken stands) refl c.requires.untold
    (c.in_ok-bits.ensures.stands taken stands) keeps
