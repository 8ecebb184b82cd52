use Rattle.log_lines.proofs.judge.Judge.judge_decoded.Goals as goal

pub returns-in-Message-clause-judged : goal.returns-in-Message-clause-judged
returns-in-Message-clause-judged c = rw c.in-Message.is c.judge_message.ensures.judged
