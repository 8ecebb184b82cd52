use Rattle.log_lines.proofs.judge.Judge.judge_body.Goals as goal

pub returns-in-None-clause-judged : goal.returns-in-None-clause-judged
returns-in-None-clause-judged c = rw (c.in-Sentence.is, ← c.untimely.ensures, c.in-None.is) c.judge_sentence.ensures.judged
