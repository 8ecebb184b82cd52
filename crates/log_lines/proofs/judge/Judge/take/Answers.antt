use Rattle.std.proofs.Common.{ap, sym, subst, ◌∙◌, ◌≡◌, ◌<◌, ◌^◌, ℕ, Option, IfSome, Err, rules}
use Rattle.aivdm.specs.Sentences.{LineContent, body_seen}
use Rattle.log_lines.specs.JudgedLines.{outcome_of}
use Rattle.log_lines.specs.LineTimes.{stamp_of}
use Rattle.log_lines.specs.Inner.JudgeState.{judged_by}
use Rattle.log_lines.proofs.GoingOn.{Judges, crowded_by, in_time, judged_is, new_is, stands_on}
use Rattle.log_lines.proofs.judge.Judge.take.Goals as goal

judges : (c : goal.After-count) → Judges c.args.self.now c.judge_body.new.self (judged_by c.in_ok-came.came c.judge_body.new.self.latest) c.args.line.now
judges c =
    let stamp : c.read_line-reading.result.stamp ≡ stamp_of c.args.line.now = ap (λ (content : LineContent). content.stamp) c.read_line-reading.ensures.same in
    record {
      time = c.time-time.result;
      body = body_seen c.read_line-reading.result.body;
      timed = rw (← stamp) c.time-time.ensures;
      said = ap (λ (content : LineContent). content.body) c.read_line-reading.ensures.same;
      in_time = in_time c.time-time.result (body_seen c.read_line-reading.result.body) c.time-time.type_inv;
      stamp_small = subst (λ (stamp : Option ℕ). IfSome stamp (λ seconds. seconds < 2 ^ 64)) stamp (search rules);
      kept = c.in_ok-came.ensures.keeping;
      on = c.in_ok-came.ensures.judged;
    }

pub returns-clause-judged : goal.returns-clause-judged
returns-clause-judged c = λ scenario before stands.
    c.judged-judged.ensures ∙ judged_is c.args.self.now c.judge_body.new.self _ c.args.line.now scenario before stands (judges c)

pub returns-clause-stands : goal.returns-clause-stands
returns-clause-stands c = λ scenario before few stands.
    let stamp : c.read_line-reading.result.stamp ≡ stamp_of c.args.line.now = ap (λ (content : LineContent). content.stamp) c.read_line-reading.ensures.same in
    let is = new_is c.args.self.now c.judge_body.new.self c.count.new.self (judged_by c.in_ok-came.came c.judge_body.new.self.latest) c.args.line.now c.pass.new.self _ c.outcome.result
    c.in_ok-came.ensures.same c.pass.ensures stamp (c.outcome.ensures ∙ ap outcome_of c.judged-judged.ensures) c.count.ensures in
    stands_on c.args.self.now c.judge_body.new.self c.count.new.self _ c.args.line.now scenario before few stands (judges c) is

pub returns-in_err-came-clause-crowded : goal.returns-in_err-came-clause-crowded
returns-in_err-came-clause-crowded c = λ told scenario before stands.
    let said = rw told at c.from_residual.ensures in
    let stamp : c.read_line-reading.result.stamp ≡ stamp_of c.args.line.now = ap (λ (content : LineContent). content.stamp) c.read_line-reading.ensures.same in
    crowded_by c.args.self.now c.args.line.now scenario before c.time-time.result (body_seen c.read_line-reading.result.body) c.time-time.type_inv stands
    (rw (← stamp) c.time-time.ensures) (ap (λ (content : LineContent). content.body) c.read_line-reading.ensures.same)
    (c.in_err-came.ensures.crowded (ap Err (sym said.1)))
