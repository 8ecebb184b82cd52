use Rattle.std.proofs.Common.{◌++◌, ◌∷◌, ℕ, List, ap, subst, sym, ◌∙◌}
use Rattle.audit_rows.specs.Standing.{QueueStandsFor}
use Rattle.audit_rows.specs.Tracks.{IsNextAt, Track, marked}
use Rattle.audit_rows.proofs.ForCallers.{marked_there, next_there, repeated}
use Rattle.std.proofs.lemmas.Result.{on_ok_weaker}
use Rattle.auditor.proofs.trace.mark_or_repeat.Goals as goal

pub returns-then-repeats : goal.returns-then-repeats
returns-then-repeats c = λ bound before after track given keeps e next repeats.
    repeated c.args.queue.now before after track c.args.mark bound given (repeats c.if-repeats.true) keeps

pub returns : goal.returns
returns c = on_ok_weaker c.mark.result
    (λ by bound before after track given keeps e next repeats.
    let all = before ++ track ∷ after in
    subst (λ (ts : List Track). QueueStandsFor c.mark.new.self ts bound given)
    (ap (λ (i : ℕ). marked all i c.args.mark) e ∙ marked_there before after track c.args.mark)
    (by all bound given keeps (subst (λ (i : ℕ). IsNextAt all i c.args.step) (sym e) (next_there before after track c.args.step next))))
    c.mark.ensures
