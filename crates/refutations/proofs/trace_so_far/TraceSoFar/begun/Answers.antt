use Rattle.std.proofs.Common.{◌<◌, length, sym, subst, ap, arith}
use Rattle.std.proofs.lemmas.Grind.{common_steps}
use Rattle.plan_situations.specs.FailingPlans.{BeginsAt}
use Rattle.refutations.specs.Inner.Replays.{situation_in}
use Rattle.refutations.specs.declared.trace_so_far.TraceSoFar.{TraceSoFar}
use Rattle.refutations.proofs.trace_so_far.TraceSoFar.begun.Goals as goal
use Rattle.refutations.proofs.trace_so_far.TraceSoFar.begun.Goals.{then-is_empty+in_ok-self, else-is_empty}

pub returns-then-self-until-clause-begins : goal.returns-then-self-until-clause-begins
returns-then-self-until-clause-begins c =
    let s = situation_in c.args.course.now in
    let Begins : TraceSoFar → Type 0 = λ trace. BeginsAt s c.args.course.now.plan c.args.until c.args.target.now trace.start in
    elim c.if-is_empty.branch [
      | then-is_empty+in_ok-self w ↦ subst Begins (sym w.self-is) w.in_ok-self.ensures
      | else-is_empty w ↦ (let some : 0 < length c.args.self.now.rows.items = grind (arith, common_steps) in
          let begins = c.requires.trace.begins some in
          subst Begins (sym w.self-is) (record {
            before_end = subst (λ (trace : TraceSoFar). trace.start < c.args.until) w.self-is c.if-self-until.true;
            contact = begins.contact;
            least = begins.least;
          }))
    ]

pub returns-else-self-until-clause-begins : goal.returns-else-self-until-clause-begins
returns-else-self-until-clause-begins c = λ k lt contact.
    elim c.if-is_empty.branch [
      | then-is_empty+in_ok-self w ↦ (let starts = ap (λ (trace : TraceSoFar). trace.start) w.self-is in
          absurd (omega (arith, starts, c.if-self-until.false, w.in_ok-self.ensures.before_end)))
      | else-is_empty w ↦ (let some : 0 < length c.args.self.now.rows.items = grind (arith, common_steps) in
          let starts = ap (λ (trace : TraceSoFar). trace.start) w.self-is in
          (c.requires.trace.begins some).least k (omega (arith, starts, c.if-self-until.false, lt)) contact)
    ]
