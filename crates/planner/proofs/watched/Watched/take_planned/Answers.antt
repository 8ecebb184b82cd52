use Rattle.std.proofs.Common.{◌+◌, length, refl, arith, inl}
use Rattle.planner.specs.Inner.Breaking.{formulas_of}
use Rattle.planner.proofs.Calm.{none_broken}
use Rattle.planner.proofs.Watching.{now_broken, stands_as, still_unbroken, still_waits}
use Rattle.planner.proofs.watched.Watched.take_planned.Goals as goal

pub returns-then-not-self-clause-followed : goal.returns-then-not-self-clause-followed
returns-then-not-self-clause-followed c = λ W at from step.
    let towards = c.args.towards.now in
    let s = towards.situation.now in
    let T = towards.target.now in
    record {
      stands = λ e cut is was. still_waits towards.program.now s W T cut at c.args.self.now c.take.new.self was (c.take.ensures.stands s W T at was.stands step)
          c.if-not-self.true (c.take.ensures.unfed c.if-not-self.true) c.take.ensures.since;
      breaks = λ e cut is was. cc;
    }

pub returns-then-self-clause-followed : goal.returns-then-self-clause-followed
returns-then-self-clause-followed c = λ W at from step.
    let towards = c.args.towards.now in
    let s = towards.situation.now in
    let T = towards.target.now in
    let fed = c.take.ensures.fed c.if-not-self.false in
    let since = c.take.ensures.since in
    record {
      stands = λ e cut is was.
          still_unbroken towards.program.now s W T cut at c.args.self.now _ was
          (stands_as towards.program.now s W T (at + 1) c.take.new.self _ refl refl refl (c.take.ensures.stands s W T at was.stands step))
          c.if-not-self.false fed (omega arith)
          (λ rows follows. none_broken towards.program.now c.take.new.self.values (formulas_of s) rows follows (c.is_calm_now-self.ensures c.if-self.true) cut);
      breaks = λ e cut is was. cc;
    }

pub returns-clause-followed : goal.returns-clause-followed
returns-clause-followed c = λ W at from step.
    let towards = c.args.towards.now in
    let s = towards.situation.now in
    let T = towards.target.now in
    let fed = c.take.ensures.fed c.if-not-self.false in
    let since = c.take.ensures.since in
    record {
      stands = λ e cut is was.
          let counted = was.counted in
          still_unbroken towards.program.now s W T cut at c.args.self.now _ was
          (stands_as towards.program.now s W T (at + 1) c.take.new.self _ refl refl refl (c.take.ensures.stands s W T at was.stands step))
          c.if-not-self.false fed (omega arith)
          (λ rows follows told.
          let all_fed = follows.all_fed in
          let t = (c.is_newly_broken.ensures (formulas_of s) cut rows (length rows) (inl (follows, refl)) is.tells (omega arith)).1 told in cc);
      breaks = λ e cut is was.
          let counted = was.counted in
          now_broken towards.program.now s W T cut at c.args.self.now c.take.new.self was (c.take.ensures.stands s W T at was.stands step) is.is_cut from c.if-not-self.false
          (λ rows follows.
          let all_fed = follows.all_fed in
          (c.is_newly_broken.ensures (formulas_of s) cut rows (length rows) (inl (follows, refl)) is.tells (omega arith)).0 e);
    }
