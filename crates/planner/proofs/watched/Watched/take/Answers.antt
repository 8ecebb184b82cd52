use Rattle.std.proofs.Common.{◌++◌, ◌∷◌, [], length, refl, sym, subst, ◌∙◌}
use Rattle.std.specs.Prelude.{Option}
use Rattle.encounters.specs.declared.pair_step.PairStep.{PairStep}
use Rattle.meetings.specs.Answers.{answer_of}
use Rattle.meetings.specs.Atoms.{IsAtomRow}
use Rattle.meetings.specs.Standing.{Follows}
use Rattle.planner.specs.Inner.Breaking.{formulas_of}
use Rattle.plan_situations.specs.Situations.{terms_of}
use Rattle.planner.proofs.Calm.{stays_calm}
use Rattle.planner.proofs.Watching.{with_row, without_row}
use Rattle.planner.proofs.watched.Watched.take.Goals as goal

pub returns-then-self-clause-ready : goal.returns-then-self-clause-ready
returns-then-self-clause-ready c = record {
  fits = c.feed-changes.ensures.fits;
  room = c.feed-changes.ensures.room c.requires.ready.room;
  unended = c.feed-changes.ensures.past;
  calm = λ e.
      let stays = c.stays_calm-self.ensures e in
      stays_calm c.args.program.now c.args.self.now.values c.feed-changes.new.self (c.feed-changes.ensures.same stays.1) (c.requires.ready.calm stays.0);
}

pub returns-then-self-clause-stands : goal.returns-then-self-clause-stands
returns-then-self-clause-stands c = λ s X T at stands is.
    with_row c.args.program.now s X T at c.args.self.now _ c.args.in_contact stands is.contact c.requires.few (sym c.begins-self.ensures ∙ c.if-self.true) c.if-self.true
    (λ steps rows short follows values. record {
      row = answer_of c.step-row.result;
      is_row = subst (λ (o : Option PairStep). IsAtomRow (terms_of s) (steps ++ o ∷ []) (length steps) (answer_of c.step-row.result)) is.step (c.step-row.ensures.row (terms_of s) steps short follows);
      follows = subst (λ (o : Option PairStep). Follows c.step-row.new.self (terms_of s) (steps ++ o ∷ [])) is.step (c.step-row.ensures.follows (terms_of s) steps short follows);
      values = c.feed-changes.ensures.follows (formulas_of s) rows values;
    })

pub returns-else-self-clause-stands : goal.returns-else-self-clause-stands
returns-else-self-clause-stands c = λ s X T at stands is.
    without_row c.args.program.now s X T at c.args.self.now _ c.args.in_contact stands is.contact (sym c.begins-self.ensures ∙ c.if-self.false) c.if-self.false refl refl
