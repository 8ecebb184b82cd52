use Rattle.std.proofs.Common.{◌≡◌, ◌∙◌, [], ◌∷◌, ◌++◌, length, sym, ap, subst}
use Rattle.std.specs.Option.{option_copied}
use Rattle.encounters.specs.Engagement.{IsState}
use Rattle.encounters.specs.Standing.{IsStateAfter, Kept}
use Rattle.encounters.specs.declared.detect.Detect.{Detect}
use Rattle.encounters.proofs.Lasting.{to_last}
use Rattle.encounters.proofs.engagement.Engagement.take.Goals as goal

pub returns-clause-state : goal.returns-clause-state
returns-clause-state c = λ detect steps short stands.
    let seen = option_copied c.args.seen in
    let same : c.self.inside.detect ≡ detect = ap (λ (k : Kept). k.detect) c.self.view_is ∙ stands.by in
    let before : IsStateAfter c.self.inside.detect steps c.self.inside.latest =
    subst (λ (d : Detect). IsStateAfter d steps c.self.inside.latest) (sym same)
    (subst (λ (k : Kept). IsStateAfter detect steps k.latest) (sym c.self.view_is) stands.after) in
    subst (λ (d : Detect). IsState d (steps ++ seen ∷ []) (length steps) c.take_step.new.state) same (c.take_step.ensures.state steps short before)

pub returns-clause-stands : goal.returns-clause-stands
returns-clause-stands c = λ detect steps short stands. record {
  by = ap (λ (k : Kept). k.detect) c.self.view_is ∙ stands.by;
  after = to_last detect steps (option_copied c.args.seen) c.take_step.new.state (returns-clause-state c detect steps short stands);
}
