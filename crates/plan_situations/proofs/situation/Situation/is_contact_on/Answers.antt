use Rattle.std.proofs.Common.{ℕ, ◌+◌, ◌≡◌, ap, ◌∙◌, arith}
use Rattle.plan_situations.specs.Situations.{now_of, target_at}
use Rattle.plan_situations.proofs.OwnStates.{contact_by, own_on_path}
use Rattle.plan_situations.proofs.situation.Situation.is_contact_on.Goals as goal

pub returns : goal.returns
returns c = λ plan is.
    let s = c.args.self.now in
    let there : now_of s + c.args.first + c.args.j ≡ now_of s + (c.args.first + c.args.j) = omega arith in
    contact_by s.detect.watch _ _ _ c.target_ahead-other.result c.contact.result
    (own_on_path s plan c.args.first c.args.path.now c.args.j _ c.requires.tick is)
    (ap (λ (k : ℕ). target_at s c.args.target.now k) there ∙ c.target_ahead-other.ensures)
    c.contact.ensures
