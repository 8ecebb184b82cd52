use Rattle.std.proofs.Common.{◌≡◌, ◌∙◌, ◌<◌, ℕ, List, length, take, get_or, ap, subst}
use Rattle.std.specs.Prelude.{IsTrue, ◌↔◌}
use Rattle.std.proofs.lemmas.List.{get_or_default}
use Rattle.std.proofs.lemmas.Result.{IfOk-weaker}
use Rattle.plan_situations.specs.Prefixes.{reached}
use Rattle.plan_situations.specs.declared.situation.Situation.{Situation}
use Rattle.plan_situations.specs.declared.situation.Target.{Target}
use Rattle.plan_situations.proofs.ForCallers.{through}
use Rattle.refutations.specs.GoodEntries.{Holds, HoldsFor}
use Rattle.refutations.specs.Inner.Replays.{situation_in}
use Rattle.refutations.proofs.BrokenRules.{back}
use Rattle.refutations.proofs.FoundTargets.{element, only_target}
use Rattle.refutations.proofs.goodness.is_good.Goals as goal

pub returns-clause-good : goal.returns-clause-good
returns-clause-good c =
    let s = c.args.situation.now in
    let e = c.args.entry.now in
    let plan = c.first_plan.result in
    let choices = c.choices-prefix.ensures.choices in
    let extends : take (length e.prefix) plan ≡ e.prefix = subst (λ (p : List ℕ). take (length p) plan ≡ p) choices c.first_plan.ensures.extends in
    let until : c.horizon-until.result ≡ reached s (length e.prefix) = c.horizon-until.ensures.value ∙ ap (λ (p : List ℕ). reached s (length p)) choices in
    let all = c.as_slice.ensures in
    let k = c.in-Some.target in
    let lt : k < length s.targets = subst (λ (xs : List Target). k < length xs) all c.in-Some.ensures.0 in
    let d = element s.targets k lt in
    let T = get_or s.targets k d in
    let is : T ≡ get_or s.targets k T = get_or_default s.targets k d T lt in
    let mmsi : T.mmsi ≡ e.target = subst (λ (xs : List Target). (get_or xs k d).mmsi ≡ e.target) all (c.in-Some.ensures.1 d) in
    let agree = c.plans_agree_on_reasons.ensures e.prefix plan T e.reason extends in
    let only = only_target s.targets e.target c.requires.situation.ascending (λ (t : Target). HoldsFor s e.prefix t e.reason) k T lt is mmsi in
    let course = c.turn_to.new.self.course in
    let same : situation_in course ≡ s = c.turn_to.ensures.situation ∙ c.requires.same in
    IfOk-weaker c.holds.result _ _
    (λ good h. through (subst (λ (last : ℕ). IsTrue good ↔ Holds s plan last T e.reason) until
    (subst (λ (p : List ℕ). IsTrue good ↔ Holds s p c.horizon-until.result T e.reason) c.turn_to.ensures.plan
    (subst (λ (q : Situation). IsTrue good ↔ Holds q course.plan c.horizon-until.result (get_or q.targets k d) e.reason) same (h d)))) (through (back agree) (back only)))
    c.holds.ensures.holds
