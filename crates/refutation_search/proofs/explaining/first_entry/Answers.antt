use Rattle.std.proofs.Common.{◌≡◌, ◌∙◌, List, take, get_or, ap, sym, subst, arith, rules}
use Rattle.planner.specs.Walks.{IsFirstFailing}
use Rattle.plan_situations.specs.FailingPlans.{FailsTowards}
use Rattle.plan_situations.specs.LeastPlans.{numbered}
use Rattle.plan_situations.specs.Prefixes.{reached}
use Rattle.plan_situations.specs.Situations.{IsTarget}
use Rattle.plan_situations.specs.declared.situation.Target.{Target}
use Rattle.refutation_search.specs.Inner.Walks.{first_extension}
use Rattle.refutation_search.proofs.FirstEntries.{first_good_at}
use Rattle.refutation_search.proofs.explaining.first_entry.Goals as goal

pub first_towards-requires : goal.first_towards-requires
first_towards-requires c =
    let s = c.args.situation.now in
    let k = c.args.target in
    let first = c.requires.target in
    let T = c.index-as_slice-target.result in
    let at : T ≡ get_or s.targets k T = c.index-as_slice-target.is ∙ ap (λ (xs : List Target). get_or xs k T) c.as_slice.ensures in
    let plan : c.plan-plan.result ≡ numbered s (first_extension s c.args.legs c.args.number) = c.plan-plan.ensures.value ∙ ap (numbered s) c.first_number.ensures.value in
    let until : c.horizon-until.result ≡ reached s c.args.legs = c.horizon-until.ensures.value ∙ ap (reached s) c.from.ensures in
    record {
      situation = c.requires.situation;
      plan = c.plan-plan.ensures.plan;
      target = subst (IsTarget s) (sym at) (c.requires.situation.are_targets k T first.inside);
      from_now = c.horizon-until.ensures.from_now;
      until = c.horizon-until.ensures.within;
      fails = rw (plan, until) (subst (FailsTowards s (numbered s (first_extension s c.args.legs c.args.number)) (reached s c.args.legs)) (sym at) (first.fails T));
    }

pub returns-clause-first : goal.returns-clause-first
returns-clause-first c =
    let s = c.args.situation.now in
    let k = c.args.target in
    let T = c.index-as_slice-target.result in
    let at : T ≡ get_or s.targets k T = c.index-as_slice-target.is ∙ ap (λ (xs : List Target). get_or xs k T) c.as_slice.ensures in
    let plan : c.plan-plan.result ≡ numbered s (first_extension s c.args.legs c.args.number) = c.plan-plan.ensures.value ∙ ap (numbered s) c.first_number.ensures.value in
    let until : c.horizon-until.result ≡ reached s c.args.legs = c.horizon-until.ensures.value ∙ ap (reached s) c.from.ensures in
    let first : IsFirstFailing s c.plan-plan.result c.horizon-until.result k = rw (plan, until) c.requires.target in
    let is : c.of.result ≡ take c.args.legs c.plan-plan.result = search rules in
    let count = c.plan-plan.ensures.plan.count in
    first_good_at s c.requires.situation.some_leg c.plan-plan.result c.of.result c.args.legs c.horizon-until.result is (omega arith) until
    k T c.in_ok-reason.reason first.inside at c.requires.situation.ascending first.before c.in_ok-reason.ensures

pub returns-clause-prefix : goal.returns-clause-prefix
returns-clause-prefix c =
    let s = c.args.situation.now in
    let plan : c.plan-plan.result ≡ numbered s (first_extension s c.args.legs c.args.number) = c.plan-plan.ensures.value ∙ ap (numbered s) c.first_number.ensures.value in
    let is : c.of.result ≡ take c.args.legs c.plan-plan.result = search rules in
    is ∙ ap (take c.args.legs) plan
