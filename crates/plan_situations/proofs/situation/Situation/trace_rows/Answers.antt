use Rattle.std.proofs.Common.{◌≡◌, ◌-◌, ◌<◌, ℕ, ◌^◌, ◌++◌, ◌∷◌, [], List, ap, length, map, sym, subst, ◌∙◌, arith}
use Rattle.std.specs.Prelude.{IfSome, Option}
use Rattle.std.specs.Option.{option_copied}
use Rattle.encounters.specs.Directions.{HaveDirections}
use Rattle.encounters.specs.declared.pair_step.PairStep.{PairStep}
use Rattle.meetings.specs.Answers.{answer_of}
use Rattle.meetings.specs.Atoms.{AreAtomRows, IsAtomRow}
use Rattle.meetings.specs.Standing.{Follows}
use Rattle.meetings.specs.Traces.{step_at, steps_from}
use Rattle.meetings.proofs.ForCallers.{steps_from-length}
use Rattle.plan_situations.specs.Paths.{IsTrack}
use Rattle.plan_situations.specs.Situations.{own_at, target_at, terms_of}
use Rattle.plan_situations.proofs.FlatList.{as_many, rows_more, steps_more}
use Rattle.plan_situations.proofs.situation.Situation.trace_rows.Goals as goal

pub path_up_to-requires : goal.path_up_to-requires
path_up_to-requires c =
    record { situation = c.requires.situation; plan = c.requires.plan; from_now = c.requires.from_now; until = c.requires.until }

pub step_along-requires : goal.step_along-requires
step_along-requires c =
    let same = sym c.deref.ensures.value in
    let path = c.in_ok-path.ensures in
    let long : length c.deref.result.now ≡ length c.in_ok-path.path.items = ap length c.deref.ensures.value in
    let until = c.requires.until in
    let lt = c.loop-k-test.true in
    record {
      situation = c.requires.situation;
      plan = c.requires.plan;
      path = rw c.deref.ensures.value path.path;
      track = subst IsTrack same path.track;
      planned = omega (arith, path.count);
      target = c.requires.target;
      within = omega (arith, path.count);
    }

pub step-requires : goal.step-requires
step-requires c = subst (λ (o : Option PairStep). IfSome o HaveDirections) (sym c.as_ref.ensures.value) c.step_along.ensures.heads

pub loop-k-preserved : goal.loop-k-preserved
loop-k-preserved c =
    let s = c.args.self.now in
    let a = own_at s c.args.plan.now in
    let b = target_at s c.args.target.now in
    let k = c.loop-k.k in
    let steps = steps_from a b c.args.start (k - c.args.start) in
    let few = c.requires.until in
    let past = c.requires.situation.short_past in
    let positions = c.requires.situation.few_positions in
    let lt = c.loop-k-test.true in
    let le = c.loop-k.auto.k in
    let count = steps_from-length a b c.args.start (k - c.args.start) in
    let short : length steps < 2 ^ 31 = omega arith in
    let seen : option_copied c.as_ref.result ≡ step_at a b k = c.as_ref.ensures.value ∙ c.step_along.ensures.value in
    let follows = c.step.ensures.follows (terms_of s) steps short c.loop-k.invariant.follows in
    let row = c.step.ensures.row (terms_of s) steps short c.loop-k.invariant.follows in
    record {
      follows = subst (λ (xs : List (Option PairStep)). Follows c.step.new.self (terms_of s) xs) (sym (steps_more a b c.args.start k le))
          (subst (λ (o : Option PairStep). Follows c.step.new.self (terms_of s) (steps ++ o ∷ [])) seen follows);
      are_rows = rows_more (terms_of s) a b c.args.start k c.loop-k.rows.items c.push.new.self.items c.step.result le c.loop-k.invariant.are_rows
          (subst (λ (o : Option PairStep). IsAtomRow (terms_of s) (steps ++ o ∷ []) (length steps) (answer_of c.step.result)) seen row)
          c.in_ok-push.ensures.items;
    }

pub returns-clause-count : goal.returns-clause-count
returns-clause-count c =
    let end = c.requires.until in
    let start = c.requires.start in
    let le = c.loop-k-test.false in
    let ge = c.loop-k.auto.k-end in
    let many = as_many (terms_of c.args.self.now) (own_at c.args.self.now c.args.plan.now) (target_at c.args.self.now c.args.target.now) c.args.start c.loop-k.k c.loop-k.rows.items c.loop-k.invariant.are_rows in
    omega arith

pub returns-clause-rows : goal.returns-clause-rows
returns-clause-rows c =
    let s = c.args.self.now in
    let start = c.requires.start in
    let le = c.loop-k-test.false in
    let ge = c.loop-k.auto.k-end in
    let end : c.loop-k.k ≡ c.args.until = omega arith in
    subst (λ (k : ℕ). AreAtomRows (terms_of s) (steps_from (own_at s c.args.plan.now) (target_at s c.args.target.now) c.args.start (k - c.args.start)) (map answer_of c.loop-k.rows.items))
    end c.loop-k.invariant.are_rows
