use Rattle.std.proofs.Common.{◌≡◌, ◌<◌, ◌^◌, ◌+◌, ◌∙◌, ◌++◌, ◌∷◌, [], ℕ, List, length, refl, sym, ap, subst, arith, length-append}
use Rattle.std.specs.Prelude.{Option}
use Rattle.std.specs.Option.{option_copied}
use Rattle.encounters.specs.declared.pair_step.PairStep.{PairStep}
use Rattle.meetings.specs.Answers.{answer_of}
use Rattle.meetings.specs.Atoms.{IsAtomRow}
use Rattle.meetings.specs.Standing.{Follows}
use Rattle.meetings.specs.Traces.{step_at, steps_from}
use Rattle.meetings.proofs.ForCallers.{steps_from-last, steps_from-length}
use Rattle.plan_situations.specs.FailingPlans.{BeginsAt}
use Rattle.plan_situations.specs.Situations.{own_at, target_at, terms_of}
use Rattle.refutations.specs.Inner.Replays.{situation_in}
use Rattle.refutations.proofs.Replays.{one_more}
use Rattle.refutations.proofs.trace_so_far.TraceSoFar.follow.Goals as goal

pub loop-k-preserved : goal.loop-k-preserved
loop-k-preserved c =
    let s = situation_in c.args.course.now in
    let X = c.args.course.now.plan in
    let T = c.args.target.now in
    let a = own_at s X in
    let b = target_at s T in
    let was = c.loop-k.invariant in
    let trace = c.loop-k.self in
    let k = c.loop-k.k in
    let n = length trace.rows.items in
    let steps = steps_from a b trace.start n in
    let next = c.step-row.new.self in
    let told : trace.start + n ≡ k = was.told in
    let lt = c.loop-k-test.true in
    let few = c.requires.until in
    let past = c.requires.course.situation.short_past in
    let positions = c.requires.course.situation.few_positions in
    let count = steps_from-length a b trace.start n in
    let short : length steps < 2 ^ 31 = omega arith in
    let seen : option_copied c.as_ref.result ≡ step_at a b k = c.as_ref.ensures.value ∙ c.step_at.ensures.value in
    let follows : Follows next (terms_of s) (steps_from a b trace.start (n + 1)) =
    subst (λ (xs : List (Option PairStep)). Follows next (terms_of s) xs) (sym (steps_from-last a b trace.start n))
    (subst (λ (i : ℕ). Follows next (terms_of s) (steps ++ step_at a b i ∷ [])) (sym told)
    (subst (λ (o : Option PairStep). Follows next (terms_of s) (steps ++ o ∷ [])) seen (c.step-row.ensures.follows (terms_of s) steps short was.follows))) in
    let row : IsAtomRow (terms_of s) (steps ++ step_at a b k ∷ []) n (answer_of c.step-row.result) =
    subst (λ (i : ℕ). IsAtomRow (terms_of s) (steps ++ step_at a b k ∷ []) i (answer_of c.step-row.result)) count
    (subst (λ (o : Option PairStep). IsAtomRow (terms_of s) (steps ++ o ∷ []) (length steps) (answer_of c.step-row.result)) seen (c.step-row.ensures.row (terms_of s) steps short was.follows)) in
    let many : length c.push.new.self.items ≡ n + 1 = ap length c.in_ok-push.ensures.items ∙ length-append trace.rows.items (c.step-row.result ∷ []) in
    let start = was.start in
    let begins : BeginsAt s X (k + 1) T trace.start =
    subst (λ (i : ℕ). BeginsAt s X (k + 1) T i) (sym start) (record {
      before_end = omega arith;
      contact = c.requires.begins.contact;
      least = c.requires.begins.least;
    }) in
    record {
      start = start;
      plan = was.plan;
      told = omega arith;
      trace = one_more s X T trace (record { plan = trace.plan; start = trace.start; rows = c.push.new.self; followers = c.push-in-loop-k.new.self }) k c.step-row.result next was.trace begins
          (sym told) (omega arith) row follows refl c.in_ok-push.ensures.items c.in_ok-push-2.ensures.items;
      follows = subst (λ (i : ℕ). Follows next (terms_of s) (steps_from a b trace.start i)) (sym many) follows;
    }
