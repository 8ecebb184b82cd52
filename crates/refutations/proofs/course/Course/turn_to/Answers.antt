use Rattle.std.proofs.Common.{◌≡◌, ◌∙◌, ◌+◌, ◌≤◌, ◌<◌, ◌*◌, ◌++◌, ℕ, List, Vec, Global, drop, length, take, subst, ap, sym, arith}
use Rattle.lattice.specs.Grids.{choices_of, positions_of}
use Rattle.lattice.specs.PlanNumbers.{IsPlan}
use Rattle.motion.specs.declared.leg.TickState.{TickState}
use Rattle.plan_situations.specs.Paths.{IsPath, IsTrack}
use Rattle.plan_situations.specs.Situations.{IsSituation}
use Rattle.plan_situations.specs.declared.situation.Situation.{Situation}
use Rattle.refutations.specs.Inner.Replays.{situation_in, AreBeginnings, AreSteeredAlike, HaveInCommon}
use Rattle.std.proofs.Math.Seq.{take-append_seam}
use Rattle.refutations.proofs.Courses.{beginnings_too, fewer_beginnings, steered_alike}
use Rattle.refutations.proofs.course.Course.turn_to.Goals as goal

-- The first legs that both plans have are enough for the beginnings that stay known.
pub reach-own-requires-clause-beginnings : goal.reach-own-requires-clause-beginnings
reach-own-requires-clause-beginnings c =
    let course = c.args.self.now in
    let s = situation_in course in
    let legs = c.legs_in_common-legs.result in
    let leg = c.min-leg.result in
    let common : HaveInCommon course.plan c.args.plan legs =
    subst (λ (x : List ℕ). HaveInCommon x c.args.plan legs) c.choices.ensures
    (subst (λ (y : List ℕ). HaveInCommon c.choices.result.now y legs) c.choices-2.ensures c.legs_in_common-legs.ensures) in
    let many = c.requires.course.legs in
    let some = c.requires.course.situation.some_leg in
    let least = c.min-leg.ensures in
    let count = c.len.ensures in
    let known = c.min-self.ensures in
    let within : leg ≤ legs = omega (arith, least) in
    let inside : leg < s.lattice.legs = omega (arith, least, count, many, some) in
    let alike : AreSteeredAlike s course.plan c.args.plan (leg * s.lattice.leg_ticks) = steered_alike s course.plan c.args.plan legs leg some common within inside in
    beginnings_too s course.plan c.args.plan c.min-self.result leg course.beginnings.items alike (omega (arith, known))
    (fewer_beginnings s course.plan course.known c.min-self.result course.beginnings.items (omega (arith, known)) c.requires.course.beginnings)

pub returns-clause-course : goal.returns-clause-course
returns-clause-course c =
    let course = c.args.self.now in
    let s = situation_in course in
    let legs = c.legs_in_common-legs.result in
    let leg = c.min-leg.result in
    let common : HaveInCommon course.plan c.args.plan legs =
    subst (λ (x : List ℕ). HaveInCommon x c.args.plan legs) c.choices.ensures
    (subst (λ (y : List ℕ). HaveInCommon c.choices.result.now y legs) c.choices-2.ensures c.legs_in_common-legs.ensures) in
    let many = c.requires.course.legs in
    let some = c.requires.course.situation.some_leg in
    let least = c.min-leg.ensures in
    let count = c.len.ensures in
    let within : leg ≤ legs = omega (arith, least) in
    let inside : leg < s.lattice.legs = omega (arith, least, count, many, some) in
    let alike : AreSteeredAlike s course.plan c.args.plan (leg * s.lattice.leg_ticks) = steered_alike s course.plan c.args.plan legs leg some common within inside in
    let next = c.reach-own.new.self in
    let path = c.refill.new.path in
    let same : situation_in next ≡ s = c.reach-own.ensures.situation in
    let plan : next.plan ≡ c.args.plan = c.reach-own.ensures.plan in
    let ticks = c.leg_ticks.ensures.value in
    let items : c.deref_mut.result.now ≡ course.path.items = c.deref_mut.ensures.value ∙ ap (λ (v : Vec TickState Global). v.items) c.reach-own.ensures.path in
    let was : IsPath (situation_in next) course.plan 0 c.deref_mut.result.now =
    subst (λ (x : Situation). IsPath x course.plan 0 c.deref_mut.result.now) (sym same)
    (subst (λ (xs : List TickState). IsPath s course.plan 0 xs) (sym items) c.requires.course.path) in
    let steered : AreSteeredAlike (situation_in next) course.plan next.plan (leg * c.leg_ticks.result) =
    subst (λ (k : ℕ). AreSteeredAlike (situation_in next) course.plan next.plan (leg * k)) (sym ticks)
    (subst (λ (p : List ℕ). AreSteeredAlike (situation_in next) course.plan p (leg * (situation_in next).lattice.leg_ticks)) (sym plan)
    (subst (λ (x : Situation). AreSteeredAlike x course.plan c.args.plan (leg * x.lattice.leg_ticks)) (sym same) alike)) in
    let whole : length path ≡ positions_of s.lattice + 1 = c.refill.ensures.whole ∙ (ap length items ∙ c.requires.course.whole) in
    let whole_there : length path ≡ positions_of (situation_in next).lattice + 1 = subst (λ (x : Situation). length path ≡ positions_of x.lattice + 1) (sym same) whole in
    let legs_are : length next.beginnings.items ≡ s.lattice.legs = c.reach-own.ensures.legs ∙ many in
    let known : next.known ≤ s.lattice.legs = omega (arith, c.reach-own.ensures.known, inside) in
    let count : length path ≡ length next.path.items = c.refill.ensures.whole ∙ ap length c.deref_mut.ensures.value in
    let long : next.path.len ≡ length path = next.path.ok.0 ∙ sym count in
    let kept = sym (ap (λ (m : ℕ). take m (path ++ drop (length path) next.path.items)) long ∙ take-append_seam path (drop (length path) next.path.items)) in
    record {
      situation = subst IsSituation (sym same) c.requires.course.situation;
      plan = subst (λ (x : Situation). IsPlan (choices_of x.lattice) x.lattice.legs next.plan) (sym same)
          (subst (λ (p : List ℕ). IsPlan (choices_of s.lattice) s.lattice.legs p) (sym plan) c.requires.plan);
      whole = ap length (sym kept) ∙ whole_there;
      path = subst (IsPath (situation_in next) next.plan 0) kept (c.refill.ensures.path course.plan was steered);
      track = subst IsTrack kept (c.refill.ensures.track course.plan was (subst IsTrack (sym items) c.requires.course.track) steered);
      legs = subst (λ (x : Situation). length next.beginnings.items ≡ x.lattice.legs) (sym same) legs_are;
      known = subst (λ (x : Situation). next.known ≤ x.lattice.legs) (sym same) known;
      beginnings = c.reach-own.ensures.beginnings;
    }
