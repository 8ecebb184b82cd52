use Rattle.std.proofs.Common.{◌≡◌, ℕ, ◌+◌, ◌-◌, List, length, sym, subst, arith}
use Rattle.plan_situations.specs.FailingPlans.{FailsBy}
use Rattle.planner.specs.Inner.Legs.{IsPathIn}
use Rattle.motion.specs.declared.leg.TickState.{TickState}
use Rattle.plan_situations.specs.Boxes.{HoldsPath}
use Rattle.planner.specs.Inner.Levels.{AreBeside, StaysOut}
use Rattle.plan_situations.specs.Prefixes.{reached}
use Rattle.plan_situations.specs.Situations.{now_of}
use Rattle.planner.proofs.Extending.{along_fails, still_out}
use Rattle.planner.proofs.level.Level.enters.Goals as goal

pub enters-requires-clause-path : goal.enters-requires-clause-path
enters-requires-clause-path c = subst (IsPathIn c.args.situation.now c.args.leg.now) (sym c.deref.ensures.value) c.requires.path

pub enters-requires-clause-bounds : goal.enters-requires-clause-bounds
enters-requires-clause-bounds c = subst (HoldsPath c.args.self.now.bounds) (sym c.deref.ensures.value) c.requires.bounds

pub enters-requires-clause-beside : goal.enters-requires-clause-beside
enters-requires-clause-beside c =
    let s = c.args.situation.now in
    let begins = c.args.leg.now.begins in
    subst (λ (path : List TickState). AreBeside s begins (length path) c.deref-2.result.now) (sym c.deref.ensures.value)
    (subst (AreBeside s begins (length c.args.self.now.path.items)) (sym c.deref-2.ensures.value) c.requires.beside)

pub returns-clause-on : goal.returns-clause-on
returns-clause-on c = λ basis on. record {
  places = record { path = on.places.path; beside = on.places.beside; targets = on.places.targets; fits = on.places.fits; room = on.places.room };
  path = on.path;
  bounds = on.bounds;
}

pub returns-clause-fails : goal.returns-clause-fails
returns-clause-fails c = λ e.
    let s = c.args.situation.now in
    let W = c.args.leg.now.plan in
    let path = subst (IsPathIn s c.args.leg.now) (sym c.deref.ensures.value) c.requires.path in
    let some = path.some in
    let until = path.until in
    let end : now_of s + c.args.leg.now.begins + (length c.deref.result.now - 1) ≡ reached s (c.args.leg.now.index + 1) = omega arith in
    subst (λ (n : ℕ). FailsBy s n W) end (along_fails s W (now_of s + c.args.leg.now.begins) (length c.deref.result.now - 1) (omega arith) (c.enters.ensures.0 e))

pub returns-clause-outside : goal.returns-clause-outside
returns-clause-outside c = λ e outside.
    let s = c.args.situation.now in
    let W = c.args.leg.now.plan in
    let path = subst (IsPathIn s c.args.leg.now) (sym c.deref.ensures.value) c.requires.path in
    let some = path.some in
    let until = path.until in
    let from = c.requires.leg.from in
    let start : reached s c.args.leg.now.index ≡ now_of s + c.args.leg.now.begins = omega arith in
    let end : now_of s + c.args.leg.now.begins + (length c.deref.result.now - 1) ≡ reached s (c.args.leg.now.index + 1) = omega arith in
    subst (λ (n : ℕ). StaysOut s W n) end
    (still_out s W (now_of s + c.args.leg.now.begins) (length c.deref.result.now - 1) (omega arith) (subst (λ (n : ℕ). StaysOut s W n) start outside)
    (λ along. let t = c.enters.ensures.1 along in cc))
