use Rattle.std.proofs.Common.{◌≡◌, ◌+◌, length, sym, ap, subst, ◌∙◌, arith}
use Rattle.plan_situations.specs.Boxes.{HoldsPath}
use Rattle.planner.specs.Inner.Legs.{IsPathIn, lasts}
use Rattle.planner.proofs.Extending.{ends_there}
use Rattle.planner.proofs.Places.{written}
use Rattle.planner.proofs.level.Level.fill_path.Goals as goal

pub fill_path-requires-clause-planned : goal.fill_path-requires-clause-planned
fill_path-requires-clause-planned c = (ends_there c.args.situation.now c.args.leg.now c.requires.leg (length c.deref_mut.result.now) (ap length c.deref_mut.ensures.value ∙ c.requires.places)).1

pub returns : goal.returns
returns c = λ basis has.
    let s = c.args.situation.now in
    let leg = c.args.leg.now in
    let new = c.fill_path.new.path in
    let filled : length new ≡ lasts s leg.index + 1 = c.fill_path.ensures.count ∙ (ap length c.deref_mut.ensures.value ∙ c.requires.places) in
    let ends = ends_there s leg c.requires.leg (length new) filled in
    let kept = sym (written new c.args.self.now.path.items c.args.self.now.path.len (filled ∙ sym c.requires.places) c.args.self.now.path.ok.0) in
    record {
      places = record { path = ap length (sym kept) ∙ filled; beside = has.beside; targets = has.targets; fits = has.fits; room = has.room };
      path = subst (IsPathIn s leg) kept (record {
        some = omega arith;
        planned = ends.1;
        until = ends.0;
        states = c.fill_path.ensures.path;
        track = c.fill_path.ensures.track;
      });
      bounds = subst (HoldsPath c.around-self.result) c.deref.ensures.value c.around-self.ensures;
    }
