use Rattle.std.proofs.Common.{arith, rules, ◌≡◌, refl, sym, subst}
use Rattle.std.proofs.lemmas.Grind.{common_steps}
use Rattle.tracks.specs.Standing.{VesselValue}
use Rattle.tracks.specs.Inner.Keeping.{IsKept}
use Rattle.tracks.specs.declared.keeping.Keeping.TheVariants.{Tracks}
use Rattle.tracks.proofs.Joining.{takes_apart, takes_joined}
use Rattle.tracks.proofs.vessel.Vessel.add.Goals as goal

pub returns-in_default-clause-ok : goal.returns-in_default-clause-ok
returns-in_default-clause-ok c =
    (takes_apart c.args.gap c.args.self.now (record { points = c.self.inside.points.items; legs = c.self.inside.legs; counts = c.self.inside.counts; statics = c.self.inside.statics }) _ c.args.accepted.now
    c.self.view_is c.requires.kept c.requires.accepted c.requires.follows (cc) c.in_ok-push.ensures.items refl c.more-self-inside.ensures refl).is

pub returns-in_default-clause-kept : goal.returns-in_default-clause-kept
returns-in_default-clause-kept c =
    (takes_apart c.args.gap c.args.self.now (record { points = c.self.inside.points.items; legs = c.self.inside.legs; counts = c.self.inside.counts; statics = c.self.inside.statics }) _ c.args.accepted.now
    c.self.view_is c.requires.kept c.requires.accepted c.requires.follows (cc) c.in_ok-push.ensures.items refl c.more-self-inside.ensures refl).kept

pub returns-then-is_err-clause-kept : goal.returns-then-is_err-clause-kept
returns-then-is_err-clause-kept c =
    let new : VesselValue = record { points = c.pop.new.self.items; legs = c.push-2.new.self; counts = c.self.inside.counts; statics = c.self.inside.statics } in
    let same : new ≡ c.args.self.now = grind (arith, common_steps) in
    subst (IsKept Tracks c.args.gap) (sym same) c.requires.kept

pub returns-clause-ok : goal.returns-clause-ok
returns-clause-ok c =
    (takes_joined c.args.gap c.args.self.now (record { points = c.self.inside.points.items; legs = c.self.inside.legs; counts = c.self.inside.counts; statics = c.self.inside.statics }) _ c.args.accepted.now c.in-Some.leg
    c.self.view_is c.requires.kept c.requires.accepted c.requires.follows (cc) c.in_ok-push.ensures.items (search rules) c.more-self-inside-2.ensures refl).is

pub returns-clause-kept : goal.returns-clause-kept
returns-clause-kept c =
    (takes_joined c.args.gap c.args.self.now (record { points = c.self.inside.points.items; legs = c.self.inside.legs; counts = c.self.inside.counts; statics = c.self.inside.statics }) _ c.args.accepted.now c.in-Some.leg
    c.self.view_is c.requires.kept c.requires.accepted c.requires.follows (cc) c.in_ok-push.ensures.items (search rules) c.more-self-inside-2.ensures refl).kept
