use Rattle.std.proofs.Common.{Ok, Err, subst, sym}
use Rattle.std.specs.Prelude.{OnErr, OnOk, Result}
use Rattle.std.proofs.lemmas.Result.{on_ok_weaker}
use Rattle.tracks.specs.Inner.Keeping.{IsKept}
use Rattle.tracks.specs.declared.keeping.Keeping.{Keeping}
use Rattle.tracks.specs.declared.keeping.Keeping.TheVariants.{Since, Tracks}
use Rattle.tracks.proofs.Gone.{vessel_since_kept}
use Rattle.tracks.proofs.Joining.{takes_late, takes_latest}
use Rattle.tracks.proofs.vessel.Vessel.accept.Goals as goal

pub returns-in-Latest-clause-ok : goal.returns-in-Latest-clause-ok
returns-in-Latest-clause-ok c =
    on_ok_weaker c.replace.result
    (λ e. (takes_latest c.args.keeping c.args.gap c.args.self.now c.replace.new.self c.args.accepted.now c.in-Latest.is c.requires.kept c.requires.accepted e).is)
    c.replace.ensures.ok

-- either way
in_both : {T E P Q R : Type 0} (r : Result T E) → (P → R) → (Q → R) → OnOk r P → OnErr r Q → R
in_both (Ok x) f g p q = f p
in_both (Err e) f g p q = g q

pub returns-in-Latest-clause-kept : goal.returns-in-Latest-clause-kept
returns-in-Latest-clause-kept c =
    in_both c.replace.result
    (λ e. (takes_latest c.args.keeping c.args.gap c.args.self.now c.replace.new.self c.args.accepted.now c.in-Latest.is c.requires.kept c.requires.accepted e).kept)
    (λ e. subst (IsKept c.args.keeping c.args.gap) (sym e) c.requires.kept)
    c.replace.ensures.ok c.replace.ensures.err

pub returns-then-accepted-time-clause-kept : goal.returns-then-accepted-time-clause-kept
returns-then-accepted-time-clause-kept c =
    subst (λ (k : Keeping). IsKept k c.args.gap c.forget.new.self) (sym c.in-Since.is)
    (subst (IsKept (Since c.in-Since.time) c.args.gap) (sym c.forget.ensures) (vessel_since_kept Tracks c.args.gap c.in-Since.time c.add-in-Since.new.self c.add-in-Since.ensures.kept))

pub returns-else-accepted-time-clause-ok : goal.returns-else-accepted-time-clause-ok
returns-else-accepted-time-clause-ok c =
    (takes_late c.args.keeping c.args.gap c.in-Since.time c.args.self.now c.add-in-Since.new.self c.args.accepted.now c.in-Since.is c.requires.kept c.add-in-Since.ensures.kept
    c.in_ok-add-in-Since.ensures.ok c.if-accepted-time.false).is

pub returns-else-accepted-time-clause-kept : goal.returns-else-accepted-time-clause-kept
returns-else-accepted-time-clause-kept c =
    (takes_late c.args.keeping c.args.gap c.in-Since.time c.args.self.now c.add-in-Since.new.self c.args.accepted.now c.in-Since.is c.requires.kept c.add-in-Since.ensures.kept
    c.in_ok-add-in-Since.ensures.ok c.if-accepted-time.false).kept
