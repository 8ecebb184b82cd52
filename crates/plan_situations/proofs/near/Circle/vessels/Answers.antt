use Rattle.std.proofs.Common.{◌≡◌, ◌∙◌, ap, sym, subst, append-nil, Some, None}
use Rattle.std.specs.Prelude.{IfSome, Option}
use Rattle.std.specs.List.{All}
use Rattle.std.specs.Option.{option_copied}
use Rattle.std.proofs.lemmas.List.Elements.{All-push}
use Rattle.tracks.specs.VesselsHeld.{held_of}
use Rattle.plan_situations.specs.NearVessels.{near_by}
use Rattle.plan_situations.specs.Readiness.{latest_of}
use Rattle.tracks.specs.Standing.{IsAccepted}
use Rattle.plan_situations.specs.Inner.Facts.{IsFresh, IsNear}
use Rattle.plan_situations.specs.declared.near.Near.{Near}
use Rattle.plan_situations.proofs.Nearness.{near_so, one_vessel_more}
use Rattle.plan_situations.proofs.near.Circle.vessels.Goals as goal
use Rattle.plan_situations.proofs.near.Circle.vessels.Goals.{in-Some+in_ok-push, in_default}

pub loop-k-preserved : goal.loop-k-preserved
loop-k-preserved c =
    let circle = c.args.self.now in
    let book = c.args.book.now in
    let so_far = c.loop-k.invariant in
    let mmsi = c.vessel-mmsi.result in
    elim c.match-near_by.branch [
      | in-Some+in_ok-push w ↦ (
          let pushed = ap (λ v. v.items) w.near-is ∙ w.in_ok-push.ensures.items in
          let here = subst (λ (o : Option Near). IfSome o (λ (v : Near). (v.mmsi ≡ mmsi) × (option_copied c.latest.result ≡ Some v.latest) × IsAccepted v.latest × IsFresh circle.time v.latest))
          w.in-Some.is c.near_by.ensures.fresh in
          record {
            value = λ numbers messages stands.
                one_vessel_more (λ m. near_by numbers.gap circle.time circle.range circle.point m (latest_of numbers messages m)) (held_of numbers messages) c.loop-k.k mmsi (Some w.in-Some.vessel) c.loop-k.near.items _
                (c.vessel-mmsi.ensures numbers messages stands)
                (near_so numbers c.args.gap circle.time circle.range circle.point mmsi c.near_by.result (latest_of numbers messages mmsi) _ (sym (ap (λ n. n.gap) stands.by) ∙ c.requires.same_gap)
                (c.latest.ensures.value c.requires.keeping numbers messages stands) c.near_by.ensures.value ∙ w.in-Some.is)
                (so_far.value numbers messages stands) pushed;
            each = subst (All (IsNear circle.time book)) (sym pushed)
                (All-push (IsNear circle.time book) c.loop-k.near.items w.in-Some.vessel so_far.each (record {
                  accepted = here.2;
                  fresh = here.3;
                  latest = λ numbers messages stands. ap (latest_of numbers messages) here.0 ∙ sym (c.latest.ensures.value c.requires.keeping numbers messages stands) ∙ here.1;
                }));
          })
      | in_default w ↦ (
          let same = ap (λ v. v.items) w.near-is in
          record {
            value = λ numbers messages stands.
                one_vessel_more (λ m. near_by numbers.gap circle.time circle.range circle.point m (latest_of numbers messages m)) (held_of numbers messages) c.loop-k.k mmsi None c.loop-k.near.items _
                (c.vessel-mmsi.ensures numbers messages stands)
                (near_so numbers c.args.gap circle.time circle.range circle.point mmsi c.near_by.result (latest_of numbers messages mmsi) _ (sym (ap (λ n. n.gap) stands.by) ∙ c.requires.same_gap)
                (c.latest.ensures.value c.requires.keeping numbers messages stands) c.near_by.ensures.value ∙ w.in_default.is)
                (so_far.value numbers messages stands) (same ∙ sym (append-nil c.loop-k.near.items));
            each = subst (All (IsNear circle.time book)) (sym same) so_far.each;
          })
    ]
