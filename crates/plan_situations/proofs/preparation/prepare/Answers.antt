use Rattle.std.proofs.Common.{◌≡◌, ◌∙◌, ◌≤◌, ◌*◌, ℕ, List, length, map, refl, ap, sym, subst, Err}
use Rattle.std.specs.Prelude.{IfSome, IsErrAnd, IsSome, Option, Result, true}
use Rattle.std.specs.List.{All}
use Rattle.std.proofs.lemmas.List.{length-map}
use Rattle.lattice.specs.Grids.{positions_of}
use Rattle.plan_situations.specs.Inner.Facts.{IsSized, IsTargetOver}
use Rattle.plan_situations.specs.declared.situation.Situation.{Situation}
use Rattle.plan_situations.specs.declared.situation.Target.{Target}
use Rattle.scenario_values.specs.ValueRanges.{IsOwnPart}
use Rattle.scenario_values.specs.Ticks.{window_end}
use Rattle.scenario_values.specs.declared.own_part.OwnPart.{OwnPart}
use Rattle.tracks.specs.VesselsHeld.{is_held}
use Rattle.plan_situations.specs.NearVessels.{near_of, others_of, point_now}
use Rattle.plan_situations.specs.PlanSituations.{greatest_targets, metre, own_readiness, situation_of, target_of, vessels_near}
use Rattle.plan_situations.specs.Preparing.{HasManyTargets, IsPrepared}
use Rattle.plan_situations.specs.declared.near.Near.{Near}
use Rattle.plan_situations.specs.declared.preparation.PrepareFault.{PrepareFault}
use Rattle.plan_situations.specs.declared.preparation.Prepared.{Prepared}
use Rattle.plan_situations.specs.declared.preparation.PrepareFault.TheVariants as fault
use Rattle.plan_situations.proofs.Nearness.{near_are_held, near_in_order, others_in_order}
use Rattle.plan_situations.proofs.Situated.{in_order, is_situation}
use Rattle.plan_situations.proofs.preparation.prepare.Goals as goal

fewer : (f : Near → Target) (vs : List Near) → length vs ≤ 64 → length (map f vs) ≤ 64
fewer f vs h = subst (λ (n : ℕ). n ≤ 64) (sym (length-map vs f)) h

pub returns-in-Err-clause-unready : goal.returns-in-Err-clause-unready
returns-in-Err-clause-unready c = λ why is numbers messages stands.
    let scenario = c.args.scenario in
    let why-is : c.in-Err.why ≡ fault.Unready why = cc is in
    subst (λ (o : Option OwnPart). IfSome o (λ own. own_readiness numbers messages scenario own ≡ Err why)) (sym c.unwrap-own.ensures)
    (c.in-Err.ensures.unready why (ap Err why-is) numbers messages stands)

pub returns-in-Err-clause-many : goal.returns-in-Err-clause-many
unfolding vessels_near
returns-in-Err-clause-many c = λ is numbers messages stands.
    let scenario = c.args.scenario in
    let why-is : c.in-Err.why ≡ fault.TooManyTargets = cc is in
    subst (λ (o : Option OwnPart). IfSome o (HasManyTargets numbers messages scenario))
    (sym c.unwrap-own.ensures) (c.in-Err.ensures.many (ap Err why-is) numbers messages stands)

pub returns-in-Ok-clause-prepared : goal.returns-in-Ok-clause-prepared
unfolding vessels_near situation_of
returns-in-Ok-clause-prepared c = λ numbers messages stands.
    let scenario = c.args.scenario in
    let own = c.unwrap-own.result in
    let window = scenario.window in
    let found = c.in-Ok.found in
    let told = c.in-Ok.ensures in
    let ready = found.ready in
    let near : List Near = found.near.items in
    let vessel : Near = record { mmsi = own.mmsi; latest = ready.latest } in
    let point = point_now (window_end window) ready.latest in
    let near-is : near ≡ near_of numbers messages (window_end window) (metre * own.range) point = told.near numbers messages stands in
    let part = subst (λ (o : Option OwnPart). IfSome o (IsOwnPart window.tick)) c.unwrap-own.ensures c.requires.in_range.own in
    let grid : IsSized own.lattice = c.is_sized.ensures in
    let past = told.past numbers messages stands in
    let others = ap (others_of own.mmsi) near-is in
    let targets = c.new.ensures ∙ told.targets numbers messages stands
    ∙ ap (λ (vs : List Near). map (target_of numbers messages window own) (others_of own.mmsi vs)) near-is in
    let few = subst (λ (vs : List Near). length vs ≤ greatest_targets) others told.few in
    let order = others_in_order own.mmsi (near_of numbers messages (window_end window) (metre * own.range) point) (near_in_order numbers messages (window_end window) (metre * own.range) point) in
    let start = c.start_of.ensures in
    let situation : Situation = record {
      own_past = found.own_past;
      start = c.start_of.result;
      targets = c.new.result;
      rules = scenario.rules;
      detect = scenario.detect;
      act = scenario.act;
      lattice = own.lattice;
      tick = window.tick;
      shape = own.shape;
    } in
    let prepared : Prepared = record { ready = ready; near = found.near; situation = situation } in
    subst (λ (o : Option OwnPart). IfSome o (λ own. IsPrepared numbers messages scenario own prepared)) (sym c.unwrap-own.ensures) (record {
      is_ready = told.ready numbers messages stands;
      near = near-is;
      held = subst (All (λ (v : Near). is_held numbers messages v.mmsi ≡ true)) (sym near-is) (near_are_held numbers messages (window_end window) (metre * own.range) point);
      few = few;
      situation = λ i. record {
        own_past = past i;
        start = start.value i;
        targets = targets i;
        rules = scenario.rules;
        detect = scenario.detect;
        act = scenario.act;
        lattice = own.lattice;
        tick = window.tick;
        shape = own.shape;
      };
      sound = is_situation numbers messages scenario own vessel situation c.requires.in_range part grid told.own.1.fresh past told.seen start.state
          (ap (λ s. s.point) start.value) refl refl (record {
            course = subst (λ s. IsSome s.direction) (sym start.value) refl;
            speed = subst (λ s. IsSome s.speed) (sym start.value) refl;
            detect = c.requires.in_range.detect.numbers;
            few = subst (λ ts. length ts ≤ 64) (sym targets) (fewer (target_of numbers messages window own) _ few);
            ascending = in_order numbers messages scenario own _ _ order targets;
          }) (subst (All (IsTargetOver window.ticks (positions_of own.lattice))) (sym c.new.ensures) told.over);
    })
