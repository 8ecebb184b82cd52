use Rattle.std.proofs.Common.{◌≡◌, ◌≤◌, ◌*◌, ◌∙◌, ℕ, true, List, Option, Some, Err, Ok, ap, sym, subst, arith}
use Rattle.std.specs.Prelude.{IsErr, IsErrAnd, Result}
use Rattle.std.proofs.lemmas.Grind.{common_steps}
use Rattle.std.proofs.lemmas.Result.{IfOk-from_err}
use Rattle.fixed_geometry.specs.declared.point.Point.{Point}
use Rattle.tracks.specs.AcceptedReports.{JudgingNumbers}
use Rattle.tracks.specs.Standing.{BookValue, StandsFor}
use Rattle.tracks.specs.VesselsHeld.{Sent}
use Rattle.tracks.specs.declared.accepted.Accepted.{Accepted}
use Rattle.plan_situations.specs.NearVessels.{near_of, point_now}
use Rattle.plan_situations.specs.PlanSituations.{greatest_targets, metre}
use Rattle.plan_situations.specs.Readiness.{is_fresh, latest_of, readiness_by, readiness_of}
use Rattle.plan_situations.specs.Inner.Facts.{IsFresh, IsNear, IsReady}
use Rattle.plan_situations.specs.declared.preparation.PrepareFault.{PrepareFault}
use Rattle.plan_situations.specs.declared.preparation.PrepareFault.TheVariants as fault
use Rattle.plan_situations.specs.declared.preparation.Surroundings.{Surroundings}
use Rattle.plan_situations.specs.declared.readiness.Ready.{Ready}
use Rattle.plan_situations.specs.declared.readiness.Unready.{Unready}
use Rattle.plan_situations.proofs.preparation.surroundings_of.Goals as goal

-- out of memory is no other error
not_unready : (r : Result Surroundings PrepareFault) (why : Unready) → IsErrAnd r (λ e. e ≡ fault.Memory) → r ≡ Err (fault.Unready why) → ⊥
not_unready (Ok found) why is same = cc
not_unready (Err e) why is same = cc

not_many : (r : Result Surroundings PrepareFault) → IsErrAnd r (λ e. e ≡ fault.Memory) → r ≡ Err fault.TooManyTargets → ⊥
not_many (Ok found) is same = cc
not_many (Err e) is same = cc

-- own ship's readiness by the messages, and that she is near herself

ready_by : (numbers : JudgingNumbers) (messages : List Sent) (gap now later mmsi : ℕ) (latest : Option Accepted) (ready : Ready) → gap ≡ numbers.gap → now ≡ later
    → latest ≡ latest_of numbers messages mmsi → Ok ready ≡ readiness_by gap now latest → readiness_of numbers messages later mmsi ≡ Ok ready
ready_by numbers messages gap now later mmsi latest ready same_gap same_time told is =
    sym (is ∙ (ap (λ (k : ℕ). readiness_by k now latest) same_gap ∙ (ap (λ (t : ℕ). readiness_by numbers.gap t latest) same_time ∙ ap (readiness_by numbers.gap later) told)))

told_by : (gap now : ℕ) (latest : Option Accepted) (ready : Ready) → Ok ready ≡ readiness_by gap now latest → latest ≡ Some ready.latest
told_by gap now latest ready is = grind (arith, common_steps)

fresh_by : (gap now later : ℕ) (report : Accepted) → gap ≤ 3600 → now ≡ later → is_fresh gap now report ≡ true → IsFresh later report
fresh_by gap now later report short same fresh = grind (arith, common_steps)

own_is_near : (book : BookValue) (gap now later mmsi : ℕ) (latest : Option Accepted) (ready : Ready) → gap ≤ 3600 → now ≡ later → IsReady ready → Ok ready ≡ readiness_by gap now latest
    → is_fresh gap now ready.latest ≡ true → ((numbers : JudgingNumbers) (messages : List Sent) → StandsFor book numbers messages → latest ≡ latest_of numbers messages mmsi)
    → IsNear later book (record { mmsi = mmsi; latest = ready.latest })
own_is_near book gap now later mmsi latest ready short same is_ready is fresh told = record {
  accepted = is_ready.accepted;
  fresh = fresh_by gap now later ready.latest short same fresh;
  latest = λ numbers messages stands. sym (told numbers messages stands) ∙ told_by gap now latest ready is;
}

same_near : (numbers : JudgingNumbers) (messages : List Sent) (t u r s : ℕ) (p q : Point) → t ≡ u → r ≡ s → p ≡ q → near_of numbers messages t r p ≡ near_of numbers messages u s q
same_near numbers messages t u r s p q time range point =
    ap (λ (k : ℕ). near_of numbers messages k r p) time ∙ (ap (λ (k : ℕ). near_of numbers messages u k p) range ∙ ap (near_of numbers messages u s) point)

no_error : (found : Surroundings) (fault : PrepareFault) → Ok found ≡ Err fault → ⊥
no_error found fault same = cc

pub returns-in_err-near : goal.returns-in_err-near
returns-in_err-near c =
    let r = c.from_residual-in_err-near.result in
    let is : IsErr r = c.from_residual-in_err-near.ensures.0 in
    record {
      ready = IfOk-from_err r _ is;
      own = IfOk-from_err r _ is;
      near = IfOk-from_err r _ is;
      few = IfOk-from_err r _ is;
      past = IfOk-from_err r _ is;
      seen = IfOk-from_err r _ is;
      targets = IfOk-from_err r _ is;
      over = IfOk-from_err r _ is;
      unready = λ why same. absurd (not_unready r why c.from_residual-in_err-near.ensures.1 same);
      many = λ same. absurd (not_many r c.from_residual-in_err-near.ensures.1 same);
    }

pub returns-in_err-own_past : goal.returns-in_err-own_past
returns-in_err-own_past c =
    let r = c.from_residual-in_err-own_past.result in
    let is : IsErr r = c.from_residual-in_err-own_past.ensures.0 in
    record {
      ready = IfOk-from_err r _ is;
      own = IfOk-from_err r _ is;
      near = IfOk-from_err r _ is;
      few = IfOk-from_err r _ is;
      past = IfOk-from_err r _ is;
      seen = IfOk-from_err r _ is;
      targets = IfOk-from_err r _ is;
      over = IfOk-from_err r _ is;
      unready = λ why same. absurd (not_unready r why c.from_residual-in_err-own_past.ensures.1 same);
      many = λ same. absurd (not_many r c.from_residual-in_err-own_past.ensures.1 same);
    }

pub returns-in_err-targets : goal.returns-in_err-targets
returns-in_err-targets c =
    let r = c.from_residual-in_err-targets.result in
    let is : IsErr r = c.from_residual-in_err-targets.ensures.0 in
    record {
      ready = IfOk-from_err r _ is;
      own = IfOk-from_err r _ is;
      near = IfOk-from_err r _ is;
      few = IfOk-from_err r _ is;
      past = IfOk-from_err r _ is;
      seen = IfOk-from_err r _ is;
      targets = IfOk-from_err r _ is;
      over = IfOk-from_err r _ is;
      unready = λ why same. absurd (not_unready r why c.from_residual-in_err-targets.ensures.1 same);
      many = λ same. absurd (not_many r c.from_residual-in_err-targets.ensures.1 same);
    }

pub returns-clause-past : goal.returns-clause-past
returns-clause-past c = c.in_ok-own_past.ensures.value

pub returns-clause-seen : goal.returns-clause-seen
returns-clause-seen c = c.in_ok-own_past.ensures.known

pub returns-clause-targets : goal.returns-clause-targets
returns-clause-targets c = λ numbers messages stands. rw c.deref-2.ensures.value at (c.in_ok-targets.ensures.value numbers messages stands)

pub returns-clause-over : goal.returns-clause-over
returns-clause-over c = c.in_ok-targets.ensures.over

pub returns-clause-unready : goal.returns-clause-unready
returns-clause-unready c = λ why same. absurd (no_error _ _ same)

pub returns-clause-many : goal.returns-clause-many
returns-clause-many c = λ same. absurd (no_error _ _ same)

pub returns-clause-ready : goal.returns-clause-ready
returns-clause-ready c = λ numbers messages stands.
    ready_by numbers messages c.args.gap c.time-now.result _ _ _ _ (sym c.requires.gap ∙ ap (λ (n : JudgingNumbers). n.gap) stands.by) c.time-now.ensures
    (c.latest.ensures.value c.requires.setting.keeping numbers messages stands) c.in_ok-ready.ensures.value

pub past-requires-clause-near : goal.past-requires-clause-near
past-requires-clause-near c =
    own_is_near _ c.args.gap c.time-now.result _ _ _ _ c.requires.short c.time-now.ensures c.in_ok-ready.ensures.ready c.in_ok-ready.ensures.value c.in_ok-ready.ensures.fresh
    (c.latest.ensures.value c.requires.setting.keeping)

pub returns-clause-own : goal.returns-clause-own
returns-clause-own c = (
  c.in_ok-ready.ensures.ready,
  own_is_near _ c.args.gap c.time-now.result _ _ _ _ c.requires.short c.time-now.ensures c.in_ok-ready.ensures.ready c.in_ok-ready.ensures.value
      c.in_ok-ready.ensures.fresh (c.latest.ensures.value c.requires.setting.keeping),
)

pub returns-clause-near : goal.returns-clause-near
returns-clause-near c = λ numbers messages stands.
    c.in_ok-near.ensures.near numbers messages stands ∙ same_near numbers messages _ _ _ _ _ _ c.time-now.ensures (ap (λ (k : ℕ). metre * k) c.from.ensures)
    (c.point_now.ensures.value ∙ ap (λ (t : ℕ). point_now t c.in_ok-ready.ready.latest) c.time-now.ensures)

pub returns-clause-few : goal.returns-clause-few
returns-clause-few c = subst (λ (n : ℕ). n ≤ greatest_targets) (rw c.deref.ensures.value at c.count_others.ensures) c.if-count_others-gt-MOST_TARGETS.false
