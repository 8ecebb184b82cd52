use Rattle.std.proofs.Common.{◌+◌, [], ◌∷◌, ◌++◌, ◌⊎◌, ◌∙◌, Some}
use Rattle.meetings.specs.Answers.{answer_of}
use Rattle.early_monitor.specs.declared.alarm.Alarm.{Alarm}
use Rattle.early_monitor.specs.Inner.Breaches.{IsBreach, IsBreachBefore, Tells}
use Rattle.early_monitor.proofs.Breaches.{adds_none, adds_same, adds_then, all_given, more_given, none_given}
use Rattle.early_monitor.proofs.early_rule.EarlyRule.take_row.Goals as goal

pub loop-position-init : goal.loop-position-init
loop-position-init c =
    let place = c.args.place in
    let row = answer_of c.args.row.now in record {
      of = c.feed.ensures.of;
      fed = c.feed.ensures.fed;
      gives = λ t rows at. (
        0,
        c.feed.ensures.giving t rows at,
        adds_none (IsBreachBefore 0 place t (rows ++ row ∷ [])) c.args.alarms.now.keys (none_given place t (rows ++ row ∷ [])),
      );
    }

pub loop-position-preserved : goal.loop-position-preserved
loop-position-preserved c =
    let place = c.args.place in
    let row = answer_of c.args.row.now in
    let i = c.loop-position.invariant in
    let e = c.in-Some.ensures in record {
      of = c.next.ensures.of;
      fed = c.next.ensures.fed ∙ i.fed;
      gives = λ t rows at.
          let all = rows ++ row ∷ [] in
          let given = i.gives t rows at in
          let from = given.0 in
          let both = e.answer t all from given.1 in
          let is = c.in-Some.position in (
            is + 1,
            both.1,
            adds_same (λ (a : Alarm). IsBreachBefore from place t all a ⊎ Tells (Some (is, c.in-Some.value)) place a) (IsBreachBefore (is + 1) place t all) c.args.alarms.now.keys c.take_value.new.alarms.keys
                (more_given place t all from is c.in-Some.value both.0)
                (adds_then (IsBreachBefore from place t all) (Tells (Some (is, c.in-Some.value)) place) c.args.alarms.now.keys c.loop-position.alarms.keys c.take_value.new.alarms.keys given.2
                c.in_ok-take_value.ensures),
          );
    }

pub returns-clause-adds : goal.returns-clause-adds
returns-clause-adds c = λ t rows at.
    let place = c.args.place in
    let row = answer_of c.args.row.now in
    let all = rows ++ row ∷ [] in
    let given = c.loop-position.invariant.gives t rows at in
    let from = given.0 in
    let both = rw c.in_default.is at (c.next.ensures.answer t all from given.1) in (
      both.1,
      adds_same (IsBreachBefore from place t all) (IsBreach place t all) c.args.alarms.now.keys c.loop-position.alarms.keys (all_given place t all from both.0) given.2,
    )
