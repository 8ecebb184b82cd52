use Rattle.std.proofs.Common.{◌≡◌, Some, None, position, slice_set, sym, ap, ◌∙◌}
use Rattle.std.specs.List.{find}
use Rattle.aivdm.specs.FragmentJoining.{Taken}
use Rattle.aivdm.specs.Inner.OpenRuns.{has_key, joined_next, joined_on, put, run_on, runs_next}
use Rattle.aivdm.specs.Sentences.{fields_seen}
use Rattle.aivdm.specs.declared.joiner.Begun.{Begun}
use Rattle.aivdm.proofs.Standing.{at_first, at_found, at_none, place_found, place_none, put_place}
use Rattle.aivdm.proofs.Steps.{then_ok, then_on}
use Rattle.aivdm.proofs.joiner.join.Goals as goal

pub returns-then-sentence-eq1-clause-joined : goal.returns-then-sentence-eq1-clause-joined
returns-then-sentence-eq1-clause-joined c =
    (at_first c.args.begun.now.items (record { sentence = fields_seen c.args.sentence.now; time = c.args.time }) c.if-sentence-eq1.true).0

pub returns-then-sentence-eq1-clause-runs : goal.returns-then-sentence-eq1-clause-runs
returns-then-sentence-eq1-clause-runs c =
    let part : Taken = record { sentence = fields_seen c.args.sentence.now; time = c.args.time } in
    let runs = c.args.begun.now.items in
    c.in_ok-keep.ensures.ok
    ∙ ap (λ (first : Begun). put part.sentence first runs) c.in_ok-first.ensures
    ∙ (at_first runs part c.if-sentence-eq1.true).1

pub returns-in-Some-clause-joined : goal.returns-in-Some-clause-joined
returns-in-Some-clause-joined c =
    let part : Taken = record { sentence = fields_seen c.args.sentence.now; time = c.args.time } in
    let runs = c.args.begun.now.items in
    let run = c.index_mut.result.now in
    let here : Some c.in-Some.at ≡ position (has_key part.sentence) runs = sym c.in-Some.is ∙ c.place_of-place.ensures ∙ ap (position (has_key part.sentence)) c.as_slice.ensures.value in
    let found : find (has_key part.sentence) runs ≡ Some run = place_found part.sentence runs c.in-Some.at run here ∙ ap Some (sym c.index_mut.ensures.value) in
    then_ok c.go_on.result (λ joined. joined ≡ joined_on run part) (λ joined. joined ≡ joined_next runs part) c.go_on.ensures.joined
    (λ joined is. is ∙ (at_found runs part run c.if-sentence-eq1.false found).0)

pub returns-in-Some-clause-runs : goal.returns-in-Some-clause-runs
returns-in-Some-clause-runs c =
    let part : Taken = record { sentence = fields_seen c.args.sentence.now; time = c.args.time } in
    let runs = c.args.begun.now.items in
    let run = c.index_mut.result.now in
    let at = c.in-Some.at in
    let here : Some at ≡ position (has_key part.sentence) runs = sym c.in-Some.is ∙ c.place_of-place.ensures ∙ ap (position (has_key part.sentence)) c.as_slice.ensures.value in
    let found : find (has_key part.sentence) runs ≡ Some run = place_found part.sentence runs at run here ∙ ap Some (sym c.index_mut.ensures.value) in
    then_on c.go_on.result (c.go_on.new.self ≡ run_on run part) (slice_set runs at c.go_on.new.self ≡ runs_next runs part) c.go_on.ensures.run
    (λ is.
    put_place part.sentence c.go_on.new.self runs at here
    ∙ ap (λ (new : Begun). put part.sentence new runs) is
    ∙ (at_found runs part run c.if-sentence-eq1.false found).1)

pub returns-in-None-clause-joined : goal.returns-in-None-clause-joined
returns-in-None-clause-joined c =
    let part : Taken = record { sentence = fields_seen c.args.sentence.now; time = c.args.time } in
    let runs = c.args.begun.now.items in
    let none : None ≡ position (has_key part.sentence) runs = sym c.in-None.is ∙ c.place_of-place.ensures ∙ ap (position (has_key part.sentence)) c.as_slice.ensures.value in
    (at_none runs part c.if-sentence-eq1.false (place_none part.sentence runs none)).0

pub returns-in-None-clause-runs : goal.returns-in-None-clause-runs
returns-in-None-clause-runs c =
    let part : Taken = record { sentence = fields_seen c.args.sentence.now; time = c.args.time } in
    let runs = c.args.begun.now.items in
    let none : None ≡ position (has_key part.sentence) runs = sym c.in-None.is ∙ c.place_of-place.ensures ∙ ap (position (has_key part.sentence)) c.as_slice.ensures.value in
    (at_none runs part c.if-sentence-eq1.false (place_none part.sentence runs none)).1
