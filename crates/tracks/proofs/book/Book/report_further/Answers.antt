use Rattle.std.proofs.Common.{◌≡◌, ◌∙◌, ℕ, List, length, set, None, Some, refl, ap, sym, subst, arith}
use Rattle.std.specs.Prelude.{slice_get}
use Rattle.std.specs.List.{last_or}
use Rattle.std.proofs.lemmas.Result.{IfOk-weaker, on_ok_weaker}
use Rattle.ais_messages.specs.declared.message.Message.TheVariants.{Position}
use Rattle.tracks.specs.AcceptedReports.{JudgingNumbers}
use Rattle.tracks.specs.Inner.Keeping.{vessel_after}
use Rattle.tracks.specs.Standing.{BookValue, StandsFor, VesselValue}
use Rattle.tracks.specs.VesselsHeld.{Sent, entry_at, reported_in}
use Rattle.tracks.proofs.Books.{is_book_set}
use Rattle.tracks.proofs.Stands.{entry_after, held_further, stands_further, vessel_at}
use Rattle.tracks.proofs.book.Book.report_further.Goals as goal

-- the book before the message
book : goal.After-self-1 → BookValue
book c = record { keeping = c.self.inside.keeping; numbers = c.self.inside.numbers; held = c.self.inside.held.items; vessels = c.self.inside.vessels.items }

one : goal.After-self-1 → Sent
one c = record { message = Position c.args.report.now; time = c.args.time }

stood : (c : goal.After-self-1) (numbers : JudgingNumbers) (sent : List Sent) → StandsFor c.args.self.now numbers sent → StandsFor (book c) numbers sent
unfolding book
stood c numbers sent h = subst (λ (b : BookValue). StandsFor b numbers sent) (sym c.self.view_is) h

here : (c : goal.After-self-1) → slice_get (book c).held c.args.at ≡ Some (c.args.report.now.mmsi)
unfolding book
here c = subst (λ (b : BookValue). slice_get b.held c.args.at ≡ Some (c.args.report.now.mmsi)) (sym c.self.view_is) c.requires.sender

pub invariant_of-self : goal.invariant_of-self
unfolding book
invariant_of-self c = is_book_set (book c) c.args.at c.take_report.new.self c.self.invariant c.take_report.ensures.kept

pub returns-clause-entry : goal.returns-clause-entry
unfolding book one
returns-clause-entry c =
    IfOk-weaker c.take_report.result _ _
    (λ entry e numbers sent h.
    let s = stood c numbers sent h in
    let at = vessel_at (book c) numbers sent c.args.at _ c.index_mut-vessel.result.now s (here c) c.index_mut-vessel.ensures.value in
    e ∙ ap (λ (n : JudgingNumbers). entry_at n (last_or None c.index_mut-vessel.result.now.points) (reported_in (one c))) s.by
    ∙ entry_after c.self.inside.keeping numbers sent (one c) c.index_mut-vessel.result.now.points (ap (λ (v : VesselValue). v.points) at))
    c.take_report.ensures.entry

pub returns-clause-stands : goal.returns-clause-stands
unfolding book one vessel_after
returns-clause-stands c =
    on_ok_weaker c.take_report.result
    (λ e numbers sent h. stands_further (book c) _ numbers sent (one c) c.args.at c.index_mut-vessel.result.now (stood c numbers sent h) (here c) c.index_mut-vessel.ensures.value
    refl refl refl (ap (set c.self.inside.vessels.items c.args.at) e))
    c.take_report.ensures.ok

pub returns-clause-few : goal.returns-clause-few
unfolding book one
returns-clause-few c = λ numbers sent h.
    let s = stood c numbers sent h in
    let same = held_further (book c) numbers sent (one c) c.args.at s (here c) in
    omega (arith, ap (length {A = ℕ}) (same ∙ sym s.holds), c.self.invariant.few)
