use Rattle.std.proofs.Common.{◌≡◌, ◌∙◌, ℕ, List, Some, get_or, refl, ap, sym}
use Rattle.std.specs.Prelude.{slice_get}
use Rattle.std.proofs.lemmas.Option.{slice_get_read}
use Rattle.tracks.specs.Standing.{BookValue, VesselValue}
use Rattle.tracks.proofs.Stands.{held_at}
use Rattle.tracks.proofs.book.Book.held.Goals as goal

-- her identity stands at the index in the book
here : (c : goal.After-statics) → slice_get c.args.self.now.held c.args.k ≡ Some c.index.result.now
here c = slice_get_read c.args.self.now.held _ c.args.k c.index.result.now refl c.requires (c.index.ensures ∙ ap (λ (b : BookValue). get_or b.held c.args.k c.index.result.now) c.self.view_is)

pub returns-clause-mmsi : goal.returns-clause-mmsi
returns-clause-mmsi c = here c

pub returns-clause-listed : goal.returns-clause-listed
returns-clause-listed c = λ numbers sent stands. ap (λ (ms : List ℕ). slice_get ms c.args.k) (sym stands.holds) ∙ here c

pub returns-clause-kept : goal.returns-clause-kept
returns-clause-kept c = λ numbers sent stands.
    let vessel = c.vessel_at-vessel.ensures.value numbers sent c.index.result.now stands (here c) in
    record {
      held = held_at c.args.self.now numbers sent c.args.k c.index.result.now stands (here c);
      points = c.points.ensures ∙ ap (λ (v : VesselValue). v.points) vessel;
      legs = c.legs.ensures ∙ ap (λ (v : VesselValue). v.legs) vessel;
      counts = c.counts.ensures ∙ ap (λ (v : VesselValue). v.counts) vessel;
      statics = c.statics.ensures ∙ ap (λ (v : VesselValue). v.statics) vessel;
    }
