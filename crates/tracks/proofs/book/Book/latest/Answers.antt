use Rattle.std.proofs.Common.{ap, ◌∙◌, None}
use Rattle.std.specs.List.{last_or}
use Rattle.tracks.specs.Standing.{kept_points}
use Rattle.tracks.specs.VesselsHeld.{accepted_of}
use Rattle.tracks.specs.declared.keeping.Keeping.{Keeping}
use Rattle.tracks.proofs.book.Book.latest.Goals as goal

pub returns-clause-value : goal.returns-clause-value
returns-clause-value c = λ all numbers sent stands.
    c.latest.ensures.value ∙ ap (last_or None) (c.points.ensures.value numbers sent stands)
    ∙ ap (λ (keeping : Keeping). last_or None (kept_points keeping (accepted_of numbers sent c.args.mmsi))) all
