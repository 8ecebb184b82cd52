use Rattle.std.proofs.Common.{◌∙◌, ap, ℕ}
use Rattle.log_lines.specs.JudgedLines.{numbers_of}
use Rattle.log_lines.specs.SentLines.{sent}
use Rattle.tracks.specs.Standing.{kept_points}
use Rattle.tracks.specs.VesselsHeld.{accepted_of}
use Rattle.tracks.specs.declared.keeping.Keeping.{Keeping}
use Rattle.settled_ticks.proofs.vessel_ranks.points_near.Goals as goal

pub returns-then-vessel-mmsi : goal.returns-then-vessel-mmsi
returns-then-vessel-mmsi c = λ scenario lines judged.
    let numbers = numbers_of scenario in
    let messages = sent scenario lines in
    (c.held-vessel.ensures.kept numbers messages (c.book-book.ensures.stands scenario lines judged)).points
    ∙ ap (λ (mmsi : ℕ). kept_points c.book-book.result.now.keeping (accepted_of numbers messages mmsi)) c.if-vessel-mmsi.true
    ∙ ap (λ (keeping : Keeping). kept_points keeping (accepted_of numbers messages c.args.mmsi)) c.book-book.ensures.keeping

pub returns : goal.returns
returns c = λ scenario lines judged.
    let numbers = numbers_of scenario in
    let messages = sent scenario lines in
    c.points.ensures.value numbers messages (c.book-book.ensures.stands scenario lines judged)
    ∙ ap (λ (keeping : Keeping). kept_points keeping (accepted_of numbers messages c.args.mmsi)) c.book-book.ensures.keeping
