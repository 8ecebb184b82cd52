use Rattle.std.proofs.Common.{◌≡◌, ◌∙◌, [], ap, map, refl}
use Rattle.tracks.specs.AcceptedReports.{JudgingNumbers}
use Rattle.tracks.specs.Standing.{vessel_of}
use Rattle.tracks.specs.VesselsHeld.{held_of}
use Rattle.tracks.proofs.book.Book.with_keeping.Goals as goal

none_held : (numbers : JudgingNumbers) → [] ≡ held_of numbers []
unfolding held_of
none_held numbers = refl

pub returns-clause-stands : goal.returns-clause-stands
returns-clause-stands c =
    let numbers : JudgingNumbers = record { reference = c.args.reference; gap = c.args.gap; max_speed = c.args.max_speed } in
    record {
      by = refl;
      holds = c.new.ensures.items ∙ none_held numbers;
      vessels = c.new-2.ensures.items ∙ ap (map (vessel_of c.args.keeping numbers [])) (none_held numbers);
    }
