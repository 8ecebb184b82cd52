use Rattle.std.proofs.Common.{◌≤◌, List, [], length, lit<, sym, subst}
use Rattle.aivdm.specs.OpenMessages.{StandsFor as JoinerStandsFor}
use Rattle.tracks.specs.Standing.{StandsFor as BookStandsFor}
use Rattle.tracks.specs.VesselsHeld.{Sent, held_of}
use Rattle.tracks.specs.declared.keeping.Keeping.{Keeping}
use Rattle.log_lines.specs.JudgedLines.{greatest_held, numbers_of}
use Rattle.log_lines.specs.ShipTypes.{AreNoted, counts_ranks}
use Rattle.log_lines.specs.Standing.{AreCounts}
use Rattle.log_lines.proofs.Counting.{AreCounts-zeros}
use Rattle.log_lines.proofs.Pushing.{nothing_crowded, nothing_heard, nothing_held, nothing_judged, nothing_sent, nothing_told}
use Rattle.log_lines.proofs.judge.Judge.new.Goals as goal

pub returns-clause-stands : goal.returns-clause-stands
returns-clause-stands c =
    let scenario = c.args.scenario.now in
    let numbers = numbers_of scenario in
    record {
      countable = lit< tt;
      times = c.new.ensures;
      joiner = subst (JoinerStandsFor c.new-2.result) (sym (nothing_heard scenario)) c.new-2.ensures;
      book = subst (BookStandsFor c.with_keeping.result numbers) (sym (nothing_sent scenario)) c.with_keeping.ensures.stands;
      few = subst (λ (l : List Sent). length (held_of numbers l) ≤ greatest_held) (sym (nothing_sent scenario)) (nothing_held numbers);
      notes = subst (AreNoted (counts_ranks c.with_keeping.result.keeping scenario) c.no_ship_types.result) (sym (nothing_sent scenario))
          (subst (λ (keeping : Keeping). AreNoted (counts_ranks keeping scenario) c.no_ship_types.result []) (sym c.with_keeping.ensures.keeping) c.no_ship_types.ensures);
      calm = nothing_crowded scenario;
      told = sym (nothing_told scenario);
      counts = subst (AreCounts _) (sym (nothing_judged scenario)) AreCounts-zeros;
    }
