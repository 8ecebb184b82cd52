use Rattle.std.proofs.Common.{ℕ, ◌≡◌, List, length}
use Rattle.log_lines.specs.Standing.{StandsFor, keeping_of}
use Rattle.tracks.specs.declared.keeping.Keeping.TheVariants.{Tracks}
use Rattle.plan_rows.proofs.head_on.situation_with.Given as goal

abbrev pub invariant-loop-k : goal.invariant-loop-k
invariant-loop-k l = record {
  keeping : keeping_of l.judge ≡ Tracks;
  stands : (lines : List (List ℕ)) × (length lines ≡ l.k) × StandsFor l.judge l.scenario lines;
}
