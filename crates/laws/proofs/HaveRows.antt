-- That each list of steps has a list of rows, as the law of `meetings` says it.
use Rattle.std.proofs.Common.{ℕ, List}
use Rattle.std.specs.Prelude.{Option}
use Rattle.encounters.specs.declared.pair_step.PairStep.{PairStep}
use Rattle.meetings.specs.Atoms.{AreRankedRows}
use Rattle.meetings.specs.Terms.{Terms}
use Rattle.meetings.specs.declared.by_rank.ByRank.{ByRank}
use Rattle.mtl_formulas.specs.Traces.{Trace}

abbrev pub HaveRows : Type 0
HaveRows = (terms : Terms) (ranks : ℕ → ByRank) (steps : List (Option PairStep)) → (rows : Trace) × AreRankedRows terms ranks steps rows
