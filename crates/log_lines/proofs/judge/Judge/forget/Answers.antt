use Rattle.std.proofs.Common.{◌≡◌, ◌∙◌, ℕ, refl, ap, sym, subst}
use Rattle.scenario_values.specs.declared.values.Scenario.{Scenario}
use Rattle.tracks.specs.Standing.{forgetting}
use Rattle.tracks.specs.declared.keeping.Keeping.{Keeping}
use Rattle.tracks.specs.declared.keeping.Keeping.TheVariants.{Latest, Since, Tracks}
use Rattle.log_lines.specs.JudgedLines.{numbers_of}
use Rattle.log_lines.specs.SentLines.{sent}
use Rattle.log_lines.specs.ShipTypes.{AreNoted, counts_ranks}
use Rattle.log_lines.proofs.judge.Judge.forget.Goals as goal

-- Ranks count as before.
counts_same : (keeping : Keeping) (time : ℕ) (scenario : Scenario) → counts_ranks (forgetting keeping time) scenario ≡ counts_ranks keeping scenario
counts_same Latest time scenario = refl
counts_same Tracks time scenario = refl
counts_same (Since earliest) time scenario = refl

pub returns-clause-stands : goal.returns-clause-stands
returns-clause-stands c = λ scenario lines stands.
    let before = c.args.self.now.book.keeping in
    let same = ap (λ (keeping : Keeping). counts_ranks keeping scenario) c.forget.ensures.keeping ∙ counts_same before c.args.time scenario in
    record {
      countable = stands.countable;
      times = stands.times;
      joiner = stands.joiner;
      book = c.forget.ensures.stands (numbers_of scenario) (sent scenario lines) stands.book;
      few = stands.few;
      notes = subst (λ (ranked : _). AreNoted ranked c.args.self.now.ranks (sent scenario lines)) (sym same) stands.notes;
      calm = stands.calm;
      told = stands.told;
      counts = stands.counts;
    }
