use Rattle.scenario.proofs.SameScenario.{by_bytes}
use Rattle.scenario.proofs.laws.a_migrated_text_means_the_same.Goals as goal

pub returns : goal.returns
returns c = λ bytes text need_own scenario is means. by_bytes bytes text is need_own scenario means
