use Rattle.std.proofs.Common.{rules, subst, sym}
use Rattle.ranks.specs.GivingWay.{GivesWay}
use Rattle.ranks.specs.declared.rank.Rank.{Rank}
use Rattle.ranks.proofs.Giving.{to_all_others}
use Rattle.ranks.proofs.rank.gives.Goals as goal
use Rattle.ranks.proofs.rank.gives.Goals.{in-Power-matches, in_default}

pub returns-after-matches : goal.returns-after-matches
returns-after-matches c =
    elim c.match-matches.branch [
      | in-Power-matches w ↦ search rules
      | in_default w ↦ (λ yes. subst (λ (a : Rank). GivesWay a c.args.b) (sym c.in-Power.is) (to_all_others c.args.b w.in_default.not-Power), λ gives. search rules)
    ]
