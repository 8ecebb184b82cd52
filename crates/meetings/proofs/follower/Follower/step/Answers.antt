use Rattle.std.proofs.Common.{rules}
use Rattle.meetings.specs.Ranks.{all_power_driven}
use Rattle.meetings.proofs.follower.Follower.step.Goals as goal

pub returns-clause-row : goal.returns-clause-row
returns-clause-row c = λ terms steps short follows. c.step_ranked.ensures.row terms all_power_driven steps short (λ said says. search rules) follows

pub returns-clause-follows : goal.returns-clause-follows
returns-clause-follows c = λ terms steps short follows. c.step_ranked.ensures.follows terms all_power_driven steps short (λ said says. search rules) follows
