use Rattle.std.proofs.Common.{sym, subst}
use Rattle.meetings.specs.Standing.{Following, FollowsRanked}
use Rattle.meetings.proofs.follower.Follower.state.Goals as goal

pub returns : goal.returns
returns c = λ terms ranks steps follows.
    let before : FollowsRanked (record { act = c.self.inside.telling.act; tick = c.self.inside.telling.tick; engagement = c.self.inside.engagement; by_rank = c.self.inside.telling.by_rank }) terms ranks steps =
    subst (λ (f : Following). FollowsRanked f terms ranks steps) (sym c.self.view_is) follows in
    c.state.ensures terms.detect steps before.engagement
