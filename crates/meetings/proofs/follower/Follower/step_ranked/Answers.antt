use Rattle.std.proofs.Common.{◌≡◌, ℕ, ◌∷◌, ◌++◌, [], IsTrue, length, length-append, sym, ap, subst, ◌∙◌, arith}
use Rattle.std.specs.Prelude.{IsSome, ◌↔◌, ◌-◌, ◌<◌, ◌^◌, List, Option, IsSomeAnd}
use Rattle.std.specs.Option.{option_copied}
use Rattle.encounters.specs.Risk.{HasRisk}
use Rattle.encounters.specs.declared.act.Act.{Act}
use Rattle.encounters.specs.declared.detect.Detect.{Detect}
use Rattle.encounters.specs.declared.pair_step.PairStep.{PairStep}
use Rattle.encounters.specs.declared.engagement_state.EngagementState.{EngagementState}
use Rattle.encounters.proofs.ForCallers.{seen_at-last}
use Rattle.meetings.specs.Answers.{answer_of}
use Rattle.meetings.specs.Atoms.{AreAnswers}
use Rattle.meetings.specs.Inner.Beginning.{since_beginning}
use Rattle.meetings.specs.Ranks.{SaysOnly, beginning_at}
use Rattle.meetings.specs.SinceBeginning.{age_of}
use Rattle.meetings.specs.Standing.{Following, FollowsRanked}
use Rattle.meetings.specs.Terms.{Terms}
use Rattle.meetings.specs.declared.by_rank.ByRank.{ByRank}
use Rattle.meetings.proofs.Beginnings.{kept_since}
use Rattle.meetings.proofs.Values.{where_engaged}
use Rattle.meetings.proofs.follower.Follower.step_ranked.Given.{Over}
use Rattle.meetings.proofs.follower.Follower.step_ranked.Goals as goal

abbrev before_of : (g : Over) (c : goal.After-row_at g) → Following
before_of g c = record { act = c.self.inside.telling.act; tick = c.self.inside.telling.tick; engagement = c.self.inside.engagement; by_rank = c.self.inside.telling.by_rank }

-- The ranks that count are those when the engagement began.
counting : (g : Over) (c : goal.After-row_at g) (terms : Terms) (ranks : ℕ → ByRank) (steps : List (Option PairStep)) → length steps < 2 ^ 31
    → SaysOnly (goal.F-post g c.args.by_rank) (ranks (length steps)) → FollowsRanked (before_of g c) terms ranks steps
    → IsSome (age_of c.take-risk.new.self.latest) → c.keep_at_beginning.new.kept ≡ ranks (beginning_at (length steps) c.take-risk.new.self.latest)
counting g c terms ranks steps short here before engaged =
    c.keep_at_beginning.ensures (ranks (length steps)) here
    ∙ ap (λ (state : EngagementState). since_beginning state c.self.inside.telling.by_rank (ranks (length steps))) c.latest-state.ensures.value
    ∙ kept_since terms.detect steps (option_copied c.args.seen) ranks c.self.inside.engagement.latest c.take-risk.new.self.latest c.self.inside.telling.by_rank
    before.engagement.after (c.take-risk.ensures.state terms.detect steps short before.engagement) before.begun engaged

pub returns-clause-row : goal.returns-clause-row
returns-clause-row g c = λ terms ranks steps short here follows.
    let seen = option_copied c.args.seen in
    let before : FollowsRanked (before_of g c) terms ranks steps =
    subst (λ (f : Following). FollowsRanked f terms ranks steps) (sym c.self.view_is) follows in
    let decides : IsTrue c.take-risk.result ↔ IsSomeAnd seen (λ pair. HasRisk terms.detect pair.step) =
    subst (λ (d : Detect). IsTrue c.take-risk.result ↔ IsSomeAnd seen (λ pair. HasRisk d pair.step)) before.engagement.by c.take-risk.ensures.risk in
    let state : c.latest-state.result.now ≡ c.take-risk.new.self.latest = c.latest-state.ensures.value in
    let counts : IsSome (age_of c.latest-state.result.now) → c.keep_at_beginning.new.kept ≡ ranks (beginning_at (length steps) c.latest-state.result.now) =
    subst (λ (s : EngagementState). IsSome (age_of s) → c.keep_at_beginning.new.kept ≡ ranks (beginning_at (length steps) s)) (sym state) (counting g c terms ranks steps short here before) in
    record {
      state = c.latest-state.result.now;
      is_state = rw state (c.take-risk.ensures.state terms.detect steps short before.engagement);
      values = rw (seen_at-last steps seen)
          (where_engaged terms c.keep_at_beginning.new.kept (ranks (beginning_at (length steps) c.latest-state.result.now)) seen (answer_of c.row_at.result) c.latest-state.result.now counts
          (subst (λ (a : Act). AreAnswers (record { detect = terms.detect; act = a; tick = terms.tick }) c.keep_at_beginning.new.kept c.latest-state.result.now seen (answer_of c.row_at.result)) before.by_act
          (subst (λ (t : ℕ). AreAnswers (record { detect = terms.detect; act = c.self.inside.telling.act; tick = t }) c.keep_at_beginning.new.kept c.latest-state.result.now seen (answer_of c.row_at.result)) before.by_tick
          (c.row_at.ensures terms.detect decides))));
    }

pub returns-clause-follows : goal.returns-clause-follows
returns-clause-follows g c = λ terms ranks steps short here follows.
    let seen = option_copied c.args.seen in
    let before : FollowsRanked (before_of g c) terms ranks steps =
    subst (λ (f : Following). FollowsRanked f terms ranks steps) (sym c.self.view_is) follows in
    let latest = c.take-risk.new.self.latest in
    let last : length steps ≡ length (steps ++ seen ∷ []) - 1 = omega (arith, length-append steps (seen ∷ [])) in
    record {
      by_act = before.by_act;
      by_tick = before.by_tick;
      engagement = c.take-risk.ensures.stands terms.detect steps short before.engagement;
      begun = λ some. counting g c terms ranks steps short here before some ∙ ap (λ (k : ℕ). ranks (beginning_at k latest)) last;
    }
