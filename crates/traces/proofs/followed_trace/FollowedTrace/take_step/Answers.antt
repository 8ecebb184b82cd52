use Rattle.std.proofs.Common.{◌≡◌, List, length, rules, sym, ap, ◌∙◌}
use Rattle.meetings.specs.declared.by_rank.ByRank.{ByRank}
use Rattle.meetings.specs.declared.pair.Pair.{Pair}
use Rattle.traces.specs.Audited.{AuditNumbers, Sighting, by_rank_in, terms_of, trace_ranks}
use Rattle.traces.specs.Inner.TracesKept.{Follows, IsTakenFrom}
use Rattle.traces.specs.Known.{Known}
use Rattle.traces.proofs.followed_trace.FollowedTrace.take_step.Goals as goal

-- What the vessels' ranks say now, they say at the step that is taken.
here : (c : goal.After-step_ranked) (numbers : AuditNumbers) (ticks : List Sighting) (known : Known) → Follows numbers ticks c.args.self.now known
    → IsTakenFrom ticks known c.args.seen.now c.args.ranks.now → (said : ByRank)
    → said ≡ by_rank_in c.args.self.now.pair (record { vessels = c.args.seen.now; ranks = c.args.ranks.now })
    → said ≡ trace_ranks ticks known.pair known.start (length known.steps)
here c numbers ticks known h from said same =
    same ∙ ap (λ (pair : Pair). by_rank_in pair (record { vessels = c.args.seen.now; ranks = c.args.ranks.now })) h.pair
    ∙ sym (ap (by_rank_in known.pair) from)

pub returns-clause-row : goal.returns-clause-row
returns-clause-row c = λ numbers ticks known h short from.
    c.step_ranked.ensures.row (terms_of numbers) (trace_ranks ticks known.pair known.start) known.steps short
    (λ said says. here c numbers ticks known h from said (search rules)) h.follows

pub returns-clause-follows : goal.returns-clause-follows
returns-clause-follows c = λ numbers ticks known h short from. record {
  pair = h.pair;
  start = h.start;
  follows = c.step_ranked.ensures.follows (terms_of numbers) (trace_ranks ticks known.pair known.start) known.steps short
      (λ said says. here c numbers ticks known h from said (search rules)) h.follows;
}
