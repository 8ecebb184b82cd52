-- Vessels that stay apart: their state, and the row of the step.
use Rattle.std.proofs.Common.{◌≡◌, ℕ, ◌-◌, ◌^◌, ◌<◌, inr, List, [], ◌∷◌, ◌++◌, length, IsTrue, refl, ap, sym, subst}
use Rattle.std.specs.Prelude.{◌↔◌, Option, None, Some, IfSome, IsSomeAnd, is_some, true, false}
use Rattle.mtl_formulas.specs.Glances.{IsTold}
use Rattle.mtl_formulas.specs.declared.atom.Atom.TheVariants as atom
use Rattle.mtl_formulas.specs.declared.glance.Glance.{Glance}
use Rattle.mtl_formulas.specs.declared.glance.Glance.TheVariants as glance
use Rattle.encounters.specs.Engagement.{IsState}
use Rattle.encounters.specs.Risk.{HasRisk}
use Rattle.encounters.specs.Standing.{IsStateAfter}
use Rattle.encounters.specs.declared.detect.Detect.{Detect}
use Rattle.encounters.specs.declared.engagement_state.EngagementState.TheVariants.{Apart}
use Rattle.encounters.specs.declared.pair_step.PairStep.{PairStep}
use Rattle.encounters.proofs.ForCallers.{seen_at-last}
use Rattle.encounters.proofs.Lasting.{after_seen, after_unseen, to_last}
use Rattle.encounters.proofs.OneState.{one_state}
use Rattle.meetings.specs.Answers.{answer_of}
use Rattle.meetings.specs.Atoms.{AreAnswers}
use Rattle.meetings.specs.Ranks.{beginning_at}
use Rattle.meetings.specs.SinceBeginning.{age_of}
use Rattle.meetings.specs.Standing.{Following, FollowsRanked}
use Rattle.meetings.specs.Terms.{Terms}
use Rattle.meetings.specs.declared.by_rank.ByRank.{ByRank}
use Rattle.meetings.proofs.Values.{row_of, values}
use Rattle.traces.specs.Audited.{AuditNumbers, Sighting, terms_of, trace_ranks}
use Rattle.traces.specs.Inner.TracesKept.{Follows, FollowsApart, ShowsApart}
use Rattle.traces.specs.Known.{Known}
use Rattle.traces.specs.declared.followed_trace.FollowedTrace.{FollowedTrace}

-- ---- the step has no risk

riskless : (detect : Detect) (seen : Option PairStep) (glance : Glance) → ShowsApart detect.watch seen glance → IfSome seen (λ pair. ¬ HasRisk detect pair.step)
riskless detect None glance shows = tt
riskless detect (Some pair) glance shows = λ risk. shows.1 risk.watched

module _ (detect : Detect) (steps : List (Option PairStep)) (short : length steps < 2 ^ 31) (was : IsStateAfter detect steps Apart) where
  stays : (seen : Option PairStep) → IfSome seen (λ pair. ¬ HasRisk detect pair.step) → IsState detect (steps ++ seen ∷ []) (length steps) Apart
  stays None free = after_unseen detect steps
  stays (Some pair) free = after_seen detect steps pair Apart Apart short was (inr (free, refl))

-- ---- what a glance at the row shows

unseen_shown : (terms : Terms) (ranks : ByRank) → IsTold glance.Unseen (answer_of (row_of terms ranks Apart None false))
unseen_shown terms ranks atom.Always = refl
unseen_shown terms ranks atom.Never = refl
unseen_shown terms ranks atom.Seen = refl
unseen_shown terms ranks atom.Risk = refl
unseen_shown terms ranks atom.Engaged = refl
unseen_shown terms ranks atom.Begin = refl
unseen_shown terms ranks atom.Overtaking = refl
unseen_shown terms ranks atom.Overtaken = refl
unseen_shown terms ranks atom.HeadOn = refl
unseen_shown terms ranks atom.CrossingGives = refl
unseen_shown terms ranks atom.CrossingStands = refl
unseen_shown terms ranks atom.Passing = refl
unseen_shown terms ranks atom.Unclassified = refl
unseen_shown terms ranks (atom.Age seconds) = refl
unseen_shown terms ranks atom.Opening = refl
unseen_shown terms ranks (atom.Clear m) = refl
unseen_shown terms ranks (atom.Close m) = refl
unseen_shown terms ranks atom.OtherOnPort = refl
unseen_shown terms ranks atom.Ahead = refl
unseen_shown terms ranks atom.Alters = refl
unseen_shown terms ranks atom.Apparent = refl
unseen_shown terms ranks atom.ToStarboard = refl
unseen_shown terms ranks atom.ToPort = refl
unseen_shown terms ranks atom.OtherApparent = refl
unseen_shown terms ranks atom.RankGives = refl
unseen_shown terms ranks atom.RankStands = refl
unseen_shown terms ranks atom.BothPower = refl

apart_shown : (terms : Terms) (ranks : ByRank) (pair : PairStep) → IsTold glance.Apart (answer_of (row_of terms ranks Apart (Some pair) false))
apart_shown terms ranks pair atom.Always = refl
apart_shown terms ranks pair atom.Never = refl
apart_shown terms ranks pair atom.Seen = refl
apart_shown terms ranks pair atom.Risk = refl
apart_shown terms ranks pair atom.Engaged = refl
apart_shown terms ranks pair atom.Begin = refl
apart_shown terms ranks pair atom.Overtaking = refl
apart_shown terms ranks pair atom.Overtaken = refl
apart_shown terms ranks pair atom.HeadOn = refl
apart_shown terms ranks pair atom.CrossingGives = refl
apart_shown terms ranks pair atom.CrossingStands = refl
apart_shown terms ranks pair atom.Passing = refl
apart_shown terms ranks pair atom.Unclassified = refl
apart_shown terms ranks pair (atom.Age seconds) = refl
apart_shown terms ranks pair atom.Opening = tt
apart_shown terms ranks pair (atom.Clear m) = tt
apart_shown terms ranks pair (atom.Close m) = tt
apart_shown terms ranks pair atom.OtherOnPort = tt
apart_shown terms ranks pair atom.Ahead = tt
apart_shown terms ranks pair atom.Alters = refl
apart_shown terms ranks pair atom.Apparent = refl
apart_shown terms ranks pair atom.ToStarboard = refl
apart_shown terms ranks pair atom.ToPort = refl
apart_shown terms ranks pair atom.OtherApparent = refl
apart_shown terms ranks pair atom.RankGives = refl
apart_shown terms ranks pair atom.RankStands = refl
apart_shown terms ranks pair atom.BothPower = refl

shown : (watch : ℕ) (terms : Terms) (ranks : ByRank) (seen : Option PairStep) (g : Glance) → ShowsApart watch seen g → IsTold g (answer_of (row_of terms ranks Apart seen false))
shown watch terms ranks None g shows = subst (λ (g : Glance). IsTold g (answer_of (row_of terms ranks Apart None false))) (sym shows) (unseen_shown terms ranks)
shown watch terms ranks (Some pair) g shows =
    subst (λ (g : Glance). IsTold g (answer_of (row_of terms ranks Apart (Some pair) false))) (sym shows.0) (apart_shown terms ranks pair)

no_risk : (detect : Detect) (seen : Option PairStep) → IfSome seen (λ pair. ¬ HasRisk detect pair.step) → IsTrue false ↔ IsSomeAnd seen (λ pair. HasRisk detect pair.step)
no_risk detect None free = (λ h. let no : false ≡ true = h in cc, λ h. absurd h)
no_risk detect (Some pair) free = (λ h. let no : false ≡ true = h in cc, λ h. absurd (free h))

-- ---- a follower of vessels that are apart follows the step as it is

module _ (following : Following) (terms : Terms) (ranks : ℕ → ByRank) (steps : List (Option PairStep)) (seen : Option PairStep) (was : IsStateAfter terms.detect steps Apart)
    (is : IsState terms.detect (steps ++ seen ∷ []) (length steps) Apart) where
  follows_on : FollowsRanked following terms ranks steps → FollowsRanked following terms ranks (steps ++ seen ∷ [])
  follows_on h =
      let latest : following.engagement.latest ≡ Apart = one_state terms.detect steps (length steps - 1) following.engagement.latest Apart h.engagement.after was in
      record {
        by_act = h.by_act;
        by_tick = h.by_tick;
        engagement = record {
          by = h.engagement.by;
          after = subst (λ state. IsStateAfter terms.detect (steps ++ seen ∷ []) state) (sym latest) (to_last terms.detect steps seen Apart is);
        };
        begun = λ some. let none : is_some (age_of following.engagement.latest) ≡ false = ap (λ state. is_some (age_of state)) latest in absurd (cc);
      }

-- ---- a trace follows its next step

pub follows_apart : (numbers : AuditNumbers) (ticks : List Sighting) (trace : FollowedTrace) (known : Known) (seen : Option PairStep) (g : Glance)
    → Follows numbers ticks trace known → length known.steps < 2 ^ 31 → IsStateAfter numbers.detect known.steps Apart → ShowsApart numbers.detect.watch seen g
    → FollowsApart numbers ticks trace known seen g
follows_apart numbers ticks trace known seen g h short was shows =
    let terms = terms_of numbers in
    let ranks = trace_ranks ticks known.pair known.start in
    let steps = known.steps in
    let free = riskless numbers.detect seen g shows in
    let is = stays numbers.detect steps short was seen free in
    let here = ranks (beginning_at (length steps) Apart) in
    record {
      answers = answer_of (row_of terms here Apart seen false);
      row = record {
        was = was;
        is = to_last numbers.detect steps seen Apart is;
        row = record {
          state = Apart;
          is_state = is;
          values = subst (λ (o : Option PairStep). AreAnswers terms here Apart o (answer_of (row_of terms here Apart seen false))) (sym (seen_at-last steps seen))
              (values terms here Apart seen false (no_risk numbers.detect seen free));
        };
        shows = shown numbers.detect.watch terms here seen g shows;
      };
      follows = record {
        pair = h.pair;
        start = h.start;
        follows = follows_on trace.follower terms ranks steps seen was is h.follows;
      };
    }
