-- The tracks of a trace that begins, one after the other.
use Rattle.std.proofs.Common.{◌≡◌, ℕ, zero, suc, ◌+◌, ◌≤◌, List, [], ◌∷◌, ◌++◌, refl, ap, sym, ◌∙◌, arith, add-one, append_assoc}
use Rattle.meetings.specs.declared.pair.Pair.{Pair}
use Rattle.audit_rows.specs.declared.topic.Topic.{Topic}
use Rattle.audit_rows.specs.declared.topic.Topic.TheVariants.{Meeting, Verdict}
use Rattle.audit_rows.specs.Tracks.{IsNew, Track, begun}
use Rattle.auditor.specs.Tallies.{IsUnknown, begun_rules, begun_tracks, pair_of}

new_append : (about : Topic) (tracks more : List Track) → IsNew about tracks → IsNew about more → IsNew about (tracks ++ more)
new_append about [] more h new = new
new_append about (t ∷ ts) more h new = (h.0, new_append about ts more h.1 new)

-- a topic of a pair that no track is of
pub new_of_pair : (about : Topic) (pair : Pair) (tracks : List Track) → pair_of about ≡ pair → IsUnknown pair tracks → IsNew about tracks
new_of_pair about pair [] e h = tt
new_of_pair about pair (t ∷ ts) e h = (λ same. h.0 (ap pair_of same ∙ e), new_of_pair about pair ts e h.1)

abbrev rule_of : Topic → ℕ
rule_of (Meeting pair) = 0
rule_of (Verdict pair rule) = rule

new_of_rules : (pair : Pair) (start from count rule : ℕ) → from + count ≤ rule → IsNew (Verdict pair rule) (begun_rules pair start from count)
new_of_rules pair start from zero rule le = tt
new_of_rules pair start from (suc count) rule le = (λ same. let e : from ≡ rule = ap rule_of same in absurd (omega arith), new_of_rules pair start (from + 1) count rule (omega arith))

-- the next rule's topic
pub new_rule : (pair : Pair) (tracks : List Track) (start rule : ℕ) → IsUnknown pair tracks → IsNew (Verdict pair rule) (tracks ++ begun_tracks pair start rule)
new_rule pair tracks start rule h =
    new_append (Verdict pair rule) tracks (begun_tracks pair start rule) (new_of_pair (Verdict pair rule) pair tracks refl h)
    (λ same. absurd (cc), new_of_rules pair start 0 rule rule (omega arith))

rules_more : (pair : Pair) (start from count rule : ℕ) → rule ≡ from + count → begun_rules pair start from (suc count) ≡ begun_rules pair start from count ++ begun (Verdict pair rule) start ∷ []
rules_more pair start from zero rule e = let same : from ≡ rule = omega arith in ap (λ (n : ℕ). begun (Verdict pair n) start ∷ []) same
rules_more pair start from (suc count) rule e =
    ap (λ (ts : List Track). begun (Verdict pair from) start ∷ ts) (rules_more pair start (from + 1) count rule (omega arith))

pub begun_more : (pair : Pair) (tracks : List Track) (start rule : ℕ) → (tracks ++ begun_tracks pair start rule) ++ begun (Verdict pair rule) start ∷ [] ≡ tracks ++ begun_tracks pair start (rule + 1)
begun_more pair tracks start rule =
    append_assoc tracks (begun_tracks pair start rule) (begun (Verdict pair rule) start ∷ [])
    ∙ ap (λ (ts : List Track). tracks ++ begun (Meeting pair) start ∷ ts)
    (sym (rules_more pair start 0 rule rule (omega arith)) ∙ ap (begun_rules pair start 0) (sym (add-one rule)))
