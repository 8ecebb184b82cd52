-- The tracks of traces that begin.
use Rattle.std.proofs.Common.{◌≡◌, ℕ, ◌+◌, inl, inr, List, [], ◌∷◌, ◌++◌, length, map, append_assoc, append-nil, take, take_all, drop, refl, sym, ap, subst, ◌∙◌, arith}
use Rattle.std.specs.List.{AllByRecursion, Contains}
use Rattle.std.proofs.lemmas.List.{drop_all}
use Rattle.mtl_formulas.specs.FormulaTree.{FormulaTree}
use Rattle.mtl_formulas.specs.Traces.{Trace}
use Rattle.rule_set.specs.NamedTrees.{NamedTree}
use Rattle.meetings.specs.declared.pair.Pair.{Pair}
use Rattle.audit_rows.specs.Tracks.{Track}
use Rattle.audit_rows.specs.declared.mark.Mark.{Mark}
use Rattle.traces.specs.Audited.{AuditNumbers}
use Rattle.traces.specs.Known.{Known, opened, pairs_of}
use Rattle.auditor.specs.Inner.AuditKeeping.{AreAllTracks, AreTracksOfAll}
use Rattle.auditor.specs.Tallies.{IsUnknown, begun_rules, begun_tracks, pair_of}
use Rattle.auditor.specs.TraceKeeping.{AreRuleMarksSoFar, AreRuleTracks, AreTracks, AreTracksSoFar}
use Rattle.outside.proofs.Members.{in_cons, in_head, in_tail}
use Rattle.traces.proofs.ForCallers.{in_map}
use Rattle.auditor.proofs.TracksOf.{found_rule, found_trace}

-- ---- the tracks of a further trace

pub tracks_push : (AreMarks : FormulaTree → Trace → List Mark → Type 0) (numbers : AuditNumbers) (knowns : List Known) (known : Known) (tracks mine : List Track)
    → AreTracksOfAll AreMarks numbers knowns tracks → AreTracks AreMarks numbers known mine → AreTracksOfAll AreMarks numbers (knowns ++ known ∷ []) (tracks ++ mine)
tracks_push AreMarks numbers [] known tracks mine all t =
    (mine, [], (record { whole = ap (λ (ts : List Track). ts ++ mine) all ∙ sym (append-nil mine) }, t, refl))
tracks_push AreMarks numbers (k ∷ ks) known tracks mine (its, others, all) t =
    (its, others ++ mine, (record { whole = ap (λ (ts : List Track). ts ++ mine) all.0.whole ∙ append_assoc its others mine }, all.1, tracks_push AreMarks numbers ks known others mine all.2 t))

pub tracks_append : (AreMarks : FormulaTree → Trace → List Mark → Type 0) (numbers : AuditNumbers) (knowns others : List Known) (tracks more : List Track)
    → AreTracksOfAll AreMarks numbers knowns tracks → AreTracksOfAll AreMarks numbers others more → AreTracksOfAll AreMarks numbers (knowns ++ others) (tracks ++ more)
tracks_append AreMarks numbers [] others tracks more all their = subst (λ (ts : List Track). AreTracksOfAll AreMarks numbers others (ts ++ more)) (sym all) their
tracks_append AreMarks numbers (k ∷ ks) others tracks more (its, rest, all) their =
    (its, rest ++ more, (record { whole = ap (λ (ts : List Track). ts ++ more) all.0.whole ∙ append_assoc its rest more }, all.1, tracks_append AreMarks numbers ks others rest more all.2 their))

opened_rules : (pair : Pair) (start rule : ℕ) (rules : List NamedTree)
    → AreRuleTracks AreRuleMarksSoFar (opened pair start) rule (map (λ (r : NamedTree). r.tree) rules) (begun_rules pair start rule (length rules))
opened_rules pair start rule [] = tt
opened_rules pair start rule (r ∷ rs) =
    (record { topic = refl; first = refl; marks = record { count = omega arith; each = λ i lt more. absurd (omega arith) } }, opened_rules pair start (rule + 1) rs)

pub opened_tracks : (numbers : AuditNumbers) (pair : Pair) (start : ℕ) → AreTracksSoFar numbers (opened pair start) (begun_tracks pair start (length numbers.rules))
opened_tracks numbers pair start =
    (record { topic = refl; first = refl; marks = record { count = refl; each = λ i lt. absurd (omega arith) } }, opened_rules pair start 0 numbers.rules)

-- ---- a pair that has no trace is no track's

own_pair : (numbers : AuditNumbers) (known : Known) (mine : List Track) (track : Track) → AreTracksSoFar numbers known mine → Contains mine track → pair_of track.topic ≡ known.pair
own_pair numbers known [] track h i = absurd h
own_pair numbers known (meeting ∷ rules) track h i =
    elim (in_cons meeting rules track i) [
      | inl same ↦ subst (λ (t : Track). pair_of t.topic ≡ known.pair) same (ap pair_of h.0.topic)
      | inr later ↦ ap pair_of (found_rule AreRuleMarksSoFar numbers known 0 numbers.rules rules track h.1 later).is.topic
    ]

pub each_track : (P : Track → Type 0) (tracks : List Track) → ((track : Track) → Contains tracks track → P track) → AllByRecursion P tracks
each_track P [] h = tt
each_track P (t ∷ ts) h = (h t (in_head t ts), each_track P ts (λ track i. h track (in_tail t ts track i)))

pub unknown : (numbers : AuditNumbers) (knowns : List Known) (tracks : List Track) (pair : Pair) → AreAllTracks numbers knowns tracks → (Contains (pairs_of knowns) pair → ⊥) → IsUnknown pair tracks
unknown numbers knowns tracks pair all new =
    each_track (λ track. pair_of track.topic ≡ pair → ⊥) tracks (λ track i e.
    let f = found_trace AreRuleMarksSoFar numbers knowns tracks track all i in
    let own = own_pair numbers f.known f.mine track f.tracks f.held in
    new (subst (λ (p : Pair). Contains (pairs_of knowns) p) (sym own ∙ e) (in_map (λ (k : Known). k.pair) knowns f.known f.among)))
