-- What is settled of the tracks, and where they stand.
use Rattle.std.proofs.Common.{◌≡◌, ℕ, ◌+◌, ◌-◌, ◌<◌, ◌≤◌, zero, suc, inl, inr, List, [], ◌∷◌, length, map, ap, subst, arith}
use Rattle.std.specs.List.{Contains}
use Rattle.mtl_formulas.specs.FormulaMeasures.{reach_of}
use Rattle.mtl_monitor.specs.Reaches.{greatest_reach}
use Rattle.rule_set.specs.NamedTrees.{NamedTree, rule_at}
use Rattle.audit_rows.specs.Tracks.{AreSettled, Track, next_step}
use Rattle.audit_rows.proofs.ForCallers.{settled_by_reach}
use Rattle.traces.specs.Audited.{AuditNumbers, Sighting}
use Rattle.traces.specs.Known.{AreKnown, Known}
use Rattle.outside.proofs.Members.{in_cons}
use Rattle.traces.proofs.ForCallers.{known_within, steps_count}
use Rattle.auditor.specs.Inner.AuditKeeping.{AreAllTracks}
use Rattle.auditor.specs.SettledRows.{settled_by}
use Rattle.auditor.specs.TraceKeeping.{AreRuleMarksSoFar, AreTracksSoFar}
use Rattle.auditor.specs.SettledRows.{formulas_of}
use Rattle.auditor.proofs.Growing.{each_track}
use Rattle.auditor.proofs.TracksOf.{found_rule, found_trace}

module _ (numbers : AuditNumbers) (ticks : List Sighting) where
  greatest : (rules : List NamedTree) (k : ℕ) → k < length rules → reach_of (rule_at rules k).tree ≤ greatest_reach (map (λ (r : NamedTree). r.tree) rules)
  greatest [] k lt = absurd (omega arith)
  greatest (r ∷ rs) zero lt = omega arith
  greatest (r ∷ rs) (suc k) lt = let le = greatest rs k (omega arith) in omega arith

  far_enough : (k start count steps marks reach most next : ℕ) → start ≤ k → steps ≡ k - start → count ≡ steps → marks ≡ count - reach → reach ≤ most → next ≡ start + marks → k ≤ next + most
  far_enough k start count steps marks reach most next a b c d e f = omega arith

  one_far : (known : Known) (mine : List Track) (track : Track) (k : ℕ) → known.start ≤ k → length known.steps ≡ k - known.start → length known.trace ≡ length known.steps
      → AreTracksSoFar numbers known mine → Contains mine track → k ≤ next_step track + greatest_reach (formulas_of numbers)
  one_far known [] track k le count rows h i = absurd h
  one_far known (meeting ∷ rules) track k le count rows h i =
      elim (in_cons meeting rules track i) [
        | inl same ↦ subst (λ (t : Track). k ≤ next_step t + greatest_reach (formulas_of numbers)) same
            (let m = h.0 in let marks = m.marks.count in let first = m.first in omega arith)
        | inr later ↦ (let f = found_rule AreRuleMarksSoFar numbers known 0 numbers.rules rules track h.1 later in
            let is = f.is in
            let first = is.first in
            let le_most = greatest numbers.rules f.index f.within in
            far_enough k known.start (length known.trace) (length known.steps) (length track.marks) (reach_of (rule_at numbers.rules f.index).tree) (greatest_reach (formulas_of numbers)) (next_step track)
            le count rows is.marks.count le_most (ap (λ (n : ℕ). n + length track.marks) first))
      ]

  pub settled : (knowns : List Known) (k : ℕ) → AreKnown numbers ticks knowns → k + 1 ≡ length ticks → (tracks : List Track) → AreAllTracks numbers knowns tracks
      → AreSettled (settled_by numbers k) tracks
  settled knowns k are e tracks all =
      settled_by_reach k (greatest_reach (formulas_of numbers)) tracks (each_track (λ track. k ≤ next_step track + greatest_reach (formulas_of numbers)) tracks (λ track i.
      let f = found_trace AreRuleMarksSoFar numbers knowns tracks track all i in
      let is = are.each f.known f.among in
      let count = steps_count numbers ticks f.known is in
      let within = known_within numbers ticks f.known is in
      one_far f.known f.mine track k (omega arith) (omega arith) is.rows.count f.tracks f.held))
