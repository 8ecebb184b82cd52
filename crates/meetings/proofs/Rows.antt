-- One answer a step to each atom.
use Rattle.std.proofs.Common.{◌≡◌, ℕ, suc, ◌<◌, List, [], ◌∷◌, length, IsTrue, refl, sym, ap, ap₂, ◌∙◌, subst, arith}
use Rattle.std.proofs.Math.Path.{fun_ext}
use Rattle.std.proofs.lemmas.Option.{same_Some}
use Rattle.std.specs.Prelude.{Option, None, Some, slice_get, IsSomeAnd}
use Rattle.fixed_geometry.specs.Bearing.{bearing_of, lies_to_port}
use Rattle.mtl_formulas.specs.declared.atom.Atom.{Atom}
use Rattle.mtl_formulas.specs.declared.atom.Atom.TheVariants as atom
use Rattle.mtl_formulas.specs.declared.verdict.Verdict.{Verdict}
use Rattle.mtl_formulas.specs.declared.verdict.Verdict.TheVariants.{No, Open, Yes}
use Rattle.encounters.specs.Engagement.{seen_at}
use Rattle.encounters.specs.declared.engagement_state.EngagementState.{EngagementState}
use Rattle.encounters.specs.declared.pair_step.PairStep.{PairStep}
use Rattle.encounters.proofs.OneState.{one_state}
use Rattle.meetings.specs.Atoms.{AreRankedRows, IsAtomValue, IsRankedRow, Tells, WhereKnown}
use Rattle.meetings.specs.Ranks.{beginning_at}
use Rattle.meetings.specs.Terms.{Terms}
use Rattle.meetings.specs.declared.by_rank.ByRank.{ByRank}

tells_one : (H : Type 0) (v w : Verdict) → Tells H v → Tells H w → v ≡ w
tells_one H Yes Yes h k = refl
tells_one H Yes No h k = absurd (k h)
tells_one H Yes Open h k = absurd k
tells_one H No Yes h k = absurd (h k)
tells_one H No No h k = refl
tells_one H No Open h k = absurd k
tells_one H Open w h k = absurd h

known_one : {A : Type 0} (o : Option A) (Says : A → Verdict → Type 0) (v w : Verdict) → ((x : A) → Says x v → Says x w → v ≡ w) → WhereKnown o Says v → WhereKnown o Says w → v ≡ w
known_one None Says v w f h k = h ∙ sym k
known_one (Some x) Says v w f h k = f x h k

-- At most one verdict is an atom's value.
pub one_value : (terms : Terms) (ranks : ByRank) (state : EngagementState) (seen : Option PairStep) (asked : Atom) (verdict other : Verdict)
    → IsAtomValue terms ranks state seen asked verdict → IsAtomValue terms ranks state seen asked other → verdict ≡ other
one_value terms ranks state seen atom.Always v w h k = h ∙ sym k
one_value terms ranks state seen atom.Never v w h k = h ∙ sym k
one_value terms ranks state seen atom.Seen v w h k = tells_one _ v w h k
one_value terms ranks state seen atom.Risk v w h k = tells_one _ v w h k
one_value terms ranks state seen atom.Engaged v w h k = tells_one _ v w h k
one_value terms ranks state seen atom.Begin v w h k = tells_one _ v w h k
one_value terms ranks state seen atom.Overtaking v w h k = tells_one _ v w h k
one_value terms ranks state seen atom.Overtaken v w h k = tells_one _ v w h k
one_value terms ranks state seen atom.HeadOn v w h k = tells_one _ v w h k
one_value terms ranks state seen atom.CrossingGives v w h k = tells_one _ v w h k
one_value terms ranks state seen atom.CrossingStands v w h k = tells_one _ v w h k
one_value terms ranks state seen atom.Passing v w h k = tells_one _ v w h k
one_value terms ranks state seen atom.Unclassified v w h k = tells_one _ v w h k
one_value terms ranks state seen (atom.Age seconds) v w h k = tells_one _ v w h k
one_value terms ranks state seen atom.Opening v w h k = known_one seen _ v w (λ p a b. tells_one _ v w a b) h k
one_value terms ranks state seen (atom.Clear m) v w h k = known_one seen _ v w (λ p a b. tells_one _ v w a b) h k
one_value terms ranks state seen (atom.Close m) v w h k = known_one seen _ v w (λ p a b. tells_one _ v w a b) h k
one_value terms ranks state seen atom.OtherOnPort v w h k = known_one seen _ v w (λ p a b. known_one p.a.direction _ v w (λ d e f. known_one (bearing_of p.step.p) (λ (x : ℕ). Tells (IsTrue (lies_to_port d x))) v w (λ g i j. tells_one (IsTrue (lies_to_port d g)) v w i j) e f) a b) h k
one_value terms ranks state seen atom.Ahead v w h k = known_one seen _ v w (λ p a b. known_one p.b.direction _ v w (λ d e f. tells_one _ v w e f) a b) h k
one_value terms ranks state seen atom.Alters v w h k = h ∙ sym k
one_value terms ranks state seen atom.Apparent v w h k = h ∙ sym k
one_value terms ranks state seen atom.ToStarboard v w h k = h ∙ sym k
one_value terms ranks state seen atom.ToPort v w h k = h ∙ sym k
one_value terms ranks state seen atom.OtherApparent v w h k = h ∙ sym k
one_value terms ranks state seen atom.RankGives v w h k = tells_one _ v w h k
one_value terms ranks state seen atom.RankStands v w h k = tells_one _ v w h k
one_value terms ranks state seen atom.BothPower v w h k = tells_one _ v w h k

one_row : (terms : Terms) (ranks : ℕ → ByRank) (steps : List (Option PairStep)) (i : ℕ) (answers others : Atom → Verdict) (asked : Atom)
    → IsRankedRow terms ranks steps i answers → IsRankedRow terms ranks steps i others → answers asked ≡ others asked
one_row terms ranks steps i answers others asked row other =
    let same : other.state ≡ row.state = one_state terms.detect steps i other.state row.state other.is_state row.is_state in
    one_value terms (ranks (beginning_at i row.state)) row.state (seen_at steps i) asked (answers asked) (others asked) (row.values asked)
    (subst (λ (s : EngagementState). IsAtomValue terms (ranks (beginning_at i s)) s (seen_at steps i) asked (others asked)) same (other.values asked))

-- ---- lists of rows

same_at_each : (xs ys : List (Atom → Verdict)) → length xs ≡ length ys → ((i : ℕ) → i < length xs → slice_get xs i ≡ slice_get ys i) → xs ≡ ys
same_at_each [] [] count each = refl
same_at_each [] (y ∷ ys) count each = absurd (omega arith)
same_at_each (x ∷ xs) [] count each = absurd (omega arith)
same_at_each (x ∷ xs) (y ∷ ys) count each =
    let head : x ≡ y = same_Some x y (each 0 (omega arith)) in
    let rest : xs ≡ ys = same_at_each xs ys (omega arith) (λ i lt. each (suc i) (omega arith)) in
    ap₂ ◌∷◌ head rest

module _ (terms : Terms) (ranks : ℕ → ByRank) where
  pub same_answers : (steps : List (Option PairStep)) (i : ℕ) (answers others : Atom → Verdict) → IsRankedRow terms ranks steps i answers
      → IsRankedRow terms ranks steps i others → answers ≡ others
  same_answers steps i answers others row other = fun_ext (λ asked. one_row terms ranks steps i answers others asked row other)

  same_option : (steps : List (Option PairStep)) (i : ℕ) (o p : Option (Atom → Verdict)) → IsSomeAnd o (IsRankedRow terms ranks steps i)
      → IsSomeAnd p (IsRankedRow terms ranks steps i) → o ≡ p
  same_option steps i None p row other = absurd row
  same_option steps i (Some answers) None row other = absurd other
  same_option steps i (Some answers) (Some others) row other = ap Some (same_answers steps i answers others row other)

  pub one_list : (steps : List (Option PairStep)) (rows others : List (Atom → Verdict)) → AreRankedRows terms ranks steps rows → AreRankedRows terms ranks steps others → rows ≡ others
  one_list steps rows others h k =
      let count = h.count in
      let counted = k.count in
      same_at_each rows others (omega arith) (λ i lt. let within : i < length steps = omega arith in
      same_option steps i (slice_get rows i) (slice_get others i) (h.each i within) (k.each i within))
