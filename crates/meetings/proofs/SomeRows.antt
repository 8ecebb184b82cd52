-- Each list of steps has a list of rows.
use Rattle.std.proofs.Common.{◌≡◌, ℕ, zero, suc, ◌+◌, ◌<◌, inl, inr, List, [], ◌∷◌, length, IsTrue, refl, ap, subst, arith}
use Rattle.std.specs.Prelude.{Bool, true, false, ◌↔◌, Option, None, Some, slice_get, IsSomeAnd}
use Rattle.mtl_formulas.specs.declared.atom.Atom.{Atom}
use Rattle.mtl_formulas.specs.declared.verdict.Verdict.{Verdict}
use Rattle.encounters.specs.Engagement.{seen_at}
use Rattle.encounters.specs.Risk.{HasRisk}
use Rattle.encounters.specs.declared.pair_step.PairStep.{PairStep}
use Rattle.encounters.proofs.Decided.{risk_or_not}
use Rattle.encounters.proofs.Lasting.{some_state}
use Rattle.meetings.specs.Answers.{answer_of}
use Rattle.meetings.specs.Atoms.{AreRankedRows, IsRankedRow}
use Rattle.meetings.specs.Ranks.{beginning_at}
use Rattle.meetings.specs.Terms.{Terms}
use Rattle.meetings.specs.declared.by_rank.ByRank.{ByRank}
use Rattle.meetings.proofs.Values.{row_of, values}

module _ (terms : Terms) (ranks : ℕ → ByRank) (steps : List (Option PairStep)) where
  -- whether there is risk at a step
  risk_at : (seen : Option PairStep) → (risk : Bool) × (IsTrue risk ↔ IsSomeAnd seen (λ pair. HasRisk terms.detect pair.step))
  risk_at None = (false, (λ h. cc, λ h. absurd h))
  risk_at (Some pair) =
      elim (risk_or_not terms.detect pair.step) [
        | inl risk ↦ (true, (λ h. risk, λ h. refl))
        | inr riskless ↦ (false, (λ h. cc, λ h. absurd (riskless h)))
      ]

  pub some_row : (i : ℕ) → (answers : Atom → Verdict) × IsRankedRow terms ranks steps i answers
  some_row i =
      let (state, is) = some_state terms.detect steps i in
      let (risk, decides) = risk_at (seen_at steps i) in (
        answer_of (row_of terms (ranks (beginning_at i state)) state (seen_at steps i) risk),
        record {
          state = state;
          is_state = is;
          values = values terms (ranks (beginning_at i state)) state (seen_at steps i) risk decides;
        },
      )

  -- ---- the rows from step i on, this many of them

  rows_from : ℕ → ℕ → List (Atom → Verdict)
  rows_from i zero = []
  rows_from i (suc count) = (some_row i).0 ∷ rows_from (i + 1) count

  rows_from-length : (i count : ℕ) → length (rows_from i count) ≡ count
  unfolding rows_from
  rows_from-length i zero = refl
  rows_from-length i (suc count) = ap suc (rows_from-length (i + 1) count)

  rows_from-at : (i count k : ℕ) → k < count → IsSomeAnd (slice_get (rows_from i count) k) (IsRankedRow terms ranks steps (i + k))
  unfolding rows_from
  rows_from-at i zero k lt = absurd (omega arith)
  rows_from-at i (suc count) zero lt =
      let here : i ≡ i + 0 = omega arith in
      subst (λ (j : ℕ). IsRankedRow terms ranks steps j (some_row i).0) here (some_row i).1
  rows_from-at i (suc count) (suc k) lt =
      let here : i + 1 + k ≡ i + suc k = omega arith in
      subst (λ (j : ℕ). IsSomeAnd (slice_get (rows_from (i + 1) count) k) (IsRankedRow terms ranks steps j)) here (rows_from-at (i + 1) count k (omega arith))

  pub some_rows : (rows : List (Atom → Verdict)) × AreRankedRows terms ranks steps rows
  some_rows = (
    rows_from 0 (length steps),
    record {
      count = rows_from-length 0 (length steps);
      each = λ i lt. let here : 0 + i ≡ i = omega arith in
          subst (λ (j : ℕ). IsSomeAnd (slice_get (rows_from 0 (length steps)) i) (IsRankedRow terms ranks steps j)) here (rows_from-at 0 (length steps) i lt);
    },
  )
