-- The positions that one more row may decide lie in the zone before it.
use Rattle.std.proofs.Common.{◌≡◌, ℕ, ◌+◌, ◌<◌, sym, ◌∙◌, arith, inl, inr, [], ◌∷◌, ◌++◌, length}
use Rattle.std.proofs.lemmas.List.{length_push}
use Rattle.mtl_formulas.specs.declared.atom.Atom.{Atom}
use Rattle.mtl_formulas.specs.declared.verdict.Verdict.{Verdict}
use Rattle.mtl_formulas.specs.FormulaTree.{FormulaTree}
use Rattle.mtl_formulas.proofs.PrefixLaw.{Stays-value, decided-Stays}
use Rattle.mtl_formulas.specs.Traces.{Trace}
use Rattle.mtl_early.specs.Decided.{IsDecidedNow}
use Rattle.mtl_early.specs.Inner.Zones.{IsFinished, HasZone}
use Rattle.mtl_early.proofs.Deciding.{decided_before, decided_earlier}

module _ (t : FormulaTree) (rows : Trace) (row : Atom → Verdict) where
  one_more : length (rows ++ row ∷ []) ≡ length rows + 1
  one_more = length_push rows row

  finished_still : (i : ℕ) → IsFinished t rows i → IsFinished t (rows ++ row ∷ []) i
  finished_still i (inl decided) =
      inl (λ unknown. decided (sym (decided-Stays _ _ (Stays-value (λ r. r) rows (row ∷ []) t i) decided) ∙ unknown))
  finished_still i (inr old) = inr (omega (arith, old, one_more))

  -- with one row more the zone is one longer
  pub HasZone-next : (zone : ℕ) → HasZone t rows zone → HasZone t (rows ++ row ∷ []) (zone + 1)
  HasZone-next zone h i far = finished_still i (h i (omega (arith, far, one_more)))

  -- a position behind the zone is not decided by one row more
  pub behind_zone : (zone i : ℕ) → HasZone t rows zone → i + zone < length rows → ¬ IsDecidedNow t (rows ++ row ∷ []) i
  behind_zone zone i h far = by_finished (h i far)
    where
      by_finished : IsFinished t rows i → ¬ IsDecidedNow t (rows ++ row ∷ []) i
      by_finished (inl decided) = decided_before rows row t i decided
      by_finished (inr old) = decided_earlier rows row t i (omega (arith, old, one_more))
