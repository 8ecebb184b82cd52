-- Where the next steps of all traces would be one, so would be the steps of the next marks of all their tracks.
use Rattle.std.proofs.Common.{◌≡◌, ℕ, ◌+◌, List, [], ◌∷◌, ◌++◌, length, sym, subst, arith}
use Rattle.std.specs.List.{Contains}
use Rattle.mtl_formulas.specs.FormulaTree.{FormulaTree}
use Rattle.audit_rows.specs.Tracks.{EndAt, Track}
use Rattle.traces.specs.Audited.{AuditNumbers}
use Rattle.traces.specs.Keeping.{IsAtStep}
use Rattle.traces.specs.Known.{Known}
use Rattle.auditor.specs.TraceKeeping.{AreRuleMarksWhole, AreRuleTracks, AreTracks}
use Rattle.auditor.specs.SettledRows.{formulas_of}
use Rattle.auditor.specs.Inner.AuditKeeping.{AreTracksOfAll}
use Rattle.outside.proofs.Members.{in_head, in_tail}

-- The trace has so many steps and rows that its next ones would be at this step.
pub record EndsAt (end : ℕ) (known : Known) : Type 0 where
  pub steps : end ≡ known.start + length known.steps
  pub rows : end ≡ known.start + length known.trace

pub last_step : (end : ℕ) (known : Known) → IsAtStep end known → length known.trace ≡ length known.steps → EndsAt end known
last_step end known at count = let is = at.0 in record { steps = is; rows = omega arith }

end_append : (end : ℕ) (xs ys : List Track) → EndAt end xs → EndAt end ys → EndAt end (xs ++ ys)
end_append end [] ys h k = k
end_append end (x ∷ xs) ys h k = (h.0, end_append end xs ys h.1 k)

rules_end : (end : ℕ) (known : Known) (rule : ℕ) (trees : List FormulaTree) (tracks : List Track) → EndsAt end known → AreRuleTracks AreRuleMarksWhole known rule trees tracks → EndAt end tracks
rules_end end known rule [] [] at h = tt
rules_end end known rule [] (track ∷ tracks) at h = absurd h
rules_end end known rule (tree ∷ trees) [] at h = absurd h
rules_end end known rule (tree ∷ trees) (track ∷ tracks) at h =
    let first = h.0.first in
    let count = h.0.marks.count in
    let rows = at.rows in
    (omega arith, rules_end end known (rule + 1) trees tracks at h.1)

one_ends : (numbers : AuditNumbers) (end : ℕ) (known : Known) (tracks : List Track) → EndsAt end known → AreTracks AreRuleMarksWhole numbers known tracks → EndAt end tracks
one_ends numbers end known [] at h = absurd h
one_ends numbers end known (meeting ∷ rules) at h =
    let first = h.0.first in
    let count = h.0.marks.count in
    let steps = at.steps in
    (omega arith, rules_end end known 0 (formulas_of numbers) rules at h.1)

pub all_end : (numbers : AuditNumbers) (end : ℕ) (knowns : List Known) (tracks : List Track) → ((known : Known) → Contains knowns known → EndsAt end known)
    → AreTracksOfAll AreRuleMarksWhole numbers knowns tracks → EndAt end tracks
all_end numbers end [] tracks at h = subst (λ (ts : List Track). EndAt end ts) (sym h) tt
all_end numbers end (k ∷ ks) tracks at (mine, others, h) =
    subst (λ (ts : List Track). EndAt end ts) (sym h.0.whole)
    (end_append end mine others (one_ends numbers end k mine (at k (in_head k ks)) h.1)
    (all_end numbers end ks others (λ known i. at known (in_tail k ks known i)) h.2))
