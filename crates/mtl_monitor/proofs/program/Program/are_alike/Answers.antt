use Rattle.std.proofs.Common.{◌≡◌, ◌∙◌, sym, inl, inr}
use Rattle.mtl_formulas.specs.declared.atom.Atom.{Atom}
use Rattle.mtl_formulas.specs.declared.verdict.Verdict.{Verdict}
use Rattle.mtl_formulas.specs.declared.glance.Glance.TheVariants.{Unseen}
use Rattle.mtl_formulas.specs.Glances.{IsTold}
use Rattle.mtl_monitor.proofs.program.Program.are_alike.Goals as goal

pub returns-in-Apart-Apart-clause-alike : goal.returns-in-Apart-Apart-clause-alike
returns-in-Apart-Apart-clause-alike c = λ idle row other told shown. inr (idle, rw c.in-Apart-Apart.is-0 at told, rw c.in-Apart-Apart.is-1 at shown)

-- A glance at an unseen row shows all its answers.
same_unseen : (row other : Atom → Verdict) → IsTold Unseen row → IsTold Unseen other → row ≡ other
same_unseen row other told shown = λ i a. (told a ∙ sym (shown a)) i

pub returns-in-Unseen-Unseen-clause-alike : goal.returns-in-Unseen-Unseen-clause-alike
returns-in-Unseen-Unseen-clause-alike c = λ _ row other told shown.
    inl (same_unseen row other (rw c.in-Unseen-Unseen.is-0 at told) (rw c.in-Unseen-Unseen.is-1 at shown))
