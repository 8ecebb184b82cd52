-- Facts on results that callers' proofs need.
use Rattle.std.proofs.Common.{◌≡◌, Ok, Err, subst, sym}
use Rattle.std.specs.Prelude.{Result, IfErr, IsErrAnd}

-- the fault that a `?` passes on has its cause
pub err_cause : {T E : Type 0} (r : Result T E) (x : E) (P : E → Type 0) → IsErrAnd r (λ e. e ≡ x) → P x → IfErr r P
err_cause (Ok v) x P is cause = tt
err_cause (Err e) x P is cause = subst P (sym is) cause

-- the fault that a `?` passes on
pub same_fault : {T E : Type 0} (r : Result T E) (x t : E) → IsErrAnd r (λ e. e ≡ x) → r ≡ Err t → t ≡ x
same_fault {T} {E} r x t h e = subst (λ (s : Result T E). IsErrAnd s (λ z. z ≡ x)) e h
