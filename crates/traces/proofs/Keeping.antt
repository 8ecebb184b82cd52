-- What is kept of a trace goes on while its keeper does.
use Rattle.std.proofs.Common.{◌≡◌, ℕ, ◌≤◌, List, ◌++◌, length, append-nil, take, take_all, drop, ap, subst, sym, ◌∙◌, arith}
use Rattle.std.proofs.lemmas.List.{drop_all}
use Rattle.std.specs.Prelude.{All}
use Rattle.traces.specs.Keeping.{GoesOn, Keeper}
use Rattle.traces.specs.Window.{IsReadyFor}

pub ready_after : {Kept Given : Type 0} (old new : Keeper Kept Given) (most : ℕ) (kept : Kept) → GoesOn old new → IsReadyFor old most kept → IsReadyFor new most kept
ready_after old new most kept on ready = record {
  ready = on.ready kept ready.ready;
  few = subst (λ (n : ℕ). n ≤ most) (sym (on.steps kept)) ready.few;
}

pub all_ready_after : {Kept Given : Type 0} (old new : Keeper Kept Given) (most : ℕ) (kept : List Kept) → GoesOn old new → All (IsReadyFor old most) kept → All (IsReadyFor new most) kept
all_ready_after old new most kept on all = λ k d lt. ready_after old new most _ on (all k d lt)

-- what a slice of all elements leaves when it is written
pub whole_written : {X : Type 0} (n : ℕ) (xs ys : List X) → n ≡ length ys → length xs ≡ length ys → take n (xs ++ drop (length xs) ys) ≡ xs
whole_written {X} n xs ys e f =
    ap (λ (zs : List X). take n (xs ++ zs)) (drop_all (length xs) ys (omega (arith, f))) ∙ (ap (λ (zs : List X). take n zs) (append-nil xs) ∙ take_all n xs (omega (arith, e, f)))
