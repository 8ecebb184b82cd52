use Rattle.std.proofs.Common.{◌≡◌, [], ◌∷◌, ◌++◌, length, arith}
use Rattle.std.proofs.lemmas.List.{append-nil, length_push}
use Rattle.mtl_early.proofs.sweeper.value_now.Goals as goal

pub returns-in-Some : goal.returns-in-Some
returns-in-Some c = λ formulas rows row follows flat.
    let fed = rw c.in-Some.is at (c.answer.ensures.fed formulas (rows ++ row ∷ []) follows) in
    let position : c.in-Some.field-0-0 ≡ length rows = omega (arith, fed.0, flat, length_push rows row) in
    rw position at (rw (append-nil (rows ++ row ∷ [])) at (fed.1 []))

pub returns-in-None : goal.returns-in-None
returns-in-None c = λ formulas rows row follows flat.
    let fed = rw c.in-None.is at (c.answer.ensures.fed formulas (rows ++ row ∷ []) follows) in
    absurd (omega (arith, fed, flat, length_push rows row))
