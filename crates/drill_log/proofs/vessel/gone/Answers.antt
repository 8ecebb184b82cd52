use Rattle.std.proofs.Common.{◌≡◌, ℕ, ◌≤◌, ◌*◌, ℤ, pos, ◌*ℤ◌, unsigned_abs, w64, rules}
use Rattle.std.proofs.Math.Nat.{mul-le-mul_left}
use Rattle.std.proofs.lemmas.Int.{to_z-of_z, unsigned_abs-mul}
use Rattle.drill_log.proofs.vessel.gone.Goals as goal

short : (minutes : ℕ) (way passed gone given : ℤ) → unsigned_abs way ≤ 1500 → passed ≡ way → gone ≡ pos minutes *ℤ passed → given ≡ gone →
    unsigned_abs given ≤ minutes * 1500
short minutes way passed gone given h same is back = rw (back, is, same, unsigned_abs-mul) (mul-le-mul_left minutes h)

pub returns-clause-small : goal.returns-clause-small
returns-clause-small c =
    short c.args.minutes c.args.way _ _ _ c.requires.way (to_z-of_z w64 c.args.way (search rules)) c.product.ensures
    (to_z-of_z w64 c.product.result (search rules))
