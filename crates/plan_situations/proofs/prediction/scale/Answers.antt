use Rattle.std.proofs.Common.{◌≡◌, ℕ, ◌≤◌, ◌*◌, ℤ, pos, ◌*ℤ◌, unsigned_abs, w64, rules}
use Rattle.std.proofs.Math.Nat.{mul-le-mul_left}
use Rattle.std.proofs.lemmas.Int.{to_z-of_z, unsigned_abs-mul}
use Rattle.plan_situations.proofs.prediction.scale.Goals as goal

short : (seconds : ℕ) (velocity passed way given : ℤ) → unsigned_abs velocity ≤ 525763 → passed ≡ velocity → way ≡ pos seconds *ℤ passed → given ≡ way
    → unsigned_abs given ≤ seconds * 525763
short seconds velocity passed way given h same is back = rw (back, is, same, unsigned_abs-mul) (mul-le-mul_left seconds h)

pub returns-clause-small : goal.returns-clause-small
returns-clause-small c =
    short c.args.seconds c.args.velocity _ _ _ c.requires.velocity (to_z-of_z w64 c.args.velocity (search rules)) c.product.ensures
    (to_z-of_z w64 c.product.result (search rules))
