use Rattle.std.proofs.Common.{◌≡◌, ◌+ℤ◌, unsigned_abs, refl, arith}
use Rattle.std.proofs.lemmas.Int.{ints}
use Rattle.hull_domains.specs.Crossings.{mediant}
use Rattle.hull_domains.proofs.entering.mediant.Goals as goal

pub returns-clause-value : goal.returns-clause-value
unfolding mediant
returns-clause-value c =
    let size : c.unsigned_abs.result ≡ unsigned_abs (c.args.from.over +ℤ c.args.to.over) = omega (arith, ints, c.unsigned_abs.ensures.value) in
    rw size refl
