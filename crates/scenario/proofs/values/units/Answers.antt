use Rattle.std.proofs.Common.{◌≡◌, ◌≤◌, pos, Option, true, refl, subst, sym, arith}
use Rattle.std.specs.Prelude.{unsigned_abs}
use Rattle.scenario.specs.Inner.KnownKeys.{least_in, lies_in, most_in, range_in}
use Rattle.scenario_keys.specs.declared.rows.Kind.{Kind}
use Rattle.scenario.proofs.values.units.Goals as goal

pub natural-requires-clause-known : goal.natural-requires-clause-known
natural-requires-clause-known c =
    subst (λ (k : Option Kind). lies_in (pos 0) (pos 4294967295) (range_in k) ≡ true) (sym c.requires.known) refl

pub returns-clause-least : goal.returns-clause-least
returns-clause-least c =
    let least : 1 ≤ c.natural.result = subst (λ (k : Option Kind). unsigned_abs (least_in (range_in k)) ≤ c.natural.result) c.requires.known c.natural.ensures.least in
    omega arith

pub returns-clause-most : goal.returns-clause-most
returns-clause-most c =
    let most : c.natural.result ≤ 100000 = subst (λ (k : Option Kind). c.natural.result ≤ unsigned_abs (most_in (range_in k))) c.requires.known c.natural.ensures.most in
    omega arith
