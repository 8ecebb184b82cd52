use Rattle.std.proofs.Common.{◌≡◌, ℕ, ◌-ℤ◌, ap₂, ◌∙◌, rules}
use Rattle.std.specs.Prelude.{max, unsigned_abs}
use Rattle.traces.proofs.drift.component_distance.Goals as goal

pub returns-clause-distance : goal.returns-clause-distance
returns-clause-distance c =
    let east : c.unsigned_abs-east.result ≡ unsigned_abs (c.args.b.now.x -ℤ c.args.a.now.x) = search rules in
    let north : c.unsigned_abs-north.result ≡ unsigned_abs (c.args.b.now.y -ℤ c.args.a.now.y) = search rules in
    c.max.ensures ∙ ap₂ (λ (x y : ℕ). max x y) east north
