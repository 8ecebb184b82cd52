use Rattle.std.proofs.Common.{◌≡◌, pos, sym, ap, arith}
use Rattle.std.proofs.lemmas.Int.{ints}
use Rattle.std.specs.Prelude.{option_map}
use Rattle.fixed_geometry.specs.Bearing.{lies_to_port}
use Rattle.fixed_geometry.proofs.Quarters.{no_quarter}
use Rattle.fixed_geometry.proofs.Turns.{port_by_tenths}
use Rattle.fixed_geometry.proofs.bearings.to_port.Goals as goal
use Rattle.fixed_geometry.proofs.bearings.to_port.Goals.{else-r-eq0-via-then-r-eq0+else-r-eq0-2, else-r-eq0-via-else-r-eq0}

pub returns-then-r-eq0-2 : goal.returns-then-r-eq0-2
returns-then-r-eq0-2 c = sym (ap (option_map (lies_to_port c.args.direction)) (no_quarter c.args.r (omega (arith, ints)) (omega (arith, ints))))

pub returns : goal.returns
returns c =
    let some : c.args.r.x ≡ pos 0 → c.args.r.y ≡ pos 0 → ⊥ =
    λ x y. elim c.else-r-eq0.branch [ else-r-eq0-via-then-r-eq0+else-r-eq0-2 w ↦ omega (arith, ints) | else-r-eq0-via-else-r-eq0 w ↦ omega (arith, ints) ] in
    rw (c.falls_short.ensures, c.reaches_opposite.ensures)
    (port_by_tenths c.args.r c.turned_back-seen.result c.args.direction c.requires.direction some c.turned_back-seen.ensures.value)
