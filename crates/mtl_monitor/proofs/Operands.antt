-- The operands of an operator, whichever they are.
use Rattle.std.proofs.Common.{ℕ}
use Rattle.mtl_monitor.specs.declared.node.Operator.{Operator}
use Rattle.mtl_monitor.specs.declared.node.Operator.TheVariants as op
use Rattle.mtl_monitor.specs.Inner.Standing.{AllOperands}

-- the operands of an operator are so, if what they are makes them so
pub operands_are : (Was Is : ℕ → Type 0) → ((a : ℕ) → Was a → Is a) → (o : Operator) → AllOperands Was o → AllOperands Is o
operands_are Was Is makes (op.Atom a) h = tt
operands_are Was Is makes (op.Not a) h = makes a h
operands_are Was Is makes (op.Pair kind a b) h = (makes a h.0, makes b h.1)
operands_are Was Is makes (op.Late cells from a) h = makes a h
operands_are Was Is makes (op.Window kind width from a) h = makes a h
operands_are Was Is makes (op.Since width lower from a b) h = (makes a h.0, makes b h.1)
operands_are Was Is makes (op.Until from full lower a behind b) h = (makes a h.0, makes behind h.1, makes b h.2)
