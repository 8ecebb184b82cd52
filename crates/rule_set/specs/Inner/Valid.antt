-- A tree has valid parts in only one way.
use Rattle.std.specs.Coded.{le_prop, Unit-prop}
use Rattle.mtl_formulas.specs.declared.atom.Atom.{Atom}
use Rattle.mtl_formulas.specs.declared.atom.Atom.TheVariants.{Age, Clear, Close}
use Rattle.mtl_formulas.specs.FormulaTree.{FormulaTree, leaf, negation, pair, span, link}
use Rattle.mtl_formulas.specs.FormulaMeasures.{IsValidAtom, HasValidParts, IsValid}

pub valid_atom_prop : (a : Atom) → IsProp (IsValidAtom a)
valid_atom_prop (Age seconds) = le_prop
valid_atom_prop (Clear metres) = le_prop
valid_atom_prop (Close metres) = le_prop
valid_atom_prop _ = Unit-prop

pub valid_parts_prop : (t : FormulaTree) → IsProp (HasValidParts t)
valid_parts_prop (leaf a) = valid_atom_prop a
valid_parts_prop (negation t) = valid_parts_prop t
valid_parts_prop (pair kind s t) = hlevel (valid_parts_prop s, valid_parts_prop t)
valid_parts_prop (span kind l u t) = hlevel (le_prop, valid_parts_prop t)
valid_parts_prop (link kind l u s t) = hlevel (le_prop, valid_parts_prop s, valid_parts_prop t)

pub valid_prop : (t : FormulaTree) → IsProp (IsValid t)
valid_prop t = hlevel (le_prop, valid_parts_prop t)
