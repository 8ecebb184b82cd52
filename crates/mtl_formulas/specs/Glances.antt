-- What one look at a position shows of its answers.
use Rattle.std.specs.Prelude.{◌≡◌, Option, Some, None, IfSome}
use Rattle.mtl_formulas.specs.declared.atom.Atom.{Atom}
use Rattle.mtl_formulas.specs.declared.atom.Atom.TheVariants.{Always, Seen, Opening, Clear, Close, OtherOnPort, Ahead}
use Rattle.mtl_formulas.specs.declared.glance.Glance.{Glance}
use Rattle.mtl_formulas.specs.declared.glance.Glance.TheVariants.{Nothing, Apart, Unseen, Beyond}
use Rattle.mtl_formulas.specs.declared.verdict.Verdict.{Verdict}
use Rattle.mtl_formulas.specs.declared.verdict.Verdict.TheVariants.{No, Open, Yes}

-- the answers at a step that is seen, without risk or an engagement, but for those of distances and bearings
abbrev pub apart_answer : Atom → Option Verdict
apart_answer Always = Some Yes
apart_answer Seen = Some Yes
apart_answer Opening = None
apart_answer (Clear m) = None
apart_answer (Close m) = None
apart_answer OtherOnPort = None
apart_answer Ahead = None
apart_answer _ = Some No

-- the answers at a step that is not seen
abbrev pub unseen_answer : Atom → Verdict
unseen_answer Always = Yes
unseen_answer Opening = Open
unseen_answer (Clear m) = Open
unseen_answer (Close m) = Open
unseen_answer OtherOnPort = Open
unseen_answer Ahead = Open
unseen_answer _ = No

-- the answer to an atom, if the glance shows it
abbrev pub told_by : Glance → Atom → Option Verdict
told_by Nothing atom = None
told_by Apart atom = apart_answer atom
told_by Unseen atom = Some (unseen_answer atom)
told_by Beyond atom = Some Open

-- The answers are those that the glance shows.
abbrev pub IsTold : Glance → (Atom → Verdict) → Type 0
IsTold glance answers = (atom : Atom) → IfSome (told_by glance atom) (λ verdict. answers atom ≡ verdict)
