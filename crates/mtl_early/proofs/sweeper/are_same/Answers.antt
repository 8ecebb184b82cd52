use Rattle.std.proofs.Common.{◌≡◌, rules}
use Rattle.std.proofs.lemmas.Slice.Eq.{slice_eq-Decides}
use Rattle.std.specs.Bool.{Decides}
use denote.Enum.Bare.{sameb, same_true, true_same}
use Rattle.mtl_formulas.specs.contracts.verdict.Verdict.{the_type}
use Rattle.mtl_formulas.specs.declared.verdict.Verdict.{Verdict}
use Rattle.mtl_early.proofs.sweeper.are_same.Goals as goal

decides : (a b : Verdict) → Decides (sameb the_type a b) (a ≡ b)
decides a b = (same_true the_type (search rules) a b, true_same the_type a b)

pub returns : goal.returns
returns c = λ is. (slice_eq-Decides {E = sameb the_type} decides c.args.cells.now c.args.before.now c.eq.result c.eq.ensures).0 is
