use Rattle.std.proofs.Common.{List, sym, subst}
use Rattle.aivdm.specs.OpenMessages.{StandsFor}
use Rattle.aivdm.specs.declared.joiner.Begun.{Begun}
use Rattle.aivdm.proofs.Standing.{stands_empty}
use Rattle.aivdm.proofs.joiner.Joiner.new.Goals as goal

pub returns : goal.returns
returns c = subst (λ (runs : List Begun). StandsFor runs _) (sym c.new.ensures.items) stands_empty
