use Rattle.std.proofs.Common.{◌∙◌, ap, sym, set}
use Rattle.std.proofs.lemmas.List.{set-get_or}
use Rattle.mtl_monitor.proofs.Runs.{same_verdict-equal}
use Rattle.mtl_monitor.proofs.reading.read_atom.Goals as goal

pub returns-then-is_same-clause-values : goal.returns-then-is_same-clause-values
returns-then-is_same-clause-values g c =
    let same = same_verdict-equal _ _ (sym c.is_same.ensures ∙ c.if-is_same.true) in
    sym (ap (λ v. set c.args.values.now c.args.at.index v) (sym c.value-value.ensures ∙ same) ∙ set-get_or c.args.values.now c.args.at.index _)
