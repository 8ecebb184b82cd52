use Rattle.std.proofs.Common.{◌∙◌, rules}
use Rattle.std.specs.Prelude.{bytes_eq, codes, ◌≡◌}
use Rattle.csv.specs.Records.{fields_of}
use Rattle.refutation_check.proofs.RowsRead.{named, unnamed}
use Rattle.refutation_check.proofs.text_rows.is_why.Goals as goal

pub returns-in-Some : goal.returns-in-Some
returns-in-Some c =
    let same : c.eq.result ≡ bytes_eq c.in-Some.kind.now (codes "why") = search rules in
    same ∙ named (fields_of c.args.row.now) c.in-Some.kind.now c.in-Some.ensures.value

pub returns-in-None : goal.returns-in-None
returns-in-None c = unnamed (fields_of c.args.row.now) c.in-None.ensures.value
