use Rattle.std.proofs.Common.{◌∙◌, ap, sym, arith, codes, [], ◌∷◌, None}
use Rattle.std.proofs.lemmas.Fmt.{decimal_digit}
use Rattle.clap.specs.Words.{Rule, Text, rule_of}
use Rattle.command_line.specs.CommandLine.{option_rule, takes_number}
use Rattle.command_line.proofs.colregs.seed.Goals as goal

pub returns : goal.returns
returns c =
    ap rule_of c.default_value.ensures
    ∙ ap (λ (r : Rule). let rule : Rule = record r { defaults = codes "1" ∷ [] } in rule) c.number_option.ensures
    ∙ ap (λ (t : Text). let rule : Rule = record (option_rule (codes "seed") (takes_number 0 999999 None)) { defaults = t ∷ [] } in rule)
    (sym (decimal_digit 1 (omega arith)))
