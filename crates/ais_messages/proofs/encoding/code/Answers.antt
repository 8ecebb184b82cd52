use Rattle.std.proofs.Common.{rules, ◌≤◌, ◌-◌, ◌^◌}
use Rattle.ais_messages.proofs.Writing.{below_half}
use Rattle.ais_messages.proofs.encoding.code.Goals as goal

pub returns-else-value-lt0-clause-fits : goal.returns-else-value-lt0-clause-fits
returns-else-value-lt0-clause-fits c =
    let small : c.unsigned_abs-else-value-lt0.result ≤ 2 ^ (c.args.width - 1) - 1 = search rules in
    below_half c.args.width c.unsigned_abs-else-value-lt0.result c.requires.some small
