use Rattle.std.proofs.Common.{◌==◌, ◌∙◌, ap, length, take, unwrap_or}
use Rattle.ais_messages.proofs.Texts.{position-or, position-or-le}
use Rattle.ais_messages.proofs.text.end_of.Goals as goal

pub returns-clause-within : goal.returns-clause-within
returns-clause-within c = rw (c.unwrap_or.ensures, c.at_sign.ensures) (position-or-le (λ character. character == 64) c.args.text.now)

pub returns-clause-before : goal.returns-clause-before
returns-clause-before c =
    ap (λ n. take n c.args.text.now)
    (c.unwrap_or.ensures ∙ ap (λ at. unwrap_or at (length c.args.text.now)) c.at_sign.ensures ∙ position-or (λ character. character == 64) c.args.text.now)
