use Rattle.std.proofs.Common.{◌∷◌, [], ◌++◌, ◌∙◌, sym, ap, arith, rules}
use Rattle.std.proofs.lemmas.List.{take_more_set}
use Rattle.ais_messages.specs.SixBitText.{characters_at}
use Rattle.ais_messages.proofs.Texts.{characters-more, no_characters}
use Rattle.ais_messages.proofs.text.put_characters.Goals as goal

pub loop-k-init : goal.loop-k-init
loop-k-init c = sym (no_characters _ _)

pub loop-k-preserved : goal.loop-k-preserved
loop-k-preserved c =
    take_more_set c.loop-k.bytes c.loop-k.k c.character.result (omega arith)
    ∙ ap (λ l. l ++ c.character.result ∷ []) c.loop-k.invariant
    ∙ ap (λ v. characters_at c.args.bits.now c.args.first c.loop-k.k ++ v ∷ []) (search rules)
    ∙ sym (characters-more c.args.bits.now c.args.first c.loop-k.k)
