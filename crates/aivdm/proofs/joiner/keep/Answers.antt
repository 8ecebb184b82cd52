use Rattle.std.proofs.Common.{◌++◌, ◌∷◌, [], is_ok, not, sym, ap, ◌∙◌}
use Rattle.std.proofs.lemmas.Bool.{cond-true}
use Rattle.aivdm.specs.Sentences.{fields_seen}
use Rattle.aivdm.proofs.Standing.{append_put, place_none, put_place}
use Rattle.aivdm.proofs.joiner.keep.Goals as goal

pub returns-in-Some-clause-ok : goal.returns-in-Some-clause-ok
returns-in-Some-clause-ok c =
    put_place (fields_seen c.args.sentence.now) c.args.first c.args.begun.now.items c.in-Some.at (sym c.in-Some.is ∙ c.requires)

pub returns-clause-ok : goal.returns-clause-ok
returns-clause-ok c =
    let key = fields_seen c.args.sentence.now in
    let items = c.args.begun.now.items in
    c.push.ensures.items
    ∙ cond-true (is_ok c.push.result) (items ++ c.args.first ∷ []) items (c.is_err.ensures.negation ∙ ap not c.if-is_err.false)
    ∙ append_put key c.args.first items (place_none key items (sym c.in_default.is ∙ c.requires))
