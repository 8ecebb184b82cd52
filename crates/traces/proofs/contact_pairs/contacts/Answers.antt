use Rattle.std.proofs.Common.{sym, ◌∙◌}
use Rattle.std.proofs.lemmas.Result.{IfOk-weaker}
use Rattle.traces.proofs.FoundPairs.{still_placed}
use Rattle.traces.proofs.SubjectPairs.{are_all_contacts, are_subject_contacts, no_items, some_items}
use Rattle.traces.proofs.contact_pairs.contacts.Goals as goal

pub pairs_among-requires-clause-placed : goal.pairs_among-requires-clause-placed
pairs_among-requires-clause-placed c = rw c.deref.ensures.value (still_placed c.args.seen.now c.in_ok-vessels.vessels.items c.in_ok-vessels.ensures.same c.requires.placed)

pub returns-then-is_empty : goal.returns-then-is_empty
returns-then-is_empty c =
    let none = no_items c.args.subjects.now (sym c.is_empty.ensures ∙ c.if-is_empty.true) in
    IfOk-weaker c.pairs_among.result _ _ (λ pairs added. are_all_contacts c.args.watch c.args.subjects.now c.args.seen.now c.deref.result.now _ none c.requires.ascending
    (rw c.deref.ensures.value c.in_ok-vessels.ensures.same) added) c.pairs_among.ensures

pub pairs_with-requires-clause-placed : goal.pairs_with-requires-clause-placed
pairs_with-requires-clause-placed c = rw c.deref-2.ensures.value (still_placed c.args.seen.now c.in_ok-vessels.vessels.items c.in_ok-vessels.ensures.same c.requires.placed)

pub returns : goal.returns
returns c =
    let some = some_items c.args.subjects.now (sym c.is_empty.ensures ∙ c.if-is_empty.false) in
    IfOk-weaker c.pairs_with.result _ _ (λ pairs added. are_subject_contacts c.args.watch c.args.subjects.now c.args.seen.now c.deref-2.result.now _ some c.requires.ascending
    (rw c.deref-2.ensures.value c.in_ok-vessels.ensures.same) added) c.pairs_with.ensures
