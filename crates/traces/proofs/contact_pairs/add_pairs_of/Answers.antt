use Rattle.std.proofs.Common.{◌≡◌, true, false, refl}
use Rattle.std.proofs.lemmas.Result.{IfOk-weaker}
use Rattle.traces.proofs.SubjectPairs.{with_other, with_subject}
use Rattle.traces.proofs.contact_pairs.add_pairs_of.Goals as goal

pub returns-then-not-is_one_of : goal.returns-then-not-is_one_of
returns-then-not-is_one_of c =
    with_other c.args.watch c.args.subjects.now c.args.vessel.now c.args.vessels.now c.args.pairs.now.items (λ h. let e : false ≡ true = c.if-not-is_one_of.ensures.1 h in cc)

pub returns : goal.returns
returns c =
    IfOk-weaker c.add_pairs.result _ _
    (λ done added. with_subject c.args.watch c.args.subjects.now c.args.vessel.now c.args.vessels.now c.args.pairs.now.items c.add_pairs.new.pairs.items (c.if-not-is_one_of.ensures.0 refl) added) c.add_pairs.ensures
