use Rattle.std.proofs.Common.{get_or}
use Rattle.std.proofs.lemmas.List.{drop_more}
use Rattle.mtl_formulas.specs.declared.atom.Atom.TheVariants.{Always}
use Rattle.mtl_language.specs.declared.tokens.Token.TheVariants.{Atom}
use Rattle.mtl_language.specs.declared.tokens.IndexedToken.{IndexedToken}
use Rattle.mtl_language.proofs.Refusals.{scanned_none, scanned_more, scanned_found}
use Rattle.mtl_language.proofs.numbers.first_refused.Goals as goal

pub loop-indexed-init : goal.loop-indexed-init
loop-indexed-init c = scanned_none c.args.tick c.args.tokens.now

pub returns-then-is_refused_token : goal.returns-then-is_refused_token
returns-then-is_refused_token c =
    let d : IndexedToken = record { token = Atom Always; index = 0 } in
    let next = drop_more c.args.tokens.now c.loop-indexed.indexed-index d c.loop-indexed-test.true in
    scanned_found c.args.tick c.args.tokens.now _ _ _ (get_or c.args.tokens.now c.loop-indexed.indexed-index d)
    (rw next at c.loop-indexed.invariant) c.if-is_refused_token.ensures

pub loop-indexed-preserved : goal.loop-indexed-preserved
loop-indexed-preserved c =
    let d : IndexedToken = record { token = Atom Always; index = 0 } in
    let next = drop_more c.args.tokens.now c.loop-indexed.indexed-index d c.loop-indexed-test.true in
    scanned_more c.args.tick c.args.tokens.now _ _ _ (get_or c.args.tokens.now c.loop-indexed.indexed-index d)
    (rw next at c.loop-indexed.invariant) c.if-is_refused_token.ensures
