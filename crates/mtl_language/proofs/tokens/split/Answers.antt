use Rattle.std.proofs.Common.{arith, length-drop}
use Rattle.std.proofs.lemmas.List.{take_rest}
use Rattle.mtl_language.proofs.TokenSteps.{tokens_push}
use Rattle.mtl_language.proofs.tokens.split.Goals as goal

pub loop-at-preserved : goal.loop-at-preserved
loop-at-preserved c =
    let text = c.args.text.now in
    let at = c.loop-at.at in
    let found = c.front-token.ensures in
    record {
      within = omega (arith, found.within, length-drop at text);
      told = rw c.in_ok-push.ensures.items (tokens_push text at c.loop-at-test.true _ _ _ _ c.loop-at.invariant.told c.if-text-at-eq32.false (rw take_rest at found.token) (rw take_rest at found.len) found.some);
    }
