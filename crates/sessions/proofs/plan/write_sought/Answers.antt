use Rattle.std.proofs.lemmas.Result.{on_ok_weaker}
use Rattle.sessions.proofs.plan.write_sought.Goals as goal

pub returns : goal.returns
returns c = on_ok_weaker c.write.result (λ writes numbers messages front few stands held has. writes _ (c.in_ok-write_near.ensures numbers messages front few stands held has)) c.write.ensures
