use Rattle.std.proofs.Common.{◌+◌, [], ◌∷◌, ◌∙◌, sym, arith, refl, false}
use Rattle.std.proofs.lemmas.List.{get_or-replicate}
use Rattle.early_monitor.proofs.Places.{none_known}
use Rattle.early_monitor.proofs.pass_state.PassState.new.Goals as goal

pub returns-clause-at : goal.returns-clause-at
returns-clause-at c = λ t is reach. record {
  follows = c.in_ok-state.ensures.follows (t ∷ []) is;
  reach = reach;
  done = refl;
  known = λ k within. rw c.in_ok-known.ensures (get_or-replicate (c.args.reach + 1) k false false (omega (arith, within)) ∙ sym (none_known t k (omega (arith, within, reach))));
}
