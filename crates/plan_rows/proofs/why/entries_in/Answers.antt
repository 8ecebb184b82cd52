use Rattle.std.proofs.Common.{List, arith, sym, subst}
use Rattle.std.specs.Prelude.{All}
use Rattle.std.proofs.lemmas.List.Elements.{All-push}
use Rattle.refutations.specs.RightLists.{IsEntry}
use Rattle.refutations.specs.declared.entry.WhyEntry.{WhyEntry}
use Rattle.plan_rows.proofs.why.entries_in.Goals as goal

pub loop-k-preserved : goal.loop-k-preserved
loop-k-preserved c = record {
  entries = subst (λ (list : List WhyEntry). All (IsEntry c.args.situation.now) list) (sym c.in_ok-push.ensures.items)
      (All-push (IsEntry c.args.situation.now) c.loop-k.list.items c.in-Some.entry c.loop-k.invariant.entries c.in-Some.ensures.entry.is);
  few = (let few = c.loop-k.invariant.few in let more = c.in_ok-push.ensures.len in omega arith);
}
