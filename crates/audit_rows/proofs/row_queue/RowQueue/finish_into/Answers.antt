use Rattle.std.proofs.Common.{List, sym, subst}
use Rattle.std.specs.List.{AllZip}
use Rattle.std.specs.Map.{values_of}
use Rattle.std.proofs.lemmas.Result.{on_ok_weaker}
use Rattle.audit_rows.specs.declared.lane.Lane.{Lane}
use Rattle.audit_rows.specs.Inner.Lanes.{Stands}
use Rattle.audit_rows.proofs.row_queue.RowQueue.finish_into.Goals as goal

pub returns : goal.returns
returns c =
    on_ok_weaker c.pop_all.result (λ all. (
      values_of c.end_all.new.pending.entries,
      all,
      λ tracks bound given h ends.
          c.in_ok-end_all.ensures tracks bound given (subst (λ (ls : List Lane). AllZip Stands ls tracks) (sym c.deref.ensures.value) h.lanes) ends h.holds,
    )) c.pop_all.ensures
