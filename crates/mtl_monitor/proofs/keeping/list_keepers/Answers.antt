use Rattle.std.proofs.Common.{◌∙◌, sym}
use Rattle.mtl_monitor.proofs.Keepers.{keepers-listed, keepers-left_out}
use Rattle.mtl_monitor.proofs.keeping.list_keepers.Goals as goal
use Rattle.mtl_monitor.proofs.keeping.list_keepers.Goals.{then-is_keeping+in_ok-pushed, else-is_keeping}

pub loop-index-preserved : goal.loop-index-preserved
loop-index-preserved c =
    let l = c.loop-index in
    elim c.if-is_keeping.branch [
      | then-is_keeping+in_ok-pushed w ↦
          rw w.keepers-is (keepers-listed c.args.nodes.now l.index l.keepers.items _ l.invariant (sym c.is_keeping.ensures ∙ w.if-is_keeping.true) w.in_ok-pushed.ensures)
      | else-is_keeping w ↦ rw w.keepers-is (keepers-left_out c.args.nodes.now l.index l.keepers.items l.invariant (sym c.is_keeping.ensures ∙ w.if-is_keeping.false))
    ]
