use Rattle.std.proofs.Common.{◌≡◌, [], List, length, ap, sym, subst, ◌∙◌}
use Rattle.traces.proofs.NextTick.{known_count}
use Rattle.traces.proofs.trace_window.TraceWindow.end.Goals as goal

pub returns : goal.returns
returns g c = λ numbers ticks knowns step given stands keeps.
    let kept = c.deref_mut.ensures.value in
    let as_many : length c.args.self.kept.items ≡ length knowns = c.requires.sound.many ∙ known_count c.args.self.traces numbers ticks knowns stands in (
      c.end_each.new.kept,
      c.in_ok-end_each.ensures numbers step knowns given (ap (λ (ks : List g.row.K-Kept.Denot). length ks) kept ∙ as_many)
          (subst (λ (ks : List g.row.K-Kept.Denot). (g.K.TraceKeeper.keeper c.args.self.keeper).Ends numbers step ks [] knowns given) (sym kept) keeps),
    )
