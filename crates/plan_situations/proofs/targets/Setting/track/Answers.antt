use Rattle.std.proofs.Common.{◌∙◌, ◌≤◌, ap, sym, subst, arith}
use Rattle.std.specs.Option.{option_copied}
use Rattle.motion.specs.TickStates.{state_at}
use Rattle.plan_situations.proofs.Vessels.{held, legs_are, legs_move}
use Rattle.plan_situations.proofs.targets.Setting.track.Goals as goal

pub returns-clause-legs : goal.returns-clause-legs
returns-clause-legs c = λ numbers messages stands.
    legs_are (option_copied c.legs.result) c.args.self.now.book.now.keeping numbers messages c.args.vessel.now.mmsi (c.legs.ensures.value numbers messages stands)
    (held numbers messages c.args.vessel.now.mmsi c.args.vessel.now.latest (c.requires.near.latest numbers messages stands)) c.requires.setting.keeping

pub returns-clause-track : goal.returns-clause-track
returns-clause-track c =
    let setting = c.requires.setting in
    let (numbers, messages, stands) = setting.stands in
    let near = c.requires.near in
    let legs = returns-clause-legs c numbers messages stands in
    let comes = c.comes_to_latest.ensures numbers messages stands c.args.vessel.now.latest (near.latest numbers messages stands) in
    let gap : c.args.self.now.window.tick ≤ numbers.gap = subst (λ n. c.args.self.now.window.tick ≤ n) (ap (λ n. n.gap) stands.by) setting.gap in
    record {
      window = setting.window;
      accepted = near.accepted;
      changes = c.requires.changes;
      fresh = near.fresh;
      moves = legs_move (option_copied c.legs.result) c.args.self.now.book.now.numbers.gap c.args.self.now.window.tick c.legs.ensures.moves setting.gap;
      comes = λ t before early soon seen. comes t before early (omega (arith, gap, soon)) (ap (state_at t) (sym legs) ∙ seen);
    }
