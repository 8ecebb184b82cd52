use Rattle.planner.proofs.level.Level.ends_broken_at_last.Goals as goal

pub returns-then-leg-clause-on : goal.returns-then-leg-clause-on
returns-then-leg-clause-on c =
    let on = c.requires.on in
    record {
      places = record {
        path = rw c.ends_broken.ensures.path on.places.path;
        beside = rw c.ends_broken.ensures.beside on.places.beside;
        targets = rw c.ends_broken.ensures.watched on.places.targets;
        fits = c.ends_broken.ensures.fits;
        room = c.ends_broken.ensures.room;
      };
      path = rw c.ends_broken.ensures.path on.path;
      bounds = rw (c.ends_broken.ensures.bounds, c.ends_broken.ensures.path) on.bounds;
    }

pub returns-then-leg-clause-breaks : goal.returns-then-leg-clause-breaks
returns-then-leg-clause-breaks c = λ e plan at le stands. (c.ends_broken.ensures.breaks plan at le stands).0 e

pub returns-then-leg-clause-passes : goal.returns-then-leg-clause-passes
returns-then-leg-clause-passes c = λ e last plan at le stands h. let t = (c.ends_broken.ensures.breaks plan at le stands).1 h in cc
