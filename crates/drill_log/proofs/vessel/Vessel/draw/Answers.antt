use Rattle.std.proofs.Common.{◌*◌, ◌∙◌, lit≤}
use Rattle.drill_log.proofs.Drawing.{four_states, made}
use Rattle.drill_log.proofs.Sums.{kept32, kept64, small32, small64}
use Rattle.drill_log.proofs.vessel.Vessel.draw.Goals as goal

pub speed-requires : goal.speed-requires
speed-requires c = record {
  x = small64 c.from.result c.draw-east_way.result 1500 1500 c.from.ensures c.draw-east_way.ensures.small (lit≤ tt) (lit≤ tt);
  y = small64 c.from-2.result c.draw-north_way.result 1500 1500 c.from-2.ensures c.draw-north_way.ensures.small (lit≤ tt) (lit≤ tt);
}

pub bearing-requires : goal.bearing-requires
bearing-requires c = record {
  x = small64 c.from.result c.draw-east_way.result 1500 4611686018427387904 c.from.ensures c.draw-east_way.ensures.small (lit≤ tt) (lit≤ tt);
  y = small64 c.from-2.result c.draw-north_way.result 1500 4611686018427387904 c.from-2.ensures c.draw-north_way.ensures.small (lit≤ tt) (lit≤ tt);
}

pub returns-clause-state : goal.returns-clause-state
returns-clause-state c = λ seed steps is.
    (four_states seed steps _ _ _ _ _ is c.draw-north.ensures.state c.draw-east.ensures.state c.draw-north_way.ensures.state c.draw-east_way.ensures.state).fourth

pub returns-clause-figures : goal.returns-clause-figures
returns-clause-figures c = λ seed vessel is mmsi.
    made seed vessel _ _ _ _ _
    (four_states seed (4 * vessel) _ _ _ _ _ is c.draw-north.ensures.state c.draw-east.ensures.state c.draw-north_way.ensures.state c.draw-east_way.ensures.state)
    (record {
      mmsi_is = mmsi;
      north = kept32 c.draw-north.result 20000 c.draw-north.ensures.small (lit≤ tt) ∙ c.draw-north.ensures.number;
      east = kept32 c.draw-east.result 20000 c.draw-east.ensures.small (lit≤ tt) ∙ c.draw-east.ensures.number;
      way_north = kept64 c.from-2.result c.draw-north_way.result 1500 c.from-2.ensures c.draw-north_way.ensures.small (lit≤ tt) ∙ c.draw-north_way.ensures.number;
      way_east = kept64 c.from.result c.draw-east_way.result 1500 c.from.ensures c.draw-east_way.ensures.small (lit≤ tt) ∙ c.draw-east_way.ensures.number;
      speed = c.speed.ensures.value;
      course = c.bearing.ensures.value;
    })

pub returns-clause-ranges : goal.returns-clause-ranges
returns-clause-ranges c = record {
  mmsi_from = c.requires.mmsi_from;
  mmsi_to = c.requires.mmsi_to;
  north = small32 c.draw-north.result 20000 c.draw-north.ensures.small (lit≤ tt);
  east = small32 c.draw-east.result 20000 c.draw-east.ensures.small (lit≤ tt);
  way = record {
    x = small64 c.from.result c.draw-east_way.result 1500 1500 c.from.ensures c.draw-east_way.ensures.small (lit≤ tt) (lit≤ tt);
    y = small64 c.from-2.result c.draw-north_way.result 1500 1500 c.from-2.ensures c.draw-north_way.ensures.small (lit≤ tt) (lit≤ tt);
  };
  speed = c.speed.ensures.below;
  course = c.bearing.ensures.below;
}
