use Rattle.std.proofs.Common.{◌≤◌, ◌*◌, subst, sym}
use Rattle.toml.specs.View.{table_view}
use Rattle.lattice.specs.Grids.{Grid, positions_of}
use Rattle.scenario_keys.specs.ScenarioKeys.{own_rows}
use Rattle.scenario.specs.KeyFaults.{tick_of}
use Rattle.scenario.specs.Inner.KnownKeys.{kind_at}
use Rattle.scenario.proofs.PlansHeld.{plans_held}
use Rattle.scenario.proofs.own_part.lattice_of.Goals as goal

pub new-requires : goal.new-requires
unfolding kind_at own_rows
new-requires c =
    let held = plans_held (table_view c.args.document.now) c.args.courses.now c.args.speeds.now c.natural-legs.result c.natural-leg_ticks.result c.natural-tail.result
    c.requires.faultless c.requires.courses c.requires.speeds c.natural-legs.ensures.value c.natural-leg_ticks.ensures.value c.natural-tail.ensures.value
    c.requires.few_courses c.requires.few_speeds c.natural-legs.ensures.most c.natural-leg_ticks.ensures.most c.natural-tail.ensures.most in
    record {
      some_course = c.requires.some_courses;
      few_courses = c.requires.few_courses;
      course_changes = c.requires.course_changes;
      some_speed = c.requires.some_speeds;
      few_speeds = c.requires.few_speeds;
      speed_changes = c.requires.speed_changes;
      some_leg = c.natural-legs.ensures.least;
      few_legs = c.natural-legs.ensures.most;
      some_tick = c.natural-leg_ticks.ensures.least;
      few_ticks = c.natural-leg_ticks.ensures.most;
      short_tail = c.natural-tail.ensures.most;
      turns = c.optional-turn_rate.ensures.least;
      turn_rate = c.optional-turn_rate.ensures.most;
      hastens = c.optional-speed_rate.ensures.least;
      speed_rate = c.optional-speed_rate.ensures.most;
      few_plans = held.few;
      few_positions = held.positions;
    }

pub returns-clause-time : goal.returns-clause-time
unfolding kind_at own_rows
returns-clause-time c =
    let held = plans_held (table_view c.args.document.now) c.args.courses.now c.args.speeds.now c.natural-legs.result c.natural-leg_ticks.result c.natural-tail.result
    c.requires.faultless c.requires.courses c.requires.speeds c.natural-legs.ensures.value c.natural-leg_ticks.ensures.value c.natural-tail.ensures.value
    c.requires.few_courses c.requires.few_speeds c.natural-legs.ensures.most c.natural-leg_ticks.ensures.most c.natural-tail.ensures.most in
    subst (λ (g : Grid). positions_of g * tick_of (table_view c.args.document.now) ≤ 7200) (sym c.new.ensures) held.short
