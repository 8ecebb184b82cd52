use Rattle.std.proofs.Common.{◌∙◌, refl}
use Rattle.planner.specs.Inner.Breaking.{formulas_of}
use Rattle.planner.proofs.watched.Watched.copy_from.Goals as goal

pub returns : goal.returns
returns c = record {
  ready = λ program ready. record {
    fits = c.copy_from.ensures.fits program ready.fits;
    room = c.copy_from.ensures.room program ready.room;
    unended = c.copy_from.ensures.past ∙ ready.unended;
    calm = λ e. cc;
  };
  fed = c.copy_from.ensures.fed;
  since = refl;
  stands = λ program s X T cut at h. record {
    stands = record {
      begun = λ e. let has = h.stands.begun e in record {
        start = has.start;
        rows = has.rows;
        begins = has.begins;
        are_rows = has.are_rows;
        follows = has.follows;
        values = c.copy_from.ensures.follows program (formulas_of s) has.rows has.values;
      };
      waits = λ e. let waits = h.stands.waits e in record {
        apart = waits.apart;
        follows = waits.follows;
        values = c.copy_from.ensures.follows program (formulas_of s) _ waits.values;
      };
    };
    counted = c.copy_from.ensures.fed ∙ h.counted;
    unbroken = h.unbroken;
  };
}
