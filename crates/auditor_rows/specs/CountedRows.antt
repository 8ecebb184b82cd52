-- The state of a trace in the keeper that counts rows.
use Rattle.std.specs.Prelude.{ℕ}
use Rattle.traces.specs.Keeping.{Keeper}

-- The number of its rows, and nothing else.
abbrev pub counted_rows : Keeper ℕ (Unit {0})
counted_rows = record {
  Sound = Unit {0};
  Ready = λ rows. Unit {0};
  steps = λ rows. rows;
  Stands = λ numbers step kept done rest given. Unit {0};
  Ends = λ numbers step kept ended rest given. Unit {0};
}
