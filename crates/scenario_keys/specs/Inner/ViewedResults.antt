-- A result with the model of its value.
use Rattle.std.specs.Prelude.{Result, Ok, Err}

abbrev pub viewed : {A B E : Type 0} → (A → B) → Result A E → Result B E
viewed view (Ok value) = Ok (view value)
viewed view (Err cause) = Err cause
