-- The cause of a text of at most 1024 bytes.
use Rattle.std.proofs.Common.{◌≡◌, ℕ, ◌≤◌, inl, List, length, Some, None, Result, Ok, Err, IfOk, IfErr, refl}
use Rattle.scenario_keys.specs.declared.cause.Cause.TheVariants as cause
use Rattle.scenario_keys.specs.ToldFaults.{IfFault}
use Rattle.scenario_keys.specs.declared.key.Key.{Key}
use Rattle.scenario_keys.specs.declared.fault.ScenarioFault.{ScenarioFault}
use Rattle.scenario_keys.specs.declared.fault.ScenarioFault.TheVariants as refusal
use Rattle.scenario_rules.specs.FormulaTables.{HasCause, IsBytesCause}

pub short_told : {A : Type 0} (tick : ℕ) (text : List ℕ) (result : Result A ScenarioFault) → length text ≤ 1024 →
    IfOk result (λ _. HasCause tick text None) → IfOk result (λ _. IsBytesCause tick text None)
short_told tick text (Ok value) h k = inl (h, k)
short_told tick text (Err fault) h k = tt

pub short_fault : {A : Type 0} (tick : ℕ) (text : List ℕ) (key : Key) (result : Result A ScenarioFault) → length text ≤ 1024 →
    IfErr result (IfFault (λ told. (told.0 ≡ key) × HasCause tick text (Some told.1))) →
    IfErr result (IfFault (λ told. (told.0 ≡ key) × IsBytesCause tick text (Some told.1)))
short_fault tick text key (Ok value) h k = tt
short_fault tick text key (Err (refusal.Fault at why)) h k = (k.0, inl (h, k.1))
short_fault tick text key (Err refusal.Memory) h k = tt

pub fault_told : (tick : ℕ) (text : List ℕ) (key : Key) (index : ℕ) (fault : ScenarioFault) → fault ≡ refusal.Fault key (cause.Formula index) →
    HasCause tick text (Some (cause.Formula index)) → IfFault (λ told. (told.0 ≡ key) × HasCause tick text (Some told.1)) fault
fault_told tick text key index fault e h = rw e (refl, h)
