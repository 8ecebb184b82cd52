-- A scenario is migrated, or there is one reason why it is not.
use Rattle.std.proofs.Common.{◌≡◌, ◌⊎◌, inl, inr, ℕ, true, false, List, Vec, Global, Result, Ok, Err, IfOk, IfErr, refl, ap, sym, ◌∙◌, subst}
use Rattle.toml.specs.Data.{Members}
use Rattle.scenario_keys.specs.ToldFaults.{IfFault}
use Rattle.scenario_keys.specs.declared.cause.Cause.{Cause}
use Rattle.scenario_keys.specs.declared.fault.ScenarioFault.{ScenarioFault}
use Rattle.scenario_keys.specs.declared.fault.ScenarioFault.TheVariants as refusal
use Rattle.scenario_keys.specs.declared.key.Key.{Key}
use Rattle.scenario.specs.DocumentFaults.{IsFaultless, IsFirstFault}
use Rattle.scenario.specs.KeyFaults.{is_version_two}
use Rattle.scenario.specs.Migration.{for_migration, HasFirstFault, IsMigrated, IsNotMigrated}
use Rattle.scenario.specs.ScenarioReading.{Reads}
use Rattle.scenario.proofs.Single.{faultless_or_not, one_document, one_fault}

one_version : (bytes : List ℕ) (a b : Members) → Reads bytes a → Reads bytes b → is_version_two a ≡ true → is_version_two b ≡ false → ⊥
one_version bytes a b h k e f =
    let same = one_document bytes a b h k in
    let g : is_version_two b ≡ true = subst (λ (d : Members). is_version_two d ≡ true) same e in
    let c : true ≡ false = sym g ∙ f in
    cc

never : (bytes text : List ℕ) (key : Key) (why : Cause) → IsMigrated bytes text → IsNotMigrated bytes key why → ⊥
never bytes text key why is (inl h) = h.unread is.document is.reads
never bytes text key why is (inr (inl h)) = one_version bytes h.document is.document h.reads is.reads h.version_two is.version_one
never bytes text key why is (inr (inr h)) =
    let same = one_document bytes is.document h.document is.reads h.reads in
    faultless_or_not (for_migration h.document) h.document (key, why) (subst (λ (d : Members). IsFaultless (for_migration d) d) same is.faultless) h.first

same_fault : (bytes : List ℕ) (key other : Key) (cause why : Cause) → HasFirstFault bytes key cause → HasFirstFault bytes other why → (key ≡ other) × (cause ≡ why)
same_fault bytes key other cause why h k =
    let same = one_document bytes h.document k.document h.reads k.reads in
    let pair = one_fault (for_migration k.document) k.document (key, cause) (other, why) (subst (λ (d : Members). IsFirstFault (for_migration d) d (key, cause)) same h.first) k.first in
    (ap (λ (p : Key × Cause). p.0) pair, ap (λ (p : Key × Cause). p.1) pair)

pub one_reason : (bytes : List ℕ) (key other : Key) (cause why : Cause) → IsNotMigrated bytes key cause → IsNotMigrated bytes other why → (key ≡ other) × (cause ≡ why)
one_reason bytes key other cause why (inl h) (inl k) = (h.at ∙ sym k.at, h.because ∙ sym k.because)
one_reason bytes key other cause why (inl h) (inr (inl k)) = absurd (h.unread k.document k.reads)
one_reason bytes key other cause why (inl h) (inr (inr k)) = absurd (h.unread k.document k.reads)
one_reason bytes key other cause why (inr (inl h)) (inl k) = absurd (k.unread h.document h.reads)
one_reason bytes key other cause why (inr (inr h)) (inl k) = absurd (k.unread h.document h.reads)
one_reason bytes key other cause why (inr (inl h)) (inr (inl k)) = (h.at ∙ sym k.at, h.because ∙ sym k.because)
one_reason bytes key other cause why (inr (inl h)) (inr (inr k)) = absurd (one_version bytes h.document k.document h.reads k.reads h.version_two k.version_one)
one_reason bytes key other cause why (inr (inr h)) (inr (inl k)) = absurd (one_version bytes k.document h.document k.reads h.reads k.version_two h.version_one)
one_reason bytes key other cause why (inr (inr h)) (inr (inr k)) = same_fault bytes key other cause why h k

pub told : (bytes : List ℕ) (result : Result (Vec ℕ Global) ScenarioFault) → IfOk result (λ v. IsMigrated bytes v.items) →
    IfErr result (IfFault (λ told. IsNotMigrated bytes told.0 told.1)) →
    (key : Key) (cause : Cause) → IsNotMigrated bytes key cause → (result ≡ Err (refusal.Fault key cause)) ⊎ (result ≡ Err refusal.Memory)
told bytes (Ok text) is refused key cause not = absurd (never bytes text.items key cause is not)
told bytes (Err (refusal.Fault other why)) is refused key cause not =
    let same = one_reason bytes other key why cause refused not in
    let e : other ≡ key = same.0 in
    let f : why ≡ cause = same.1 in
    inl (cc)
told bytes (Err refusal.Memory) is refused key cause not = inr refl

pub refused : (bytes : List ℕ) (result : Result (Vec ℕ Global) ScenarioFault) → IfErr result (IfFault (λ told. IsNotMigrated bytes told.0 told.1)) →
    (key : Key) (cause : Cause) → result ≡ Err (refusal.Fault key cause) → IsNotMigrated bytes key cause
refused bytes (Ok text) h key cause e = cc
refused bytes (Err (refusal.Fault other why)) h key cause e =
    let f : other ≡ key = cc in
    let g : why ≡ cause = cc in
    subst (λ (k : Key). IsNotMigrated bytes k cause) f (subst (λ (w : Cause). IsNotMigrated bytes other w) g h)
refused bytes (Err refusal.Memory) h key cause e = cc
