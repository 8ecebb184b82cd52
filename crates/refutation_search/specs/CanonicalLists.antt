-- The canonical list of entries. Repeat: take the lowest-numbered plan that no entry covers yet, its shortest prefix
-- for which some entry is good, and the first of these entries.
use Rattle.std.specs.Prelude.{ℕ, ◌≡◌, ◌≤◌, ◌<◌, ◌⊎◌, ⊤, List, length, take, slice_get, IsSomeAnd}
use Rattle.lattice.specs.Grids.{plans_of}
use Rattle.meetings.specs.Traces.{step_at}
use Rattle.plan_situations.specs.Domains.{moment_of}
use Rattle.plan_situations.specs.FailingPlans.{Fails, Some_}
use Rattle.plan_situations.specs.LeastPlans.{numbered}
use Rattle.plan_situations.specs.Situations.{own_at, target_at}
use Rattle.plan_situations.specs.declared.situation.Situation.{Situation}
use Rattle.plan_situations.specs.declared.situation.Target.{Target}
use Rattle.refutations.specs.GoodEntries.{IsGood}
use Rattle.refutations.specs.RightLists.{ends_from, IsEntry}
use Rattle.refutations.specs.declared.entry.Reason.{Reason}
use Rattle.refutations.specs.declared.entry.Reason.TheVariants.{Domain, Rule}
use Rattle.refutations.specs.declared.entry.WhyEntry.{WhyEntry}

-- The order of two reasons towards a target: a domain before a rule, then the earlier step, then the rule with the
-- smaller index.
abbrev pub IsEarlier : Reason → Reason → Type 0
IsEarlier (Domain step _) (Domain other _) = step < other
IsEarlier (Domain step _) (Rule _ other) = ⊤
IsEarlier (Rule _ step) (Domain other _) = ⊥
IsEarlier (Rule index step) (Rule other_index other) = (step < other) ⊎ ((step ≡ other) × (index < other_index))

-- The order of two entries of a prefix: first the entry of the target with the smaller MMSI, then by their reasons.
abbrev pub Precedes : WhyEntry → WhyEntry → Type 0
Precedes entry other = (entry.target < other.target) ⊎ ((entry.target ≡ other.target) × IsEarlier entry.reason other.reason)

-- The moment of a domain is that of the entry into it in the step.
abbrev pub TellsMoment : Situation → List ℕ → Target → Reason → Type 0
TellsMoment situation plan target (Domain step moment) =
    IsSomeAnd (step_at (own_at situation plan) (target_at situation target) step) (λ pair. moment ≡ moment_of situation target pair)
TellsMoment situation plan target (Rule index step) = ⊤

-- An entry is the first good one of its prefix.
pub record IsFirstGood (situation : Situation) (entry : WhyEntry) : Type 0 where
  pub good : IsGood situation entry
  pub moment : Some_ (λ target. (target.mmsi ≡ entry.target) × TellsMoment situation entry.prefix target entry.reason) situation.targets
  pub first : (other : WhyEntry) → other.prefix ≡ entry.prefix → IsGood situation other → ¬ Precedes other entry

-- An entry of a plan's prefix is the canonical one of the plan: no entry of a shorter prefix is good, and it is the first good one of its own.
pub record IsCanonicalFor (situation : Situation) (plan : List ℕ) (entry : WhyEntry) : Type 0 where
  pub prefix : entry.prefix ≡ take (length entry.prefix) plan
  pub shortest : (other : WhyEntry) → 1 ≤ length other.prefix → length other.prefix < length entry.prefix → other.prefix ≡ take (length other.prefix) plan
      → ¬ IsGood situation other
  pub first : IsFirstGood situation entry

-- While some plan is not covered by the entries before it, each entry is the canonical one of the least such plan; together they cover all plans.
pub record IsCanonical (situation : Situation) (entries : List WhyEntry) : Type 0 where
  pub uncovered : (k : ℕ) → k < length entries → ends_from situation 0 (take k entries) < plans_of situation.lattice
  pub each : (k : ℕ) → k < length entries → IsSomeAnd (slice_get entries k)
      (λ entry. IsEntry situation entry × IsCanonicalFor situation (numbered situation (ends_from situation 0 (take k entries))) entry)
  pub whole : ends_from situation 0 entries ≡ plans_of situation.lattice

-- Some plan does not fail.
pub record SomePlanPasses (situation : Situation) : Type 0 where
  pub number : ℕ
  pub known : number < plans_of situation.lattice
  pub passes : ¬ Fails situation (numbered situation number)
