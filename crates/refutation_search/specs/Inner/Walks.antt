-- The walk over the prefixes.
use Rattle.std.specs.Prelude.{ℕ, ◌≡◌, ◌*◌, ◌-◌, ◌^◌, ◌≤◌, ◌<◌, List, length, take, slice_get, IsSomeAnd}
use Rattle.lattice.specs.Grids.{choices_of}
use Rattle.plan_situations.specs.LeastPlans.{numbered}
use Rattle.plan_situations.specs.declared.situation.Situation.{Situation}
use Rattle.plan_situations.specs.declared.situation.Target.{Target}
use Rattle.refutations.specs.GoodEntries.{Holds, IsGood}
use Rattle.refutation_search.specs.CanonicalLists.{IsCanonicalFor, IsEarlier, TellsMoment}
use Rattle.refutations.specs.RightLists.{ends_from, first_of, IsEntry, KnowsRule}
use Rattle.refutations.specs.declared.entry.Reason.{Reason}
use Rattle.refutations.specs.declared.entry.WhyEntry.{WhyEntry}

-- A reason holds towards a target under a plan up to a last tick, and no earlier one in the order does.
pub record IsFirstTowards (situation : Situation) (plan : List ℕ) (last : ℕ) (target : Target) (reason : Reason) : Type 0 where
  pub holds : Holds situation plan last target reason
  pub known : KnowsRule situation reason
  pub moment : TellsMoment situation plan target reason
  pub first : (other : Reason) → Holds situation plan last target other → ¬ IsEarlier other reason

-- No entry of a shorter prefix of a plan's first legs is good.
pub record NoneIsShorter (situation : Situation) (legs : ℕ) (plan : List ℕ) : Type 0 where
  pub none : (entry : WhyEntry) → 1 ≤ length entry.prefix → length entry.prefix < legs → entry.prefix ≡ take (length entry.prefix) plan → ¬ IsGood situation entry

-- the number of the first plan that extends the prefix with this number of legs and this number
abbrev pub first_extension : Situation → ℕ → ℕ → ℕ
first_extension situation legs number = number * choices_of situation.lattice ^ (situation.lattice.legs - legs)

-- An entry of the situation is the canonical one of the least plan that no entry before it covers, and its block begins with that plan.
pub record IsNext (situation : Situation) (before : List WhyEntry) (entry : WhyEntry) : Type 0 where
  pub is : IsEntry situation entry
  pub canonical : IsCanonicalFor situation (numbered situation (ends_from situation 0 before)) entry
  pub begins : first_of situation entry ≡ ends_from situation 0 before

-- Each entry is canonical so, and together they cover the plans below a number.
pub record IsWalkedTo (situation : Situation) (entries : List WhyEntry) (end : ℕ) : Type 0 where
  pub each : (k : ℕ) → k < length entries → IsSomeAnd (slice_get entries k) (IsNext situation (take k entries))
  pub ends : ends_from situation 0 entries ≡ end
