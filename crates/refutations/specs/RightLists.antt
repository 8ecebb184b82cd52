-- When a list of entries is right: each entry is good, and the blocks of plans that extend the prefixes follow one another and are together all plans.
use Rattle.std.specs.Prelude.{ℕ, ◌≡◌, ◌≢◌, ◌+◌, ◌*◌, ◌-◌, ◌^◌, ◌≤◌, ◌<◌, ⊤, List, [], ◌∷◌, length, take, slice_get, IsSomeAnd}
use Rattle.std.specs.Int.Digits.{AllBelowBase}
use Rattle.lattice.specs.Grids.{choices_of, plans_of}
use Rattle.lattice.specs.PlanNumbers.{number_of}
use Rattle.plan_situations.specs.declared.situation.Situation.{Situation}
use Rattle.refutations.specs.GoodEntries.{IsGood}
use Rattle.refutations.specs.declared.entry.Checked.{Checked}
use Rattle.refutations.specs.declared.entry.Checked.TheVariants.{Right, Bad}
use Rattle.refutations.specs.declared.entry.Reason.{Reason}
use Rattle.refutations.specs.declared.entry.Reason.TheVariants.{Domain, Rule}
use Rattle.refutations.specs.declared.entry.WhyEntry.{WhyEntry}

module _ (situation : Situation) where
  -- A rule that a reason names is one of the situation's.
  abbrev pub KnowsRule : Reason → Type 0
  KnowsRule (Domain step moment) = ⊤
  KnowsRule (Rule index step) = index < length situation.rules

  -- It is an entry of the situation: a prefix of 1 to as many choices as a plan has legs, each one of the lattice, and a reason of a rule that there is.
  pub record IsEntry (entry : WhyEntry) : Type 0 where
    pub some : 1 ≤ length entry.prefix
    pub few : length entry.prefix ≤ situation.lattice.legs
    pub below : AllBelowBase (choices_of situation.lattice) entry.prefix
    pub known : KnowsRule entry.reason

  -- how many plans extend an entry's prefix, the number of the first of them, and the number after the last

  abbrev pub extensions_of : WhyEntry → ℕ
  extensions_of entry = choices_of situation.lattice ^ (situation.lattice.legs - length entry.prefix)

  abbrev pub first_of : WhyEntry → ℕ
  first_of entry = number_of (choices_of situation.lattice) entry.prefix * extensions_of entry

  abbrev pub behind : WhyEntry → ℕ
  behind entry = (number_of (choices_of situation.lattice) entry.prefix + 1) * extensions_of entry

  -- where the blocks of entries end that begin at a number
  abbrev pub ends_from : ℕ → List WhyEntry → ℕ
  ends_from from [] = from
  ends_from from (entry ∷ entries) = ends_from (behind entry) entries

  -- The entry with an index is good, and its block begins where those before it end.
  abbrev pub IsSoundAt : List WhyEntry → ℕ → Type 0
  IsSoundAt entries k = IsSomeAnd (slice_get entries k) (λ entry. IsGood situation entry × (first_of entry ≡ ends_from 0 (take k entries)))

  -- All are so, and together the blocks are all plans.
  pub record IsRight (entries : List WhyEntry) : Type 0 where
    pub each : (k : ℕ) → k < length entries → IsSoundAt entries k
    pub whole : ends_from 0 entries ≡ plans_of situation.lattice

  -- The list is not right, and this is the least index at which it is not.
  pub record IsFirstBad (entries : List WhyEntry) (k : ℕ) : Type 0 where
    pub within : k ≤ length entries
    pub before : (j : ℕ) → j < k → IsSoundAt entries j
    pub here : k < length entries → ¬ IsSoundAt entries k
    pub short : k ≡ length entries → ends_from 0 entries ≢ plans_of situation.lattice

  -- what a check returns for a list
  abbrev pub Tells : List WhyEntry → Checked → Type 0
  Tells entries Right = IsRight entries
  Tells entries (Bad k) = IsFirstBad entries k
