-- The formulas of the rules, as trees: the duties of the COLREGs 1972, with the numbers of a scenario. The bounds of their
-- operators are in positions, each one tick long.
--
-- Rule 18 says by rank which of two vessels keeps out of the way of the other. If ranks count, it has its own duty,
-- r18, and the duties of meeting head-on and of crossing (Rules 14, 15 and 17) hold only between power-driven vessels.
-- Parts in brackets exist only if ranks count. Overtaking takes precedence over any rank (Rule 13).
use Rattle.std.specs.Prelude.{ℕ, ◌≡◌, ◌≤◌, ◌/◌, ◌%◌}
use Rattle.mtl_formulas.specs.declared.atom.Atom.TheVariants.{Risk, Engaged, Begin, Overtaking, Overtaken, HeadOn, CrossingGives, CrossingStands, Passing, Unclassified, Age, Opening, Clear, Close, OtherOnPort, Ahead, Alters, Apparent, ToStarboard, ToPort, OtherApparent, RankGives, RankStands, BothPower}
use Rattle.mtl_formulas.specs.declared.formula.PairKind.TheVariants.{And, Or, Implies}
use Rattle.mtl_formulas.specs.declared.formula.SpanKind.TheVariants.{F, H}
use Rattle.mtl_formulas.specs.declared.formula.LinkKind.TheVariants.{S}
use Rattle.mtl_formulas.specs.FormulaTree.{FormulaTree, leaf, negation, pair, span, link}
use Rattle.mtl_formulas.specs.FormulaMeasures.{IsTick}
use Rattle.rule_set.specs.declared.numbers.Safe.{Safe}
use Rattle.rule_set.specs.declared.numbers.Safe.TheVariants.{One, PerKind}
use Rattle.rule_set.specs.declared.numbers.RuleNumbers.{RuleNumbers}
use Rattle.rule_set.specs.declared.ranking.Ranking.{Ranking}
use Rattle.rule_set.specs.declared.ranking.Ranking.TheVariants.{Ignored, Counted}

infixl 30 ◌and◌
infixl 25 ◌or◌
infixr 20 ◌implies◌
-- Metres are at most 100,000; seconds are at most 7200 and a multiple of the tick.
abbrev pub AreMetres : ℕ → Type 0
AreMetres metres = metres ≤ 100000

abbrev pub AreSafeMetres : Safe → Type 0
AreSafeMetres (One metres) = AreMetres metres
AreSafeMetres (PerKind head_on overtaking crossing other) = AreMetres head_on × AreMetres overtaking × AreMetres crossing × AreMetres other

pub record AreSeconds (tick seconds : ℕ) : Type 0 where
  pub few : seconds ≤ 7200
  pub whole : seconds % tick ≡ 0

pub record AreRuleNumbers (tick : ℕ) (n : RuleNumbers) : Type 0 where
  pub is_tick : IsTick tick
  pub safe : AreSafeMetres n.safe
  pub overtake : AreMetres n.overtake
  pub close : AreMetres n.close
  pub t8 : AreSeconds tick n.t8
  pub ta : AreSeconds tick n.ta
  pub tl : AreSeconds tick n.tl
  pub tw : AreSeconds tick n.tw
  pub te : AreSeconds tick n.te

-- a & b
abbrev pub ◌and◌ : FormulaTree → FormulaTree → FormulaTree
a and b = pair And a b

-- a | b
abbrev pub ◌or◌ : FormulaTree → FormulaTree → FormulaTree
a or b = pair Or a b

-- a -> b
abbrev pub ◌implies◌ : FormulaTree → FormulaTree → FormulaTree
a implies b = pair Implies a b

-- Between power-driven vessels: a [& both_power]
unfoldable pub between_power : Ranking → FormulaTree → FormulaTree
between_power Ignored a = a
between_power Counted a = a and leaf BothPower

-- The duty to act within this many seconds, unless the engagement ends: F[0,seconds] (act | !engaged)
unfoldable pub soon : ℕ → ℕ → FormulaTree → FormulaTree
soon tick seconds act = span F 0 (seconds / tick) (act or negation (leaf Engaged))

-- The vessel is to keep out of the way: (overtaking [| rank_gives] | crossing_gives [& both_power])
unfoldable pub keeps_out : Ranking → FormulaTree
keeps_out Ignored = leaf Overtaking or leaf CrossingGives
keeps_out Counted = leaf Overtaking or leaf RankGives or (leaf CrossingGives and leaf BothPower)

-- The vessel is to stand on: (overtaken [| rank_stands] | crossing_stands [& both_power])
unfoldable pub stands_on : Ranking → FormulaTree
stands_on Ignored = leaf Overtaken or leaf CrossingStands
stands_on Counted = leaf Overtaken or leaf RankStands or (leaf CrossingStands and leaf BothPower)

-- In risk, and so near that the other vessel may be unable to avoid collision alone: (engaged & risk & close(close))
unfoldable pub extremis : RuleNumbers → FormulaTree
extremis n = leaf Engaged and leaf Risk and leaf (Close n.close)

-- In risk for the waiting time, in which the other vessel did not act: (age(tw) & H[0,tw] (engaged & risk &
-- !other_apparent))
unfoldable pub waits : ℕ → RuleNumbers → FormulaTree
waits tick n =
    leaf (Age n.tw) and span H 0 (n.tw / tick) (leaf Engaged and leaf Risk and negation (leaf OtherApparent))

-- The vessel that stands on is free to act: since she waited or was in extremis, at most `te` ago, she stayed engaged.
-- (engaged S[0,te] (waits | extremis))
unfoldable pub free : ℕ → RuleNumbers → FormulaTree
free tick n = link S 0 (n.te / tick) (leaf Engaged) (waits tick n or extremis n)

-- Engaged in an encounter of this kind, the vessels pass at this many metres: engaged & kind -> clear(metres)
abbrev pub passes_clear : FormulaTree → ℕ → FormulaTree
passes_clear kind metres = leaf Engaged and kind implies leaf (Clear metres)

-- engaged -> clear(metres), or, for a distance per kind of encounter, four such parts
abbrev pub passes_safely : Safe → FormulaTree
passes_safely (One metres) = leaf Engaged implies leaf (Clear metres)
passes_safely (PerKind head_on overtaking crossing other) =
    passes_clear (leaf HeadOn) head_on
    and passes_clear (leaf Overtaking or leaf Overtaken) overtaking
    and passes_clear (leaf CrossingGives or leaf CrossingStands) crossing
    and passes_clear (leaf Passing or leaf Unclassified) other

-- Rule 8(b). An alteration of course or speed is large enough to be readily apparent to the other vessel.
-- alters -> F[0,t8] (apparent | !engaged)
abbrev pub r8b : ℕ → RuleNumbers → FormulaTree
r8b tick n = leaf Alters implies soon tick n.t8 (leaf Apparent)

-- Rule 8(d). Action to avoid collision results in passing at a safe distance.
-- engaged -> clear(safe)
abbrev pub r8d : RuleNumbers → FormulaTree
r8d n = passes_safely n.safe

-- Rule 13. An overtaking vessel keeps out of the way of the vessel being overtaken.
-- engaged & overtaking -> clear(overtake)
abbrev pub r13 : RuleNumbers → FormulaTree
r13 n = passes_clear (leaf Overtaking) n.overtake

-- Rule 14(a). Vessels meeting head-on each alter course to starboard.
-- begin & head_on [& both_power] -> F[0,ta] (to_starboard | !engaged)
abbrev pub r14a : Ranking → ℕ → RuleNumbers → FormulaTree
r14a ranks tick n = between_power ranks (leaf Begin and leaf HeadOn) implies soon tick n.ta (leaf ToStarboard)

-- Rule 14(a). No vessel that meets another head-on alters course to port.
-- engaged & head_on [& both_power] -> !to_port
abbrev pub r14b : Ranking → FormulaTree
r14b ranks = between_power ranks (leaf Engaged and leaf HeadOn) implies negation (leaf ToPort)

-- Rule 14(a). Vessels meeting head-on each pass on the port side of the other.
-- engaged & head_on [& both_power] & opening -> other_on_port
abbrev pub r14p : Ranking → FormulaTree
r14p ranks = between_power ranks (leaf Engaged and leaf HeadOn) and leaf Opening implies leaf OtherOnPort

-- Rule 15. In a crossing, the vessel which has the other on her own starboard side avoids crossing ahead of her.
-- engaged & crossing_gives [& both_power] -> !ahead
abbrev pub r15 : Ranking → FormulaTree
r15 ranks = between_power ranks (leaf Engaged and leaf CrossingGives) implies negation (leaf Ahead)

-- Rule 16. A vessel that is to keep out of the way takes early and substantial action.
-- begin & keeps_out -> F[0,ta] (apparent | !engaged)
abbrev pub r16 : Ranking → ℕ → RuleNumbers → FormulaTree
r16 ranks tick n = leaf Begin and keeps_out ranks implies soon tick n.ta (leaf Apparent)

-- Rule 17(a). The vessel that is to stand on keeps her course and speed until she is free to act.
-- engaged & stands_on & !free -> !alters
abbrev pub r17a : Ranking → ℕ → RuleNumbers → FormulaTree
r17a ranks tick n = leaf Engaged and stands_on ranks and negation (free tick n) implies negation (leaf Alters)

-- Rule 17(b). In extremis the vessel that is to stand on takes such action as will best aid to avoid collision.
-- stands_on & extremis -> F[0,tl] (apparent | !engaged)
abbrev pub r17b : Ranking → ℕ → RuleNumbers → FormulaTree
r17b ranks tick n = stands_on ranks and extremis n implies soon tick n.tl (leaf Apparent)

-- Rule 17(c). In a crossing, the vessel that is to stand on, free to act and not in extremis, does not alter course to port.
-- engaged & crossing_stands [& both_power] & free & !extremis -> !to_port
abbrev pub r17c : Ranking → ℕ → RuleNumbers → FormulaTree
r17c ranks tick n =
    between_power ranks (leaf Engaged and leaf CrossingStands) and free tick n and negation (extremis n) implies negation (leaf ToPort)

-- the safe distance in an encounter of a kind without its own distance
abbrev pub other_metres : Safe → ℕ
other_metres (One metres) = metres
other_metres (PerKind head_on overtaking crossing other) = other

-- Rule 18. A vessel keeps out of the way of vessels that are less able to manoeuvre. engaged & rank_gives ->
-- clear(safe)
abbrev pub r18 : RuleNumbers → FormulaTree
r18 n = passes_clear (leaf RankGives) (other_metres n.safe)
