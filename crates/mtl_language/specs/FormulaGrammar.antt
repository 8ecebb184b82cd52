-- The grammar of formulas, as a relation between tokens and trees:
--
--     formula     := disjunction [ "->" formula ]
--     disjunction := conjunction { "|" conjunction }
--     conjunction := middle { "&" middle }
--     middle      := unary [ ( "U" | "S" ) bounds unary ]
--     unary       := "!" unary | ( "F" | "G" | "O" | "H" ) bounds unary | "(" formula ")" | atom
--     bounds      := "[" number "," number "]"
--
-- | and & group to the left, -> to the right. The trees have their bounds as written, in seconds.
use Rattle.std.specs.Prelude.{ℕ, List, [], ◌∷◌, ◌++◌}
use Rattle.mtl_formulas.specs.declared.atom.Atom.{Atom}
use Rattle.mtl_formulas.specs.declared.formula.PairKind.TheVariants.{And, Or, Implies}
use Rattle.mtl_formulas.specs.declared.formula.SpanKind.{SpanKind}
use Rattle.mtl_formulas.specs.declared.formula.LinkKind.{LinkKind}
use Rattle.mtl_language.specs.declared.tokens.Measure.{Measure}
use Rattle.mtl_language.specs.declared.tokens.Token.{Token}
use Rattle.mtl_language.specs.declared.tokens.Token.TheVariants as tokens
use Rattle.mtl_language.specs.FormulaTokens.{measured}
use Rattle.mtl_formulas.specs.FormulaTree.{FormulaTree, leaf, negation, pair, span, link}

pub data Category : Type 0 where
  unary : Category
  middle : Category
  conjunction : Category
  disjunction : Category
  formula : Category

-- the tokens of an interval, and what follows them
abbrev pub bounds : ℕ → ℕ → List Token → List Token
bounds l u after = tokens.OpenBounds ∷ tokens.Number l ∷ tokens.Comma ∷ tokens.Number u ∷ tokens.ShutBounds ∷ after

-- Phrase c ts t after: the tokens ts begin with a phrase of the category c, whose tree is t; the tokens after follow it.
pub data Phrase : Category → List Token → FormulaTree → List Token → Type 0 where
  plain : {a : Atom} {after : List Token} → Phrase unary (tokens.Atom a ∷ after) (leaf a) after
  numbered : {m : Measure} {n : ℕ} {after : List Token} →
      Phrase unary (tokens.Measure m ∷ tokens.Open ∷ tokens.Number n ∷ tokens.Shut ∷ after) (leaf (measured m n)) after
  negated : {ts after : List Token} {t : FormulaTree} → Phrase unary ts t after → Phrase unary (tokens.Not ∷ ts) (negation t) after
  over : {k : SpanKind} {l u : ℕ} {ts after : List Token} {t : FormulaTree} →
      Phrase unary ts t after → Phrase unary (tokens.Span k ∷ bounds l u ts) (span k l u t) after
  grouped : {ts after : List Token} {t : FormulaTree} → Phrase formula ts t (tokens.Shut ∷ after) → Phrase unary (tokens.Open ∷ ts) t after
  alone : {ts after : List Token} {t : FormulaTree} → Phrase unary ts t after → Phrase middle ts t after
  linked : {k : LinkKind} {l u : ℕ} {ts us after : List Token} {s t : FormulaTree} →
      Phrase unary ts s (tokens.Link k ∷ bounds l u us) → Phrase unary us t after → Phrase middle ts (link k l u s t) after
  one_conjunct : {ts after : List Token} {t : FormulaTree} → Phrase middle ts t after → Phrase conjunction ts t after
  conjoined : {ts us after : List Token} {s t : FormulaTree} →
      Phrase conjunction ts s (tokens.Pair And ∷ us) → Phrase middle us t after → Phrase conjunction ts (pair And s t) after
  one_disjunct : {ts after : List Token} {t : FormulaTree} → Phrase conjunction ts t after → Phrase disjunction ts t after
  disjoined : {ts us after : List Token} {s t : FormulaTree} →
      Phrase disjunction ts s (tokens.Pair Or ∷ us) → Phrase conjunction us t after → Phrase disjunction ts (pair Or s t) after
  unconditional : {ts after : List Token} {t : FormulaTree} → Phrase disjunction ts t after → Phrase formula ts t after
  conditional : {ts us after : List Token} {s t : FormulaTree} →
      Phrase disjunction ts s (tokens.Pair Implies ∷ us) → Phrase formula us t after → Phrase formula ts (pair Implies s t) after

-- The tokens are a formula with this tree.
abbrev pub IsFormula : List Token → FormulaTree → Type 0
IsFormula ts t = Phrase formula ts t []

-- Some formula begins with these tokens.
abbrev pub BeginsFormula : List Token → Type 0
BeginsFormula ts = (more : List Token) × (t : FormulaTree) × IsFormula (ts ++ more) t
