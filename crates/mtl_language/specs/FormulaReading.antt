-- What a text means at a tick of this many seconds: a tree, or one fault.
use Rattle.std.specs.Prelude.{ℕ, ◌≡◌, ◌<◌, ◌≤◌, ◌/◌, ◌%◌, Bool, false, ◌==◌, not, ◌||◌, nat_lt, if◌then◌else◌, List, [], ◌∷◌, ◌++◌, length, ◌⊎◌, Option, Some, None, Result, Ok, Err}
use Rattle.mtl_formulas.specs.declared.formula.Formula.{Formula}
use Rattle.mtl_language.specs.declared.parsing.ParseFault.{ParseFault}
use Rattle.mtl_language.specs.declared.parsing.ParseFault.TheVariants as faults
use Rattle.mtl_language.specs.declared.tokens.Measure.TheVariants as measures
use Rattle.mtl_language.specs.declared.tokens.Token.{Token}
use Rattle.mtl_language.specs.declared.tokens.Token.TheVariants as tokens
use Rattle.mtl_language.specs.declared.tokens.IndexedToken.{IndexedToken}
use Rattle.mtl_formulas.specs.FormulaTree.{FormulaTree, leaf, negation, pair, span, link, tree_of}
use Rattle.mtl_formulas.specs.FormulaMeasures.{depth_of, node_count, reach_of}
use Rattle.mtl_language.specs.FormulaTokens.{tokens_of, kinds}
use Rattle.mtl_language.specs.FormulaGrammar.{IsFormula, BeginsFormula}

-- Seconds are refused above 7200 and if they are no multiple of the tick.
abbrev pub is_refused_time : ℕ → ℕ → Bool
is_refused_time tick seconds = nat_lt 7200 seconds || not (seconds % tick == 0)

-- Whether a number is refused, by the tokens before it, the nearest first: it is a lower bound after [, an upper bound after a
-- comma, and refused there if it is less than the lower one; in parentheses it is in seconds after `age`, otherwise in metres.
abbrev pub is_refused : ℕ → List Token → ℕ → Bool
is_refused tick (tokens.OpenBounds ∷ before) n = is_refused_time tick n
is_refused tick (tokens.Comma ∷ tokens.Number l ∷ before) n = is_refused_time tick n || nat_lt n l
is_refused tick (tokens.Open ∷ tokens.Measure measures.Age ∷ before) n = is_refused_time tick n
is_refused tick (tokens.Open ∷ tokens.Measure measures.Clear ∷ before) n = nat_lt 100000 n
is_refused tick (tokens.Open ∷ tokens.Measure measures.Close ∷ before) n = nat_lt 100000 n
is_refused tick _ n = false

abbrev pub is_refused_token : ℕ → List Token → Token → Bool
is_refused_token tick before (tokens.Number n) = is_refused tick before n
is_refused_token tick before _ = false

-- the indices of the refused numbers, in the order of the text
abbrev pub refused_indices : ℕ → List Token → List IndexedToken → List ℕ
refused_indices tick before [] = []
refused_indices tick before (p ∷ ps) =
    (if is_refused_token tick before p.token then p.index ∷ [] else []) ++ refused_indices tick (p.token ∷ before) ps

-- the tree with its bounds in positions
abbrev pub in_positions : ℕ → FormulaTree → FormulaTree
in_positions tick (leaf a) = leaf a
in_positions tick (negation t) = negation (in_positions tick t)
in_positions tick (pair kind s t) = pair kind (in_positions tick s) (in_positions tick t)
in_positions tick (span kind l u t) = span kind (l / tick) (u / tick) (in_positions tick t)
in_positions tick (link kind l u s t) = link kind (l / tick) (u / tick) (in_positions tick s) (in_positions tick t)

-- The text is a formula without a refused number, and this is its tree, with the bounds in positions.
pub record ReadsAs (text : List ℕ) (tick : ℕ) (t : FormulaTree) : Type 0 where
  pub written : FormulaTree
  pub formula : IsFormula (kinds (tokens_of text)) written
  pub numbers : refused_indices tick [] (tokens_of text) ≡ []
  pub positions : t ≡ in_positions tick written

-- A formula begins with the tokens before this index, and none with them and the token at it.
pub record IsFirstWrong (ps : List IndexedToken) (index : ℕ) : Type 0 where
  pub before : List IndexedToken
  pub wrong : IndexedToken
  pub after : List IndexedToken
  pub parts : ps ≡ before ++ wrong ∷ after
  pub right : BeginsFormula (kinds before)
  pub none : BeginsFormula (kinds before ++ wrong.token ∷ []) → ⊥
  pub at : index ≡ wrong.index

-- A formula begins with the tokens, but they are none.
pub record IsUnfinished (ps : List IndexedToken) : Type 0 where
  pub right : BeginsFormula (kinds ps)
  pub none : (t : FormulaTree) → IsFormula (kinds ps) t → ⊥

-- The text is no formula: the index of the first wrong token, or the text's length if none is wrong.
abbrev pub IsSyntaxFault : List ℕ → ℕ → Type 0
IsSyntaxFault text index = IsFirstWrong (tokens_of text) index ⊎ IsUnfinished (tokens_of text) × (index ≡ length text)

-- The text is a formula: the index of the first refused number.
pub record IsNumberFault (text : List ℕ) (tick index : ℕ) : Type 0 where
  pub written : FormulaTree
  pub formula : IsFormula (kinds (tokens_of text)) written
  pub more : List ℕ
  pub first : refused_indices tick [] (tokens_of text) ≡ index ∷ more

abbrev pub IsWithinLimits : FormulaTree → Type 0
IsWithinLimits t = (depth_of t ≤ 64) × (node_count t ≤ 256) × (reach_of t ≤ 7200)

abbrev pub IsTooLarge : FormulaTree → Type 0
IsTooLarge t = (64 < depth_of t) ⊎ ((256 < node_count t) ⊎ (7200 < reach_of t))

pub data Meaning : Type 0 where
  tree : FormulaTree → Meaning
  syntax_fault : ℕ → Meaning
  number_fault : ℕ → Meaning
  size_fault : Meaning

-- what the text means at a tick
abbrev pub IsMeaning : List ℕ → ℕ → Meaning → Type 0
IsMeaning text tick (tree t) = ReadsAs text tick t × IsWithinLimits t
IsMeaning text tick (syntax_fault index) = IsSyntaxFault text index
IsMeaning text tick (number_fault index) = IsNumberFault text tick index
IsMeaning text tick size_fault = (t : FormulaTree) × ReadsAs text tick t × IsTooLarge t

-- The text has a meaning, and no other: the tree of its formula, or one fault.
pub record HasOneMeaning (text : List ℕ) (tick : ℕ) : Type 0 where
  pub meaning : Meaning
  pub right : IsMeaning text tick meaning
  pub only : (other : Meaning) → IsMeaning text tick other → other ≡ meaning

-- the meaning that was answered; none if memory ran out
abbrev pub answered : Result Formula ParseFault → Option Meaning
answered (Ok f) = Some (tree (tree_of f))
answered (Err (faults.Syntax index)) = Some (syntax_fault index)
answered (Err (faults.Number index)) = Some (number_fault index)
answered (Err faults.Size) = Some size_fault
answered (Err faults.Memory) = None
