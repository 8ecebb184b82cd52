-- How the parser reads: it keeps what it expects next, innermost first, and writes the postfix form of the tree, an
-- operator's after those of its operands. The grammar does not speak of this.
use Rattle.std.specs.Prelude.{ℕ, List, [], ◌∷◌, ◌++◌, Option, Some, None, Result, Ok, Err, Bool, true, false, ◌≡◌, reverse}
use Rattle.std.specs.Global.{Vec}
use Rattle.mtl_language.specs.declared.parsing.ParseFault.{ParseFault}
use Rattle.mtl_language.specs.declared.parsing.ParseFault.TheVariants as faults
use Rattle.mtl_formulas.specs.declared.formula.PairKind.TheVariants.{And, Or, Implies}
use Rattle.mtl_language.specs.declared.tokens.Token.{Token}
use Rattle.mtl_language.specs.declared.tokens.Token.TheVariants as tokens
use Rattle.mtl_language.specs.declared.tokens.IndexedToken.{IndexedToken}
use Rattle.mtl_language.specs.declared.postfix.PostfixItem.{PostfixItem}
use Rattle.mtl_language.specs.declared.postfix.PostfixItem.TheVariants as postfix
use Rattle.mtl_language.specs.declared.postfix.Bounded.{Bounded}
use Rattle.mtl_language.specs.declared.postfix.Bounded.TheVariants as bounded
use Rattle.mtl_language.specs.declared.postfix.Expected.{Expected}
use Rattle.mtl_language.specs.declared.postfix.Expected.TheVariants as expected
use Rattle.mtl_language.specs.FormulaTokens.{measured}
use Rattle.mtl_formulas.specs.FormulaTree.{FormulaTree, leaf, negation, pair, span, link}

-- the postfix form of a tree: an operator after its operands
abbrev pub postfix_of : FormulaTree → List PostfixItem
postfix_of (leaf a) = postfix.Leaf a ∷ []
postfix_of (negation t) = postfix_of t ++ postfix.Not ∷ []
postfix_of (pair kind s t) = postfix_of s ++ (postfix_of t ++ postfix.Pair kind ∷ [])
postfix_of (span kind l u t) = postfix_of t ++ postfix.Span kind l u ∷ []
postfix_of (link kind l u s t) = postfix_of s ++ (postfix_of t ++ postfix.Link kind l u ∷ [])

-- the item of an operator with bounds
abbrev pub bounded_item : Bounded → ℕ → ℕ → PostfixItem
bounded_item (bounded.Span kind) l u = postfix.Span kind l u
bounded_item (bounded.Link kind) l u = postfix.Link kind l u

-- what is expected where a formula is, and then σ
abbrev pub formula_and : List Expected → List Expected
formula_and σ = expected.Operand ∷ expected.LinkRest ∷ expected.AndRest ∷ expected.OrRest ∷ expected.ImpliesRest ∷ σ

-- what replaces a thing expected, once this token has come; None if the token does not begin it
abbrev pub replacement : Expected → Token → Option (List Expected)
replacement expected.Operand (tokens.Atom a) = Some (expected.Write (postfix.Leaf a) ∷ [])
replacement expected.Operand (tokens.Measure m) = Some (expected.OpenNumber m ∷ [])
replacement expected.Operand tokens.Not = Some (expected.Operand ∷ expected.Write postfix.Not ∷ [])
replacement expected.Operand (tokens.Span kind) = Some (expected.OpenBounds (bounded.Span kind) ∷ [])
replacement expected.Operand tokens.Open = Some (formula_and (expected.Shut ∷ []))
replacement expected.LinkRest (tokens.Link kind) = Some (expected.OpenBounds (bounded.Link kind) ∷ [])
replacement expected.AndRest (tokens.Pair And) = Some (expected.Operand ∷ expected.LinkRest ∷ expected.Write (postfix.Pair And) ∷ expected.AndRest ∷ [])
replacement expected.OrRest (tokens.Pair Or) = Some (expected.Operand ∷ expected.LinkRest ∷ expected.AndRest ∷ expected.Write (postfix.Pair Or) ∷ expected.OrRest ∷ [])
replacement expected.ImpliesRest (tokens.Pair Implies) = Some (formula_and (expected.Write (postfix.Pair Implies) ∷ []))
replacement expected.Shut tokens.Shut = Some []
replacement (expected.OpenBounds op) tokens.OpenBounds = Some (expected.Lower op ∷ [])
replacement (expected.Lower op) (tokens.Number l) = Some (expected.Comma op l ∷ [])
replacement (expected.Comma op l) tokens.Comma = Some (expected.Upper op l ∷ [])
replacement (expected.Upper op l) (tokens.Number u) = Some (expected.ShutBounds op l u ∷ [])
replacement (expected.ShutBounds op l u) tokens.ShutBounds = Some (expected.Operand ∷ expected.Write (bounded_item op l u) ∷ [])
replacement (expected.OpenNumber m) tokens.Open = Some (expected.Number m ∷ [])
replacement (expected.Number m) (tokens.Number n) = Some (expected.ShutNumber (measured m n) ∷ [])
replacement (expected.ShutNumber a) tokens.Shut = Some (expected.Write (postfix.Leaf a) ∷ [])
replacement _ _ = None

-- a part of an interval
abbrev pub IsOfBounds : Expected → Type 0
IsOfBounds (expected.OpenBounds op) = Unit {0}
IsOfBounds (expected.Lower op) = Unit {0}
IsOfBounds (expected.Comma op l) = Unit {0}
IsOfBounds (expected.Upper op l) = Unit {0}
IsOfBounds (expected.ShutBounds op l u) = Unit {0}
IsOfBounds _ = ⊥

-- a parenthesis, a part of a number in parentheses, or an item
abbrev pub IsOfNumber : Expected → Type 0
IsOfNumber expected.Shut = Unit {0}
IsOfNumber (expected.OpenNumber m) = Unit {0}
IsOfNumber (expected.Number m) = Unit {0}
IsOfNumber (expected.ShutNumber a) = Unit {0}
IsOfNumber (expected.Write item) = Unit {0}
IsOfNumber _ = ⊥

-- What is expected is kept with the next thing last. A thing that was taken off is put back as what replaces it.
abbrev pub Replaces : Bool → Option (List Expected) → List Expected → List Expected → Type 0
Replaces true (Some new) before after = after ≡ before ++ reverse new
Replaces false None before after = after ≡ before
Replaces _ _ before after = ⊥

-- what is written if a thing expected is left out; None if it may not be
abbrev pub left_out : Expected → Option (List PostfixItem)
left_out (expected.Write item) = Some (item ∷ [])
left_out expected.LinkRest = Some []
left_out expected.AndRest = Some []
left_out expected.OrRest = Some []
left_out expected.ImpliesRest = Some []
left_out _ = None

abbrev pub LeavesOut : Bool → Option (List PostfixItem) → List PostfixItem → List PostfixItem → Type 0
LeavesOut true (Some w) before after = after ≡ before ++ w
LeavesOut false None before after = Unit {0}
LeavesOut _ _ before after = ⊥

-- what is expected next, with what is written so far
abbrev pub After : Type 0
After = List Expected × List PostfixItem

abbrev pub written_before : List PostfixItem → Option After → Option After
written_before w None = None
written_before w (Some a) = Some (a.0, w ++ a.1)

abbrev pub taken_or_left : Option (List Expected) → Option (List PostfixItem) → List Expected → Option After → Option After
taken_or_left (Some new) w σ rest = Some (new ++ σ, [])
taken_or_left None (Some w) σ rest = written_before w rest
taken_or_left None None σ rest = None

-- After a token: things expected are left out until one takes it. None if the token is wrong.
abbrev pub taken : Token → List Expected → Option After
taken token [] = None
taken token (e ∷ σ) = taken_or_left (replacement e token) (left_out e) σ (taken token σ)

abbrev pub Takes : Bool → Option After → List Expected → List PostfixItem → List PostfixItem → Type 0
Takes true (Some a) stack before after = (reverse stack ≡ a.0) × (after ≡ before ++ a.1)
Takes false None stack before after = Unit {0}
Takes _ _ stack before after = ⊥

abbrev pub left_with : Option (List PostfixItem) → Option (List PostfixItem) → Option (List PostfixItem)
left_with None rest = None
left_with (Some w) None = None
left_with (Some w) (Some c) = Some (w ++ c)

-- what is written if all that is expected is left out; None if it may not be
abbrev pub all_left_out : List Expected → Option (List PostfixItem)
all_left_out [] = Some []
all_left_out (e ∷ σ) = left_with (left_out e) (all_left_out σ)

abbrev pub or_fault : ℕ → Option (List PostfixItem) → Result (List PostfixItem) ℕ
or_fault index None = Err index
or_fault index (Some c) = Ok c

abbrev pub read_before : List PostfixItem → Result (List PostfixItem) ℕ → Result (List PostfixItem) ℕ
read_before w (Ok c) = Ok (w ++ c)
read_before w (Err index) = Err index

abbrev pub read_on : ℕ → Option After → (List Expected → Result (List PostfixItem) ℕ) → Result (List PostfixItem) ℕ
read_on index None rest = Err index
read_on index (Some a) rest = read_before a.1 (rest a.0)

-- The postfix form for the tokens, or the index of the first wrong one; end if they do not end as they should.
abbrev pub read : ℕ → List Expected → List IndexedToken → Result (List PostfixItem) ℕ
read end σ [] = or_fault end (all_left_out σ)
read end σ (p ∷ ps) = read_on p.index (taken p.token σ) (λ next. read end next ps)

-- at the start a formula is expected
abbrev pub at_start : List Expected
at_start = formula_and []

-- What the parser answers, unless memory ran out.
abbrev pub Arranges : Result (Vec PostfixItem) ParseFault → Result (List PostfixItem) ℕ → Type 0
Arranges (Ok v) outcome = outcome ≡ Ok v.items
Arranges (Err faults.Memory) outcome = Unit {0}
Arranges (Err (faults.Syntax index)) outcome = outcome ≡ Err index
Arranges (Err _) outcome = ⊥
