-- The parser reads every formula.
use Rattle.std.proofs.Common.{◌≡◌, ℕ, List, [], ◌∷◌, ◌++◌, refl, sym, ◌∙◌, ap, Option, Some, None}
use Rattle.std.proofs.lemmas.List.{append-nil}
use Rattle.mtl_formulas.specs.declared.formula.PairKind.TheVariants.{And, Or, Implies}
use Rattle.mtl_language.specs.declared.tokens.Measure.{Measure}
use Rattle.mtl_language.specs.declared.tokens.Token.{Token}
use Rattle.mtl_language.specs.declared.tokens.Token.TheVariants as tokens
use Rattle.mtl_language.specs.declared.postfix.PostfixItem.{PostfixItem}
use Rattle.mtl_language.specs.declared.postfix.PostfixItem.TheVariants as postfix
use Rattle.mtl_language.specs.declared.postfix.Bounded.TheVariants as bounded
use Rattle.mtl_language.specs.declared.postfix.Bounded.{Bounded}
use Rattle.mtl_language.specs.declared.postfix.Expected.{Expected}
use Rattle.mtl_language.specs.declared.postfix.Expected.TheVariants as expected
use Rattle.mtl_language.specs.FormulaTokens.{measured}
use Rattle.mtl_formulas.specs.FormulaTree.{FormulaTree}
use Rattle.mtl_language.specs.FormulaGrammar.{Category, unary, middle, conjunction, disjunction, formula, bounds, Phrase, plain, numbered, negated, over, grouped, alone, linked, one_conjunct, conjoined, one_disjunct, disjoined, unconditional, conditional, IsFormula}
use Rattle.mtl_language.specs.Inner.Postfix.{After, postfix_of, bounded_item, formula_and, replacement, left_out, written_before, taken, left_with, all_left_out, at_start}
use Rattle.mtl_language.proofs.ParserLoops.{left_with-none, left_with-twice}

abbrev pub run_on : Option After → (List Expected → Option (List PostfixItem)) → Option (List PostfixItem)
run_on None rest = None
run_on (Some a) rest = left_with (Some a.1) (rest a.0)

-- the postfix form for tokens without their indices
abbrev pub run : List Expected → List Token → Option (List PostfixItem)
run σ [] = all_left_out σ
run σ (t ∷ ts) = run_on (taken t σ) (λ next. run next ts)

-- A thing expected does not take the token that follows.
abbrev pub Passes : Expected → List Token → Type 0
Passes e [] = Unit {0}
Passes e (t ∷ ts) = replacement e t ≡ None

run-take : (e : Expected) (t : Token) (new σ : List Expected) (ts : List Token) → replacement e t ≡ Some new → run (e ∷ σ) (t ∷ ts) ≡ run (new ++ σ) ts
run-take e t new σ ts h = rw h (sym (left_with-none (run (new ++ σ) ts)))

run_on-written : (w : List PostfixItem) (o : Option After) (rest : List Expected → Option (List PostfixItem)) → run_on (written_before w o) rest ≡ left_with (Some w) (run_on o rest)
run_on-written w None rest = refl
run_on-written w (Some a) rest = sym (left_with-twice w a.1 (rest a.0))

run-skip : (e : Expected) (w : List PostfixItem) (σ : List Expected) (ts : List Token) → left_out e ≡ Some w → Passes e ts → run (e ∷ σ) ts ≡ left_with (Some w) (run σ ts)
run-skip e w σ [] h p = rw h refl
run-skip e w σ (t ∷ ts) h p = rw (p, h) (run_on-written w (taken t σ) (λ next. run next ts))

-- the same, if nothing is written
run-pass : (e : Expected) (σ : List Expected) (ts : List Token) → left_out e ≡ Some [] → Passes e ts → run (e ∷ σ) ts ≡ run σ ts
run-pass e σ ts h p = run-skip e [] σ ts h p ∙ sym (left_with-none (run σ ts))

passes-write : (w : PostfixItem) (ts : List Token) → Passes (expected.Write w) ts
passes-write w [] = tt
passes-write w (t ∷ ts) = refl

run-write : (w : PostfixItem) (σ : List Expected) (ts : List Token) → run (expected.Write w ∷ σ) ts ≡ left_with (Some (w ∷ [])) (run σ ts)
run-write w σ ts = run-skip (expected.Write w) (w ∷ []) σ ts refl (passes-write w ts)

-- what the parser makes of a phrase
abbrev Reads : Category → List Token → FormulaTree → List Token → Type 0
Reads unary ts t after = (σ : List Expected) → run (expected.Operand ∷ σ) ts ≡ left_with (Some (postfix_of t)) (run σ after)
Reads middle ts t after = (σ : List Expected) → Passes expected.LinkRest after →
    run (expected.Operand ∷ expected.LinkRest ∷ σ) ts ≡ left_with (Some (postfix_of t)) (run σ after)
Reads conjunction ts t after = (σ : List Expected) → Passes expected.LinkRest after →
    run (expected.Operand ∷ expected.LinkRest ∷ expected.AndRest ∷ σ) ts ≡ left_with (Some (postfix_of t)) (run (expected.AndRest ∷ σ) after)
Reads disjunction ts t after = (σ : List Expected) → Passes expected.LinkRest after → Passes expected.AndRest after →
    run (expected.Operand ∷ expected.LinkRest ∷ expected.AndRest ∷ expected.OrRest ∷ σ) ts ≡ left_with (Some (postfix_of t)) (run (expected.OrRest ∷ σ) after)
Reads formula ts t after = (σ : List Expected) → Passes expected.LinkRest after → Passes expected.AndRest after → Passes expected.OrRest after → Passes expected.ImpliesRest after →
    run (formula_and σ) ts ≡ left_with (Some (postfix_of t)) (run σ after)

run-bounds : (op : Bounded) (l u : ℕ) (σ : List Expected) (ts : List Token) →
    run (expected.OpenBounds op ∷ σ) (bounds l u ts) ≡ run (expected.Operand ∷ expected.Write (bounded_item op l u) ∷ σ) ts
run-bounds op l u σ ts =
    run-take (expected.OpenBounds op) tokens.OpenBounds (expected.Lower op ∷ []) σ (tokens.Number l ∷ tokens.Comma ∷ tokens.Number u ∷ tokens.ShutBounds ∷ ts) refl
    ∙ (run-take (expected.Lower op) (tokens.Number l) (expected.Comma op l ∷ []) σ (tokens.Comma ∷ tokens.Number u ∷ tokens.ShutBounds ∷ ts) refl
    ∙ (run-take (expected.Comma op l) tokens.Comma (expected.Upper op l ∷ []) σ (tokens.Number u ∷ tokens.ShutBounds ∷ ts) refl
    ∙ (run-take (expected.Upper op l) (tokens.Number u) (expected.ShutBounds op l u ∷ []) σ (tokens.ShutBounds ∷ ts) refl
    ∙ run-take (expected.ShutBounds op l u) tokens.ShutBounds (expected.Operand ∷ expected.Write (bounded_item op l u) ∷ []) σ ts refl)))

run-number : (m : Measure) (n : ℕ) (σ : List Expected) (ts : List Token) →
    run (expected.Operand ∷ σ) (tokens.Measure m ∷ tokens.Open ∷ tokens.Number n ∷ tokens.Shut ∷ ts) ≡ left_with (Some (postfix.Leaf (measured m n) ∷ [])) (run σ ts)
run-number m n σ ts =
    run-take expected.Operand (tokens.Measure m) (expected.OpenNumber m ∷ []) σ (tokens.Open ∷ tokens.Number n ∷ tokens.Shut ∷ ts) refl
    ∙ (run-take (expected.OpenNumber m) tokens.Open (expected.Number m ∷ []) σ (tokens.Number n ∷ tokens.Shut ∷ ts) refl
    ∙ (run-take (expected.Number m) (tokens.Number n) (expected.ShutNumber (measured m n) ∷ []) σ (tokens.Shut ∷ ts) refl
    ∙ (run-take (expected.ShutNumber (measured m n)) tokens.Shut (expected.Write (postfix.Leaf (measured m n)) ∷ []) σ ts refl
    ∙ run-write (postfix.Leaf (measured m n)) σ ts)))

-- an operand that was read, then an item, and then the rest
then-write : (r : Option (List PostfixItem)) (c : List PostfixItem) (w : PostfixItem) (σ : List Expected) (after : List Token) →
    r ≡ left_with (Some c) (run (expected.Write w ∷ σ) after) → r ≡ left_with (Some (c ++ w ∷ [])) (run σ after)
then-write r c w σ after h =
    h ∙ (ap (left_with (Some c)) (run-write w σ after) ∙ left_with-twice c (w ∷ []) (run σ after))

-- two operands that were read, then an item, and then the rest
then-both : (r q : Option (List PostfixItem)) (c d : List PostfixItem) (w : PostfixItem) (σ : List Expected) (after : List Token) →
    r ≡ left_with (Some c) q → q ≡ left_with (Some d) (run (expected.Write w ∷ σ) after) → r ≡ left_with (Some (c ++ (d ++ w ∷ []))) (run σ after)
then-both r q c d w σ after h k =
    h ∙ (ap (left_with (Some c)) (then-write q d w σ after k) ∙ left_with-twice c (d ++ w ∷ []) (run σ after))

pub reads : {c : Category} {ts : List Token} {t : FormulaTree} {after : List Token} → Phrase c ts t after → Reads c ts t after
reads (plain {a} {after}) = λ σ.
    run-take expected.Operand (tokens.Atom a) (expected.Write (postfix.Leaf a) ∷ []) σ after refl ∙ run-write (postfix.Leaf a) σ after
reads (numbered {m} {n} {after}) = λ σ. run-number m n σ after
reads (negated {ts} {after} {t} p) = λ σ.
    then-write (run (expected.Operand ∷ σ) (tokens.Not ∷ ts)) (postfix_of t) postfix.Not σ after
    (run-take expected.Operand tokens.Not (expected.Operand ∷ expected.Write postfix.Not ∷ []) σ ts refl ∙ reads p (expected.Write postfix.Not ∷ σ))
reads (over {k} {l} {u} {ts} {after} {t} p) = λ σ.
    then-write (run (expected.Operand ∷ σ) (tokens.Span k ∷ bounds l u ts)) (postfix_of t) (postfix.Span k l u) σ after
    (run-take expected.Operand (tokens.Span k) (expected.OpenBounds (bounded.Span k) ∷ []) σ (bounds l u ts) refl
    ∙ (run-bounds (bounded.Span k) l u σ ts ∙ reads p (expected.Write (postfix.Span k l u) ∷ σ)))
reads (grouped {ts} {after} {t} p) = λ σ.
    run-take expected.Operand tokens.Open (formula_and (expected.Shut ∷ [])) σ ts refl
    ∙ (reads p (expected.Shut ∷ σ) refl refl refl refl
    ∙ ap (left_with (Some (postfix_of t))) (run-take expected.Shut tokens.Shut [] σ after refl))
reads (alone {ts} {after} {t} p) = λ σ no_link.
    reads p (expected.LinkRest ∷ σ) ∙ ap (left_with (Some (postfix_of t))) (run-pass expected.LinkRest σ after refl no_link)
reads (linked {k} {l} {u} {ts} {us} {after} {s} {t} p q) = λ σ no_link.
    then-both (run (expected.Operand ∷ expected.LinkRest ∷ σ) ts) (run (expected.LinkRest ∷ σ) (tokens.Link k ∷ bounds l u us)) (postfix_of s) (postfix_of t) (postfix.Link k l u) σ after
    (reads p (expected.LinkRest ∷ σ))
    (run-take expected.LinkRest (tokens.Link k) (expected.OpenBounds (bounded.Link k) ∷ []) σ (bounds l u us) refl
    ∙ (run-bounds (bounded.Link k) l u σ us ∙ reads q (expected.Write (postfix.Link k l u) ∷ σ)))
reads (one_conjunct p) = λ σ no_link. reads p (expected.AndRest ∷ σ) no_link
reads (conjoined {ts} {us} {after} {s} {t} p q) = λ σ no_link.
    then-both (run (expected.Operand ∷ expected.LinkRest ∷ expected.AndRest ∷ σ) ts) (run (expected.AndRest ∷ σ) (tokens.Pair And ∷ us)) (postfix_of s) (postfix_of t) (postfix.Pair And) (expected.AndRest ∷ σ) after
    (reads p σ refl)
    (run-take expected.AndRest (tokens.Pair And) (expected.Operand ∷ expected.LinkRest ∷ expected.Write (postfix.Pair And) ∷ expected.AndRest ∷ []) σ us refl
    ∙ reads q (expected.Write (postfix.Pair And) ∷ expected.AndRest ∷ σ) no_link)
reads (one_disjunct {ts} {after} {t} p) = λ σ no_link no_and.
    reads p (expected.OrRest ∷ σ) no_link ∙ ap (left_with (Some (postfix_of t))) (run-pass expected.AndRest (expected.OrRest ∷ σ) after refl no_and)
reads (disjoined {ts} {us} {after} {s} {t} p q) = λ σ no_link no_and.
    then-both (run (expected.Operand ∷ expected.LinkRest ∷ expected.AndRest ∷ expected.OrRest ∷ σ) ts) (run (expected.OrRest ∷ σ) (tokens.Pair Or ∷ us)) (postfix_of s) (postfix_of t) (postfix.Pair Or) (expected.OrRest ∷ σ) after
    (reads p σ refl refl)
    (run-take expected.OrRest (tokens.Pair Or) (expected.Operand ∷ expected.LinkRest ∷ expected.AndRest ∷ expected.Write (postfix.Pair Or) ∷ expected.OrRest ∷ []) σ us refl
    ∙ (reads q (expected.Write (postfix.Pair Or) ∷ expected.OrRest ∷ σ) no_link
    ∙ ap (left_with (Some (postfix_of t))) (run-pass expected.AndRest (expected.Write (postfix.Pair Or) ∷ expected.OrRest ∷ σ) after refl no_and)))
reads (unconditional {ts} {after} {t} p) = λ σ no_link no_and no_or no_implies.
    reads p (expected.ImpliesRest ∷ σ) no_link no_and
    ∙ ap (left_with (Some (postfix_of t))) (run-pass expected.OrRest (expected.ImpliesRest ∷ σ) after refl no_or ∙ run-pass expected.ImpliesRest σ after refl no_implies)
reads (conditional {ts} {us} {after} {s} {t} p q) = λ σ no_link no_and no_or no_implies.
    then-both (run (formula_and σ) ts) (run (expected.OrRest ∷ expected.ImpliesRest ∷ σ) (tokens.Pair Implies ∷ us)) (postfix_of s) (postfix_of t) (postfix.Pair Implies) σ after
    (reads p (expected.ImpliesRest ∷ σ) refl refl)
    (run-pass expected.OrRest (expected.ImpliesRest ∷ σ) (tokens.Pair Implies ∷ us) refl refl
    ∙ (run-take expected.ImpliesRest (tokens.Pair Implies) (formula_and (expected.Write (postfix.Pair Implies) ∷ [])) σ us refl
    ∙ reads q (expected.Write (postfix.Pair Implies) ∷ σ) no_link no_and no_or no_implies))

-- The postfix form of a formula is that of its tree.
pub run-formula : (ts : List Token) (t : FormulaTree) → IsFormula ts t → run at_start ts ≡ Some (postfix_of t)
run-formula ts t p = reads p [] tt tt tt tt ∙ ap Some (append-nil (postfix_of t))
