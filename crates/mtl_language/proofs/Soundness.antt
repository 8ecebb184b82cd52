-- What the parser takes is in the grammar, and what it expects can always be completed.
use Rattle.std.proofs.Common.{◌≡◌, ℕ, List, [], ◌∷◌, ◌++◌, refl, sym, ◌∙◌, ap, append_assoc, Option, Some, None}
use Rattle.std.proofs.lemmas.List.{append-nil}
use Rattle.mtl_formulas.specs.declared.atom.Atom.{Atom}
use Rattle.mtl_formulas.specs.declared.atom.Atom.TheVariants.{Always}
use Rattle.mtl_formulas.specs.declared.formula.PairKind.TheVariants.{And, Or, Implies}
use Rattle.mtl_formulas.specs.declared.formula.SpanKind.{SpanKind}
use Rattle.mtl_formulas.specs.declared.formula.LinkKind.{LinkKind}
use Rattle.mtl_language.specs.declared.tokens.Measure.{Measure}
use Rattle.mtl_language.specs.declared.tokens.Token.{Token}
use Rattle.mtl_language.specs.declared.tokens.Token.TheVariants as tokens
use Rattle.mtl_language.specs.declared.postfix.PostfixItem.{PostfixItem}
use Rattle.mtl_language.specs.declared.postfix.PostfixItem.TheVariants as postfix
use Rattle.mtl_language.specs.declared.postfix.Bounded.{Bounded}
use Rattle.mtl_language.specs.declared.postfix.Bounded.TheVariants as bounded
use Rattle.mtl_language.specs.declared.postfix.Expected.{Expected}
use Rattle.mtl_language.specs.declared.postfix.Expected.TheVariants as expected
use Rattle.mtl_language.specs.FormulaTokens.{measured}
use Rattle.mtl_formulas.specs.FormulaTree.{FormulaTree, pair, link}
use Rattle.mtl_language.specs.FormulaGrammar.{unary, middle, conjunction, disjunction, formula, bounds, Phrase, plain, numbered, negated, over, grouped, alone, linked, one_conjunct, conjoined, one_disjunct, disjoined, unconditional, conditional, IsFormula}
use Rattle.mtl_language.specs.Inner.Postfix.{After, postfix_of, bounded_item, formula_and, replacement, left_out, taken_or_left, taken, left_with, all_left_out, at_start}

-- Stands e ts c after: the tokens ts begin with what is expected, and c is written for it; the tokens after follow it.
-- A rest stands if it continues with every phrase that ends where it begins.
pub data Stands : Expected → List Token → List PostfixItem → List Token → Type 0 where
  operand : {ts after : List Token} {t : FormulaTree} → Phrase unary ts t after → Stands expected.Operand ts (postfix_of t) after
  link_rest : {ts after : List Token} {c : List PostfixItem} →
      ((xs : List Token) (s : FormulaTree) → Phrase unary xs s ts → (t : FormulaTree) × Phrase middle xs t after × (postfix_of t ≡ postfix_of s ++ c)) →
      Stands expected.LinkRest ts c after
  and_rest : {ts after : List Token} {c : List PostfixItem} →
      ((xs : List Token) (s : FormulaTree) → Phrase conjunction xs s ts → (t : FormulaTree) × Phrase conjunction xs t after × (postfix_of t ≡ postfix_of s ++ c)) →
      Stands expected.AndRest ts c after
  or_rest : {ts after : List Token} {c : List PostfixItem} →
      ((xs : List Token) (s : FormulaTree) → Phrase disjunction xs s ts → (t : FormulaTree) × Phrase disjunction xs t after × (postfix_of t ≡ postfix_of s ++ c)) →
      Stands expected.OrRest ts c after
  implies_rest : {ts after : List Token} {c : List PostfixItem} →
      ((xs : List Token) (s : FormulaTree) → Phrase disjunction xs s ts → (t : FormulaTree) × Phrase formula xs t after × (postfix_of t ≡ postfix_of s ++ c)) →
      Stands expected.ImpliesRest ts c after
  shut : {after : List Token} → Stands expected.Shut (tokens.Shut ∷ after) [] after
  write : {w : PostfixItem} {after : List Token} → Stands (expected.Write w) after (w ∷ []) after
  open_bounds : {op : Bounded} {l u : ℕ} {ts after : List Token} {t : FormulaTree} → Phrase unary ts t after →
      Stands (expected.OpenBounds op) (bounds l u ts) (postfix_of t ++ bounded_item op l u ∷ []) after
  lower : {op : Bounded} {l u : ℕ} {ts after : List Token} {t : FormulaTree} → Phrase unary ts t after →
      Stands (expected.Lower op) (tokens.Number l ∷ tokens.Comma ∷ tokens.Number u ∷ tokens.ShutBounds ∷ ts) (postfix_of t ++ bounded_item op l u ∷ []) after
  comma : {op : Bounded} {l u : ℕ} {ts after : List Token} {t : FormulaTree} → Phrase unary ts t after →
      Stands (expected.Comma op l) (tokens.Comma ∷ tokens.Number u ∷ tokens.ShutBounds ∷ ts) (postfix_of t ++ bounded_item op l u ∷ []) after
  upper : {op : Bounded} {l u : ℕ} {ts after : List Token} {t : FormulaTree} → Phrase unary ts t after →
      Stands (expected.Upper op l) (tokens.Number u ∷ tokens.ShutBounds ∷ ts) (postfix_of t ++ bounded_item op l u ∷ []) after
  shut_bounds : {op : Bounded} {l u : ℕ} {ts after : List Token} {t : FormulaTree} → Phrase unary ts t after →
      Stands (expected.ShutBounds op l u) (tokens.ShutBounds ∷ ts) (postfix_of t ++ bounded_item op l u ∷ []) after
  open_number : {m : Measure} {n : ℕ} {after : List Token} →
      Stands (expected.OpenNumber m) (tokens.Open ∷ tokens.Number n ∷ tokens.Shut ∷ after) (postfix.Leaf (measured m n) ∷ []) after
  number : {m : Measure} {n : ℕ} {after : List Token} →
      Stands (expected.Number m) (tokens.Number n ∷ tokens.Shut ∷ after) (postfix.Leaf (measured m n) ∷ []) after
  shut_number : {a : Atom} {after : List Token} → Stands (expected.ShutNumber a) (tokens.Shut ∷ after) (postfix.Leaf a ∷ []) after

-- all that is expected, one after the other
pub data Gives : List Expected → List Token → List PostfixItem → List Token → Type 0 where
  nothing : {after : List Token} → Gives [] after [] after
  first : {e : Expected} {σ : List Expected} {ts mid after : List Token} {c d : List PostfixItem} →
      Stands e ts c mid → Gives σ mid d after → Gives (e ∷ σ) ts (c ++ d) after

-- where a formula is expected, one stands
record Formula (σ : List Expected) (ts : List Token) (c : List PostfixItem) (after : List Token) : Type 0 where
  tree : FormulaTree
  mid : List Token
  more : List PostfixItem
  phrase : Phrase formula ts tree mid
  rest : Gives σ mid more after
  same : c ≡ postfix_of tree ++ more

chain : (s s₁ s₂ s₃ s₄ c₁ c₂ c₃ c₄ d : List PostfixItem) → s₁ ≡ s ++ c₁ → s₂ ≡ s₁ ++ c₂ → s₃ ≡ s₂ ++ c₃ → s₄ ≡ s₃ ++ c₄ →
    s ++ (c₁ ++ (c₂ ++ (c₃ ++ (c₄ ++ d)))) ≡ s₄ ++ d
chain s s₁ s₂ s₃ s₄ c₁ c₂ c₃ c₄ d e₁ e₂ e₃ e₄ = rw (e₄, e₃, e₂, e₁) (simp append_assoc)

gives_formula : (σ : List Expected) (ts : List Token) (c : List PostfixItem) (after : List Token) → Gives (formula_and σ) ts c after → Formula σ ts c after
gives_formula σ ts c after (first (operand {t} p) (first (link_rest {c = c₁} f) (first (and_rest {c = c₂} g) (first (or_rest {c = c₃} h) (first {d = d} (implies_rest {c = c₄} k) rest))))) =
    let (t₁, p₁, e₁) = f ts t p in
    let (t₂, p₂, e₂) = g ts t₁ (one_conjunct p₁) in
    let (t₃, p₃, e₃) = h ts t₂ (one_disjunct p₂) in
    let (t₄, p₄, e₄) = k ts t₃ p₃ in
    record {
      tree = t₄;
      mid = _;
      more = d;
      phrase = p₄;
      rest = rest;
      same = chain (postfix_of t) (postfix_of t₁) (postfix_of t₂) (postfix_of t₃) (postfix_of t₄) c₁ c₂ c₃ c₄ d e₁ e₂ e₃ e₄;
    }

begins_not : (ts : List Token) (c : List PostfixItem) (after : List Token) → Gives (expected.Operand ∷ expected.Write postfix.Not ∷ []) ts c after → Stands expected.Operand (tokens.Not ∷ ts) c after
begins_not ts c after (first (operand p) (first write nothing)) = operand (negated p)

begins_span : (k : SpanKind) (ts : List Token) (c : List PostfixItem) (after : List Token) → Gives (expected.OpenBounds (bounded.Span k) ∷ []) ts c after → Stands expected.Operand (tokens.Span k ∷ ts) c after
begins_span k ts c after (first (open_bounds p) nothing) = rw append-nil (operand (over p))

begins_group : (ts : List Token) (c : List PostfixItem) (after : List Token) → Gives (formula_and (expected.Shut ∷ [])) ts c after → Stands expected.Operand (tokens.Open ∷ ts) c after
begins_group ts c after g = shuts (gives_formula (expected.Shut ∷ []) ts c after g)
  where
    shut_by : (t : FormulaTree) (mid : List Token) (more : List PostfixItem) → Phrase formula ts t mid → Gives (expected.Shut ∷ []) mid more after → Stands expected.Operand (tokens.Open ∷ ts) (postfix_of t ++ more) after
    shut_by t mid more p (first shut nothing) = rw append-nil (operand (grouped p))

    shuts : Formula (expected.Shut ∷ []) ts c after → Stands expected.Operand (tokens.Open ∷ ts) c after
    shuts h = rw h.same (shut_by h.tree h.mid h.more h.phrase h.rest)

begins_link : (k : LinkKind) (ts : List Token) (c : List PostfixItem) (after : List Token) → Gives (expected.OpenBounds (bounded.Link k) ∷ []) ts c after → Stands expected.LinkRest (tokens.Link k ∷ ts) c after
begins_link k ts c after (first (open_bounds {l = l} {u = u} {t = t} p) nothing) =
    rw append-nil (link_rest (λ xs s q. (link k l u s t, linked q p, refl)))

and_same : (s t t₁ t₂ c₁ c₂ : List PostfixItem) (w : PostfixItem) → t₁ ≡ t ++ c₁ → t₂ ≡ (s ++ (t₁ ++ w ∷ [])) ++ c₂ → t₂ ≡ s ++ (t ++ (c₁ ++ (w ∷ (c₂ ++ []))))
and_same s t t₁ t₂ c₁ c₂ w e₁ e₂ = rw (e₂, e₁) (simp (append_assoc, append-nil))

or_same : (s t t₁ t₂ t₃ c₁ c₂ c₃ : List PostfixItem) (w : PostfixItem) → t₁ ≡ t ++ c₁ → t₂ ≡ t₁ ++ c₂ → t₃ ≡ (s ++ (t₂ ++ w ∷ [])) ++ c₃ →
    t₃ ≡ s ++ (t ++ (c₁ ++ (c₂ ++ (w ∷ (c₃ ++ [])))))
or_same s t t₁ t₂ t₃ c₁ c₂ c₃ w e₁ e₂ e₃ = rw (e₃, e₂, e₁) (simp (append_assoc, append-nil))

begins_and : (ts : List Token) (c : List PostfixItem) (after : List Token) →
    Gives (expected.Operand ∷ expected.LinkRest ∷ expected.Write (postfix.Pair And) ∷ expected.AndRest ∷ []) ts c after → Stands expected.AndRest (tokens.Pair And ∷ ts) c after
begins_and ts c after (first (operand {t} p) (first (link_rest {c = c₁} f) (first write (first (and_rest {c = c₂} g) nothing)))) =
    and_rest (λ xs s q.
    let (t₁, p₁, e₁) = f ts t p in
    let (t₂, p₂, e₂) = g xs (pair And s t₁) (conjoined q p₁) in
    (t₂, p₂, and_same (postfix_of s) (postfix_of t) (postfix_of t₁) (postfix_of t₂) c₁ c₂ (postfix.Pair And) e₁ e₂))

begins_or : (ts : List Token) (c : List PostfixItem) (after : List Token) →
    Gives (expected.Operand ∷ expected.LinkRest ∷ expected.AndRest ∷ expected.Write (postfix.Pair Or) ∷ expected.OrRest ∷ []) ts c after → Stands expected.OrRest (tokens.Pair Or ∷ ts) c after
begins_or ts c after (first (operand {t} p) (first (link_rest {c = c₁} f) (first (and_rest {c = c₂} g) (first write (first (or_rest {c = c₃} h) nothing))))) =
    or_rest (λ xs s q.
    let (t₁, p₁, e₁) = f ts t p in
    let (t₂, p₂, e₂) = g ts t₁ (one_conjunct p₁) in
    let (t₃, p₃, e₃) = h xs (pair Or s t₂) (disjoined q p₂) in
    (t₃, p₃, or_same (postfix_of s) (postfix_of t) (postfix_of t₁) (postfix_of t₂) (postfix_of t₃) c₁ c₂ c₃ (postfix.Pair Or) e₁ e₂ e₃))

begins_implies : (ts : List Token) (c : List PostfixItem) (after : List Token) → Gives (formula_and (expected.Write (postfix.Pair Implies) ∷ [])) ts c after → Stands expected.ImpliesRest (tokens.Pair Implies ∷ ts) c after
begins_implies ts c after g = writes (gives_formula (expected.Write (postfix.Pair Implies) ∷ []) ts c after g)
  where
    write_by : (t : FormulaTree) (mid : List Token) (more : List PostfixItem) → Phrase formula ts t mid → Gives (expected.Write (postfix.Pair Implies) ∷ []) mid more after → Stands expected.ImpliesRest (tokens.Pair Implies ∷ ts) (postfix_of t ++ more) after
    write_by t mid more p (first write nothing) = implies_rest (λ xs s q. (pair Implies s t, conditional q p, refl))

    writes : Formula (expected.Write (postfix.Pair Implies) ∷ []) ts c after → Stands expected.ImpliesRest (tokens.Pair Implies ∷ ts) c after
    writes h = rw h.same (write_by h.tree h.mid h.more h.phrase h.rest)

begins_lower : (op : Bounded) (ts : List Token) (c : List PostfixItem) (after : List Token) → Gives (expected.Lower op ∷ []) ts c after → Stands (expected.OpenBounds op) (tokens.OpenBounds ∷ ts) c after
begins_lower op ts c after (first (lower p) nothing) = rw append-nil (open_bounds p)

begins_comma : (op : Bounded) (l : ℕ) (ts : List Token) (c : List PostfixItem) (after : List Token) → Gives (expected.Comma op l ∷ []) ts c after → Stands (expected.Lower op) (tokens.Number l ∷ ts) c after
begins_comma op l ts c after (first (comma p) nothing) = rw append-nil (lower p)

begins_upper : (op : Bounded) (l : ℕ) (ts : List Token) (c : List PostfixItem) (after : List Token) → Gives (expected.Upper op l ∷ []) ts c after → Stands (expected.Comma op l) (tokens.Comma ∷ ts) c after
begins_upper op l ts c after (first (upper p) nothing) = rw append-nil (comma p)

begins_shut : (op : Bounded) (l u : ℕ) (ts : List Token) (c : List PostfixItem) (after : List Token) → Gives (expected.ShutBounds op l u ∷ []) ts c after → Stands (expected.Upper op l) (tokens.Number u ∷ ts) c after
begins_shut op l u ts c after (first (shut_bounds p) nothing) = rw append-nil (upper p)

begins_bounded : (op : Bounded) (l u : ℕ) (ts : List Token) (c : List PostfixItem) (after : List Token) →
    Gives (expected.Operand ∷ expected.Write (bounded_item op l u) ∷ []) ts c after → Stands (expected.ShutBounds op l u) (tokens.ShutBounds ∷ ts) c after
begins_bounded op l u ts c after (first (operand p) (first write nothing)) = shut_bounds p

begins_plain : (a : Atom) (ts : List Token) (c : List PostfixItem) (after : List Token) → Gives (expected.Write (postfix.Leaf a) ∷ []) ts c after → Stands expected.Operand (tokens.Atom a ∷ ts) c after
begins_plain a ts c after (first write nothing) = operand plain

begins_measure : (m : Measure) (ts : List Token) (c : List PostfixItem) (after : List Token) → Gives (expected.OpenNumber m ∷ []) ts c after → Stands expected.Operand (tokens.Measure m ∷ ts) c after
begins_measure m ts c after (first open_number nothing) = operand numbered

begins_number : (m : Measure) (ts : List Token) (c : List PostfixItem) (after : List Token) → Gives (expected.Number m ∷ []) ts c after → Stands (expected.OpenNumber m) (tokens.Open ∷ ts) c after
begins_number m ts c after (first number nothing) = open_number

begins_shut_number : (m : Measure) (n : ℕ) (ts : List Token) (c : List PostfixItem) (after : List Token) → Gives (expected.ShutNumber (measured m n) ∷ []) ts c after → Stands (expected.Number m) (tokens.Number n ∷ ts) c after
begins_shut_number m n ts c after (first shut_number nothing) = number

begins_leaf : (a : Atom) (ts : List Token) (c : List PostfixItem) (after : List Token) → Gives (expected.Write (postfix.Leaf a) ∷ []) ts c after → Stands (expected.ShutNumber a) (tokens.Shut ∷ ts) c after
begins_leaf a ts c after (first write nothing) = shut_number

begins_nothing : (ts : List Token) (c : List PostfixItem) (after : List Token) → Gives [] ts c after → Stands expected.Shut (tokens.Shut ∷ ts) c after
begins_nothing ts c after nothing = shut

-- what a token begins
abbrev Begins : Option (List Expected) → Expected → Token → Type 0
Begins None e t = Unit {0}
Begins (Some new) e t = (ts : List Token) (c : List PostfixItem) (after : List Token) → Gives new ts c after → Stands e (t ∷ ts) c after

begins : (e : Expected) (t : Token) → Begins (replacement e t) e t
begins expected.Operand (tokens.Atom a) = begins_plain a
begins expected.Operand (tokens.Measure m) = begins_measure m
begins expected.Operand tokens.Not = begins_not
begins expected.Operand (tokens.Span kind) = begins_span kind
begins expected.Operand tokens.Open = begins_group
begins expected.LinkRest (tokens.Link kind) = begins_link kind
begins expected.AndRest (tokens.Pair And) = begins_and
begins expected.OrRest (tokens.Pair Or) = begins_or
begins expected.ImpliesRest (tokens.Pair Implies) = begins_implies
begins expected.Shut tokens.Shut = begins_nothing
begins (expected.OpenBounds op) tokens.OpenBounds = begins_lower op
begins (expected.Lower op) (tokens.Number l) = begins_comma op l
begins (expected.Comma op l) tokens.Comma = begins_upper op l
begins (expected.Upper op l) (tokens.Number u) = begins_shut op l u
begins (expected.ShutBounds op l u) tokens.ShutBounds = begins_bounded op l u
begins (expected.OpenNumber m) tokens.Open = begins_number m
begins (expected.Number m) (tokens.Number n) = begins_shut_number m n
begins (expected.ShutNumber a) tokens.Shut = begins_leaf a
begins _ _ = tt

-- what may be left out stands at no token
abbrev Leaves : Option (List PostfixItem) → Expected → Type 0
Leaves None e = Unit {0}
Leaves (Some w) e = (ts : List Token) → Stands e ts w ts

leaves : (e : Expected) → Leaves (left_out e) e
leaves (expected.Write w) = λ ts. write
leaves expected.LinkRest = λ ts. link_rest (λ xs s p. (s, alone p, sym (append-nil (postfix_of s))))
leaves expected.AndRest = λ ts. and_rest (λ xs s p. (s, p, sym (append-nil (postfix_of s))))
leaves expected.OrRest = λ ts. or_rest (λ xs s p. (s, p, sym (append-nil (postfix_of s))))
leaves expected.ImpliesRest = λ ts. implies_rest (λ xs s p. (s, unconditional p, sym (append-nil (postfix_of s))))
leaves _ = tt

-- all that is expected in two parts
gives_append : (new σ : List Expected) (ts : List Token) (c : List PostfixItem) (after : List Token) → Gives (new ++ σ) ts c after →
    (mid : List Token) × (d f : List PostfixItem) × Gives new ts d mid × Gives σ mid f after × (c ≡ d ++ f)
gives_append [] σ ts c after g = (ts, [], c, nothing, g, refl)
gives_append (e ∷ new) σ ts c after (first {mid = m} {c = d₁} {d = d₂} h g) =
    let (mid, d, f, front, back, same) = gives_append new σ m d₂ after g in
    (mid, d₁ ++ d, f, first h front, back, ap (λ (x : List PostfixItem). d₁ ++ x) same ∙ sym (append_assoc d₁ d f))

-- what is expected after a token continues with what was expected before it
abbrev pub Follows : Option After → List Expected → Token → Type 0
Follows None σ t = Unit {0}
Follows (Some a) σ t = (ts : List Token) (c : List PostfixItem) (after : List Token) → Gives a.0 ts c after → Gives σ (t ∷ ts) (a.1 ++ c) after

pub follows : (t : Token) (σ : List Expected) → Follows (taken t σ) σ t
follows t [] = tt
follows t (e ∷ σ) = by_cases (replacement e t) (left_out e) (taken t σ) (begins e t) (leaves e) (follows t σ)
  where
    by_cases : (o : Option (List Expected)) (l : Option (List PostfixItem)) (r : Option After) → Begins o e t → Leaves l e → Follows r σ t →
        Follows (taken_or_left o l σ r) (e ∷ σ) t
    by_cases (Some new) l r b h k = λ ts c after g.
        let (mid, d, f, front, back, same) = gives_append new σ ts c after g in
        rw same (first (b ts d mid front) back)
    by_cases None None r b h k = tt
    by_cases None (Some w) None b h k = tt
    by_cases None (Some w) (Some a) b h k = λ ts c after g. rw append_assoc (first (h (t ∷ ts)) (k ts c after g))

-- if all may be left out, nothing need follow
abbrev pub Ends : Option (List PostfixItem) → List Expected → Type 0
Ends None σ = Unit {0}
Ends (Some w) σ = (ts : List Token) → Gives σ ts w ts

pub ends : (σ : List Expected) → Ends (all_left_out σ) σ
ends [] = λ ts. nothing
ends (e ∷ σ) = by_cases (left_out e) (all_left_out σ) (leaves e) (ends σ)
  where
    by_cases : (l r : Option (List PostfixItem)) → Leaves l e → Ends r σ → Ends (left_with l r) (e ∷ σ)
    by_cases None r h k = tt
    by_cases (Some w) None h k = tt
    by_cases (Some w) (Some c) h k = λ ts. first (h ts) (k ts)

-- Each thing expected can be completed, whatever follows: an operand by `true`.
completed : (e : Expected) (after : List Token) → (ts : List Token) × (c : List PostfixItem) × Stands e ts c after
completed expected.Operand after = (tokens.Atom Always ∷ after, postfix.Leaf Always ∷ [], operand plain)
completed expected.LinkRest after = (after, [], leaves expected.LinkRest after)
completed expected.AndRest after = (after, [], leaves expected.AndRest after)
completed expected.OrRest after = (after, [], leaves expected.OrRest after)
completed expected.ImpliesRest after = (after, [], leaves expected.ImpliesRest after)
completed expected.Shut after = (tokens.Shut ∷ after, [], shut)
completed (expected.Write w) after = (after, w ∷ [], write)
completed (expected.OpenBounds op) after = (bounds 0 0 (tokens.Atom Always ∷ after), postfix.Leaf Always ∷ bounded_item op 0 0 ∷ [], open_bounds plain)
completed (expected.Lower op) after =
    (tokens.Number 0 ∷ tokens.Comma ∷ tokens.Number 0 ∷ tokens.ShutBounds ∷ tokens.Atom Always ∷ after, postfix.Leaf Always ∷ bounded_item op 0 0 ∷ [], lower plain)
completed (expected.Comma op l) after =
    (tokens.Comma ∷ tokens.Number 0 ∷ tokens.ShutBounds ∷ tokens.Atom Always ∷ after, postfix.Leaf Always ∷ bounded_item op l 0 ∷ [], comma plain)
completed (expected.Upper op l) after =
    (tokens.Number 0 ∷ tokens.ShutBounds ∷ tokens.Atom Always ∷ after, postfix.Leaf Always ∷ bounded_item op l 0 ∷ [], upper plain)
completed (expected.ShutBounds op l u) after = (tokens.ShutBounds ∷ tokens.Atom Always ∷ after, postfix.Leaf Always ∷ bounded_item op l u ∷ [], shut_bounds plain)
completed (expected.OpenNumber m) after = (tokens.Open ∷ tokens.Number 0 ∷ tokens.Shut ∷ after, postfix.Leaf (measured m 0) ∷ [], open_number)
completed (expected.Number m) after = (tokens.Number 0 ∷ tokens.Shut ∷ after, postfix.Leaf (measured m 0) ∷ [], number)
completed (expected.ShutNumber a) after = (tokens.Shut ∷ after, postfix.Leaf a ∷ [], shut_number)

pub all_completed : (σ : List Expected) (after : List Token) → (ts : List Token) × (c : List PostfixItem) × Gives σ ts c after
all_completed [] after = (after, [], nothing)
all_completed (e ∷ σ) after =
    let (mid, d, back) = all_completed σ after in
    let (ts, c, front) = completed e mid in
    (ts, c ++ d, first front back)

-- what a formula expected at the start gives is a formula
pub formula_at_start : (ts : List Token) (c : List PostfixItem) → Gives at_start ts c [] → (t : FormulaTree) × IsFormula ts t × (c ≡ postfix_of t)
formula_at_start ts c g = whole (gives_formula [] ts c [] g)
  where
    whole_by : (t : FormulaTree) (mid : List Token) (more : List PostfixItem) → Phrase formula ts t mid → Gives [] mid more [] → c ≡ postfix_of t ++ more → (t : FormulaTree) × IsFormula ts t × (c ≡ postfix_of t)
    whole_by t mid more p nothing same = (t, p, same ∙ append-nil (postfix_of t))

    whole : Formula [] ts c [] → (t : FormulaTree) × IsFormula ts t × (c ≡ postfix_of t)
    whole h = whole_by h.tree h.mid h.more h.phrase h.rest h.same
