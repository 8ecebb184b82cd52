-- A formula without a refused number has a valid tree.
use Rattle.std.proofs.Common.{◌≡◌, ℕ, zero, suc, length, rules, ◌+◌, ◌-◌, ◌≤◌, ◌/◌, ◌%◌, Bool, true, false, cond, List, [], ◌∷◌, ◌++◌, refl, Some, None, arith}
use Rattle.std.specs.Prelude.{find, ◌==◌, codes}
use Rattle.std.specs.Char.{is_ascii_digit}
use Rattle.std.specs.Str.{bytes_eq}
use Rattle.std.proofs.lemmas.Bool.Decides.{nat_tests}
use Rattle.std.proofs.Math.Nat.{div-le_self, div-mul-le_self}
use Rattle.std.proofs.lemmas.Nat.{le-div}
use Rattle.mtl_formulas.specs.declared.atom.Atom.{Atom}
use Rattle.mtl_formulas.specs.declared.atom.Atom.TheVariants.{Age, Clear, Close}
use Rattle.std.specs.Str.Parse.{digits_value}
use Rattle.mtl_formulas.specs.declared.formula.PairKind.TheVariants.{And, Or, Implies}
use Rattle.mtl_formulas.specs.declared.formula.SpanKind.TheVariants.{F, G, O, H}
use Rattle.mtl_formulas.specs.declared.formula.LinkKind.TheVariants.{U, S}
use Rattle.mtl_language.specs.declared.tokens.Measure.{Measure}
use Rattle.mtl_language.specs.declared.tokens.Measure.TheVariants as measures
use Rattle.mtl_language.specs.declared.tokens.Token.{Token}
use Rattle.mtl_language.specs.declared.tokens.Token.TheVariants as tokens
use Rattle.mtl_language.specs.declared.tokens.IndexedToken.{IndexedToken}
use Rattle.mtl_language.specs.AtomWords.{word_of, atom_number}
use Rattle.mtl_formulas.specs.FormulaTree.{FormulaTree, leaf, negation, pair, span, link}
use Rattle.mtl_formulas.specs.FormulaMeasures.{IsValidAtom, HasValidParts}
use Rattle.mtl_language.specs.FormulaTokens.{is_letter, measured, plain_atoms, measure_token, word_token_from, word_token, number_token, sign_token, front_run, run_token, tokens_from, tokens_of, kinds}
use Rattle.mtl_language.specs.FormulaGrammar.{Category, Phrase, plain, numbered, negated, over, grouped, alone, linked, one_conjunct, conjoined, one_disjunct, disjoined, unconditional, conditional, IsFormula}
use Rattle.mtl_language.specs.FormulaReading.{is_refused_time, is_refused, is_refused_token, refused_indices, in_positions}

-- seconds that are not refused
pub record GoodTime (tick n : ℕ) : Type 0 where
  pub within : n ≤ 7200
  pub whole : n % tick ≡ 0

abbrev pub GoodAtom : ℕ → Atom → Type 0
GoodAtom tick (Age n) = GoodTime tick n
GoodAtom tick (Clear n) = n ≤ 100000
GoodAtom tick (Close n) = n ≤ 100000
GoodAtom tick _ = Unit {0}

pub record GoodBounds (tick l u : ℕ) : Type 0 where
  pub lower : GoodTime tick l
  pub upper : GoodTime tick u
  pub ordered : l ≤ u

-- a tree with no refused number, its bounds in seconds
abbrev pub Good : ℕ → FormulaTree → Type 0
Good tick (leaf a) = GoodAtom tick a
Good tick (negation t) = Good tick t
Good tick (pair kind s t) = Good tick s × Good tick t
Good tick (span kind l u t) = GoodBounds tick l u × Good tick t
Good tick (link kind l u s t) = GoodBounds tick l u × (Good tick s × Good tick t)

-- a token that is no refused number, and no atom's word without its number
abbrev pub Accepted : ℕ → List Token → Token → Type 0
Accepted tick before (tokens.Number n) = is_refused tick before n ≡ false
Accepted tick before (tokens.Atom a) = atom_number a ≡ None
Accepted tick before _ = Unit {0}

abbrev pub AllAccepted : ℕ → List Token → List Token → Type 0
AllAccepted tick before [] = Unit {0}
AllAccepted tick before (t ∷ ts) = Accepted tick before t × AllAccepted tick (t ∷ before) ts

time_good : (tick n : ℕ) → is_refused_time tick n ≡ false → GoodTime tick n
time_good tick n h = record { within = grind (arith, nat_tests); whole = grind (arith, nat_tests) }

bounds_good : (tick l u : ℕ) (before : List Token) → is_refused tick (tokens.OpenBounds ∷ before) l ≡ false →
    is_refused tick (tokens.Comma ∷ tokens.Number l ∷ before) u ≡ false → GoodBounds tick l u
bounds_good tick l u before h k = record {
  lower = time_good tick l h;
  upper = record { within = grind (arith, nat_tests); whole = grind (arith, nat_tests) };
  ordered = grind (arith, nat_tests);
}

plain_good : (tick : ℕ) (a : Atom) → atom_number a ≡ None → GoodAtom tick a
plain_good tick (Age n) h = cc
plain_good tick (Clear n) h = cc
plain_good tick (Close n) h = cc
plain_good tick _ h = tt

measured_good : (tick : ℕ) (m : Measure) (n : ℕ) (before : List Token) → is_refused tick (tokens.Open ∷ tokens.Measure m ∷ before) n ≡ false → GoodAtom tick (measured m n)
measured_good tick measures.Age n before h = time_good tick n h
measured_good tick measures.Clear n before h = grind (arith, nat_tests)
measured_good tick measures.Close n before h = grind (arith, nat_tests)

-- what was accepted of a phrase and what follows it
record Split (tick : ℕ) (t : FormulaTree) (after : List Token) : Type 0 where
  good : Good tick t
  before : List Token
  rest : AllAccepted tick before after

splits : {c : Category} {ts : List Token} {t : FormulaTree} {after : List Token} (tick : ℕ) → Phrase c ts t after → (before : List Token) → AllAccepted tick before ts → Split tick t after
splits tick (plain {a} {after}) before h = record { good = plain_good tick a h.0; before = tokens.Atom a ∷ before; rest = h.1 }
splits tick (numbered {m} {n} {after}) before h =
    record { good = measured_good tick m n before h.1.1.0; before = tokens.Shut ∷ tokens.Number n ∷ tokens.Open ∷ tokens.Measure m ∷ before; rest = h.1.1.1.1 }
splits tick (negated p) before h = let s = splits tick p (tokens.Not ∷ before) h.1 in record { good = s.good; before = s.before; rest = s.rest }
splits tick (over {k} {l} {u} p) before h =
    let s = splits tick p (tokens.ShutBounds ∷ tokens.Number u ∷ tokens.Comma ∷ tokens.Number l ∷ tokens.OpenBounds ∷ tokens.Span k ∷ before) h.1.1.1.1.1.1 in
    record { good = (bounds_good tick l u (tokens.Span k ∷ before) h.1.1.0 h.1.1.1.1.0, s.good); before = s.before; rest = s.rest }
splits tick (grouped p) before h = let s = splits tick p (tokens.Open ∷ before) h.1 in record { good = s.good; before = tokens.Shut ∷ s.before; rest = s.rest.1 }
splits tick (alone p) before h = splits tick p before h
splits tick (linked {k} {l} {u} p q) before h =
    let r = splits tick p before h in
    let s = splits tick q (tokens.ShutBounds ∷ tokens.Number u ∷ tokens.Comma ∷ tokens.Number l ∷ tokens.OpenBounds ∷ tokens.Link k ∷ r.before) r.rest.1.1.1.1.1.1 in
    record { good = (bounds_good tick l u (tokens.Link k ∷ r.before) r.rest.1.1.0 r.rest.1.1.1.1.0, (r.good, s.good)); before = s.before; rest = s.rest }
splits tick (one_conjunct p) before h = splits tick p before h
splits tick (conjoined p q) before h =
    let r = splits tick p before h in
    let s = splits tick q _ r.rest.1 in
    record { good = (r.good, s.good); before = s.before; rest = s.rest }
splits tick (one_disjunct p) before h = splits tick p before h
splits tick (disjoined p q) before h =
    let r = splits tick p before h in
    let s = splits tick q _ r.rest.1 in
    record { good = (r.good, s.good); before = s.before; rest = s.rest }
splits tick (unconditional p) before h = splits tick p before h
splits tick (conditional p q) before h =
    let r = splits tick p before h in
    let s = splits tick q _ r.rest.1 in
    record { good = (r.good, s.good); before = s.before; rest = s.rest }

good_atom_valid : (tick : ℕ) (a : Atom) → GoodAtom tick a → IsValidAtom a
good_atom_valid tick (Age n) h = h.within
good_atom_valid tick (Clear n) h = h
good_atom_valid tick (Close n) h = h
good_atom_valid tick _ h = tt

bounds_valid : (tick l u : ℕ) → 1 ≤ tick → GoodBounds tick l u → (l / tick ≤ u / tick) × (u / tick ≤ 7200)
bounds_valid tick l u some h =
    let low = div-mul-le_self l tick in
    let high = div-le_self u tick in
    (le-div (l / tick) u tick some (omega (arith, h.ordered)), omega (arith, h.upper.within))

-- in positions the tree is valid
pub good_valid : (tick : ℕ) (t : FormulaTree) → 1 ≤ tick → Good tick t → HasValidParts (in_positions tick t)
good_valid tick (leaf a) some h = good_atom_valid tick a h
good_valid tick (negation t) some h = good_valid tick t some h
good_valid tick (pair kind s t) some h = (good_valid tick s some h.0, good_valid tick t some h.1)
good_valid tick (span kind l u t) some h =
    let b = bounds_valid tick l u some h.0 in (b.0, b.1, good_valid tick t some h.1)
good_valid tick (link kind l u s t) some h =
    let b = bounds_valid tick l u some h.0 in (b.0, b.1, good_valid tick s some h.1.0, good_valid tick t some h.1.1)

-- no word of an atom that has a number stands as an atom
abbrev pub Plain : Token → Type 0
Plain (tokens.Atom a) = atom_number a ≡ None
Plain _ = Unit {0}

abbrev AllPlainAtoms : List Atom → Type 0
AllPlainAtoms [] = Unit {0}
AllPlainAtoms (a ∷ more) = (atom_number a ≡ None) × AllPlainAtoms more

record IsPlain (t : Token) : Type 0 where
  plain : Plain t

plain_if : (b : Bool) (s t : Token) → IsPlain s → IsPlain t → IsPlain (cond b s t)
plain_if true s t h k = h
plain_if false s t h k = k

sure : (t : Token) → Plain t → IsPlain t
sure t h = record { plain = h }

plain_measure : (run : List ℕ) → IsPlain (measure_token run)
plain_measure run = plain_if _ _ _ (sure (tokens.Measure measures.Age) tt) (plain_if _ _ _ (sure (tokens.Measure measures.Clear) tt) (plain_if _ _ _ (sure (tokens.Measure measures.Close) tt) (sure tokens.Wrong tt)))

found_plain : (p : Atom → Bool) (more : List Atom) → AllPlainAtoms more → (run : List ℕ) → IsPlain (word_token_from (find p more) run)
found_plain p [] h run = plain_measure run
found_plain p (a ∷ more) h run = by_cases (p a) (found_plain p more h.1 run)
  where
    by_cases : (b : Bool) → IsPlain (word_token_from (find p more) run) → IsPlain (word_token_from (cond b (Some a) (find p more)) run)
    by_cases true k = sure (tokens.Atom a) h.0
    by_cases false k = k

all_plain : AllPlainAtoms plain_atoms
all_plain = search rules depth 40

plain_sign : (b : ℕ) → IsPlain (sign_token b)
plain_sign b =
    plain_if _ _ _ (sure tokens.Not tt)
    (plain_if _ _ _ (sure (tokens.Pair And) tt)
    (plain_if _ _ _ (sure tokens.Open tt)
    (plain_if _ _ _ (sure tokens.Shut tt)
    (plain_if _ _ _ (sure tokens.Comma tt)
    (plain_if _ _ _ (sure (tokens.Span F) tt)
    (plain_if _ _ _ (sure (tokens.Span G) tt)
    (plain_if _ _ _ (sure (tokens.Span H) tt)
    (plain_if _ _ _ (sure (tokens.Span O) tt)
    (plain_if _ _ _ (sure (tokens.Link S) tt)
    (plain_if _ _ _ (sure (tokens.Link U) tt)
    (plain_if _ _ _ (sure tokens.OpenBounds tt)
    (plain_if _ _ _ (sure tokens.ShutBounds tt)
    (plain_if _ _ _ (sure (tokens.Pair Or) tt)
    (sure tokens.Wrong tt))))))))))))))

plain_number : (run : List ℕ) → IsPlain (number_token run)
plain_number run = plain_if _ _ _ (sure (tokens.Number (digits_value 10 run)) tt) (sure tokens.Wrong tt)

plain_word : (run : List ℕ) → IsPlain (word_token run)
plain_word run = found_plain (λ a. bytes_eq run (word_of a)) plain_atoms all_plain run

plain_run : (run : List ℕ) → IsPlain (run_token run)
plain_run [] = sure tokens.Wrong tt
plain_run (b ∷ bs) =
    plain_if (is_letter b) _ _ (plain_word (b ∷ bs)) (plain_if (is_ascii_digit b) _ _ (plain_number (b ∷ bs))
    (plain_if (bytes_eq (b ∷ bs) (codes "->")) _ _ (sure (tokens.Pair Implies) tt) (plain_sign b)))

abbrev pub AllPlain : List Token → Type 0
AllPlain [] = Unit {0}
AllPlain (t ∷ ts) = Plain t × AllPlain ts

plain_tokens : (behind index : ℕ) (bs : List ℕ) → AllPlain (kinds (tokens_from behind index bs))
plain_tokens behind index [] = tt
plain_tokens (suc behind) index (b ∷ bs) = plain_tokens behind (index + 1) bs
plain_tokens zero index (b ∷ bs) = by_cases (b == 32) (plain_tokens 0 (index + 1) bs) (plain_tokens (length (front_run (b ∷ bs)) - 1) (index + 1) bs)
  where
    by_cases : (space : Bool) → AllPlain (kinds (tokens_from 0 (index + 1) bs)) → AllPlain (kinds (tokens_from (length (front_run (b ∷ bs)) - 1) (index + 1) bs)) →
        AllPlain (kinds (cond space (tokens_from 0 (index + 1) bs) (record { token = run_token (front_run (b ∷ bs)); index = index } ∷ tokens_from (length (front_run (b ∷ bs)) - 1) (index + 1) bs)))
    by_cases true h k = h
    by_cases false h k = ((plain_run (front_run (b ∷ bs))).plain, k)

none_left : (b : Bool) (index : ℕ) (rest : List ℕ) → cond b (index ∷ []) [] ++ rest ≡ [] → (b ≡ false) × (rest ≡ [])
none_left true index rest h = cc
none_left false index rest h = (refl, h)

token_accepted : (tick : ℕ) (before : List Token) (t : Token) → Plain t → is_refused_token tick before t ≡ false → Accepted tick before t
token_accepted tick before (tokens.Number n) h k = k
token_accepted tick before (tokens.Atom a) h k = h
token_accepted tick before _ h k = tt

-- With no refused index each token is accepted.
all_accepted : (tick : ℕ) (before : List Token) (ps : List IndexedToken) → AllPlain (kinds ps) → refused_indices tick before ps ≡ [] → AllAccepted tick before (kinds ps)
all_accepted tick before [] h none = tt
all_accepted tick before (p ∷ ps) h none =
    let split = none_left (is_refused_token tick before p.token) p.index (refused_indices tick (p.token ∷ before) ps) none in
    (token_accepted tick before p.token h.0 split.0, all_accepted tick (p.token ∷ before) ps h.1 split.1)

-- A formula without a refused number has a good tree.
pub formula_good : (tick : ℕ) (text : List ℕ) (t : FormulaTree) → IsFormula (kinds (tokens_of text)) t → refused_indices tick [] (tokens_of text) ≡ [] → Good tick t
formula_good tick text t p none = (splits tick p [] (all_accepted tick [] (tokens_of text) (plain_tokens 0 0 text) none)).good
