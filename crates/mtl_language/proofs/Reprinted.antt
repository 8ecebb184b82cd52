-- A formula that was read is read again from its printed text.
use Rattle.std.proofs.Common.{◌≡◌, ℕ, ◌*◌, ◌/◌, ◌%◌, ◌<◌, ◌≤◌, true, false, List, [], ◌∷◌, ◌++◌, refl, sym, ◌∙◌, ap, ap₂, append_assoc, arith, nat_lt}
use Rattle.std.specs.Prelude.{codes}
use Rattle.std.specs.Fmt.{decimal}
use Rattle.std.specs.List.{list_all}
use Rattle.std.proofs.lemmas.Bool.Decides.{nat_tests}
use Rattle.std.proofs.lemmas.List.{append-nil}
use Rattle.std.proofs.Math.Nat.{mod-eq-sub-div-mul, div-mul-le_self}
use Rattle.mtl_formulas.specs.declared.atom.Atom.{Atom}
use Rattle.mtl_formulas.specs.declared.atom.Atom.TheVariants.{Age, Clear, Close}
use Rattle.mtl_formulas.specs.declared.formula.PairKind.{PairKind}
use Rattle.mtl_formulas.specs.declared.formula.PairKind.TheVariants.{And, Or, Implies}
use Rattle.mtl_formulas.specs.declared.formula.SpanKind.{SpanKind}
use Rattle.mtl_formulas.specs.declared.formula.SpanKind.TheVariants.{F, G, O, H}
use Rattle.mtl_formulas.specs.declared.formula.LinkKind.{LinkKind}
use Rattle.mtl_formulas.specs.declared.formula.LinkKind.TheVariants.{U, S}
use Rattle.mtl_language.specs.declared.tokens.Measure.{Measure}
use Rattle.mtl_language.specs.declared.tokens.Measure.TheVariants as measures
use Rattle.mtl_language.specs.declared.tokens.Token.{Token}
use Rattle.mtl_language.specs.declared.tokens.Token.TheVariants as tokens
use Rattle.mtl_language.specs.declared.tokens.IndexedToken.{IndexedToken}
use Rattle.mtl_formulas.specs.FormulaTree.{FormulaTree, leaf, negation, pair, span, link}
use Rattle.mtl_language.specs.FormulaText.{atom_text, pair_sign, span_letter, link_letter, bounds_text, text_of}
use Rattle.mtl_language.specs.FormulaTokens.{is_letter, is_word_byte, word_token, tokens_of, kinds}
use Rattle.mtl_language.specs.FormulaGrammar.{unary, formula, bounds, Phrase, plain, numbered, negated, over, grouped, alone, linked, one_conjunct, conjoined, one_disjunct, disjoined, unconditional, conditional, IsFormula}
use Rattle.mtl_language.specs.FormulaReading.{is_refused_time, is_refused, is_refused_token, refused_indices, in_positions, ReadsAs}
use Rattle.mtl_language.proofs.GoodNumbers.{GoodTime, GoodAtom, GoodBounds, Good, formula_good}
use Rattle.mtl_language.proofs.TokenRuns.{text_kinds, space_kinds, run_kinds, word_kinds, Stops, atom_kinds, number_kinds}

-- the tokens of an atom, and those after it
abbrev atom_tokens : Atom → List Token → List Token
atom_tokens (Age n) after = tokens.Measure measures.Age ∷ tokens.Open ∷ tokens.Number n ∷ tokens.Shut ∷ after
atom_tokens (Clear n) after = tokens.Measure measures.Clear ∷ tokens.Open ∷ tokens.Number n ∷ tokens.Shut ∷ after
atom_tokens (Close n) after = tokens.Measure measures.Close ∷ tokens.Open ∷ tokens.Number n ∷ tokens.Shut ∷ after
atom_tokens a after = tokens.Atom a ∷ after

-- the tokens of a printed tree, its bounds in seconds, and those after it
abbrev printed : FormulaTree → List Token → List Token
printed (leaf a) after = atom_tokens a after
printed (negation t) after = tokens.Not ∷ printed t after
printed (pair kind s t) after = tokens.Open ∷ printed s (tokens.Pair kind ∷ printed t (tokens.Shut ∷ after))
printed (span kind l u t) after = tokens.Span kind ∷ bounds l u (printed t after)
printed (link kind l u s t) after = tokens.Open ∷ printed s (tokens.Link kind ∷ bounds l u (printed t (tokens.Shut ∷ after)))

-- They are in the grammar.
leaf_phrase : (a : Atom) (after : List Token) → Phrase unary (atom_tokens a after) (leaf a) after
leaf_phrase (Age n) after = numbered
leaf_phrase (Clear n) after = numbered
leaf_phrase (Close n) after = numbered
leaf_phrase a after = plain

pair_phrase : (kind : PairKind) (ts us after : List Token) (s t : FormulaTree) → Phrase unary ts s (tokens.Pair kind ∷ us) → Phrase unary us t after →
    Phrase formula ts (pair kind s t) after
pair_phrase And ts us after s t p q = unconditional (one_disjunct (conjoined (one_conjunct (alone p)) (alone q)))
pair_phrase Or ts us after s t p q = unconditional (disjoined (one_disjunct (one_conjunct (alone p))) (one_conjunct (alone q)))
pair_phrase Implies ts us after s t p q = conditional (one_disjunct (one_conjunct (alone p))) (unconditional (one_disjunct (one_conjunct (alone q))))

printed_phrase : (t : FormulaTree) (after : List Token) → Phrase unary (printed t after) t after
printed_phrase (leaf a) after = leaf_phrase a after
printed_phrase (negation t) after = negated (printed_phrase t after)
printed_phrase (pair kind s t) after =
    grouped (pair_phrase kind _ _ _ s t (printed_phrase s (tokens.Pair kind ∷ printed t (tokens.Shut ∷ after))) (printed_phrase t (tokens.Shut ∷ after)))
printed_phrase (span kind l u t) after = over (printed_phrase t after)
printed_phrase (link kind l u s t) after =
    grouped (unconditional (one_disjunct (one_conjunct (linked
    (printed_phrase s (tokens.Link kind ∷ bounds l u (printed t (tokens.Shut ∷ after)))) (printed_phrase t (tokens.Shut ∷ after))))))

printed_formula : (t : FormulaTree) → IsFormula (printed t []) t
printed_formula t = unconditional (one_disjunct (one_conjunct (alone (printed_phrase t []))))

-- No number of them is refused.
abbrev NoneRefused : ℕ → List Token → List Token → Type 0
NoneRefused tick before [] = Unit {0}
NoneRefused tick before (t ∷ ts) = (is_refused_token tick before t ≡ false) × NoneRefused tick (t ∷ before) ts

time_accepted : (tick n : ℕ) → GoodTime tick n → is_refused_time tick n ≡ false
time_accepted tick n h = let a = h.within in let b = h.whole in grind (arith, nat_tests)

upper_accepted : (tick l u : ℕ) (before : List Token) → GoodBounds tick l u → is_refused tick (tokens.Comma ∷ tokens.Number l ∷ before) u ≡ false
upper_accepted tick l u before h = let a = h.upper.within in let b = h.upper.whole in let c = h.ordered in grind (arith, nat_tests)

metres_accepted : (n : ℕ) → n ≤ 100000 → nat_lt 100000 n ≡ false
metres_accepted n h = grind (arith, nat_tests)

bounds_accepted : (tick l u : ℕ) (before ts : List Token) → GoodBounds tick l u → ((b : List Token) → NoneRefused tick b ts) → NoneRefused tick before (bounds l u ts)
bounds_accepted tick l u before ts h rest = (refl, (time_accepted tick l h.lower, (refl, (upper_accepted tick l u (tokens.OpenBounds ∷ before) h, (refl, rest _)))))

leaf_accepted : (tick : ℕ) (a : Atom) (before after : List Token) → GoodAtom tick a → ((b : List Token) → NoneRefused tick b after) → NoneRefused tick before (atom_tokens a after)
leaf_accepted tick (Age n) before after h rest = (refl, (refl, (time_accepted tick n h, (refl, rest _))))
leaf_accepted tick (Clear n) before after h rest = (refl, (refl, (metres_accepted n h, (refl, rest _))))
leaf_accepted tick (Close n) before after h rest = (refl, (refl, (metres_accepted n h, (refl, rest _))))
leaf_accepted tick a before after h rest = (refl, rest _)

printed_accepted : (tick : ℕ) (t : FormulaTree) (after : List Token) → Good tick t → ((b : List Token) → NoneRefused tick b after) → (before : List Token) →
    NoneRefused tick before (printed t after)
printed_accepted tick (leaf a) after h rest before = leaf_accepted tick a before after h rest
printed_accepted tick (negation t) after h rest before = (refl, printed_accepted tick t after h rest _)
printed_accepted tick (pair kind s t) after h rest before =
    (refl, printed_accepted tick s _ h.0 (λ b. (refl, printed_accepted tick t _ h.1 (λ d. (refl, rest _)) _)) _)
printed_accepted tick (span kind l u t) after h rest before = (refl, bounds_accepted tick l u _ _ h.0 (λ b. printed_accepted tick t after h.1 rest b))
printed_accepted tick (link kind l u s t) after h rest before =
    (refl, printed_accepted tick s _ h.1.0 (λ b. (refl, bounds_accepted tick l u _ _ h.0 (λ d. printed_accepted tick t _ h.1.1 (λ e. (refl, rest _)) d))) _)

none_refused : (tick : ℕ) (before : List Token) (ps : List IndexedToken) → NoneRefused tick before (kinds ps) → refused_indices tick before ps ≡ []
none_refused tick before [] h = refl
none_refused tick before (p ∷ ps) h = rw h.0 (none_refused tick (p.token ∷ before) ps h.1)

-- the printed text of a tree with its bounds in seconds
abbrev interval : ℕ → ℕ → List ℕ
interval l u = codes "[" ++ decimal l ++ codes "," ++ decimal u ++ codes "]"

abbrev written : FormulaTree → List ℕ
written (leaf a) = atom_text a
written (negation t) = codes "!" ++ written t
written (pair kind s t) = codes "(" ++ written s ++ codes " " ++ pair_sign kind ++ codes " " ++ written t ++ codes ")"
written (span kind l u t) = span_letter kind ++ interval l u ++ codes " " ++ written t
written (link kind l u s t) = codes "(" ++ written s ++ codes " " ++ link_letter kind ++ interval l u ++ codes " " ++ written t ++ codes ")"

whole_time : (tick n : ℕ) → 1 ≤ tick → n % tick ≡ 0 → n / tick * tick ≡ n
whole_time tick n some h = omega (arith, mod-eq-sub-div-mul n tick, div-mul-le_self n tick)

bounds_same : (tick l u : ℕ) → 1 ≤ tick → GoodBounds tick l u → bounds_text tick (l / tick) (u / tick) ≡ interval l u
bounds_same tick l u some h = rw (whole_time tick l some h.lower.whole, whole_time tick u some h.upper.whole) refl

text_is : (tick : ℕ) (t : FormulaTree) → 1 ≤ tick → Good tick t → text_of tick (in_positions tick t) ≡ written t
text_is tick (leaf a) some h = refl
text_is tick (negation t) some h = ap (λ (x : List ℕ). codes "!" ++ x) (text_is tick t some h)
text_is tick (pair kind s t) some h = rw (text_is tick s some h.0, text_is tick t some h.1) refl
text_is tick (span kind l u t) some h = rw (bounds_same tick l u some h.0, text_is tick t some h.1) refl
text_is tick (link kind l u s t) some h = rw (bounds_same tick l u some h.0, text_is tick s some h.1.0, text_is tick t some h.1.1) refl

abbrev cons : Token → List Token → List Token
cons t ts = t ∷ ts

-- The tokens of the printed text.
argument_kinds : (n : ℕ) (rest : List ℕ) → n ≤ 100000 → text_kinds (40 ∷ (decimal n ++ (41 ∷ rest))) ≡ tokens.Open ∷ tokens.Number n ∷ tokens.Shut ∷ text_kinds rest
argument_kinds n rest h =
    let small : n < 1000000000 = omega arith in
    run_kinds 40 [] (decimal n ++ (41 ∷ rest)) refl refl
    ∙ ap (cons tokens.Open) (number_kinds n (41 ∷ rest) small refl
    ∙ ap (cons (tokens.Number n)) (run_kinds 41 [] rest refl refl))

measured_kinds : (b n : ℕ) (bs rest : List ℕ) (m : Measure) → is_letter b ≡ true → list_all is_word_byte (b ∷ bs) ≡ true → word_token (b ∷ bs) ≡ tokens.Measure m → n ≤ 100000 →
    text_kinds (((b ∷ bs) ++ ((codes "(" ++ decimal n) ++ codes ")")) ++ rest) ≡ tokens.Measure m ∷ tokens.Open ∷ tokens.Number n ∷ tokens.Shut ∷ text_kinds rest
measured_kinds b n bs rest m letter all is h =
    let regrouped : ((b ∷ bs) ++ ((codes "(" ++ decimal n) ++ codes ")")) ++ rest ≡ b ∷ (bs ++ (40 ∷ (decimal n ++ (41 ∷ rest)))) =
    ap (λ (xs : List ℕ). b ∷ xs) (append_assoc bs ((codes "(" ++ decimal n) ++ codes ")") rest
    ∙ ap (λ (xs : List ℕ). bs ++ (40 ∷ xs)) (append_assoc (decimal n) (41 ∷ []) rest)) in
    ap text_kinds regrouped
    ∙ (word_kinds b bs (40 ∷ (decimal n ++ (41 ∷ rest))) letter all refl
    ∙ ap₂ cons is (argument_kinds n rest h))

interval_kinds : (tick l u : ℕ) (rest : List ℕ) → GoodBounds tick l u → text_kinds (interval l u ++ rest) ≡ bounds l u (text_kinds rest)
interval_kinds tick l u rest h =
    let low : l < 1000000000 = omega (arith, h.lower.within) in
    let high : u < 1000000000 = omega (arith, h.upper.within) in
    let regrouped : interval l u ++ rest ≡ 91 ∷ (decimal l ++ (44 ∷ (decimal u ++ (93 ∷ rest)))) = simp append_assoc in
    ap text_kinds regrouped
    ∙ (run_kinds 91 [] (decimal l ++ (44 ∷ (decimal u ++ (93 ∷ rest)))) refl refl
    ∙ ap (cons tokens.OpenBounds) (number_kinds l (44 ∷ (decimal u ++ (93 ∷ rest))) low refl
    ∙ ap (cons (tokens.Number l)) (run_kinds 44 [] (decimal u ++ (93 ∷ rest)) refl refl
    ∙ ap (cons tokens.Comma) (number_kinds u (93 ∷ rest) high refl
    ∙ ap (cons (tokens.Number u)) (run_kinds 93 [] rest refl refl)))))

atom_text_kinds : (tick : ℕ) (a : Atom) (rest : List ℕ) → GoodAtom tick a → Stops is_word_byte rest → text_kinds (atom_text a ++ rest) ≡ atom_tokens a (text_kinds rest)
atom_text_kinds tick (Age n) rest h stop = measured_kinds 97 n (codes "ge") rest measures.Age refl refl refl (omega (arith, h.within))
atom_text_kinds tick (Clear n) rest h stop = measured_kinds 99 n (codes "lear") rest measures.Clear refl refl refl h
atom_text_kinds tick (Close n) rest h stop = measured_kinds 99 n (codes "lose") rest measures.Close refl refl refl h
atom_text_kinds tick a rest h stop = atom_kinds a rest refl stop

sign_kinds : (kind : PairKind) (rest : List ℕ) → text_kinds (pair_sign kind ++ rest) ≡ tokens.Pair kind ∷ text_kinds rest
sign_kinds And rest = run_kinds 38 [] rest refl refl
sign_kinds Or rest = run_kinds 124 [] rest refl refl
sign_kinds Implies rest = run_kinds 45 (62 ∷ []) rest refl refl

span_kinds : (kind : SpanKind) (rest : List ℕ) → text_kinds (span_letter kind ++ rest) ≡ tokens.Span kind ∷ text_kinds rest
span_kinds F rest = run_kinds 70 [] rest refl refl
span_kinds G rest = run_kinds 71 [] rest refl refl
span_kinds O rest = run_kinds 79 [] rest refl refl
span_kinds H rest = run_kinds 72 [] rest refl refl

link_kinds : (kind : LinkKind) (rest : List ℕ) → text_kinds (link_letter kind ++ rest) ≡ tokens.Link kind ∷ text_kinds rest
link_kinds U rest = run_kinds 85 [] rest refl refl
link_kinds S rest = run_kinds 83 [] rest refl refl

link_regrouped : (a b c d rest : List ℕ) →
    (codes "(" ++ a ++ codes " " ++ b ++ c ++ codes " " ++ d ++ codes ")") ++ rest ≡ 40 ∷ (a ++ (32 ∷ (b ++ (c ++ (32 ∷ (d ++ (41 ∷ rest)))))))
link_regrouped a b c d rest = simp append_assoc

written_kinds : (tick : ℕ) (t : FormulaTree) (rest : List ℕ) → Good tick t → Stops is_word_byte rest → text_kinds (written t ++ rest) ≡ printed t (text_kinds rest)
written_kinds tick (leaf a) rest h stop = atom_text_kinds tick a rest h stop
written_kinds tick (negation t) rest h stop = run_kinds 33 [] (written t ++ rest) refl refl ∙ ap (cons tokens.Not) (written_kinds tick t rest h stop)
written_kinds tick (pair kind s t) rest h stop =
    let tail = written t ++ (41 ∷ rest) in
    let regrouped : written (pair kind s t) ++ rest ≡ 40 ∷ (written s ++ (32 ∷ (pair_sign kind ++ (32 ∷ tail)))) = simp append_assoc in
    ap text_kinds regrouped
    ∙ (run_kinds 40 [] (written s ++ (32 ∷ (pair_sign kind ++ (32 ∷ tail)))) refl refl
    ∙ ap (cons tokens.Open) (written_kinds tick s (32 ∷ (pair_sign kind ++ (32 ∷ tail))) h.0 refl
    ∙ ap (printed s) (space_kinds (pair_sign kind ++ (32 ∷ tail)) ∙ (sign_kinds kind (32 ∷ tail)
    ∙ ap (cons (tokens.Pair kind)) (space_kinds tail ∙ (written_kinds tick t (41 ∷ rest) h.1 refl
    ∙ ap (printed t) (run_kinds 41 [] rest refl refl)))))))
written_kinds tick (span kind l u t) rest h stop =
    let regrouped : written (span kind l u t) ++ rest ≡ span_letter kind ++ (interval l u ++ (32 ∷ (written t ++ rest))) = simp append_assoc in
    ap text_kinds regrouped
    ∙ (span_kinds kind (interval l u ++ (32 ∷ (written t ++ rest)))
    ∙ ap (cons (tokens.Span kind)) (interval_kinds tick l u (32 ∷ (written t ++ rest)) h.0
    ∙ ap (bounds l u) (space_kinds (written t ++ rest) ∙ written_kinds tick t rest h.1 stop)))
written_kinds tick (link kind l u s t) rest h stop =
    let tail = written t ++ (41 ∷ rest) in
    let regrouped : written (link kind l u s t) ++ rest ≡ 40 ∷ (written s ++ (32 ∷ (link_letter kind ++ (interval l u ++ (32 ∷ tail))))) =
    link_regrouped (written s) (link_letter kind) (interval l u) (written t) rest in
    ap text_kinds regrouped
    ∙ (run_kinds 40 [] (written s ++ (32 ∷ (link_letter kind ++ (interval l u ++ (32 ∷ tail))))) refl refl
    ∙ ap (cons tokens.Open) (written_kinds tick s (32 ∷ (link_letter kind ++ (interval l u ++ (32 ∷ tail)))) h.1.0 refl
    ∙ ap (printed s) (space_kinds (link_letter kind ++ (interval l u ++ (32 ∷ tail))) ∙ (link_kinds kind (interval l u ++ (32 ∷ tail))
    ∙ ap (cons (tokens.Link kind)) (interval_kinds tick l u (32 ∷ tail) h.0
    ∙ ap (bounds l u) (space_kinds tail ∙ (written_kinds tick t (41 ∷ rest) h.1.1 refl
    ∙ ap (printed t) (run_kinds 41 [] rest refl refl))))))))

-- A formula that was read is read again from its printed text.
pub read_again : (tick : ℕ) (t : FormulaTree) (text : List ℕ) → 1 ≤ tick → ReadsAs text tick t → ReadsAs (text_of tick t) tick t
read_again tick t text some h =
    let good = formula_good tick text h.written h.formula h.numbers in
    let same : text_of tick t ≡ written h.written = ap (text_of tick) h.positions ∙ text_is tick h.written some good in
    let all : kinds (tokens_of (written h.written)) ≡ printed h.written [] =
    ap text_kinds (sym (append-nil (written h.written))) ∙ written_kinds tick h.written [] good tt in
    rw same (record {
      written = h.written;
      formula = rw all (printed_formula h.written);
      numbers = none_refused tick [] (tokens_of (written h.written)) (rw all (printed_accepted tick h.written [] good (λ b. tt) []));
      positions = h.positions;
    })
