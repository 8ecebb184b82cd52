-- The tokens of a text.
use Rattle.std.specs.Prelude.{ℕ, zero, suc, ◌+◌, ◌-◌, Bool, ◌==◌, nat_le, ◌&&◌, ◌||◌, if◌then◌else◌, List, [], ◌∷◌, length, map, Option, Some, None, find, take, take_while, codes}
use Rattle.std.specs.Char.{is_ascii_digit}
use Rattle.std.specs.Str.{bytes_eq}
use Rattle.std.specs.Str.Parse.{digits_value}
use Rattle.mtl_formulas.specs.declared.atom.Atom.{Atom}
use Rattle.mtl_formulas.specs.declared.atom.Atom.TheVariants.{Always, Never, Seen, Risk, Engaged, Begin, Overtaking, Overtaken, HeadOn, CrossingGives, CrossingStands, Passing, Unclassified, Age, Opening, Clear, Close, OtherOnPort, Ahead, Alters, Apparent, ToStarboard, ToPort, OtherApparent, RankGives, RankStands, BothPower}
use Rattle.mtl_formulas.specs.declared.formula.PairKind.TheVariants.{And, Or, Implies}
use Rattle.mtl_formulas.specs.declared.formula.SpanKind.TheVariants.{F, G, O, H}
use Rattle.mtl_formulas.specs.declared.formula.LinkKind.TheVariants.{U, S}
use Rattle.mtl_language.specs.declared.tokens.Measure.{Measure}
use Rattle.mtl_language.specs.declared.tokens.Measure.TheVariants as measures
use Rattle.mtl_language.specs.declared.tokens.Token.{Token}
use Rattle.mtl_language.specs.declared.tokens.Token.TheVariants as tokens
use Rattle.mtl_language.specs.declared.tokens.IndexedToken.{IndexedToken}
use Rattle.mtl_language.specs.AtomWords.{word_of}

abbrev pub is_letter : ℕ → Bool
is_letter b = nat_le 97 b && nat_le b 122

-- small letters, digits and _
abbrev pub is_word_byte : ℕ → Bool
is_word_byte b = is_letter b || (is_ascii_digit b || (b == 95))

-- the atoms that have no number
abbrev pub plain_atoms : List Atom
plain_atoms = Always ∷ Never ∷ Seen ∷ Risk ∷ Engaged ∷ Begin ∷ Overtaking ∷ Overtaken ∷ HeadOn ∷ CrossingGives ∷ CrossingStands ∷ Passing ∷ Unclassified ∷ Opening ∷ OtherOnPort ∷ Ahead ∷ Alters ∷ Apparent ∷ ToStarboard ∷ ToPort ∷ OtherApparent ∷ RankGives ∷ RankStands ∷ BothPower ∷ []

-- the atom that a word and its number make
abbrev pub measured : Measure → ℕ → Atom
measured measures.Age n = Age n
measured measures.Clear n = Clear n
measured measures.Close n = Close n

-- the word of an atom that has a number
abbrev pub measure_token : List ℕ → Token
measure_token run =
    if bytes_eq run (codes "age") then tokens.Measure measures.Age
    else if bytes_eq run (codes "clear") then tokens.Measure measures.Clear
    else if bytes_eq run (codes "close") then tokens.Measure measures.Close
    else tokens.Wrong

abbrev pub word_token_from : Option Atom → List ℕ → Token
word_token_from (Some a) run = tokens.Atom a
word_token_from None run = measure_token run

abbrev pub word_token : List ℕ → Token
word_token run = word_token_from (find (λ a. bytes_eq run (word_of a)) plain_atoms) run

-- at most nine digits
abbrev pub number_token : List ℕ → Token
number_token run = if nat_le (length run) 9 then tokens.Number (digits_value 10 run) else tokens.Wrong

abbrev pub sign_token : ℕ → Token
sign_token b =
    if b == 33 then tokens.Not
    else if b == 38 then tokens.Pair And
    else if b == 40 then tokens.Open
    else if b == 41 then tokens.Shut
    else if b == 44 then tokens.Comma
    else if b == 70 then tokens.Span F
    else if b == 71 then tokens.Span G
    else if b == 72 then tokens.Span H
    else if b == 79 then tokens.Span O
    else if b == 83 then tokens.Link S
    else if b == 85 then tokens.Link U
    else if b == 91 then tokens.OpenBounds
    else if b == 93 then tokens.ShutBounds
    else if b == 124 then tokens.Pair Or
    else tokens.Wrong

-- The bytes of the token at the front: the longest run of a word or a number, ->, or one byte.
abbrev pub front_run : List ℕ → List ℕ
front_run [] = []
front_run (b ∷ bs) =
    if is_letter b then take_while is_word_byte (b ∷ bs)
    else if is_ascii_digit b then take_while is_ascii_digit (b ∷ bs)
    else if bytes_eq (take 2 (b ∷ bs)) (codes "->") then codes "->"
    else b ∷ []

abbrev pub run_token : List ℕ → Token
run_token [] = tokens.Wrong
run_token (b ∷ bs) =
    if is_letter b then word_token (b ∷ bs)
    else if is_ascii_digit b then number_token (b ∷ bs)
    else if bytes_eq (b ∷ bs) (codes "->") then tokens.Pair Implies
    else sign_token b

-- The tokens of a text at an index, after this many bytes of an earlier token. Spaces separate tokens.
abbrev pub tokens_from : ℕ → ℕ → List ℕ → List IndexedToken
tokens_from behind index [] = []
tokens_from (suc behind) index (b ∷ bs) = tokens_from behind (index + 1) bs
tokens_from zero index (b ∷ bs) =
    if b == 32 then tokens_from 0 (index + 1) bs
    else record { token = run_token (front_run (b ∷ bs)); index = index } ∷ tokens_from (length (front_run (b ∷ bs)) - 1) (index + 1) bs

-- the tokens of a text, each with the index of its first byte
abbrev pub tokens_of : List ℕ → List IndexedToken
tokens_of text = tokens_from 0 0 text

abbrev pub kinds : List IndexedToken → List Token
kinds ps = map (λ (p : IndexedToken). p.token) ps
