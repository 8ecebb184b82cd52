-- Values by the kind of their option: what is given, what stands as a default, and what their texts say.
use Rattle.std.proofs.Common.{◌≡◌, ◌∙◌, ◌<◌, ◌≤◌, ◌^◌, ℕ, Bool, true, false, refl, sym, ap, subst, arith, [], Some, None, Option, is_some}
use Rattle.std.specs.Prelude.{IfSome, option_map}
use Rattle.std.specs.Option.{option_or}
use Rattle.std.specs.Str.Parse.{digits_value, without_leading_plus}
use Rattle.clap.specs.Words.{Text}
use Rattle.clap.specs.ValueTests.{accepts}
use Rattle.clap.specs.declared.builder.value_parser.ValueParser.{ValueParser}
use Rattle.clap.specs.declared.builder.value_parser.ValueParser.TheVariants as parser
use Rattle.command_line.specs.CommandLine.{Kind, CommandOption, Value, a_flag, a_number, a_text, default_of, flag, kind_of, rows_file, seed, start, takes_number, takes_text, ticks, why, written}
use Rattle.command_line.specs.GivenArguments.{IsTaken, MayBeGiven, is_plain_text, said, value_of}
use Rattle.command_line.specs.declared.arguments.Options.{Options}
use Rattle.command_line.proofs.Numbers.{decimal_accepted, decimal_is_number, decimal_is_plain}

-- the numbers of the kind are small, and its default lies in the range
abbrev pub IsSound : Kind → Type 0
IsSound (takes_number low high default) = (high < 2 ^ 64) × IfSome default (λ n. (low ≤ n) × (n ≤ high))
IsSound flag = Unit {0}
IsSound (takes_text default) = Unit {0}

-- the value is one of the kind
abbrev pub IsRight : Kind → Value → Type 0
IsRight (takes_number low high default) (a_number n) = (n < 2 ^ 64) × (low ≤ n) × (n ≤ high)
IsRight flag (a_flag given) = Unit {0}
IsRight (takes_text default) (a_text text) = Unit {0}
IsRight _ _ = ⊥

pub right_given : (k : Kind) (v : Value) → IsSound k → MayBeGiven k v → IsRight k v
right_given (takes_number low high default) (a_number n) sound may = (omega (arith, sound.0, may.1), may.0, may.1)
right_given flag (a_flag given) sound may = tt
right_given (takes_text default) (a_text text) sound may = tt
right_given (takes_number low high default) (a_flag given) sound may = absurd may
right_given (takes_number low high default) (a_text text) sound may = absurd may
right_given flag (a_number n) sound may = absurd may
right_given flag (a_text text) sound may = absurd may
right_given (takes_text default) (a_number n) sound may = absurd may
right_given (takes_text default) (a_flag given) sound may = absurd may

pub right_default : (k : Kind) → IsSound k → IfSome (default_of k) (IsRight k)
right_default (takes_number low high None) sound = tt
right_default (takes_number low high (Some n)) sound = (omega (arith, sound.0, sound.1.1), sound.1.0, sound.1.1)
right_default flag sound = tt
right_default (takes_text None) sound = tt
right_default (takes_text (Some text)) sound = tt

-- its text is taken, and says the value
pub right_said : (k : Kind) (v : Value) → IsRight k v → IsTaken k (written v) × (Some v ≡ said k (Some (written v)))
right_said (takes_number low high default) (a_number n) is =
    let number = decimal_is_number n is.0 in
    ((n, is.1, is.2, number), ap (λ m. Some (a_number m)) number.1)
right_said flag (a_flag true) is = (tt, refl)
right_said flag (a_flag false) is = (tt, refl)
right_said (takes_text default) (a_text text) is = (tt, refl)
right_said (takes_number low high default) (a_flag given) is = absurd is
right_said (takes_number low high default) (a_text text) is = absurd is
right_said flag (a_number n) is = absurd is
right_said flag (a_text text) is = absurd is
right_said (takes_text default) (a_number n) is = absurd is
right_said (takes_text default) (a_flag given) is = absurd is

nothing_said : (k : Kind) → default_of k ≡ None → None ≡ said k None
nothing_said (takes_number low high default) none = refl
nothing_said flag none = cc
nothing_said (takes_text default) none = refl

-- matches whose text is that of a value hold the value
pub held_by : (k : Kind) (held : Option Text) (o : Option Value) → held ≡ option_map written o → IfSome o (IsRight k) → (o ≡ None → default_of k ≡ None)
    → IfSome held (IsTaken k) × (o ≡ said k held)
held_by k held o is right none = subst (λ (t : Option Text). IfSome t (IsTaken k) × (o ≡ said k t)) (sym is) (go o right none)
  where
    go : (v : Option Value) → IfSome v (IsRight k) → (v ≡ None → default_of k ≡ None) → IfSome (option_map written v) (IsTaken k) × (v ≡ said k (option_map written v))
    go None right none = (tt, nothing_said k (none refl))
    go (Some v) right none = right_said k v right

pub left_out : (o d : Option Value) → option_or o d ≡ None → d ≡ None
left_out None d none = none
left_out (Some v) d none = cc

-- the option takes a value
abbrev pub TakesValue : Kind → Type 0
TakesValue (takes_number low high default) = Unit {0}
TakesValue flag = ⊥
TakesValue (takes_text default) = Unit {0}

-- ---- what `clap` tests

abbrev pub parser_of_kind : Kind → ValueParser
parser_of_kind (takes_number low high default) = parser.Unsigned low high
parser_of_kind flag = parser.Bool
parser_of_kind (takes_text default) = parser.String

pub right_accepted : (k : Kind) (v : Value) → IsRight k v → accepts false (parser_of_kind k) (written v) ≡ true
right_accepted (takes_number low high default) (a_number n) is = decimal_accepted low high n is.0 is.1 is.2
right_accepted flag (a_flag true) is = refl
right_accepted flag (a_flag false) is = refl
right_accepted (takes_text default) (a_text text) is = refl
right_accepted (takes_number low high default) (a_flag given) is = absurd is
right_accepted (takes_number low high default) (a_text text) is = absurd is
right_accepted flag (a_number n) is = absurd is
right_accepted flag (a_text text) is = absurd is
right_accepted (takes_text default) (a_number n) is = absurd is
right_accepted (takes_text default) (a_flag given) is = absurd is

-- an option with a default that says nothing holds no text
pub lacks : (k : Kind) (held : Option Text) → said k held ≡ None → is_some (default_of k) ≡ true → (TakesValue k → is_some held ≡ true) → ⊥
lacks (takes_number low high default) None none some filled = let bad : false ≡ true = filled tt in cc
lacks (takes_number low high default) (Some text) none some filled = cc
lacks flag held none some filled = cc
lacks (takes_text default) None none some filled = let bad : false ≡ true = filled tt in cc
lacks (takes_text default) (Some text) none some filled = cc

-- what may be given behind an option of the kind
pub flag_kind : (k : Kind) (given : Bool) → MayBeGiven k (a_flag given) → (k ≡ flag) × (given ≡ true)
flag_kind (takes_number low high default) given may = absurd may
flag_kind flag given may = (refl, may)
flag_kind (takes_text default) given may = absurd may

pub number_kind : (k : Kind) (n : ℕ) → IsSound k → MayBeGiven k (a_number n) → TakesValue k × (is_plain_text (written (a_number n)) ≡ true)
number_kind (takes_number low high default) n sound may = (tt, decimal_is_plain n (omega (arith, sound.0, may.1)))
number_kind flag n sound may = absurd may
number_kind (takes_text default) n sound may = absurd may

pub text_kind : (k : Kind) (text : Text) → MayBeGiven k (a_text text) → TakesValue k × (is_plain_text text ≡ true)
text_kind (takes_number low high default) text may = absurd may
text_kind flag text may = absurd may
text_kind (takes_text default) text may = (tt, may)

-- ---- the options of the table

pub sound : (s : CommandOption) → IsSound (kind_of s)
sound start = (omega arith, tt)
sound ticks = (omega arith, tt)
sound seed = (omega arith, (omega arith, omega arith))
sound why = tt
sound rows_file = tt

-- an option with a default always has a value
pub has_value : (s : CommandOption) (options : Options) → is_some (default_of (kind_of s)) ≡ true → is_some (value_of s options) ≡ true
has_value start options some = cc
has_value ticks options some = cc
has_value seed options some = refl
has_value why options some = refl
has_value rows_file options some = refl

abbrev in_number : Value → ℕ
in_number (a_number n) = n
in_number (a_flag given) = 0
in_number (a_text text) = 0

abbrev in_flag : Value → Bool
in_flag (a_flag given) = given
in_flag _ = false

abbrev in_text : Value → Text
in_text (a_text text) = text
in_text _ = []

abbrev number_given : Option Value → Option ℕ
number_given = option_map in_number

given_back : (o : Option ℕ) → number_given (option_map a_number o) ≡ o
given_back None = refl
given_back (Some n) = refl

same_number : (a b : Option ℕ) → option_map a_number a ≡ option_map a_number b → a ≡ b
same_number a b same = sym (given_back a) ∙ ap number_given same ∙ given_back b

abbrev one_value : Option Value → Value
one_value None = a_number 0
one_value (Some v) = v

-- options with the same values are the same
pub same_options : (a b : Options) → ((s : CommandOption) → value_of s a ≡ value_of s b) → a ≡ b
same_options a b same =
    let starts = same_number a.start b.start (same start) in
    let ticks_same = same_number a.ticks b.ticks (same ticks) in
    let seeds : a.seed ≡ b.seed = ap (λ o. in_number (one_value o)) (same seed) in
    let whys : a.why ≡ b.why = ap (λ o. in_flag (one_value o)) (same why) in
    let rows : a.rows ≡ b.rows = ap (λ o. in_text (one_value o)) (same rows_file) in
    λ i. record { start = starts i; ticks = ticks_same i; seed = seeds i; why = whys i; rows = rows i }

-- a number that is held lies in its range
pub number_lies : (low high : ℕ) (default : Option ℕ) (held : Option Text) (o : Option ℕ) → IfSome held (IsTaken (takes_number low high default))
    → option_map a_number o ≡ said (takes_number low high default) held → IfSome o (λ n. (low ≤ n) × (n ≤ high))
number_lies low high default held None taken is = tt
number_lies low high default None (Some n) taken is = cc
number_lies low high default (Some text) (Some n) taken is =
    let value : n ≡ digits_value 10 (without_leading_plus text) = ap (λ o. in_number (one_value o)) is in
    let same : taken.0 ≡ n = taken.3.1 ∙ sym value in
    (subst (λ m. low ≤ m) same taken.1, subst (λ m. m ≤ high) same taken.2)
