-- The arguments that stand for numbers in their ranges have the plain form, and ask for what the numbers say.
use Rattle.std.proofs.Common.{ℕ, ◌≡◌, ◌==◌, ◌≤◌, ◌&&◌, ◌||◌, ◌++◌, Bool, true, false, not, nat_le, IsTrue, List, [], ◌∷◌, codes, Some, None, refl, arith, if◌then◌else◌}
use Rattle.std.proofs.lemmas.Bool.Decides.{nat_tests}
use Rattle.command_line.specs.CommandLine.{CommandOption, Value, a_flag, a_number, mode_text, rows_file, seed, start, ticks, why}
use Rattle.command_line.specs.GivenArguments.{AreOnce, ArePlain, MayAllBeGiven, value_among, value_of}
use Rattle.command_line.specs.Requests.{IsPlain, request_by}
use Rattle.command_line.specs.declared.arguments.Arguments.{Arguments}
use Rattle.command_line.specs.declared.arguments.Options.{Options}
use Rattle.command_line.specs.declared.mode.ModeArgument.{ModeArgument}
use Rattle.command_line.specs.declared.mode.ModeArgument.TheVariants as argument
use Rattle.colregs_c.specs.Arguments.{are_in_range, arguments_of, given, own_start, request_of}
use Rattle.colregs_c.specs.declared.numbers.OptionNumbers.{OptionNumbers}

-- ---- the ranges

both : (a b : Bool) → (a && b) ≡ true → (a ≡ true) × (b ≡ true)
both true b is = (refl, is)
both false b is = cc is

within : (m n : ℕ) → nat_le m n ≡ true → m ≤ n
within m n is = grind (arith, nat_tests)

one_at_least : (n : ℕ) → (n == 0) ≡ false → 1 ≤ n
one_at_least n some = grind (arith, nat_tests)

or_first : (a b : Bool) → (a || b) ≡ true → b ≡ false → a ≡ true
or_first true b either none = refl
or_first false b either none = cc (either, none)

-- ---- the options that are given, by what stands for the scenario's own

abbrev given_by : Bool → Bool → Bool → ℕ → ℕ → ℕ → List (CommandOption × Value)
given_by own_begin own_ticks silent begin count number =
    (if own_begin then [] else (start, a_number begin) ∷ [])
    ++ ((if own_ticks then [] else (ticks, a_number count) ∷ []) ++ (((seed, a_number number) ∷ []) ++ (if silent then [] else (why, a_flag true) ∷ [])))

abbrev options_by : Bool → Bool → Bool → ℕ → ℕ → ℕ → Options
options_by own_begin own_ticks silent begin count number = record {
  start = if own_begin then None else Some begin;
  ticks = if own_ticks then None else Some count;
  seed = number;
  why = not silent;
  rows = codes "why.csv";
}

once_by : (a b d : Bool) (begin count number : ℕ) → AreOnce (given_by a b d begin count number)
once_by true true true begin count number = (refl, tt)
once_by true true false begin count number = (refl, (refl, tt))
once_by true false true begin count number = (refl, (refl, tt))
once_by true false false begin count number = (refl, (refl, (refl, tt)))
once_by false true true begin count number = (refl, (refl, tt))
once_by false true false begin count number = (refl, (refl, (refl, tt)))
once_by false false true begin count number = (refl, (refl, (refl, tt)))
once_by false false false begin count number = (refl, (refl, (refl, (refl, tt))))

from_zero : (n : ℕ) → 0 ≤ n
from_zero n = omega arith

may_by : (a b d : Bool) (begin count number : ℕ) → (a ≡ false → begin ≤ 9999999999) → (b ≡ false → (1 ≤ count) × (count ≤ 20000)) → number ≤ 999999
    → MayAllBeGiven (given_by a b d begin count number)
may_by true true true begin count number first second third = ((from_zero number, third), tt)
may_by true true false begin count number first second third = ((from_zero number, third), (refl, tt))
may_by true false true begin count number first second third = (second refl, ((from_zero number, third), tt))
may_by true false false begin count number first second third = (second refl, ((from_zero number, third), (refl, tt)))
may_by false true true begin count number first second third = ((from_zero begin, first refl), ((from_zero number, third), tt))
may_by false true false begin count number first second third = ((from_zero begin, first refl), ((from_zero number, third), (refl, tt)))
may_by false false true begin count number first second third = ((from_zero begin, first refl), (second refl, ((from_zero number, third), tt)))
may_by false false false begin count number first second third = ((from_zero begin, first refl), (second refl, ((from_zero number, third), (refl, tt))))

values_by : (a b d : Bool) (begin count number : ℕ) (s : CommandOption) → value_of s (options_by a b d begin count number) ≡ value_among s (given_by a b d begin count number)
values_by true true true begin count number start = refl
values_by true true true begin count number ticks = refl
values_by true true true begin count number seed = refl
values_by true true true begin count number why = refl
values_by true true true begin count number rows_file = refl
values_by true true false begin count number start = refl
values_by true true false begin count number ticks = refl
values_by true true false begin count number seed = refl
values_by true true false begin count number why = refl
values_by true true false begin count number rows_file = refl
values_by true false true begin count number start = refl
values_by true false true begin count number ticks = refl
values_by true false true begin count number seed = refl
values_by true false true begin count number why = refl
values_by true false true begin count number rows_file = refl
values_by true false false begin count number start = refl
values_by true false false begin count number ticks = refl
values_by true false false begin count number seed = refl
values_by true false false begin count number why = refl
values_by true false false begin count number rows_file = refl
values_by false true true begin count number start = refl
values_by false true true begin count number ticks = refl
values_by false true true begin count number seed = refl
values_by false true true begin count number why = refl
values_by false true true begin count number rows_file = refl
values_by false true false begin count number start = refl
values_by false true false begin count number ticks = refl
values_by false true false begin count number seed = refl
values_by false true false begin count number why = refl
values_by false true false begin count number rows_file = refl
values_by false false true begin count number start = refl
values_by false false true begin count number ticks = refl
values_by false false true begin count number seed = refl
values_by false false true begin count number why = refl
values_by false false true begin count number rows_file = refl
values_by false false false begin count number start = refl
values_by false false false begin count number ticks = refl
values_by false false false begin count number seed = refl
values_by false false false begin count number why = refl
values_by false false false begin count number rows_file = refl

-- ---- the arguments

abbrev made : ModeArgument → OptionNumbers → Arguments
made mode options = record {
  mode = mode;
  name = codes "scenario.toml";
  options = options_by (options.start == own_start) (options.ticks == 0) (options.flags == 0) options.start options.ticks options.seed;
}

asks_so : (mode : ModeArgument) (options : OptionNumbers) → request_of mode options ≡ request_by (made mode options)
asks_so argument.Migrate options = refl
asks_so (argument.Report kind) options = refl

plain_made : (mode : ModeArgument) (options : OptionNumbers) → IsTrue (are_in_range options) → ArePlain (arguments_of (mode_text mode) options) (made mode options)
plain_made mode options range =
    let first = both (nat_le options.start 9999999999 || (options.start == own_start)) _ range in
    let second = both (nat_le options.ticks 20000) _ first.1 in
    let third = both (nat_le options.seed 999999) _ second.1 in
    record {
      given = given options;
      form = refl;
      name = refl;
      once = once_by (options.start == own_start) (options.ticks == 0) (options.flags == 0) options.start options.ticks options.seed;
      values = may_by (options.start == own_start) (options.ticks == 0) (options.flags == 0) options.start options.ticks options.seed
          (λ some. within options.start 9999999999 (or_first (nat_le options.start 9999999999) (options.start == own_start) first.0 some))
          (λ some. (one_at_least options.ticks some, within options.ticks 20000 second.0)) (within options.seed 999999 third.0);
      options = values_by (options.start == own_start) (options.ticks == 0) (options.flags == 0) options.start options.ticks options.seed;
    }

pub plain_numbers : (mode : ModeArgument) (options : OptionNumbers) → IsTrue (are_in_range options) → IsPlain (arguments_of (mode_text mode) options) (request_of mode options)
plain_numbers mode options range = (made mode options, plain_made mode options range, asks_so mode options)
