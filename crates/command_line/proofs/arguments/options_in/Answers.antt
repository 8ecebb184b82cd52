use Rattle.std.proofs.Common.{◌≡◌, ◌∙◌, ℕ, inl, inr, refl, sym, ap, subst, codes, List, Option, Some, None}
use Rattle.std.specs.Prelude.{Err, IfSome, IsErrAnd, Ok, Result, option_map}
use Rattle.clap.specs.Words.{Row, Text, first_of, found_of, rows_of}
use Rattle.command_line.specs.CommandLine.{CommandOption, a_flag, a_number, a_text, flag, kind_of, label, rows_file, seed, start, takes_number, takes_text, ticks, why}
use Rattle.command_line.specs.GivenArguments.{HoldsValue, IsTaken, said, value_of}
use Rattle.command_line.specs.Inner.Reading.{GivesNumber, GivesOptions}
use Rattle.command_line.specs.declared.arguments.Options.{Options}
use Rattle.command_line.specs.declared.arguments.WordsFault.{WordsFault}
use Rattle.command_line.specs.declared.arguments.WordsFault.TheVariants.{Memory, Usage}
use Rattle.command_line.proofs.arguments.options_in.Goals as goal

-- where a number is not given as the option takes it, the options are not
number_fails : (rows : List Row) (s : CommandOption) (low high : ℕ) (default : Option ℕ) (r : Result Options WordsFault) (fault : WordsFault)
    → kind_of s ≡ takes_number low high default → IsErrAnd r (λ e. e ≡ fault) → GivesNumber rows (label s) low high (Err fault) → GivesOptions rows r
number_fails rows s low high default (Ok options) fault kind is gives = absurd is
number_fails rows s low high default (Err Memory) fault kind is gives = tt
number_fails rows s low high default (Err Usage) Memory kind is gives = absurd gives
number_fails rows s low high default (Err Usage) Usage kind is gives =
    inr (
      s,
      gives.0,
      gives.1,
      λ taken.
          let t : IsTaken (takes_number low high default) gives.0 = rw kind at taken in
          gives.2 t.0 (t.1, t.2, t.3),
    )

held_number : (rows : List Row) (name : Text) (low high : ℕ) (default number : Option ℕ) → GivesNumber rows name low high (Ok number)
    → IfSome (first_of name rows) (IsTaken (takes_number low high default)) × (option_map a_number number ≡ said (takes_number low high default) (first_of name rows))
held_number rows name low high default None gives = rw gives (tt, refl)
held_number rows name low high default (Some n) gives = rw gives.1 ((n, gives.2.0, gives.2.1, gives.2.2), ap (λ m. Some (a_number m)) gives.2.2.1)

flag_taken : (held : Option Text) → IfSome held (IsTaken flag)
flag_taken None = tt
flag_taken (Some text) = tt

text_taken : (held default : Option Text) → IfSome held (IsTaken (takes_text default))
text_taken None default = tt
text_taken (Some text) default = tt

-- the options are held where each is
held_options : (rows : List Row) (options : Options) → GivesNumber rows (codes "start") 0 9999999999 (Ok options.start)
    → GivesNumber rows (codes "ticks") 1 20000 (Ok options.ticks) → GivesNumber rows (codes "seed") 0 999999 (Ok (Some options.seed))
    → Some (a_flag options.why) ≡ said flag (first_of (codes "why") rows) → Some options.rows ≡ first_of (codes "rows") rows
    → (s : CommandOption) → HoldsValue rows s (value_of s options)
held_options rows o first second third fourth fifth start = held_number rows (codes "start") 0 9999999999 None o.start first
held_options rows o first second third fourth fifth ticks = held_number rows (codes "ticks") 1 20000 None o.ticks second
held_options rows o first second third fourth fifth seed = held_number rows (codes "seed") 0 999999 (Some 1) (Some o.seed) third
held_options rows o first second third fourth fifth why = (flag_taken (first_of (codes "why") rows), fourth)
held_options rows o first second third fourth fifth rows_file =
    (text_taken (first_of (codes "rows") rows) (Some (codes "why.csv")), ap (option_map a_text) fifth)

pub returns-in_err-start : goal.returns-in_err-start
returns-in_err-start c =
    number_fails (rows_of (found_of c.args.matches.now)) start 0 9999999999 None c.from_residual.result c.in_err-start.field-0.0 refl c.from_residual.ensures.1 c.in_err-start.ensures

pub returns-in_err-number_given : goal.returns-in_err-number_given
returns-in_err-number_given c =
    number_fails (rows_of (found_of c.args.matches.now)) ticks 1 20000 None c.from_residual-in_err-number_given.result c.in_err-number_given.field-0.0 refl
    c.from_residual-in_err-number_given.ensures.1 c.in_err-number_given.ensures

pub returns-in_err-seed : goal.returns-in_err-seed
returns-in_err-seed c =
    number_fails (rows_of (found_of c.args.matches.now)) seed 0 999999 (Some 1) c.from_residual-in_err-seed.result c.in_err-seed.field-0.0 refl
    c.from_residual-in_err-seed.ensures.1 c.in_err-seed.ensures

pub returns-in_default : goal.returns-in_default
returns-in_default c = inl (seed, ap (said (kind_of seed)) (rw c.in_default.is at c.in_ok-seed.ensures), refl)

pub returns-in_default-text_given : goal.returns-in_default-text_given
returns-in_default-text_given c = inl (rows_file, ap (said (kind_of rows_file)) (sym (rw c.in_default-text_given.is at c.text_given.ensures)), refl)

pub returns-in-Err : goal.returns-in-Err
returns-in-Err c = tt

pub returns-in-Ok : goal.returns-in-Ok
returns-in-Ok c =
    let rows = rows_of (found_of c.args.matches.now) in
    held_options rows _ c.in_ok-start.ensures
    (subst (λ (n : Option ℕ). GivesNumber rows (codes "ticks") 1 20000 (Ok n)) (sym c.narrow-ticks.ensures) c.in_ok-number_given.ensures)
    (rw c.in-Some.is at c.in_ok-seed.ensures) c.flag_given-why.ensures (ap Some c.in-Ok.ensures ∙ c.in-Some-text_given.ensures)
