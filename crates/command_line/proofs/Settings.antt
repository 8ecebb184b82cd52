-- The options among the arguments of the command: each is found by its name, and no other is.
use Rattle.std.proofs.Common.{◌≡◌, ◌∙◌, true, false, refl, sym, ap, codes, List, [], ◌∷◌, ◌++◌, Some, None, if◌then◌else◌}
use Rattle.std.specs.List.{list_any}
use Rattle.std.specs.Borrow.{Bor}
use Rattle.std.specs.Str.{bytes_eq}
use Rattle.std.proofs.lemmas.Slice.Eq.{bytes_eq-Decides}
use Rattle.clap.specs.Lexer.{long_of}
use Rattle.clap.specs.Words.{Rule, Shape, Text}
use Rattle.clap.specs.Simple.{built, filled}
use Rattle.clap.specs.Walk.{arg_by_id, arg_by_long}
use Rattle.clap.specs.declared.builder.possible_value.PossibleValue.{PossibleValue}
use Rattle.clap.proofs.OnLiterals.{clap_on_literals}
use Rattle.command_line.specs.CommandLine.{CommandOption, colregs, label, rows_file, seed, setting_rule, settings, start, ticks, why}

abbrev pub Choices : Type 0
Choices = Bor (List PossibleValue)

-- the command as it is built
unfoldable pub top : Choices → Shape
unfolding colregs
top values = (built (colregs values)).top

-- an option as it is built
abbrev pub built_rule : CommandOption → Rule
built_rule s = filled (setting_rule s)

-- what distinguishes the option from every other argument, and its word from every other word
pub record IsKnown (values : Choices) (s : CommandOption) : Type 0 where
  pub by_id : arg_by_id (top values).rules (label s) ≡ Some (built_rule s)
  pub by_long : arg_by_long (top values).rules (label s) ≡ Some (built_rule s)
  pub long : long_of (codes "--" ++ label s) ≡ Some (label s, None)
  pub no_end : bytes_eq (codes "--" ++ label s) (45 ∷ 45 ∷ []) ≡ false
  pub itself : bytes_eq (label s) (label s) ≡ true
  pub no_mode : bytes_eq (codes "mode") (label s) ≡ false
  pub no_scenario : bytes_eq (codes "scenario") (label s) ≡ false
  pub listed : list_any (λ x. bytes_eq (label x) (label s)) settings ≡ true

pub known : (values : Choices) (s : CommandOption) → IsKnown values s
unfolding colregs top clap_on_literals
known values start =
    record { by_id = refl; by_long = refl; long = refl; no_end = refl; itself = refl; no_mode = refl; no_scenario = refl; listed = refl }
known values ticks =
    record { by_id = refl; by_long = refl; long = refl; no_end = refl; itself = refl; no_mode = refl; no_scenario = refl; listed = refl }
known values seed =
    record { by_id = refl; by_long = refl; long = refl; no_end = refl; itself = refl; no_mode = refl; no_scenario = refl; listed = refl }
known values why =
    record { by_id = refl; by_long = refl; long = refl; no_end = refl; itself = refl; no_mode = refl; no_scenario = refl; listed = refl }
known values rows_file =
    record { by_id = refl; by_long = refl; long = refl; no_end = refl; itself = refl; no_mode = refl; no_scenario = refl; listed = refl }

-- ---- options have different names

abbrev setting_of : Text → CommandOption
setting_of text = if bytes_eq text (codes "start") then start
    else if bytes_eq text (codes "ticks") then ticks
    else if bytes_eq text (codes "seed") then seed
    else if bytes_eq text (codes "why") then why
    else rows_file

setting_back : (s : CommandOption) → setting_of (label s) ≡ s
setting_back start = refl
setting_back ticks = refl
setting_back seed = refl
setting_back why = refl
setting_back rows_file = refl

pub setting_is : (a b : CommandOption) → bytes_eq (label a) (label b) ≡ true → a ≡ b
setting_is a b same = sym (setting_back a) ∙ ap setting_of ((bytes_eq-Decides (label a) (label b)).0 same) ∙ setting_back b
