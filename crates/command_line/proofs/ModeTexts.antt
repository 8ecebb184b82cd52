-- The texts of the modes: each is a plain word, the argument `mode` takes it, and it names one mode.
use Rattle.std.proofs.Common.{◌≡◌, codes, false, refl, true, if◌then◌else◌}
use Rattle.std.specs.List.{list_any}
use Rattle.std.specs.Str.{bytes_eq}
use Rattle.clap.specs.Words.{Text, possible_matches}
use Rattle.tasks.specs.declared.mode.Mode.TheVariants as mode
use Rattle.command_line.specs.CommandLine.{AreModes, mode_text}
use Rattle.command_line.specs.GivenArguments.{is_plain_text}
use Rattle.command_line.specs.declared.mode.ModeArgument.{ModeArgument}
use Rattle.command_line.specs.declared.mode.ModeArgument.TheVariants as argument
use Rattle.command_line.proofs.Settings.{Choices}

pub mode_is_name : (m : ModeArgument) → is_plain_text (mode_text m) ≡ true
mode_is_name (argument.Report mode.Points) = refl
mode_is_name (argument.Report mode.Audit) = refl
mode_is_name (argument.Report mode.Plan) = refl
mode_is_name (argument.Report mode.Drill) = refl
mode_is_name argument.Migrate = refl
mode_is_name (argument.Report mode.Recheck) = refl
mode_is_name (argument.Report mode.Watch) = refl

-- the argument `mode` takes the text
pub mode_accepted : (values : Choices) → AreModes values.now → (m : ModeArgument) → list_any (possible_matches false (mode_text m)) values.now ≡ true
mode_accepted values are (argument.Report mode.Points) = are (codes "points")
mode_accepted values are (argument.Report mode.Audit) = are (codes "audit")
mode_accepted values are (argument.Report mode.Plan) = are (codes "plan")
mode_accepted values are (argument.Report mode.Drill) = are (codes "drill")
mode_accepted values are argument.Migrate = are (codes "migrate")
mode_accepted values are (argument.Report mode.Recheck) = are (codes "recheck")
mode_accepted values are (argument.Report mode.Watch) = are (codes "watch")

-- the mode of a text
abbrev pub mode_of : Text → ModeArgument
mode_of text = if bytes_eq text (codes "points") then argument.Report mode.Points
    else if bytes_eq text (codes "audit") then argument.Report mode.Audit
    else if bytes_eq text (codes "plan") then argument.Report mode.Plan
    else if bytes_eq text (codes "drill") then argument.Report mode.Drill
    else if bytes_eq text (codes "migrate") then argument.Migrate
    else if bytes_eq text (codes "recheck") then argument.Report mode.Recheck
    else argument.Report mode.Watch

pub mode_back : (m : ModeArgument) → mode_of (mode_text m) ≡ m
mode_back (argument.Report mode.Points) = refl
mode_back (argument.Report mode.Audit) = refl
mode_back (argument.Report mode.Plan) = refl
mode_back (argument.Report mode.Drill) = refl
mode_back argument.Migrate = refl
mode_back (argument.Report mode.Recheck) = refl
mode_back (argument.Report mode.Watch) = refl
