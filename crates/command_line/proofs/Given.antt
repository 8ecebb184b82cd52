-- Words give arguments in one way at most, wherever the list of the modes stands.
use Rattle.std.proofs.Common.{◌≡◌, ◌∙◌, ◌||◌, Bool, true, false, refl, sym, ap₂, subst, map, List, [], ◌∷◌, None}
use Rattle.std.specs.Borrow.{Bor}
use Rattle.std.specs.List.{list_any}
use Rattle.std.specs.Str.{bytes_eq}
use Rattle.clap.specs.Words.{Row, Text, matches_of, possible_matches}
use Rattle.clap.specs.declared.builder.possible_value.PossibleValue.{PossibleValue}
use Rattle.command_line.specs.CommandLine.{AreModes, colregs, mode_text, modes}
use Rattle.command_line.specs.GivenArguments.{GiveArguments, AskForNothing, HoldsArguments, IsAccepted, ArePlain, AreWordsRefused, with_program_name}
use Rattle.command_line.specs.declared.mode.ModeArgument.{ModeArgument}
use Rattle.command_line.specs.declared.arguments.Arguments.{Arguments}
use Rattle.command_line.proofs.Alike.{fault_alike, matches_alike}
use Rattle.command_line.proofs.HeldArguments.{one_held, plain_accepted}
use Rattle.command_line.proofs.Settings.{Choices}

same_values : (v w : Choices) → AreModes v.now → AreModes w.now → (text : Text) → list_any (possible_matches false text) v.now ≡ list_any (possible_matches false text) w.now
same_values v w are_v are_w text = are_v text ∙ sym (are_w text)

-- what is asked for is accepted with any list of the modes
pub given_accepted : (words : List Text) (arguments : Arguments) → GiveArguments words arguments → (values : Choices) → AreModes values.now → IsAccepted (colregs values) words arguments
given_accepted words arguments asked values are =
    let v = asked.1.0 in
    let same = same_values v values asked.1.1 are in
    let here : IsAccepted (colregs v) words arguments = subst (λ app. IsAccepted app words arguments) asked.1.2 asked.2 in
    (sym (fault_alike v values same words) ∙ here.0, subst (λ (rows : List Row). HoldsArguments rows arguments) (matches_alike v values same words) here.1)

pub one_given : (words : List Text) (a b : Arguments) → GiveArguments words a → GiveArguments words b → a ≡ b
one_given words a b first second =
    let v = first.1.0 in
    let here = given_accepted words a first v first.1.1 in
    let there = given_accepted words b second v first.1.1 in
    one_held (matches_of (colregs v) (with_program_name words)) a b here.1 there.1

refused_here : (v : Choices) (words : List Text) (arguments : Arguments) → IsAccepted (colregs v) words arguments → AreWordsRefused (colregs v) words → ⊥
refused_here v words arguments accepted faulty = faulty accepted.0

pub given_or_nothing : (words : List Text) (arguments : Arguments) → GiveArguments words arguments → AskForNothing words → ⊥
given_or_nothing words arguments asked refused =
    let v = refused.1.0 in
    refused_here v words arguments (given_accepted words arguments asked v refused.1.1) (subst (λ app. AreWordsRefused app words) refused.1.2 refused.2)

-- ---- a list of the modes

abbrev text_at : Text → Bor Text
text_at text = record { ref_ptr = (0, 0); now = text }

abbrev value_of : ModeArgument → PossibleValue
value_of m = record { name = text_at (mode_text m); help = None; aliases = record { ref_ptr = (0, 0); now = [] }; hide = false }

abbrev pub listed : Choices
listed = record { ref_ptr = (0, 0); now = map value_of modes }

or_false : (b : Bool) → (b || false) ≡ b
or_false true = refl
or_false false = refl

listed_matches : (ms : List ModeArgument) (text : Text) → list_any (possible_matches false text) (map value_of ms) ≡ list_any (λ m. bytes_eq (mode_text m) text) ms
listed_matches [] text = refl
listed_matches (m ∷ ms) text = ap₂ (λ a b. a || b) (or_false (bytes_eq (mode_text m) text)) (listed_matches ms text)

pub listed_modes : AreModes listed.now
listed_modes text = listed_matches modes text

pub plain_given : (words : List Text) (arguments : Arguments) → ArePlain words arguments → GiveArguments words arguments
plain_given words arguments plain = (colregs listed, (listed, listed_modes, refl), plain_accepted listed listed_modes words arguments plain)
