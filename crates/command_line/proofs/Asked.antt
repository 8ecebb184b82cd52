-- Words ask for one request at most, and those of the plain form for theirs.
use Rattle.std.proofs.Common.{◌≡◌, ◌∙◌, sym, ap, List}
use Rattle.clap.specs.Words.{Text}
use Rattle.command_line.specs.GivenArguments.{AskForNothing}
use Rattle.command_line.specs.Requests.{AskFor, IsPlain, request_by}
use Rattle.command_line.specs.declared.request.Request.{Request}
use Rattle.command_line.proofs.Given.{given_or_nothing, one_given, plain_given}

pub one_asked : (words : List Text) (a b : Request) → AskFor words a → AskFor words b → a ≡ b
one_asked words a b (first, gives, is) (second, gives', is') = is ∙ ap request_by (one_given words first second gives gives') ∙ sym is'

pub asked_or_nothing : (words : List Text) (request : Request) → AskFor words request → AskForNothing words → ⊥
asked_or_nothing words request (given, gives, is) refused = given_or_nothing words given gives refused

pub plain_asked : (words : List Text) (request : Request) → IsPlain words request → AskFor words request
plain_asked words request (given, are, is) = (given, plain_given words given are, is)
