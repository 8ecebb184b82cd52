use Rattle.std.proofs.Common.{◌≡◌, ◌∙◌, ◌⊎◌, inl, inr, ap, sym}
use Rattle.std.specs.Prelude.{Err, Ok, Result}
use Rattle.command_line.specs.Requests.{request_by}
use Rattle.command_line.specs.declared.arguments.Arguments.{Arguments}
use Rattle.command_line.specs.declared.arguments.WordsFault.{WordsFault}
use Rattle.command_line.specs.declared.arguments.WordsFault.TheVariants.{Memory}
use Rattle.command_line.specs.declared.request.Request.{Request}
use Rattle.command_line.proofs.Asked.{plain_asked}
use Rattle.command_line.proofs.request.request_of.Goals as goal

abbrev held : Arguments → Result Arguments WordsFault
held arguments = Ok arguments

abbrev answer : Request → Result Request WordsFault
answer request = Ok request

abbrev failed : WordsFault → Result Request WordsFault
failed fault = Err fault

abbrev unheld : WordsFault → Result Arguments WordsFault
unheld fault = Err fault

-- what is answered where arguments were found, and where they were not
found : (arguments given : Arguments) (request : Request) → request ≡ request_by given → (held arguments ≡ Ok given) ⊎ (held arguments ≡ Err Memory)
    → (answer (request_by arguments) ≡ Ok request) ⊎ (answer (request_by arguments) ≡ Err Memory)
found arguments given request is (inl same) = let one : arguments ≡ given = cc same in inl (ap answer (ap request_by one ∙ sym is))
found arguments given request is (inr memory) = cc memory

unfound : (fault : WordsFault) (given : Arguments) (request : Request) → (unheld fault ≡ Ok given) ⊎ (unheld fault ≡ Err Memory)
    → (failed fault ≡ Ok request) ⊎ (failed fault ≡ Err Memory)
unfound fault given request (inl same) = cc same
unfound fault given request (inr memory) = let one : fault ≡ Memory = cc memory in inr (ap failed one)

pub returns-in-Ok-clause-asked : goal.returns-in-Ok-clause-asked
returns-in-Ok-clause-asked c = (c.in-Ok.arguments, c.in-Ok.ensures.asked, c.request_by.ensures)

pub returns-in-Ok-clause-accepted : goal.returns-in-Ok-clause-accepted
returns-in-Ok-clause-accepted c request asked =
    rw c.request_by.ensures (found c.in-Ok.arguments asked.0 request asked.2 (c.in-Ok.ensures.accepted asked.0 asked.1))

pub returns-in-Ok-clause-plain : goal.returns-in-Ok-clause-plain
returns-in-Ok-clause-plain c request plain =
    let asked = plain_asked c.args.words.now request plain in
    rw c.request_by.ensures (found c.in-Ok.arguments asked.0 request asked.2 (c.in-Ok.ensures.accepted asked.0 asked.1))

pub returns-in-Err-clause-refused : goal.returns-in-Err-clause-refused
returns-in-Err-clause-refused c usage = c.in-Err.ensures.refused (cc usage)

pub returns-in-Err-clause-accepted : goal.returns-in-Err-clause-accepted
returns-in-Err-clause-accepted c request asked = unfound c.in-Err.fault asked.0 request (c.in-Err.ensures.accepted asked.0 asked.1)

pub returns-in-Err-clause-plain : goal.returns-in-Err-clause-plain
returns-in-Err-clause-plain c request plain =
    let asked = plain_asked c.args.words.now request plain in
    unfound c.in-Err.fault asked.0 request (c.in-Err.ensures.accepted asked.0 asked.1)
