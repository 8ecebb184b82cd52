use Rattle.std.proofs.Common.{◌≡◌, ◌≢◌, ◌∙◌, ◌⊎◌, inr, ap, ap₂, map, sym, subst, rules, refl}
use Rattle.std.specs.Prelude.{Err, Ok, Result}
use Rattle.std.proofs.lemmas.Result.{IfOk-weaker}
use Rattle.clap.specs.Words.{app_of, fault_of, found_of, is_simple, is_simple_and_free, kind_of, matches_of, rows_of}
use Rattle.command_line.specs.CommandLine.{AreModes, colregs}
use Rattle.command_line.specs.GivenArguments.{GiveArguments, HoldsArguments}
use Rattle.clap.specs.declared.error.kind.ErrorKind.TheVariants.{OutOfMemory}
use Rattle.clap.specs.declared.error.kind.ErrorKind.{ErrorKind}
use Rattle.command_line.specs.declared.arguments.Arguments.{Arguments}
use Rattle.command_line.specs.declared.arguments.WordsFault.{WordsFault}
use Rattle.command_line.specs.declared.arguments.WordsFault.TheVariants.{Memory, Usage}
use Rattle.command_line.proofs.Given.{given_accepted}
use Rattle.command_line.proofs.HeldArguments.{colregs_is_simple, colregs_simple, held_answer, parsed_whole, some_kind}
use Rattle.command_line.proofs.arguments.arguments_of.Goals as goal

abbrev failed : WordsFault → Result Arguments WordsFault
failed fault = Err fault

-- the error is not memory that ran out, if the fault says so
other_kind : (fault : WordsFault) (kind of_error : ErrorKind) → kind ≡ of_error → (fault ≡ Usage → kind ≢ OutOfMemory) → failed fault ≡ Err Usage → of_error ≡ OutOfMemory → ⊥
other_kind fault kind of_error same told usage memory = told (cc) (same ∙ memory)

refused_by_memory : (arguments : Arguments) (fault : WordsFault) (kind of_error : ErrorKind) → kind ≡ of_error → (fault ≡ Usage → kind ≢ OutOfMemory)
    → ((of_error ≡ OutOfMemory → ⊥) → ⊥) → (failed fault ≡ Ok arguments) ⊎ (failed fault ≡ Err Memory)
refused_by_memory arguments Memory kind of_error same told other = inr refl
refused_by_memory arguments Usage kind of_error same told other = absurd (other (λ memory. told refl (same ∙ memory)))

pub returns-in-Ok-try_get_matches_from-clause-asked : goal.returns-in-Ok-try_get_matches_from-clause-asked
returns-in-Ok-try_get_matches_from-clause-asked c =
    let values = c.as_slice.result in
    let words = c.args.words.now in
    let are : AreModes values.now = search rules in
    let app_is : app_of c.in-Ok-colregs.command ≡ colregs values = c.in-Ok-colregs.ensures in
    let words_are = ap (map (λ s. s.now)) c.as_slice-2.ensures.value ∙ c.in-Ok.ensures in
    let parse = c.in-Ok-try_get_matches_from.ensures in
    let faultless = sym (ap₂ fault_of app_is words_are) ∙ parse.kinds (ap is_simple_and_free app_is ∙ colregs_simple values) in
    let rows_are = (parse.matches (ap is_simple app_is ∙ colregs_is_simple values)).0 ∙ ap₂ matches_of app_is words_are in
    IfOk-weaker c.arguments_in-arguments.result (HoldsArguments (rows_of (found_of c.in-Ok-try_get_matches_from.matches))) (GiveArguments words)
    (λ arguments held. (colregs values, (values, are, refl), (faultless, subst (λ rows. HoldsArguments rows arguments) rows_are held))) c.arguments_in-arguments.ensures.held

pub returns-in-Ok-try_get_matches_from-clause-refused : goal.returns-in-Ok-try_get_matches_from-clause-refused
returns-in-Ok-try_get_matches_from-clause-refused c usage =
    let values = c.as_slice.result in
    let are : AreModes values.now = search rules in
    let app_is : app_of c.in-Ok-colregs.command ≡ colregs values = c.in-Ok-colregs.ensures in
    let words_are = ap (map (λ s. s.now)) c.as_slice-2.ensures.value ∙ c.in-Ok.ensures in
    let parse = c.in-Ok-try_get_matches_from.ensures in
    absurd (parsed_whole c.in-Ok-colregs.command c.in-Ok-try_get_matches_from.matches parse.parsed values are app_is (c.arguments_in-arguments.ensures.unheld usage))

pub returns-in-Ok-try_get_matches_from-clause-accepted : goal.returns-in-Ok-try_get_matches_from-clause-accepted
returns-in-Ok-try_get_matches_from-clause-accepted c arguments asked =
    let values = c.as_slice.result in
    let are : AreModes values.now = search rules in
    let app_is : app_of c.in-Ok-colregs.command ≡ colregs values = c.in-Ok-colregs.ensures in
    let words_are = ap (map (λ s. s.now)) c.as_slice-2.ensures.value ∙ c.in-Ok.ensures in
    let parse = c.in-Ok-try_get_matches_from.ensures in
    let rows_are = (parse.matches (ap is_simple app_is ∙ colregs_is_simple values)).0 ∙ ap₂ matches_of app_is words_are in
    let accepted = given_accepted c.args.words.now arguments asked values are in
    held_answer (rows_of (found_of c.in-Ok-try_get_matches_from.matches)) arguments c.arguments_in-arguments.result
    (subst (λ rows. HoldsArguments rows arguments) (sym rows_are) accepted.1) c.arguments_in-arguments.ensures.held c.arguments_in-arguments.ensures.unheld

pub returns-clause-refused : goal.returns-clause-refused
returns-clause-refused c usage =
    let values = c.as_slice.result in
    let are : AreModes values.now = search rules in
    let app_is : app_of c.in-Ok-colregs.command ≡ colregs values = c.in-Ok-colregs.ensures in
    let words_are = ap (map (λ s. s.now)) c.as_slice-2.ensures.value ∙ c.in-Ok.ensures in
    let kinds = c.in-Err.ensures.kinds (ap is_simple_and_free app_is ∙ colregs_simple values) in (
      colregs values,
      (values, are, refl),
      λ none. some_kind (kind_of c.in-Err.error) _ (λ memory. other_kind _ _ _ c.kind.ensures c.fault_by.ensures.usage usage memory) kinds (ap₂ fault_of app_is words_are ∙ none),
    )

pub returns-clause-accepted : goal.returns-clause-accepted
returns-clause-accepted c arguments asked =
    let values = c.as_slice.result in
    let are : AreModes values.now = search rules in
    let app_is : app_of c.in-Ok-colregs.command ≡ colregs values = c.in-Ok-colregs.ensures in
    let words_are = ap (map (λ s. s.now)) c.as_slice-2.ensures.value ∙ c.in-Ok.ensures in
    let kinds = c.in-Err.ensures.kinds (ap is_simple_and_free app_is ∙ colregs_simple values) in
    let accepted = given_accepted c.args.words.now arguments asked values are in
    refused_by_memory arguments _ _ _ c.kind.ensures c.fault_by.ensures.usage
    (λ other. some_kind (kind_of c.in-Err.error) _ other kinds (ap₂ fault_of app_is words_are ∙ accepted.0))
