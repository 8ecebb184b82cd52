use Rattle.std.proofs.Common.{rules, arith}
use Rattle.csv.specs.Records.{fields_of}
use Rattle.refutations.specs.EntryRows.{IsEntryOf}
use Rattle.refutations.specs.declared.entry.WhyEntry.{WhyEntry}
use Rattle.refutations.proofs.ToldEntries.{same_entry}
use Rattle.refutations.proofs.entry_reading.read_entry.Goals as goal

pub returns-in-Some-reason_in-clause-only : goal.returns-in-Some-reason_in-clause-only
returns-in-Some-reason_in-clause-only c = λ other h.
    let s = c.args.situation.now in
    let entry : WhyEntry = record { prefix = c.in-Some-choices_in.prefix; target = c.in-Some-number_in.target; reason = c.in-Some-reason_in.reason } in
    let is : IsEntryOf s (fields_of c.args.fields.now) entry = search rules in
    same_entry s c.len-rules.ensures.rules.different (omega (arith, c.choices.ensures.few, c.choices.ensures.value)) (fields_of c.args.fields.now) other entry h is
