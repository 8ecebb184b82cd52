use Rattle.std.proofs.Common.{sym, subst}
use Rattle.aivdm.specs.LineReading.{IsReading}
use Rattle.aivdm.specs.Sentences.{fields_seen, IsPart, IsSentence}
use Rattle.aivdm.proofs.OneReading.{reads}
use Rattle.aivdm.proofs.SentenceFacts.{if_sentence}
use Rattle.aivdm.proofs.line.read_line.Goals as goal

pub returns-clause-one : goal.returns-clause-one
returns-clause-one c = subst (IsReading c.args.line.now) (sym c.read.ensures) (reads c.args.line.now)

pub returns-clause-sentence : goal.returns-clause-sentence
returns-clause-sentence c =
    if_sentence c.args.line.now c.read.result (returns-clause-one c) (λ s. IsSentence (fields_seen s)) (λ s facts. facts.0)

pub returns-clause-part : goal.returns-clause-part
returns-clause-part c =
    if_sentence c.args.line.now c.read.result (returns-clause-one c) (λ s. IsPart s.payload.now c.args.line.now) (λ s facts. facts.1)
