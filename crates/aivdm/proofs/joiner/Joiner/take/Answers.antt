use Rattle.std.proofs.Common.{◌≡◌, ◌<◌, ◌++◌, ◌∷◌, [], List, sym, ap, ◌∙◌, subst, arith}
use Rattle.aivdm.specs.FragmentJoining.{Taken, joined_of, total_of}
use Rattle.aivdm.specs.Inner.OpenRuns.{joined_next, runs_next}
use Rattle.aivdm.specs.OpenMessages.{StandsFor}
use Rattle.aivdm.specs.Sentences.{fields_seen}
use Rattle.aivdm.specs.declared.joiner.Begun.{Begun}
use Rattle.aivdm.specs.declared.joiner.Joined.TheVariants.{Message}
use Rattle.aivdm.proofs.Standing.{stands_alone, stands_more}
use Rattle.aivdm.proofs.Steps.{then_ok, then_on}
use Rattle.aivdm.proofs.joiner.Joiner.take.Goals as goal

pub returns-then-sentence-eq1-clause-joined : goal.returns-then-sentence-eq1-clause-joined
returns-then-sentence-eq1-clause-joined c = λ taken stands.
    ap Message c.in_ok-whole.ensures.bits
    ∙ (stands_alone c.args.self.now taken (record { sentence = fields_seen c.args.sentence.now; time = c.args.time }) stands c.if-sentence-eq1.true).0

pub returns-then-sentence-eq1-clause-stands : goal.returns-then-sentence-eq1-clause-stands
returns-then-sentence-eq1-clause-stands c = λ taken stands.
    (stands_alone c.args.self.now taken (record { sentence = fields_seen c.args.sentence.now; time = c.args.time }) stands c.if-sentence-eq1.true).1

pub returns-clause-joined : goal.returns-clause-joined
returns-clause-joined c =
    let part : Taken = record { sentence = fields_seen c.args.sentence.now; time = c.args.time } in
    let runs = c.args.self.now in
    let sentence = c.requires.sentence in
    let several : 1 < total_of part = omega (arith, sentence.counted, sentence.within) in
    then_ok c.join.result
    (λ joined. joined ≡ joined_next c.self.inside.begun.items part)
    (λ joined. (taken : List Taken) → StandsFor runs taken → joined ≡ joined_of taken part)
    c.join.ensures.joined
    (λ joined is taken stands.
    is
    ∙ ap (λ (begun : List Begun). joined_next begun part) c.self.view_is
    ∙ (stands_more runs taken part stands sentence.counted sentence.within several).0)

pub returns-clause-stands : goal.returns-clause-stands
returns-clause-stands c =
    let part : Taken = record { sentence = fields_seen c.args.sentence.now; time = c.args.time } in
    let runs = c.args.self.now in
    let sentence = c.requires.sentence in
    let several : 1 < total_of part = omega (arith, sentence.counted, sentence.within) in
    then_on c.join.result
    (c.join.new.begun.items ≡ runs_next c.self.inside.begun.items part)
    ((taken : List Taken) → StandsFor runs taken → StandsFor c.join.new.begun.items (taken ++ part ∷ []))
    c.join.ensures.runs
    (λ is taken stands.
    subst (λ (begun : List Begun). StandsFor begun (taken ++ part ∷ []))
    (sym (is ∙ ap (λ (begun : List Begun). runs_next begun part) c.self.view_is))
    (stands_more runs taken part stands sentence.counted sentence.within several).1)
