use Rattle.std.proofs.Common.{◌++◌, ◌∷◌, [], Err, ap, refl, sym, subst, ◌∙◌}
use Rattle.std.proofs.lemmas.Result.{on_ok_weaker}
use Rattle.log_lines.specs.GrowingLog.{ended_lines}
use Rattle.sessions.specs.Standing.{KeepsEnough}
use Rattle.sessions.proofs.Feeding.{refused_by, refuses_pairs, takes_line, vessels_refused, works_on}
use Rattle.sessions.proofs.session.Session.take_line.Goals as goal

pub returns-in_err-judged-clause-refused : goal.returns-in_err-judged-clause-refused
returns-in_err-judged-clause-refused c =
    vessels_refused c.from_residual.result c.in_err-judged.field-0.0 _ c.from_residual.ensures.1
    (λ is. (refl, λ read given follows room. c.in_err-judged.ensures.crowded (ap Err is) c.args.self.now.scenario read follows.lines))

pub go_on-requires-clause-keeping : goal.go_on-requires-clause-keeping
go_on-requires-clause-keeping c =
    subst (KeepsEnough c.args.self.now.work c.args.self.now.scenario) (sym (c.judge.ensures.keeping ∙ c.in_ok-judged.ensures.keeping)) c.requires.ready.follows.kept

pub go_on-requires-clause-ready : goal.go_on-requires-clause-ready
go_on-requires-clause-ready c =
    let ready = c.requires.ready in
    let stay = c.ended_lines_stay.ensures.ended in
    let piece = c.args.part.now ++ 10 ∷ [] in
    record {
      lines = ended_lines ready.read;
      more = (stay ready.read piece).0;
      works = works_on c.args.self.now piece [] stay c.judge.result.now c.in_ok-judged.judged c.end_line.new.self c.in_ok-judged.ensures.stands c.judge.ensures.stands
          c.in_ok-judged.ensures.judged ready.read ready.given ready.follows ready.room;
    }

pub returns-clause-taken : goal.returns-clause-taken
returns-clause-taken c =
    on_ok_weaker c.go_on.result (λ goes front has.
    takes_line c.args.self.now (c.args.part.now ++ 10 ∷ []) front c.ended_lines_stay.ensures.ended c.judge.result.now c.in_ok-judged.judged c.end_line.new.self
    c.in_ok-judged.ensures.stands c.judge.ensures.stands c.in_ok-judged.ensures.judged
    c.go_on.new.self c.go_on.new.text c.go_on.ensures.mode c.judge.ensures.keeping (goes front has)) c.go_on.ensures.goes_on

pub returns-clause-refused : goal.returns-clause-refused
returns-clause-refused c =
    refused_by c.go_on.result _ c.go_on.ensures.alone (λ is. (
      c.go_on.ensures.unwritten is,
      refuses_pairs c.args.self.now (c.args.part.now ++ 10 ∷ []) [] c.ended_lines_stay.ensures.ended c.judge.result.now c.in_ok-judged.judged c.end_line.new.self
          c.in_ok-judged.ensures.stands c.judge.ensures.stands c.in_ok-judged.ensures.judged (c.go_on.ensures.many is),
    ))
