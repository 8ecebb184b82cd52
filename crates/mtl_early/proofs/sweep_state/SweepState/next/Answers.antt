use Rattle.std.proofs.Common.{[], ◌∷◌, ◌++◌, ◌∙◌, sym, arith}
use Rattle.mtl_early.specs.Inner.Looking.{IsLooked}
use Rattle.mtl_early.proofs.SweepLooks.{NoneFrom, none_more, gives_some, gives_none}
use Rattle.mtl_early.proofs.sweep_state.SweepState.next.Goals as goal

pub returns-then-is_some-clause-answer : goal.returns-then-is_some-clause-answer
returns-then-is_some-clause-answer c = λ t rows from h.
    let p = c.args.program.now in
    let s = c.args.self.now in
    let l = c.loop-self in
    let e = c.look-answer.ensures in
    let i = l.invariant in
    let both = e.looked t h.before h.row (i.looks t h.before h.row h.looks) in
    let none : NoneFrom t rows s.place l.self.place = rw h.split (i.none t h.before h.row h.looks) in
    let looked : IsLooked c.look-answer.result t rows c.look-answer.new.self.place = rw h.split both.1 in
    gives_some p s t rows from h c.look-answer.new.self c.look-answer.result l.self.place (sym c.is_some.ensures ∙ c.if-is_some.true) i.since e.place none looked both.0

pub loop-self-preserved : goal.loop-self-preserved
loop-self-preserved c =
    let s = c.args.self.now in
    let l = c.loop-self in
    let e = c.look-answer.ensures in
    let i = l.invariant in
    record {
      of = e.of;
      fed = e.fed ∙ i.fed;
      size = e.size ∙ i.size;
      since = omega (arith, e.place, i.since);
      same = λ done. absurd (omega (arith, done, e.place, i.since));
      looks = λ t before row h. (e.looked t before row (i.looks t before row h)).0;
      none = λ t before row h.
          none_more c.look-answer.result t (before ++ row ∷ []) s.place l.self.place c.look-answer.new.self.place (sym c.is_some.ensures ∙ c.if-is_some.false) e.place
          ((e.looked t before row (i.looks t before row h)).1) (i.none t before row h);
    }

pub returns-clause-answer : goal.returns-clause-answer
returns-clause-answer c = λ t rows from h.
    let p = c.args.program.now in
    let s = c.args.self.now in
    let l = c.loop-self in
    let i = l.invariant in
    let none : NoneFrom t rows s.place l.self.place = rw h.split (i.none t h.before h.row h.looks) in
    gives_none p s t rows from h l.self (omega (arith, c.loop-self-test.false)) none (i.looks t h.before h.row h.looks)
