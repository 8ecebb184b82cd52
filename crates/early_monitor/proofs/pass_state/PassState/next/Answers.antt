use Rattle.std.proofs.Common.{◌≡◌, ◌+◌, [], ◌∷◌, ◌++◌, ◌∙◌, sym, arith}
use Rattle.early_monitor.specs.Inner.Passing.{IsLooked}
use Rattle.early_monitor.proofs.Looks.{NoneFrom, none_more, gives_some, gives_none}
use Rattle.early_monitor.proofs.pass_state.PassState.next.Goals as goal

pub returns-then-is_some-clause-answer : goal.returns-then-is_some-clause-answer
returns-then-is_some-clause-answer c = λ t rows from h.
    let p = c.args.program.now in
    let m = c.args.self.now in
    let e = c.look-answer.ensures in
    let i = c.loop.invariant in
    let both = e.looked t h.before h.row (i.looks t h.before h.row h.looks) in
    let none : NoneFrom t rows m.place c.loop.counter = rw h.split (i.none t h.before h.row h.looks) in
    let looked : IsLooked c.look-answer.result t rows c.loop.counter = rw h.split (rw i.place at both.1) in
    gives_some p m t rows from h c.look-answer.new.self c.look-answer.result c.loop.counter (sym c.is_some.ensures ∙ c.if-is_some.true) i.since (omega (arith, e.place, i.place)) none looked both.0

pub loop-preserved : goal.loop-preserved
loop-preserved c =
    let m = c.args.self.now in
    let e = c.look-answer.ensures in
    let i = c.loop.invariant in
    record {
      of = e.of;
      place = omega (arith, e.place, i.place);
      reach = e.reach ∙ i.reach;
      fed = e.fed ∙ i.fed;
      within = omega (arith, c.loop-test.true, e.reach, i.reach);
      since = omega (arith, i.since);
      same = λ equal. absurd (omega (arith, equal, i.since));
      looks = λ t before row h. (e.looked t before row (i.looks t before row h)).0;
      none = λ t before row h.
          let looked : IsLooked c.look-answer.result t (before ++ row ∷ []) c.loop.counter = rw i.place at ((e.looked t before row (i.looks t before row h)).1) in
          none_more c.look-answer.result t (before ++ row ∷ []) m.place c.loop.counter (sym c.is_some.ensures ∙ c.if-is_some.false) looked (i.none t before row h);
    }

pub returns-clause-answer : goal.returns-clause-answer
returns-clause-answer c = λ t rows from h.
    let p = c.args.program.now in
    let m = c.args.self.now in
    let n = c.loop.self in
    let i = c.loop.invariant in
    let done : n.place ≡ n.reach + 1 = omega (arith, i.place, i.within, c.loop-test.false, i.reach) in
    let none : NoneFrom t rows m.place n.place = rw (h.split, i.place) (i.none t h.before h.row h.looks) in
    gives_none p m t rows from h n done i.reach none (i.looks t h.before h.row h.looks)
