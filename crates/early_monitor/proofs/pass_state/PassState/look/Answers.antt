use Rattle.std.proofs.Common.{◌≡◌, ◌+◌, [], ◌∷◌, ◌++◌, ◌∙◌, sym, refl, true, false, inl, inr}
use Rattle.early_monitor.specs.Inner.Known.{known_at}
use Rattle.early_monitor.proofs.Looks.{is_known_now, looks_some, looks_none, looks_known, IsLooking-next}
use Rattle.early_monitor.proofs.pass_state.PassState.look.Goals as goal

pub returns-then-not-was-clause-looked : goal.returns-then-not-was-clause-looked
returns-then-not-was-clause-looked c = λ t before row looks.
    let p = c.args.program.now in
    let m = c.args.self.now in
    let rows = before ++ row ∷ [] in
    let answer = c.answer-answer.result in
    let ended = c.answer-answer.ensures.ended (t ∷ []) rows looks.ahead in
    let was : known_at m.known.items (m.place + 1) ≡ false = rw c.deref.ensures.value at (sym c.is_known_at-was.ensures ∙ c.if-not-was.true) in (
      IsLooking-next p m t before row looks c.requires.more _ c.is_answer-is.result refl refl refl refl (c.pass_end.ensures.goes_on (t ∷ []) rows looks.ahead)
          c.pass_end.ensures.past (c.is_answer-is.ensures ∙ is_known_now p m t before row looks c.requires.more answer ended),
      looks_some p m t before row looks c.requires.more answer ended (sym c.is_answer-is.ensures ∙ c.if-is.true) was,
    )

pub returns-else-is-clause-looked : goal.returns-else-is-clause-looked
returns-else-is-clause-looked c = λ t before row looks.
    let p = c.args.program.now in
    let m = c.args.self.now in
    let rows = before ++ row ∷ [] in
    let answer = c.answer-answer.result in
    let ended = c.answer-answer.ensures.ended (t ∷ []) rows looks.ahead in (
      IsLooking-next p m t before row looks c.requires.more _ c.is_answer-is.result refl refl refl refl (c.pass_end.ensures.goes_on (t ∷ []) rows looks.ahead)
          c.pass_end.ensures.past (c.is_answer-is.ensures ∙ is_known_now p m t before row looks c.requires.more answer ended),
      elim c.else-is.either [
        | inl both ↦
            let was : known_at m.known.items (m.place + 1) ≡ true = rw c.deref.ensures.value at (sym c.is_known_at-was.ensures ∙ both.1) in
            looks_known p m t before row looks c.requires.more was
        | inr is ↦ looks_none p m t before row looks c.requires.more answer ended (sym c.is_answer-is.ensures ∙ is)
      ],
    )
