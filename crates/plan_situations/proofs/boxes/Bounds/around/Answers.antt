use Rattle.std.proofs.Common.{◌≡◌, ℕ, ◌<◌, inl, inr, length, get_or, subst, arith}
use Rattle.std.proofs.lemmas.Bool.{cases_lt}
use Rattle.std.proofs.lemmas.List.{get_or_default}
use Rattle.motion.specs.declared.leg.TickState.{TickState}
use Rattle.plan_situations.specs.Boxes.{IsIn}
use Rattle.plan_situations.proofs.boxes.Bounds.around.Goals as goal

pub loop-k-preserved : goal.loop-k-preserved
loop-k-preserved c = λ j d lt.
    let path = c.args.path.now in
    let k = c.loop-k.k in
    elim (cases_lt j k) [
      | inl before ↦ c.with-bounds.ensures.others (get_or path j d).point (c.loop-k.invariant j d before)
      | inr last ↦ (let same : k ≡ j = omega arith in
          subst (λ (i : ℕ). IsIn c.with-bounds.result (get_or path i d).point) same
          (subst (λ (state : TickState). IsIn c.with-bounds.result state.point) (get_or_default path k _ d c.loop-k-test.true) c.with-bounds.ensures.point))
    ]

pub returns : goal.returns
returns c = λ j d lt.
    let over = c.loop-k-test.false in
    c.loop-k.invariant j d (omega arith)
