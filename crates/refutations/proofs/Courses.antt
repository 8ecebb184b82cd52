-- Own ship's path where it is filled in again: two plans that give her the same orders up to a tick have the same states before it, and the same point at it.
use Rattle.std.proofs.Common.{◌≡◌, ◌≢◌, ◌∙◌, ℕ, ◌+◌, ◌-◌, ◌*◌, ◌<◌, ◌≤◌, ◌⊎◌, ◌^◌, inl, inr, List, ◌++◌, length, take, get_or, sym, ap, subst, arith, length-append}
use Rattle.std.specs.Prelude.{set}
use Rattle.std.proofs.Math.Nat.{mul-le-mul}
use Rattle.std.proofs.lemmas.Bool.{cases_lt}
use Rattle.std.proofs.lemmas.List.{get_or_append_left, get_or-append-add, get_or-set_other, get_or-take, length-take-le}
use Rattle.std.proofs.lemmas.Grind.{get_or-set_at}
use Rattle.encounters.specs.Directions.{HasDirection}
use Rattle.fixed_geometry.specs.Sizes.{IsBelow}
use Rattle.fixed_geometry.specs.declared.point.Point.{Point}
use Rattle.lattice.specs.Grids.{positions_of}
use Rattle.lattice.specs.OwnMotion.{own_state}
use Rattle.motion.specs.Displacement.{displacement}
use Rattle.motion.specs.declared.leg.TickState.{TickState}
use Rattle.plan_situations.specs.Paths.{HasReached, IsPath, IsTrack}
use Rattle.plan_situations.specs.Prefixes.{steps_told}
use Rattle.plan_situations.specs.Situations.{planned_state}
use Rattle.plan_situations.specs.declared.situation.Situation.{Situation}
use Rattle.plan_situations.proofs.ForCallers.{same_point, same_reached, same_state, shared, when_less, when_not_less}
use Rattle.lattice.specs.declared.under_way.UnderWay.{UnderWay}
use Rattle.refutations.specs.Inner.Replays.{AreBeginnings, AreSteeredAlike, HaveInCommon}

-- ---- a path whose first states stay

module _ (s : Situation) (X Y : List ℕ) (n : ℕ) (alike : AreSteeredAlike s X Y n) (old back : List TickState) (within : n < length old) (is : IsPath s X 0 old) where
  abbrev pub new : List TickState
  new = take n old ++ back

  many : length (take n old) ≡ n
  many = length-take-le n old (omega arith)

  -- a state that stays
  stays : (j : ℕ) (d : TickState) → j < n → get_or new j d ≡ get_or old j d
  stays j d lt = get_or_append_left (take n old) back d j (omega (arith, many)) ∙ get_or-take n old j d lt

  -- a state that is filled in
  filled : (j i : ℕ) (d : TickState) → j ≡ n + i → get_or new j d ≡ get_or back i d
  filled j i d e = ap (λ (k : ℕ). get_or new k d) (e ∙ ap (λ (m : ℕ). m + i) (sym many)) ∙ get_or-append-add (take n old) back i d

  same_planned : (j : ℕ) → j < n → planned_state s X (0 + j) ≡ planned_state s Y (0 + j)
  same_planned j lt = same_state s.lattice X Y n alike.orders _ _ _ _ (0 + j) (omega arith)

  pub refilled_path : IsPath s Y n back → IsPath s Y 0 new
  refilled_path ahead j d lt = elim (cases_lt j n) [
    | inl before ↦ stays j d before ∙ (is j d (omega arith) ∙ same_planned j before)
    | inr from ↦ (let at : j ≡ n + (j - n) = omega arith in
        let long : length new ≡ n + length back = length-append (take n old) back ∙ ap (λ (m : ℕ). m + length back) many in
        filled j (j - n) d at ∙ (ahead (j - n) d (omega (arith, long)) ∙ ap (planned_state s Y) (omega (arith, at))))
  ]

  same_place : (planned_state s X n).point ≡ (planned_state s Y n).point
  unfolding own_state
  same_place = same_point s.lattice X Y n alike.orders _ _ _ _ n (omega arith)

  -- her point at the tick itself is that of both plans
  seam : (d : TickState) → IsPath s Y n back → 0 < length back → (get_or new n d).point ≡ (get_or old n d).point
  seam d ahead some =
      ap (λ (state : TickState). state.point) (filled n 0 d (omega arith) ∙ ahead 0 d some ∙ ap (planned_state s Y) (omega arith))
      ∙ (sym same_place ∙ ap (λ (state : TickState). state.point) (sym (is n d within ∙ ap (planned_state s X) (omega arith))))

  pub refilled_track : IsPath s Y n back → 0 < length back → IsTrack old → IsTrack back → IsTrack new
  refilled_track ahead some was now = record {
    placed = λ j d lt. elim (cases_lt j n) [
      | inl before ↦ subst (λ (x : TickState). IsBelow (2 ^ 33) x.point) (sym (stays j d before)) (was.placed j d (omega arith))
      | inr from ↦ subst (λ (x : TickState). IsBelow (2 ^ 33) x.point) (sym (filled j (j - n) d (omega arith))) (now.placed (j - n) d (inside j lt from))
    ];
    heads = λ j d lt. elim (cases_lt j n) [
      | inl before ↦ subst HasDirection (sym (stays j d before)) (was.heads j d (omega arith))
      | inr from ↦ subst HasDirection (sym (filled j (j - n) d (omega arith))) (now.heads (j - n) d (inside j lt from))
    ];
    moves = λ j d lt. elim (cases_lt j n) [
      | inl before ↦ subst (λ (p : Point). IsBelow (2 ^ 25) (displacement p (get_or new (j + 1) d).point)) (sym (ap (λ (x : TickState). x.point) (stays j d before)))
          (subst (λ (p : Point). IsBelow (2 ^ 25) (displacement (get_or old j d).point p)) (sym (next j d before)) (was.moves j d (omega arith)))
      | inr from ↦ subst (λ (x : TickState). IsBelow (2 ^ 25) (displacement x.point (get_or new (j + 1) d).point)) (sym (filled j (j - n) d (omega arith)))
          (subst (λ (x : TickState). IsBelow (2 ^ 25) (displacement (get_or back (j - n) d).point x.point)) (sym (filled (j + 1) (j - n + 1) d (omega arith)))
          (now.moves (j - n) d (inside_next j lt from)))
    ];
  }
    where
      long : length new ≡ n + length back
      long = length-append (take n old) back ∙ ap (λ (m : ℕ). m + length back) many

      inside : (j : ℕ) → j < length new → n ≤ j → j - n < length back
      inside j lt from = omega (arith, long)

      inside_next : (j : ℕ) → j + 1 < length new → n ≤ j → j - n + 1 < length back
      inside_next j lt from = omega (arith, long)

      next : (j : ℕ) (d : TickState) → j < n → (get_or new (j + 1) d).point ≡ (get_or old (j + 1) d).point
      next j d before = elim (cases_lt (j + 1) n) [
        | inl still ↦ ap (λ (x : TickState). x.point) (stays (j + 1) d still)
        | inr last ↦ (let at : n ≡ j + 1 = omega arith in
            subst (λ (k : ℕ). (get_or new k d).point ≡ (get_or old k d).point) at (seam d ahead some))
      ]

-- ---- where legs begin

-- One beginning more is known.
pub one_more_beginning : (s : Situation) (plan : List ℕ) (k : ℕ) (beginnings : List UnderWay) (own : UnderWay) → k < length beginnings → AreBeginnings s plan k beginnings
    → HasReached s plan (k * s.lattice.leg_ticks) own → AreBeginnings s plan (k + 1) (set beginnings k own)
one_more_beginning s plan k beginnings own inside are here = record {
  reached = λ leg d lt. elim (cases_lt leg k) [
    | inl before ↦ (let other : leg ≢ k = λ e. absurd (omega arith) in
        subst (HasReached s plan (leg * s.lattice.leg_ticks)) (sym (get_or-set_other beginnings k leg own d other)) (are.reached leg d before))
    | inr from ↦ (let at : leg ≡ k = omega arith in
        subst (HasReached s plan (leg * s.lattice.leg_ticks)) (sym (get_or-set_at beginnings k leg own d at inside))
        (subst (λ (i : ℕ). HasReached s plan (i * s.lattice.leg_ticks) own) (sym at) here))
  ];
}

-- Two plans with legs in common give the same orders up to where any of these legs, or the next one, begins.
pub steered_alike : (s : Situation) (X Y : List ℕ) (legs leg : ℕ) → 1 ≤ s.lattice.legs → HaveInCommon X Y legs → leg ≤ legs → leg < s.lattice.legs
    → AreSteeredAlike s X Y (leg * s.lattice.leg_ticks)
steered_alike s X Y legs leg some common within inside = record {
  orders = λ step lt. shared s.lattice X Y leg some (λ i less. common.alike i (omega arith)) step
      (subst (λ (n : ℕ). step < n) (sym (when_less leg s.lattice.legs (leg * s.lattice.leg_ticks) (positions_of s.lattice) inside)) lt);
}

-- The beginnings up to such a leg are those of both plans.
pub beginnings_too : (s : Situation) (X Y : List ℕ) (known leg : ℕ) (beginnings : List UnderWay) → AreSteeredAlike s X Y (leg * s.lattice.leg_ticks) → known ≤ leg + 1
    → AreBeginnings s X known beginnings → AreBeginnings s Y known beginnings
beginnings_too s X Y known leg beginnings alike within are = record {
  reached = λ k d lt. same_reached s.lattice X Y (leg * s.lattice.leg_ticks) alike.orders _ _ _ (k * s.lattice.leg_ticks) (earlier k (omega arith)) (are.reached k d lt);
}
  where
    earlier : (k : ℕ) → k ≤ leg → k * s.lattice.leg_ticks ≤ leg * s.lattice.leg_ticks
    earlier k le = mul-le-mul le (omega arith)

-- The first of some beginnings.
pub fewer_beginnings : (s : Situation) (plan : List ℕ) (known fewer : ℕ) (beginnings : List UnderWay) → fewer ≤ known → AreBeginnings s plan known beginnings
    → AreBeginnings s plan fewer beginnings
fewer_beginnings s plan known fewer beginnings le are = record {
  reached = λ k d lt. are.reached k d (omega arith);
}
