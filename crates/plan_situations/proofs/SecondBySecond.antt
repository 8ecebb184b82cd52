-- Where a vessel is predicted, second by second.
use Rattle.std.proofs.Common.{◌≡◌, ◌∙◌, ℕ, zero, suc, ◌+◌, ◌-◌, ◌*◌, ◌<◌, ◌≤◌, inl, inr, List, length, get_or, min, sym, ap, ap₂, subst, arith, Some, None, ℤ, pos, ◌+ℤ◌, ◌-ℤ◌, ◌*ℤ◌, unsigned_abs}
use Rattle.std.specs.Prelude.{nat_le}
use Rattle.std.specs.List.{last_or}
use Rattle.std.proofs.Math.IntN.{suc_ℤ-*ℤ}
use Rattle.std.proofs.lemmas.Bool.{cases_lt}
use Rattle.std.proofs.lemmas.Bool.Decides.{nat_tests}
use Rattle.std.proofs.lemmas.Int.{ints}
use Rattle.std.proofs.lemmas.List.{get_or_default}
use Rattle.fixed_geometry.specs.Sizes.{IsWithin}
use Rattle.fixed_geometry.specs.declared.point.Point.{Point}
use Rattle.motion.specs.Displacement.{displacement}
use Rattle.motion.proofs.LastPassing.{filter_none, last_passing}
use Rattle.predictions.specs.declared.changes.Change.{Change}
use Rattle.tracks.specs.declared.accepted.Accepted.{Accepted}
use Rattle.plan_situations.specs.Inner.Runs.{AreToCome, HasGone, IsMotion, gone_by}
use Rattle.plan_situations.specs.Prediction.{AreChanges, change_at, changed_motion, motion_at, motion_by, point_after, reported_motion}
use Rattle.plan_situations.specs.declared.prediction.Motion.{Motion}
use Rattle.plan_situations.specs.declared.prediction.Run.{Run}

-- ---- sums of moves

one_more : (p v : ℤ) (m : ℕ) → (p +ℤ pos m *ℤ v) +ℤ v ≡ p +ℤ pos (suc m) *ℤ v
one_more p v m = let e : pos (suc m) *ℤ v ≡ pos m *ℤ v +ℤ v = suc_ℤ-*ℤ (pos m) v in omega (arith, ints)

none_yet : (p v : ℤ) → p ≡ p +ℤ pos 0 *ℤ v
none_yet p v = omega (arith, ints)

both : (a b x y : ℤ) → a ≡ b → x ≡ y → ◌≡◌ {A = Point} (record { x = a; y = x }) (record { x = b; y = y })
both a b x y e f = ap₂ (λ (u w : ℤ). let p : Point = record { x = u; y = w } in p) e f

farther : (p q v : ℤ) (a w : ℕ) → unsigned_abs (q -ℤ p) ≤ a → unsigned_abs v ≤ w → unsigned_abs ((q +ℤ v) -ℤ p) ≤ a + w
farther p q v a w h k = omega (arith, ints)

no_farther : (p : ℤ) → unsigned_abs (p -ℤ p) ≤ 0
no_farther p = omega (arith, ints)

within : (p q : ℤ) (a b : ℕ) → unsigned_abs p ≤ a → unsigned_abs (q -ℤ p) ≤ b → unsigned_abs q ≤ a + b
within p q a b h k = omega (arith, ints)

module _ (last : Accepted) (changes : List Change) (now : ℕ) where
  At : ℕ → Point
  At n = point_after last changes now n

  Velocity : ℕ → Point
  Velocity s = (motion_at last changes now s).velocity

  -- while she keeps a velocity
  pub kept : (n m : ℕ) (v : Point) → ((k : ℕ) → n ≤ k → k < n + m → (motion_at last changes now (last.time + k)).velocity ≡ v)
      → point_after last changes now (n + m) ≡ gone_by v m (point_after last changes now n)
  unfolding point_after
  kept n zero v h =
      let e : n + 0 ≡ n = omega arith in
      let p = point_after last changes now n in
      ap (point_after last changes now) e ∙ both p.x (p.x +ℤ pos 0 *ℤ v.x) p.y (p.y +ℤ pos 0 *ℤ v.y) (none_yet p.x v.x) (none_yet p.y v.y)
  kept n (suc m) v h =
      let e : n + suc m ≡ suc (n + m) = omega arith in
      let p = point_after last changes now n in
      let so_far = kept n m v (λ k low high. h k low (omega arith)) in
      let here : (motion_at last changes now (last.time + (n + m))).velocity ≡ v = h (n + m) (omega arith) (omega arith) in
      ap (point_after last changes now) e
      ∙ (ap₂ (λ (q w : Point). let r : Point = record { x = q.x +ℤ w.x; y = q.y +ℤ w.y } in r) so_far here
      ∙ both ((p.x +ℤ pos m *ℤ v.x) +ℤ v.x) (p.x +ℤ pos (suc m) *ℤ v.x) ((p.y +ℤ pos m *ℤ v.y) +ℤ v.y) (p.y +ℤ pos (suc m) *ℤ v.y) (one_more p.x v.x m) (one_more p.y v.y m))

  -- while she is no faster than a vessel may be
  pub moved : (n m : ℕ) → ((k : ℕ) → n ≤ k → k < n + m → IsWithin 525763 (motion_at last changes now (last.time + k)).velocity)
      → IsWithin (m * 525763) (displacement (point_after last changes now n) (point_after last changes now (n + m)))
  unfolding point_after
  moved n zero h =
      let e : n + 0 ≡ n = omega arith in
      let p = point_after last changes now n in
      subst (λ (k : ℕ). IsWithin (0 * 525763) (displacement p (point_after last changes now k))) (sym e)
      (record { x = no_farther p.x; y = no_farther p.y })
  moved n (suc m) h =
      let e : n + suc m ≡ suc (n + m) = omega arith in
      let p = point_after last changes now n in
      let q = point_after last changes now (n + m) in
      let v = (motion_at last changes now (last.time + (n + m))).velocity in
      let so_far = moved n m (λ k low high. h k low (omega arith)) in
      let here = h (n + m) (omega arith) (omega arith) in
      let more : m * 525763 + 525763 ≡ suc m * 525763 = omega arith in
      subst (λ (k : ℕ). IsWithin (suc m * 525763) (displacement p (point_after last changes now k))) (sym e)
      (subst (λ (w : ℕ). IsWithin w (displacement p (point_after last changes now (suc (n + m))))) more
      (record { x = farther p.x q.x v.x (m * 525763) 525763 so_far.x here.x; y = farther p.y q.y v.y (m * 525763) 525763 so_far.y here.y }))

  pub near : (n size : ℕ) → IsWithin size last.point → ((k : ℕ) → k < n → IsWithin 525763 (motion_at last changes now (last.time + k)).velocity)
      → IsWithin (size + n * 525763) (point_after last changes now n)
  unfolding point_after
  near n size start slow =
      let far = moved 0 n (λ k low high. slow k (omega arith)) in
      let e : 0 + n ≡ n = omega arith in
      let far' = subst (λ (k : ℕ). IsWithin (n * 525763) (displacement last.point (point_after last changes now k))) e far in
      let q = point_after last changes now n in
      record { x = within last.point.x q.x size (n * 525763) start.x far'.x; y = within last.point.y q.y size (n * 525763) start.y far'.y }

  -- ---- which change is in force

  pub none_come : (s : ℕ) → AreToCome changes now 0 s → change_at changes now s ≡ None
  none_come s to_come =
      ap (last_or None) (filter_none (λ (c : Change). nat_le (now + c.after) s) changes (λ k d lt. let h = to_come k d (omega arith) lt in grind (arith, nat_tests)))

  pub one_come : (s i : ℕ) (d : Change) → i < length changes → now + (get_or changes i d).after ≤ s → AreToCome changes now (i + 1) s
      → change_at changes now s ≡ Some (get_or changes i d)
  one_come s i d lt come to_come =
      last_passing (λ (c : Change). nat_le (now + c.after) s) changes i d lt (grind (arith, nat_tests))
      (λ k e after inside. let h = to_come k e (omega arith) inside in grind (arith, nat_tests))

  -- ---- how far she has gone

  module _ (time : ℕ) (is : AreChanges changes) where
    pub begun : (run : Run) → run.point ≡ last.point → run.since ≡ last.time → run.motion ≡ reported_motion last.report → last.time ≤ time → last.time ≤ now
        → IsMotion run.motion → HasGone last changes now time 0 run
    unfolding point_after
    begun run point since motion later before is_motion = record {
      begun = omega arith;
      not_past = omega arith;
      reached = let e : run.since - last.time ≡ 0 = omega arith in point ∙ ap (point_after last changes now) (sym e);
      moves = λ s low high to_come. ap (motion_by last.report) (none_come s to_come) ∙ sym motion;
      early = λ j d low inside. omega arith;
      is_motion = is_motion;
      was_slow = λ s low high. absurd (omega arith);
    }

    -- the changes from an index on come no earlier than that one
    in_order : (i j : ℕ) (d : Change) → i ≤ j → j < length changes → (get_or changes i d).after ≤ (get_or changes j d).after
    in_order i j d le inside = elim (cases_lt i j) [
      | inl lt ↦ (let h = is.order i j d lt inside in omega arith)
      | inr ge ↦ (let e : i ≡ j = omega arith in subst (λ (k : ℕ). (get_or changes i d).after ≤ (get_or changes k d).after) e (omega arith))
    ]

    module _ (i : ℕ) (run : Run) (gone : HasGone last changes now time i run) where
      -- She goes on as she did as long as the changes from here on are to come.
      goes_on : (s until : ℕ) → run.since ≤ s → s < until → until ≤ time → ((j : ℕ) (d : Change) → i ≤ j → j < length changes → until ≤ now + (get_or changes j d).after)
          → motion_at last changes now s ≡ run.motion
      goes_on s until low high in_time early = gone.moves s low (omega arith) (λ j d le inside. let h = early j d le inside in omega arith)

      on_to : (until : ℕ) (p : Point) → run.since ≤ until → until ≤ time → ((j : ℕ) (d : Change) → i ≤ j → j < length changes → until ≤ now + (get_or changes j d).after)
          → p ≡ gone_by run.motion.velocity (until - run.since) run.point → p ≡ point_after last changes now (until - last.time)
      on_to until p later in_time early is_p =
          let begun = gone.begun in
          let e : (run.since - last.time) + (until - run.since) ≡ until - last.time = omega arith in
          is_p
          ∙ (ap (gone_by run.motion.velocity (until - run.since)) gone.reached
          ∙ (sym (kept (run.since - last.time) (until - run.since) run.motion.velocity
          (λ k low high. ap (λ (m : Motion). m.velocity) (goes_on (last.time + k) until (omega arith) (omega arith) in_time early)))
          ∙ ap (point_after last changes now) e))

      slow_until : (until : ℕ) → until ≤ time → ((j : ℕ) (d : Change) → i ≤ j → j < length changes → until ≤ now + (get_or changes j d).after)
          → (s : ℕ) → last.time ≤ s → s < until → IsWithin 525763 (motion_at last changes now s).velocity
      slow_until until in_time early s low high = elim (cases_lt s run.since) [
        | inl lt ↦ gone.was_slow s low lt
        | inr ge ↦ subst (λ (m : Motion). IsWithin 525763 m.velocity) (sym (goes_on s until ge high in_time early)) gone.is_motion.slow
      ]

      pub still_near : (size : ℕ) → IsWithin size last.point → IsWithin (size + (run.since - last.time) * 525763) run.point
      still_near size start =
          let begun = gone.begun in
          subst (IsWithin (size + (run.since - last.time) * 525763)) (sym gone.reached)
          (near (run.since - last.time) size start (λ k lt. gone.was_slow (last.time + k) (omega arith) (omega arith)))

      -- past one more change
      pub past_one : (change : Change) (next : Run) → i < length changes → change ≡ get_or changes i change
          → next.since ≡ min (now + change.after) time
          → next.point ≡ gone_by run.motion.velocity (next.since - run.since) run.point
          → (now + change.after ≤ time → next.motion ≡ changed_motion change) → (time < now + change.after → next.motion ≡ run.motion)
          → IsMotion next.motion → HasGone last changes now time (i + 1) next
      past_one change next inside here since point come to_come is_motion =
          let begun = gone.begun in
          let not_past = gone.not_past in
          let first : run.since ≤ now + (get_or changes i change).after = gone.early i change (omega arith) inside in
          let same : (get_or changes i change).after ≡ change.after = ap (λ (c : Change). c.after) (sym here) in
          let early : (j : ℕ) (d : Change) → i ≤ j → j < length changes → next.since ≤ now + (get_or changes j d).after = λ j d le lt.
          (let up = in_order i j d le lt in
          let is_here : (get_or changes i d).after ≡ (get_or changes i change).after = ap (λ (c : Change). c.after) (get_or_default changes i d change inside) in
          omega arith) in
          let later : run.since ≤ next.since = omega arith in
          let in_time : next.since ≤ time = omega arith in
          record {
            begun = omega arith;
            not_past = in_time;
            reached = on_to next.since next.point later in_time early point;
            moves = λ s low high left. elim (cases_lt time (now + change.after)) [
              | inl lt ↦ gone.moves s (omega arith) high
                  (λ j d le within. elim (cases_lt i j) [
                    | inl after ↦ left j d (omega arith) within
                    | inr at ↦ (let e : i ≡ j = omega arith in
                        let is_here : (get_or changes j d).after ≡ change.after = subst (λ (k : ℕ). (get_or changes k d).after ≡ change.after) e
                        (ap (λ (c : Change). c.after) (get_or_default changes i d change inside) ∙ same) in
                        omega arith)
                  ]) ∙ sym (to_come lt)
              | inr ge ↦ (let there : now + (get_or changes i change).after ≤ s = omega arith in
                  ap (motion_by last.report) (one_come s i change inside there left) ∙ (ap changed_motion (sym here) ∙ sym (come ge)))
            ];
            early = λ j d le lt. early j d (omega arith) lt;
            is_motion = is_motion;
            was_slow = λ s low high. slow_until next.since in_time early s low high;
          }

    -- at the time itself

    module _ (run : Run) (gone : HasGone last changes now time (length changes) run) where
      none_left : (until : ℕ) (j : ℕ) (d : Change) → length changes ≤ j → j < length changes → until ≤ now + (get_or changes j d).after
      none_left until j d le lt = absurd (omega arith)

      pub there : (p : Point) → p ≡ gone_by run.motion.velocity (time - run.since) run.point → p ≡ point_after last changes now (time - last.time)
      there p is_p = on_to (length changes) run gone time p gone.not_past (omega arith) (none_left time) is_p

      pub motion_there : motion_at last changes now time ≡ run.motion
      motion_there = gone.moves time gone.not_past (omega arith) (λ j d le lt. absurd (omega arith))

      pub slow : (s : ℕ) → last.time ≤ s → s < time → IsWithin 525763 (motion_at last changes now s).velocity
      slow s low high = slow_until (length changes) run gone time (omega arith) (none_left time) s low high
