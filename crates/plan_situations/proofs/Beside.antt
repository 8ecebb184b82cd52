-- Vessels in boxes that lie apart are as far from each other at every instant of a step.
use Rattle.std.proofs.Common.{◌≡◌, ◌∙◌, ℕ, ◌+◌, ◌-◌, ◌*◌, ◌<◌, ◌≤◌, inl, inr, List, length, take, drop, get_or, refl, sym, ap, subst, arith, Some, None, mul-le-mul}
use Rattle.std.specs.List.{All}
use Rattle.std.specs.Prelude.{Option, IfSome, IsSomeAnd, slice_get, ℤ, pos, neg_ℤ, ◌+ℤ◌, ◌-ℤ◌, ◌*ℤ◌, ◌≤ℤ◌, unsigned_abs}
use Rattle.std.proofs.lemmas.Int.{ints}
use Rattle.std.proofs.lemmas.List.{get_or-drop, get_or-take, length-drop, length-take}
use Rattle.std.proofs.lemmas.Option.{slice_get-get_or}
use Rattle.closest_approach.specs.Separation.{IsSeparated}
use Rattle.closest_approach.proofs.Order.{times-le, times-le_zero}
use Rattle.fixed_geometry.specs.declared.point.Point.{Point}
use Rattle.fixed_geometry.specs.Displacement.{displacement}
use Rattle.fixed_geometry.proofs.ForCallers.{polynomials, diff_of, diff_pos, diff_same}
use Rattle.hull_domains.proofs.Far.{squares}
use Rattle.encounters.specs.Directions.{HasDirection, HaveDirections}
use Rattle.encounters.specs.declared.pair_step.PairStep.{PairStep}
use Rattle.lattice.specs.Grids.{positions_of}
use Rattle.meetings.specs.Traces.{step_at}
use Rattle.motion.specs.Steps.{RelativeMove}
use Rattle.motion.specs.declared.leg.TickState.{TickState}
use Rattle.plan_situations.specs.Boxes.{ahead_from, HoldsPath, IsBeyond, IsIn, LieApart}
use Rattle.plan_situations.specs.Domains.{Enters}
use Rattle.plan_situations.specs.Paths.{EntersAlong, IsPath, IsTrack}
use Rattle.plan_situations.specs.Situations.{end_of, now_of, own_at, sighting, target_at, IsTarget}
use Rattle.plan_situations.specs.declared.boxes.Bounds.{Bounds}
use Rattle.plan_situations.specs.declared.situation.Situation.{Situation}
use Rattle.plan_situations.specs.declared.situation.Target.{Target}
use Rattle.plan_situations.proofs.CommonLegs.{when_not_less}
use Rattle.plan_situations.proofs.OwnStates.{own_on_path, step_by}

-- ---- along an axis, on one side at both ends of a step

parts : (a c : ℕ) (p q : ℤ) → pos (a + c) *ℤ p +ℤ pos a *ℤ (q -ℤ p) ≡ pos c *ℤ p +ℤ pos a *ℤ q
parts a c p q = rw (← diff_of p, ← diff_of q, diff_pos (a + c), diff_pos a, diff_pos c) (simp polynomials (diff_same _ _ _ _ (omega arith)))

many : (k r : ℕ) (x : ℤ) → pos r ≤ℤ x → pos (k * r) ≤ℤ (pos k *ℤ x)
many k r x h = let step = times-le k (pos r) x h in let e : pos k *ℤ pos r ≡ pos (k * r) = omega (arith, ints) in omega (arith, ints)

times_add : (k n : ℕ) (x : ℤ) → pos k *ℤ (x +ℤ pos n) ≡ pos k *ℤ x +ℤ pos (k * n)
times_add k n x = rw (← diff_of x) (simp polynomials (diff_same _ _ _ _ (omega arith)))

few : (k r : ℕ) (x : ℤ) → x ≤ℤ neg_ℤ (pos r) → (pos k *ℤ x) ≤ℤ neg_ℤ (pos (k * r))
few k r x h = let step = times-le_zero k (x +ℤ pos r) (omega (arith, ints)) in let e = times_add k r x in omega (arith, ints)

whole : (a b : ℕ) → a ≤ b → b ≡ a + (b - a)
whole a b le = omega arith

above : (p q : ℤ) (r a c : ℕ) → pos r ≤ℤ p → pos r ≤ℤ q → (a + c) * r ≤ unsigned_abs (pos (a + c) *ℤ p +ℤ pos a *ℤ (q -ℤ p))
above p q r a c h k =
    let first = many c r p h in
    let second = many a r q k in
    let all : (a + c) * r ≡ c * r + a * r = omega arith in
    rw (parts a c p q, all) (omega (arith, ints))

below : (p q : ℤ) (r a c : ℕ) → p ≤ℤ neg_ℤ (pos r) → q ≤ℤ neg_ℤ (pos r) → (a + c) * r ≤ unsigned_abs (pos (a + c) *ℤ p +ℤ pos a *ℤ (q -ℤ p))
below p q r a c h k =
    let first = few c r p h in
    let second = few a r q k in
    let all : (a + c) * r ≡ c * r + a * r = omega arith in
    rw (parts a c p q, all) (omega (arith, ints))

one_side : (p q : ℤ) (r a b : ℕ) → (pos r ≤ℤ p) × (pos r ≤ℤ q) → a ≤ b → b * r ≤ unsigned_abs (pos b *ℤ p +ℤ pos a *ℤ (q -ℤ p))
one_side p q r a b h le =
    let e : b ≡ a + (b - a) = whole a b le in
    subst (λ (n : ℕ). n * r ≤ unsigned_abs (pos n *ℤ p +ℤ pos a *ℤ (q -ℤ p))) (sym e) (above p q r a (b - a) h.0 h.1)

other_side : (p q : ℤ) (r a b : ℕ) → (p ≤ℤ neg_ℤ (pos r)) × (q ≤ℤ neg_ℤ (pos r)) → a ≤ b → b * r ≤ unsigned_abs (pos b *ℤ p +ℤ pos a *ℤ (q -ℤ p))
other_side p q r a b h le =
    let e : b ≡ a + (b - a) = whole a b le in
    subst (λ (n : ℕ). n * r ≤ unsigned_abs (pos n *ℤ p +ℤ pos a *ℤ (q -ℤ p))) (sym e) (below p q r a (b - a) h.0 h.1)

-- from a coordinate that is at most `to` to one that is at least `from`
up_by : (u v to from : ℤ) (r : ℕ) → u ≤ℤ to → from ≤ℤ v → (to +ℤ pos r) ≤ℤ from → pos r ≤ℤ (v -ℤ u)
up_by u v to from r h k apart = omega (arith, ints)

down_by : (u v to from : ℤ) (r : ℕ) → from ≤ℤ u → v ≤ℤ to → (to +ℤ pos r) ≤ℤ from → (v -ℤ u) ≤ℤ neg_ℤ (pos r)
down_by u v to from r h k apart = omega (arith, ints)

exchanged : (x y : ℤ) → x *ℤ x +ℤ y *ℤ y ≡ y *ℤ y +ℤ x *ℤ x
exchanged x y = omega (arith, ints)

-- ---- a step whose ends lie in the boxes

abbrev pub move : Point → Point → Point → Point → RelativeMove
move own hers own_next hers_next = record { p = displacement own hers; w = displacement (displacement own hers) (displacement own_next hers_next) }

module _ (own hers own_next hers_next : Point) (r : ℕ) where
  by_x : ((a b : ℕ) → a ≤ b → b * r ≤ unsigned_abs (pos b *ℤ (hers.x -ℤ own.x) +ℤ pos a *ℤ ((hers_next.x -ℤ own_next.x) -ℤ (hers.x -ℤ own.x)))) → IsSeparated (move own hers own_next hers_next) r
  unfolding IsSeparated
  by_x far a b le some =
      squares (pos b *ℤ (hers.x -ℤ own.x) +ℤ pos a *ℤ ((hers_next.x -ℤ own_next.x) -ℤ (hers.x -ℤ own.x)))
      (pos b *ℤ (hers.y -ℤ own.y) +ℤ pos a *ℤ ((hers_next.y -ℤ own_next.y) -ℤ (hers.y -ℤ own.y))) b r (far a b le)

  by_y : ((a b : ℕ) → a ≤ b → b * r ≤ unsigned_abs (pos b *ℤ (hers.y -ℤ own.y) +ℤ pos a *ℤ ((hers_next.y -ℤ own_next.y) -ℤ (hers.y -ℤ own.y)))) → IsSeparated (move own hers own_next hers_next) r
  unfolding IsSeparated
  by_y far a b le some =
      let x : ℤ = pos b *ℤ (hers.x -ℤ own.x) +ℤ pos a *ℤ ((hers_next.x -ℤ own_next.x) -ℤ (hers.x -ℤ own.x)) in
      let y : ℤ = pos b *ℤ (hers.y -ℤ own.y) +ℤ pos a *ℤ ((hers_next.y -ℤ own_next.y) -ℤ (hers.y -ℤ own.y)) in
      subst (λ (z : ℤ). (pos (b * b) *ℤ pos (r * r)) ≤ℤ z) (exchanged y x) (squares y x b r (far a b le))

  pub apart_step : (A B : Bounds) → IsIn A own → IsIn B hers → IsIn A own_next → IsIn B hers_next → LieApart A B r → IsSeparated (move own hers own_next hers_next) r
  apart_step A B o h o' h' (inl (inl east)) =
      by_x (λ a b le. one_side (hers.x -ℤ own.x) (hers_next.x -ℤ own_next.x) r a b (up_by own.x hers.x A.east B.west r o.east h.west east, up_by own_next.x hers_next.x A.east B.west r o'.east h'.west east) le)
  apart_step A B o h o' h' (inl (inr west)) =
      by_x (λ a b le. other_side (hers.x -ℤ own.x) (hers_next.x -ℤ own_next.x) r a b (down_by own.x hers.x B.east A.west r o.west h.east west, down_by own_next.x hers_next.x B.east A.west r o'.west h'.east west) le)
  apart_step A B o h o' h' (inr (inl north)) =
      by_y (λ a b le. one_side (hers.y -ℤ own.y) (hers_next.y -ℤ own_next.y) r a b (up_by own.y hers.y A.north B.south r o.north h.south north, up_by own_next.y hers_next.y A.north B.south r o'.north h'.south north) le)
  apart_step A B o h o' h' (inr (inr south)) =
      by_y (λ a b le. other_side (hers.y -ℤ own.y) (hers_next.y -ℤ own_next.y) r a b (down_by own.y hers.y B.north A.south r o.south h.north south, down_by own_next.y hers_next.y B.north A.south r o'.south h'.north south) le)

-- ---- a path and a target beside it

abbrev nowhere : TickState
nowhere = record { point = record { x = pos 0; y = pos 0 }; direction = None; speed = None }

-- she is at a tick from now on where she is predicted
pub target_ahead : (s : Situation) (T : Target) (k : ℕ) (d : TickState) → k < length T.ahead → target_at s T (now_of s + k) ≡ Some (get_or T.ahead k d)
target_ahead s T k d lt =
    let here : now_of s + k - now_of s ≡ k = omega arith in
    when_not_less (now_of s + k) (now_of s) (sighting T.past (now_of s + k)) _ (omega arith)
    ∙ (ap (λ (i : ℕ). slice_get T.ahead i) here ∙ slice_get-get_or T.ahead k d lt)

module _ (s : Situation) (plan : List ℕ) (T : Target) (is : IsTarget s T) (first : ℕ) (path : List TickState) where
  abbrev own : ℕ → TickState
  own j = get_or path j nowhere

  abbrev hers : ℕ → TickState
  hers j = get_or T.ahead (first + j) nowhere

  abbrev pair_at : ℕ → PairStep
  pair_at j = record { step = move (own j).point (hers j).point (own (j + 1)).point (hers (j + 1)).point; a = own j; b = hers j }

  module _ (planned : first + length path ≤ positions_of s.lattice + 1) (states : IsPath s plan first path) where
    seen_ahead : (j : ℕ) → j < length path → target_at s T (now_of s + first + j) ≡ Some (hers j)
    seen_ahead j lt =
        let there : now_of s + first + j ≡ now_of s + (first + j) = omega arith in
        let long = is.from_now in
        ap (target_at s T) there ∙ target_ahead s T (first + j) nowhere (omega arith)

    step_there : (j : ℕ) → j + 1 < length path → Some (pair_at j) ≡ step_at (own_at s plan) (target_at s T) (now_of s + first + j)
    step_there j lt =
        let next : now_of s + first + j + 1 ≡ now_of s + first + (j + 1) = omega arith in
        step_by (own_at s plan) (target_at s T) (now_of s + first + j) (own j) (hers j) (own (j + 1)) (hers (j + 1)) (Some (pair_at j))
        (own_on_path s plan first path j nowhere (omega arith) states)
        (seen_ahead j (omega arith))
        (ap (own_at s plan) next ∙ own_on_path s plan first path (j + 1) nowhere lt states)
        (ap (target_at s T) next ∙ seen_ahead (j + 1) lt)
        refl

    heads_there : IsTrack path → (j : ℕ) → j < length path → HaveDirections (pair_at j)
    heads_there track j lt = record {
      a = track.heads j nowhere lt;
      b = subst (λ (o : Option TickState). IfSome o HasDirection) (seen_ahead j lt) (is.tracked.heads (now_of s + first + j) (omega arith));
    }

    in_beside : (B : Bounds) → HoldsPath B (ahead_from T first (length path)) → (j : ℕ) → j < length path → IsIn B (hers j).point
    in_beside B holds j lt =
        let long = is.from_now in
        let dropped : length (drop first T.ahead) ≡ length T.ahead - first = length-drop first T.ahead in
        let taken = length-take (length path) (drop first T.ahead) in
        let same : get_or (ahead_from T first (length path)) j nowhere ≡ hers j = get_or-take (length path) (drop first T.ahead) j nowhere lt ∙ get_or-drop first T.ahead j nowhere in
        subst (λ (state : TickState). IsIn B state.point) same (holds j nowhere (omega arith))

    -- If the boxes lie apart as far as her domain reaches, it is entered in no step.
    pub apart_along : IsTrack path → (A B : Bounds) → HoldsPath A path → HoldsPath B (ahead_from T first (length path)) → (r : ℕ) → LieApart A B r
        → ((pair : PairStep) → HaveDirections pair → IsSeparated pair.step r → ¬ Enters s T pair) → ¬ EntersAlong s plan T (now_of s + first) (length path - 1)
    apart_along track A B holds beside r apart outside e =
        let j = e.ahead in
        let within = e.within in
        let lt : j + 1 < length path = omega arith in
        let enters : Enters s T (pair_at j) = subst (λ (o : Option PairStep). IsSomeAnd o (Enters s T)) (sym (step_there j lt)) e.enters in
        outside (pair_at j) (heads_there track j (omega arith))
        (apart_step (own j).point (hers j).point (own (j + 1)).point (hers (j + 1)).point r A B
        (holds j nowhere (omega arith)) (in_beside B beside j (omega arith)) (holds (j + 1) nowhere lt) (in_beside B beside (j + 1) lt) apart) enters
