-- How far the vessels move from one tick to the next, and how long two of them stay far apart.
use Rattle.std.proofs.Common.{ℕ, suc, ◌≡◌, ◌+◌, ◌*◌, ◌<◌, ◌≤◌, inl, inr, List, [], ◌∷◌, length, get_or, set, map, ℤ, ◌-ℤ◌, Some, None, refl, ap₂, sym, subst, ◌∙◌, arith}
use Rattle.std.specs.Prelude.{All, Option, is_some, true, false, unsigned_abs}
use Rattle.std.proofs.lemmas.List.Elements.{All-set, All-weaker}
use Rattle.std.proofs.Math.Nat.{max-le, le-max_left, le-max_right}
use Rattle.std.proofs.lemmas.Int.{ints}
use Rattle.fixed_geometry.specs.declared.point.Point.{Point}
use Rattle.meetings.specs.Traces.{step_between}
use Rattle.motion.specs.declared.leg.TickState.{TickState}
use Rattle.mtl_formulas.specs.declared.glance.Glance.TheVariants.{Apart}
use Rattle.traces.specs.Audited.{SeenVessels, state_in, step_of}
use Rattle.traces.specs.Inner.Distances.{AreFar, IsDrift, IsFarUntil, MovesWithin, SeeTheSame, component_distance_of}
use Rattle.traces.specs.Inner.TracesKept.{ShowsApart}
use Rattle.traces.specs.declared.followed_trace.FollowedTrace.{FollowedTrace}
use Rattle.traces.proofs.Reach.{far_apart}
use Rattle.traces.proofs.SeenVessels.{same_or_other, state-here, state-later}

-- ---- the same vessels

pub same_mmsis : (before after : SeenVessels) → length before ≡ length after
    → ((k : ℕ) (d : ℕ × TickState) → k < length before → (get_or before k d).0 ≡ (get_or after k d).0) → SeeTheSame before after
same_mmsis [] [] e h = refl
same_mmsis [] (v ∷ vs) e h = absurd (omega (arith, e))
same_mmsis (u ∷ us) [] e h = absurd (omega (arith, e))
same_mmsis (u ∷ us) (v ∷ vs) e h =
    ap₂ (λ (m : ℕ) (ms : List ℕ). m ∷ ms) (h 0 u (omega arith)) (same_mmsis us vs (omega (arith, e)) (λ k d lt. h (suc k) d (omega (arith, lt))))

same_head : (u v : ℕ × TickState) (us vs : SeenVessels) → SeeTheSame (u ∷ us) (v ∷ vs) → u.0 ≡ v.0
same_head u v us vs same =
    let e : (u.0 ∷ map (λ (w : ℕ × TickState). w.0) us) ≡ (v.0 ∷ map (λ (w : ℕ × TickState). w.0) vs) = same in cc

same_tail : (u v : ℕ × TickState) (us vs : SeenVessels) → SeeTheSame (u ∷ us) (v ∷ vs) → SeeTheSame us vs
same_tail u v us vs same =
    let e : (u.0 ∷ map (λ (w : ℕ × TickState). w.0) us) ≡ (v.0 ∷ map (λ (w : ℕ × TickState). w.0) vs) = same in cc

some_more : (u : ℕ × TickState) (us : SeenVessels) → SeeTheSame (u ∷ us) [] → ⊥
some_more u us same = let e : (u.0 ∷ map (λ (w : ℕ × TickState). w.0) us) ≡ [] = same in absurd (cc)

pub same_count : (before after : SeenVessels) → SeeTheSame before after → length before ≡ length after
same_count [] [] same = refl
same_count [] (v ∷ vs) same = absurd (some_more v vs (sym same))
same_count (u ∷ us) [] same = absurd (some_more u us same)
same_count (u ∷ us) (v ∷ vs) same = let rest = same_count us vs (same_tail u v us vs same) in omega (arith, rest)

-- A fact of the states at both ticks of the vessel with each index holds of those of the vessel with each MMSI.
module _ (R : Option TickState → Option TickState → Type 0) (none : R None None) where
  pub by_mmsi : (before after : SeenVessels) → SeeTheSame before after
      → ((k : ℕ) (d : ℕ × TickState) → k < length before → R (Some (get_or before k d).1) (Some (get_or after k d).1)) → (mmsi : ℕ) → R (state_in mmsi before) (state_in mmsi after)
  by_mmsi [] [] same each mmsi = none
  by_mmsi [] (v ∷ vs) same each mmsi = absurd (some_more v vs (sym same))
  by_mmsi (u ∷ us) [] same each mmsi = absurd (some_more u us same)
  by_mmsi (u ∷ us) (v ∷ vs) same each mmsi =
      let head = same_head u v us vs same in
      elim (same_or_other u.0 mmsi) [
        | inl here ↦
            subst (λ (o : Option TickState). R o (state_in mmsi (v ∷ vs))) (sym (state-here mmsi u us here))
            (subst (λ (o : Option TickState). R (Some u.1) o) (sym (state-here mmsi v vs (sym head ∙ here))) (each 0 u (omega arith)))
        | inr other ↦
            subst (λ (o : Option TickState). R o (state_in mmsi (v ∷ vs))) (sym (state-later mmsi u us other))
            (subst (λ (o : Option TickState). R (state_in mmsi us) o) (sym (state-later mmsi v vs (λ e. other (head ∙ e))))
            (by_mmsi us vs (same_tail u v us vs same) (λ k d lt. each (suc k) d (omega (arith, lt))) mmsi))
      ]

pub seen_too : (before after : SeenVessels) → SeeTheSame before after → (mmsi : ℕ) → is_some (state_in mmsi before) ≡ is_some (state_in mmsi after)
seen_too before after same = by_mmsi (λ (a b : Option TickState). is_some a ≡ is_some b) refl before after same (λ k d lt. refl)

pub moves_within : (most : ℕ) (before after : SeenVessels) → SeeTheSame before after
    → ((k : ℕ) (d : ℕ × TickState) → k < length before → component_distance_of (get_or before k d).1.point (get_or after k d).1.point ≤ most)
    → (mmsi : ℕ) → MovesWithin (2 * most) (state_in mmsi before) (state_in mmsi after)
moves_within most before after same each = by_mmsi (MovesWithin (2 * most)) tt before after same (λ k d lt. let le = each k d lt in omega (arith, le))

-- ---- two vessels that move

abs_triangle : (a b c d : ℤ) → unsigned_abs (b -ℤ a) ≤ unsigned_abs (c -ℤ a) + unsigned_abs (d -ℤ c) + unsigned_abs (d -ℤ b)
abs_triangle a b c d = omega (arith, ints)

-- The distance of two points that move changes by at most their moves.
distance_shrinks : (a b c d : Point) → component_distance_of a b ≤ component_distance_of a c + component_distance_of c d + component_distance_of b d
distance_shrinks a b c d =
    max-le
    (omega (
      arith,
      abs_triangle a.x b.x c.x d.x,
      le-max_left (unsigned_abs (c.x -ℤ a.x)) (unsigned_abs (c.y -ℤ a.y)),
      le-max_left (unsigned_abs (d.x -ℤ c.x)) (unsigned_abs (d.y -ℤ c.y)),
      le-max_left (unsigned_abs (d.x -ℤ b.x)) (unsigned_abs (d.y -ℤ b.y)),
    ))
    (omega (
      arith,
      abs_triangle a.y b.y c.y d.y,
      le-max_right (unsigned_abs (c.x -ℤ a.x)) (unsigned_abs (c.y -ℤ a.y)),
      le-max_right (unsigned_abs (d.x -ℤ c.x)) (unsigned_abs (d.y -ℤ c.y)),
      le-max_right (unsigned_abs (d.x -ℤ b.x)) (unsigned_abs (d.y -ℤ b.y)),
    ))

module _ (watch drift limit : ℕ) where
  far_on : (more : ℕ) (a0 b0 a1 b1 : Option TickState) → MovesWithin more a0 a1 → MovesWithin more b0 b1 → AreFar watch drift limit a0 b0 → AreFar watch (drift + more) limit a1 b1
  far_on more None b0 a1 b1 m n far = absurd far
  far_on more (Some a) None a1 b1 m n far = absurd far
  far_on more (Some a) (Some b) None b1 m n far = absurd m
  far_on more (Some a) (Some b) (Some c) None m n far = absurd n
  far_on more (Some a) (Some b) (Some c) (Some d) m n far =
      let shrinks = distance_shrinks a.point b.point c.point d.point in
      far_still (component_distance_of a.point b.point) (component_distance_of a.point c.point) (component_distance_of c.point d.point) (component_distance_of b.point d.point) m n far shrinks
    where
      far_still : (ab ac cd bd : ℕ) → 2 * ac ≤ more → 2 * bd ≤ more → watch + limit ≤ drift + ab → ab ≤ ac + cd + bd → watch + limit ≤ drift + more + cd
      far_still ab ac cd bd m n far shrinks = omega (arith, m, n, far, shrinks)

  pub shows_apart : (a0 b0 a1 b1 : Option TickState) → drift < limit → AreFar watch drift limit a0 b0 → is_some a0 ≡ is_some a1 → is_some b0 ≡ is_some b1
      → ShowsApart watch (step_between a0 b0 a1 b1) Apart
  shows_apart None b0 a1 b1 lt far e f = absurd far
  shows_apart (Some a) None a1 b1 lt far e f = absurd far
  shows_apart (Some a) (Some b) None b1 lt far e f = absurd (let no : true ≡ false = e in cc)
  shows_apart (Some a) (Some b) (Some c) None lt far e f = absurd (let no : true ≡ false = f in cc)
  shows_apart (Some a) (Some b) (Some c) (Some d) lt far e f = (refl, far_apart watch a.point b.point (over (component_distance_of a.point b.point) far))
    where
      over : (ab : ℕ) → watch + limit ≤ drift + ab → watch < ab
      over ab far = omega (arith, lt, far)

-- ---- the vessels of a trace

-- They are still far apart at the next tick.
pub far_after : (watch drift more : ℕ) (before after : SeenVessels) → IsDrift more before after → (trace : FollowedTrace) → IsFarUntil watch drift before trace
    → IsFarUntil watch (drift + more) after trace
far_after watch drift more before after (inl most) trace h = let bound = h.bound in record {
  bound = omega (arith, bound);
  far = λ lt. absurd (omega (arith, lt, most, bound));
}
far_after watch drift more before after (inr moves) trace h = let bound = h.bound in record {
  bound = omega (arith, bound);
  far = λ lt. far_on watch drift trace.far_until more (state_in trace.pair.subject before) (state_in trace.pair.other before) (state_in trace.pair.subject after) (state_in trace.pair.other after)
      (moves trace.pair.subject) (moves trace.pair.other) (h.far (omega (arith, lt)));
}

-- A glance at the step to the next tick shows that they are apart.
pub shows_far : (watch drift : ℕ) (before after : SeenVessels) (trace : FollowedTrace) → SeeTheSame before after → drift < trace.far_until → IsFarUntil watch drift before trace
    → ShowsApart watch (step_of trace.pair before after) Apart
shows_far watch drift before after trace same lt h =
    shows_apart watch drift trace.far_until (state_in trace.pair.subject before) (state_in trace.pair.other before) (state_in trace.pair.subject after) (state_in trace.pair.other after)
    lt (h.far lt) (seen_too before after same trace.pair.subject) (seen_too before after same trace.pair.other)

-- ---- all traces

module _ (watch drift : ℕ) (latest seen : SeenVessels) (items : List FollowedTrace) (index : ℕ) (same : seen ≡ latest) (all : All (IsFarUntil watch drift latest) items) where
  -- The vessels of the trace at an index are far apart.
  pub far_at : (trace : FollowedTrace) → trace ≡ get_or items index trace → index < length items → IsFarUntil watch drift seen trace
  far_at trace e lt =
      subst (λ (vessels : SeenVessels). IsFarUntil watch drift vessels trace) (sym same)
      (subst (λ (t : FollowedTrace). IsFarUntil watch drift latest t) (sym e) (all index trace lt))

  -- If the trace at an index changes, the vessels of each trace are far apart, as before.
  pub far_set : (trace : FollowedTrace) → IsFarUntil watch drift seen trace → All (IsFarUntil watch drift latest) (set items index trace)
  far_set trace far = All-set (IsFarUntil watch drift latest) items index trace (subst (λ (vessels : SeenVessels). IsFarUntil watch drift vessels trace) same far) all

-- The vessels of each trace are still far apart at the next tick.
pub all_far_after : (watch drift more : ℕ) (before after : SeenVessels) (traces : List FollowedTrace) → IsDrift more before after → All (IsFarUntil watch drift before) traces
    → All (IsFarUntil watch (drift + more) after) traces
all_far_after watch drift more before after traces moves =
    All-weaker (IsFarUntil watch drift before) (IsFarUntil watch (drift + more) after) (far_after watch drift more before after moves) traces
