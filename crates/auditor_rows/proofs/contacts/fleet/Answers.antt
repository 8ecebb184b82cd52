use Rattle.std.proofs.Common.{ℕ, ◌≡◌, ◌+◌, ◌^◌, ◌<◌, ◌≤◌, ◌⊎◌, inl, inr, [], ◌∷◌, ◌++◌, map, length, get_or, ap, sym, arith}
use Rattle.std.proofs.lemmas.List.{get_or-map, get_or_append_left, get_or_push, length-map, length_push}
use Rattle.std.proofs.lemmas.List.Elements.{All-push, All-weaker}
use Rattle.std.specs.List.{All}
use Rattle.encounters.specs.Directions.{HasDirection}
use Rattle.fixed_geometry.specs.Sizes.{IsBelow}
use Rattle.motion.specs.declared.leg.TickState.{TickState}
use Rattle.traces.specs.Audited.{SeenVessels, AreAscending, ArePlaced}
use Rattle.auditor_rows.proofs.contacts.fleet.Goals as goal

last_or_earlier : (k n : ℕ) → k + 1 < n + 1 → (k + 1 ≡ n) ⊎ (k + 1 < n)
last_or_earlier k n lt = grind arith

mmsi_at : (seen : SeenVessels) (k : ℕ) (d : ℕ × TickState) → k < length seen → get_or (map (λ (vessel : ℕ × TickState). vessel.0) seen) k 0 ≡ (get_or seen k d).0
mmsi_at seen k d lt = get_or-map (λ (vessel : ℕ × TickState). vessel.0) seen k d 0 lt

still_ascending : (seen : SeenVessels) (v : ℕ × TickState) (m : ℕ) → AreAscending seen → All (λ (vessel : ℕ × TickState). vessel.0 ≤ m) seen → m < v.0 → AreAscending (seen ++ v ∷ [])
still_ascending seen v m up all less k lt =
    let long : length (seen ++ v ∷ []) ≡ length seen + 1 = length_push seen v in
    let as_long = length-map (seen ++ v ∷ []) (λ (vessel : ℕ × TickState). vessel.0) in
    let inside : k < length seen = omega arith in
    let here = mmsi_at (seen ++ v ∷ []) k v (omega arith) in
    let next = mmsi_at (seen ++ v ∷ []) (k + 1) v (omega arith) in
    let same : (get_or (seen ++ v ∷ []) k v).0 ≡ (get_or seen k v).0 = ap (λ (w : ℕ × TickState). w.0) (get_or_append_left seen (v ∷ []) v k inside) in
    elim (last_or_earlier k (length seen) (omega arith)) [
      | inl last ↦ (let end : (get_or (seen ++ v ∷ []) (k + 1) v).0 ≡ v.0 = ap (λ (w : ℕ × TickState). w.0) (get_or_push seen v v (k + 1) (sym last)) in
          let most : (get_or seen k v).0 ≤ m = all k v inside in
          omega arith)
      | inr earlier ↦ (let same_next : (get_or (seen ++ v ∷ []) (k + 1) v).0 ≡ (get_or seen (k + 1) v).0 = ap (λ (w : ℕ × TickState). w.0) (get_or_append_left seen (v ∷ []) v (k + 1) earlier) in
          let was = up k (omega (arith, length-map seen (λ (vessel : ℕ × TickState). vessel.0))) in
          let was_here = mmsi_at seen k v inside in
          let was_next = mmsi_at seen (k + 1) v earlier in
          omega arith)
    ]

now_greatest : (seen : SeenVessels) (v : ℕ × TickState) (m : ℕ) → v.0 ≡ m + 10 → All (λ (vessel : ℕ × TickState). vessel.0 ≤ m) seen
    → All (λ (vessel : ℕ × TickState). vessel.0 ≤ m + 10) (seen ++ v ∷ [])
now_greatest seen v m is all =
    All-push (λ (vessel : ℕ × TickState). vessel.0 ≤ m + 10) seen v
    (All-weaker (λ (vessel : ℕ × TickState). vessel.0 ≤ m) (λ (vessel : ℕ × TickState). vessel.0 ≤ m + 10) (λ w le. omega arith) seen all)
    (omega arith)

still_placed : (seen : SeenVessels) (v : ℕ × TickState) → ArePlaced seen → IsBelow (2 ^ 33) v.1.point × HasDirection v.1 → ArePlaced (seen ++ v ∷ [])
still_placed seen v placed here = All-push (λ (vessel : ℕ × TickState). IsBelow (2 ^ 33) vessel.1.point × HasDirection vessel.1) seen v placed here

pub loop-x-preserved : goal.loop-x-preserved
loop-x-preserved c =
    let seen = c.loop-x.seen.items in
    let m = c.loop-x.mmsi in
    let v = c.vessel.result in
    let is : v.0 ≡ m + 10 = c.vessel.ensures.mmsi in
    record {
      mmsi = omega (arith, c.loop-x.invariant.mmsi);
      none_greater = rw c.in_ok-push.ensures.items (now_greatest seen v m (omega arith) c.loop-x.invariant.none_greater);
      ascending = rw c.in_ok-push.ensures.items (still_ascending seen v m c.loop-x.invariant.ascending c.loop-x.invariant.none_greater (omega arith));
      placed = rw c.in_ok-push.ensures.items (still_placed seen v c.loop-x.invariant.placed c.vessel.ensures.placed);
    }
