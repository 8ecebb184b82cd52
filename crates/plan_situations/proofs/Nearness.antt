-- The vessels near own ship, one after the other.
use Rattle.std.proofs.Common.{◌≡◌, ◌∙◌, ℕ, suc, ◌+◌, ◌<◌, List, [], ◌∷◌, ◌++◌, length, take, get_or, refl, ap, ap₂, subst, sym, arith, Some, None, true}
use Rattle.std.specs.Prelude.{Option, slice_get, not, ◌==◌}
use Rattle.std.specs.List.{All, AllPairs, cons_option, filter_map}
use Rattle.std.specs.Option.{option_to_list}
use Rattle.std.proofs.lemmas.List.{take_more}
use Rattle.std.proofs.lemmas.List.Elements.{All-cons, All-head, All-nil, All-tail, filter_map-append}
use Rattle.std.proofs.lemmas.List.Kept.{AllPairs-cons, AllPairs-filter}
use Rattle.std.proofs.lemmas.Option.{get_or_from_slice_get, slice_get_within}
use Rattle.tracks.specs.AcceptedReports.{JudgingNumbers}
use Rattle.tracks.specs.VesselsHeld.{Sent, held_of, is_held}
use Rattle.tracks.specs.declared.accepted.Accepted.{Accepted}
use Rattle.tracks.proofs.ForCallers.{each_is_held, held_in_order}
use Rattle.fixed_geometry.specs.declared.point.Point.{Point}
use Rattle.plan_situations.specs.NearVessels.{near_by, near_of, others_of}
use Rattle.plan_situations.specs.Readiness.{latest_of}
use Rattle.plan_situations.specs.declared.near.Near.{Near}

-- ---- one vessel more

alone : (o : Option Near) → cons_option o [] ≡ option_to_list o
alone None = refl
alone (Some vessel) = refl

pub near_more : (f : ℕ → Option Near) (ms : List ℕ) (k m : ℕ) → slice_get ms k ≡ Some m
    → filter_map f (take (k + 1) ms) ≡ filter_map f (take k ms) ++ option_to_list (f m)
near_more f ms k m at =
    let lt = slice_get_within ms k m at in
    let here : get_or ms k 0 ≡ m = get_or_from_slice_get ms k m 0 at in
    ap (filter_map f) (take_more ms k 0 lt) ∙ filter_map-append f (take k ms) (get_or ms k 0 ∷ [])
    ∙ ap (λ (vessels : List Near). filter_map f (take k ms) ++ vessels) (alone (f (get_or ms k 0)))
    ∙ ap (λ (n : ℕ). filter_map f (take k ms) ++ option_to_list (f n)) here

-- ---- their order

abbrev pub IsBefore : Near → Near → Type 0
IsBefore a b = a.mmsi < b.mmsi

above : (f : ℕ → Option Near) (n : ℕ) (ms : List ℕ) → ((m : ℕ) (v : Near) → f m ≡ Some v → v.mmsi ≡ m) → All (λ (m : ℕ). n < m) ms
    → All (λ (v : Near). n < v.mmsi) (filter_map f ms)
above f n [] own all = All-nil (λ (v : Near). n < v.mmsi)
above f n (m ∷ ms) own all =
    onto (f m) refl (All-head (λ (m : ℕ). n < m) m ms all) (above f n ms own (All-tail (λ (m : ℕ). n < m) m ms all))
  where
    onto : (o : Option Near) → f m ≡ o → n < m → All (λ (v : Near). n < v.mmsi) (filter_map f ms) → All (λ (v : Near). n < v.mmsi) (cons_option o (filter_map f ms))
    onto None is lt rest = rest
    onto (Some v) is lt rest = let same = own m v is in All-cons (λ (v : Near). n < v.mmsi) v (filter_map f ms) (omega arith) rest

in_order : (f : ℕ → Option Near) (ms : List ℕ) → ((m : ℕ) (v : Near) → f m ≡ Some v → v.mmsi ≡ m) → AllPairs (λ (a b : ℕ). a < b) ms → AllPairs IsBefore (filter_map f ms)
in_order f [] own h = λ i j d lt within. absurd (omega arith)
in_order f (m ∷ ms) own h =
    onto (f m) refl (in_order f ms own (λ i j d lt within. h (suc i) (suc j) d (omega arith) (omega arith)))
  where
    first : All (λ (k : ℕ). m < k) ms
    first = λ k d lt. h 0 (suc k) d (omega arith) (omega arith)

    onto : (o : Option Near) → f m ≡ o → AllPairs IsBefore (filter_map f ms) → AllPairs IsBefore (cons_option o (filter_map f ms))
    onto None is rest = rest
    onto (Some v) is rest =
        let same = own m v is in
        AllPairs-cons IsBefore v (filter_map f ms) (subst (λ (n : ℕ). All (λ (w : Near). n < w.mmsi) (filter_map f ms)) (sym same) (above f m ms own first)) rest

-- the number of a near vessel
pub number_is : (gap now range : ℕ) (point : Point) (m : ℕ) (latest : Option Accepted) (v : Near) → near_by gap now range point m latest ≡ Some v → v.mmsi ≡ m
number_is gap now range point m None v e = cc
number_is gap now range point m (Some latest) v e = grind arith

pub near_in_order : (numbers : JudgingNumbers) (messages : List Sent) (now range : ℕ) (point : Point) → AllPairs IsBefore (near_of numbers messages now range point)
near_in_order numbers messages now range point =
    in_order (λ mmsi. near_by numbers.gap now range point mmsi (latest_of numbers messages mmsi)) (held_of numbers messages)
    (λ m v e. number_is numbers.gap now range point m (latest_of numbers messages m) v e) (held_in_order numbers messages)

pub others_in_order : (own : ℕ) (near : List Near) → AllPairs IsBefore near → AllPairs IsBefore (others_of own near)
others_in_order own near h = AllPairs-filter IsBefore (λ (v : Near). not (v.mmsi == own)) near h

-- ---- each of them is held

all_kept : (P : Near → Type 0) (f : ℕ → Option Near) (ms : List ℕ) → ((k d : ℕ) → k < length ms → (v : Near) → f (get_or ms k d) ≡ Some v → P v) → All P (filter_map f ms)
all_kept P f [] each = All-nil P
all_kept P f (m ∷ ms) each = onto (f m) refl (all_kept P f ms (λ k d lt v e. each (suc k) d (omega arith) v e))
  where
    onto : (o : Option Near) → f m ≡ o → All P (filter_map f ms) → All P (cons_option o (filter_map f ms))
    onto None is rest = rest
    onto (Some v) is rest = All-cons P v (filter_map f ms) (each 0 m (omega arith) v is) rest

pub near_are_held : (numbers : JudgingNumbers) (messages : List Sent) (now range : ℕ) (point : Point)
    → All (λ (v : Near). is_held numbers messages v.mmsi ≡ true) (near_of numbers messages now range point)
near_are_held numbers messages now range point =
    all_kept (λ (v : Near). is_held numbers messages v.mmsi ≡ true) (λ mmsi. near_by numbers.gap now range point mmsi (latest_of numbers messages mmsi)) (held_of numbers messages)
    (λ k d lt v e. subst (λ (m : ℕ). is_held numbers messages m ≡ true)
    (sym (number_is numbers.gap now range point (get_or (held_of numbers messages) k d) (latest_of numbers messages (get_or (held_of numbers messages) k d)) v e))
    (each_is_held numbers messages k d lt))

-- ---- one vessel more

pub one_vessel_more : (f : ℕ → Option Near) (ms : List ℕ) (k m : ℕ) (o : Option Near) (old new : List Near) → slice_get ms k ≡ Some m → f m ≡ o → old ≡ filter_map f (take k ms)
    → new ≡ old ++ option_to_list o → new ≡ filter_map f (take (k + 1) ms)
one_vessel_more f ms k m o old new at is so_far pushed =
    pushed ∙ ap (λ (xs : List Near). xs ++ option_to_list o) so_far ∙ ap (λ (p : Option Near). filter_map f (take k ms) ++ option_to_list p) (sym is) ∙ sym (near_more f ms k m at)

pub near_so : (numbers : JudgingNumbers) (gap time range : ℕ) (point : Point) (m : ℕ) (result : Option Near) (latest told : Option Accepted) → numbers.gap ≡ gap → told ≡ latest
    → result ≡ near_by gap time range point m told → near_by numbers.gap time range point m latest ≡ result
near_so numbers gap time range point m result latest told same is value = sym (value ∙ ap₂ (λ (g : ℕ) (o : Option Accepted). near_by g time range point m o) (sym same) is)
