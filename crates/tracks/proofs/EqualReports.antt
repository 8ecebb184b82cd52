-- The test of two reports returns whether they are equal.
use Rattle.std.proofs.Common.{◌≡◌, ℕ, ◌==◌, ◌&&◌, nat_eq, Bool, true, Some, None, ℤ, refl, ap, subst, arith}
use Rattle.std.specs.Prelude.{Option}
use Rattle.std.specs.Option.{option_eq}
use Rattle.std.specs.Ordering.{int_eq}
use Rattle.std.proofs.lemmas.Bool.{and_from, and_parts, eqb-true}
use Rattle.std.proofs.lemmas.Bool.Decides.{Decides-int_eq, nat_tests}
use Rattle.ais_messages.specs.declared.message.PositionReport.{PositionReport}
use Rattle.tracks.specs.AcceptedReports.{same_report}

nat_itself : (a : ℕ) → nat_eq a a ≡ true
nat_itself a = grind (arith, nat_tests)

int_same : (a b : ℤ) → int_eq a b ≡ true → a ≡ b
int_same a b e = (Decides-int_eq a b).0 e

int_itself : (a : ℤ) → int_eq a a ≡ true
int_itself a = (Decides-int_eq a a).1 refl

option_same : {A : Type 0} (E : A → A → Bool) → ((a b : A) → E a b ≡ true → a ≡ b) → (p q : Option A) → option_eq E p q ≡ true → p ≡ q
option_same E same None None e = refl
option_same E same None (Some b) e = cc
option_same E same (Some a) None e = cc
option_same E same (Some a) (Some b) e = ap (λ x. Some x) (same a b e)

option_itself : {A : Type 0} (E : A → A → Bool) → ((a : A) → E a a ≡ true) → (p : Option A) → option_eq E p p ≡ true
option_itself E itself None = refl
option_itself E itself (Some a) = itself a

place_eq : (ℤ × ℤ) → (ℤ × ℤ) → Bool
place_eq p q = int_eq p.0 q.0 && int_eq p.1 q.1

place_same : (p q : ℤ × ℤ) → place_eq p q ≡ true → p ≡ q
unfolding place_eq
place_same p q e =
    let (first, second) = and_parts (int_eq p.0 q.0) (int_eq p.1 q.1) e in
    let one : p.0 ≡ q.0 = int_same p.0 q.0 first in
    let two : p.1 ≡ q.1 = int_same p.1 q.1 second in
    λ i. (one i, two i)

place_itself : (p : ℤ × ℤ) → place_eq p p ≡ true
unfolding place_eq
place_itself p = and_from (int_eq p.0 p.0) (int_eq p.1 p.1) (int_itself p.0) (int_itself p.1)

pub equal : (a b : PositionReport) → same_report a b ≡ true → a ≡ b
unfolding place_eq
equal a b e =
    let k : Bool = a.kind == b.kind in
    let m : Bool = a.mmsi == b.mmsi in
    let s : Bool = a.status == b.status in
    let p : Bool = option_eq place_eq a.place b.place in
    let o : Bool = option_eq nat_eq a.sog b.sog in
    let c : Bool = option_eq nat_eq a.cog b.cog in
    let h : Bool = option_eq nat_eq a.heading b.heading in
    let t : Bool = a.second == b.second in
    let (em, e6) = and_parts m (p && (o && (c && (h && (k && (s && t)))))) e in
    let (ep, e5) = and_parts p (o && (c && (h && (k && (s && t))))) e6 in
    let (eo, e4) = and_parts o (c && (h && (k && (s && t)))) e5 in
    let (ec, e3) = and_parts c (h && (k && (s && t))) e4 in
    let (eh, e2) = and_parts h (k && (s && t)) e3 in
    let (ek, e1) = and_parts k (s && t) e2 in
    let (es, et) = and_parts s t e1 in
    let kind : a.kind ≡ b.kind = eqb-true a.kind b.kind ek in
    let mmsi : a.mmsi ≡ b.mmsi = eqb-true a.mmsi b.mmsi em in
    let status : a.status ≡ b.status = eqb-true a.status b.status es in
    let place : a.place ≡ b.place = option_same place_eq place_same a.place b.place ep in
    let sog : a.sog ≡ b.sog = option_same nat_eq eqb-true a.sog b.sog eo in
    let cog : a.cog ≡ b.cog = option_same nat_eq eqb-true a.cog b.cog ec in
    let heading : a.heading ≡ b.heading = option_same nat_eq eqb-true a.heading b.heading eh in
    let second : a.second ≡ b.second = eqb-true a.second b.second et in
    λ i. record {
      kind = kind i;
      mmsi = mmsi i;
      status = status i;
      place = place i;
      sog = sog i;
      cog = cog i;
      heading = heading i;
      second = second i;
    }

itself : (a : PositionReport) → same_report a a ≡ true
unfolding place_eq
itself a =
    and_from (a.mmsi == a.mmsi) _ (nat_itself a.mmsi)
    (and_from (option_eq place_eq a.place a.place) _ (option_itself place_eq place_itself a.place)
    (and_from (option_eq nat_eq a.sog a.sog) _ (option_itself nat_eq nat_itself a.sog)
    (and_from (option_eq nat_eq a.cog a.cog) _ (option_itself nat_eq nat_itself a.cog)
    (and_from (option_eq nat_eq a.heading a.heading) _ (option_itself nat_eq nat_itself a.heading)
    (and_from (a.kind == a.kind) _ (nat_itself a.kind)
    (and_from (a.status == a.status) (a.second == a.second) (nat_itself a.status) (nat_itself a.second)))))))

pub same_from_equal : (a b : PositionReport) → a ≡ b → same_report a b ≡ true
same_from_equal a b e = subst (λ (r : PositionReport). same_report a r ≡ true) e (itself a)
