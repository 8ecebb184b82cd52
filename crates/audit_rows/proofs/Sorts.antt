-- Rows by the sort of marks that they report, and the row of a lane's stretch.
use Rattle.std.proofs.Common.{◌≡◌, ℕ, ◌-◌, ◌≤◌, true, false, List, length, refl, sym, ap, subst, ◌∙◌, arith, ◌⊎◌, inl, inr, Some, None}
use Rattle.std.specs.Prelude.{Option}
use Rattle.std.specs.Option.{IfSome}
use Rattle.sectors.specs.declared.class.Class.{Class}
use Rattle.audit_rows.specs.declared.mark.Mark.{Mark}
use Rattle.audit_rows.specs.declared.mark.Mark.TheVariants as mark
use Rattle.audit_rows.specs.declared.row.Row.{Row}
use Rattle.audit_rows.specs.declared.row.Row.TheVariants as row
use Rattle.audit_rows.specs.declared.topic.Topic.{Topic}
use Rattle.audit_rows.specs.declared.topic.Topic.TheVariants as topic
use Rattle.audit_rows.specs.Inner.Lanes.{IsWhole, row_of_mark}
use Rattle.audit_rows.specs.Inner.Sorts.{Sort, Nothing, Broken, Undecided, Engaged, join, sort_of}
use Rattle.audit_rows.specs.Order.{first_step_of, last_step_of, topic_of}
use Rattle.audit_rows.specs.Rows.{Measures, TellsOf}
use Rattle.audit_rows.specs.Stretches.{HasKindAndLeast, MarksEngagement}

-- the sort of marks that a row reports
abbrev pub told_sort : Row → Sort
told_sort (row.Meeting pair kind first last least) = Engaged
told_sort (row.Verdict pair rule true first last) = Undecided
told_sort (row.Verdict pair rule false first last) = Broken

pub to_sort : (r : Row) (m : Mark) → TellsOf r m → sort_of m ≡ told_sort r
to_sort (row.Meeting pair kind first last least) mark.Nothing h = absurd h
to_sort (row.Meeting pair kind first last least) mark.Broken h = absurd h
to_sort (row.Meeting pair kind first last least) mark.Undecided h = absurd h
to_sort (row.Meeting pair kind first last least) (mark.Engaged class distance) h = refl
to_sort (row.Verdict pair rule true first last) m h = ap sort_of h
to_sort (row.Verdict pair rule false first last) m h = ap sort_of h

pub from_sort : (r : Row) (m : Mark) → sort_of m ≡ told_sort r → TellsOf r m
from_sort (row.Meeting pair kind first last least) mark.Nothing e = absurd (cc)
from_sort (row.Meeting pair kind first last least) mark.Broken e = absurd (cc)
from_sort (row.Meeting pair kind first last least) mark.Undecided e = absurd (cc)
from_sort (row.Meeting pair kind first last least) (mark.Engaged class distance) e = tt
from_sort (row.Verdict pair rule true first last) mark.Nothing e = absurd (cc)
from_sort (row.Verdict pair rule true first last) mark.Broken e = absurd (cc)
from_sort (row.Verdict pair rule true first last) mark.Undecided e = refl
from_sort (row.Verdict pair rule true first last) (mark.Engaged class distance) e = absurd (cc)
from_sort (row.Verdict pair rule false first last) mark.Nothing e = absurd (cc)
from_sort (row.Verdict pair rule false first last) mark.Broken e = refl
from_sort (row.Verdict pair rule false first last) mark.Undecided e = absurd (cc)
from_sort (row.Verdict pair rule false first last) (mark.Engaged class distance) e = absurd (cc)

pub tells_of_something : (r : Row) → TellsOf r mark.Nothing → ⊥
tells_of_something (row.Meeting pair kind first last least) h = h
tells_of_something (row.Verdict pair rule true first last) h = let e = ap sort_of h in absurd (cc)
tells_of_something (row.Verdict pair rule false first last) h = let e = ap sort_of h in absurd (cc)

pub sort_join : (a b : Mark) → sort_of (join a b) ≡ sort_of a
sort_join mark.Nothing b = refl
sort_join mark.Broken b = refl
sort_join mark.Undecided b = refl
sort_join (mark.Engaged kind least) mark.Nothing = refl
sort_join (mark.Engaged kind least) mark.Broken = refl
sort_join (mark.Engaged kind least) mark.Undecided = refl
sort_join (mark.Engaged kind least) (mark.Engaged other distance) = refl

-- A mark of the same sort leaves a mark unchanged, unless it marks an engagement.
pub join_still : (a b : Mark) → sort_of a ≡ sort_of b → (MarksEngagement b → ⊥) → join a b ≡ a
join_still mark.Nothing b e other = refl
join_still mark.Broken b e other = refl
join_still mark.Undecided b e other = refl
join_still (mark.Engaged kind least) mark.Nothing e other = refl
join_still (mark.Engaged kind least) mark.Broken e other = refl
join_still (mark.Engaged kind least) mark.Undecided e other = refl
join_still (mark.Engaged kind least) (mark.Engaged class distance) e other = absurd (other tt)

-- ---- one kind and one least distance

least_below : (o : Option ℕ) (n least : ℕ) → o ≡ Some n → IfSome o (λ distance. least ≤ distance) → least ≤ n
least_below o n least e h = subst (λ (p : Option ℕ). IfSome p (λ distance. least ≤ distance)) e h

module _ (marks : List Mark) (from to : ℕ) (kind other : Class) (least distance : ℕ) (h : HasKindAndLeast marks from to kind least) (g : HasKindAndLeast marks from to other distance) where
  one_kind : kind ≡ other
  one_kind = let e : Some kind ≡ Some other = sym h.of_first ∙ g.of_first in cc

  one_least : least ≡ distance
  one_least =
      let (k, low, high, is) = h.reached in
      let (n, from_low, to_high, reached) = g.reached in
      let up = least_below _ distance least reached (h.at_least n from_low to_high) in
      let down = least_below _ least distance is (g.at_least k low high) in
      omega arith

-- ---- the row of a stretch

-- what holds of the row of a stretch of a topic
pub record IsToldOf (about : Topic) (m : Mark) (first last : ℕ) (r : Row) : Type 0 where
  pub topic : topic_of r ≡ about
  pub begins : first_step_of r ≡ first
  pub ends : last_step_of r ≡ last
  pub sort : told_sort r ≡ sort_of m
  pub measures : (marks : List Mark) (from : ℕ) → IsWhole marks from m → Measures r marks from (length marks - 1)

pub is_told : (about : Topic) (m : Mark) (first last : ℕ) (r : Row) → row_of_mark about m first last ≡ Some r → IsToldOf about m first last r
is_told (topic.Meeting pair) mark.Nothing first last r e = absurd (cc)
is_told (topic.Meeting pair) mark.Broken first last r e = absurd (cc)
is_told (topic.Meeting pair) mark.Undecided first last r e = absurd (cc)
is_told (topic.Meeting pair) (mark.Engaged kind least) first last r e =
    let same : row.Meeting pair kind first last least ≡ r = cc in
    subst (IsToldOf (topic.Meeting pair) (mark.Engaged kind least) first last) same (record { topic = refl; begins = refl; ends = refl; sort = refl; measures = λ marks from h. h })
is_told (topic.Verdict pair rule) mark.Nothing first last r e = absurd (cc)
is_told (topic.Verdict pair rule) mark.Broken first last r e =
    let same : row.Verdict pair rule false first last ≡ r = cc in
    subst (IsToldOf (topic.Verdict pair rule) mark.Broken first last) same (record { topic = refl; begins = refl; ends = refl; sort = refl; measures = λ marks from h. tt })
is_told (topic.Verdict pair rule) mark.Undecided first last r e =
    let same : row.Verdict pair rule true first last ≡ r = cc in
    subst (IsToldOf (topic.Verdict pair rule) mark.Undecided first last) same (record { topic = refl; begins = refl; ends = refl; sort = refl; measures = λ marks from h. tt })
is_told (topic.Verdict pair rule) (mark.Engaged kind least) first last r e = absurd (cc)

-- a row that reports the stretch is its row
module _ (marks : List Mark) (from to first last : ℕ) where
  module _ (about : Topic) where
    pub told_by : (r : Row) (m : Mark) → topic_of r ≡ about → first_step_of r ≡ first → last_step_of r ≡ last → told_sort r ≡ sort_of m → Measures r marks from to → IsWhole marks from m → to ≡ length marks - 1
        → row_of_mark about m first last ≡ Some r
    told_by (row.Meeting pair kind f l least) mark.Nothing t b e s h w end = absurd (cc)
    told_by (row.Meeting pair kind f l least) mark.Broken t b e s h w end = absurd (cc)
    told_by (row.Meeting pair kind f l least) mark.Undecided t b e s h w end = absurd (cc)
    told_by (row.Meeting pair kind f l least) (mark.Engaged class distance) t b e s h w end =
        let g = subst (λ (n : ℕ). HasKindAndLeast marks from n class distance) (sym end) w in
        let same_kind = one_kind marks from to kind class least distance h g in
        let same_least = one_least marks from to kind class least distance h g in
        subst (λ (tp : Topic). row_of_mark tp (mark.Engaged class distance) first last ≡ Some (row.Meeting pair kind f l least)) t
        (λ i. Some (row.Meeting pair (sym same_kind i) (sym b i) (sym e i) (sym same_least i)))
    told_by (row.Verdict pair rule true f l) mark.Nothing t b e s h w end = absurd (cc)
    told_by (row.Verdict pair rule true f l) mark.Broken t b e s h w end = absurd (cc)
    told_by (row.Verdict pair rule true f l) mark.Undecided t b e s h w end =
        subst (λ (tp : Topic). row_of_mark tp mark.Undecided first last ≡ Some (row.Verdict pair rule true f l)) t (λ i. Some (row.Verdict pair rule true (sym b i) (sym e i)))
    told_by (row.Verdict pair rule true f l) (mark.Engaged class distance) t b e s h w end = absurd (cc)
    told_by (row.Verdict pair rule false f l) mark.Nothing t b e s h w end = absurd (cc)
    told_by (row.Verdict pair rule false f l) mark.Broken t b e s h w end =
        subst (λ (tp : Topic). row_of_mark tp mark.Broken first last ≡ Some (row.Verdict pair rule false f l)) t (λ i. Some (row.Verdict pair rule false (sym b i) (sym e i)))
    told_by (row.Verdict pair rule false f l) mark.Undecided t b e s h w end = absurd (cc)
    told_by (row.Verdict pair rule false f l) (mark.Engaged class distance) t b e s h w end = absurd (cc)

-- no row reports a stretch of nothing
pub nothing_told : (about : Topic) (first last : ℕ) → row_of_mark about mark.Nothing first last ≡ None
nothing_told (topic.Meeting pair) first last = refl
nothing_told (topic.Verdict pair rule) first last = refl

pub is_nothing : (m : Mark) → (m ≡ mark.Nothing) ⊎ (sort_of m ≡ Nothing → ⊥)
is_nothing mark.Nothing = inl refl
is_nothing mark.Broken = inr (λ e. absurd (cc))
is_nothing mark.Undecided = inr (λ e. absurd (cc))
is_nothing (mark.Engaged kind least) = inr (λ e. absurd (cc))
