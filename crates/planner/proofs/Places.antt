-- What is kept of each target, one after the other.
use Rattle.std.proofs.Common.{◌≡◌, ◌≢◌, ◌∙◌, ℕ, ◌+◌, ◌<◌, ◌≤◌, ◌⊎◌, inl, inr, List, [], ◌∷◌, ◌++◌, length, take, drop, get_or, set, refl, sym, ap, subst, arith, Bool, true, false}
use Rattle.std.specs.Prelude.{IsTrue, ◌↔◌}
use Rattle.std.proofs.lemmas.Bool.{cases_lt}
use Rattle.std.proofs.lemmas.List.{get_or_default, get_or-set_other, get_or-set_same}
use Rattle.std.proofs.Math.Seq.{take-append_seam}
use Rattle.mtl_formulas.specs.Traces.{Trace}
use Rattle.plan_situations.specs.FailingPlans.{EntersDomain, FailsTowards}
use Rattle.plan_situations.proofs.FlatList.{some_here}
use Rattle.planner.specs.Inner.Breaking.{Tells, formulas_of}
use Rattle.plan_situations.specs.Boxes.{ahead_from, HoldsPath}
use Rattle.plan_situations.specs.Prefixes.{steps_told}
use Rattle.plan_situations.specs.declared.boxes.Bounds.{Bounds}
use Rattle.planner.specs.Inner.Legs.{IsPlannedLeg}
use Rattle.planner.specs.Inner.Levels.{AreBeside, HasPlaces, IsBasis, IsToldAtNow, StandsAt, StaysOut}
use Rattle.planner.specs.Inner.Watching.{IsCutAtNow, Stands}
use Rattle.planner.specs.declared.already.Already.{Already}
use Rattle.planner.specs.declared.basis.SearchBasis.{SearchBasis}
use Rattle.planner.specs.declared.legs.PlannedLeg.{PlannedLeg}
use Rattle.planner.specs.declared.level.Level.{Level}
use Rattle.plan_situations.specs.declared.situation.Situation.{Situation}
use Rattle.plan_situations.specs.declared.situation.Target.{Target}
use Rattle.planner.specs.declared.watched.Watched.{Watched}

-- ---- lists whose elements are replaced one after the other

pub done_set : {X : Type 0} (P : ℕ → X → Type 0) (xs : List X) (k : ℕ) (y : X) → k < length xs → ((j : ℕ) (w : X) → j < k → P j (get_or xs j w)) → P k y
    → (j : ℕ) (w : X) → j < k + 1 → P j (get_or (set xs k y) j w)
done_set {X} P xs k y inside before here j w lt = elim (cases_lt j k) [
  | inl earlier ↦ (let other : j ≢ k = omega arith in subst (P j) (sym (get_or-set_other xs k j y w other)) (before j w earlier))
  | inr last ↦ (let e : k ≡ j = omega arith in
      subst (λ (i : ℕ). P i (get_or (set xs k y) i w)) e (subst (P k) (sym (get_or-set_same xs k y w inside)) here))
]

-- of those from one index on
pub done_from : {X : Type 0} (P : ℕ → X → Type 0) (xs : List X) (first k : ℕ) (y : X) → k < length xs → ((j : ℕ) (w : X) → first ≤ j → j < k → P j (get_or xs j w)) → P k y
    → (j : ℕ) (w : X) → first ≤ j → j < k + 1 → P j (get_or (set xs k y) j w)
done_from {X} P xs first k y inside before here j w low lt =
    done_set (λ (i : ℕ) (x : X). first ≤ i → P i x) xs k y inside (λ i x earlier from. before i x from earlier) (λ from. here) j w lt low

-- those before and after stay
pub others_set : {X : Type 0} (xs old : List X) (first k : ℕ) (y : X) → first ≤ k → ((j : ℕ) (w : X) → j < first ⊎ k ≤ j → get_or xs j w ≡ get_or old j w)
    → (j : ℕ) (w : X) → j < first ⊎ k + 1 ≤ j → get_or (set xs k y) j w ≡ get_or old j w
others_set xs old first k y low same j w (inl before) = let other : j ≢ k = omega arith in get_or-set_other xs k j y w other ∙ same j w (inl before)
others_set xs old first k y low same j w (inr after) = let other : j ≢ k = omega arith in get_or-set_other xs k j y w other ∙ same j w (inr (omega arith))

-- Those from `before` to `after` come first, then those before them, then those after them.
pub in_turn : {X : Type 0} (P : ℕ → X → Type 0) (one two three : List X) (before after count : ℕ) → before ≤ after
    → ((k : ℕ) (w : X) → before ≤ k → k < after → P k (get_or one k w))
    → ((k : ℕ) (w : X) → 0 ≤ k → k < before → P k (get_or two k w)) → ((k : ℕ) (w : X) → k < 0 ⊎ before ≤ k → get_or two k w ≡ get_or one k w)
    → ((k : ℕ) (w : X) → after ≤ k → k < count → P k (get_or three k w)) → ((k : ℕ) (w : X) → k < after ⊎ count ≤ k → get_or three k w ≡ get_or two k w)
    → (k : ℕ) (w : X) → k < count → P k (get_or three k w)
in_turn P one two three before after count ordered first second kept third kept_too k w lt = elim (cases_lt k before) [
  | inl low ↦ subst (P k) (sym (kept_too k w (inl (omega arith)))) (second k w (omega arith) low)
  | inr from ↦ elim (cases_lt k after) [
    | inl here ↦ subst (P k) (sym (kept_too k w (inl here) ∙ kept k w (inr from))) (first k w from here)
    | inr high ↦ third k w high lt
  ]
]

pub fed_step : (b : Bool) (old new k : ℕ) → (b ≡ true → new ≡ old + 1) → (b ≡ false → new ≡ old) → old ≤ k → new ≤ k + 1
fed_step true old new k fed unfed le = let e = fed refl in omega arith
fed_step false old new k fed unfed le = let e = unfed refl in omega arith

pub written : {X : Type 0} (new old : List X) (n : ℕ) → length new ≡ length old → n ≡ length old → take n (new ++ drop (length new) old) ≡ new
written new old n e f =
    let here : n ≡ length new = omega arith in
    ap (λ (m : ℕ). take m (new ++ drop (length new) old)) here ∙ take-append_seam new (drop (length new) old)

-- ---- one target

-- an element of a list that has one, where any serves
pub an_element : {X : Type 0} (xs : List X) (k : ℕ) → k < length xs → X
an_element [] k lt = absurd (omega arith)
an_element (x ∷ xs) k lt = x

pub rules_few : (s : Situation) (basis : SearchBasis) → IsBasis s basis → (k : ℕ) (A : Already) → A ≡ get_or basis.already.items k A → k < length s.targets → (T : Target) → A.rules ≤ 17
rules_few s basis is k A is_already lt T =
    let told = is.each k T A lt in
    let width = told.tells.width in
    let few = is.few in
    let of_rules = is.of_rules.of.count in
    let here : (get_or basis.already.items k A).rules ≤ 17 = omega arith in
    subst (λ (a : Already). a.rules ≤ 17) (sym is_already) here

pub told_here : (s : Situation) (basis : SearchBasis) → IsBasis s basis → (k : ℕ) (T : Target) (A : Already) → T ≡ get_or s.targets k T → A ≡ get_or basis.already.items k A → k < length s.targets
    → IsToldAtNow s T A
told_here s basis is k T A is_target is_already lt =
    subst (λ (t : Target). IsToldAtNow s t A) (sym is_target)
    (subst (λ (a : Already). IsToldAtNow s (get_or s.targets k T) a) (sym is_already) (is.each k T A lt))

pub stands_here : (s : Situation) (basis : SearchBasis) (plan : List ℕ) (at : ℕ) (watched : List Watched) (k : ℕ) (T : Target) (A : Already) (W : Watched)
    → T ≡ get_or s.targets k T → A ≡ get_or basis.already.items k A → W ≡ get_or watched k W → k < length s.targets
    → StandsAt s basis plan at watched → (cut : Trace) → IsCutAtNow s T cut → Tells (formulas_of s) cut A → Stands basis.program s plan T cut at W
stands_here s basis plan at watched k T A W is_target is_already is_watched lt stands cut is_cut tells =
    subst (λ (t : Target). Stands basis.program s plan t cut at W) (sym is_target)
    (subst (λ (w : Watched). Stands basis.program s plan (get_or s.targets k T) cut at w) (sym is_watched)
    (stands k T A W cut lt (subst (λ (t : Target). IsCutAtNow s t cut) is_target is_cut) (subst (λ (a : Already). Tells (formulas_of s) cut a) is_already tells)))

-- If what is kept of her stands, and no domain was entered, the answer whether the plan fails towards her is right.
pub rightly_told : (s : Situation) (basis : SearchBasis) → IsBasis s basis → (W : List ℕ) (at end : ℕ) (from : List Watched) (k : ℕ) (T : Target) (A : Already) (w : Watched)
    → T ≡ get_or s.targets k T → A ≡ get_or basis.already.items k A → w ≡ get_or from k w → k < length s.targets → StandsAt s basis W at from → StaysOut s W at → (told : Bool)
    → ((cut : Trace) → IsCutAtNow s T cut → Tells (formulas_of s) cut A → Stands basis.program s W T cut at w → (¬ EntersDomain s W at T) → IsTrue told ↔ FailsTowards s W end T)
    → IsTrue told ↔ FailsTowards s W end T
rightly_told s basis is W at end from k T A w is_target is_already is_watched lt stands outside told h =
    let now = told_here s basis is k T A is_target is_already lt in
    h now.cut now.is_cut now.tells (stands_here s basis W at from k T A w is_target is_already is_watched lt stands now.cut now.is_cut now.tells)
    (λ enters. outside (some_here (EntersDomain s W at) s.targets k T lt (subst (EntersDomain s W at) is_target enters)))

-- What is kept of a target that was followed stands, whatever serves in the place of what no list has.
pub followed_here : (s : Situation) (basis : SearchBasis) → IsBasis s basis → (plan : List ℕ) (start end : ℕ) (from : List Watched) (k : ℕ) (T : Target) (A : Already) (W next : Watched)
    → T ≡ get_or s.targets k T → A ≡ get_or basis.already.items k A → W ≡ get_or from k W → k < length s.targets
    → ((cut : Trace) → IsCutAtNow s T cut → Tells (formulas_of s) cut A → Stands basis.program s plan T cut start W → Stands basis.program s plan T cut end next)
    → StandsAt s basis plan start from → (t : Target) (a : Already) (cut : Trace) → IsCutAtNow s (get_or s.targets k t) cut → Tells (formulas_of s) cut (get_or basis.already.items k a)
    → Stands basis.program s plan (get_or s.targets k t) cut end next
followed_here s basis is plan start end from k T A W next is_target is_already is_from inside goes stands t a cut is_cut tells =
    let many = is.count in
    let same_target : get_or s.targets k t ≡ T = get_or_default s.targets k t T inside ∙ sym is_target in
    let same_already : get_or basis.already.items k a ≡ A = get_or_default basis.already.items k a A (omega arith) ∙ sym is_already in
    let is_cut' = subst (λ (x : Target). IsCutAtNow s x cut) same_target is_cut in
    let tells' = subst (λ (x : Already). Tells (formulas_of s) cut x) same_already tells in
    subst (λ (x : Target). Stands basis.program s plan x cut end next) (sym same_target)
    (goes cut is_cut' tells' (stands_here s basis plan start from k T A W is_target is_already is_from inside stands cut is_cut' tells'))

-- ---- boxes

-- The box of a target holds her, whatever serves in the place of what no list has.
pub beside_here : (s : Situation) (first ticks : ℕ) (beside : List Bounds) (k : ℕ) (T : Target) → AreBeside s first ticks beside → k < length s.targets → T ≡ get_or s.targets k T
    → (b : Bounds) → HoldsPath (get_or beside k b) (ahead_from T first ticks)
beside_here s first ticks beside k T are inside is_target b =
    subst (λ (t : Target). HoldsPath (get_or beside k b) (ahead_from t first ticks)) (sym is_target) (are.each k T b inside)

-- The boxes that stand beside a place stand beside the leg that is followed there.
pub beside_leg : (s : Situation) (leg : PlannedLeg) (basis : SearchBasis) (level : Level) → IsPlannedLeg s leg → HasPlaces s basis leg.index level
    → AreBeside s leg.begins (length level.path.items) level.beside.items
beside_leg s leg basis level is places =
    subst (λ (n : ℕ). AreBeside s n (length level.path.items) level.beside.items) (sym is.from)
    (subst (λ (n : ℕ). AreBeside s (steps_told s.lattice leg.index) n level.beside.items) (sym places.path) places.beside)
