-- Lemmas for the crates above: the first fault that the tests of a list find, and lists whose items all have a
-- property.
use Rattle.std.proofs.Common.{◌≡◌, ◌⊎◌, inl, inr, suc, List, [], ◌∷◌, ◌++◌, Option, Some, None, refl, ap, ◌∙◌, subst, All, arith}
use Rattle.std.proofs.lemmas.List.Elements.{All-cons}
use Rattle.scenario_keys.specs.FirstFaults.{IsFirst, IsFound}
use Rattle.scenario_keys.specs.ToldFaults.{IfFault}
use Rattle.scenario_keys.specs.declared.key.Key.{Key}
use Rattle.scenario_keys.specs.declared.cause.Cause.{Cause}
use Rattle.scenario_keys.specs.declared.fault.ScenarioFault.{ScenarioFault}
use Rattle.scenario_keys.specs.declared.fault.ScenarioFault.TheVariants as refusal

pub all_head : {A : Type 0} (P : A → Type 0) (here : A) (rest : List A) → All P (here ∷ rest) → P here
all_head P here rest all = all 0 here (omega arith)

pub all_tail : {A : Type 0} (P : A → Type 0) (here : A) (rest : List A) → All P (here ∷ rest) → All P rest
all_tail P here rest all = λ k d lt. all (suc k) d (omega arith)

pub all_none : {A : Type 0} (P : A → Type 0) → All P []
all_none P = λ k d lt. absurd (omega arith)

pub all_append : {A : Type 0} (P : A → Type 0) (a b : List A) → All P a → All P b → All P (a ++ b)
all_append P [] b h k = k
all_append P (x ∷ a) b h k = All-cons P x (a ++ b) (all_head P x a h) (all_append P a b (all_tail P x a h) k)

pub all_front : {A : Type 0} (P : A → Type 0) (a b : List A) → All P (a ++ b) → All P a
all_front P [] b h = all_none P
all_front P (x ∷ a) b h = All-cons P x a (all_head P x (a ++ b) h) (all_front P a b (all_tail P x (a ++ b) h))

pub all_back : {A : Type 0} (P : A → Type 0) (a b : List A) → All P (a ++ b) → All P b
all_back P [] b h = h
all_back P (x ∷ a) b h = all_back P a b (all_tail P x (a ++ b) h)

-- a first fault of one of two lists is one of both

pub one_more : {A F : Type 0} (test : A → Option F → Type 0) (here : A) (after : List A) (found : F) →
    test here None → IsFirst test after found → IsFirst test (here ∷ after) found
one_more test here after found h is = record {
  before = here ∷ is.before;
  here = is.here;
  after = is.after;
  order = ap (λ l. here ∷ l) is.order;
  faultless = All-cons (λ earlier. test earlier None) here is.before h is.faultless;
  faulty = is.faulty;
}

pub first_here : {A F : Type 0} (test : A → Option F → Type 0) (here : A) (after : List A) (found : F) → test here (Some found) → IsFirst test (here ∷ after) found
first_here test here after found h = record {
  before = [];
  here = here;
  after = after;
  order = refl;
  faultless = all_none (λ earlier. test earlier None);
  faulty = h;
}

pub first_behind : {A F : Type 0} (test : A → Option F → Type 0) (a b : List A) (found : F) →
    All (λ here. test here None) a → IsFirst test b found → IsFirst test (a ++ b) found
first_behind test [] b found h is = is
first_behind test (x ∷ a) b found h is =
    one_more test x (a ++ b) found (all_head (λ here. test here None) x a h) (first_behind test a b found (all_tail (λ here. test here None) x a h) is)

append_assoc : {A : Type 0} (a b c : List A) → (a ++ b) ++ c ≡ a ++ (b ++ c)
append_assoc [] b c = refl
append_assoc (x ∷ a) b c = ap (λ l. x ∷ l) (append_assoc a b c)

pub first_ahead : {A F : Type 0} (test : A → Option F → Type 0) (a b : List A) (found : F) → IsFirst test a found → IsFirst test (a ++ b) found
first_ahead test a b found is = record {
  before = is.before;
  here = is.here;
  after = is.after ++ b;
  order = ap (λ l. l ++ b) is.order ∙ append_assoc is.before (is.here ∷ is.after) b;
  faultless = is.faultless;
  faulty = is.faulty;
}

-- what the tests of a list find is one, if each test finds one thing

first_of_none : {A F : Type 0} (test : A → Option F → Type 0) (found : F) → IsFirst test [] found → ⊥
first_of_none test found is = no_split is.before is.here is.after is.order
  where
    no_split : {A : Type 0} (before : List A) (here : A) (after : List A) → [] ≡ before ++ (here ∷ after) → ⊥
    no_split [] here after e = cc
    no_split (x ∷ before) here after e = cc

split_first : {A F : Type 0} (test : A → Option F → Type 0) (x : A) (xs before : List A) (here : A) (after : List A) (found : F) →
    x ∷ xs ≡ before ++ (here ∷ after) → All (λ earlier. test earlier None) before → test here (Some found) →
    test x (Some found) ⊎ (test x None × IsFirst test xs found)
split_first test x xs [] here after found e h k =
    let same : here ≡ x = cc in inl (subst (λ y. test y (Some found)) same k)
split_first test x xs (y ∷ before) here after found e h k =
    let same : y ≡ x = cc in
    let rest : xs ≡ before ++ (here ∷ after) = cc in
    inr (
      subst (λ z. test z None) same (all_head (λ earlier. test earlier None) y before h),
      record { before = before; here = here; after = after; order = rest; faultless = all_tail (λ earlier. test earlier None) y before h; faulty = k },
    )

first_or_rest : {A F : Type 0} (test : A → Option F → Type 0) (x : A) (xs : List A) (found : F) → IsFirst test (x ∷ xs) found →
    test x (Some found) ⊎ (test x None × IsFirst test xs found)
first_or_rest test x xs found is = split_first test x xs is.before is.here is.after found is.order is.faultless is.faulty

none_is_some : {F : Type 0} (found : F) → None ≡ Some found → ⊥
none_is_some found e = cc

pub never_both : {A F : Type 0} (test : A → Option F → Type 0) (single : (here : A) (a b : Option F) → test here a → test here b → a ≡ b)
    (list : List A) (found : F) → All (λ here. test here None) list → IsFirst test list found → ⊥
never_both test single [] found all is = first_of_none test found is
never_both test single (x ∷ xs) found all is =
    elim (first_or_rest test x xs found is) [
      | inl h ↦ none_is_some found (single x None (Some found) (all_head (λ here. test here None) x xs all) h)
      | inr h ↦ never_both test single xs found (all_tail (λ here. test here None) x xs all) h.1
    ]

pub one_first : {A F : Type 0} (test : A → Option F → Type 0) (single : (here : A) (a b : Option F) → test here a → test here b → a ≡ b)
    (list : List A) (a b : F) → IsFirst test list a → IsFirst test list b → a ≡ b
one_first test single [] a b h k = absurd (first_of_none test a h)
one_first test single (x ∷ xs) a b h k =
    elim (first_or_rest test x xs a h) [
      | inl p ↦ elim (first_or_rest test x xs b k) [
        | inl q ↦ (let e = single x (Some a) (Some b) p q in cc)
        | inr q ↦ absurd (none_is_some a (single x None (Some a) q.0 p))
      ]
      | inr p ↦ elim (first_or_rest test x xs b k) [
        | inl q ↦ absurd (none_is_some b (single x None (Some b) p.0 q))
        | inr q ↦ one_first test single xs a b p.1 q.1
      ]
    ]

pub one_found : {A F : Type 0} (test : A → Option F → Type 0) (single : (here : A) (a b : Option F) → test here a → test here b → a ≡ b)
    (list : List A) (a b : Option F) → IsFound test list a → IsFound test list b → a ≡ b
one_found test single list None None h k = refl
one_found test single list None (Some b) h k = absurd (never_both test single list b h k)
one_found test single list (Some a) None h k = absurd (never_both test single list a k h)
one_found test single list (Some a) (Some b) h k = ap (λ f. Some f) (one_first test single list a b h k)

-- and if each test finds something, so do those of a list

pub some_found : {A F : Type 0} (test : A → Option F → Type 0) (list : List A) → All (λ here. (told : Option F) × test here told) list → (told : Option F) × IsFound test list told
some_found test [] each = (None, all_none (λ here. test here None))
some_found {A} {F} test (x ∷ xs) each =
    let here = all_head (λ here. (told : Option F) × test here told) x xs each in
    by here.0 here.1 (some_found test xs (all_tail (λ here. (told : Option F) × test here told) x xs each))
  where
    by : (told : Option F) → test x told → (told : Option F) × IsFound test xs told → (told : Option F) × IsFound test (x ∷ xs) told
    by (Some found) h rest = (Some found, first_here test x xs found h)
    by None h (None, all) = (None, All-cons (λ here. test here None) x xs h all)
    by None h (Some found, is) = (Some found, one_more test x xs found h is)

pub found_append : {A F : Type 0} (test : A → Option F → Type 0) (a b : List A) → (told : Option F) × IsFound test a told → (told : Option F) × IsFound test b told
    → (told : Option F) × IsFound test (a ++ b) told
found_append test a b (Some found, is) rest = (Some found, first_ahead test a b found is)
found_append test a b (None, all) (None, more) = (None, all_append (λ here. test here None) a b all more)
found_append test a b (None, all) (Some found, is) = (Some found, first_behind test a b found all is)

-- what holds of a reported fault

pub faults_alike : (P Q : Key × Cause → Type 0) → ((told : Key × Cause) → P told → Q told) → (fault : ScenarioFault) → IfFault P fault → IfFault Q fault
faults_alike P Q f (refusal.Fault key why) h = f (key, why) h
faults_alike P Q f refusal.Memory h = tt
