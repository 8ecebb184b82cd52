-- The fields of a row give at most one entry.
use Rattle.std.proofs.Common.{ℕ, zero, suc, ◌≡◌, ◌≢◌, ◌∙◌, ◌-◌, ◌≤◌, ◌<◌, ◌^◌, false, true, List, [], ◌∷◌, ◌++◌, length, take, take_all, Some, None, refl, arith, ap, ap₂, sym, subst, ◌==◌}
use Rattle.std.specs.Prelude.{codes, bytes_eq, not, Bool, IsUtf8}
use Rattle.csv.specs.Records.{field_at}
use Rattle.std.specs.Fmt.{decimal}
use Rattle.std.proofs.lemmas.Bool.{or_parts}
use Rattle.std.proofs.lemmas.Bool.Decides.{Decides-eqb, not_from_Decides}
use Rattle.std.proofs.lemmas.Fmt.{decimal_injective, decimal_nonempty, IsAscii-decimal}
use Rattle.std.proofs.lemmas.Str.{IsUtf8-from_ascii}
use Rattle.std.proofs.lemmas.Slice.Eq.{bytes_eq-Decides}
use Rattle.report_csv.specs.CsvRows.{Fields}
use Rattle.closest_approach.specs.declared.nearest.Moment.{Moment}
use Rattle.lattice.specs.Grids.{choices_of}
use Rattle.rule_set.specs.NamedTrees.{has_rule, rule_at, NamedTree, RulesHaveDifferentNames}
use Rattle.plan_situations.specs.declared.situation.Situation.{Situation}
use Rattle.refutations.specs.EntryRows.{choices_text, entry_fields, reason_fields, FitsReason, IsEntryOf}
use Rattle.refutations.specs.Inner.Readings.{AreChoicesIn, IsMomentIn, IsNumberIn, IsReasonIn}
use Rattle.refutations.specs.RightLists.{KnowsRule}
use Rattle.refutations.specs.declared.entry.Reason.{Reason}
use Rattle.refutations.specs.declared.entry.Reason.TheVariants.{Domain, Rule}
use Rattle.refutations.specs.declared.entry.WhyEntry.{WhyEntry}
use Rattle.refutations.proofs.WrittenChoices.{same_choices}

-- ---- numbers

pub some_digit : (n : ℕ) → n < 2 ^ 64 → decimal n ≢ []
some_digit n small e = let some = decimal_nonempty n small in let none : length (decimal n) ≡ 0 = ap length e in absurd (omega arith)

-- ---- rules with different names

-- no rule of a list that holds no such name has it
not_held : (rules : List NamedTree) (name : List ℕ) (k : ℕ) → has_rule rules name ≡ false → k < length rules → (rule_at rules k).name ≢ name
not_held [] name k none lt e = absurd (omega arith)
not_held (rule ∷ rules) name zero none lt e =
    not_from_Decides (bytes_eq rule.name name) (bytes_eq-Decides rule.name name) (or_parts (bytes_eq rule.name name) (has_rule rules name) none).0 e
not_held (rule ∷ rules) name (suc k) none lt e = not_held rules name k (or_parts (bytes_eq rule.name name) (has_rule rules name) none).1 (omega arith) e

pub same_rule : (rules : List NamedTree) (i k : ℕ) → RulesHaveDifferentNames rules → i < length rules → k < length rules → (rule_at rules i).name ≡ (rule_at rules k).name → i ≡ k
same_rule [] i k different lt_i lt_k e = absurd (omega arith)
same_rule (rule ∷ rules) zero zero different lt_i lt_k e = refl
same_rule (rule ∷ rules) zero (suc k) different lt_i lt_k e = absurd (not_held rules rule.name k different.0 (omega arith) (sym e))
same_rule (rule ∷ rules) (suc i) zero different lt_i lt_k e = absurd (not_held rules rule.name i different.0 (omega arith) e)
same_rule (rule ∷ rules) (suc i) (suc k) different lt_i lt_k e = ap suc (same_rule rules i k different.1 (omega arith) (omega arith) e)

-- ---- reasons

module _ (s : Situation) (different : RulesHaveDifferentNames s.rules) where
  pub same_reason : (one other : Reason) → KnowsRule s one → KnowsRule s other → FitsReason one → FitsReason other → reason_fields s one ≡ reason_fields s other → one ≡ other
  same_reason (Domain step moment) (Domain step' moment') known known' fits fits' e =
      let small = fits.0 in
      let small' = fits'.0 in
      let ticks : decimal step ≡ decimal step' = cc in
      let told_a : decimal moment.a ≡ decimal moment'.a = cc in
      let told_b : decimal moment.b ≡ decimal moment'.b = cc in
      let same : step ≡ step' = decimal_injective step step' (omega arith) (omega arith) ticks in
      let same_a : moment.a ≡ moment'.a = decimal_injective moment.a moment'.a fits.1 fits'.1 told_a in
      let same_b : moment.b ≡ moment'.b = decimal_injective moment.b moment'.b fits.2 fits'.2 told_b in
      let moments : moment ≡ moment' = ap₂ (λ (a b : ℕ). let m : Moment = record { a = a; b = b } in m) same_a same_b in
      ap₂ Domain same moments
  same_reason (Domain step moment) (Rule index step') known known' fits fits' e = let none : decimal moment.a ≡ [] = cc in absurd (some_digit moment.a fits.1 none)
  same_reason (Rule index step) (Domain step' moment') known known' fits fits' e = let none : decimal moment'.a ≡ [] = cc in absurd (some_digit moment'.a fits'.1 none)
  same_reason (Rule index step) (Rule index' step') known known' fits fits' e =
      let ticks : decimal step ≡ decimal step' = cc in
      let names : (rule_at s.rules index).name ≡ (rule_at s.rules index').name = cc in
      let same : step ≡ step' = decimal_injective step step' (omega (arith, fits)) (omega (arith, fits')) ticks in
      let same_index : index ≡ index' = same_rule s.rules index index' different known known' names in
      ap₂ Rule same_index same

  -- Fields give at most one entry.
  pub same_entry : choices_of s.lattice ≤ 512 → (fields : Fields) (one other : WhyEntry) → IsEntryOf s fields one → IsEntryOf s fields other → one ≡ other
  same_entry few fields one other h g =
      let e : entry_fields s one ≡ entry_fields s other = h.told ∙ sym g.told in
      let texts : choices_text one.prefix ≡ choices_text other.prefix = cc in
      let targets : decimal one.target ≡ decimal other.target = cc in
      let reasons : reason_fields s one.reason ≡ reason_fields s other.reason = cc in
      let small = h.target in
      let small' = g.target in
      let prefix : one.prefix ≡ other.prefix = same_choices (choices_of s.lattice) few one.prefix other.prefix h.is.some g.is.some h.is.below g.is.below texts in
      let target : one.target ≡ other.target = decimal_injective one.target other.target (omega arith) (omega arith) targets in
      let reason : one.reason ≡ other.reason = same_reason one.reason other.reason h.is.known g.is.known h.reason g.reason reasons in
      ap₂ (λ (p : List ℕ) (t : ℕ). let entry : WhyEntry = record { prefix = p; target = t; reason = one.reason } in entry) prefix target
      ∙ ap (λ (r : Reason). let entry : WhyEntry = record { prefix = other.prefix; target = other.target; reason = r } in entry) reason

-- ---- what the fields of a number, of a moment and of a reason give

pub number_text : (text : List ℕ) (n : ℕ) → n < 2 ^ 64 → decimal n ≡ text → IsUtf8 text
number_text text n small e = subst IsUtf8 e (IsUtf8-from_ascii (decimal n) (IsAscii-decimal n small))

pub not_differing : (a b : List ℕ) (differ : Bool) → differ ≡ not (bytes_eq a b) → differ ≡ true → a ≢ b
not_differing a b differ e f same = absurd (by (bytes_eq a b) ((bytes_eq-Decides a b).1 same) (sym e ∙ f))
  where
    by : (equal : Bool) → equal ≡ true → not equal ≡ true → ⊥
    by true h g = let impossible : false ≡ true = g in cc
    by false h g = let impossible : false ≡ true = h in cc

pub empty : (xs : List ℕ) (b : Bool) → b ≡ (length xs == 0) → b ≡ true → xs ≡ []
empty xs b e f = none xs ((Decides-eqb (length xs) 0).0 (sym e ∙ f))
  where
    none : (ys : List ℕ) → length ys ≡ 0 → ys ≡ []
    none [] h = refl
    none (y ∷ ys) h = absurd (omega arith)

pub not_empty : (xs : List ℕ) (b : Bool) → b ≡ (length xs == 0) → b ≡ false → xs ≢ []
not_empty xs b e f g = not_from_Decides (length xs == 0) (Decides-eqb (length xs) 0) (sym e ∙ f) (ap length g)

module _ (s : Situation) (name step a b : List ℕ) where
  pub reason_step : (reason : Reason) → IsReasonIn s (name ∷ step ∷ a ∷ b ∷ []) reason → ((n : ℕ) → ¬ IsNumberIn step (2 ^ 32 - 1) n) → ⊥
  reason_step (Domain tick moment) h none =
      let told = h.told in
      let small = h.fits.0 in
      let e : decimal tick ≡ step = cc in
      none tick (record { few = omega arith; told = e })
  reason_step (Rule index tick) h none =
      let told = h.told in
      let small = h.fits in
      let e : decimal tick ≡ step = cc in
      none tick (record { few = omega arith; told = e })

  -- if the field of the moment's first number is empty, it is a rule, and the other field is empty
  -- too
  pub reason_rule : (reason : Reason) → IsReasonIn s (name ∷ step ∷ a ∷ b ∷ []) reason → a ≡ []
      → (b ≡ []) × ((index : ℕ) × (index < length s.rules) × ((rule_at s.rules index).name ≡ name))
  reason_rule (Domain tick moment) h empty = let told = h.told in let e : decimal moment.a ≡ [] = cc in absurd (some_digit moment.a h.fits.1 e)
  reason_rule (Rule index tick) h empty =
      let told = h.told in
      let none : b ≡ [] = cc in
      let e : (rule_at s.rules index).name ≡ name = cc in
      (none, (index, h.known, e))

  -- and otherwise a domain
  pub reason_domain : (reason : Reason) → IsReasonIn s (name ∷ step ∷ a ∷ b ∷ []) reason → a ≢ [] → (moment : Moment) × IsMomentIn name a b moment
  reason_domain (Domain tick moment) h some =
      let told = h.told in
      let named : name ≡ codes "domain" = cc in
      let e : decimal moment.a ≡ a = cc in
      let f : decimal moment.b ≡ b = cc in
      (moment, record { named = named; small_a = h.fits.1; small_b = h.fits.2; told_a = e; told_b = f })
  reason_domain (Rule index tick) h some = let told = h.told in let e : a ≡ [] = cc in absurd (some e)

  pub as_domain : (tick : ℕ) (moment : Moment) → IsNumberIn step (2 ^ 32 - 1) tick → IsMomentIn name a b moment → IsReasonIn s (name ∷ step ∷ a ∷ b ∷ []) (Domain tick moment)
  as_domain tick moment number h =
      let few = number.few in
      let e = number.told in
      let named = h.named in
      let f = h.told_a in
      let g = h.told_b in
      record { known = tt; fits = (omega arith, h.small_a, h.small_b); told = cc }

  pub as_rule : (index tick : ℕ) → IsNumberIn step (2 ^ 32 - 1) tick → index < length s.rules → (rule_at s.rules index).name ≡ name → a ≡ [] → b ≡ []
      → IsReasonIn s (name ∷ step ∷ a ∷ b ∷ []) (Rule index tick)
  as_rule index tick number known named no_a no_b =
      let few = number.few in
      let e = number.told in
      record { known = known; fits = omega arith; told = cc }

-- ---- what the fields of an entry give

module _ (s : Situation) (kind choices target name step a b : List ℕ) (entry : WhyEntry)
    (h : IsEntryOf s (kind ∷ choices ∷ target ∷ name ∷ step ∷ a ∷ b ∷ []) entry) where
  told : entry_fields s entry ≡ kind ∷ choices ∷ target ∷ name ∷ step ∷ a ∷ b ∷ []
  told = h.told

  pub entry_kind : kind ≡ codes "why"
  entry_kind = let e = told in cc

  pub entry_choices : AreChoicesIn choices (choices_of s.lattice) s.lattice.legs entry.prefix
  entry_choices = let e = told in let same : choices_text entry.prefix ≡ choices = cc in
      record { some = h.is.some; few = h.is.few; below = h.is.below; told = same }

  pub entry_target : IsNumberIn target (2 ^ 32 - 1) entry.target
  entry_target = let e = told in let same : decimal entry.target ≡ target = cc in let small = h.target in record { few = omega arith; told = same }

  pub entry_reason : IsReasonIn s (name ∷ step ∷ a ∷ b ∷ []) entry.reason
  entry_reason = let e = told in let same : reason_fields s entry.reason ≡ name ∷ step ∷ a ∷ b ∷ [] = cc in record { known = h.is.known; fits = h.reason; told = same }

-- the entry of such parts
pub entry_of : (s : Situation) (kind choices target name step a b prefix : List ℕ) (n : ℕ) (reason : Reason) → kind ≡ codes "why"
    → AreChoicesIn choices (choices_of s.lattice) s.lattice.legs prefix → IsNumberIn target (2 ^ 32 - 1) n → IsReasonIn s (name ∷ step ∷ a ∷ b ∷ []) reason
    → IsEntryOf s (kind ∷ choices ∷ target ∷ name ∷ step ∷ a ∷ b ∷ []) (record { prefix = prefix; target = n; reason = reason })
entry_of s kind choices target name step a b prefix n reason is are number why =
    let few = number.few in
    let e = are.told in
    let f = number.told in
    let g = why.told in
    record {
      is = record { some = are.some; few = are.few; below = are.below; known = why.known };
      target = omega arith;
      reason = why.fits;
      told = cc;
    }

pub seven_fields : (s : Situation) (fields : Fields) (entry : WhyEntry) → IsEntryOf s fields entry → length fields ≡ 7
seven_fields s fields entry h = ap length (sym h.told) ∙ by entry.reason
  where
    by : (reason : Reason) → length (codes "why" ∷ choices_text entry.prefix ∷ decimal entry.target ∷ reason_fields s reason) ≡ 7
    by (Domain step moment) = refl
    by (Rule index step) = refl

-- ---- the fields of a record, one by one

pub no_field : (xs : List (List ℕ)) (i : ℕ) → None ≡ field_at xs i → length xs ≤ i
unfolding field_at
no_field [] i e = omega arith
no_field (x ∷ xs) zero e = absurd cc
no_field (x ∷ xs) (suc i) e = let le = no_field xs i e in omega arith

-- one field more is read
field_told : (xs told : List (List ℕ)) (x : List ℕ) (i : ℕ) → length told ≡ i → take i xs ≡ told → Some x ≡ field_at xs i → take (suc i) xs ≡ told ++ x ∷ []
unfolding field_at
field_told [] told x i long e f = absurd cc
field_told (y ∷ xs) [] x zero long e f = let same : x ≡ y = cc in ap (λ (z : List ℕ). z ∷ []) (sym same)
field_told (y ∷ xs) [] x (suc i) long e f = absurd (omega arith)
field_told (y ∷ xs) (t ∷ told) x zero long e f = absurd (omega arith)
field_told (y ∷ xs) (t ∷ told) x (suc i) long e f =
    let same : y ≡ t = cc in
    let rest : take i xs ≡ told = cc in
    let more = field_told xs told x i (omega arith) rest f in
    rw (same, more) refl

pub all_fields : (xs : List (List ℕ)) (a b c d e f g : List ℕ) → length xs ≡ 7 → Some a ≡ field_at xs 0 → Some b ≡ field_at xs 1 → Some c ≡ field_at xs 2 → Some d ≡ field_at xs 3
    → Some e ≡ field_at xs 4 → Some f ≡ field_at xs 5 → Some g ≡ field_at xs 6 → xs ≡ a ∷ b ∷ c ∷ d ∷ e ∷ f ∷ g ∷ []
all_fields xs a b c d e f g long h0 h1 h2 h3 h4 h5 h6 =
    let t1 = field_told xs [] a 0 refl refl h0 in
    let t2 = field_told xs (a ∷ []) b 1 refl t1 h1 in
    let t3 = field_told xs (a ∷ b ∷ []) c 2 refl t2 h2 in
    let t4 = field_told xs (a ∷ b ∷ c ∷ []) d 3 refl t3 h3 in
    let t5 = field_told xs (a ∷ b ∷ c ∷ d ∷ []) e 4 refl t4 h4 in
    let t6 = field_told xs (a ∷ b ∷ c ∷ d ∷ e ∷ []) f 5 refl t5 h5 in
    let t7 = field_told xs (a ∷ b ∷ c ∷ d ∷ e ∷ f ∷ []) g 6 refl t6 h6 in
    sym (take_all 7 xs (omega arith)) ∙ t7
