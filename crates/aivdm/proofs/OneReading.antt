-- Each line has one reading.
use Rattle.std.proofs.Common.{◌≡◌, ◌==◌, ℕ, zero, suc, ◌+◌, ◌<◌, ◌≤◌, Bool, true, false, List, [], ◌∷◌, ◌++◌, length, get_or, nat_lt, All, Option, Some, ◌⊎◌, inl, inr, Result, Ok, Err, if◌then◌else◌, refl, sym, ap, ◌∙◌, subst, arith, length-append, eq-eqb}
use Rattle.std.proofs.lemmas.Bool.{eqb-true, eqb-false, cond-true, cond-false, ltb-true, ltb-false, cases_order}
use Rattle.std.proofs.lemmas.List.{get_or_append_left}
use Rattle.std.proofs.lemmas.List.Elements.{All-from_recursion}
use Rattle.std.proofs.lemmas.List.Sums.{AllPass-from_list_all, list_all-from_AllPass}
use Rattle.std.proofs.Math.Seq.{get_or-append_seam}
use Rattle.std.specs.List.{AllByRecursion, list_all}
use Rattle.aivdm.specs.Checksums.{sum_of, hexadecimal}
use Rattle.aivdm.specs.Inner.LineCuts.{tag_at, sentence_at}
use Rattle.aivdm.specs.LineReading.{SentenceText, summed, sentence_text, HasForm, HasSum, IsArmoured, fields_of, BeginsAsSentence, Applies, causes, IsFirstCause, KeepsStamp, IsSentenceLine, IsBody, IsReading}
use Rattle.aivdm.specs.PayloadBits.{is_armour}
use Rattle.aivdm.specs.ReadingOf.{dropped, read_from, reading_of}
use Rattle.aivdm.specs.Sentences.{SentenceFields, LineContent}
use Rattle.aivdm.specs.TagBlocks.{IsTagged}
use Rattle.aivdm.specs.declared.sentence.LineCause.{LineCause}
use Rattle.aivdm.specs.declared.sentence.LineCause.TheVariants.{Empty, Long, Tag, Other, Form, Sum, Armour}
use Rattle.aivdm.proofs.SentenceCuts.{IsNoAddress, IsNoForm, IsText, rest_kind, text_at, text_begins}
use Rattle.aivdm.proofs.Steps.{outcome, ok_no_error, ok_same, fails_by}
use Rattle.aivdm.proofs.TagCuts.{tag_read, tag_again, tag-fails}

-- ---- the order of the causes

abbrev rank : LineCause → ℕ
rank Empty = 0
rank Long = 1
rank Tag = 2
rank Other = 3
rank Form = 4
rank Sum = 5
rank Armour = 6

cause_at : (c : LineCause) → get_or causes (rank c) c ≡ c
cause_at Empty = refl
cause_at Long = refl
cause_at Tag = refl
cause_at Other = refl
cause_at Form = refl
cause_at Sum = refl
cause_at Armour = refl

place_is : (n : ℕ) (c : LineCause) → n < 7 → get_or causes n c ≡ c → n ≡ rank c
place_is zero c small e = ap rank e
place_is (suc zero) c small e = ap rank e
place_is (suc (suc zero)) c small e = ap rank e
place_is (suc (suc (suc zero))) c small e = ap rank e
place_is (suc (suc (suc (suc zero)))) c small e = ap rank e
place_is (suc (suc (suc (suc (suc zero))))) c small e = ap rank e
place_is (suc (suc (suc (suc (suc (suc zero)))))) c small e = ap rank e
place_is (suc (suc (suc (suc (suc (suc (suc n))))))) c small e = absurd (omega arith)

cause_of_rank : (c : LineCause) → get_or causes (rank c) Empty ≡ c
cause_of_rank Empty = refl
cause_of_rank Long = refl
cause_of_rank Tag = refl
cause_of_rank Other = refl
cause_of_rank Form = refl
cause_of_rank Sum = refl
cause_of_rank Armour = refl

same_cause : (c d : LineCause) → rank c ≡ rank d → c ≡ d
same_cause c d e = sym (cause_of_rank c) ∙ ap (λ (n : ℕ). get_or causes n Empty) e ∙ cause_of_rank d

-- none of the causes before it applies
abbrev Earlier : LineCause → List ℕ → Type 0
Earlier c line = (d : LineCause) → rank d < rank c → ¬ (Applies d line)

first_earlier : (c : LineCause) (line : List ℕ) → IsFirstCause c line → Earlier c line
first_earlier c line first d below applies =
    let n = length first.before in
    let total : 7 ≡ n + suc (length first.after) = ap length first.place ∙ length-append first.before (c ∷ first.after) in
    let here : get_or causes n c ≡ c = ap (λ (l : List LineCause). get_or l n c) first.place ∙ get_or-append_seam first.before c first.after c in
    let place : n ≡ rank c = place_is n c (omega arith) here in
    let inside : rank d < n = omega arith in
    let read : get_or first.before (rank d) d ≡ d
    = sym (ap (λ (l : List LineCause). get_or l (rank d) d) first.place ∙ get_or_append_left first.before (c ∷ first.after) d (rank d) inside) ∙ cause_at d in
    first.none (rank d) d inside (subst (λ (x : LineCause). Applies x line) (sym read) applies)

-- each of the causes fails to apply
abbrev NoneApply : List LineCause → List ℕ → Type 0
NoneApply [] line = Unit {0}
NoneApply (c ∷ cs) line = ¬ (Applies c line) × NoneApply cs line

none_apply : (cs : List LineCause) (line : List ℕ) → NoneApply cs line → All (λ earlier. ¬ (Applies earlier line)) cs
none_apply cs line none = All-from_recursion (λ earlier. ¬ (Applies earlier line)) cs (by_recursion cs none)
  where
    by_recursion : (cs : List LineCause) → NoneApply cs line → AllByRecursion (λ earlier. ¬ (Applies earlier line)) cs
    by_recursion [] none = tt
    by_recursion (c ∷ cs) none = (none.0, by_recursion cs none.1)

-- the first cause that applies, if none before it does
first_at : (before after : List LineCause) (c : LineCause) (line : List ℕ) → causes ≡ before ++ c ∷ after → NoneApply before line → Applies c line → IsFirstCause c line
first_at before after c line place none applies =
    record { before = before; after = after; place = place; none = none_apply before line none; applies = applies }

one_first : (c d : LineCause) (line : List ℕ) → IsFirstCause c line → IsFirstCause d line → c ≡ d
one_first c d line first other =
    elim (cases_order (rank c) (rank d)) [
      | inl same ↦ same_cause c d same
      | inr apart ↦
          elim apart [
            | inl below ↦ absurd (first_earlier d line other c below first.applies)
            | inr above ↦ absurd (first_earlier c line first d above other.applies)
          ]
    ]

-- ---- one tag block, or none

same_tag : (line : List ℕ) (tag : Option ℕ × List ℕ) (stamp : Option ℕ) (rest : List ℕ) → tag_at line ≡ Ok tag → IsTagged line stamp rest → (stamp, rest) ≡ tag
same_tag line tag stamp rest e tagged = ok_same (tag_at line) (stamp, rest) tag (tag_again line stamp rest tagged) e

same_stamp : (line : List ℕ) (a b : Option ℕ) (rest others : List ℕ) → IsTagged line a rest → IsTagged line b others → a ≡ b
same_stamp line a b rest others p q =
    ap (λ (r : Option ℕ × List ℕ). r.0) (same_tag line (b, others) a rest (tag_again line b others q) p)

-- ---- the reading that the function gives is one

-- a line that is neither empty nor long, and its tag block
record IsShort (line : List ℕ) (tag : Option ℕ × List ℕ) : Type 0 where
  some : (length line == 0) ≡ false
  short : length line ≤ 1024
  tagged : tag_at line ≡ Ok tag

not_empty : (line : List ℕ) → (length line == 0) ≡ false → ¬ (Applies Empty line)
not_empty line some empty = eqb-false (length line) 0 some (ap length empty)

not_long : (line : List ℕ) → length line ≤ 1024 → ¬ (Applies Long line)
not_long line short long = absurd (omega arith)

empty_line : (line : List ℕ) → (length line == 0) ≡ true → line ≡ []
empty_line [] e = refl
empty_line (byte ∷ line) e = absurd (omega (arith, eqb-true (length (byte ∷ line)) 0 e))

module _ (line : List ℕ) (tag : Option ℕ × List ℕ) (h : IsShort line tag) where
  tagged_so : IsTagged line tag.0 tag.1
  tagged_so = tag_read line tag h.tagged

  not_tag : ¬ (Applies Tag line)
  not_tag applies = applies tag.0 tag.1 tagged_so

  rest_is : (stamp : Option ℕ) (rest : List ℕ) → IsTagged line stamp rest → rest ≡ tag.1
  rest_is stamp rest tagged = ap (λ (r : Option ℕ × List ℕ). r.1) (same_tag line tag stamp rest h.tagged tagged)

  not_other : BeginsAsSentence tag.1 → ¬ (Applies Other line)
  not_other begins applies = applies tag.0 tag.1 tagged_so begins

  other_body : IsNoAddress tag.1 → IsBody line tag.0 (Err Other)
  other_body kind = (
    first_at (Empty ∷ Long ∷ Tag ∷ []) (Form ∷ Sum ∷ Armour ∷ []) Other line refl
        (not_empty line h.some, (not_long line h.short, (not_tag, tt)))
        (λ stamp rest tagged begins. kind.none (subst BeginsAsSentence (rest_is stamp rest tagged) begins)),
    (tag.1, tagged_so),
  )

  form_body : IsNoForm tag.1 → IsBody line tag.0 (Err Form)
  form_body kind = (
    first_at (Empty ∷ Long ∷ Tag ∷ Other ∷ []) (Sum ∷ Armour ∷ []) Form line refl
        (not_empty line h.some, (not_long line h.short, (not_tag, (not_other kind.begins, tt))))
        (λ stamp t tagged form. kind.none t (sym (rest_is stamp (sentence_text t) tagged)) form),
    (tag.1, tagged_so),
  )

  module _ (t : SentenceText) (text : IsText tag.1 t) where
    begins : BeginsAsSentence tag.1
    begins = subst BeginsAsSentence (sym text.split) (text_begins t text.form)

    text_tagged : IsTagged line tag.0 (sentence_text t)
    text_tagged = subst (IsTagged line tag.0) text.split tagged_so

    not_form : ¬ (Applies Form line)
    not_form applies = applies tag.0 t text_tagged text.form

    -- what the rest reads as, for any text that it is
    read_by : (stamp : Option ℕ) (u : SentenceText) (told : ℕ) → IsTagged line stamp (sentence_text u) → HasForm u → hexadecimal u.high u.low ≡ Some told
        → sentence_at tag.1 ≡ (if told == sum_of (summed u) then (if list_all is_armour u.payload then Ok (fields_of u) else Err Armour) else Err Sum)
    read_by stamp u told tagged form tells = ap sentence_at (sym (rest_is stamp (sentence_text u) tagged)) ∙ text_at u told form tells

    -- the same of one whose sum is right
    read_right : (stamp : Option ℕ) (u : SentenceText) → IsTagged line stamp (sentence_text u) → HasForm u → HasSum u
        → sentence_at tag.1 ≡ (if list_all is_armour u.payload then Ok (fields_of u) else Err Armour)
    read_right stamp u tagged form sum =
        read_by stamp u (sum_of (summed u)) tagged form sum
        ∙ cond-true _ (if list_all is_armour u.payload then Ok (fields_of u) else Err Armour) (Err Sum) (eq-eqb (sum_of (summed u)) (sum_of (summed u)) refl)

    sum_body : sentence_at tag.1 ≡ Err Sum → IsBody line tag.0 (Err Sum)
    sum_body e = (
      first_at (Empty ∷ Long ∷ Tag ∷ Other ∷ Form ∷ []) (Armour ∷ []) Sum line refl
          (not_empty line h.some, (not_long line h.short, (not_tag, (not_other begins, (not_form, tt)))))
          (λ stamp u tagged form sum. no_sum (list_all is_armour u.payload) (fields_of u) (sym (read_right stamp u tagged form sum) ∙ e)),
      (tag.1, tagged_so),
    )
      where
        no_sum : (b : Bool) (f : SentenceFields) → (if b then Ok f else Err Armour) ≡ Err Sum → ⊥
        no_sum true f e = cc
        no_sum false f e = cc

    armour_body : HasSum t → sentence_at tag.1 ≡ Err Armour → IsBody line tag.0 (Err Armour)
    armour_body sum e = (
      first_at (Empty ∷ Long ∷ Tag ∷ Other ∷ Form ∷ Sum ∷ []) [] Armour line refl
          (not_empty line h.some, (not_long line h.short, (not_tag, (not_other begins, (not_form, ((λ applies. applies tag.0 t text_tagged text.form sum), tt))))))
          (λ stamp u tagged form right armour.
          ok_no_error (sym (cond-true _ (Ok (fields_of u)) (Err Armour) (list_all-from_AllPass is_armour u.payload armour)) ∙ sym (read_right stamp u tagged form right) ∙ e)),
      (tag.1, tagged_so),
    )

    ok_body : HasSum t → list_all is_armour t.payload ≡ true → IsBody line tag.0 (Ok (fields_of t))
    ok_body sum armour = (
      t,
      record { short = h.short; tagged = text_tagged; form = text.form; sum = sum; armour = AllPass-from_list_all is_armour t.payload armour },
      refl,
    )

    text_body : IsBody line tag.0 (sentence_at tag.1)
    text_body = by_tests (text.told == sum_of (summed t)) (list_all is_armour t.payload) refl refl
      where
        read : sentence_at tag.1 ≡ (if text.told == sum_of (summed t) then (if list_all is_armour t.payload then Ok (fields_of t) else Err Armour) else Err Sum)
        read = read_by tag.0 t text.told text_tagged text.form text.tells

        by_armour : (a : Bool) → list_all is_armour t.payload ≡ a → HasSum t → sentence_at tag.1 ≡ (if list_all is_armour t.payload then Ok (fields_of t) else Err Armour)
            → IsBody line tag.0 (sentence_at tag.1)
        by_armour true armour sum passed =
            subst (IsBody line tag.0) (sym (passed ∙ cond-true _ (Ok (fields_of t)) (Err Armour) armour)) (ok_body sum armour)
        by_armour false armour sum passed =
            let e : sentence_at tag.1 ≡ Err Armour = passed ∙ cond-false _ (Ok (fields_of t)) (Err Armour) armour in
            subst (IsBody line tag.0) (sym e) (armour_body sum e)

        by_tests : (b a : Bool) → (text.told == sum_of (summed t)) ≡ b → list_all is_armour t.payload ≡ a → IsBody line tag.0 (sentence_at tag.1)
        by_tests true a right armour =
            let sum : HasSum t = text.tells ∙ ap Some (eqb-true text.told (sum_of (summed t)) right) in
            let passed = read ∙ cond-true _ (if list_all is_armour t.payload then Ok (fields_of t) else Err Armour) (Err Sum) right in
            by_armour a armour sum passed
        by_tests false a right armour =
            let e : sentence_at tag.1 ≡ Err Sum = read ∙ cond-false _ (if list_all is_armour t.payload then Ok (fields_of t) else Err Armour) (Err Sum) right in
            subst (IsBody line tag.0) (sym e) (sum_body e)

  rest_body : IsBody line tag.0 (sentence_at tag.1)
  rest_body =
      elim (rest_kind tag.1) [
        | inl kind ↦ subst (IsBody line tag.0) (sym kind.read) (other_body kind)
        | inr others ↦
            elim others [
              | inl kind ↦ subst (IsBody line tag.0) (sym kind.read) (form_body kind)
              | inr text ↦ text_body text.0 text.1
            ]
      ]

-- ---- each line

dropped_reading : (line : List ℕ) → LineCause → Type 0
dropped_reading line cause = IsReading line (dropped cause)

pub reads : (line : List ℕ) → IsReading line (reading_of line)
unfolding reading_of
reads line = by_empty (length line == 0) refl
  where
    by_tag : (length line == 0) ≡ false → length line ≤ 1024 → ((tag : Option ℕ × List ℕ) × (tag_at line ≡ Ok tag)) ⊎ ((c : LineCause) × (tag_at line ≡ Err c))
        → IsReading line (read_from (tag_at line))
    by_tag some short (inl (tag, e)) =
        subst (λ (r : Result (Option ℕ × List ℕ) LineCause). IsReading line (read_from r)) (sym e) (rest_body line tag (record { some = some; short = short; tagged = e }))
    by_tag some short (inr (c, e)) =
        let fails : tag_at line ≡ Err Tag = fails_by Tag (tag_at line) c (tag-fails line) e in
        subst (λ (r : Result (Option ℕ × List ℕ) LineCause). IsReading line (read_from r)) (sym fails) (
          first_at (Empty ∷ Long ∷ []) (Other ∷ Form ∷ Sum ∷ Armour ∷ []) Tag line refl
              (not_empty line some, (not_long line short, tt))
              (λ stamp rest tagged. ok_no_error (sym (tag_again line stamp rest tagged) ∙ fails)),
          refl,
        )

    by_long : (length line == 0) ≡ false → (b : Bool) → nat_lt 1024 (length line) ≡ b
        → IsReading line (if b then dropped Long else read_from (tag_at line))
    by_long some true long = (
      first_at (Empty ∷ []) (Tag ∷ Other ∷ Form ∷ Sum ∷ Armour ∷ []) Long line refl (not_empty line some, tt) (ltb-true 1024 (length line) long),
      refl,
    )
    by_long some false short = by_tag some (ltb-false 1024 (length line) short) (outcome (tag_at line))

    by_empty : (b : Bool) → (length line == 0) ≡ b
        → IsReading line (if b then dropped Empty else (if nat_lt 1024 (length line) then dropped Long else read_from (tag_at line)))
    by_empty true none = (
      first_at [] (Long ∷ Tag ∷ Other ∷ Form ∷ Sum ∷ Armour ∷ []) Empty line refl tt (empty_line line none),
      refl,
    )
    by_empty false some = by_long some (nat_lt 1024 (length line)) refl

-- ---- and no other

nothing : {byte : ℕ} {bytes : List ℕ} → byte ∷ bytes ≡ [] → ⊥
nothing e = cc

some_line : (line : List ℕ) (stamp : Option ℕ) (t : SentenceText) → IsTagged line stamp (sentence_text t) → ¬ (line ≡ [])
some_line line stamp t (inl none) e = nothing (none.whole ∙ e)
some_line line stamp t (inr (block, has)) e = nothing (sym has.split ∙ e)

-- A sentence excludes every cause.
excludes : (line : List ℕ) (stamp : Option ℕ) (t : SentenceText) → IsSentenceLine line stamp t → (c : LineCause) → ¬ (Applies c line)
excludes line stamp t is Empty applies = some_line line stamp t is.tagged applies
excludes line stamp t is Long applies = let short = is.short in absurd (omega arith)
excludes line stamp t is Tag applies = applies stamp (sentence_text t) is.tagged
excludes line stamp t is Other applies = applies stamp (sentence_text t) is.tagged (text_begins t is.form)
excludes line stamp t is Form applies = applies stamp t is.tagged is.form
excludes line stamp t is Sum applies = applies stamp t is.tagged is.form is.sum
excludes line stamp t is Armour applies = applies stamp t is.tagged is.form is.sum is.armour

keeps_same : (c : LineCause) (line : List ℕ) (a b : Option ℕ) → KeepsStamp c line a → KeepsStamp c line b → a ≡ b
keeps_same Empty line a b p q = p ∙ sym q
keeps_same Long line a b p q = p ∙ sym q
keeps_same Tag line a b p q = p ∙ sym q
keeps_same Other line a b p q = same_stamp line a b p.0 q.0 p.1 q.1
keeps_same Form line a b p q = same_stamp line a b p.0 q.0 p.1 q.1
keeps_same Sum line a b p q = same_stamp line a b p.0 q.0 p.1 q.1
keeps_same Armour line a b p q = same_stamp line a b p.0 q.0 p.1 q.1

-- two sentences on one line
same_text : (line : List ℕ) (a b : Option ℕ) (t u : SentenceText) → IsSentenceLine line a t → IsSentenceLine line b u → (a ≡ b) × (fields_of t ≡ fields_of u)
same_text line a b t u p q =
    let tags : (a, sentence_text t) ≡ (b, sentence_text u)
    = same_tag line (b, sentence_text u) a (sentence_text t) (tag_again line b (sentence_text u) q.tagged) p.tagged in (
      ap (λ (r : Option ℕ × List ℕ). r.0) tags,
      ok_same (sentence_at (sentence_text u)) (fields_of t) (fields_of u)
          (ap sentence_at (sym (ap (λ (r : Option ℕ × List ℕ). r.1) tags)) ∙ read t p.form p.sum p.armour)
          (read u q.form q.sum q.armour),
    )
  where
    read : (v : SentenceText) → HasForm v → HasSum v → IsArmoured v.payload → sentence_at (sentence_text v) ≡ Ok (fields_of v)
    read v form sum armour =
        text_at v (sum_of (summed v)) form sum
        ∙ cond-true _ (if list_all is_armour v.payload then Ok (fields_of v) else Err Armour) (Err Sum) (eq-eqb (sum_of (summed v)) (sum_of (summed v)) refl)
        ∙ cond-true _ (Ok (fields_of v)) (Err Armour) (list_all-from_AllPass is_armour v.payload armour)

abbrev content_with : Option ℕ → Result SentenceFields LineCause → LineContent
content_with stamp body = record { stamp = stamp; body = body }

one_body : (line : List ℕ) (a b : Option ℕ) (x y : Result SentenceFields LineCause) → IsBody line a x → IsBody line b y → content_with a x ≡ content_with b y
one_body line a b (Ok f) (Ok g) p q =
    let same = same_text line a b p.0 q.0 p.1 q.1 in
    let fields : f ≡ g = p.2 ∙ same.1 ∙ sym q.2 in
    rw (same.0, fields) refl
one_body line a b (Ok f) (Err c) p q = absurd (excludes line a p.0 p.1 c q.0.applies)
one_body line a b (Err c) (Ok g) p q = absurd (excludes line b q.0 q.1 c p.0.applies)
one_body line a b (Err c) (Err d) p q =
    let cause : c ≡ d = one_first c d line p.0 q.0 in
    let stamp : a ≡ b = keeps_same d line a b (subst (λ (x : LineCause). KeepsStamp x line a) cause p.1) q.1 in
    rw (stamp, cause) refl

pub one_reading : (line : List ℕ) (content other : LineContent) → IsReading line content → IsReading line other → content ≡ other
one_reading line content other p q = one_body line content.stamp other.stamp content.body other.body p q
