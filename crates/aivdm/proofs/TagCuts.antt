-- The cuts of a tag block against how a tag block is spelled.
use Rattle.std.proofs.Common.{◌≡◌, ◌≢◌, ◌==◌, ◌&&◌, ℕ, ◌≤◌, Bool, true, false, not, List, [], ◌∷◌, ◌++◌, length, drop, nat_eq, nat_le, IsTrue, Option, Some, None, is_some, position, inl, inr, Result, Ok, Err, slice_get, if◌then◌else◌, refl, sym, ap, ◌∙◌, subst, arith, append_assoc, eq-eqb}
use Rattle.std.proofs.lemmas.Bool.{eqb-true, ne_eqb, eqb-false, leb-true, le-leb, cond-true, cond-false, and_right, false≢true, not-true, not_from_false}
use Rattle.std.proofs.lemmas.Bool.Decides.{nat_tests}
use Rattle.std.proofs.lemmas.List.Elements.{All-from_recursion, recursion_from_All, All-head, All-tail, All-append, All-cons, All-nil, All-weaker}
use Rattle.std.proofs.lemmas.List.Splits.{slice_split_at, slice_split_none, join_with_byte-slice_split, length-slice_split}
use Rattle.std.proofs.lemmas.List.Sums.{AllPass-from_list_all, list_all-from_AllPass, passes_at_first}
use Rattle.std.specs.List.{AllByRecursion, join_with_byte, list_all, onto_first, position_or_len, slice_split}
use Rattle.std.specs.Char.{is_ascii_digit}
use Rattle.std.specs.Str.{all_ascii_digits}
use Rattle.std.specs.Str.Parse.{digits_value}
use Rattle.aivdm.specs.Checksums.{sum_of, hexadecimal}
use Rattle.aivdm.specs.Inner.LineCuts.{◌>>=◌, told_or, before_byte, after_byte, time_of, time_in, first_time, stamp_among, stamp_in, block_end, block_at, tag_at}
use Rattle.aivdm.specs.TagBlocks.{is_field_byte, tells_time, AreTimeDigits, IsTagField, seconds_of, block_stamp, TagBlock, block_content, block_text, IsTagBlock, HasTagBlock, IsTagged}
use Rattle.aivdm.specs.declared.sentence.LineCause.{LineCause}
use Rattle.aivdm.specs.declared.sentence.LineCause.TheVariants.{Tag}
use Rattle.aivdm.proofs.Cuts.{Lacks, before-cut, after-cut, cut-whole, before-lacks}
use Rattle.aivdm.proofs.Digits.{digits_tests}
use Rattle.aivdm.proofs.Parts.{list_all-fails, position-some, position-fails}
use Rattle.aivdm.proofs.Steps.{bind_ok, bind_at, bind_fails, if_ok, FailsBy, FailsBy-bind, FailsBy-if, told_from, told-fails}

-- ---- fields and what is joined of them

-- a field's bytes, one after the other
abbrev FieldBytes : List ℕ → Type 0
FieldBytes bytes = AllByRecursion (λ byte. IsTrue (is_field_byte byte)) bytes

-- the bytes of the parts at commas, if the bytes of the whole are commas or bytes of a field
parts_bytes : (bytes : List ℕ) → Lacks 42 bytes → Lacks 92 bytes → AllByRecursion FieldBytes (slice_split (λ byte. byte == 44) bytes)
parts_bytes [] star slash = (tt, tt)
parts_bytes (byte ∷ bytes) star slash =
    by_comma (byte == 44) refl (parts_bytes bytes (All-tail (λ other. (other == 42) ≡ false) byte bytes star) (All-tail (λ other. (other == 92) ≡ false) byte bytes slash))
  where
    onto : (parts : List (List ℕ)) → IsTrue (is_field_byte byte) → AllByRecursion FieldBytes parts → AllByRecursion FieldBytes (onto_first byte parts)
    onto [] h all = ((h, tt), tt)
    onto (part ∷ parts) h all = ((h, all.0), all.1)

    by_comma : (b : Bool) → (byte == 44) ≡ b → AllByRecursion FieldBytes (slice_split (λ byte. byte == 44) bytes)
        → AllByRecursion FieldBytes (slice_split (λ byte. byte == 44) (byte ∷ bytes))
    by_comma true e all = rw e (tt, all)
    by_comma false e all =
        rw e (onto (slice_split (λ byte. byte == 44) bytes)
        (rw (e, All-head (λ other. (other == 42) ≡ false) byte bytes star, All-head (λ other. (other == 92) ≡ false) byte bytes slash) refl) all)

field_lacks : (byte : ℕ) → is_field_byte byte ≡ true → ((byte == 44) ≡ false) × ((byte == 42) ≡ false) × ((byte == 92) ≡ false)
field_lacks byte h = (grind (arith, nat_tests), grind (arith, nat_tests), grind (arith, nat_tests))

bytes_lack : (field : List ℕ) → FieldBytes field → Lacks 44 field × Lacks 42 field × Lacks 92 field
bytes_lack field all =
    let each = All-from_recursion (λ byte. IsTrue (is_field_byte byte)) field all in (
      All-weaker (λ byte. IsTrue (is_field_byte byte)) (λ byte. (byte == 44) ≡ false) (λ byte h. (field_lacks byte h).0) field each,
      All-weaker (λ byte. IsTrue (is_field_byte byte)) (λ byte. (byte == 42) ≡ false) (λ byte h. (field_lacks byte h).1) field each,
      All-weaker (λ byte. IsTrue (is_field_byte byte)) (λ byte. (byte == 92) ≡ false) (λ byte h. (field_lacks byte h).2) field each,
    )

-- what is joined has no `*` and no backslash
joined_lacks : (fields : List (List ℕ)) → AllByRecursion FieldBytes fields → Lacks 42 (join_with_byte 44 fields) × Lacks 92 (join_with_byte 44 fields)
joined_lacks [] all = (All-nil (λ byte. (byte == 42) ≡ false), All-nil (λ byte. (byte == 92) ≡ false))
joined_lacks (field ∷ []) all = let here = bytes_lack field all.0 in (here.1, here.2)
joined_lacks (field ∷ next ∷ fields) all =
    let here = bytes_lack field all.0 in
    let others = joined_lacks (next ∷ fields) all.1 in
    let rest = join_with_byte 44 (next ∷ fields) in (
      All-append (λ byte. (byte == 42) ≡ false) field (44 ∷ rest) here.1 (All-cons (λ byte. (byte == 42) ≡ false) 44 rest refl others.0),
      All-append (λ byte. (byte == 92) ≡ false) field (44 ∷ rest) here.2 (All-cons (λ byte. (byte == 92) ≡ false) 44 rest refl others.1),
    )

-- the parts of what is joined are the fields
split_joined : (field : List ℕ) (fields : List (List ℕ)) → AllByRecursion FieldBytes (field ∷ fields) → slice_split (λ byte. byte == 44) (join_with_byte 44 (field ∷ fields)) ≡ field ∷ fields
split_joined field [] all = slice_split_none (λ byte. byte == 44) field (bytes_lack field all.0).0
split_joined field (next ∷ fields) all =
    slice_split_at (λ byte. byte == 44) field 44 (join_with_byte 44 (next ∷ fields)) (bytes_lack field all.0).0 refl
    ∙ ap (λ (parts : List (List ℕ)). field ∷ parts) (split_joined next fields all.1)

-- ---- the time of a field

-- the time in a field, if it is well formed
abbrev pub told_time : List ℕ → Option ℕ
told_time field = if tells_time field then Some (seconds_of (digits_value 10 (drop 2 field))) else None

tells_none : (a : ℕ) → tells_time (a ∷ []) ≡ false
tells_none a = and_right (nat_eq 99 a) false refl

tells_two : (a b : ℕ) (digits : List ℕ) → tells_time (a ∷ b ∷ digits) ≡ ((a == 99) && (b == 58))
tells_two a b digits = grind (arith, nat_tests)

-- a field that is read
pub record IsRead (field : List ℕ) (time : Option ℕ) : Type 0 where
  pub some : 1 ≤ length field
  pub digits : IsTrue (tells_time field) → AreTimeDigits (drop 2 field)
  pub time_is : time ≡ told_time field

three_parts : (a b c : Bool) → (a && b && c) ≡ true → (a ≡ true) × (b ≡ true) × (c ≡ true)
three_parts true true true h = (refl, refl, refl)
three_parts true true false h = absurd cc
three_parts true false c h = absurd cc
three_parts false b c h = absurd cc

digits_read : (digits : List ℕ) (time : Option ℕ) → time_of digits ≡ Ok time → AreTimeDigits digits × (time ≡ Some (seconds_of (digits_value 10 digits)))
unfolding time_of
digits_read digits time e =
    let test = nat_le 1 (length digits) && nat_le (length digits) 15 && all_ascii_digits digits in
    let told : Option ℕ = Some (seconds_of (digits_value 10 digits)) in
    let passed = if_ok test (Ok told) Tag time e in
    let parts = three_parts (nat_le 1 (length digits)) (nat_le (length digits) 15) (all_ascii_digits digits) passed.0 in
    let is : time ≡ told = cc in (
      record {
        some = leb-true 1 (length digits) parts.0;
        few = leb-true (length digits) 15 parts.1;
        decimal = AllPass-from_list_all is_ascii_digit digits (sym (digits_tests digits) ∙ parts.2);
      },
      is,
    )

digits_again : (digits : List ℕ) → AreTimeDigits digits → time_of digits ≡ Ok (Some (seconds_of (digits_value 10 digits)))
unfolding time_of
digits_again digits are =
    cond-true _ (Ok (Some (seconds_of (digits_value 10 digits)))) (Err Tag)
    (rw (le-leb 1 (length digits) are.some, le-leb (length digits) 15 are.few, digits_tests digits, list_all-from_AllPass is_ascii_digit digits are.decimal) refl)

time_read : (field : List ℕ) (time : Option ℕ) → time_in field ≡ Ok time → IsRead field time
unfolding time_in
time_read [] time e = absurd cc
time_read (a ∷ []) time e =
    let none : time ≡ None = cc in record {
      some = omega arith;
      digits = λ tells. absurd (false≢true (sym (tells_none a) ∙ tells));
      time_is = none ∙ sym (cond-false (tells_time (a ∷ [])) (Some (seconds_of (digits_value 10 (drop 2 (a ∷ []))))) None (tells_none a));
    }
time_read (a ∷ b ∷ digits) time e = by_test ((a == 99) && (b == 58)) refl e
  where
    by_test : (t : Bool) → ((a == 99) && (b == 58)) ≡ t → (if t then time_of digits else Ok None) ≡ Ok time → IsRead (a ∷ b ∷ digits) time
    by_test true test e =
        let read = digits_read digits time e in record {
          some = omega arith;
          digits = λ tells. read.0;
          time_is = read.1 ∙ sym (cond-true (tells_time (a ∷ b ∷ digits)) (Some (seconds_of (digits_value 10 digits))) None (tells_two a b digits ∙ test));
        }
    by_test false test e =
        let none : time ≡ None = cc in record {
          some = omega arith;
          digits = λ tells. absurd (false≢true (sym test ∙ sym (tells_two a b digits) ∙ tells));
          time_is = none ∙ sym (cond-false (tells_time (a ∷ b ∷ digits)) (Some (seconds_of (digits_value 10 digits))) None (tells_two a b digits ∙ test));
        }

time_again : (field : List ℕ) → 1 ≤ length field → (IsTrue (tells_time field) → AreTimeDigits (drop 2 field)) → time_in field ≡ Ok (told_time field)
unfolding time_in
time_again [] some digits = absurd (omega arith)
time_again (a ∷ []) some digits = ap Ok (sym (cond-false (tells_time (a ∷ [])) (Some (seconds_of (digits_value 10 (drop 2 (a ∷ []))))) None (tells_none a)))
time_again (a ∷ b ∷ rest) some digits = by_test ((a == 99) && (b == 58)) refl
  where
    by_test : (t : Bool) → ((a == 99) && (b == 58)) ≡ t → (if (a == 99) && (b == 58) then time_of rest else Ok None) ≡ Ok (told_time (a ∷ b ∷ rest))
    by_test true test =
        cond-true _ (time_of rest) (Ok None) test
        ∙ digits_again rest (digits (tells_two a b rest ∙ test))
        ∙ ap Ok (sym (cond-true (tells_time (a ∷ b ∷ rest)) (Some (seconds_of (digits_value 10 rest))) None (tells_two a b rest ∙ test)))
    by_test false test =
        cond-false _ (time_of rest) (Ok None) test
        ∙ ap Ok (sym (cond-false (tells_time (a ∷ b ∷ rest)) (Some (seconds_of (digits_value 10 rest))) None (tells_two a b rest ∙ test)))

-- ---- the stamp

first_of_none : (time : Option ℕ) → first_time time None ≡ time
first_of_none None = refl
first_of_none (Some time) = refl

-- the time in the first field comes before the times in the others
stamp_cons : (field : List ℕ) (fields : List (List ℕ)) → block_stamp (field ∷ fields) ≡ first_time (told_time field) (block_stamp fields)
stamp_cons field fields = by_test (tells_time field) refl
  where
    by_test : (t : Bool) → tells_time field ≡ t → block_stamp (field ∷ fields) ≡ first_time (told_time field) (block_stamp fields)
    by_test true e = rw e refl
    by_test false e = rw e refl

first_first : (a b c : Option ℕ) → first_time (first_time a b) c ≡ first_time a (first_time b c)
first_first None b c = refl
first_first (Some a) b c = refl

-- fields of their form, but for the bytes in them
abbrev pub AreRead : List (List ℕ) → Type 0
AreRead fields = AllByRecursion (λ field. (1 ≤ length field) × (IsTrue (tells_time field) → AreTimeDigits (drop 2 field))) fields

stamps_read : (s : Option ℕ) (fields : List (List ℕ)) (stamp : Option ℕ) → stamp_among s fields ≡ Ok stamp → AreRead fields × (stamp ≡ first_time s (block_stamp fields))
stamps_read s [] stamp e = let is : stamp ≡ s = cc in (tt, is ∙ sym (first_of_none s))
stamps_read s (field ∷ fields) stamp e =
    let step = bind_ok (time_in field) (λ time. stamp_among (first_time s time) fields) stamp e in
    let read = time_read field step.0 step.1 in
    let others = stamps_read (first_time s step.0) fields stamp step.2 in (
      ((read.some, read.digits), others.0),
      others.1
          ∙ first_first s step.0 (block_stamp fields)
          ∙ ap (first_time s) (ap (λ (t : Option ℕ). first_time t (block_stamp fields)) read.time_is ∙ sym (stamp_cons field fields)),
    )

stamps_again : (s : Option ℕ) (fields : List (List ℕ)) → AreRead fields → stamp_among s fields ≡ Ok (first_time s (block_stamp fields))
stamps_again s [] all = ap Ok (sym (first_of_none s))
stamps_again s (field ∷ fields) all =
    bind_at (time_in field) (λ time. stamp_among (first_time s time) fields) (told_time field) (time_again field all.0.0 all.0.1)
    ∙ stamps_again (first_time s (told_time field)) fields all.1
    ∙ ap Ok (first_first s (told_time field) (block_stamp fields) ∙ ap (first_time s) (sym (stamp_cons field fields)))

-- ---- fields of their form

fields_form : (fields : List (List ℕ)) → AreRead fields → AllByRecursion FieldBytes fields → AllByRecursion IsTagField fields
fields_form [] read bytes = tt
fields_form (field ∷ fields) read bytes = (
  record { some = read.0.0; bytes = All-from_recursion (λ byte. IsTrue (is_field_byte byte)) field bytes.0; time = read.0.1 },
  fields_form fields read.1 bytes.1,
)

form_read : (fields : List (List ℕ)) → AllByRecursion IsTagField fields → AreRead fields
form_read [] all = tt
form_read (field ∷ fields) all = ((all.0.some, all.0.time), form_read fields all.1)

form_bytes : (fields : List (List ℕ)) → AllByRecursion IsTagField fields → AllByRecursion FieldBytes fields
form_bytes [] all = tt
form_bytes (field ∷ fields) all = (recursion_from_All (λ byte. IsTrue (is_field_byte byte)) field all.0.bytes, form_bytes fields all.1)

-- ---- the whole block

record EndsBlock (bytes : List ℕ) (end : ℕ × List ℕ) : Type 0 where
  high : ℕ
  low : ℕ
  split : bytes ≡ high ∷ low ∷ 92 ∷ end.1
  tells : hexadecimal high low ≡ Some end.0

ends_block : (bytes : List ℕ) (end : ℕ × List ℕ) → block_end bytes ≡ Ok end → EndsBlock bytes end
unfolding block_end
ends_block [] end e = absurd cc
ends_block (a ∷ []) end e = absurd cc
ends_block (a ∷ b ∷ []) end e = absurd cc
ends_block (high ∷ low ∷ slash ∷ rest) end e =
    let passed = if_ok (slash == 92) (told_or Tag (hexadecimal high low) >>= λ told. Ok (told, rest)) Tag end e in
    let step = bind_ok (told_or Tag (hexadecimal high low)) (λ told. Ok (told, rest)) end passed.1 in
    let end_is : (step.0, rest) ≡ end = cc in record {
      high = high;
      low = low;
      split = rw (eqb-true slash 92 passed.0) (ap (λ (r : ℕ × List ℕ). high ∷ low ∷ 92 ∷ r.1) end_is);
      tells = told_from Tag (hexadecimal high low) step.0 step.1 ∙ ap (λ (r : ℕ × List ℕ). Some r.0) end_is;
    }

end_block_again : (high low told : ℕ) (rest : List ℕ) → hexadecimal high low ≡ Some told → block_end (high ∷ low ∷ 92 ∷ rest) ≡ Ok (told, rest)
unfolding block_end
end_block_again high low told rest tells =
    bind_at (told_or Tag (hexadecimal high low)) (λ told. Ok (told, rest)) told (ap (told_or Tag) tells)

-- the stamp after the end of a block
with_stamp : List ℕ → ℕ × List ℕ → Result (Option ℕ × List ℕ) LineCause
with_stamp content end = if end.0 == sum_of content then (stamp_in content >>= λ stamp. Ok (stamp, end.1)) else Err Tag

no_slash : (bytes : List ℕ) → list_all (λ byte. not (byte == 92)) bytes ≡ true → Lacks 92 bytes
no_slash bytes h =
    All-weaker (λ byte. not (byte == 92) ≡ true) (λ byte. (byte == 92) ≡ false) (λ byte t. not-true (byte == 92) t) bytes
    (AllPass-from_list_all (λ byte. not (byte == 92)) bytes h)

slash_test : (bytes : List ℕ) → Lacks 92 bytes → list_all (λ byte. not (byte == 92)) bytes ≡ true
slash_test bytes h =
    list_all-from_AllPass (λ byte. not (byte == 92)) bytes
    (All-weaker (λ byte. (byte == 92) ≡ false) (λ byte. not (byte == 92) ≡ true) (λ byte t. not_from_false (byte == 92) t) bytes h)

pub plain_stamp : (content : List ℕ) → None ≡ position (λ byte. byte == 92) content → stamp_in content ≡ stamp_among None (slice_split (λ byte. byte == 44) content)
unfolding stamp_in
plain_stamp content none =
    cond-true _ (stamp_among None (slice_split (λ byte. byte == 44) content)) (Err Tag) (slash_test content (position-fails (λ byte. byte == 92) content none))

pub none_from : (o : Option ℕ) → is_some o ≡ false → None ≡ o
none_from None h = refl
none_from (Some at) h = absurd cc

some_place : (o : Option ℕ) → is_some o ≡ true → (at : ℕ) × (o ≡ Some at)
some_place None h = absurd cc
some_place (Some at) h = (at, refl)

pub slashed_stamp : (content : List ℕ) → is_some (position (λ byte. byte == 92) content) ≡ true → stamp_in content ≡ Err Tag
unfolding stamp_in
slashed_stamp content found =
    let at = some_place (position (λ (byte : ℕ). byte == 92) content) found in
    let place = position-some (λ (byte : ℕ). byte == 92) content at.0 (sym at.1) in
    let here = passes_at_first (λ (byte : ℕ). byte == 92) content 0 place.1 in
    cond-false _ (stamp_among None (slice_split (λ byte. byte == 44) content)) (Err Tag)
    (list_all-fails (λ byte. not (byte == 92)) content (position_or_len (λ byte. byte == 92) content) place.1 (rw here refl))

-- one field more, which stops the reading or has a time
pub stamp_stops : (s : Option ℕ) (field : List ℕ) (fields : List (List ℕ)) (c : LineCause) → time_in field ≡ Err c → stamp_among s (field ∷ fields) ≡ Err c
stamp_stops s field fields c e = bind_fails (time_in field) (λ time. stamp_among (first_time s time) fields) c e

pub stamp_goes : (s : Option ℕ) (field : List ℕ) (fields : List (List ℕ)) (time : Option ℕ) → time_in field ≡ Ok time → stamp_among s (field ∷ fields) ≡ stamp_among (first_time s time) fields
stamp_goes s field fields time e = bind_at (time_in field) (λ time. stamp_among (first_time s time) fields) time e

block_read : (bytes : List ℕ) (tag : Option ℕ × List ℕ) → block_at bytes ≡ Ok tag → (block : TagBlock) × HasTagBlock (92 ∷ bytes) tag.0 tag.1 block
unfolding block_at stamp_in with_stamp
block_read bytes tag e =
    let content = before_byte 42 bytes in
    let one = bind_ok (block_end (after_byte 42 bytes)) (with_stamp content) tag e in
    let end = ends_block (after_byte 42 bytes) one.0 one.1 in
    let summed = if_ok ((one.0).0 == sum_of content) (stamp_in content >>= λ stamp. Ok (stamp, (one.0).1)) Tag tag one.2 in
    let two = bind_ok (stamp_in content) (λ stamp. Ok (stamp, (one.0).1)) tag summed.1 in
    let fields = slice_split (λ byte. byte == 44) content in
    let plain = if_ok (list_all (λ byte. not (byte == 92)) content) (stamp_among None fields) Tag two.0 two.1 in
    let stamps = stamps_read None fields two.0 plain.1 in
    let tag_is : (two.0, (one.0).1) ≡ tag = cc in
    let bytes_are = parts_bytes content (before-lacks 42 bytes) (no_slash content plain.0) in
    let joined : join_with_byte 44 fields ≡ content = join_with_byte-slice_split 44 content in
    let whole : bytes ≡ content ++ 42 ∷ end.high ∷ end.low ∷ 92 ∷ (one.0).1 = cut-whole 42 bytes end.high (end.low ∷ 92 ∷ (one.0).1) end.split in
    let sum_is : (one.0).0 ≡ sum_of content = eqb-true (one.0).0 (sum_of content) summed.0 in
    let block : TagBlock = record { fields = fields; high = end.high; low = end.low } in (
      block,
      record {
        split =
            ap (λ (b : List ℕ). 92 ∷ b) (whole ∙ ap (λ (c : List ℕ). c ++ 42 ∷ end.high ∷ end.low ∷ 92 ∷ (one.0).1) (sym joined))
            ∙ sym (append_assoc (92 ∷ join_with_byte 44 fields) (42 ∷ end.high ∷ end.low ∷ 92 ∷ []) (one.0).1)
            ∙ ap (λ (r : Option ℕ × List ℕ). block_text block ++ r.1) tag_is;
        form = record {
          some = omega (arith, length-slice_split (λ (byte : ℕ). byte == 44) content);
          fields = All-from_recursion IsTagField fields (fields_form fields stamps.0 bytes_are);
          sum = end.tells ∙ ap Some (sum_is ∙ ap sum_of (sym joined));
        };
        time = ap (λ (r : Option ℕ × List ℕ). r.0) (sym tag_is) ∙ stamps.1;
      },
    )

splits_again : (fields : List (List ℕ)) → 1 ≤ length fields → AllByRecursion FieldBytes fields → slice_split (λ byte. byte == 44) (join_with_byte 44 fields) ≡ fields
splits_again [] some all = absurd (omega arith)
splits_again (field ∷ fields) some all = split_joined field fields all

block_again : (block : TagBlock) (rest : List ℕ) → IsTagBlock block → block_at (block_content block ++ 42 ∷ block.high ∷ block.low ∷ 92 ∷ rest) ≡ Ok (block_stamp block.fields, rest)
unfolding block_at stamp_in with_stamp
block_again block rest form =
    let content = block_content block in
    let behind = block.high ∷ block.low ∷ 92 ∷ rest in
    let bytes = content ++ 42 ∷ behind in
    let forms = recursion_from_All IsTagField block.fields form.fields in
    let field_bytes = form_bytes block.fields forms in
    let lacks = joined_lacks block.fields field_bytes in
    let before : before_byte 42 bytes ≡ content = before-cut 42 content behind lacks.0 in
    let end : ℕ × List ℕ = (sum_of content, rest) in
    let end_is : block_end (after_byte 42 bytes) ≡ Ok end
    = ap block_end (after-cut 42 content behind lacks.0) ∙ end_block_again block.high block.low (sum_of content) rest form.sum in
    let stamp_is : stamp_in content ≡ Ok (block_stamp block.fields)
    = cond-true _ (stamp_among None (slice_split (λ byte. byte == 44) content)) (Err Tag) (slash_test content lacks.1)
    ∙ ap (stamp_among None) (splits_again block.fields form.some field_bytes)
    ∙ stamps_again None block.fields (form_read block.fields forms) in
    bind_at (block_end (after_byte 42 bytes)) (with_stamp (before_byte 42 bytes)) end end_is
    ∙ ap (λ (c : List ℕ). with_stamp c end) before
    ∙ cond-true _ (stamp_in content >>= λ stamp. Ok (stamp, rest)) (Err Tag) (eq-eqb (sum_of content) (sum_of content) refl)
    ∙ bind_at (stamp_in content) (λ stamp. Ok (stamp, rest)) (block_stamp block.fields) stamp_is

-- ---- the line

abbrev untagged : List ℕ → Option ℕ × List ℕ
untagged line = (None, line)

no_block : (line : List ℕ) (tag : Option ℕ × List ℕ) → slice_get line 0 ≢ Some 92 → untagged line ≡ tag → IsTagged line tag.0 tag.1
no_block line tag plain e =
    inl (record { plain = plain; whole = ap (λ (r : Option ℕ × List ℕ). r.1) (sym e); time = ap (λ (r : Option ℕ × List ℕ). r.0) (sym e) })

no_first : slice_get {X = ℕ} [] 0 ≢ Some 92
no_first e = cc

other_first : (byte : ℕ) (bytes : List ℕ) → (byte == 92) ≡ false → slice_get (byte ∷ bytes) 0 ≢ Some 92
other_first byte bytes other e = let is : byte ≡ 92 = cc in eqb-false byte 92 other is

pub tag_read : (line : List ℕ) (tag : Option ℕ × List ℕ) → tag_at line ≡ Ok tag → IsTagged line tag.0 tag.1
unfolding tag_at
tag_read [] tag e = let tag_is : untagged [] ≡ tag = cc in no_block [] tag no_first tag_is
tag_read (byte ∷ bytes) tag e = by_slash (byte == 92) refl e
  where
    by_slash : (b : Bool) → (byte == 92) ≡ b → (if b then block_at bytes else Ok (None, byte ∷ bytes)) ≡ Ok tag → IsTagged (byte ∷ bytes) tag.0 tag.1
    by_slash true slash e =
        let read = block_read bytes tag e in
        inr (subst (λ (first : ℕ). (block : TagBlock) × HasTagBlock (first ∷ bytes) tag.0 tag.1 block) (sym (eqb-true byte 92 slash)) read)
    by_slash false slash e = let tag_is : untagged (byte ∷ bytes) ≡ tag = cc in no_block (byte ∷ bytes) tag (other_first byte bytes slash) tag_is

plain_again : (line : List ℕ) → slice_get line 0 ≢ Some 92 → tag_at line ≡ Ok (untagged line)
unfolding tag_at
plain_again [] plain = refl
plain_again (byte ∷ bytes) plain = cond-false _ (block_at bytes) (Ok (untagged (byte ∷ bytes))) (ne_eqb byte 92 (λ is. plain (ap Some is)))

tagged_again : (block : TagBlock) (rest : List ℕ) → IsTagBlock block → tag_at (block_text block ++ rest) ≡ Ok (block_stamp block.fields, rest)
unfolding tag_at
tagged_again block rest form =
    ap tag_at (append_assoc (92 ∷ block_content block) (42 ∷ block.high ∷ block.low ∷ 92 ∷ []) rest) ∙ block_again block rest form

pub tag_again : (line : List ℕ) (stamp : Option ℕ) (rest : List ℕ) → IsTagged line stamp rest → tag_at line ≡ Ok (stamp, rest)
tag_again line stamp rest (inl none) = plain_again line none.plain ∙ rw (none.whole, none.time) refl
tag_again line stamp rest (inr (block, has)) =
    ap tag_at has.split ∙ tagged_again block rest has.form ∙ ap (λ (s : Option ℕ). Ok (s, rest)) (sym has.time)

time-fails : (field : List ℕ) → FailsBy Tag (time_in field)
unfolding time_in time_of
time-fails [] = refl
time-fails (a ∷ []) = tt
time-fails (a ∷ b ∷ digits) =
    FailsBy-if Tag _ (time_of digits) (Ok None) (FailsBy-if Tag _ (Ok (Some (seconds_of (digits_value 10 digits)))) (Err Tag) tt refl) tt

stamps-fail : (s : Option ℕ) (fields : List (List ℕ)) → FailsBy Tag (stamp_among s fields)
stamps-fail s [] = tt
stamps-fail s (field ∷ fields) =
    FailsBy-bind Tag (time_in field) (λ time. stamp_among (first_time s time) fields) (time-fails field) (λ time. stamps-fail (first_time s time) fields)

end_block-fails : (bytes : List ℕ) → FailsBy Tag (block_end bytes)
unfolding block_end
end_block-fails [] = refl
end_block-fails (a ∷ []) = refl
end_block-fails (a ∷ b ∷ []) = refl
end_block-fails (high ∷ low ∷ slash ∷ rest) =
    FailsBy-if Tag _ (told_or Tag (hexadecimal high low) >>= λ told. Ok (told, rest)) (Err Tag)
    (FailsBy-bind Tag (told_or Tag (hexadecimal high low)) (λ told. Ok (told, rest)) (told-fails Tag (hexadecimal high low)) (λ told. tt)) refl

block-fails : (bytes : List ℕ) → FailsBy Tag (block_at bytes)
unfolding block_at stamp_in with_stamp
block-fails bytes =
    let content = before_byte 42 bytes in
    FailsBy-bind Tag (block_end (after_byte 42 bytes)) (with_stamp content) (end_block-fails (after_byte 42 bytes)) (λ end.
    FailsBy-if Tag _ (stamp_in content >>= λ stamp. Ok (stamp, end.1)) (Err Tag)
    (FailsBy-bind Tag (stamp_in content) (λ stamp. Ok (stamp, end.1))
    (FailsBy-if Tag _ (stamp_among None (slice_split (λ byte. byte == 44) content)) (Err Tag) (stamps-fail None (slice_split (λ byte. byte == 44) content)) refl)
    (λ stamp. tt)) refl)

pub tag-fails : (line : List ℕ) → FailsBy Tag (tag_at line)
unfolding tag_at
tag-fails [] = tt
tag-fails (byte ∷ bytes) = FailsBy-if Tag (byte == 92) (block_at bytes) (Ok (None, byte ∷ bytes)) (block-fails bytes) tt
