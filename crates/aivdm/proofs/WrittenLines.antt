-- The line of a message reads as the message.
use Rattle.std.proofs.Common.{◌≡◌, ◌≢◌, ◌==◌, ◌||◌, ℕ, ◌+◌, ◌-◌, ◌*◌, ◌/◌, ◌%◌, ◌<◌, ◌≤◌, Bool, true, false, List, [], ◌∷◌, ◌++◌, length, All, IsTrue, Option, Some, None, IfSome, is_some, inl, inr, codes, slice_get, fold, bit_xor, refl, sym, ap, ◌∙◌, subst, arith, append_assoc, length-append, mod-lt, lit<}
use Rattle.std.proofs.lemmas.Bool.{agree_below_at, cond-true, and_from, eqb-true, eqb-false, lt-ltb}
use Rattle.std.proofs.lemmas.Bool.Decides.{nat_tests}
use Rattle.std.proofs.lemmas.Fmt.{decimal_is_IsNumeral, digits_decimal, digits_value-decimal, length-decimal-le}
use Rattle.std.proofs.lemmas.List.Elements.{All-append, All-cons, All-nil, All-weaker, All-from_recursion, recursion_from_All}
use Rattle.std.proofs.lemmas.List.Sums.{AllPass-from_list_all}
use Rattle.std.proofs.lemmas.Nat.{xor_lt}
use Rattle.std.proofs.Math.Nat.{div-add-mod}
use Rattle.std.specs.Char.{is_ascii_uppercase, is_ascii_digit, is_ascii_alphanumeric, is_digit, digit_value}
use Rattle.std.specs.Fmt.{decimal}
use Rattle.std.specs.List.{AllByRecursion}
use Rattle.std.specs.Str.{all_ascii_digits}
use Rattle.aivdm.specs.Checksums.{sum_of, hexadecimal}
use Rattle.aivdm.specs.Armouring.{payload_of}
use Rattle.aivdm.specs.LineReading.{SentenceText, summed, sentence_text, HasForm, HasSum, fields_of, IsSentenceLine}
use Rattle.aivdm.specs.PayloadBits.{is_armour}
use Rattle.aivdm.specs.SentenceWriting.{hexadecimal_digit, sum_text, tag_text, sentence_content, line_text, fill_of, IsWritten}
use Rattle.aivdm.specs.Sentences.{SentenceFields}
use Rattle.aivdm.specs.TagBlocks.{is_field_byte, IsTagField, seconds_of, block_stamp, TagBlock, block_text, IsTagBlock, IsTagged}
use Rattle.aivdm.proofs.Digits.{numerals, digits_tests}
use Rattle.aivdm.proofs.Written.{payload_bits, payload_size, payload_unfilled, payload_armour}

-- ---- sums

sum_below : (bytes : List ℕ) (sum : ℕ) → sum < 256 → AllByRecursion (λ byte. byte < 256) bytes → fold bit_xor sum bytes < 256
sum_below [] sum h all = h
sum_below (byte ∷ bytes) sum h all = sum_below bytes (bit_xor sum byte) (xor_lt 8 sum byte h all.0) all.1

sum_of-below : (bytes : List ℕ) → All (λ byte. byte < 256) bytes → sum_of bytes < 256
sum_of-below bytes all = sum_below bytes 0 (omega arith) (recursion_from_All (λ byte. byte < 256) bytes all)

digit_again : (value : ℕ) → value < 16 → (is_digit (hexadecimal_digit value) 16 ≡ true) × (digit_value (hexadecimal_digit value) ≡ value)
digit_again value small = (
  agree_below_at (λ v. is_digit (hexadecimal_digit v) 16) (λ v. true) 16 value refl small,
  eqb-true (digit_value (hexadecimal_digit value)) value (agree_below_at (λ v. digit_value (hexadecimal_digit v) == v) (λ v. true) 16 value refl small),
)

pub hexadecimal_again : (sum : ℕ) → sum < 256 → hexadecimal (hexadecimal_digit (sum / 16)) (hexadecimal_digit (sum % 16)) ≡ Some sum
hexadecimal_again sum small =
    let high = digit_again (sum / 16) (omega arith) in
    let low = digit_again (sum % 16) (mod-lt sum (lit< tt)) in
    let value : 16 * digit_value (hexadecimal_digit (sum / 16)) + digit_value (hexadecimal_digit (sum % 16)) ≡ sum = rw (high.1, low.1) (div-add-mod sum 16) in
    cond-true _ (Some (16 * digit_value (hexadecimal_digit (sum / 16)) + digit_value (hexadecimal_digit (sum % 16)))) None
    (and_from (is_digit (hexadecimal_digit (sum / 16)) 16) (is_digit (hexadecimal_digit (sum % 16)) 16) high.0 low.0)
    ∙ ap Some value

-- ---- the tag block

digit_bytes : (digits : List ℕ) → all_ascii_digits digits ≡ true → All (λ byte. IsTrue (is_ascii_digit byte)) digits
digit_bytes digits h = AllPass-from_list_all is_ascii_digit digits (sym (digits_tests digits) ∙ h)

digit_in_field : (byte : ℕ) → is_ascii_digit byte ≡ true → is_field_byte byte ≡ true
digit_in_field byte h = grind (arith, nat_tests)

digit_below : (byte : ℕ) → is_ascii_digit byte ≡ true → byte < 256
digit_below byte h = grind (arith, nat_tests)

time_content : ℕ → List ℕ
time_content stamp = codes "c:" ++ decimal stamp

time_block : ℕ → TagBlock
time_block stamp = record {
  fields = time_content stamp ∷ [];
  high = hexadecimal_digit (sum_of (time_content stamp) / 16);
  low = hexadecimal_digit (sum_of (time_content stamp) % 16);
}

time_field : (stamp : ℕ) → stamp < 100_000_000_000 → IsTagField (time_content stamp)
unfolding time_content
time_field stamp small =
    let digits = decimal stamp in
    let decimals : all_ascii_digits digits ≡ true = digits_decimal numerals stamp (omega arith) in
    let each = digit_bytes digits decimals in
    let few : length digits ≤ 11 = length-decimal-le 11 stamp (lit< tt) small (omega arith) in
    let P = λ (byte : ℕ). IsTrue (is_field_byte byte) in record {
      some = omega arith;
      bytes = All-cons P 99 (58 ∷ digits) refl (All-cons P 58 digits refl (All-weaker (λ byte. IsTrue (is_ascii_digit byte)) P digit_in_field digits each));
      time = λ tells. record { some = (decimal_is_IsNumeral stamp (omega arith)).0.0; few = omega arith; decimal = each };
    }

content_below : (stamp : ℕ) → stamp < 100_000_000_000 → sum_of (time_content stamp) < 256
unfolding time_content
content_below stamp small =
    let digits = decimal stamp in
    let P = λ (byte : ℕ). byte < 256 in
    sum_of-below (codes "c:" ++ digits)
    (All-cons P 99 (58 ∷ digits) (lit< tt) (All-cons P 58 digits (lit< tt)
    (All-weaker (λ byte. IsTrue (is_ascii_digit byte)) P digit_below digits (digit_bytes digits (digits_decimal numerals stamp (omega arith))))))

time_is : (stamp : ℕ) → stamp < 100_000_000_000 → IsTagBlock (time_block stamp)
unfolding time_block
time_is stamp small = record {
  some = omega arith;
  fields = All-cons IsTagField (time_content stamp) [] (time_field stamp small) (All-nil IsTagField);
  sum = hexadecimal_again (sum_of (time_content stamp)) (content_below stamp small);
}

time_stamp : (stamp : ℕ) → stamp < 100_000_000_000 → block_stamp (time_block stamp).fields ≡ Some stamp
unfolding time_block time_content
time_stamp stamp small =
    ap (λ (time : ℕ). Some (seconds_of time)) (digits_value-decimal numerals stamp (omega arith))
    ∙ ap Some (cond-true _ stamp (stamp / 1000) (lt-ltb stamp 100_000_000_000 small))

time_text : (stamp : ℕ) (rest : List ℕ) → tag_text (Some stamp) ++ rest ≡ block_text (time_block stamp) ++ rest
unfolding time_block time_content
time_text stamp rest = ap (λ (l : List ℕ). l ++ rest) (append_assoc (92 ∷ codes "c:" ++ decimal stamp) (sum_text (codes "c:" ++ decimal stamp)) (92 ∷ []))

tag_first : (stamp : Option ℕ) (rest : List ℕ) → slice_get (33 ∷ rest) 0 ≢ Some 92
tag_first stamp rest e = eqb-false 33 92 refl (some_value e)
  where
    some_value : {x y : ℕ} → Some x ≡ Some y → x ≡ y
    some_value e = cc

tagged : (stamp : Option ℕ) (rest : List ℕ) → IfSome stamp (λ time. time < 100_000_000_000) → IsTagged (tag_text stamp ++ (33 ∷ rest)) stamp (33 ∷ rest)
tagged None rest small = inl (record { plain = tag_first None rest; whole = refl; time = refl })
tagged (Some stamp) rest small =
    inr (time_block stamp, record { split = time_text stamp (33 ∷ rest); form = time_is stamp small; time = sym (time_stamp stamp small) })

-- ---- the sentence

written_text : List Bool → ℕ → SentenceText
written_text bits channel =
    let content = sentence_content channel (payload_of bits) (fill_of bits) in record {
      talker = codes "AI";
      kind = 77;
      total = 49;
      number = 49;
      seq = [];
      channel = channel ∷ [];
      payload = payload_of bits;
      fill = 48 + fill_of bits;
      high = hexadecimal_digit (sum_of content / 16);
      low = hexadecimal_digit (sum_of content % 16);
      suffix = [];
    }

content_is : (bits : List Bool) (channel : ℕ) → summed (written_text bits channel) ≡ sentence_content channel (payload_of bits) (fill_of bits)
unfolding written_text
content_is bits channel = refl

text_is : (bits : List Bool) (channel : ℕ) → sentence_text (written_text bits channel)
    ≡ 33 ∷ sentence_content channel (payload_of bits) (fill_of bits) ++ sum_text (sentence_content channel (payload_of bits) (fill_of bits))
unfolding written_text
text_is bits channel = refl

armour_plain : (byte : ℕ) → is_armour byte ≡ true → (byte == 44) ≡ false
armour_plain byte h = grind (arith, nat_tests)

armour_below : (byte : ℕ) → is_armour byte ≡ true → byte < 256
armour_below byte h = grind (arith, nat_tests)

letter_below : (byte : ℕ) → is_ascii_uppercase byte ≡ true → byte < 256
letter_below byte h = grind (arith, nat_tests)

letter_channel : (byte : ℕ) → is_ascii_uppercase byte ≡ true → is_ascii_alphanumeric byte ≡ true
letter_channel byte h = grind (arith, nat_tests)

fill_below : (bits : List Bool) → fill_of bits ≤ 5
fill_below bits = omega arith

talker_form : All (λ byte. IsTrue (is_ascii_uppercase byte || is_ascii_digit byte)) (codes "AI")
talker_form = All-from_recursion (λ byte. IsTrue (is_ascii_uppercase byte || is_ascii_digit byte)) (codes "AI") (refl, (refl, tt))

-- the bytes before the channel, which the sum is over
head_below : AllByRecursion (λ byte. byte < 256) (codes "AIVDM,1,1,,")
head_below = (lit< tt, (lit< tt, (lit< tt, (lit< tt, (lit< tt, (lit< tt, (lit< tt, (lit< tt, (lit< tt, (lit< tt, (lit< tt, tt)))))))))))

sentence_below : (bits : List Bool) (channel : ℕ) → is_ascii_uppercase channel ≡ true → sum_of (sentence_content channel (payload_of bits) (fill_of bits)) < 256
sentence_below bits channel letter =
    let P = λ (byte : ℕ). byte < 256 in
    let payload = payload_of bits in
    let fill = fill_below bits in
    let bytes = All-weaker (λ byte. IsTrue (is_armour byte)) P armour_below payload (payload_armour bits) in
    let middle = All-cons P channel (44 ∷ payload) (letter_below channel letter) (All-cons P 44 payload (lit< tt) bytes) in
    let end = All-cons P 44 ((48 + fill_of bits) ∷ []) (lit< tt) (All-cons P (48 + fill_of bits) [] (omega arith) (All-nil P)) in
    sum_of-below (sentence_content channel payload (fill_of bits))
    (All-append P (codes "AIVDM,1,1,," ++ (channel ∷ 44 ∷ payload)) (44 ∷ (48 + fill_of bits) ∷ [])
    (All-append P (codes "AIVDM,1,1,,") (channel ∷ 44 ∷ payload) (All-from_recursion P (codes "AIVDM,1,1,,") head_below) middle) end)

sum_is : (bits : List Bool) (channel : ℕ) → is_ascii_uppercase channel ≡ true → HasSum (written_text bits channel)
unfolding written_text
sum_is bits channel letter =
    hexadecimal_again (sum_of (sentence_content channel (payload_of bits) (fill_of bits))) (sentence_below bits channel letter)

form_is : (bits : List Bool) (channel : ℕ) → 1 ≤ length bits → is_ascii_uppercase channel ≡ true → HasForm (written_text bits channel)
unfolding written_text
form_is bits channel some letter =
    let fill = fill_below bits in
    let size = payload_size bits in record {
      address = record { two = refl; bytes = talker_form; letter = refl };
      total_from = omega arith;
      total_to = omega arith;
      number_from = omega arith;
      number_to = omega arith;
      seq = record { one = omega arith; each = All-nil (λ byte. IsTrue (is_ascii_digit byte)) };
      channel = record {
        one = omega arith;
        each = All-cons (λ byte. IsTrue (is_ascii_alphanumeric byte)) channel [] (letter_channel channel letter) (All-nil (λ byte. IsTrue (is_ascii_alphanumeric byte)));
      };
      payload_some = omega arith;
      payload_bytes = All-weaker (λ byte. IsTrue (is_armour byte)) (λ byte. (byte == 44) ≡ false) armour_plain (payload_of bits) (payload_armour bits);
      fill_from = omega arith;
      fill_to = omega arith;
      sum_digits = ap is_some (hexadecimal_again (sum_of (sentence_content channel (payload_of bits) (fill_of bits))) (sentence_below bits channel letter));
      suffix = tt;
    }

-- ---- the line

tag_short : (stamp : Option ℕ) → IfSome stamp (λ time. time < 100_000_000_000) → length (tag_text stamp) ≤ 20
tag_short None small = omega arith
tag_short (Some stamp) small =
    let few : length (decimal stamp) ≤ 11 = length-decimal-le 11 stamp (lit< tt) small (omega arith) in
    let content = codes "c:" ++ decimal stamp in
    omega (arith, few, length-append (decimal stamp ++ sum_text content) (92 ∷ []), length-append (decimal stamp) (sum_text content))

sentence_short : (bits : List Bool) (channel : ℕ) → length bits ≤ 360
    → length (33 ∷ sentence_content channel (payload_of bits) (fill_of bits) ++ sum_text (sentence_content channel (payload_of bits) (fill_of bits))) ≤ 200
sentence_short bits channel most =
    let payload = payload_of bits in
    let end = 44 ∷ (48 + fill_of bits) ∷ [] in
    let fill = fill_below bits in
    omega (arith, payload_size bits, length-append (payload ++ end) (sum_text (sentence_content channel payload (fill_of bits))), length-append payload end)

line_is : (stamp : Option ℕ) (bits : List Bool) (channel : ℕ) → 1 ≤ length bits → length bits ≤ 360 → is_ascii_uppercase channel ≡ true → IfSome stamp (λ time. time < 100_000_000_000)
    → IsSentenceLine (line_text stamp channel (payload_of bits) (fill_of bits)) stamp (written_text bits channel)
unfolding written_text
line_is stamp bits channel some most letter small =
    let text = 33 ∷ sentence_content channel (payload_of bits) (fill_of bits) ++ sum_text (sentence_content channel (payload_of bits) (fill_of bits)) in record {
      short = omega (arith, length-append (tag_text stamp) text, tag_short stamp small, sentence_short bits channel most);
      tagged = subst (IsTagged (line_text stamp channel (payload_of bits) (fill_of bits)) stamp) (sym (text_is bits channel)) (tagged stamp _ small);
      form = form_is bits channel some letter;
      sum = sum_is bits channel letter;
      armour = payload_armour bits;
    }

written_fields : List Bool → ℕ → SentenceFields
written_fields bits channel = record { total = 1; number = 1; seq = None; channel = Some channel; payload = payload_of bits; fill = fill_of bits }

fields_are : (bits : List Bool) (channel : ℕ) → written_fields bits channel ≡ fields_of (written_text bits channel)
unfolding written_text written_fields
fields_are bits channel =
    let fill : fill_of bits ≡ 48 + fill_of bits - 48 = omega arith in
    ap (λ (n : ℕ). let f : SentenceFields = record { total = 1; number = 1; seq = None; channel = Some channel; payload = payload_of bits; fill = n } in f) fill

-- the whole line, for the bits of a message
pub written : (stamp : Option ℕ) (bits : List Bool) (channel : ℕ) (line : List ℕ) → 1 ≤ length bits → length bits ≤ 360 → IsTrue (is_ascii_uppercase channel)
    → IfSome stamp (λ time. time < 100_000_000_000) → line ≡ line_text stamp channel (payload_of bits) (fill_of bits) → IsWritten stamp bits channel line
unfolding written_fields
written stamp bits channel line some most letter small e = record {
  payload = payload_of bits;
  filled = payload_bits bits;
  unfilled = payload_unfilled bits;
  text = e;
  reads = (
    written_text bits channel,
    subst (λ (l : List ℕ). IsSentenceLine l stamp (written_text bits channel)) (sym e) (line_is stamp bits channel some most letter small),
    fields_are bits channel,
  );
}
