-- The bytes of a written line are all visible characters.
use Rattle.std.proofs.Common.{◌≡◌, ℕ, ◌+◌, ◌/◌, ◌%◌, ◌^◌, ◌<◌, ◌≤◌, Bool, true, List, [], ◌∷◌, ◌++◌, All, IsTrue, Some, codes, sym, ◌∙◌, refl, arith}
use Rattle.std.proofs.lemmas.Bool.Decides.{nat_tests}
use Rattle.std.proofs.lemmas.Fmt.{digits_decimal}
use Rattle.std.proofs.lemmas.List.Elements.{All-append, All-cons, All-nil, All-weaker}
use Rattle.std.proofs.lemmas.List.Sums.{AllPass-from_list_all}
use Rattle.std.specs.Char.{is_ascii_digit}
use Rattle.std.specs.Fmt.{decimal}
use Rattle.std.specs.List.{list_all}
use Rattle.std.specs.Prelude.{nat_le}
use Rattle.aivdm.specs.Armouring.{payload_of}
use Rattle.aivdm.specs.Checksums.{sum_of}
use Rattle.aivdm.specs.PayloadBits.{is_armour}
use Rattle.aivdm.specs.SentenceWriting.{fill_of, hexadecimal_digit, line_of, sentence_content, sum_text, tag_text}
use Rattle.aivdm.proofs.Digits.{digits_tests, numerals}
use Rattle.aivdm.proofs.Written.{payload_armour}

abbrev IsVisible : ℕ → Type 0
IsVisible byte = 33 ≤ byte

from_test : (byte : ℕ) → nat_le 33 byte ≡ true → 33 ≤ byte
from_test byte h = grind (arith, nat_tests)

all_visible : (bytes : List ℕ) → list_all (λ byte. nat_le 33 byte) bytes ≡ true → All IsVisible bytes
all_visible bytes h = All-weaker (λ byte. IsTrue (nat_le 33 byte)) IsVisible from_test bytes (AllPass-from_list_all (λ byte. nat_le 33 byte) bytes h)

digit_visible : (byte : ℕ) → is_ascii_digit byte ≡ true → 33 ≤ byte
digit_visible byte h = grind (arith, nat_tests)

armour_visible : (byte : ℕ) → is_armour byte ≡ true → 33 ≤ byte
armour_visible byte h = grind (arith, nat_tests)

hexadecimal_visible : (value : ℕ) → 33 ≤ hexadecimal_digit value
hexadecimal_visible value = grind (arith, nat_tests)

sum_visible : (content : List ℕ) → All IsVisible (sum_text content)
sum_visible content =
    let high = hexadecimal_digit (sum_of content / 16) in
    let low = hexadecimal_digit (sum_of content % 16) in
    All-cons IsVisible 42 (high ∷ low ∷ []) (omega arith)
    (All-cons IsVisible high (low ∷ []) (hexadecimal_visible (sum_of content / 16)) (All-cons IsVisible low [] (hexadecimal_visible (sum_of content % 16)) (All-nil IsVisible)))

time_visible : (time : ℕ) → time < 2 ^ 64 → All IsVisible (codes "c:" ++ decimal time)
time_visible time small =
    let digits = decimal time in
    All-append IsVisible (codes "c:") digits (all_visible (codes "c:") refl)
    (All-weaker (λ byte. IsTrue (is_ascii_digit byte)) IsVisible digit_visible digits
    (AllPass-from_list_all is_ascii_digit digits (sym (digits_tests digits) ∙ digits_decimal numerals time small)))

tag_visible : (time : ℕ) → time < 2 ^ 64 → All IsVisible (tag_text (Some time))
tag_visible time small =
    let content = codes "c:" ++ decimal time in
    let one = All-cons IsVisible 92 content (omega arith) (time_visible time small) in
    let two = All-append IsVisible (92 ∷ content) (sum_text content) one (sum_visible content) in
    All-append IsVisible ((92 ∷ content) ++ sum_text content) (92 ∷ []) two (All-cons IsVisible 92 [] (omega arith) (All-nil IsVisible))

content_visible : (bits : List Bool) → All IsVisible (sentence_content 65 (payload_of bits) (fill_of bits))
content_visible bits =
    let payload = payload_of bits in
    let armoured = All-weaker (λ byte. IsTrue (is_armour byte)) IsVisible armour_visible payload (payload_armour bits) in
    let middle = All-cons IsVisible 65 (44 ∷ payload) (omega arith) (All-cons IsVisible 44 payload (omega arith) armoured) in
    let front = All-append IsVisible (codes "AIVDM,1,1,,") (65 ∷ 44 ∷ payload) (all_visible (codes "AIVDM,1,1,,") refl) middle in
    let fill = All-cons IsVisible 44 ((48 + fill_of bits) ∷ []) (omega arith) (All-cons IsVisible (48 + fill_of bits) [] (omega arith) (All-nil IsVisible)) in
    All-append IsVisible (codes "AIVDM,1,1,," ++ (65 ∷ 44 ∷ payload)) (44 ∷ (48 + fill_of bits) ∷ []) front fill

pub line_visible : (time : ℕ) (bits : List Bool) → time < 2 ^ 64 → All (λ byte. 33 ≤ byte) (line_of (Some time) bits 65)
line_visible time bits small =
    let content = sentence_content 65 (payload_of bits) (fill_of bits) in
    let sentence = All-append IsVisible (33 ∷ content) (sum_text content) (All-cons IsVisible 33 content (omega arith) (content_visible bits)) (sum_visible content) in
    All-append IsVisible (tag_text (Some time)) ((33 ∷ content) ++ sum_text content) (tag_visible time small) sentence
