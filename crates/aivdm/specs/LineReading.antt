-- The content of a line of an AIS log (IEC 61162-1:2010, sentences VDM and VDO; NMEA 0183 4.10, TAG block).
use Rattle.std.specs.Prelude.{◌≡◌, ℕ, ◌-◌, ◌≤◌, ◌<◌, Bool, false, ◌||◌, ◌==◌, List, [], ◌∷◌, ◌++◌, length, All, IsTrue, Option, Some, None, IsSome, IfSome, Result, Ok, Err, slice_get}
use Rattle.std.specs.List.{join_with_byte}
use Rattle.std.specs.Option.{option_map}
use Rattle.std.specs.Char.{is_ascii_uppercase, is_ascii_digit, is_ascii_alphanumeric}
use Rattle.aivdm.specs.Checksums.{sum_of, hexadecimal}
use Rattle.aivdm.specs.PayloadBits.{is_armour}
use Rattle.aivdm.specs.Sentences.{SentenceFields, LineContent}
use Rattle.aivdm.specs.TagBlocks.{IsTagged}
use Rattle.aivdm.specs.declared.sentence.LineCause.{LineCause}
use Rattle.aivdm.specs.declared.sentence.LineCause.TheVariants.{Empty, Long, Tag, Other, Form, Sum, Armour}

-- ---- the spelling of a sentence

-- a sentence's bytes, field by field
pub record SentenceText : Type 0 where
  pub talker : List ℕ
  pub kind : ℕ
  pub total : ℕ
  pub number : ℕ
  pub seq : List ℕ
  pub channel : List ℕ
  pub payload : List ℕ
  pub fill : ℕ
  pub high : ℕ
  pub low : ℕ
  pub suffix : List ℕ

-- the bytes of the checksum, strictly between `!` and the `*` after the fill: 86 and 68 are `VD`, 44 is a comma
abbrev pub summed : SentenceText → List ℕ
summed t = join_with_byte 44
    ((t.talker ++ 86 ∷ 68 ∷ t.kind ∷ []) ∷ (t.total ∷ []) ∷ (t.number ∷ []) ∷ t.seq ∷ t.channel ∷ t.payload ∷ (t.fill ∷ []) ∷ [])

-- from `!` (33); the digits of the checksum follow `*` (42), and then an optional suffix
abbrev pub sentence_text : SentenceText → List ℕ
sentence_text t = 33 ∷ summed t ++ 42 ∷ t.high ∷ t.low ∷ t.suffix

-- ---- the form of each field

-- two capital letters or digits, then `VDM` or `VDO`
pub record IsAddress (talker : List ℕ) (kind : ℕ) : Type 0 where
  pub two : length talker ≡ 2
  pub bytes : All (λ byte. IsTrue (is_ascii_uppercase byte || is_ascii_digit byte)) talker
  pub letter : IsTrue ((kind == 77) || (kind == 79))

-- one byte that passes the test, or nothing
pub record IsOptional (test : ℕ → Bool) (field : List ℕ) : Type 0 where
  pub one : length field ≤ 1
  pub each : All (λ byte. IsTrue (test byte)) field

-- nothing, or a comma, a space or a tab and anything
abbrev pub IsSuffix : List ℕ → Type 0
IsSuffix suffix = IfSome (slice_get suffix 0) (λ byte. IsTrue ((byte == 44) || (byte == 32) || (byte == 9)))

-- Each field is well-formed: 48 to 57 are the digits. The total is 1 to 9, the number 1 to the total, the fill 0 to 5.
pub record HasForm (t : SentenceText) : Type 0 where
  pub address : IsAddress t.talker t.kind
  pub total_from : 49 ≤ t.total
  pub total_to : t.total ≤ 57
  pub number_from : 49 ≤ t.number
  pub number_to : t.number ≤ t.total
  pub seq : IsOptional is_ascii_digit t.seq
  pub channel : IsOptional is_ascii_alphanumeric t.channel
  pub payload_some : 1 ≤ length t.payload
  pub payload_bytes : All (λ byte. (byte == 44) ≡ false) t.payload
  pub fill_from : 48 ≤ t.fill
  pub fill_to : t.fill ≤ 53
  pub sum_digits : IsSome (hexadecimal t.high t.low)
  pub suffix : IsSuffix t.suffix

-- The checksum in the sentence is correct.
abbrev pub HasSum : SentenceText → Type 0
HasSum t = hexadecimal t.high t.low ≡ Some (sum_of (summed t))

-- Each byte of the payload stands for six bits.
abbrev pub IsArmoured : List ℕ → Type 0
IsArmoured payload = All (λ byte. IsTrue (is_armour byte)) payload

-- the sentence of the fields
abbrev pub fields_of : SentenceText → SentenceFields
fields_of t = record {
  total = t.total - 48;
  number = t.number - 48;
  seq = option_map (λ digit. digit - 48) (slice_get t.seq 0);
  channel = slice_get t.channel 0;
  payload = t.payload;
  fill = t.fill - 48;
}

-- ---- why a line is not a sentence

-- The rest of a line begins like a VDM or VDO sentence.
abbrev pub BeginsAsSentence : List ℕ → Type 0
BeginsAsSentence rest =
    (talker : List ℕ) × (kind : ℕ) × (more : List ℕ) × IsAddress talker kind × (rest ≡ 33 ∷ talker ++ 86 ∷ 68 ∷ kind ∷ 44 ∷ more)

-- the meaning of each cause; from `tag` on, that some splits of the line do not exist
abbrev pub Applies : LineCause → List ℕ → Type 0
Applies Empty line = line ≡ []
Applies Long line = 1024 < length line
Applies Tag line = (stamp : Option ℕ) (rest : List ℕ) → ¬ (IsTagged line stamp rest)
Applies Other line = (stamp : Option ℕ) (rest : List ℕ) → IsTagged line stamp rest → ¬ (BeginsAsSentence rest)
Applies Form line = (stamp : Option ℕ) (t : SentenceText) → IsTagged line stamp (sentence_text t) → ¬ (HasForm t)
Applies Sum line = (stamp : Option ℕ) (t : SentenceText) → IsTagged line stamp (sentence_text t) → HasForm t → ¬ (HasSum t)
Applies Armour line = (stamp : Option ℕ) (t : SentenceText) → IsTagged line stamp (sentence_text t) → HasForm t → HasSum t → ¬ (IsArmoured t.payload)

-- the order of their tests
abbrev pub causes : List LineCause
causes = Empty ∷ Long ∷ Tag ∷ Other ∷ Form ∷ Sum ∷ Armour ∷ []

-- the first cause that applies
pub record IsFirstCause (cause : LineCause) (line : List ℕ) : Type 0 where
  pub before : List LineCause
  pub after : List LineCause
  pub place : causes ≡ before ++ cause ∷ after
  pub none : All (λ earlier. ¬ (Applies earlier line)) before
  pub applies : Applies cause line

-- A line that is empty, too long, or has a wrong tag block has no stamp. Every other line has the stamp of its tag
-- block.
abbrev pub KeepsStamp : LineCause → List ℕ → Option ℕ → Type 0
KeepsStamp Empty line stamp = stamp ≡ None
KeepsStamp Long line stamp = stamp ≡ None
KeepsStamp Tag line stamp = stamp ≡ None
KeepsStamp Other line stamp = (rest : List ℕ) × IsTagged line stamp rest
KeepsStamp Form line stamp = (rest : List ℕ) × IsTagged line stamp rest
KeepsStamp Sum line stamp = (rest : List ℕ) × IsTagged line stamp rest
KeepsStamp Armour line stamp = (rest : List ℕ) × IsTagged line stamp rest

-- ---- the reading

-- The line is this sentence, after a tag block with this stamp, or none.
pub record IsSentenceLine (line : List ℕ) (stamp : Option ℕ) (t : SentenceText) : Type 0 where
  pub short : length line ≤ 1024
  pub tagged : IsTagged line stamp (sentence_text t)
  pub form : HasForm t
  pub sum : HasSum t
  pub armour : IsArmoured t.payload

abbrev pub IsBody : List ℕ → Option ℕ → Result SentenceFields LineCause → Type 0
IsBody line stamp (Ok fields) = (t : SentenceText) × IsSentenceLine line stamp t × (fields ≡ fields_of t)
IsBody line stamp (Err cause) = IsFirstCause cause line × KeepsStamp cause line stamp

-- the content of a line; each line has exactly one reading
abbrev pub IsReading : List ℕ → LineContent → Type 0
IsReading line content = IsBody line content.stamp content.body
