-- The models of a sentence and of a line's content: the payload is a list of bytes.
use Rattle.std.specs.Prelude.{◌≡◌, ℕ, ◌≤◌, List, ◌++◌, length, All, IsTrue, Option, IfSome, Result, Ok, Err}
use Rattle.std.specs.Char.{is_ascii_alphanumeric}
use Rattle.aivdm.specs.PayloadBits.{is_armour}
use Rattle.aivdm.specs.declared.sentence.Sentence.{Sentence}
use Rattle.aivdm.specs.declared.sentence.LineCause.{LineCause}
use Rattle.aivdm.specs.declared.sentence.Body.{Body}
use Rattle.aivdm.specs.declared.sentence.Body.TheVariants as body
use Rattle.aivdm.specs.declared.sentence.Reading.{Reading}

-- a sentence's fields
pub record SentenceFields : Type 0 where
  pub total : ℕ
  pub number : ℕ
  pub seq : Option ℕ
  pub channel : Option ℕ
  pub payload : List ℕ
  pub fill : ℕ

-- the content of a line: its stamp, and its sentence or why it has none
pub record LineContent : Type 0 where
  pub stamp : Option ℕ
  pub body : Result SentenceFields LineCause

-- ---- the model, with the payload as a list

abbrev pub fields_seen : Sentence → SentenceFields
fields_seen s = record { total = s.total; number = s.number; seq = s.seq; channel = s.channel; payload = s.payload.now; fill = s.fill }

abbrev pub body_seen : Body → Result SentenceFields LineCause
body_seen (body.Sentence s) = Ok (fields_seen s)
body_seen (body.Dropped cause) = Err cause

abbrev pub reading_seen : Reading → LineContent
reading_seen r = record { stamp = r.stamp; body = body_seen r.body }

-- P holds of the sentence, if there is one
abbrev pub IfSentence : Body → (Sentence → Type 0) → Type 0
IfSentence (body.Sentence s) P = P s
IfSentence (body.Dropped cause) P = Unit {0}

-- the fields are those of some sentence
pub record IsSentence (s : SentenceFields) : Type 0 where
  pub counted : 1 ≤ s.number
  pub within : s.number ≤ s.total
  pub total_digit : s.total ≤ 9
  pub seq_digit : IfSome s.seq (λ digit. digit ≤ 9)
  pub channel_letter : IfSome s.channel (λ byte. IsTrue (is_ascii_alphanumeric byte))
  pub some_payload : 1 ≤ length s.payload
  pub short_payload : length s.payload ≤ 1024
  pub armoured : All (λ byte. IsTrue (is_armour byte)) s.payload
  pub fill_bits : s.fill ≤ 5

-- the list is a contiguous part of the other one
abbrev pub IsPart : List ℕ → List ℕ → Type 0
IsPart part whole = (front back : List ℕ) × (whole ≡ front ++ (part ++ back))
