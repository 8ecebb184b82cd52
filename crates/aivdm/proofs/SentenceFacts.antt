-- What the form of a line's sentence makes of its fields.
use Rattle.std.proofs.Common.{◌≡◌, ℕ, ◌-◌, ◌≤◌, true, List, [], ◌∷◌, ◌++◌, length, IsTrue, Option, inl, inr, IfSome, Ok, slice_get, refl, sym, ap, ◌∙◌, subst, arith, append_assoc, length-append}
use Rattle.std.proofs.lemmas.Bool.Decides.{nat_tests}
use Rattle.std.specs.Char.{is_ascii_digit, is_ascii_alphanumeric}
use Rattle.std.specs.Option.{option_map}
use Rattle.aivdm.specs.LineReading.{SentenceText, sentence_text, IsOptional, fields_of, IsSentenceLine, IsBody, IsReading}
use Rattle.aivdm.specs.Sentences.{SentenceFields, LineContent, fields_seen, body_seen, reading_seen, IfSentence, IsSentence, IsPart}
use Rattle.aivdm.specs.declared.sentence.Body.{Body}
use Rattle.aivdm.specs.declared.sentence.Body.TheVariants as body
use Rattle.aivdm.specs.declared.sentence.Reading.{Reading}
use Rattle.aivdm.specs.declared.sentence.Sentence.{Sentence}
use Rattle.aivdm.specs.TagBlocks.{IsTagged, block_text}
use Rattle.aivdm.proofs.SentenceCuts.{text_spelled}

digit_seq : (seq : List ℕ) → IsOptional is_ascii_digit seq → IfSome (option_map (λ digit. digit - 48) (slice_get seq 0)) (λ digit. digit ≤ 9)
digit_seq [] form = tt
digit_seq (digit ∷ seq) form = small digit (form.each 0 0 (omega arith))
  where
    small : (digit : ℕ) → is_ascii_digit digit ≡ true → digit - 48 ≤ 9
    small digit h = grind (arith, nat_tests)

letter_channel : (channel : List ℕ) → IsOptional is_ascii_alphanumeric channel → IfSome (slice_get channel 0) (λ byte. IsTrue (is_ascii_alphanumeric byte))
letter_channel [] form = tt
letter_channel (letter ∷ channel) form = form.each 0 0 (omega arith)

-- what precedes the payload, and what follows it
front_of : SentenceText → List ℕ
front_of t = 33 ∷ t.talker ++ 86 ∷ 68 ∷ t.kind ∷ 44 ∷ t.total ∷ 44 ∷ t.number ∷ 44 ∷ (t.seq ++ 44 ∷ (t.channel ++ 44 ∷ []))

back_of : SentenceText → List ℕ
back_of t = 44 ∷ t.fill ∷ 42 ∷ t.high ∷ t.low ∷ t.suffix

payload_in : (t : SentenceText) → sentence_text t ≡ front_of t ++ (t.payload ++ back_of t)
unfolding front_of back_of
payload_in t = text_spelled t ∙ sym (simp append_assoc)

rest_in : (line : List ℕ) (stamp : Option ℕ) (rest : List ℕ) → IsTagged line stamp rest → (tag : List ℕ) × (line ≡ tag ++ rest)
rest_in line stamp rest (inl none) = ([], sym none.whole)
rest_in line stamp rest (inr (block, has)) = (block_text block, has.split)

part_of : (line : List ℕ) (stamp : Option ℕ) (t : SentenceText) → IsTagged line stamp (sentence_text t) → IsPart t.payload line
part_of line stamp t tagged =
    let tag = rest_in line stamp (sentence_text t) tagged in
    (tag.0 ++ front_of t, back_of t, tag.1 ∙ ap (λ (r : List ℕ). tag.0 ++ r) (payload_in t) ∙ sym (append_assoc tag.0 (front_of t) (t.payload ++ back_of t)))

part_short : (part whole : List ℕ) → IsPart part whole → length part ≤ length whole
part_short part whole (front, back, e) = omega (arith, ap length e, length-append front (part ++ back), length-append part back)

sentence_of_line : (line : List ℕ) (stamp : Option ℕ) (t : SentenceText) → IsSentenceLine line stamp t → IsSentence (fields_of t)
sentence_of_line line stamp t is =
    let form = is.form in
    let payload = part_short t.payload line (part_of line stamp t is.tagged) in
    let a = form.total_from in
    let b = form.total_to in
    let c = form.number_from in
    let d = form.number_to in
    let e = form.fill_to in
    let short = is.short in record {
      counted = omega arith;
      within = omega arith;
      total_digit = omega arith;
      seq_digit = digit_seq t.seq form.seq;
      channel_letter = letter_channel t.channel form.channel;
      some_payload = form.payload_some;
      short_payload = omega arith;
      armoured = is.armour;
      fill_bits = omega arith;
    }

-- the sentence that is read of a line
pub sentence_facts : (line : List ℕ) (content : LineContent) (fields : SentenceFields) → IsReading line content → content.body ≡ Ok fields → IsSentence fields × IsPart fields.payload line
sentence_facts line content fields reading e = facts (subst (IsBody line content.stamp) e reading)
  where
    facts : IsBody line content.stamp (Ok fields) → IsSentence fields × IsPart fields.payload line
    facts (t, is, same) =
        subst (λ (f : SentenceFields). IsSentence f × IsPart f.payload line) (sym same) (sentence_of_line line content.stamp t is, part_of line content.stamp t is.tagged)

pub if_sentence : (line : List ℕ) (r : Reading) → IsReading line (reading_seen r) → (P : Sentence → Type 0)
    → ((s : Sentence) → IsSentence (fields_seen s) × IsPart s.payload.now line → P s) → IfSentence r.body P
if_sentence line r reading P then = by_body r.body refl
  where
    by_body : (b : Body) → r.body ≡ b → IfSentence b P
    by_body (body.Sentence s) e = then s (sentence_facts line (reading_seen r) (fields_seen s) reading (ap body_seen e))
    by_body (body.Dropped cause) e = tt
