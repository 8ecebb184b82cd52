-- The cuts of a sentence against how a sentence is spelled.
use Rattle.std.proofs.Common.{◌≡◌, ◌==◌, ◌&&◌, ◌||◌, ℕ, suc, ◌+◌, ◌-◌, ◌≤◌, Bool, true, false, List, [], ◌∷◌, ◌++◌, length, nat_le, All, IsTrue, Option, Some, None, IsSome, ◌⊎◌, inl, inr, Ok, Err, slice_get, if◌then◌else◌, refl, sym, ap, ◌∙◌, subst, arith, append_assoc, length-append}
use Rattle.std.proofs.lemmas.Bool.{and_parts, eqb-true, ne_eqb, false≢true, leb-true, le-leb, cond-true}
use Rattle.std.proofs.lemmas.List.{take_at}
use Rattle.std.proofs.lemmas.List.Elements.{All-from_recursion}
use Rattle.std.specs.List.{list_all}
use Rattle.std.specs.Option.{option_map}
use Rattle.std.specs.Char.{is_ascii_digit, is_ascii_alphanumeric}
use Rattle.aivdm.specs.Checksums.{sum_of, hexadecimal}
use Rattle.aivdm.specs.Inner.LineCuts.{◌>>=◌, told_or, before_byte, after_byte, is_talker_byte, kind_at, address_at, count_at, after_comma, optional_at, digit_at, letter_at, is_suffix, end_at, Cut, with_end, with_channel, with_seq, with_count, cut_at, summed_in, tested, sentence_at}
use Rattle.aivdm.specs.LineReading.{SentenceText, summed, sentence_text, IsAddress, IsOptional, IsSuffix, HasForm, fields_of, BeginsAsSentence}
use Rattle.aivdm.specs.PayloadBits.{is_armour}
use Rattle.aivdm.specs.Sentences.{SentenceFields}
use Rattle.aivdm.specs.declared.sentence.LineCause.{LineCause}
use Rattle.aivdm.specs.declared.sentence.LineCause.TheVariants.{Other, Form, Sum, Armour}
use Rattle.aivdm.proofs.Cuts.{before-cut, after-cut, cut-whole, before-lacks}
use Rattle.aivdm.proofs.Steps.{bind_ok, bind_at, bind_fails, if_ok, unless_ok, outcome, ok_no_error, FailsBy, FailsBy-bind, FailsBy-if, fails_by, told_from, told-fails}

-- ---- total and number

pub record Counted (bytes : List ℕ) (count : ℕ × ℕ × List ℕ) : Type 0 where
  pub total : ℕ
  pub number : ℕ
  pub split : bytes ≡ total ∷ 44 ∷ number ∷ 44 ∷ count.2
  pub total_from : 49 ≤ total
  pub total_to : total ≤ 57
  pub number_from : 49 ≤ number
  pub number_to : number ≤ total
  pub total_is : count.0 ≡ total - 48
  pub number_is : count.1 ≡ number - 48

six_parts : (a b c d e f : Bool) → (a && b && c && d && e && f) ≡ true → (a ≡ true) × (b ≡ true) × (c ≡ true) × (d ≡ true) × (e ≡ true) × (f ≡ true)
six_parts true true true true true true h = (refl, refl, refl, refl, refl, refl)
six_parts true true true true true false h = absurd cc
six_parts true true true true false f h = absurd cc
six_parts true true true false e f h = absurd cc
six_parts true true false d e f h = absurd cc
six_parts true false c d e f h = absurd cc
six_parts false b c d e f h = absurd cc

pub counted : (bytes : List ℕ) (count : ℕ × ℕ × List ℕ) → count_at bytes ≡ Ok count → Counted bytes count
unfolding count_at
counted [] count e = absurd cc
counted (a ∷ []) count e = absurd cc
counted (a ∷ b ∷ []) count e = absurd cc
counted (a ∷ b ∷ c ∷ []) count e = absurd cc
counted (total ∷ c ∷ number ∷ d ∷ rest) count e =
    let test = nat_le 49 total && nat_le total 57 && (c == 44) && nat_le 49 number && nat_le number total && (d == 44) in
    let passed = if_ok test (Ok (total - 48, number - 48, rest)) Form count e in
    let parts = six_parts (nat_le 49 total) (nat_le total 57) (c == 44) (nat_le 49 number) (nat_le number total) (d == 44) passed.0 in
    let counts : (total - 48, number - 48, rest) ≡ count = cc in
    let c_is : c ≡ 44 = eqb-true c 44 parts.2 in
    let d_is : d ≡ 44 = eqb-true d 44 parts.5 in record {
      total = total;
      number = number;
      split = rw (c_is, d_is) (ap (λ (n : ℕ × ℕ × List ℕ). total ∷ 44 ∷ number ∷ 44 ∷ n.2) counts);
      total_from = leb-true 49 total parts.0;
      total_to = leb-true total 57 parts.1;
      number_from = leb-true 49 number parts.3;
      number_to = leb-true number total parts.4;
      total_is = ap (λ (n : ℕ × ℕ × List ℕ). n.0) (sym counts);
      number_is = ap (λ (n : ℕ × ℕ × List ℕ). n.1) (sym counts);
    }

pub count_again : (total number : ℕ) (rest : List ℕ) → 49 ≤ total → total ≤ 57 → 49 ≤ number → number ≤ total
    → count_at (total ∷ 44 ∷ number ∷ 44 ∷ rest) ≡ Ok (total - 48, number - 48, rest)
unfolding count_at
count_again total number rest a b c d =
    cond-true _ (Ok (total - 48, number - 48, rest)) (Err Form) (rw (le-leb 49 total a, le-leb total 57 b, le-leb 49 number c, le-leb number total d) refl)

pub count-fails : (bytes : List ℕ) → FailsBy Form (count_at bytes)
unfolding count_at
count-fails [] = refl
count-fails (a ∷ []) = refl
count-fails (a ∷ b ∷ []) = refl
count-fails (a ∷ b ∷ c ∷ []) = refl
count-fails (total ∷ c ∷ number ∷ d ∷ rest) = FailsBy-if Form _ (Ok (total - 48, number - 48, rest)) (Err Form) tt refl

-- ---- a field of one byte or none

pub record Optional (test : ℕ → Bool) (value : ℕ → ℕ) (bytes : List ℕ) (read : Option ℕ × List ℕ) : Type 0 where
  pub field : List ℕ
  pub split : bytes ≡ field ++ 44 ∷ read.1
  pub form : IsOptional test field
  pub value_is : read.0 ≡ option_map value (slice_get field 0)

one_byte : (test : ℕ → Bool) (byte : ℕ) → test byte ≡ true → IsOptional test (byte ∷ [])
one_byte test byte passes = record {
  one = omega arith;
  each = λ k d below. let first : k ≡ 0 = omega arith in rw first passes;
}

no_byte : (test : ℕ → Bool) → IsOptional test []
no_byte test = record { one = omega arith; each = λ k d below. absurd (omega arith) }

after : (test : ℕ → Bool) (value : ℕ → ℕ) (byte : ℕ) (rest : List ℕ) (read : Option ℕ × List ℕ) → test byte ≡ true → after_comma (value byte) rest ≡ Ok read → Optional test value (byte ∷ rest) read
after test value byte [] read passes e = absurd cc
after test value byte (comma ∷ rest) read passes e =
    let passed = if_ok (comma == 44) (Ok (Some (value byte), rest)) Form read e in
    let read_is : (Some (value byte), rest) ≡ read = cc in
    let comma_is : comma ≡ 44 = eqb-true comma 44 passed.0 in record {
      field = byte ∷ [];
      split = rw comma_is (ap (λ (r : Option ℕ × List ℕ). byte ∷ 44 ∷ r.1) read_is);
      form = one_byte test byte passes;
      value_is = ap (λ (r : Option ℕ × List ℕ). r.0) (sym read_is);
    }

optional_by : (test : ℕ → Bool) (value : ℕ → ℕ) (byte : ℕ) (rest : List ℕ) (read : Option ℕ × List ℕ) (b t : Bool) → (byte == 44) ≡ b → test byte ≡ t
    → (if b then Ok (None, rest) else (if t then after_comma (value byte) rest else Err Form)) ≡ Ok read → Optional test value (byte ∷ rest) read
optional_by test value byte rest read true t comma tested e =
    let read_is : (None, rest) ≡ read = cc in
    let comma_is : byte ≡ 44 = eqb-true byte 44 comma in record {
      field = [];
      split = rw comma_is (ap (λ (r : Option ℕ × List ℕ). 44 ∷ r.1) read_is);
      form = no_byte test;
      value_is = ap (λ (r : Option ℕ × List ℕ). r.0) (sym read_is);
    }
optional_by test value byte rest read false true comma tested e = after test value byte rest read tested e
optional_by test value byte rest read false false comma tested e = absurd cc

pub optional : (test : ℕ → Bool) (value : ℕ → ℕ) (bytes : List ℕ) (read : Option ℕ × List ℕ) → optional_at test value bytes ≡ Ok read → Optional test value bytes read
optional test value [] read e = absurd cc
optional test value (byte ∷ rest) read e = optional_by test value byte rest read (byte == 44) (test byte) refl refl e

pub optional_again : (test : ℕ → Bool) (value : ℕ → ℕ) (field rest : List ℕ) → test 44 ≡ false → IsOptional test field
    → optional_at test value (field ++ 44 ∷ rest) ≡ Ok (option_map value (slice_get field 0), rest)
optional_again test value [] rest comma form = refl
optional_again test value (byte ∷ []) rest comma form =
    let passes : test byte ≡ true = form.each 0 0 (omega arith) in
    let other : (byte == 44) ≡ false = ne_eqb byte 44 (λ is. false≢true (sym comma ∙ ap test (sym is) ∙ passes)) in
    rw (other, passes) refl
optional_again test value (a ∷ b ∷ field) rest comma form = absurd (omega (arith, form.one))

pub optional-fails : (test : ℕ → Bool) (value : ℕ → ℕ) (bytes : List ℕ) → FailsBy Form (optional_at test value bytes)
optional-fails test value [] = refl
optional-fails test value (byte ∷ rest) =
    FailsBy-if Form (byte == 44) (Ok (None, rest)) (if test byte then after_comma (value byte) rest else Err Form) tt
    (FailsBy-if Form (test byte) (after_comma (value byte) rest) (Err Form) (comma rest) refl)
  where
    comma : (rest : List ℕ) → FailsBy Form (after_comma (value byte) rest)
    comma [] = refl
    comma (c ∷ rest) = FailsBy-if Form (c == 44) (Ok (Some (value byte), rest)) (Err Form) tt refl

-- ---- from the fill on

pub record Ended (bytes : List ℕ) (end : ℕ × ℕ × List ℕ) : Type 0 where
  pub fill : ℕ
  pub high : ℕ
  pub low : ℕ
  pub split : bytes ≡ fill ∷ 42 ∷ high ∷ low ∷ end.2
  pub fill_from : 48 ≤ fill
  pub fill_to : fill ≤ 53
  pub fill_is : end.0 ≡ fill - 48
  pub told_is : hexadecimal high low ≡ Some end.1
  pub suffix : IsSuffix end.2

four_parts : (a b c d : Bool) → (a && b && c && d) ≡ true → (a ≡ true) × (b ≡ true) × (c ≡ true) × (d ≡ true)
four_parts true true true true h = (refl, refl, refl, refl)
four_parts true true true false h = absurd cc
four_parts true true false d h = absurd cc
four_parts true false c d h = absurd cc
four_parts false b c d h = absurd cc

suffix_from : (suffix : List ℕ) → is_suffix suffix ≡ true → IsSuffix suffix
suffix_from [] h = tt
suffix_from (byte ∷ suffix) h = h

suffix_test : (suffix : List ℕ) → IsSuffix suffix → is_suffix suffix ≡ true
suffix_test [] h = refl
suffix_test (byte ∷ suffix) h = h

pub ended : (bytes : List ℕ) (end : ℕ × ℕ × List ℕ) → end_at bytes ≡ Ok end → Ended bytes end
unfolding end_at
ended [] end e = absurd cc
ended (a ∷ []) end e = absurd cc
ended (a ∷ b ∷ []) end e = absurd cc
ended (a ∷ b ∷ c ∷ []) end e = absurd cc
ended (fill ∷ star ∷ high ∷ low ∷ suffix) end e =
    let rest = told_or Form (hexadecimal high low) >>= λ told. Ok (fill - 48, told, suffix) in
    let test = nat_le 48 fill && nat_le fill 53 && (star == 42) && is_suffix suffix in
    let passed = if_ok test rest Form end e in
    let parts = four_parts (nat_le 48 fill) (nat_le fill 53) (star == 42) (is_suffix suffix) passed.0 in
    let step = bind_ok (told_or Form (hexadecimal high low)) (λ told. Ok (fill - 48, told, suffix)) end passed.1 in
    let end_is : (fill - 48, step.0, suffix) ≡ end = cc in
    let star_is : star ≡ 42 = eqb-true star 42 parts.2 in record {
      fill = fill;
      high = high;
      low = low;
      split = rw star_is (ap (λ (r : ℕ × ℕ × List ℕ). fill ∷ 42 ∷ high ∷ low ∷ r.2) end_is);
      fill_from = leb-true 48 fill parts.0;
      fill_to = leb-true fill 53 parts.1;
      fill_is = ap (λ (r : ℕ × ℕ × List ℕ). r.0) (sym end_is);
      told_is = told_from Form (hexadecimal high low) step.0 step.1 ∙ ap (λ (r : ℕ × ℕ × List ℕ). Some r.1) end_is;
      suffix = subst (λ (r : ℕ × ℕ × List ℕ). IsSuffix r.2) end_is (suffix_from suffix parts.3);
    }

pub end_again : (fill high low told : ℕ) (suffix : List ℕ) → 48 ≤ fill → fill ≤ 53 → hexadecimal high low ≡ Some told → IsSuffix suffix
    → end_at (fill ∷ 42 ∷ high ∷ low ∷ suffix) ≡ Ok (fill - 48, told, suffix)
unfolding end_at
end_again fill high low told suffix a b t s =
    let rest = told_or Form (hexadecimal high low) >>= λ told. Ok (fill - 48, told, suffix) in
    let here : rest ≡ Ok (fill - 48, told, suffix) = bind_at (told_or Form (hexadecimal high low)) (λ told. Ok (fill - 48, told, suffix)) told (ap (told_or Form) t) in
    cond-true _ rest (Err Form) (rw (le-leb 48 fill a, le-leb fill 53 b, suffix_test suffix s) refl) ∙ here

pub end-fails : (bytes : List ℕ) → FailsBy Form (end_at bytes)
unfolding end_at
end-fails [] = refl
end-fails (a ∷ []) = refl
end-fails (a ∷ b ∷ []) = refl
end-fails (a ∷ b ∷ c ∷ []) = refl
end-fails (fill ∷ star ∷ high ∷ low ∷ suffix) =
    FailsBy-if Form _ (told_or Form (hexadecimal high low) >>= λ told. Ok (fill - 48, told, suffix)) (Err Form)
    (FailsBy-bind Form (told_or Form (hexadecimal high low)) (λ told. Ok (fill - 48, told, suffix)) (told-fails Form (hexadecimal high low)) (λ told. tt)) refl

-- ---- the address

pub record Addressed (bytes more : List ℕ) : Type 0 where
  pub talker : List ℕ
  pub kind : ℕ
  pub split : bytes ≡ 33 ∷ talker ++ 86 ∷ 68 ∷ kind ∷ 44 ∷ more
  pub form : IsAddress talker kind

two_bytes : (a b : ℕ) → is_talker_byte a ≡ true → is_talker_byte b ≡ true → All (λ byte. IsTrue (is_talker_byte byte)) (a ∷ b ∷ [])
two_bytes a b p q = All-from_recursion (λ byte. IsTrue (is_talker_byte byte)) (a ∷ b ∷ []) (p, (q, tt))

kinds : (mark a b : ℕ) (rest more : List ℕ) → mark ≡ 33 → All (λ byte. IsTrue (is_talker_byte byte)) (a ∷ b ∷ []) → kind_at rest ≡ Ok more → Addressed (mark ∷ a ∷ b ∷ rest) more
unfolding kind_at
kinds mark a b [] more m t e = absurd cc
kinds mark a b (v ∷ []) more m t e = absurd cc
kinds mark a b (v ∷ d ∷ []) more m t e = absurd cc
kinds mark a b (v ∷ d ∷ k ∷ []) more m t e = absurd cc
kinds mark a b (v ∷ d ∷ kind ∷ comma ∷ rest) more m t e =
    let test = (v == 86) && (d == 68) && ((kind == 77) || (kind == 79)) && (comma == 44) in
    let passed = if_ok test (Ok rest) Other more e in
    let parts = four_parts (v == 86) (d == 68) ((kind == 77) || (kind == 79)) (comma == 44) passed.0 in
    let rest_is : rest ≡ more = cc in record {
      talker = a ∷ b ∷ [];
      kind = kind;
      split = rw (m, eqb-true v 86 parts.0, eqb-true d 68 parts.1, eqb-true comma 44 parts.3) (ap (λ (r : List ℕ). 33 ∷ a ∷ b ∷ 86 ∷ 68 ∷ kind ∷ 44 ∷ r) rest_is);
      form = record { two = refl; bytes = t; letter = parts.2 };
    }

pub addressed : (bytes more : List ℕ) → address_at bytes ≡ Ok more → Addressed bytes more
unfolding address_at kind_at
addressed [] more e = absurd cc
addressed (a ∷ []) more e = absurd cc
addressed (a ∷ b ∷ []) more e = absurd cc
addressed (mark ∷ a ∷ b ∷ rest) more e =
    let test = (mark == 33) && is_talker_byte a && is_talker_byte b in
    let passed = if_ok test (kind_at rest) Other more e in
    let last = and_parts ((mark == 33) && is_talker_byte a) (is_talker_byte b) passed.0 in
    let first = and_parts (mark == 33) (is_talker_byte a) last.0 in
    kinds mark a b rest more (eqb-true mark 33 first.0) (two_bytes a b first.1 last.1) passed.1

pub address_again : (talker : List ℕ) (kind : ℕ) (more : List ℕ) → IsAddress talker kind → address_at (33 ∷ talker ++ 86 ∷ 68 ∷ kind ∷ 44 ∷ more) ≡ Ok more
unfolding address_at kind_at
address_again [] kind more form = absurd (omega (arith, form.two))
address_again (a ∷ []) kind more form = absurd (omega (arith, form.two))
address_again (a ∷ b ∷ []) kind more form =
    let first : is_talker_byte a ≡ true = form.bytes 0 0 (omega arith) in
    let second : is_talker_byte b ≡ true = form.bytes 1 0 (omega arith) in
    rw (first, second, form.letter) refl
address_again (a ∷ b ∷ c ∷ talker) kind more form = absurd (omega (arith, form.two))

kind-fails : (bytes : List ℕ) → FailsBy Other (kind_at bytes)
unfolding kind_at
kind-fails [] = refl
kind-fails (v ∷ []) = refl
kind-fails (v ∷ d ∷ []) = refl
kind-fails (v ∷ d ∷ k ∷ []) = refl
kind-fails (v ∷ d ∷ kind ∷ comma ∷ rest) = FailsBy-if Other _ (Ok rest) (Err Other) tt refl

pub address-fails : (bytes : List ℕ) → FailsBy Other (address_at bytes)
unfolding address_at kind_at
address-fails [] = refl
address-fails (a ∷ []) = refl
address-fails (a ∷ b ∷ []) = refl
address-fails (mark ∷ a ∷ b ∷ rest) = FailsBy-if Other _ (kind_at rest) (Err Other) (kind-fails rest) refl

-- ---- the sentence

-- how a sentence is spelled, from left to right
abbrev pub spelled : List ℕ → ℕ → List ℕ → List ℕ
spelled talker kind more = 33 ∷ talker ++ 86 ∷ 68 ∷ kind ∷ 44 ∷ more

abbrev pub fields_spelled : SentenceText → List ℕ
fields_spelled t = t.total ∷ 44 ∷ t.number ∷ 44 ∷ (t.seq ++ 44 ∷ (t.channel ++ 44 ∷ (t.payload ++ 44 ∷ t.fill ∷ 42 ∷ t.high ∷ t.low ∷ t.suffix)))

pub text_spelled : (t : SentenceText) → sentence_text t ≡ spelled t.talker t.kind (fields_spelled t)
text_spelled t = simp append_assoc

-- The cut is of this text.
pub record IsCut (bytes : List ℕ) (cut : Cut) (t : SentenceText) : Type 0 where
  pub split : bytes ≡ sentence_text t
  pub form : HasForm t
  pub fields_are : cut.fields ≡ fields_of t
  pub told_is : hexadecimal t.high t.low ≡ Some cut.told
  pub suffix_is : cut.suffix ≡ t.suffix

some_payload : (payload : List ℕ) → (length payload == 0) ≡ false → 1 ≤ length payload
some_payload [] h = absurd cc
some_payload (byte ∷ payload) h = omega arith

map_same : (o : Option ℕ) → option_map (λ (byte : ℕ). byte) o ≡ o
map_same None = refl
map_same (Some byte) = refl

read_fields : ℕ × ℕ × List ℕ → Option ℕ → Option ℕ → List ℕ → ℕ × ℕ × List ℕ → SentenceFields
read_fields count seq channel payload end =
    record { total = count.0; number = count.1; seq = seq; channel = channel; payload = payload; fill = end.0 }

same_fields : {total total' number number' fill fill' : ℕ} {seq seq' channel channel' : Option ℕ} {payload : List ℕ}
    → total ≡ total' → number ≡ number' → seq ≡ seq' → channel ≡ channel' → fill ≡ fill'
    → (let a : SentenceFields = record { total = total; number = number; seq = seq; channel = channel; payload = payload; fill = fill } in a)
    ≡ record { total = total'; number = number'; seq = seq'; channel = channel'; payload = payload; fill = fill' }
same_fields a b c d e = cc

assembled : (talker : List ℕ) (kind : ℕ) (more : List ℕ) (cut : Cut) (count : ℕ × ℕ × List ℕ) (seq channel : Option ℕ × List ℕ) (end : ℕ × ℕ × List ℕ)
    → IsAddress talker kind → Counted more count → Optional is_ascii_digit (λ byte. byte - 48) count.2 seq → Optional is_ascii_alphanumeric (λ byte. byte) seq.1 channel
    → Ended (after_byte 44 channel.1) end → with_end count seq.0 channel.0 (before_byte 44 channel.1) end ≡ Ok cut
    → (t : SentenceText) × IsCut (spelled talker kind more) cut t
assembled talker kind more cut count seq channel end address c s l n e =
    let payload = before_byte 44 channel.1 in
    let read : Cut = record {
      fields = record { total = count.0; number = count.1; seq = seq.0; channel = channel.0; payload = payload; fill = end.0 };
      told = end.1;
      suffix = end.2;
    } in
    let passed = unless_ok (length payload == 0) (Ok read) Form cut e in
    let cut_is : cut ≡ read = cc in
    let whole : channel.1 ≡ payload ++ 44 ∷ n.fill ∷ 42 ∷ n.high ∷ n.low ∷ end.2
    = cut-whole 44 channel.1 n.fill (42 ∷ n.high ∷ n.low ∷ end.2) n.split in
    let t : SentenceText = record {
      talker = talker;
      kind = kind;
      total = c.total;
      number = c.number;
      seq = s.field;
      channel = l.field;
      payload = payload;
      fill = n.fill;
      high = n.high;
      low = n.low;
      suffix = end.2;
    } in
    let channel_is : channel.0 ≡ slice_get l.field 0 = l.value_is ∙ map_same (slice_get l.field 0) in
    let fields_are : read.fields ≡ fields_of t = same_fields c.total_is c.number_is s.value_is channel_is n.fill_is in
    let fields_left : more ≡ fields_spelled t
    = c.split
    ∙ ap (λ (r : List ℕ). c.total ∷ 44 ∷ c.number ∷ 44 ∷ r) (s.split ∙ ap (λ (r : List ℕ). s.field ++ 44 ∷ r) (l.split ∙ ap (λ (r : List ℕ). l.field ++ 44 ∷ r) whole)) in (
      t,
      record {
        split = ap (spelled talker kind) fields_left ∙ sym (text_spelled t);
        form = record {
          address = address;
          total_from = c.total_from;
          total_to = c.total_to;
          number_from = c.number_from;
          number_to = c.number_to;
          seq = s.form;
          channel = l.form;
          payload_some = some_payload payload passed.0;
          payload_bytes = before-lacks 44 channel.1;
          fill_from = n.fill_from;
          fill_to = n.fill_to;
          sum_digits = rw n.told_is refl;
          suffix = n.suffix;
        };
        fields_are = ap (λ (r : Cut). r.fields) cut_is ∙ fields_are;
        told_is = n.told_is ∙ ap (λ (r : Cut). Some r.told) (sym cut_is);
        suffix_is = ap (λ (r : Cut). r.suffix) cut_is;
      },
    )

pub cut_text : (talker : List ℕ) (kind : ℕ) (more : List ℕ) (cut : Cut) → IsAddress talker kind → cut_at more ≡ Ok cut
    → (t : SentenceText) × IsCut (spelled talker kind more) cut t
unfolding cut_at digit_at letter_at
cut_text talker kind more cut address e =
    let one = bind_ok (count_at more) with_count cut e in
    let two = bind_ok (digit_at (one.0).2) (with_seq one.0) cut one.2 in
    let three = bind_ok (letter_at (two.0).1) (with_channel one.0 (two.0).0) cut two.2 in
    let payload = before_byte 44 (three.0).1 in
    let four = bind_ok (end_at (after_byte 44 (three.0).1)) (with_end one.0 (two.0).0 (three.0).0 payload) cut three.2 in
    assembled talker kind more cut one.0 two.0 three.0 four.0 address
    (counted more one.0 one.1)
    (optional is_ascii_digit (λ byte. byte - 48) (one.0).2 two.0 two.1)
    (optional is_ascii_alphanumeric (λ byte. byte) (two.0).1 three.0 three.1)
    (ended (after_byte 44 (three.0).1) four.0 four.1)
    four.2

pub cut-fails : (bytes : List ℕ) → FailsBy Form (cut_at bytes)
unfolding cut_at digit_at letter_at
cut-fails bytes =
    FailsBy-bind Form (count_at bytes) with_count (count-fails bytes) (λ count.
    FailsBy-bind Form (digit_at count.2) (with_seq count) (optional-fails is_ascii_digit (λ byte. byte - 48) count.2) (λ seq.
    FailsBy-bind Form (letter_at seq.1) (with_channel count seq.0) (optional-fails is_ascii_alphanumeric (λ byte. byte) seq.1) (λ channel.
    FailsBy-bind Form (end_at (after_byte 44 channel.1)) (with_end count seq.0 channel.0 (before_byte 44 channel.1)) (end-fails (after_byte 44 channel.1)) (λ end.
    FailsBy-if Form (length (before_byte 44 channel.1) == 0) (Err Form) _ refl tt))))

-- ---- what is spelled so is cut so

pub text_cut : (t : SentenceText) (told : ℕ) → HasForm t → hexadecimal t.high t.low ≡ Some told
    → cut_at (fields_spelled t) ≡ Ok (record { fields = fields_of t; told = told; suffix = t.suffix })
unfolding cut_at digit_at letter_at
text_cut t told form tells =
    let end_text = t.fill ∷ 42 ∷ t.high ∷ t.low ∷ t.suffix in
    let payload_text = t.payload ++ 44 ∷ end_text in
    let channel_text = t.channel ++ 44 ∷ payload_text in
    let seq_text = t.seq ++ 44 ∷ channel_text in
    let count : ℕ × ℕ × List ℕ = (t.total - 48, t.number - 48, seq_text) in
    let seq : Option ℕ × List ℕ = (option_map (λ (byte : ℕ). byte - 48) (slice_get t.seq 0), channel_text) in
    let channel : Option ℕ × List ℕ = (option_map (λ (byte : ℕ). byte) (slice_get t.channel 0), payload_text) in
    let end : ℕ × ℕ × List ℕ = (t.fill - 48, told, t.suffix) in
    let payload_is : before_byte 44 payload_text ≡ t.payload = before-cut 44 t.payload end_text form.payload_bytes in
    let end_is : end_at (after_byte 44 payload_text) ≡ Ok end
    = ap end_at (after-cut 44 t.payload end_text form.payload_bytes) ∙ end_again t.fill t.high t.low told t.suffix form.fill_from form.fill_to tells form.suffix in
    let some : (length t.payload == 0) ≡ false = ne_eqb (length t.payload) 0 (λ none. absurd (omega (arith, form.payload_some))) in
    bind_at (count_at (fields_spelled t)) with_count count (count_again t.total t.number seq_text form.total_from form.total_to form.number_from form.number_to)
    ∙ bind_at (digit_at seq_text) (with_seq count) seq (optional_again is_ascii_digit (λ byte. byte - 48) t.seq channel_text refl form.seq)
    ∙ bind_at (letter_at channel_text) (with_channel count seq.0) channel (optional_again is_ascii_alphanumeric (λ byte. byte) t.channel payload_text refl form.channel)
    ∙ bind_at (end_at (after_byte 44 payload_text)) (with_end count seq.0 channel.0 (before_byte 44 payload_text)) end end_is
    ∙ rw (payload_is, some, map_same (slice_get t.channel 0)) refl

-- ---- the tests after the form

pub summed_is : (t : SentenceText) → summed_in (sentence_text t) (length t.suffix) ≡ summed t
summed_is t =
    let behind = 42 ∷ t.high ∷ t.low ∷ t.suffix in
    take_at (summed t) behind (suc (length (summed t ++ behind)) - length t.suffix - 3 - 1) (omega (arith, length-append (summed t) behind))

-- what becomes of a sentence of the form
pub text_at : (t : SentenceText) (told : ℕ) → HasForm t → hexadecimal t.high t.low ≡ Some told
    → sentence_at (sentence_text t) ≡ (if told == sum_of (summed t) then (if list_all is_armour t.payload then Ok (fields_of t) else Err Armour) else Err Sum)
unfolding sentence_at
text_at t told form tells =
    let text = sentence_text t in
    let cut : Cut = record { fields = fields_of t; told = told; suffix = t.suffix } in
    bind_at (address_at text) (λ rest. (cut_at rest >>= tested text)) (fields_spelled t)
    (ap address_at (text_spelled t) ∙ address_again t.talker t.kind (fields_spelled t) form.address)
    ∙ bind_at (cut_at (fields_spelled t)) (tested text) cut (text_cut t told form tells)
    ∙ ap (λ (s : List ℕ). if told == sum_of s then (if list_all is_armour t.payload then Ok (fields_of t) else Err Armour) else Err Sum) (summed_is t)

-- ---- the three kinds of rests

pub record IsNoAddress (rest : List ℕ) : Type 0 where
  pub none : ¬ (BeginsAsSentence rest)
  pub read : sentence_at rest ≡ Err Other

pub record IsNoForm (rest : List ℕ) : Type 0 where
  pub begins : BeginsAsSentence rest
  pub none : (t : SentenceText) → rest ≡ sentence_text t → ¬ (HasForm t)
  pub read : sentence_at rest ≡ Err Form

pub record IsText (rest : List ℕ) (t : SentenceText) : Type 0 where
  pub told : ℕ
  pub split : rest ≡ sentence_text t
  pub form : HasForm t
  pub tells : hexadecimal t.high t.low ≡ Some told

some_sum : (o : Option ℕ) → IsSome o → (told : ℕ) × (o ≡ Some told)
some_sum None h = absurd cc
some_sum (Some told) h = (told, refl)

pub begins_at : (rest : List ℕ) → BeginsAsSentence rest → (more : List ℕ) × (address_at rest ≡ Ok more)
begins_at rest (talker, kind, more, address, split) = (more, ap address_at split ∙ address_again talker kind more address)

pub text_begins : (t : SentenceText) → HasForm t → BeginsAsSentence (sentence_text t)
text_begins t form = (t.talker, t.kind, fields_spelled t, form.address, text_spelled t)

no_address : (rest : List ℕ) → address_at rest ≡ Err Other → IsNoAddress rest
unfolding sentence_at
no_address rest e = record {
  none = λ begins. ok_no_error (sym (begins_at rest begins).1 ∙ e);
  read = bind_fails (address_at rest) (λ rest'. (cut_at rest' >>= tested rest)) Other e;
}

no_form : (rest more : List ℕ) → address_at rest ≡ Ok more → cut_at more ≡ Err Form → IsNoForm rest
unfolding sentence_at
no_form rest more a e =
    let address = addressed rest more a in record {
      begins = (address.talker, address.kind, more, address.form, address.split);
      none = λ t split form.
          let sum = some_sum (hexadecimal t.high t.low) form.sum_digits in
          let behind : Ok more ≡ Ok (fields_spelled t)
          = sym a ∙ ap address_at (split ∙ text_spelled t) ∙ address_again t.talker t.kind (fields_spelled t) form.address in
          let same : more ≡ fields_spelled t = cc in
          ok_no_error (sym (text_cut t sum.0 form sum.1) ∙ ap cut_at (sym same) ∙ e);
      read = bind_at (address_at rest) (λ rest'. (cut_at rest' >>= tested rest)) more a ∙ bind_fails (cut_at more) (tested rest) Form e;
    }

is_text : (rest more : List ℕ) (cut : Cut) → address_at rest ≡ Ok more → cut_at more ≡ Ok cut → (t : SentenceText) × IsText rest t
is_text rest more cut a e =
    let address = addressed rest more a in
    let text = cut_text address.talker address.kind more cut address.form e in (
      text.0,
      record { told = cut.told; split = address.split ∙ text.1.split; form = text.1.form; tells = text.1.told_is },
    )

pub rest_kind : (rest : List ℕ) → IsNoAddress rest ⊎ (IsNoForm rest ⊎ ((t : SentenceText) × IsText rest t))
rest_kind rest = by_address (outcome (address_at rest))
  where
    by_cut : (more : List ℕ) → address_at rest ≡ Ok more → ((cut : Cut) × (cut_at more ≡ Ok cut)) ⊎ ((c : LineCause) × (cut_at more ≡ Err c))
        → IsNoAddress rest ⊎ (IsNoForm rest ⊎ ((t : SentenceText) × IsText rest t))
    by_cut more a (inl (cut, e)) = inr (inr (is_text rest more cut a e))
    by_cut more a (inr (c, e)) = inr (inl (no_form rest more a (fails_by Form (cut_at more) c (cut-fails more) e)))

    by_address : ((more : List ℕ) × (address_at rest ≡ Ok more)) ⊎ ((c : LineCause) × (address_at rest ≡ Err c))
        → IsNoAddress rest ⊎ (IsNoForm rest ⊎ ((t : SentenceText) × IsText rest t))
    by_address (inl (more, a)) = by_cut more a (outcome (cut_at more))
    by_address (inr (c, e)) = inl (no_address rest (fails_by Other (address_at rest) c (address-fails rest) e))

-- what the code cuts off a sentence to sum it is there
pub cut_room : (bytes rest : List ℕ) (cut : Cut) → address_at bytes ≡ Ok rest → cut_at rest ≡ Ok cut → length cut.suffix + 4 ≤ length bytes
cut_room bytes rest cut a e =
    let address = addressed bytes rest a in
    let text = cut_text address.talker address.kind rest cut address.form e in
    let t = text.0 in
    let whole : length bytes ≡ length (33 ∷ summed t) + length (42 ∷ t.high ∷ t.low ∷ t.suffix)
    = ap length (address.split ∙ text.1.split) ∙ length-append (33 ∷ summed t) (42 ∷ t.high ∷ t.low ∷ t.suffix) in
    let suffix : length cut.suffix ≡ length t.suffix = ap length text.1.suffix_is in
    omega arith
