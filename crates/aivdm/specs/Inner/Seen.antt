-- The results of the functions that cut a line, with their slices as lists.
use Rattle.std.specs.Prelude.{ℕ, List, [], Option, Some, None, Result, Ok, Err}
use Rattle.std.specs.List.{slice_split}
use Rattle.std.specs.Prelude.{◌==◌}
use Rattle.std.specs.Borrow.{Bor}
use Rattle.aivdm.specs.Inner.LineCuts.{Cut}
use Rattle.aivdm.specs.Sentences.{SentenceFields, fields_seen}
use Rattle.aivdm.specs.declared.fields.Fields.{Fields}
use Rattle.aivdm.specs.declared.sentence.LineCause.{LineCause}
use Rattle.aivdm.specs.declared.sentence.Sentence.{Sentence}
use Rattle.aivdm.specs.declared.tag_block.Tagged.{Tagged}

abbrev pub tagged_seen : Result Tagged LineCause → Result (Option ℕ × List ℕ) LineCause
tagged_seen (Ok tagged) = Ok (tagged.stamp, tagged.rest.now)
tagged_seen (Err cause) = Err cause

abbrev pub end_seen : Result (ℕ × Bor (List ℕ)) LineCause → Result (ℕ × List ℕ) LineCause
end_seen (Ok end) = Ok (end.0, (end.1).now)
end_seen (Err cause) = Err cause

-- the fields after the first comma, if there is one
abbrev pub parts_left : Option (Bor (List ℕ)) → List (List ℕ)
parts_left None = []
parts_left (Some fields) = slice_split (λ byte. byte == 44) fields.now

abbrev pub behind_seen : Result (Bor (List ℕ)) LineCause → Result (List ℕ) LineCause
behind_seen (Ok rest) = Ok rest.now
behind_seen (Err cause) = Err cause

abbrev pub count_seen : Result (ℕ × ℕ × Bor (List ℕ)) LineCause → Result (ℕ × ℕ × List ℕ) LineCause
count_seen (Ok count) = Ok (count.0, count.1, (count.2).now)
count_seen (Err cause) = Err cause

abbrev pub optional_seen : Result (Option ℕ × Bor (List ℕ)) LineCause → Result (Option ℕ × List ℕ) LineCause
optional_seen (Ok field) = Ok (field.0, (field.1).now)
optional_seen (Err cause) = Err cause

abbrev pub cut_seen : Result Fields LineCause → Result Cut LineCause
cut_seen (Ok fields) = Ok (record { fields = fields_seen fields.sentence; told = fields.told; suffix = fields.suffix.now })
cut_seen (Err cause) = Err cause

abbrev pub sentence_seen : Result Sentence LineCause → Result SentenceFields LineCause
sentence_seen (Ok sentence) = Ok (fields_seen sentence)
sentence_seen (Err cause) = Err cause
