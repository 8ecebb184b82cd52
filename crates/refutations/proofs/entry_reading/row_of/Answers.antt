use Rattle.std.proofs.Common.{arith}
use Rattle.refutations.proofs.ToldEntries.{all_fields, no_field}
use Rattle.refutations.proofs.entry_reading.row_of.Goals as goal

pub returns-in_err-get : goal.returns-in_err-get
returns-in_err-get c = let long = c.len.ensures in let few = no_field _ _ c.in_err-get.ensures.value in absurd (omega arith)

pub returns-in_err-get-2 : goal.returns-in_err-get-2
returns-in_err-get-2 c = let long = c.len.ensures in let few = no_field _ _ c.in_err-get-2.ensures.value in absurd (omega arith)

pub returns-in_err-get-3 : goal.returns-in_err-get-3
returns-in_err-get-3 c = let long = c.len.ensures in let few = no_field _ _ c.in_err-get-3.ensures.value in absurd (omega arith)

pub returns-in_err-get-4 : goal.returns-in_err-get-4
returns-in_err-get-4 c = let long = c.len.ensures in let few = no_field _ _ c.in_err-get-4.ensures.value in absurd (omega arith)

pub returns-in_err-get-5 : goal.returns-in_err-get-5
returns-in_err-get-5 c = let long = c.len.ensures in let few = no_field _ _ c.in_err-get-5.ensures.value in absurd (omega arith)

pub returns-in_err-get-6 : goal.returns-in_err-get-6
returns-in_err-get-6 c = let long = c.len.ensures in let few = no_field _ _ c.in_err-get-6.ensures.value in absurd (omega arith)

pub returns-in_err-get-7 : goal.returns-in_err-get-7
returns-in_err-get-7 c = let long = c.len.ensures in let few = no_field _ _ c.in_err-get-7.ensures.value in absurd (omega arith)

pub returns : goal.returns
returns c = let long = c.len.ensures in all_fields _ _ _ _ _ _ _ _ (omega arith) c.in_ok-get.ensures.value c.in_ok-get-2.ensures.value c.in_ok-get-3.ensures.value c.in_ok-get-4.ensures.value c.in_ok-get-5.ensures.value c.in_ok-get-6.ensures.value c.in_ok-get-7.ensures.value
