use Rattle.std.proofs.Common.{◌≡◌, ◌∙◌, ◌==◌, ◌++◌, ◌∷◌, [], List, ℕ, length, map, ap, sym, subst, arith}
use Rattle.std.specs.Fmt.{decimal}
use Rattle.std.specs.List.{slice_split}
use Rattle.refutations.specs.Inner.Readings.{parts_left, AreChoicesIn}
use Rattle.refutations.proofs.WrittenChoices.{all_read, next_choice, none_left, some_read, told_parts}
use Rattle.refutations.proofs.entry_reading.choices_in.Goals as goal

pub returns-then-len-from : goal.returns-then-len-from
returns-then-len-from c = λ prefix h.
    let read = c.loop-left.list.items in
    let left : parts_left c.loop-left.left ≡ slice_split (λ (b : ℕ). b == 46) c.in-Some.rest.now = ap parts_left c.in-Some.is in
    none_left prefix read c.in-Some.rest.now c.args.legs
    (told_parts c.args.text.now c.args.choices c.args.legs prefix c.requires.few h ∙ (sym c.loop-left.invariant.parts ∙ ap (λ (parts : List (List ℕ)). map decimal read ++ parts) left))
    h.few (omega (arith, c.len.ensures.value, c.from.ensures, c.if-len-from.true))

pub returns-in_default-number_in : goal.returns-in_default-number_in
returns-in_default-number_in c = λ prefix h.
    let read = c.loop-left.list.items in
    let left : parts_left c.loop-left.left ≡ c.first_part.result.0.now ∷ parts_left c.first_part.result.1 = ap parts_left c.in-Some.is ∙ c.first_part.ensures in
    let found = next_choice c.args.choices c.requires.few read c.first_part.result.0.now (parts_left c.first_part.result.1) prefix h.below
    (told_parts c.args.text.now c.args.choices c.args.legs prefix c.requires.few h ∙ (sym c.loop-left.invariant.parts ∙ ap (λ (parts : List (List ℕ)). map decimal read ++ parts) left)) in
    let lt = found.1 in
    c.in_default-number_in.ensures found.0 (record { few = omega (arith, c.from-in-Some.ensures); told = found.2 })

pub of-requires-clause-some : goal.of-requires-clause-some
of-requires-clause-some c =
    let read = c.loop-left.list.items in
    let left : parts_left c.loop-left.left ≡ [] = ap parts_left c.in_default.is in
    let some = some_read c.args.text.now read (sym (ap (λ (parts : List (List ℕ)). map decimal read ++ parts) left) ∙ c.loop-left.invariant.parts) in
    omega (arith, ap length c.as_slice.ensures)

pub returns : goal.returns
returns c =
    let read = c.loop-left.list.items in
    let left : parts_left c.loop-left.left ≡ [] = ap parts_left c.in_default.is in
    subst (AreChoicesIn c.args.text.now c.args.choices c.args.legs) (sym (c.of.ensures ∙ c.as_slice.ensures))
    (all_read c.args.text.now read (sym (ap (λ (parts : List (List ℕ)). map decimal read ++ parts) left) ∙ c.loop-left.invariant.parts) c.args.choices c.args.legs c.loop-left.invariant.below c.loop-left.invariant.few)
