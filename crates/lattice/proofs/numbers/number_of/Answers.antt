use Rattle.std.proofs.Common.{◌≡◌, ◌*◌, ◌+◌, ◌≤◌, ◌<◌, ◌^◌, ◌∙◌, List, ℕ, length, get_or, take, ap, sym, arith, refl}
use Rattle.std.specs.Int.Digits.{AllBelowBase}
use Rattle.std.proofs.lemmas.List.{take_all}
use Rattle.std.proofs.lemmas.Int.Digits.{number_lt, number_more}
use Rattle.lattice.specs.PlanNumbers.{number_of}
use Rattle.lattice.proofs.Digits.{number_small}
use Rattle.lattice.proofs.numbers.number_of.Goals as goal

-- the number is small, with one more choice too
small : (b i n d : ℕ) (ds : List ℕ) → 0 < b → AllBelowBase b ds → b ^ length ds ≤ 2 ^ 30 → i < length ds → n ≡ number_of b (take i ds) → d ≡ get_or ds i 0
    → n * b + d < 2 ^ 30
small b i n d ds p below few lt is here =
    let next = number_small b (length ds) i ds p (record { count = refl; below = below }) lt in
    rw (is, here) (omega arith)

more : (b i n d : ℕ) (ds : List ℕ) → i < length ds → n ≡ number_of b (take i ds) → d ≡ get_or ds i 0 → n * b + d ≡ number_of b (take (i + 1) ds)
more b i n d ds lt is here = rw (is, here) (sym (number_more b ds i lt))

pub loop-choice-preserved : goal.loop-choice-preserved
loop-choice-preserved c = more c.args.choices c.loop-choice.choice-index _ _ c.args.legs.now c.loop-choice-test.true c.loop-choice.invariant c.from.ensures

pub overflow_mul-number : goal.overflow_mul-number
overflow_mul-number c =
    let h = small c.args.choices c.loop-choice.choice-index _ _ c.args.legs.now c.requires.some_choice c.requires.below c.requires.few_plans c.loop-choice-test.true c.loop-choice.invariant refl in
    omega (arith, h)

pub overflow_add-number : goal.overflow_add-number
overflow_add-number c =
    let h = small c.args.choices c.loop-choice.choice-index _ _ c.args.legs.now c.requires.some_choice c.requires.below c.requires.few_plans c.loop-choice-test.true c.loop-choice.invariant c.from.ensures in
    omega (arith, h)

pub returns-clause-within : goal.returns-clause-within
returns-clause-within c =
    let value : c.loop-choice.number ≡ number_of c.args.choices c.args.legs.now =
    c.loop-choice.invariant ∙ ap (number_of c.args.choices) (take_all c.loop-choice.choice-index c.args.legs.now c.loop-choice-test.false) in
    rw value (number_lt c.args.choices c.args.legs.now c.requires.below)
