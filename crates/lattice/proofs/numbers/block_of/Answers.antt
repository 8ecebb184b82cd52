use Rattle.std.proofs.Common.{◌≡◌, ℕ, ◌+◌, ◌-◌, ◌*◌, ◌<◌, ◌≤◌, ◌^◌, length, arith}
use Rattle.std.proofs.Math.Nat.{one-le-pow}
use Rattle.lattice.proofs.Digits.{few_extensions, block_within}
use Rattle.lattice.proofs.numbers.block_of.Goals as goal

record AreSizes (b k legs n extensions : ℕ) : Type 0 where
  some : 0 < extensions
  number : n < 2 ^ 30
  behind : (n + 1) * extensions ≤ b ^ legs

sizes : (b k legs n extensions : ℕ) → 0 < b → k ≤ legs → b ^ legs ≤ 2 ^ 30 → n < b ^ k → extensions ≡ b ^ (legs - k) → AreSizes b k legs n extensions
sizes b k legs n extensions p le few lt is = record {
  some = rw is (one-le-pow (legs - k) b p);
  number = omega (arith, few_extensions b legs k (2 ^ 30) p le few);
  behind = rw is (block_within b k legs n le lt);
}

pub pow-extensions-requires : goal.pow-extensions-requires
pow-extensions-requires c =
    let h = few_extensions c.args.choices c.args.legs (c.args.legs - length c.args.prefix.now) (2 ^ 30) c.requires.some_choice (omega arith) c.requires.few_plans in
    rw c.from.ensures (omega (arith, h))

pub number_of-number-requires-clause-few_plans : goal.number_of-number-requires-clause-few_plans
number_of-number-requires-clause-few_plans c =
    few_extensions c.args.choices c.args.legs (length c.args.prefix.now) (2 ^ 30) c.requires.some_choice c.requires.few_legs c.requires.few_plans

pub overflow_mul-result : goal.overflow_mul-result
overflow_mul-result c =
    let few = c.requires.few_plans in
    let s = sizes c.args.choices (length c.args.prefix.now) c.args.legs c.number_of-number.result c.pow-extensions.result c.requires.some_choice c.requires.few_legs few c.number_of-number.ensures.within (rw c.from.ensures at c.pow-extensions.ensures) in
    omega (arith, few, s.behind)

pub overflow_add-result : goal.overflow_add-result
overflow_add-result c =
    let s = sizes c.args.choices (length c.args.prefix.now) c.args.legs c.number_of-number.result c.pow-extensions.result c.requires.some_choice c.requires.few_legs c.requires.few_plans c.number_of-number.ensures.within (rw c.from.ensures at c.pow-extensions.ensures) in
    omega (arith, s.number)

pub overflow_mul-result-2 : goal.overflow_mul-result-2
overflow_mul-result-2 c =
    let few = c.requires.few_plans in
    let s = sizes c.args.choices (length c.args.prefix.now) c.args.legs c.number_of-number.result c.pow-extensions.result c.requires.some_choice c.requires.few_legs few c.number_of-number.ensures.within (rw c.from.ensures at c.pow-extensions.ensures) in
    omega (arith, few, s.behind)

pub returns-clause-some : goal.returns-clause-some
returns-clause-some c =
    let s = sizes c.args.choices (length c.args.prefix.now) c.args.legs c.number_of-number.result c.pow-extensions.result c.requires.some_choice c.requires.few_legs c.requires.few_plans c.number_of-number.ensures.within (rw c.from.ensures at c.pow-extensions.ensures) in
    omega (arith, s.some)

pub returns-clause-within : goal.returns-clause-within
returns-clause-within c =
    let s = sizes c.args.choices (length c.args.prefix.now) c.args.legs c.number_of-number.result c.pow-extensions.result c.requires.some_choice c.requires.few_legs c.requires.few_plans c.number_of-number.ensures.within (rw c.from.ensures at c.pow-extensions.ensures) in
    s.behind
