use Rattle.std.proofs.Common.{ℕ, List, ◌≡◌, ◌∙◌, ◌*◌, ◌-◌, ◌^◌, arith, ap, subst}
use Rattle.lattice.specs.Grids.{choices_of, plans_of}
use Rattle.plan_situations.specs.declared.situation.Situation.{Situation}
use Rattle.refutation_search.specs.Inner.Walks.{first_extension, IsWalkedTo}
use Rattle.refutations.specs.declared.entry.WhyEntry.{WhyEntry}
use Rattle.refutation_search.proofs.Walking.{walked_canonical, walked_entries, walked_right}
use Rattle.refutation_search.proofs.explaining.explain.Goals as goal

walked : (s : Situation) (xs : List WhyEntry) → IsWalkedTo s xs (first_extension s 0 1) → IsWalkedTo s xs (plans_of s.lattice)
walked s xs h =
    let whole : s.lattice.legs - 0 ≡ s.lattice.legs = omega arith in
    let one : 1 * choices_of s.lattice ^ s.lattice.legs ≡ choices_of s.lattice ^ s.lattice.legs = omega arith in
    let end : first_extension s 0 1 ≡ plans_of s.lattice = ap (λ (k : ℕ). 1 * choices_of s.lattice ^ k) whole ∙ one in
    subst (IsWalkedTo s xs) end h

pub returns-then-branch-clause-none : goal.returns-then-branch-clause-none
returns-then-branch-clause-none c =
    let s = c.args.situation.now in
    let xs = c.explore-whole.new.list.items in
    let to_end = walked s xs (c.in_ok-whole.ensures.list c.if-branch.true) in
    let fail = c.a_right_list_refutes.ensures xs (walked_entries s xs (plans_of s.lattice) to_end) (walked_right s xs to_end) in
    (λ impossible. cc, λ some. absurd (some.passes (fail some.number some.known)))

pub returns-then-branch-clause-entries : goal.returns-then-branch-clause-entries
returns-then-branch-clause-entries c = walked_entries c.args.situation.now c.explore-whole.new.list.items (plans_of c.args.situation.now.lattice) (walked c.args.situation.now c.explore-whole.new.list.items (c.in_ok-whole.ensures.list c.if-branch.true))

pub returns-then-branch-clause-list : goal.returns-then-branch-clause-list
returns-then-branch-clause-list c = walked_canonical c.args.situation.now c.requires.some_choice c.explore-whole.new.list.items (walked c.args.situation.now c.explore-whole.new.list.items (c.in_ok-whole.ensures.list c.if-branch.true))

pub returns-then-branch-clause-right : goal.returns-then-branch-clause-right
returns-then-branch-clause-right c = walked_right c.args.situation.now c.explore-whole.new.list.items (walked c.args.situation.now c.explore-whole.new.list.items (c.in_ok-whole.ensures.list c.if-branch.true))
