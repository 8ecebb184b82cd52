use Rattle.std.proofs.Common.{◌≡◌, ◌≢◌, ◌∙◌, ◌+◌, ◌∷◌, ◌++◌, [], ap, sym, subst, take, rules}
use Rattle.std.specs.Prelude.{List, nat_le, if◌then◌else◌}
use denote.Enum.Bare.{same_false, same_true}
use Rattle.ranks.specs.Standing.{rank_after, rank_until}
use Rattle.ranks.specs.Inner.ChangeOrder.{AreChanges}
use Rattle.ranks.specs.contracts.rank.Rank.{the_type}
use Rattle.ranks.specs.declared.change.Change.{Change}
use Rattle.ranks.proofs.KeptChanges.{front_of_changes, front_tells, more_changes, more_tells, rank_before}
use Rattle.ranks.proofs.Fronts.{take-insert}
use Rattle.ranks.proofs.changes.Changes.note.Goals as goal

pub invariant_of-self : goal.invariant_of-self
invariant_of-self c = rw c.truncate.ensures.items (front_of_changes c.self.inside.changes.items c.changes_before-stay.result c.self.invariant)

-- the changes after one more
more : (c : goal.After-truncate-else-eq) → c.truncate-else-eq.new.self.items
    ≡ take c.changes_before-stay.result c.self.inside.changes.items ++ record { time = c.args.time; rank = c.args.rank } ∷ []
more c =
    let bound = rw c.deref.ensures.value at c.changes_before-stay.ensures.bound in
    let inserted = c.in_ok-insert.ensures.items in
    c.truncate-else-eq.ensures.items ∙ ap (λ (changes : List Change). take (c.changes_before-stay.result + 1) changes) inserted
    ∙ take-insert c.self.inside.changes.items c.changes_before-stay.result _ bound

pub invariant_of-self-else-eq : goal.invariant_of-self-else-eq
invariant_of-self-else-eq c =
    let parts = rw c.deref.ensures.value at c.changes_before-stay.ensures.parts in
    let bound = rw c.deref.ensures.value at c.changes_before-stay.ensures.bound in
    let last = rw c.deref-2.ensures.value at c.last_rank.ensures in
    let other : c.last_rank.result ≢ c.args.rank = same_false the_type _ _ (sym c.if-eq.ensures) in
    subst AreChanges (sym (more c)) (more_changes c.self.inside.changes.items c.args.time c.changes_before-stay.result c.args.rank c.self.invariant parts bound
    (λ e. other (last ∙ sym e)))

pub returns-then-eq-clause-ok : goal.returns-then-eq-clause-ok
returns-then-eq-clause-ok c =
    let parts = rw c.deref.ensures.value at c.changes_before-stay.ensures.parts in
    let bound = rw c.deref.ensures.value at c.changes_before-stay.ensures.bound in
    let last = rw c.deref-2.ensures.value at c.last_rank.ensures in
    let same : c.last_rank.result ≡ c.args.rank = same_true the_type (search rules) _ _ (sym c.if-eq.ensures) in
    let told = front_tells c.self.inside.changes.items c.args.time c.changes_before-stay.result c.args.rank parts bound (sym last ∙ same) in
    λ t. ap (λ (changes : List Change). rank_after changes t) c.truncate.ensures.items ∙ told t
    ∙ ap (λ (changes : List Change). if nat_le c.args.time t then c.args.rank else rank_after changes t) c.self.view_is

pub returns-in_ok-insert-clause-ok : goal.returns-in_ok-insert-clause-ok
returns-in_ok-insert-clause-ok c =
    let parts = rw c.deref.ensures.value at c.changes_before-stay.ensures.parts in
    let bound = rw c.deref.ensures.value at c.changes_before-stay.ensures.bound in
    let told = more_tells c.self.inside.changes.items c.args.time c.changes_before-stay.result c.args.rank parts bound in
    λ t. ap (λ (changes : List Change). rank_after changes t) (more c) ∙ told t
    ∙ ap (λ (changes : List Change). if nat_le c.args.time t then c.args.rank else rank_after changes t) c.self.view_is

pub returns-in_err-insert-clause-known : goal.returns-in_err-insert-clause-known
returns-in_err-insert-clause-known c = λ same.
    let parts = rw c.deref.ensures.value at c.changes_before-stay.ensures.parts in
    let bound = rw c.deref.ensures.value at c.changes_before-stay.ensures.bound in
    let last = rw c.deref-2.ensures.value at c.last_rank.ensures in
    let other : c.last_rank.result ≢ c.args.rank = same_false the_type _ _ (sym c.if-eq.ensures) in
    absurd (other (last ∙ rank_before c.self.inside.changes.items c.args.time c.changes_before-stay.result parts bound
    ∙ ap (λ (changes : List Change). rank_until changes c.args.time) c.self.view_is ∙ same))
