use Rattle.std.proofs.Common.{◌≡◌, ◌∙◌, ap, cond, sym, subst, ℕ, List, [], ◌++◌, ◌∷◌, Some, None, rules}
use Rattle.std.specs.Map.{set_value}
use Rattle.std.specs.Ordering.{is_eq, nat_cmp}
use Rattle.std.specs.Prelude.{nat_le, if◌then◌else◌}
use Rattle.std.proofs.lemmas.Map.Steps.{set_value_same}
use Rattle.std.proofs.lemmas.Result.{on_err_weaker, on_ok_weaker}
use denote.Enum.Bare.{same_false, same_true}
use Rattle.ranks.specs.Standing.{StandsFor, changes_of, rank_after, rank_until}
use Rattle.ranks.specs.VesselRanks.{Note, rank_in, ranks_by_kind}
use Rattle.ranks.specs.contracts.rank.Rank.{the_type}
use Rattle.ranks.specs.declared.change.Change.{Change}
use Rattle.ranks.specs.declared.rank.Rank.{Rank}
use Rattle.ranks.specs.declared.rank.Rank.TheVariants.{Power}
use Rattle.ranks.proofs.Noted.{changes_found, found, none_found, power_as_before, stands_more, stands_same}
use Rattle.ranks.proofs.ranks.Ranks.note.Goals as goal

pub returns-in-Some-clause-stands : goal.returns-in-Some-clause-stands
returns-in-Some-clause-stands c =
    let old : List (ℕ × List Change) = c.self.inside.vessels.entries in
    let known : found old c.args.mmsi ≡ Some c.in-Some.changes.now = sym c.in-Some.ensures.value in
    let written = (c.get_mut.follows.holds c.note.new.self).3 (search rules) in
    on_ok_weaker c.note.result (λ told noted stands.
    stands_more old (c.get_mut.follows.lender c.note.new.self).entries (record { mmsi = c.args.mmsi; time = c.args.time; kind = c.args.kind }) c.note.new.self (λ q. written.0 q)
    (λ t. told t
    ∙ ap (λ (rank : Rank). if nat_le c.args.time t then rank else rank_after c.in-Some.changes.now t) c.rank_of_kind-rank.ensures
    ∙ ap (λ (changes : List Change). if nat_le c.args.time t then rank_in ranks_by_kind c.args.kind else rank_after changes t) (sym (changes_found old c.args.mmsi c.in-Some.changes.now known)))
    noted (subst (λ (vessels : List (ℕ × List Change)). StandsFor vessels noted) (sym c.self.view_is) stands)) c.note.ensures.ok

pub returns-in-Some-clause-same : goal.returns-in-Some-clause-same
returns-in-Some-clause-same c =
    let old : List (ℕ × List Change) = c.self.inside.vessels.entries in
    let known : found old c.args.mmsi ≡ Some c.in-Some.changes.now = sym c.in-Some.ensures.value in
    let written = c.get_mut.follows.holds c.note.new.self in
    on_err_weaker c.note.result (λ same.
    written.0 ∙ ap (λ (changes : List Change). set_value (λ held. is_eq (nat_cmp c.args.mmsi held)) old changes) same
    ∙ set_value_same (λ held. is_eq (nat_cmp c.args.mmsi held)) old c.in-Some.changes.now known ∙ c.self.view_is) c.note.ensures.err

pub returns-then-eq-clause-stands : goal.returns-then-eq-clause-stands
returns-then-eq-clause-stands c = λ noted stands.
    let note : Note = record { mmsi = c.args.mmsi; time = c.args.time; kind = c.args.kind } in
    let old : List (ℕ × List Change) = c.self.inside.vessels.entries in
    let unknown : found old c.args.mmsi ≡ None = sym c.in_default.ensures.value in
    let power : rank_in ranks_by_kind c.args.kind ≡ Power = sym c.rank_of_kind-rank.ensures ∙ same_true the_type (search rules) _ _ (sym c.if-eq.ensures) in
    subst (λ (vessels : List (ℕ × List Change)). StandsFor vessels (noted ++ note ∷ [])) (λ i. (sym c.get_mut.follows.holds-at-none i).entries)
    (stands_same old note unknown power noted (subst (λ (vessels : List (ℕ × List Change)). StandsFor vessels noted) (sym c.self.view_is) stands))

pub returns-clause-stands : goal.returns-clause-stands
returns-clause-stands c = λ noted stands.
    let note : Note = record { mmsi = c.args.mmsi; time = c.args.time; kind = c.args.kind } in
    let old : List (ℕ × List Change) = c.self.inside.vessels.entries in
    let unknown : found old c.args.mmsi ≡ None = sym c.in_default.ensures.value in
    let inserted = c.in_ok-insert.ensures.updates in
    let told = c.in_ok-note.ensures.ok in
    let before : c.new-changes.result ≡ changes_of old c.args.mmsi = c.new-changes.ensures ∙ sym (none_found old c.args.mmsi unknown) in
    stands_more old c.insert.new.self.entries note c.note-2.new.self
    (λ q. inserted.0 q ∙ (λ i. cond (is_eq (nat_cmp c.args.mmsi q)) (Some c.note-2.new.self) (found (c.get_mut.follows.holds-at-none i).entries q)))
    (λ t. told t
    ∙ ap (λ (rank : Rank). if nat_le c.args.time t then rank else rank_after c.new-changes.result t) c.rank_of_kind-rank.ensures
    ∙ ap (λ (changes : List Change). if nat_le c.args.time t then rank_in ranks_by_kind c.args.kind else rank_after changes t) before)
    noted (subst (λ (vessels : List (ℕ × List Change)). StandsFor vessels noted) (sym c.self.view_is) stands)

pub returns-in-Some-clause-known : goal.returns-in-Some-clause-known
returns-in-Some-clause-known c = λ same.
    let old : List (ℕ × List Change) = c.self.inside.vessels.entries in
    let known : found old c.args.mmsi ≡ Some c.in-Some.changes.now = sym c.in-Some.ensures.value in
    c.note.ensures.known (sym (ap (λ (changes : List Change). rank_until changes c.args.time) (changes_found old c.args.mmsi c.in-Some.changes.now known))
    ∙ ap (λ (vessels : List (ℕ × List Change)). rank_until (changes_of vessels c.args.mmsi) c.args.time) c.self.view_is ∙ same ∙ sym c.rank_of_kind-rank.ensures)

pub returns-in_err-note-clause-known : goal.returns-in_err-note-clause-known
returns-in_err-note-clause-known c = λ same.
    absurd (same_false the_type _ _ (sym c.if-eq.ensures) (c.rank_of_kind-rank.ensures
    ∙ power_as_before c.self.inside.vessels.entries c.args.self.now c.args.mmsi c.args.time c.args.kind c.self.view_is (sym c.in_default.ensures.value) same))

pub returns-in_err-insert-clause-known : goal.returns-in_err-insert-clause-known
returns-in_err-insert-clause-known c = λ same.
    absurd (same_false the_type _ _ (sym c.if-eq.ensures) (c.rank_of_kind-rank.ensures
    ∙ power_as_before c.self.inside.vessels.entries c.args.self.now c.args.mmsi c.args.time c.args.kind c.self.view_is (sym c.in_default.ensures.value) same))
