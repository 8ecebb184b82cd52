use Rattle.std.proofs.Common.{◌≡◌, ◌∙◌, ◌++◌, ℕ, Some, None, get_or, ap, subst, sym}
use Rattle.std.specs.Prelude.{Option}
use Rattle.std.specs.List.{All}
use Rattle.std.specs.Option.{option_to_list}
use Rattle.std.proofs.lemmas.List.{append-nil, get_or_default}
use Rattle.std.proofs.lemmas.List.Elements.{All-push}
use Rattle.motion.specs.TickStates.{IsTickState}
use Rattle.motion.specs.declared.leg.TickState.{TickState}
use Rattle.tracks.specs.Standing.{BookValue, legs_in}
use Rattle.tracks.proofs.Seen.{sighted}
use Rattle.tracks.proofs.book.Book.look_at.Goals as goal

pub returns-in_ok-push-clause-more : goal.returns-in_ok-push-clause-more
returns-in_ok-push-clause-more c =
    let book : BookValue = c.args.self.now in
    let mmsi : c.index.result.now ≡ get_or book.held c.args.at 0 =
    c.index.ensures ∙ ap (λ (b : BookValue). get_or b.held c.args.at c.index.result.now) c.self.view_is
    ∙ get_or_default book.held c.args.at c.index.result.now 0 c.requires in
    c.in_ok-push.ensures.items
    ∙ ap (λ (o : Option (ℕ × TickState)). c.args.seen.now.items ++ option_to_list o)
    (ap (λ (m : ℕ). Some (m, c.in-Some.state)) mmsi
    ∙ sighted c.args.time (get_or book.held c.args.at 0) (legs_in book) c.legs_at.result.now (Some c.in-Some.state) c.legs_at.ensures.value c.in-Some.ensures.value)

pub returns-in_ok-push-clause-placed : goal.returns-in_ok-push-clause-placed
returns-in_ok-push-clause-placed c = λ all.
    subst (All (λ (vessel : ℕ × TickState). IsTickState 2222400000 vessel.1)) (sym c.in_ok-push.ensures.items)
    (All-push (λ (vessel : ℕ × TickState). IsTickState 2222400000 vessel.1) c.args.seen.now.items _ all c.in-Some.ensures.state)

pub returns-in_default-clause-more : goal.returns-in_default-clause-more
returns-in_default-clause-more c =
    let book : BookValue = c.args.self.now in
    sym (append-nil c.args.seen.now.items)
    ∙ ap (λ (o : Option (ℕ × TickState)). c.args.seen.now.items ++ option_to_list o)
    (sighted c.args.time (get_or book.held c.args.at 0) (legs_in book) c.legs_at.result.now None c.legs_at.ensures.value c.in_default.ensures.value)
