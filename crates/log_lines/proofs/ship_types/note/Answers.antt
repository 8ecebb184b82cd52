use Rattle.std.proofs.Common.{◌≡◌, ◌∙◌, ap, subst, sym, ℕ, List, None, Some}
use Rattle.std.specs.Prelude.{Option, option_and_then}
use Rattle.std.specs.Option.{option_map}
use Rattle.std.proofs.lemmas.Result.{on_ok_weaker}
use Rattle.ranks.specs.VesselRanks.{Note}
use Rattle.ranks.specs.declared.change.Change.{Change}
use Rattle.log_lines.specs.ShipTypes.{AreNoted, note_in, note_told}
use Rattle.log_lines.specs.declared.told_static.ToldStatic.{ToldStatic}
use Rattle.log_lines.proofs.Noting.{note_more, nothing_noted}
use Rattle.log_lines.proofs.ship_types.note.Goals as goal

pub returns-in_default-told : goal.returns-in_default-told
returns-in_default-told c = λ ranked messages one told are.
    let none : note_in one ≡ None = ap (option_and_then note_told) (sym told ∙ c.in_default-told.is) in
    nothing_noted ranked (Some c.in-Some.ranks) messages one none
    (subst (λ (kept : Option (List (ℕ × List Change))). AreNoted ranked kept messages) c.in-Some.is are)

pub returns-in-Some-kind : goal.returns-in-Some-kind
returns-in-Some-kind c =
    let static : ToldStatic = c.in-Some-told.told in
    let note : Note = record { mmsi = static.mmsi; time = static.time; kind = c.in-Some-kind.kind } in
    on_ok_weaker c.note.result (λ more ranked messages one told are.
    let is : note_in one ≡ Some note =
    ap (option_and_then note_told) (sym told ∙ c.in-Some-told.is)
    ∙ ap (option_map (λ (kind : ℕ). record { mmsi = static.mmsi; time = static.time; kind = kind })) c.in-Some-kind.is in
    note_more ranked c.in-Some.ranks c.note.new.self messages one note is more
    (subst (λ (kept : Option (List (ℕ × List Change))). AreNoted ranked kept messages) c.in-Some.is are)) c.note.ensures.stands

pub returns-in-None : goal.returns-in-None
returns-in-None c = λ ranked messages one told are.
    let static : ToldStatic = c.in-Some-told.told in
    let none : note_in one ≡ None =
    ap (option_and_then note_told) (sym told ∙ c.in-Some-told.is)
    ∙ ap (option_map (λ (kind : ℕ). record { mmsi = static.mmsi; time = static.time; kind = kind })) c.in-None.is in
    nothing_noted ranked (Some c.in-Some.ranks) messages one none
    (subst (λ (kept : Option (List (ℕ × List Change))). AreNoted ranked kept messages) c.in-Some.is are)
