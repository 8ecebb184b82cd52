use Rattle.std.proofs.Common.{◌≡◌, Option, Err, is_some, Bor, List, ℕ, rules, sym, ap, ◌∙◌}
use Rattle.aivdm.specs.Inner.LineCuts.{stamp_among}
use Rattle.aivdm.specs.Inner.Seen.{parts_left}
use Rattle.aivdm.proofs.TagCuts.{plain_stamp, slashed_stamp, stamp_stops, none_from}
use Rattle.aivdm.proofs.tag_block.stamp_in.Goals as goal

pub returns-then-is_some : goal.returns-then-is_some
returns-then-is_some c = sym (slashed_stamp c.args.content.now (ap is_some (sym c.first_of.ensures) ∙ sym c.is_some.ensures ∙ c.if-is_some.true))

pub returns-in_err-time : goal.returns-in_err-time
returns-in_err-time c =
    let none = none_from c.first_of.result (sym c.is_some.ensures ∙ c.if-is_some.false) ∙ c.first_of.ensures in
    let stamp = c.loop-left.stamp in
    let stopped : c.from_residual.result ≡ Err c.in_err-time.field-0.0 = search rules in
    stopped
    ∙ sym (
    plain_stamp c.args.content.now none
    ∙ sym c.loop-left.invariant
    ∙ ap (λ (left : Option (Bor (List ℕ))). stamp_among stamp (parts_left left)) c.in-Some.is
    ∙ ap (stamp_among stamp) c.first_field.ensures
    ∙ stamp_stops stamp c.first_field.result.0.now (parts_left c.first_field.result.1) c.in_err-time.field-0.0 (sym c.time_in.ensures ∙ c.in_err-time.was)
    )

pub returns : goal.returns
returns c =
    let none = none_from c.first_of.result (sym c.is_some.ensures ∙ c.if-is_some.false) ∙ c.first_of.ensures in
    let stamp = c.loop-left.stamp in
    sym (
    plain_stamp c.args.content.now none
    ∙ sym c.loop-left.invariant
    ∙ ap (λ (left : Option (Bor (List ℕ))). stamp_among stamp (parts_left left)) c.in_default.is
    )
