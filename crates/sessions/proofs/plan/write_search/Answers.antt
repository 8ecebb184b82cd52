use Rattle.std.proofs.Common.{◌≡◌, ◌∙◌, ap, sym, subst, Err, true}
use Rattle.std.specs.Option.{option_copied}
use Rattle.std.specs.List.{All}
use Rattle.outside.proofs.ForCallers.{err_cause}
use Rattle.log_lines.specs.JudgedLines.{numbers_of}
use Rattle.plan_situations.specs.Preparing.{IsPrepared}
use Rattle.plan_situations.specs.declared.near.Near.{Near}
use Rattle.tracks.specs.VesselsHeld.{is_held}
use Rattle.plan_situations.specs.declared.situation.Situation.{Situation}
use Rattle.sessions.specs.Inner.PlanWriting.{SoughtCause}
use Rattle.sessions.proofs.Seeking.{all_fail, none_is, own_of, search_cause, sought}
use Rattle.sessions.proofs.plan.write_search.Goals as goal

pub returns-in_err-prepared-clause-cause : goal.returns-in_err-prepared-clause-cause
returns-in_err-prepared-clause-cause c =
    err_cause _ _ _ c.from_residual.ensures.1 (λ messages stands. search_cause c.args.scenario messages c.in_err-prepared.field-0.0
    (λ why is. c.in_err-prepared.ensures.unready why (ap Err is) (numbers_of c.args.scenario) messages stands)
    (λ is. c.in_err-prepared.ensures.many (ap Err is) (numbers_of c.args.scenario) messages stands))

pub returns-in-Err-clause-cause : goal.returns-in-Err-clause-cause
returns-in-Err-clause-cause c = λ messages stands. subst (SoughtCause c.args.scenario messages) (sym c.into.ensures) tt

pub returns-in-Ok-clause-fail : goal.returns-in-Ok-clause-fail
returns-in-Ok-clause-fail c = λ none.
    let found = c.in_ok-search in
    all_fail c.in_ok-prepared.prepared.situation _ found.plan c.is_none-none.result found.ensures.situation (none_is found.plan c.is_none-none.result c.is_none-none.ensures) none found.ensures.manoeuvre

pub returns-in-Ok-clause-sought : goal.returns-in-Ok-clause-sought
returns-in-Ok-clause-sought c = λ messages front few stands has.
    let scenario = c.args.scenario in
    let prepared = c.in_ok-prepared.prepared in
    let is = c.in_ok-prepared.ensures.prepared (numbers_of scenario) messages stands in
    let own = own_of scenario.own (λ own. IsPrepared (numbers_of scenario) messages scenario own prepared) c.requires.own is in
    let found = c.in_ok-search in
    let held = subst (All (λ (v : Near). is_held (numbers_of scenario) messages v.mmsi ≡ true)) (sym c.deref.ensures.value) own.holds.held in
    sought scenario messages front c.write_sought-written.new.text prepared _ c.situation.result.now.lattice found.plan (option_copied c.as_ref.result) c.is_none-none.result
    found.ensures.situation c.requires.own is found.ensures.manoeuvre
    (ap (λ (s : Situation). s.lattice) (c.situation.ensures ∙ found.ensures.situation)) c.as_ref.ensures.value (none_is found.plan c.is_none-none.result c.is_none-none.ensures)
    (rw c.deref.ensures.value at (c.in-Ok.ensures (numbers_of scenario) messages front few stands held has))
