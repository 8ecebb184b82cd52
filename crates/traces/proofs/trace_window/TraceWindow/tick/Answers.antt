use Rattle.std.proofs.Common.{◌≡◌, ℕ, ◌+◌, ◌-◌, ◌≤◌, List, ◌∷◌, ◌++◌, [], length, Err, sym, ap, subst, ◌∙◌, arith}
use Rattle.std.specs.Prelude.{All}
use Rattle.outside.proofs.ForCallers.{same_fault}
use Rattle.traces.specs.Audited.{Sighting}
use Rattle.traces.specs.Known.{AreOpened}
use Rattle.traces.specs.Standing.{given_of}
use Rattle.traces.specs.Window.{IsReadyFor}
use Rattle.traces.specs.declared.fault.TickFault.{TickFault}
use Rattle.traces.specs.declared.fault.TickFault.TheVariants.{TooManyPairs}
use Rattle.traces.proofs.NextTick.{known_count}
use Rattle.traces.proofs.Keeping.{whole_written}
use Rattle.traces.proofs.trace_window.TraceWindow.tick.Goals as goal

pub follow_each-requires : goal.follow_each-requires
follow_each-requires g c =
    let sound = c.requires.sound in
    let kept = c.deref_mut.ensures.value in
    record {
      sound = sound.traces;
      ascending = c.requires.ascending;
      placed = c.requires.placed;
      moves = c.requires.moves;
      many = ap (λ (ks : List g.row.K-Kept.Denot). length ks) kept ∙ sound.many;
      few = omega (arith, c.requires.more, sound.traces.window);
      goes_on = sound.goes_on;
      ready = subst (All (IsReadyFor (g.K.TraceKeeper.keeper c.args.self.now.keeper) (given_of c.args.self.now.traces))) (sym kept) sound.ready;
    }

pub tick-requires : goal.tick-requires
tick-requires g c =
    let followed = c.in_ok-follow_each.ensures in
    record {
      sound = followed.sound;
      ascending = c.requires.ascending;
      placed = c.requires.placed;
      more = omega (arith, followed.given, followed.last_tick, c.requires.more);
    }

pub begin_each-requires : goal.begin_each-requires
begin_each-requires g c =
    let sound = c.requires.sound in
    let kept = c.args.self.now.kept in
    let new : List g.row.K-Kept.Denot = c.follow_each.new.kept in
    let given = c.given-given.ensures in
    let followed = c.in_ok-follow_each.ensures in
    let all_new : length new ≡ length kept.items = c.follow_each.ensures.many ∙ ap (λ (ks : List g.row.K-Kept.Denot). length ks) c.deref_mut.ensures.value in
    let written = whole_written kept.len new kept.items (omega (arith, kept.ok.0)) all_new in
    let ready = subst (λ (n : ℕ). All (IsReadyFor (g.K.TraceKeeper.keeper c.follow_each.new.keeper) (n + 1)) new) (sym given) followed.ready in
    record {
      early = omega (arith, given, c.requires.more, sound.traces.window);
      few = omega (arith, ap (λ (ks : List g.row.K-Kept.Denot). length ks) written, all_new, sound.many, followed.traces, c.in_ok-tick.ensures.more);
      goes_on = followed.goes_on;
      ready = subst (All (IsReadyFor (g.K.TraceKeeper.keeper c.follow_each.new.keeper) (c.given-given.result + 1))) (sym written) ready;
    }

pub returns-in_err-tick-clause-many : goal.returns-in_err-tick-clause-many
returns-in_err-tick-clause-many g c = λ fault numbers ticks knowns given s.
    let e = c.given-given.ensures in
    let count = s.stands.count in
    let step_is : c.saturating_sub.result ≡ length ticks - 1 = omega (arith, c.saturating_sub.ensures, e, count) in
    let keeps = subst (λ (n : ℕ). (g.K.TraceKeeper.keeper c.args.self.now.keeper).Stands numbers n c.args.self.now.kept.items [] knowns given) (sym step_is) s.keeps in
    let held = subst (λ (ks : List g.row.K-Kept.Denot). (g.K.TraceKeeper.keeper c.args.self.now.keeper).Stands numbers c.saturating_sub.result ks [] knowns given) (sym c.deref_mut.ensures.value) keeps in
    let st = c.in_ok-follow_each.ensures.stepped numbers ticks knowns given s.are_known s.stands step_is held in
    let same = same_fault c.from_residual-in_err-tick.result c.in_err-tick.field-0.0 TooManyPairs c.from_residual-in_err-tick.ensures.1 fault in
    let err : c.tick.result ≡ Err TooManyPairs = c.in_err-tick.was ∙ ap (λ (f : TickFault). Err f) (sym same) in
    c.tick.ensures.many err numbers ticks knowns st.after s.are_known st.followed st.stands

pub returns-clause-sound : goal.returns-clause-sound
returns-clause-sound g c =
    let now : c.tick.new.self.given ≡ c.given-given.result + 1 = c.in_ok-tick.ensures.given ∙ ap (λ (n : ℕ). n + 1) (c.in_ok-follow_each.ensures.given ∙ sym c.given-given.ensures) in
    let begun = c.in_ok-begin_each.ensures in
    record {
      traces = c.in_ok-tick.ensures.sound;
      goes_on = begun.goes_on;
      many = begun.many;
      ready = subst (λ (n : ℕ). All (IsReadyFor (g.K.TraceKeeper.keeper c.begin_each.new.keeper) n) c.begin_each.new.kept.items) (sym now) begun.ready;
    }

pub returns-clause-takes : goal.returns-clause-takes
returns-clause-takes g c = λ numbers ticks knowns given s.
    let seen : Sighting = record { vessels = c.args.seen.now; ranks = c.args.ranks.now } in
    let e = c.given-given.ensures in
    let count = s.stands.count in
    let step_is : c.saturating_sub.result ≡ length ticks - 1 = omega (arith, c.saturating_sub.ensures, e, count) in
    let keeps = subst (λ (n : ℕ). (g.K.TraceKeeper.keeper c.args.self.now.keeper).Stands numbers n c.args.self.now.kept.items [] knowns given) (sym step_is) s.keeps in
    let held = subst (λ (ks : List g.row.K-Kept.Denot). (g.K.TraceKeeper.keeper c.args.self.now.keeper).Stands numbers c.saturating_sub.result ks [] knowns given) (sym c.deref_mut.ensures.value) keeps in
    let st = c.in_ok-follow_each.ensures.stepped numbers ticks knowns given s.are_known s.stands step_is held in
    let b = c.in_ok-tick.ensures.stands numbers ticks knowns st.after s.are_known st.followed st.stands in
    let kept = c.args.self.now.kept in
    let new : List g.row.K-Kept.Denot = c.follow_each.new.kept in
    let all_new : length new ≡ length kept.items = c.follow_each.ensures.many ∙ ap (λ (ks : List g.row.K-Kept.Denot). length ks) c.deref_mut.ensures.value in
    let written = whole_written kept.len new kept.items (omega (arith, kept.ok.0)) all_new in
    let stepped = subst (λ (ks : List g.row.K-Kept.Denot). (g.K.TraceKeeper.keeper c.follow_each.new.keeper).Stands numbers c.saturating_sub.result ks st.after [] given) (sym written) st.keeps in
    let as_many : length new ≡ length st.after =
    all_new ∙ c.requires.sound.many ∙ (sym c.in_ok-follow_each.ensures.traces ∙ known_count c.follow_each.new.traces numbers ticks st.after st.stands) in
    let at : length ticks ≡ c.given-given.result = sym (e ∙ count) in
    let early : c.saturating_sub.result ≤ c.given-given.result = omega (arith, c.saturating_sub.ensures) in
    let begun = c.in_ok-begin_each.ensures.stands numbers (ticks ++ seen ∷ []) st.after b.new c.saturating_sub.result given b.stands b.are_known.once
    (subst (λ (n : ℕ). AreOpened n b.new) at b.opened) early (ap (λ (ks : List g.row.K-Kept.Denot). length ks) written ∙ as_many) stepped in
    record {
      after = st.after;
      followed = st.followed;
      new = b.new;
      opened = b.opened;
      are_known = b.are_known;
      stands = b.stands;
      keeps = subst (λ (n : ℕ). (g.K.TraceKeeper.keeper c.begin_each.new.keeper).Stands numbers n c.begin_each.new.kept.items st.after b.new given) step_is begun;
    }

pub returns-clause-few : goal.returns-clause-few
returns-clause-few g c = λ numbers ticks knowns given s more.
    let e = c.given-given.ensures in
    let count = s.stands.count in
    let step_is : c.saturating_sub.result ≡ length ticks - 1 = omega (arith, c.saturating_sub.ensures, e, count) in
    let keeps = subst (λ (n : ℕ). (g.K.TraceKeeper.keeper c.args.self.now.keeper).Stands numbers n c.args.self.now.kept.items [] knowns given) (sym step_is) s.keeps in
    let held = subst (λ (ks : List g.row.K-Kept.Denot). (g.K.TraceKeeper.keeper c.args.self.now.keeper).Stands numbers c.saturating_sub.result ks [] knowns given) (sym c.deref_mut.ensures.value) keeps in
    let st = c.in_ok-follow_each.ensures.stepped numbers ticks knowns given s.are_known s.stands step_is held in
    c.in_ok-tick.ensures.few numbers ticks knowns st.after s.are_known st.followed st.stands more
