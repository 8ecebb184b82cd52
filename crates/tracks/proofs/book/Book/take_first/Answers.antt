use Rattle.std.proofs.Common.{◌≡◌, ◌∙◌, length, true, false, None, refl, ap, sym, arith}
use Rattle.tracks.specs.AcceptedReports.{JudgingNumbers}
use Rattle.tracks.specs.Standing.{BookValue}
use Rattle.tracks.specs.VesselsHeld.{Sent, entry_at, reported_in}
use Rattle.tracks.specs.Inner.Keeping.{makes_held}
use Rattle.tracks.proofs.Stands.{IsFirst, first_count, first_count_more, first_entry, first_stands}
use Rattle.tracks.proofs.book.Book.take_first.Goals as goal

pub returns-then-not-is_holding-clause-entry : goal.returns-then-not-is_holding-clause-entry
returns-then-not-is_holding-clause-entry c =
    let one : Sent = record { message = c.args.message.now; time = c.args.time } in
    let first : IsFirst c.args.self.now one c.args.at c.args.mmsi =
    record { sender = c.requires.sender; place = c.requires.place; absent = c.requires.absent; more = c.requires.more } in
    let same : c.self.inside.numbers ≡ c.args.self.now.numbers = ap (λ (b : BookValue). b.numbers) c.self.view_is in
    first_entry c.args.self.now one c.args.at c.args.mmsi c.first_entry-entry.result first
    (c.first_entry-entry.ensures ∙ ap (λ (n : JudgingNumbers). entry_at n None (reported_in one)) same)

pub returns-then-not-is_holding-clause-stands : goal.returns-then-not-is_holding-clause-stands
returns-then-not-is_holding-clause-stands c =
    let one : Sent = record { message = c.args.message.now; time = c.args.time } in
    let first : IsFirst c.args.self.now one c.args.at c.args.mmsi =
    record { sender = c.requires.sender; place = c.requires.place; absent = c.requires.absent; more = c.requires.more } in
    let same : c.self.inside.numbers ≡ c.args.self.now.numbers = ap (λ (b : BookValue). b.numbers) c.self.view_is in
    let holding : makes_held c.args.self.now.numbers one ≡ false =
    ap (λ (n : JudgingNumbers). makes_held n one) (sym same) ∙ sym (c.is_holding.ensures c.self.inside.numbers c.args.time c.first_entry-entry.ensures) ∙ c.if-not-is_holding.true in
    first_stands c.args.self.now one c.args.at c.args.mmsi first holding

pub returns-then-not-is_holding-clause-too_many : goal.returns-then-not-is_holding-clause-too_many
returns-then-not-is_holding-clause-too_many c =
    let one : Sent = record { message = c.args.message.now; time = c.args.time } in
    let first : IsFirst c.args.self.now one c.args.at c.args.mmsi =
    record { sender = c.requires.sender; place = c.requires.place; absent = c.requires.absent; more = c.requires.more } in
    let same : c.self.inside.numbers ≡ c.args.self.now.numbers = ap (λ (b : BookValue). b.numbers) c.self.view_is in
    let holding : makes_held c.args.self.now.numbers one ≡ false =
    ap (λ (n : JudgingNumbers). makes_held n one) (sym same) ∙ sym (c.is_holding.ensures c.self.inside.numbers c.args.time c.first_entry-entry.ensures) ∙ c.if-not-is_holding.true in
    let held : length c.self.inside.held.items ≡ length c.args.self.now.held = ap (λ (b : BookValue). length b.held) c.self.view_is in
    λ numbers sent h.
    let count = first_count c.args.self.now one c.args.at c.args.mmsi first holding numbers sent h in
    (λ e. absurd (cc), λ lt. absurd (omega (arith, c.self.invariant.few)))

pub returns-then-len-ge-MOST_VESSELS-clause-too_many : goal.returns-then-len-ge-MOST_VESSELS-clause-too_many
returns-then-len-ge-MOST_VESSELS-clause-too_many c =
    let one : Sent = record { message = c.args.message.now; time = c.args.time } in
    let first : IsFirst c.args.self.now one c.args.at c.args.mmsi =
    record { sender = c.requires.sender; place = c.requires.place; absent = c.requires.absent; more = c.requires.more } in
    let same : c.self.inside.numbers ≡ c.args.self.now.numbers = ap (λ (b : BookValue). b.numbers) c.self.view_is in
    let holding : makes_held c.args.self.now.numbers one ≡ true =
    ap (λ (n : JudgingNumbers). makes_held n one) (sym same) ∙ sym (c.is_holding.ensures c.self.inside.numbers c.args.time c.first_entry-entry.ensures) ∙ c.if-not-is_holding.false in
    let held : length c.self.inside.held.items ≡ length c.args.self.now.held = ap (λ (b : BookValue). length b.held) c.self.view_is in
    λ numbers sent h.
    let count = first_count_more c.args.self.now one c.args.at c.args.mmsi first holding numbers sent h in
    (λ _. omega (arith, c.len.ensures), λ _. refl)

pub returns-in-Ok-clause-entry : goal.returns-in-Ok-clause-entry
returns-in-Ok-clause-entry c =
    let one : Sent = record { message = c.args.message.now; time = c.args.time } in
    let first : IsFirst c.args.self.now one c.args.at c.args.mmsi =
    record { sender = c.requires.sender; place = c.requires.place; absent = c.requires.absent; more = c.requires.more } in
    let same : c.self.inside.numbers ≡ c.args.self.now.numbers = ap (λ (b : BookValue). b.numbers) c.self.view_is in
    first_entry c.args.self.now one c.args.at c.args.mmsi c.first_entry-entry.result first
    (c.first_entry-entry.ensures ∙ ap (λ (n : JudgingNumbers). entry_at n None (reported_in one)) same)

pub returns-in-Ok-clause-too_many : goal.returns-in-Ok-clause-too_many
returns-in-Ok-clause-too_many c =
    let one : Sent = record { message = c.args.message.now; time = c.args.time } in
    let first : IsFirst c.args.self.now one c.args.at c.args.mmsi =
    record { sender = c.requires.sender; place = c.requires.place; absent = c.requires.absent; more = c.requires.more } in
    let same : c.self.inside.numbers ≡ c.args.self.now.numbers = ap (λ (b : BookValue). b.numbers) c.self.view_is in
    let holding : makes_held c.args.self.now.numbers one ≡ true =
    ap (λ (n : JudgingNumbers). makes_held n one) (sym same) ∙ sym (c.is_holding.ensures c.self.inside.numbers c.args.time c.first_entry-entry.ensures) ∙ c.if-not-is_holding.false in
    let held : length c.self.inside.held.items ≡ length c.args.self.now.held = ap (λ (b : BookValue). length b.held) c.self.view_is in
    λ numbers sent h.
    let count = first_count_more c.args.self.now one c.args.at c.args.mmsi first holding numbers sent h in
    (λ e. absurd (cc), λ lt. absurd (omega (arith, c.len.ensures)))

pub returns-in-Err-clause-too_many : goal.returns-in-Err-clause-too_many
returns-in-Err-clause-too_many c =
    let one : Sent = record { message = c.args.message.now; time = c.args.time } in
    let first : IsFirst c.args.self.now one c.args.at c.args.mmsi =
    record { sender = c.requires.sender; place = c.requires.place; absent = c.requires.absent; more = c.requires.more } in
    let same : c.self.inside.numbers ≡ c.args.self.now.numbers = ap (λ (b : BookValue). b.numbers) c.self.view_is in
    let holding : makes_held c.args.self.now.numbers one ≡ true =
    ap (λ (n : JudgingNumbers). makes_held n one) (sym same) ∙ sym (c.is_holding.ensures c.self.inside.numbers c.args.time c.first_entry-entry.ensures) ∙ c.if-not-is_holding.false in
    let held : length c.self.inside.held.items ≡ length c.args.self.now.held = ap (λ (b : BookValue). length b.held) c.self.view_is in
    λ numbers sent h.
    let count = first_count_more c.args.self.now one c.args.at c.args.mmsi first holding numbers sent h in
    (λ e. absurd (cc), λ lt. absurd (omega (arith, c.len.ensures)))
