use Rattle.std.proofs.Common.{◌≡◌, refl, ap, subst, sym, ◌∙◌, ℕ}
use Rattle.log_lines.specs.JudgedLines.{numbers_of}
use Rattle.log_lines.specs.SentLines.{sent}
use Rattle.log_lines.specs.Standing.{keeping_of}
use Rattle.tracks.specs.SeenVessels.{seen_in}
use Rattle.tracks.specs.Standing.{Remembers}
use Rattle.tracks.specs.declared.keeping.Keeping.{Keeping}
use Rattle.settled_ticks.specs.Standing.{latest_time}
use Rattle.settled_ticks.proofs.MovesLittle.{moves_on}
use Rattle.settled_ticks.proofs.RankedVessels.{sighting_is}
use Rattle.settled_ticks.proofs.Remembering.{remembers_tick}
use Rattle.settled_ticks.proofs.settled_ticks.SettledTicks.hand_out.Goals as goal

-- The book remembers who is seen at the tick.
in_book : (book judge : Keeping) (time at : ℕ) → book ≡ judge → time ≡ at → Remembers judge at → Remembers book time
in_book book judge time at same is remembers = subst (λ (k : Keeping). Remembers k time) (sym same) (subst (Remembers judge) (sym is) remembers)

pub rank_all-requires-clause-remembers : goal.rank_all-requires-clause-remembers
rank_all-requires-clause-remembers c =
    subst (Remembers (keeping_of c.args.judge.now)) (sym c.time-time.ensures) (remembers_tick (keeping_of c.args.judge.now) c.args.scenario.now c.args.self.now.next c.requires.remembers)

pub rank_all-requires-clause-seen : goal.rank_all-requires-clause-seen
rank_all-requires-clause-seen c =
    let scenario = c.args.scenario.now in
    let lines = c.requires.judged.lines in
    let judged = c.requires.judged.judged in
    record {
      scenario = scenario;
      lines = lines;
      judged = judged;
      seen = c.deref.ensures.value
          ∙ c.in_ok-look.ensures.value (in_book _ _ _ _ c.book-book.ensures.keeping c.time-time.ensures (remembers_tick (keeping_of c.args.judge.now) scenario c.args.self.now.next c.requires.remembers))
          (numbers_of scenario) (sent scenario lines) (c.book-book.ensures.stands scenario lines judged);
    }

pub returns-clause-seen : goal.returns-clause-seen
returns-clause-seen c = λ lines judged.
    let scenario = c.args.scenario.now in
    sighting_is scenario (sent scenario lines) c.args.self.now.next c.time-time.result _ _ c.time-time.ensures
    (c.in_ok-look.ensures.value (in_book _ _ _ _ c.book-book.ensures.keeping c.time-time.ensures (remembers_tick (keeping_of c.args.judge.now) scenario c.args.self.now.next c.requires.remembers))
    (numbers_of scenario) (sent scenario lines) (c.book-book.ensures.stands scenario lines judged))
    (rw c.deref.ensures.value at (c.in_ok-rank_all.ensures scenario lines judged))

pub returns-clause-moves : goal.returns-clause-moves
returns-clause-moves c = λ lines judged.
    let scenario = c.args.scenario.now in
    moves_on c.book-book.result.now scenario (sent scenario lines) c.args.self.now.next _ _ c.moves_little.ensures c.requires.in_range
    (subst (λ (k : Keeping). Remembers k (latest_time scenario c.args.self.now.next)) (sym c.book-book.ensures.keeping) c.requires.remembers)
    (c.book-book.ensures.stands scenario lines judged) refl
    (c.in_ok-look.ensures.kept ∙ ap (seen_in c.book-book.result.now) c.time-time.ensures)
