use Rattle.std.proofs.Common.{◌≡◌, ◌≤◌, ℕ, take, vec_capacity, vec_len}
use Rattle.std.specs.List.{All, filter_map}
use Rattle.motion.specs.TickStates.{IsTickState}
use Rattle.motion.specs.declared.leg.TickState.{TickState}
use Rattle.tracks.specs.SeenVessels.{seen_vessel}
use Rattle.tracks.specs.Standing.{legs_in}
use Rattle.tracks.proofs.book.Book.look.Given as goal

abbrev pub invariant-loop-at : goal.invariant-loop-at
invariant-loop-at l =
    record {
      kept : l.seen.items ≡ filter_map (seen_vessel l.time (legs_in l.self)) (take l.at l.self.held);
      placed : All (λ (vessel : ℕ × TickState). IsTickState 2222400000 vessel.1) l.seen.items;
      few : vec_len l.seen ≤ l.at;
      capacity : vec_capacity l.fn.seen ≤ vec_capacity l.seen;
    }
