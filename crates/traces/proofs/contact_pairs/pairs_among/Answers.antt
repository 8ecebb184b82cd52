use Rattle.std.proofs.Common.{◌≡◌, ℕ, ◌+◌, ◌-◌, ◌<◌, ◌≤◌, ◌^◌, List, [], arith, drop, get_or, length, subst, sym, take}
use Rattle.std.proofs.lemmas.List.{drop_all, get_or-drop, length-drop, take_all}
use Rattle.std.proofs.lemmas.List.Elements.{All-drop}
use Rattle.encounters.specs.Directions.{HasDirection}
use Rattle.fixed_geometry.specs.Sizes.{IsBelow}
use Rattle.meetings.specs.declared.pair.Pair.{Pair}
use Rattle.motion.specs.declared.leg.TickState.{TickState}
use Rattle.traces.specs.Audited.{ArePlaced, SeenVessels}
use Rattle.traces.specs.Inner.Pairing.{AreAdded, AreWestToEast, HasPair, HasPairWith}
use Rattle.traces.proofs.AddedPairs.{IsUnderWay, begun, ended, gone_on}
use Rattle.traces.proofs.FoundPairs.{cut}
use Rattle.traces.proofs.contact_pairs.pairs_among.Goals as goal

-- the slice behind a vessel
behind : (vessels : SeenVessels) (n : ℕ) → take (length vessels - n) (drop n vessels) ≡ drop n vessels
behind vessels n = take_all (length vessels - n) (drop n vessels) (omega (arith, length-drop n vessels))

still_placed : (vessels : SeenVessels) (n : ℕ) → ArePlaced vessels → ArePlaced (drop n vessels)
still_placed vessels n placed = All-drop (λ (vessel : ℕ × TickState). IsBelow (2 ^ 33) vessel.1.point × HasDirection vessel.1) n vessels placed

still_in_order : (vessels : SeenVessels) (n : ℕ) → AreWestToEast vessels → AreWestToEast (drop n vessels)
still_in_order vessels n order = λ i j d lt within.
    rw (get_or-drop n vessels i d, get_or-drop n vessels j d) (order (n + i) (n + j) d (omega arith) (omega (arith, length-drop n vessels)))

-- the pairs of a vessel with those behind her are found, and those of the vessels behind her are left
next_vessel : (watch : ℕ) (vessels others : SeenVessels) (k : ℕ) (d : ℕ × TickState) (now after : List Pair) → k < length vessels → others ≡ drop (k + 1) vessels
    → IsUnderWay [] (HasPair watch vessels) now (HasPair watch (drop k vessels)) → AreAdded now (HasPairWith watch (get_or vessels k d) others) after
    → IsUnderWay [] (HasPair watch vessels) after (HasPair watch (drop (k + 1) vessels))
next_vessel watch vessels others k d now after lt same way added =
    gone_on [] (HasPair watch vessels) now (HasPair watch (drop k vessels)) (HasPairWith watch (get_or vessels k d) (drop (k + 1) vessels)) (HasPair watch (drop (k + 1) vessels)) after
    (λ pair h. subst (λ (xs : SeenVessels). HasPair watch xs pair) (cut vessels k d lt) h)
    (λ pair h. subst (λ (xs : SeenVessels). HasPair watch xs pair) (sym (cut vessels k d lt)) h)
    way (subst (λ (xs : SeenVessels). AreAdded now (HasPairWith watch (get_or vessels k d) xs) after) same added)

all_vessels : (watch : ℕ) (vessels : SeenVessels) (k : ℕ) (now : List Pair) → length vessels ≤ k
    → IsUnderWay [] (HasPair watch vessels) now (HasPair watch (drop k vessels)) → AreAdded [] (HasPair watch vessels) now
all_vessels watch vessels k now le way =
    ended [] (HasPair watch vessels) now (HasPair watch (drop k vessels)) way (λ pair h. subst (λ (xs : SeenVessels). HasPair watch xs pair) (drop_all k vessels le) h)

pub loop-index-init : goal.loop-index-init
loop-index-init c = rw c.new-pairs.ensures.items (begun [] (HasPair c.args.watch c.args.vessels.now))

pub add_pairs-requires : goal.add_pairs-requires
add_pairs-requires c =
    let vessels = c.args.vessels.now in
    let next = c.loop-index.index + 1 in
    let same = sym (behind vessels next) in
    record {
      vessel = (c.requires.placed c.loop-index.index _ c.loop-index-test.true).0;
      others = subst ArePlaced same (still_placed vessels next c.requires.placed);
      order = subst AreWestToEast same (still_in_order vessels next c.requires.order);
      watch = c.requires.watch;
    }

pub loop-index-preserved : goal.loop-index-preserved
loop-index-preserved c =
    let vessels = c.args.vessels.now in
    next_vessel c.args.watch vessels _ c.loop-index.index _ c.loop-index.pairs.items c.add_pairs.new.pairs.items
    c.loop-index-test.true (behind vessels (c.loop-index.index + 1)) c.loop-index.invariant c.in_ok-add_pairs.ensures

pub returns : goal.returns
returns c = all_vessels c.args.watch c.args.vessels.now c.loop-index.index c.loop-index.pairs.items c.loop-index-test.false c.loop-index.invariant
