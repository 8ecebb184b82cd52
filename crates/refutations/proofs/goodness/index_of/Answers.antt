use Rattle.std.proofs.Common.{ℕ, ◌≡◌, ◌+◌, ◌-◌, ◌/◌, ◌≤◌, ◌<◌, arith, sym, subst}
use Rattle.plan_situations.specs.declared.situation.Target.{Target}
use Rattle.refutations.proofs.FoundTargets.{above_too, below_too}
use Rattle.refutations.proofs.goodness.index_of.Goals as goal

pub loop-low-preserved-then-found-mmsi-2 : goal.loop-low-preserved-then-found-mmsi-2
loop-low-preserved-then-found-mmsi-2 c =
    let lt = c.loop-low-test.true in
    let within = c.loop-low.invariant.within in
    let T = c.index-targets-middle.result in
    record {
      within = within;
      below = below_too c.args.targets.now c.args.mmsi c.requires (c.loop-low.low + (c.loop-low.high - c.loop-low.low) / 2) T (omega arith) c.index-targets-middle.is
          (subst (λ (t : Target). t.mmsi < c.args.mmsi) (sym c.index-targets-middle.is) c.if-found-mmsi-2.true);
      above = c.loop-low.invariant.above;
    }

pub loop-low-preserved : goal.loop-low-preserved
loop-low-preserved c =
    let lt = c.loop-low-test.true in
    let within = c.loop-low.invariant.within in
    let T = c.index-targets-middle.result in
    let is = sym c.index-targets-middle.is in
    let other : T.mmsi ≡ c.args.mmsi → ⊥ = subst (λ (t : Target). t.mmsi ≡ c.args.mmsi → ⊥) is c.if-found-mmsi.false in
    let not_less : c.args.mmsi ≤ T.mmsi = subst (λ (t : Target). c.args.mmsi ≤ t.mmsi) is c.if-found-mmsi-2.false in
    record {
      within = omega arith;
      below = c.loop-low.invariant.below;
      above = above_too c.args.targets.now c.args.mmsi c.requires (c.loop-low.low + (c.loop-low.high - c.loop-low.low) / 2) T (omega arith) c.index-targets-middle.is
          (greater c.args.mmsi T.mmsi other not_less);
    }
  where
    greater : (a b : ℕ) → (b ≡ a → ⊥) → a ≤ b → a < b
    greater a b differ le = grind arith
