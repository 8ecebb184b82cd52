use Rattle.std.proofs.Common.{◌++◌, ◌-◌, List, ℕ, length, sym, ap, ◌∙◌, arith, append_assoc, length-append}
use Rattle.aivdm.specs.Inner.Sextets.{sextets_of}
use Rattle.aivdm.proofs.Appended.{sextets_of-pred, sextets_of-none}
use Rattle.aivdm.proofs.bits.push_sextets.Goals as goal

pub loop-left-preserved : goal.loop-left-preserved
loop-left-preserved c =
    let left = c.loop-left.left in
    let items = c.loop-left.sextets.items in
    let pushed = c.push_reserved.ensures.items in record {
      few = omega (arith, c.loop-left.invariant.few);
      items =
          ap (λ (xs : List ℕ). xs ++ sextets_of (left - 1) c.args.number) pushed
          ∙ append_assoc items _ (sextets_of (left - 1) c.args.number)
          ∙ ap (λ (xs : List ℕ). items ++ xs) (sym (sextets_of-pred left c.args.number c.loop-left-test.true))
          ∙ c.loop-left.invariant.items;
      room = omega (arith, ap length pushed, length-append {A = ℕ}, c.loop-left.invariant.room, c.push_reserved.ensures.capacity);
      capacity = c.push_reserved.ensures.capacity ∙ c.loop-left.invariant.capacity;
    }

pub returns-clause-items : goal.returns-clause-items
returns-clause-items c =
    sym (sextets_of-none c.loop-left.sextets.items c.loop-left.left c.args.number c.loop-left-test.false) ∙ c.loop-left.invariant.items
