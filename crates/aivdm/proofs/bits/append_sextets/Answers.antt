use Rattle.std.proofs.Common.{rules, ◌++◌, Bool, List, ℕ, take, sym, ap, ◌∙◌, arith, append_assoc, append-nil}
use Rattle.aivdm.specs.BitFields.{binary}
use Rattle.aivdm.specs.PayloadBits.{bits_of}
use Rattle.aivdm.specs.Inner.Sextets.{bits_in}
use Rattle.aivdm.proofs.Payloads.{bits_of-none, bits_of-more}
use Rattle.aivdm.proofs.bits.append_sextets.Goals as goal

pub loop-byte-init : goal.loop-byte-init
loop-byte-init c = record {
  len = omega arith;
  bits =
      sym (ap (λ (bits : List Bool). take c.args.len (bits_in c.args.sextets.now.items) ++ bits) bits_of-none ∙ append-nil (take c.args.len (bits_in c.args.sextets.now.items)));
  sextets = c.requires.sextets;
  room = omega (arith, c.requires.room);
  capacity = search rules;
}

pub append_bits-requires-clause-room : goal.append_bits-requires-clause-room
append_bits-requires-clause-room c =
    let are = c.loop-byte.invariant.sextets in omega (arith, are.enough, are.needed, c.loop-byte.invariant.room)

pub overflow_add-so_far : goal.overflow_add-so_far
overflow_add-so_far c = omega (arith, c.loop-byte.invariant.len, c.requires.small)

pub loop-byte-preserved : goal.loop-byte-preserved
loop-byte-preserved c =
    let i = c.loop-byte.byte-index in
    let payload = c.args.payload.now in
    let front = take c.args.len (bits_in c.args.sextets.now.items) in
    let now = c.loop-byte.invariant.sextets in
    let then = c.append_bits.ensures.sextets in record {
      len = omega (arith, c.loop-byte.invariant.len);
      bits =
          c.append_bits.ensures.bits
          ∙ ap (λ (bits : List Bool). bits ++ binary 6 c.from.result) c.loop-byte.invariant.bits
          ∙ append_assoc front (bits_of (take i payload) 0) (binary 6 c.from.result)
          ∙ ap (λ (bits : List Bool). front ++ bits) (
          ap (λ (n : ℕ). bits_of (take i payload) 0 ++ binary 6 n) (c.from.ensures ∙ c.sextet.ensures.value)
          ∙ sym (bits_of-more payload i c.loop-byte-test.true)
          );
      sextets = then;
      room = omega (arith, now.enough, now.needed, then.enough, then.needed, c.loop-byte.invariant.room, c.append_bits.ensures.capacity);
      capacity = c.append_bits.ensures.capacity ∙ c.loop-byte.invariant.capacity;
    }
