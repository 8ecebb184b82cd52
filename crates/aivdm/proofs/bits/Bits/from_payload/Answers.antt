use Rattle.std.proofs.Common.{◌≡◌, ◌≤◌, ◌∙◌, inl, inr, sym, ap, map, length, arith}
use Rattle.std.proofs.lemmas.Bool.{cases_lt}
use Rattle.std.proofs.lemmas.List.{length-map}
use Rattle.std.specs.List.{refill}
use Rattle.aivdm.specs.PayloadBits.{six_bits}
use Rattle.aivdm.proofs.Payloads.{refill_whole, bits_of-sextets, AreSextets-payload}
use Rattle.aivdm.proofs.bits.Bits.from_payload.Goals as goal

-- the elements after the write
written : (c : goal.After-len) → refill (length c.in-Ok.sextets.items) c.in-Ok.sextets.items c.dearmour.new.payload ≡ map six_bits c.args.payload.now
written c =
    let copied = c.in-Ok.ensures.ok in
    let now : c.dearmour.new.payload ≡ map six_bits c.args.payload.now = c.dearmour.ensures ∙ ap (map six_bits) (c.as_mut_slice.ensures.value ∙ copied) in
    refill_whole c.in-Ok.sextets.items c.dearmour.new.payload (ap length now ∙ length-map c.args.payload.now six_bits ∙ sym (ap length copied)) ∙ now

-- as many as the bytes
count : (c : goal.After-len) → c.len.result ≡ length c.args.payload.now
count c = c.len.ensures.value ∙ ap length (written c) ∙ length-map c.args.payload.now six_bits

room : (c : goal.After-len) → 72 ≤ c.in-Ok.sextets.capacity
room c =
    elim (cases_lt 72 (length c.args.payload.now)) [
      | inl long ↦ let fits = c.len.ensures.fits in omega (arith, count c)
      | inr short ↦ let here = c.in-Ok.ensures.inline short in omega arith
    ]

pub invariant_of-result : goal.invariant_of-result
invariant_of-result c = record {
  sextets_are = rw (written c, count c) (AreSextets-payload c.args.payload.now c.args.fill c.requires.some c.requires.fill c.requires.armoured);
  room = room c;
}

pub returns-clause-bits : goal.returns-clause-bits
returns-clause-bits c = rw (written c, count c) (bits_of-sextets c.args.payload.now c.args.fill)
