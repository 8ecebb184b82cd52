use Rattle.std.proofs.Common.{◌≡◌, ◌+◌, ◌*◌, ◌≤◌, ◌++◌, ◌∷◌, [], Bool, List, ℕ, length, take, drop, sym, ap, ◌∙◌, arith, append_assoc, drop-drop, length-drop}
use Rattle.aivdm.specs.BitFields.{bits_value}
use Rattle.aivdm.specs.Armouring.{armour_of, payload_of}
use Rattle.aivdm.proofs.Written.{payload_six}
use Rattle.aivdm.proofs.writer.push_payload.Goals as goal

pub loop-place-preserved : goal.loop-place-preserved
loop-place-preserved c =
    let bits = c.args.bits.now in
    let place = c.loop-place.place in
    let left = drop (6 * place) bits in
    let items = c.loop-place.line.items in
    let next : drop (6 * (place + 1)) bits ≡ drop 6 left
    = ap (λ (n : ℕ). drop n bits) (omega arith) ∙ sym (drop-drop 6 (6 * place) bits) in
    let byte : c.armour.result ≡ armour_of (bits_value (take 6 left)) = c.armour.ensures ∙ ap armour_of c.unsigned.ensures.value in
    let whole : 6 ≤ length left = omega (arith, length-drop (6 * place) bits, c.len-whole.ensures, c.loop-place-test.true) in
    ap (λ (l : List ℕ). l ++ payload_of (drop (6 * (place + 1)) bits)) c.in_ok-push.ensures
    ∙ append_assoc items (c.armour.result ∷ []) (payload_of (drop (6 * (place + 1)) bits))
    ∙ ap (λ (l : List Bool). items ++ c.armour.result ∷ payload_of l) next
    ∙ ap (λ (n : ℕ). items ++ n ∷ payload_of (drop 6 left)) byte
    ∙ ap (λ (l : List ℕ). items ++ l) (sym (payload_six left whole))
    ∙ c.loop-place.invariant
