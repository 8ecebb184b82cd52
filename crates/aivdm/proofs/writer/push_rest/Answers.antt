use Rattle.std.proofs.Common.{◌≡◌, ◌-◌, ◌*◌, ◌^◌, ◌++◌, ◌∷◌, [], List, ℕ, length, drop, sym, ap, ap₂, ◌∙◌, arith, append-nil, length-drop, take_all}
use Rattle.aivdm.specs.BitFields.{bits_value}
use Rattle.aivdm.specs.Armouring.{armour_of, payload_of}
use Rattle.aivdm.proofs.Steps.{then_on}
use Rattle.aivdm.proofs.Written.{payload_none, payload_rest}
use Rattle.aivdm.proofs.writer.push_rest.Goals as goal

pub returns-then-rest-eq0 : goal.returns-then-rest-eq0
returns-then-rest-eq0 c =
    let left = drop c.args.first c.args.bits.now in
    sym (ap (λ (l : List ℕ). c.args.line.now.items ++ l) (payload_none left (omega (arith, length-drop c.args.first c.args.bits.now))) ∙ append-nil c.args.line.now.items)

pub returns : goal.returns
returns c =
    let left = drop c.args.first c.args.bits.now in
    let rest = c.len.result - c.args.first in
    let size : rest ≡ length left = omega (arith, length-drop c.args.first c.args.bits.now) in
    let number : c.unsigned-number.result ≡ bits_value left = c.unsigned-number.ensures.value ∙ ap bits_value (take_all rest left (omega arith)) in
    let byte : c.armour.result ≡ armour_of (bits_value left * 2 ^ (6 - length left))
    = c.armour.ensures ∙ ap armour_of (c.with_zeros.ensures.value ∙ ap₂ (λ (n w : ℕ). n * 2 ^ (6 - w)) number size) in
    let text : payload_of left ≡ armour_of (bits_value left * 2 ^ (6 - length left)) ∷ [] = payload_rest left (omega arith) (omega arith) in
    then_on c.push.result (c.push.new.line.items ≡ c.args.line.now.items ++ c.armour.result ∷ []) (c.push.new.line.items ≡ c.args.line.now.items ++ payload_of left) c.push.ensures
    (λ is. is ∙ ap (λ (n : ℕ). c.args.line.now.items ++ n ∷ []) byte ∙ ap (λ (l : List ℕ). c.args.line.now.items ++ l) (sym text))
