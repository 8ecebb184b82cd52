use Rattle.std.proofs.Common.{◌<◌, length, get_or, arith}
use Rattle.std.proofs.lemmas.List.{ext_get_or}
use Rattle.mtl_monitor.specs.declared.node.Kept.TheVariants as kinds
use Rattle.mtl_monitor.proofs.Keepers.{HasRoomOf-read}
use Rattle.mtl_monitor.proofs.copying.copy_listed.Goals as goal

pub copy_kept-requires : goal.copy_kept-requires
copy_kept-requires c =
    let others = c.args.others.now in
    let k = get_or c.args.keepers.now c.loop-k.k-index 0 in
    let within : k < length others = c.requires.inside c.loop-k.k-index 0 c.loop-k-test.true in
    let inside : k < length c.loop-k.states = omega arith in
    HasRoomOf-read c.loop-k.states others k c.index-states-k.result c.index-others-k.result inside within c.index-others-k.is (c.loop-k.invariant.room k within)

pub returns : goal.returns
returns c =
    ext_get_or kinds.Plain c.loop-k.states c.args.others.now c.loop-k.invariant.fit
    (λ j h. c.loop-k.invariant.agree j (omega arith) (λ i from below e. absurd (omega arith)))
