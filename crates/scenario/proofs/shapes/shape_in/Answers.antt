use Rattle.std.proofs.Common.{rules, ◌≡◌, ◌∙◌, length, map, ap, sym}
use Rattle.std.specs.Vec.{vec_len}
use Rattle.std.proofs.lemmas.List.{length-map}
use Rattle.toml.specs.View.{array_view}
use Rattle.hull_domains.specs.Shapes.{shape_of}
use Rattle.hull_domains.proofs.Tested.{unshaped}
use Rattle.scenario_keys.specs.ListFaults.{elements}
use Rattle.scenario_keys.proofs.Elements.{count_seen, mapped_seen}
use Rattle.scenario.specs.Shapes.{vertex_of}
use Rattle.scenario.proofs.shapes.shape_in.Goals as goal

pub returns-then-len-ne6 : goal.returns-then-len-ne6
returns-then-len-ne6 c =
    let list = elements (array_view c.args.list.now) in
    let many = length-map list vertex_of ∙ count_seen c.args.list.now.items in
    let as_long : vec_len c.args.list.now ≡ length c.args.list.now.items = search rules in
    sym (unshaped (map vertex_of list) (λ is. c.if-len-ne6.true (c.len.ensures ∙ (as_long ∙ (sym many ∙ is.count)))))

pub returns : goal.returns
returns c =
    c.new.ensures.exact ∙ (ap shape_of c.six_vertices.ensures ∙ sym (ap shape_of (mapped_seen vertex_of c.args.list.now.items)))
