use Rattle.std.proofs.lemmas.Result.{on_ok_weaker}
use Rattle.rule_set.proofs.RuleLists.{none_put, put_more}
use Rattle.rule_set.proofs.rule_set.push_eleven.Goals as goal

pub returns : goal.returns
returns c =
    let so_far = none_put c.args.rules.now.items c.requires.none in
    let so_far = put_more c.args.rules.now.items c.put.new.rules.items c.r8b.result _ _ so_far c.r8b.ensures c.in_ok-put.ensures in
    let so_far = put_more c.put.new.rules.items c.put-2.new.rules.items c.r8d.result _ _ so_far c.r8d.ensures c.in_ok-put-2.ensures in
    let so_far = put_more c.put-2.new.rules.items c.put-3.new.rules.items c.r13.result _ _ so_far c.r13.ensures c.in_ok-put-3.ensures in
    let so_far = put_more c.put-3.new.rules.items c.put-4.new.rules.items c.r14a.result _ _ so_far c.r14a.ensures c.in_ok-put-4.ensures in
    let so_far = put_more c.put-4.new.rules.items c.put-5.new.rules.items c.r14b.result _ _ so_far c.r14b.ensures c.in_ok-put-5.ensures in
    let so_far = put_more c.put-5.new.rules.items c.put-6.new.rules.items c.r14p.result _ _ so_far c.r14p.ensures c.in_ok-put-6.ensures in
    let so_far = put_more c.put-6.new.rules.items c.put-7.new.rules.items c.r15.result _ _ so_far c.r15.ensures c.in_ok-put-7.ensures in
    let so_far = put_more c.put-7.new.rules.items c.put-8.new.rules.items c.r16.result _ _ so_far c.r16.ensures c.in_ok-put-8.ensures in
    let so_far = put_more c.put-8.new.rules.items c.put-9.new.rules.items c.r17a.result _ _ so_far c.r17a.ensures c.in_ok-put-9.ensures in
    let so_far = put_more c.put-9.new.rules.items c.put-10.new.rules.items c.r17b.result _ _ so_far c.r17b.ensures c.in_ok-put-10.ensures in
    on_ok_weaker c.put-11.result (put_more c.put-10.new.rules.items c.put-11.new.rules.items c.r17c.result _ _ so_far c.r17c.ensures) c.put-11.ensures
