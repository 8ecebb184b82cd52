use Rattle.std.proofs.Common.{[], ◌∷◌, ◌++◌, sym, subst}
use Rattle.std.proofs.Math.ListN.{set}
use Rattle.std.proofs.lemmas.List.{length-set}
use Rattle.auditor.specs.Tallies.{AreTallies}
use Rattle.auditor.specs.declared.total.Total.{Total}
use Rattle.auditor.proofs.Totals.{at_index, rule_told}
use Rattle.auditor.proofs.counting.take_rule.Goals as goal

pub returns-then-rule-totals : goal.returns-then-rule-totals
returns-then-rule-totals c =
    let totals = c.args.totals.now in
    record {
      as_many = length-set totals c.args.rule c.take.new.self;
      tallies = λ rules tracks track of are h.
          subst (λ (t : Total). AreTallies (set totals c.args.rule t) rules (tracks ++ track ∷ [])) (sym c.take.ensures)
          (rule_told c.args.counts track are tracks totals rules c.args.rule _ of (at_index totals c.args.rule _ c.if-rule-totals.true) h);
    }
