use Rattle.std.proofs.Common.{◌≡◌, List, [], ◌∷◌, ◌++◌, length, refl, sym, subst, ap, ◌∙◌}
use Rattle.std.specs.Prelude.{map}
use Rattle.mtl_formulas.specs.declared.atom.Atom.{Atom}
use Rattle.mtl_formulas.specs.declared.verdict.Verdict.{Verdict}
use Rattle.meetings.specs.Answers.{Kept, answer_of}
use Rattle.meetings.specs.Atoms.{AreAtomRows, IsAtomRow}
use Rattle.meetings.specs.Ranks.{all_power_driven}
use Rattle.meetings.specs.Standing.{Follows, StandsFor, Traced}
use Rattle.meetings.proofs.ForCallers.{rows_then}
use Rattle.meetings.proofs.pair_trace.PairTrace.push.Goals as goal

answers_then : (rows : List Kept) (row : Kept) → map answer_of (rows ++ row ∷ []) ≡ map answer_of rows ++ answer_of row ∷ []
answers_then [] row = refl
answers_then (x ∷ rows) row = ap (λ (rest : List (Atom → Verdict)). answer_of x ∷ rest) (answers_then rows row)

pub returns-clause-ok : goal.returns-clause-ok
returns-clause-ok c = λ pair terms steps short stands.
    let before : StandsFor (record { pair = c.self.inside.pair; following = c.self.inside.follower; rows = c.self.inside.rows.items }) pair terms steps =
    subst (λ (t : Traced). StandsFor t pair terms steps) (sym c.self.view_is) stands in
    let row : IsAtomRow terms (steps ++ c.args.seen ∷ []) (length steps) (answer_of c.step-row.result) =
    rw c.as_ref.ensures.value at (c.step-row.ensures.row terms steps short before.follows) in
    let follows : Follows c.step-row.new.self terms (steps ++ c.args.seen ∷ []) =
    rw c.as_ref.ensures.value at (c.step-row.ensures.follows terms steps short before.follows) in
    let items : c.push_reserved.new.self.items ≡ c.self.inside.rows.items ++ c.step-row.result ∷ [] =
    c.push_reserved.ensures.items ∙ ap (λ (rows : List Kept). rows ++ c.step-row.result ∷ []) c.try_reserve.ensures.items in
    record {
      of_pair = before.of_pair;
      follows = follows;
      rows = subst (λ (r : List (Atom → Verdict)). AreAtomRows terms (steps ++ c.args.seen ∷ []) r)
          (sym (ap (map answer_of) items ∙ answers_then c.self.inside.rows.items c.step-row.result))
          (rows_then terms all_power_driven steps (map answer_of c.self.inside.rows.items) c.args.seen (answer_of c.step-row.result) before.rows row);
    }
