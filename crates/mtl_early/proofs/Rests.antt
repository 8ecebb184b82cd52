-- The values at the last row are the program's last values, so a row that leaves these as they are is read as the row before.
use Rattle.std.proofs.Common.{◌≡◌, ℕ, ◌+◌, ◌-◌, ◌<◌, sym, ◌∙◌, arith, refl, List, [], ◌∷◌, ◌++◌, length}
use Rattle.std.proofs.lemmas.List.{append-nil, length_push}
use Rattle.mtl_formulas.specs.declared.atom.Atom.{Atom}
use Rattle.mtl_formulas.specs.declared.verdict.Verdict.{Verdict}
use Rattle.mtl_formulas.specs.FormulaTree.{FormulaTree}
use Rattle.mtl_formulas.specs.FormulaMeasures.{reach_of}
use Rattle.mtl_monitor.specs.Following.{Follows, GivesTheSame, count_of, formula_at, last_value}
use Rattle.mtl_monitor.specs.Inner.Standing.{root_at}
use Rattle.mtl_formulas.specs.Traces.{Trace, value_in}
use Rattle.mtl_monitor.specs.declared.program.Program.{Program}
use Rattle.mtl_monitor.specs.declared.trace_state.TraceState.{TraceState}
use Rattle.mtl_monitor.proofs.Feeding.{fed_value}
use Rattle.mtl_early.specs.Inner.Rests.{AreLast, ReadsNow}

pub now_value : (p : Program) (s : TraceState) (formulas : List FormulaTree) (rows : Trace) (row : Atom → Verdict) (k : ℕ) → Follows p s formulas (rows ++ row ∷ []) → k < count_of p
    → reach_of (formula_at formulas k) ≡ 0 → last_value p s k ≡ value_in (rows ++ row ∷ []) (formula_at formulas k) (length rows)
now_value p s formulas rows row k follows inside flat =
    let all = rows ++ row ∷ [] in
    let one_more : length all ≡ length rows + 1 = length_push rows row in
    let within : k < length formulas = omega (arith, inside, follows.of.count) in
    let late = (follows.of.each k within).late in
    let ready : (root_at p.roots.items k).late < s.passed = omega (arith, late, flat, one_more, follows.all_passed) in
    let fed = fed_value p s formulas all k (root_at p.roots.items k) (last_value p s k) refl refl follows within ready in
    let position : s.passed - (root_at p.roots.items k).late - 1 ≡ length rows = omega (arith, fed.0, flat, one_more) in
    rw position at (rw (append-nil all) at (fed.1 []))

pub reads_fed : (p : Program) (s : TraceState) (formulas : List FormulaTree) (rows : Trace) (row : Atom → Verdict) → Follows p s formulas (rows ++ row ∷ []) → ReadsNow p s formulas rows row
reads_fed p s formulas rows row follows = λ r inside flat v is. is formulas rows row follows flat

-- any rows with the same last values
pub reads_last : (p : Program) (s : TraceState) (formulas : List FormulaTree) (fed rows : Trace) (last row : Atom → Verdict) → Follows p s formulas (fed ++ last ∷ []) → AreLast p s formulas rows row
    → ReadsNow p s formulas rows row
reads_last p s formulas fed rows last row follows are = λ r inside flat v is.
    is formulas fed last follows flat ∙ (sym (now_value p s formulas fed last r follows inside flat) ∙ are r inside flat)

pub last_same : (p : Program) (old new : TraceState) (formulas : List FormulaTree) (rows : Trace) (row : Atom → Verdict) → GivesTheSame p old new → Follows p new formulas (rows ++ row ∷ [])
    → AreLast p old formulas rows row
last_same p old new formulas rows row same follows = λ r inside flat. sym (same r inside) ∙ now_value p new formulas rows row r follows inside flat

pub last_still : (p : Program) (old new : TraceState) (formulas : List FormulaTree) (rows : Trace) (row : Atom → Verdict) → GivesTheSame p old new → AreLast p new formulas rows row
    → AreLast p old formulas rows row
last_still p old new formulas rows row same are = λ r inside flat. sym (same r inside) ∙ are r inside flat
