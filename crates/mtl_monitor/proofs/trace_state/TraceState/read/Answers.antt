use Rattle.std.proofs.Common.{◌≡◌, ◌∙◌, ℕ, List, ◌++◌, length, take, drop, ap, sym, inl, inr, refl}
use Rattle.std.proofs.Math.Seq.{take-append_seam}
use Rattle.mtl_formulas.specs.declared.verdict.Verdict.{Verdict}
use Rattle.mtl_monitor.proofs.Feeding.{ReadsAtoms-listed}
use Rattle.mtl_monitor.proofs.Knowing.{AreAnswered-to_be_read}
use Rattle.mtl_monitor.proofs.trace_state.TraceState.read.Goals as goal

front : (n : ℕ) (xs ys : List Verdict) → n ≡ length xs → take n (xs ++ ys) ≡ xs
front n xs ys is = ap (λ k. take k (xs ++ ys)) is ∙ take-append_seam xs ys

pub read_atoms-requires : goal.read_atoms-requires
read_atoms-requires g c =
    let p = c.args.program.now in
    let fit : length c.deref_mut.result.now ≡ length p.nodes.items = ap length c.deref_mut.ensures.value ∙ c.requires.values in
    rw fit (λ j inside. (c.to_be_read-atoms.ensures.readable j inside).0)

pub returns-clause-read : goal.returns-clause-read
returns-clause-read g c = λ listed shown.
    let p = c.args.program.now in
    let e = c.read_atoms.ensures in
    let s = c.args.self.now.values in
    let new = c.read_atoms.new.values in
    let row = g.A.Atoms.answer c.args.row.now in
    let answered = AreAnswered-to_be_read p.nodes.items p.atoms.items p.asked.items c.args.self.now.glance c.glance-glance.result c.to_be_read-atoms.result.now s.items new row
    c.to_be_read-atoms.ensures c.glance-glance.ensures e.read (rw c.deref_mut.ensures.value at e.others) listed shown in
    record {
      shown =
          record {
            row = row;
            told = c.glance-glance.ensures;
            answered = rw (front (length s.items) new (drop (length new) s.items) (sym (e.fit ∙ ap length c.deref_mut.ensures.value))) answered;
          };
      alike = inl refl;
    }

-- The last row is taken for this one, which is alike to it.
pub returns-then-are_alike-clause-read : goal.returns-then-are_alike-clause-read
returns-then-are_alike-clause-read g c = λ listed shown.
    let e = c.are_alike.ensures in
    elim shown [
      | inl nothing ↦ absurd (e.shown c.if-are_alike.true nothing)
      | inr last ↦ record { shown = last; alike = e.alike c.if-are_alike.true last.row (g.A.Atoms.answer c.args.row.now) last.told c.glance-glance.ensures }
    ]

pub returns-clause-reads : goal.returns-clause-reads
returns-clause-reads g c =
    let p = c.args.program.now in
    let e = c.read_atoms.ensures in
    let s = c.args.self.now.values in
    let new = c.read_atoms.new.values in
    rw (front (length s.items) new (drop (length new) s.items) (sym (e.fit ∙ ap length c.deref_mut.ensures.value)))
    (ReadsAtoms-listed c.to_be_read-atoms.ensures.told p.nodes.items c.to_be_read-atoms.result.now c.args.self.now.values.items c.read_atoms.new.values c.read_atoms.result
    c.to_be_read-atoms.ensures.readable (rw c.deref_mut.ensures.value at e.changed) (rw c.deref_mut.ensures.value at e.others))
