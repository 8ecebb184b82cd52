use Rattle.std.proofs.Common.{◌≡◌, ◌+◌, ◌*◌, ◌-◌, ◌<◌, ◌≤◌, ◌∙◌, sym, refl, arith, length, inl, inr}
use Rattle.std.proofs.lemmas.List.{get_or_default}
use Rattle.mtl_formulas.specs.declared.verdict.Verdict.TheVariants.{Open}
use Rattle.mtl_early.specs.Inner.Cells.{cell_at}
use Rattle.mtl_early.specs.Inner.Zones.{old_value}
use Rattle.mtl_early.proofs.SweepLooks.{root_at, IsLooking-place, look_some, look_open, look_old}
use Rattle.mtl_early.proofs.sweep_state.SweepState.look.Goals as goal

pub returns-then-not-still_open-clause-looked : goal.returns-then-not-still_open-clause-looked
returns-then-not-still_open-clause-looked c = λ t before row looks.
    let p = c.args.program.now in
    let s = c.args.self.now in
    let age = s.place - 1 in
    let v = c.index-value.result.now in
    let root : c.root_of.result ≡ root_at p = rw c.deref.ensures.value at c.root_of.ensures in
    let within : age < s.size = omega (arith, s.placed, c.requires.more) in
    let laid : root_at p + (p.reach + 1) ≤ length p.nodes.items * (p.reach + 1) = p.laid_out.inside (length p.nodes.items - 1) (omega (arith, p.some)) in
    let inside : root_at p + age < length s.cells.items = omega (arith, laid, within, c.requires.of.cells, c.requires.of.sized) in
    let is : v ≡ cell_at s.cells.items (root_at p + age) = (rw root at c.index-value.ensures) ∙ get_or_default s.cells.items (root_at p + age) _ Open inside in
    let old : c.old_at.result ≡ old_value s.was.items age = rw c.deref-2.ensures.value at c.old_at.ensures in (
      IsLooking-place p s _ t before row refl refl refl refl refl refl looks,
      look_some p s t before row looks age ((s.fed - 1) - age) v within is (c.is_open-still_open.ensures.decided c.if-not-still_open.true)
          (sym old ∙ c.is_open-was_open.ensures.open c.if-was_open.true) (omega (arith, looks.stands.all_fed, s.inside, within)),
    )

pub returns-else-was_open-clause-looked : goal.returns-else-was_open-clause-looked
returns-else-was_open-clause-looked c = λ t before row looks.
    let p = c.args.program.now in
    let s = c.args.self.now in
    let age = s.place - 1 in
    let v = c.index-value.result.now in
    let root : c.root_of.result ≡ root_at p = rw c.deref.ensures.value at c.root_of.ensures in
    let within : age < s.size = omega (arith, s.placed, c.requires.more) in
    let laid : root_at p + (p.reach + 1) ≤ length p.nodes.items * (p.reach + 1) = p.laid_out.inside (length p.nodes.items - 1) (omega (arith, p.some)) in
    let inside : root_at p + age < length s.cells.items = omega (arith, laid, within, c.requires.of.cells, c.requires.of.sized) in
    let is : v ≡ cell_at s.cells.items (root_at p + age) = (rw root at c.index-value.ensures) ∙ get_or_default s.cells.items (root_at p + age) _ Open inside in
    let old : c.old_at.result ≡ old_value s.was.items age = rw c.deref-2.ensures.value at c.old_at.ensures in (
      IsLooking-place p s _ t before row refl refl refl refl refl refl looks,
      elim c.else-was_open.either [
        | inl both ↦ look_open p s t before row looks age v within is (c.is_open-still_open.ensures.open both.1)
        | inr none ↦ look_old p s t before row looks age within (λ e. c.is_open-was_open.ensures.decided none (old ∙ e))
      ],
    )
