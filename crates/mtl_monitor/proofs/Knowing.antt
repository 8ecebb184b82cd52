-- Values that a glance gives.
use Rattle.std.proofs.Common.{◌≡◌, ◌≢◌, ℕ, ◌<◌, refl, ap, subst, sym, ◌∙◌, List, length, inl, inr}
use Rattle.std.specs.Prelude.{Option, Some, None, IfSome}
use Rattle.std.proofs.lemmas.Bool.{true≢false}
use Rattle.mtl_formulas.specs.declared.atom.Atom.{Atom}
use Rattle.mtl_formulas.specs.declared.glance.Glance.{Glance}
use Rattle.mtl_formulas.specs.declared.glance.Glance.TheVariants.{Nothing}
use Rattle.mtl_formulas.specs.Glances.{told_by, IsTold}
use Rattle.mtl_formulas.specs.declared.verdict.Verdict.{Verdict}
use Rattle.mtl_monitor.specs.declared.node.AtomNode.{AtomNode}
use Rattle.mtl_monitor.specs.declared.node.Operator.{Operator}
use Rattle.mtl_monitor.specs.declared.node.Operator.TheVariants as op
use Rattle.mtl_monitor.specs.declared.node.ProgramNode.{ProgramNode}
use Rattle.mtl_monitor.specs.Inner.Steps.{value_at}
use Rattle.mtl_monitor.specs.Inner.Standing.{node_at}
use Rattle.mtl_monitor.specs.Inner.Quiet.{Answers, AreAnswered}
use Rattle.mtl_monitor.specs.Inner.Reading.{atom_at, IsListed, AreListed, AreReadable, AreRead, IsKnown, AreKnown, AreAllListed, AreToBeRead}
use Rattle.mtl_monitor.specs.Inner.Idle.{HasShown}

-- if a glance gives nothing, nothing is asked of a value
IsKnown-nothing : (o : Operator) (v : Verdict) → IsKnown Nothing o v
IsKnown-nothing (op.Atom a) v = tt
IsKnown-nothing (op.Not a) v = tt
IsKnown-nothing (op.Pair kind a b) v = tt
IsKnown-nothing (op.Late cells from a) v = tt
IsKnown-nothing (op.Window kind width from a) v = tt
IsKnown-nothing (op.Since width lower from a b) v = tt
IsKnown-nothing (op.Until from full lower a behind b) v = tt

-- What a row answers to a node's atom is what a glance at the row gives.
known_one : (glance : Glance) (o : Operator) (row : Atom → Verdict) (v : Verdict) → IsTold glance row → Answers o row v → IsKnown glance o v
known_one glance (op.Atom a) row v told answers = subst (λ (x : Verdict). IfSome (told_by glance a) (λ w. x ≡ w)) answers (told a)
known_one glance (op.Not a) row v told answers = tt
known_one glance (op.Pair kind a b) row v told answers = tt
known_one glance (op.Late cells from a) row v told answers = tt
known_one glance (op.Window kind width from a) row v told answers = tt
known_one glance (op.Since width lower from a b) row v told answers = tt
known_one glance (op.Until from full lower a behind b) row v told answers = tt

AreKnown-answered : (glance : Glance) (nodes : List ProgramNode) (values : List Verdict) (row : Atom → Verdict) → IsTold glance row → AreAnswered nodes values row
    → AreKnown glance nodes values
AreKnown-answered glance nodes values row told answers k inside = known_one glance (node_at nodes k).operator row (value_at values k) told (answers k inside)

pub AreKnown-shown : (glance : Glance) (nodes : List ProgramNode) (values : List Verdict) → HasShown glance nodes values → AreKnown glance nodes values
AreKnown-shown glance nodes values shown = elim shown [
  | inl nothing ↦ rw nothing (λ k inside. IsKnown-nothing (node_at nodes k).operator (value_at values k))
  | inr of ↦ AreKnown-answered glance nodes values of.row of.told of.answered
]

module _ (glance : Glance) (nodes : List ProgramNode) (atoms : List AtomNode) (before values : List Verdict) (row : Atom → Verdict) (n : ℕ)
    (readable : AreReadable glance nodes n atoms) (told : IsTold glance row) (read : AreRead atoms values row)
    (others : (k : ℕ) → ((j : ℕ) → j < length atoms → (atom_at atoms j).index ≢ k) → value_at values k ≡ value_at before k) where
  -- An atom that the glance gives keeps the value that it had, and any other is read.
  answered_atom : (a : Atom) (k : ℕ) (answer : Option Verdict) → told_by glance a ≡ answer → (node_at nodes k).operator ≡ op.Atom a
      → IsListed glance atoms (op.Atom a) k → IsKnown glance (op.Atom a) (value_at before k) → row a ≡ value_at values k
  answered_atom a k None is here listed known =
      let found = listed (rw is refl) in
      let index : (atom_at atoms found.0).index ≡ k = ap (λ (n : AtomNode). n.index) found.1.1 in
      let atom : (atom_at atoms found.0).atom ≡ a = ap (λ (n : AtomNode). n.atom) found.1.1 in
      rw (index, atom) at (read found.0 found.1.0)
  answered_atom a k (Some v) is here listed known =
      let answers : row a ≡ v = rw is at (told a) in
      let was : value_at before k ≡ v = rw is at known in
      let same : value_at values k ≡ value_at before k = others k (λ j within index. true≢false (sym (rw (index, here, is) at (readable j within).1))) in
      answers ∙ sym (same ∙ was)

  answered_one : (o : Operator) (k : ℕ) → (node_at nodes k).operator ≡ o → IsListed glance atoms o k → IsKnown glance o (value_at before k) → Answers o row (value_at values k)
  answered_one (op.Atom a) k here listed known = answered_atom a k (told_by glance a) refl here listed known
  answered_one (op.Not a) k here listed known = tt
  answered_one (op.Pair kind a b) k here listed known = tt
  answered_one (op.Late cells from a) k here listed known = tt
  answered_one (op.Window kind width from a) k here listed known = tt
  answered_one (op.Since width lower from a b) k here listed known = tt
  answered_one (op.Until from full lower a behind b) k here listed known = tt

  pub AreAnswered-read : AreListed glance nodes atoms → AreKnown glance nodes before → AreAnswered nodes values row
  AreAnswered-read listed known k inside = answered_one (node_at nodes k).operator k refl (listed k inside) (known k inside)

-- All atoms are answered, once those are read that are to be.
pub AreAnswered-to_be_read : (nodes : List ProgramNode) (all asked : List AtomNode) (was is : Glance) (atoms : List AtomNode) (before values : List Verdict) (row : Atom → Verdict)
    → AreToBeRead nodes all asked was is atoms → IsTold is row → AreRead atoms values row
    → ((k : ℕ) → ((j : ℕ) → j < length atoms → (atom_at atoms j).index ≢ k) → value_at values k ≡ value_at before k)
    → AreAllListed nodes all asked → HasShown was nodes before → AreAnswered nodes values row
AreAnswered-to_be_read nodes all asked was is atoms before values row h told read others listed shown = elim h.of_both [
  | inl nothing ↦ answered (rw nothing (λ a. tt)) (rw nothing (λ k inside. IsKnown-nothing (node_at nodes k).operator (value_at before k)))
  | inr both ↦ answered (rw both.1 told) (rw both.0 (AreKnown-shown was nodes before shown))
]
  where
    answered : IsTold h.told row → AreKnown h.told nodes before → AreAnswered nodes values row
    answered told_both known_before = AreAnswered-read h.told nodes atoms before values row (length nodes) h.readable told_both read others (h.listed listed) known_before
