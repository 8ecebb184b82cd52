-- The list of a program's atoms.
use Rattle.std.proofs.Common.{◌≡◌, ℕ, ◌+◌, ◌%◌, ◌<◌, ◌≤◌, ◌≢◌, refl, sym, ◌∙◌, arith, inl, inr, Bool, true, false, List, [], ◌∷◌, ◌++◌, length, set, get_or-set_other, get_or-set_same, below_more}
use Rattle.std.specs.Int.{bit_at}
use Rattle.std.proofs.lemmas.Bool.{true≢false}
use Rattle.std.proofs.lemmas.Bool.Decides.{eqb_tells}
use Rattle.std.proofs.lemmas.List.{length_push, length-set, get_or_push, get_or_append_left}
use Rattle.mtl_formulas.specs.declared.atom.Atom.{Atom}
use Rattle.mtl_formulas.specs.declared.atom.Atom.TheVariants.{Always}
use Rattle.mtl_formulas.specs.declared.verdict.Verdict.{Verdict}
use Rattle.mtl_formulas.specs.declared.verdict.Verdict.TheVariants.{Open}
use Rattle.mtl_formulas.specs.declared.glance.Glance.{Glance}
use Rattle.mtl_formulas.specs.FormulaMeasures.{IsValidAtom}
use Rattle.mtl_monitor.specs.declared.node.AtomNode.{AtomNode}
use Rattle.mtl_monitor.specs.declared.node.Operator.{Operator}
use Rattle.mtl_monitor.specs.declared.node.Operator.TheVariants as op
use Rattle.mtl_monitor.specs.declared.node.ProgramNode.{ProgramNode}
use Rattle.mtl_monitor.specs.Inner.Steps.{value_at, HasValidAtom}
use Rattle.mtl_monitor.specs.Inner.Marks.{IsUnmarked, OnlyMarked}
use Rattle.mtl_monitor.specs.Inner.Standing.{node_at}
use Rattle.mtl_monitor.specs.Inner.Reading.{atom_node, atom_at, is_untold, IsListed, IsPlaced, ArePlaced, IsUntold, AreReadable, ListsIf, Lists, HaveRead}

module _ (glance : Glance) (old : List AtomNode) (node : AtomNode) where
  kept_atom : (j : ℕ) → j < length old → atom_at (old ++ node ∷ []) j ≡ atom_at old j
  kept_atom j h = get_or_append_left old (node ∷ []) (atom_node 0 Always) j h

  last_atom : atom_at (old ++ node ∷ []) (length old) ≡ node
  last_atom = get_or_push old node (atom_node 0 Always) (length old) refl

  IsListed-more : (o : Operator) (k : ℕ) → IsListed glance old o k → IsListed glance (old ++ node ∷ []) o k
  IsListed-more (op.Atom a) k listed = λ untold.
      let found = listed untold in
      (found.0, (omega (arith, found.1.0, length_push old node), kept_atom found.0 found.1.0 ∙ found.1.1))
  IsListed-more (op.Not a) k at = tt
  IsListed-more (op.Pair kind a b) k at = tt
  IsListed-more (op.Late cells from a) k at = tt
  IsListed-more (op.Window kind width from a) k at = tt
  IsListed-more (op.Since width lower from a b) k at = tt
  IsListed-more (op.Until from full lower a behind b) k at = tt

  -- all that were placed before stay so, and so is this one after them
  AreReadable-more : (nodes : List ProgramNode) (k : ℕ) → node.index ≡ k → IsValidAtom node.atom → IsUntold glance (node_at nodes k).operator → AreReadable glance nodes k old
      → AreReadable glance nodes (k + 1) (old ++ node ∷ [])
  AreReadable-more nodes k here valid is h j within = by_more j (omega (arith, length_push old node))
    where
      earlier : (j : ℕ) → j < length old → IsPlaced (old ++ node ∷ []) (k + 1) j × IsUntold glance (node_at nodes (atom_at (old ++ node ∷ []) j).index).operator
      earlier j inside =
          let was = h j inside in
          rw (kept_atom j inside) ((omega (arith, was.0.0), was.0.1, λ i lower. rw (kept_atom i (omega (arith, lower, inside))) (was.0.2 i lower)), was.1)

      this : IsPlaced (old ++ node ∷ []) (k + 1) (length old) × IsUntold glance (node_at nodes (atom_at (old ++ node ∷ []) (length old)).index).operator
      this = rw last_atom ((omega (arith, here), valid, λ i lower. rw (kept_atom i lower) (omega (arith, here, (h i lower).0.0))), rw here is)

      by_more : (j : ℕ) → j < length old + 1 → IsPlaced (old ++ node ∷ []) (k + 1) j × IsUntold glance (node_at nodes (atom_at (old ++ node ∷ []) j).index).operator
      by_more = below_more _ _ earlier this

AreReadable-wider : (glance : Glance) (nodes : List ProgramNode) (m n : ℕ) (atoms : List AtomNode) → m ≤ n → AreReadable glance nodes m atoms
    → AreReadable glance nodes n atoms
AreReadable-wider glance nodes m n atoms wide h j inside = let was = h j inside in ((omega (arith, was.0.0), was.0.1, was.0.2), was.1)

-- one node more is listed
module _ (glance : Glance) (nodes : List ProgramNode) (k : ℕ) (old new : List AtomNode) (valid : HasValidAtom (node_at nodes k).operator)
    (lists : Lists glance old new (node_at nodes k).operator k)
    (listed : (j : ℕ) → j < k → IsListed glance old (node_at nodes j).operator j) (readable : AreReadable glance nodes k old) where
  pub record Both : Type 0 where
    pub listed_more : (j : ℕ) → j < k + 1 → IsListed glance new (node_at nodes j).operator j
    pub readable_more : AreReadable glance nodes (k + 1) new

  unlisted : new ≡ old → IsListed glance old (node_at nodes k).operator k → Both
  unlisted is this = record { listed_more = rw is (below_more _ _ listed this); readable_more = rw is (AreReadable-wider glance nodes k (k + 1) old (omega arith) readable) }

  by_untold : (a : Atom) (untold : Bool) → is_untold glance a ≡ untold → (node_at nodes k).operator ≡ op.Atom a → IsValidAtom a
      → ListsIf untold old new (atom_node k a) → Both
  by_untold a true asked is valid_one added =
      record {
        listed_more =
            rw added
            (below_more _ _ (λ j before. IsListed-more glance old (atom_node k a) (node_at nodes j).operator j (listed j before))
            (rw is (λ untold. (length old, (omega (arith, length_push old (atom_node k a)), last_atom glance old (atom_node k a))))));
        readable_more = rw added (AreReadable-more glance old (atom_node k a) nodes k refl valid_one (rw is asked) readable);
      }
  by_untold a false told is valid_one same = unlisted same (rw is (λ untold. absurd (true≢false (sym untold ∙ told))))

  by_operator : (o : Operator) → (node_at nodes k).operator ≡ o → HasValidAtom o → Lists glance old new o k → Both
  by_operator (op.Atom a) is valid_one added = by_untold a (is_untold glance a) refl is valid_one added
  by_operator (op.Not a) is valid_one same = unlisted same (rw is tt)
  by_operator (op.Pair kind a b) is valid_one same = unlisted same (rw is tt)
  by_operator (op.Late cells from a) is valid_one same = unlisted same (rw is tt)
  by_operator (op.Window kind width from a) is valid_one same = unlisted same (rw is tt)
  by_operator (op.Since width lower from a b) is valid_one same = unlisted same (rw is tt)
  by_operator (op.Until from full lower a behind b) is valid_one same = unlisted same (rw is tt)

  pub both : Both
  both = by_operator (node_at nodes k).operator refl valid lists

-- one atom more is read
module _ (atoms : List AtomNode) (before values values' : List Verdict) (row : Atom → Verdict) (marks marks' k : ℕ) (inside : k < length atoms) (placed : ArePlaced atoms (length before))
    (h : HaveRead atoms before values row marks k) (values_are : values' ≡ set values (atom_at atoms k).index (row (atom_at atoms k).atom))
    (here : IsUnmarked marks' (atom_at atoms k).index → row (atom_at atoms k).atom ≡ value_at values (atom_at atoms k).index) (more : (j : ℕ) → bit_at marks' j ≡ 0 → bit_at marks j ≡ 0) where
  abbrev index : ℕ
  index = (atom_at atoms k).index

  fits : index < length values
  fits = omega (arith, (placed k inside).0, h.fit)

  other : (i : ℕ) → i ≢ index → value_at values' i ≡ value_at values i
  other i ne = rw values_are (get_or-set_other values index i (row (atom_at atoms k).atom) Open ne)

  this : value_at values' index ≡ row (atom_at atoms k).atom
  this = rw values_are (get_or-set_same values index (row (atom_at atoms k).atom) Open fits)

  only_marked : OnlyMarked before values' marks'
  only_marked i unmarked = elim (eqb_tells i index) [
    | inl equal ↦
        let same : i ≡ index = equal.1 in
        let free : IsUnmarked marks' index = rw same at unmarked in
        rw same (this ∙ (here free ∙ h.changed index (more (index % 64) free)))
    | inr apart ↦ other i apart.1 ∙ h.changed i (more (i % 64) unmarked)
  ]

  pub HaveRead-more : HaveRead atoms before values' row marks' (k + 1)
  HaveRead-more =
      record {
        fit = rw values_are (length-set values index (row (atom_at atoms k).atom) ∙ h.fit);
        read = below_more _ _
            (λ j lower. h.read j lower ∙ sym (other (atom_at atoms j).index (omega (arith, (placed k inside).2 j lower))))
            (sym this);
        changed = only_marked;
        others = λ i unlisted. other i (λ same. unlisted k inside (sym same)) ∙ h.others i unlisted;
      }
