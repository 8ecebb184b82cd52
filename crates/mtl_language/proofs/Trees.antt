-- The postfix form of a tree builds it, and what is built on the way is part of it.
use Rattle.std.proofs.Common.{◌≡◌, ℕ, ◌+◌, ◌≤◌, ◌<◌, ◌/◌, List, [], ◌∷◌, ◌++◌, length, refl, sym, ◌∙◌, ap, append_assoc, Option, Some, None, Err, arith, length-append, inl, inr}
use Rattle.std.proofs.lemmas.List.{append-nil}
use Rattle.mtl_formulas.specs.declared.formula.PairKind.{PairKind}
use Rattle.mtl_formulas.specs.declared.formula.SpanKind.{SpanKind}
use Rattle.mtl_formulas.specs.declared.formula.LinkKind.{LinkKind}
use Rattle.mtl_language.specs.declared.postfix.PostfixItem.{PostfixItem}
use Rattle.mtl_language.specs.declared.postfix.PostfixItem.TheVariants as postfix
use Rattle.mtl_formulas.specs.FormulaTree.{FormulaTree, leaf, negation, pair, span, link}
use Rattle.mtl_formulas.specs.FormulaMeasures.{depth_of, node_count, reach_of, HasValidParts}
use Rattle.mtl_language.specs.declared.parsing.ParseFault.{ParseFault}
use Rattle.mtl_language.specs.declared.parsing.ParseFault.TheVariants as faults
use Rattle.mtl_language.specs.FormulaReading.{in_positions, IsWithinLimits, IsTooLarge}
use Rattle.mtl_language.specs.Inner.Postfix.{postfix_of}
use Rattle.mtl_language.specs.Inner.Building.{built, CanAdd, Adds, Builds}

abbrev pub built_on : Option (List FormulaTree) → (List FormulaTree → Option (List FormulaTree)) → Option (List FormulaTree)
built_on None rest = None
built_on (Some σ) rest = rest σ

-- the trees after all items of the postfix form
abbrev pub all_built : ℕ → List PostfixItem → List FormulaTree → Option (List FormulaTree)
all_built tick [] σ = Some σ
all_built tick (w ∷ ws) σ = built_on (built tick w σ) (λ next. all_built tick ws next)

twice : (c d : List PostfixItem) (w : PostfixItem) (ws : List PostfixItem) → (c ++ (d ++ w ∷ [])) ++ ws ≡ c ++ (d ++ (w ∷ ws))
twice c d w ws = simp append_assoc

-- The postfix form of a tree builds it, whatever follows.
pub all_built-postfix : (tick : ℕ) (t : FormulaTree) (ws : List PostfixItem) (σ : List FormulaTree) → all_built tick (postfix_of t ++ ws) σ ≡ all_built tick ws (in_positions tick t ∷ σ)
all_built-postfix tick (leaf a) ws σ = refl
all_built-postfix tick (negation t) ws σ = ap (λ xs. all_built tick xs σ) (append_assoc (postfix_of t) (postfix.Not ∷ []) ws) ∙ all_built-postfix tick t (postfix.Not ∷ ws) σ
all_built-postfix tick (pair kind s t) ws σ =
    ap (λ xs. all_built tick xs σ) (twice (postfix_of s) (postfix_of t) (postfix.Pair kind) ws)
    ∙ (all_built-postfix tick s (postfix_of t ++ (postfix.Pair kind ∷ ws)) σ ∙ all_built-postfix tick t (postfix.Pair kind ∷ ws) (in_positions tick s ∷ σ))
all_built-postfix tick (span kind l u t) ws σ =
    ap (λ xs. all_built tick xs σ) (append_assoc (postfix_of t) (postfix.Span kind l u ∷ []) ws) ∙ all_built-postfix tick t (postfix.Span kind l u ∷ ws) σ
all_built-postfix tick (link kind l u s t) ws σ =
    ap (λ xs. all_built tick xs σ) (twice (postfix_of s) (postfix_of t) (postfix.Link kind l u) ws)
    ∙ (all_built-postfix tick s (postfix_of t ++ (postfix.Link kind l u ∷ ws)) σ ∙ all_built-postfix tick t (postfix.Link kind l u ∷ ws) (in_positions tick s ∷ σ))

pub all_built-tree : (tick : ℕ) (t : FormulaTree) → all_built tick (postfix_of t) [] ≡ Some (in_positions tick t ∷ [])
all_built-tree tick t = ap (λ xs. all_built tick xs []) (sym (append-nil (postfix_of t))) ∙ all_built-postfix tick t [] []

-- The postfix form determines the tree.
pub same_tree : (tick : ℕ) (s t : FormulaTree) → postfix_of s ≡ postfix_of t → in_positions tick s ≡ in_positions tick t
same_tree tick s t h =
    let both : Some (in_positions tick s ∷ []) ≡ Some (in_positions tick t ∷ []) =
    sym (all_built-tree tick s) ∙ (ap (λ xs. all_built tick xs []) h ∙ all_built-tree tick t) in
    cc

-- as many items as nodes
pub length-postfix : (tick : ℕ) (t : FormulaTree) → length (postfix_of t) ≡ node_count (in_positions tick t)
length-postfix tick (leaf a) = refl
length-postfix tick (negation t) = length-append (postfix_of t) (postfix.Not ∷ []) ∙ ap (λ n. n + 1) (length-postfix tick t)
length-postfix tick (pair kind s t) =
    let two = length-append (postfix_of s) (postfix_of t ++ postfix.Pair kind ∷ []) in
    let one = length-append (postfix_of t) (postfix.Pair kind ∷ []) in
    omega (arith, length-postfix tick s, length-postfix tick t)
length-postfix tick (span kind l u t) = length-append (postfix_of t) (postfix.Span kind l u ∷ []) ∙ ap (λ n. n + 1) (length-postfix tick t)
length-postfix tick (link kind l u s t) =
    let two = length-append (postfix_of s) (postfix_of t ++ postfix.Link kind l u ∷ []) in
    let one = length-append (postfix_of t) (postfix.Link kind l u ∷ []) in
    omega (arith, length-postfix tick s, length-postfix tick t)

-- a part of a tree is no deeper, no larger, reaches no further, and is valid if the tree is
pub record IsPart (x t : FormulaTree) : Type 0 where
  pub depth : depth_of x ≤ depth_of t
  pub nodes : node_count x ≤ node_count t
  pub reach : reach_of x ≤ reach_of t
  pub valid : HasValidParts t → HasValidParts x

abbrev pub AreParts : List FormulaTree → FormulaTree → Type 0
AreParts [] t = Unit {0}
AreParts (x ∷ σ) t = IsPart x t × AreParts σ t

part_negation : (x t : FormulaTree) → IsPart (negation x) t → IsPart x t
part_negation x t h = record { depth = omega arith; nodes = omega arith; reach = h.reach; valid = h.valid }

part_span : (kind : SpanKind) (l u : ℕ) (x t : FormulaTree) → IsPart (span kind l u x) t → IsPart x t
part_span kind l u x t h = record { depth = omega arith; nodes = omega arith; reach = omega arith; valid = λ v. (h.valid v).2 }

part_pair_left : (kind : PairKind) (x y t : FormulaTree) → IsPart (pair kind x y) t → IsPart x t
part_pair_left kind x y t h = record { depth = omega arith; nodes = omega arith; reach = omega arith; valid = λ v. (h.valid v).0 }

part_pair_right : (kind : PairKind) (x y t : FormulaTree) → IsPart (pair kind x y) t → IsPart y t
part_pair_right kind x y t h = record { depth = omega arith; nodes = omega arith; reach = omega arith; valid = λ v. (h.valid v).1 }

part_link_left : (kind : LinkKind) (l u : ℕ) (x y t : FormulaTree) → IsPart (link kind l u x y) t → IsPart x t
part_link_left kind l u x y t h = record { depth = omega arith; nodes = omega arith; reach = omega arith; valid = λ v. (h.valid v).2 }

part_link_right : (kind : LinkKind) (l u : ℕ) (x y t : FormulaTree) → IsPart (link kind l u x y) t → IsPart y t
part_link_right kind l u x y t h = record { depth = omega arith; nodes = omega arith; reach = omega arith; valid = λ v. (h.valid v).3 }

-- If the items that are left make one tree, all that was built is part of it.
pub parts_of : (tick : ℕ) (ws : List PostfixItem) (σ : List FormulaTree) (t : FormulaTree) → all_built tick ws σ ≡ Some (t ∷ []) → AreParts σ t
parts_of tick [] σ t h =
    let one : σ ≡ t ∷ [] = cc in
    let self : IsPart t t = record { depth = omega arith; nodes = omega arith; reach = omega arith; valid = λ v. v } in
    rw one (self, tt)
parts_of tick (postfix.Leaf a ∷ ws) σ t h = (parts_of tick ws (leaf a ∷ σ) t h).1
parts_of tick (postfix.Not ∷ ws) (x ∷ σ) t h = let parts = parts_of tick ws (negation x ∷ σ) t h in (part_negation x t parts.0, parts.1)
parts_of tick (postfix.Pair kind ∷ ws) (y ∷ x ∷ σ) t h =
    let parts = parts_of tick ws (pair kind x y ∷ σ) t h in (part_pair_right kind x y t parts.0, (part_pair_left kind x y t parts.0, parts.1))
parts_of tick (postfix.Span kind l u ∷ ws) (x ∷ σ) t h =
    let parts = parts_of tick ws (span kind (l / tick) (u / tick) x ∷ σ) t h in (part_span kind (l / tick) (u / tick) x t parts.0, parts.1)
parts_of tick (postfix.Link kind l u ∷ ws) (y ∷ x ∷ σ) t h =
    let parts = parts_of tick ws (link kind (l / tick) (u / tick) x y ∷ σ) t h in
    (part_link_right kind (l / tick) (u / tick) x y t parts.0, (part_link_left kind (l / tick) (u / tick) x y t parts.0, parts.1))
parts_of tick (_ ∷ ws) σ t h = cc

-- what the next item builds
pub record Next (tick : ℕ) (w : PostfixItem) (ws : List PostfixItem) (σ : List FormulaTree) (t : FormulaTree) : Type 0 where
  pub top : FormulaTree
  pub below : List FormulaTree
  pub is : built tick w σ ≡ Some (top ∷ below)
  pub rest : all_built tick ws (top ∷ below) ≡ Some (t ∷ [])
  pub part : IsPart top t

next : (tick : ℕ) (w : PostfixItem) (ws : List PostfixItem) (σ : List FormulaTree) (t : FormulaTree) → all_built tick (w ∷ ws) σ ≡ Some (t ∷ []) → Next tick w ws σ t
next tick (postfix.Leaf a) ws σ t h = record { top = leaf a; below = σ; is = refl; rest = h; part = (parts_of tick ws (leaf a ∷ σ) t h).0 }
next tick postfix.Not ws (x ∷ σ) t h = record { top = negation x; below = σ; is = refl; rest = h; part = (parts_of tick ws (negation x ∷ σ) t h).0 }
next tick (postfix.Pair kind) ws (y ∷ x ∷ σ) t h =
    record { top = pair kind x y; below = σ; is = refl; rest = h; part = (parts_of tick ws (pair kind x y ∷ σ) t h).0 }
next tick (postfix.Span kind l u) ws (x ∷ σ) t h =
    record { top = span kind (l / tick) (u / tick) x; below = σ; is = refl; rest = h; part = (parts_of tick ws (span kind (l / tick) (u / tick) x ∷ σ) t h).0 }
next tick (postfix.Link kind l u) ws (y ∷ x ∷ σ) t h =
    record { top = link kind (l / tick) (u / tick) x y; below = σ; is = refl; rest = h; part = (parts_of tick ws (link kind (l / tick) (u / tick) x y ∷ σ) t h).0 }
next tick _ ws σ t h = cc

module _ (tick : ℕ) (w : PostfixItem) (ws : List PostfixItem) (σ : List FormulaTree) (t : FormulaTree) (h : all_built tick (w ∷ ws) σ ≡ Some (t ∷ [])) where
  pub can_add : HasValidParts t → node_count t ≤ 256 → CanAdd (built tick w σ)
  can_add v n = let item = next tick w ws σ t h in rw item.is (item.part.valid v, omega arith)

  pub not_added : (e : ParseFault) (after : List FormulaTree) → Adds (Err e) (built tick w σ) after → Builds (Err e) t
  not_added e after a = let item = next tick w ws σ t h in by_cases e item.top item.below item.part (rw item.is at a)
    where
      by_cases : (e : ParseFault) (x : FormulaTree) (σ : List FormulaTree) → IsPart x t → Adds (Err e) (Some (x ∷ σ)) after → Builds (Err e) t
      by_cases faults.Memory x σ p a = tt
      by_cases faults.Size x σ p (inl deep) = inl (omega arith)
      by_cases faults.Size x σ p (inr far) = inr (inr (omega arith))
      by_cases (faults.Syntax index) x σ p a = absurd a
      by_cases (faults.Number index) x σ p a = absurd a

-- more items than a formula may have nodes
pub too_many : (tick : ℕ) (ws : List PostfixItem) (t : FormulaTree) → 256 < length ws → ws ≡ postfix_of t → IsTooLarge (in_positions tick t)
too_many tick ws t many is = inr (inl (omega (arith, length-postfix tick t, ap length is)))

pub few_nodes : (tick : ℕ) (ws : List PostfixItem) (t : FormulaTree) → length ws ≤ 256 → ws ≡ postfix_of t → node_count (in_positions tick t) ≤ 256
few_nodes tick ws t few is = omega (arith, length-postfix tick t, ap length is)

-- at the end the one tree is there
pub whole : (tick : ℕ) (σ below : List FormulaTree) (x t : FormulaTree) → all_built tick [] σ ≡ Some (t ∷ []) → σ ≡ x ∷ below →
    depth_of x ≤ 64 → reach_of x ≤ 7200 → node_count t ≤ 256 → (x ≡ t) × IsWithinLimits t
whole tick σ below x t h is deep far many =
    let same : x ≡ t = cc in
    (same, (rw same at deep, many, rw same at far))
