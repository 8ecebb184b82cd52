-- How the logic stores a tree, and a list of rules: each constructor as a number, and then its arguments.
use Rattle.std.proofs.Common.{◌≡◌, ◌≢◌, ℕ, List, refl, ap, arith}
use Rattle.std.specs.Coded.{Coded, code_by, coded×, coded_ℕ, coded_list}
use base.Stored.{Gv, gnil, gnum, gcons}
use Rattle.mtl_formulas.specs.contracts.atom.Atom as atom
use Rattle.mtl_formulas.specs.contracts.formula.PairKind as pair_kind
use Rattle.mtl_formulas.specs.contracts.formula.SpanKind as span_kind
use Rattle.mtl_formulas.specs.contracts.formula.LinkKind as link_kind
use Rattle.mtl_formulas.specs.FormulaTree.{FormulaTree, leaf, negation, pair, span, link}
use Rattle.rule_set.specs.NamedTrees.{NamedTree, rule_named}

abbrev head : Gv → Gv
head gnil = gnil
head (gnum n) = gnil
head (gcons a b) = a

abbrev tail : Gv → Gv
tail gnil = gnil
tail (gnum n) = gnil
tail (gcons a b) = b

apart : (m n : ℕ) {a b : Gv} → gcons (gnum m) a ≡ gcons (gnum n) b → m ≢ n → ⊥
apart m n p other = other (cc)

abbrev pub tree_code : FormulaTree → Gv
tree_code (leaf a0) = gcons (gnum 0) (atom.the_row.coded.code a0)
tree_code (negation a0) = gcons (gnum 1) (tree_code a0)
tree_code (pair a0 a1 a2) = gcons (gnum 2) (gcons (pair_kind.the_row.coded.code a0) (gcons (tree_code a1) (tree_code a2)))
tree_code (span a0 a1 a2 a3) = gcons (gnum 3) (gcons (span_kind.the_row.coded.code a0) (gcons (coded_ℕ.code a1) (gcons (coded_ℕ.code a2) (tree_code a3))))
tree_code (link a0 a1 a2 a3 a4) = gcons (gnum 4) (gcons (link_kind.the_row.coded.code a0) (gcons (coded_ℕ.code a1) (gcons (coded_ℕ.code a2) (gcons (tree_code a3) (tree_code a4)))))

pub tree_inj : (x y : FormulaTree) → tree_code x ≡ tree_code y → x ≡ y
tree_inj (leaf a0) (leaf b0) p = λ i. leaf (atom.the_row.coded.inj a0 b0 (ap (λ g. tail g) p) i)
tree_inj (leaf a0) (negation b0) p = absurd (apart 0 1 p (omega arith))
tree_inj (leaf a0) (pair b0 b1 b2) p = absurd (apart 0 2 p (omega arith))
tree_inj (leaf a0) (span b0 b1 b2 b3) p = absurd (apart 0 3 p (omega arith))
tree_inj (leaf a0) (link b0 b1 b2 b3 b4) p = absurd (apart 0 4 p (omega arith))
tree_inj (negation a0) (leaf b0) p = absurd (apart 1 0 p (omega arith))
tree_inj (negation a0) (negation b0) p = λ i. negation (tree_inj a0 b0 (ap (λ g. tail g) p) i)
tree_inj (negation a0) (pair b0 b1 b2) p = absurd (apart 1 2 p (omega arith))
tree_inj (negation a0) (span b0 b1 b2 b3) p = absurd (apart 1 3 p (omega arith))
tree_inj (negation a0) (link b0 b1 b2 b3 b4) p = absurd (apart 1 4 p (omega arith))
tree_inj (pair a0 a1 a2) (leaf b0) p = absurd (apart 2 0 p (omega arith))
tree_inj (pair a0 a1 a2) (negation b0) p = absurd (apart 2 1 p (omega arith))
tree_inj (pair a0 a1 a2) (pair b0 b1 b2) p = λ i. pair (pair_kind.the_row.coded.inj a0 b0 (ap (λ g. head (tail g)) p) i) (tree_inj a1 b1 (ap (λ g. head (tail (tail g))) p) i) (tree_inj a2 b2 (ap (λ g. tail (tail (tail g))) p) i)
tree_inj (pair a0 a1 a2) (span b0 b1 b2 b3) p = absurd (apart 2 3 p (omega arith))
tree_inj (pair a0 a1 a2) (link b0 b1 b2 b3 b4) p = absurd (apart 2 4 p (omega arith))
tree_inj (span a0 a1 a2 a3) (leaf b0) p = absurd (apart 3 0 p (omega arith))
tree_inj (span a0 a1 a2 a3) (negation b0) p = absurd (apart 3 1 p (omega arith))
tree_inj (span a0 a1 a2 a3) (pair b0 b1 b2) p = absurd (apart 3 2 p (omega arith))
tree_inj (span a0 a1 a2 a3) (span b0 b1 b2 b3) p = λ i. span (span_kind.the_row.coded.inj a0 b0 (ap (λ g. head (tail g)) p) i) (coded_ℕ.inj a1 b1 (ap (λ g. head (tail (tail g))) p) i) (coded_ℕ.inj a2 b2 (ap (λ g. head (tail (tail (tail g)))) p) i) (tree_inj a3 b3 (ap (λ g. tail (tail (tail (tail g)))) p) i)
tree_inj (span a0 a1 a2 a3) (link b0 b1 b2 b3 b4) p = absurd (apart 3 4 p (omega arith))
tree_inj (link a0 a1 a2 a3 a4) (leaf b0) p = absurd (apart 4 0 p (omega arith))
tree_inj (link a0 a1 a2 a3 a4) (negation b0) p = absurd (apart 4 1 p (omega arith))
tree_inj (link a0 a1 a2 a3 a4) (pair b0 b1 b2) p = absurd (apart 4 2 p (omega arith))
tree_inj (link a0 a1 a2 a3 a4) (span b0 b1 b2 b3) p = absurd (apart 4 3 p (omega arith))
tree_inj (link a0 a1 a2 a3 a4) (link b0 b1 b2 b3 b4) p = λ i. link (link_kind.the_row.coded.inj a0 b0 (ap (λ g. head (tail g)) p) i) (coded_ℕ.inj a1 b1 (ap (λ g. head (tail (tail g))) p) i) (coded_ℕ.inj a2 b2 (ap (λ g. head (tail (tail (tail g)))) p) i) (tree_inj a3 b3 (ap (λ g. head (tail (tail (tail (tail g))))) p) i) (tree_inj a4 b4 (ap (λ g. tail (tail (tail (tail (tail g))))) p) i)

abbrev pub coded_tree : Coded FormulaTree
coded_tree = record { code = tree_code; inj = tree_inj }

abbrev pub coded_named_trees : Coded (List NamedTree)
coded_named_trees =
    coded_list
    (code_by (List ℕ × FormulaTree) (coded× (coded_list coded_ℕ) coded_tree) (λ r. (r.name, r.tree)) (λ p. rule_named p.0 p.1)
    (λ _. refl))
