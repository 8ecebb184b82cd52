-- A tree is no deeper than it has nodes, so a draft is within the limits.
use Rattle.std.proofs.Common.{ℕ, ◌≡◌, ◌≤◌, ◌<◌, ◌+◌, arith}
use Rattle.mtl_formulas.specs.declared.formula.Formula.{Formula}
use Rattle.mtl_formulas.specs.declared.formula.PairKind.{PairKind}
use Rattle.mtl_formulas.specs.declared.formula.SpanKind.{SpanKind}
use Rattle.mtl_formulas.specs.declared.formula.SpanKind.TheVariants.{F, G, O, H}
use Rattle.mtl_formulas.specs.declared.formula.LinkKind.TheVariants.{S}
use Rattle.mtl_formulas.specs.FormulaTree.{FormulaTree, leaf, negation, pair, span, link, tree_of}
use Rattle.mtl_formulas.specs.FormulaMeasures.{depth_of, node_count, reach_of, span_reach, IsValid}
use Rattle.rule_set.specs.Inner.Drafts.{IsDraft, IsMade}

depth_within : (t : FormulaTree) → depth_of t ≤ node_count t
depth_within (leaf a) = omega arith
depth_within (negation t) = omega (arith, depth_within t)
depth_within (pair kind s t) = omega (arith, depth_within s, depth_within t)
depth_within (span kind l u t) = omega (arith, depth_within t)
depth_within (link kind l u s t) = omega (arith, depth_within s, depth_within t)

pub draft_is_valid : (t : FormulaTree) → IsDraft t → IsValid t
draft_is_valid t h = record { parts = h.parts; depth = omega (arith, depth_within t); nodes = omega arith; reach = h.reach }

pub negation_draft : (t : FormulaTree) → IsDraft t → node_count t < 64 → IsDraft (negation t)
negation_draft t h few = record { parts = h.parts; nodes = omega arith; reach = h.reach }

pub pair_draft : (kind : PairKind) (s t : FormulaTree) → IsDraft s → IsDraft t → node_count s + node_count t < 64 → IsDraft (pair kind s t)
pair_draft kind s t h k few = record { parts = (h.parts, k.parts); nodes = omega arith; reach = omega (arith, h.reach, k.reach) }

span_reach_within : (kind : SpanKind) (u : ℕ) → span_reach kind u ≤ u
span_reach_within F u = omega arith
span_reach_within G u = omega arith
span_reach_within O u = omega arith
span_reach_within H u = omega arith

pub span_draft : (kind : SpanKind) (u : ℕ) (t : FormulaTree) → IsDraft t → node_count t < 64 → u ≤ 7200 → reach_of t ≡ 0 → IsDraft (span kind 0 u t)
span_draft kind u t h few near alone =
    record { parts = (omega arith, near, h.parts); nodes = omega arith; reach = omega (arith, span_reach_within kind u) }

pub since_draft : (u : ℕ) (s t : FormulaTree) → IsDraft s → IsDraft t → node_count s + node_count t < 64 → u ≤ 7200 → IsDraft (link S 0 u s t)
since_draft u s t h k few near =
    record { parts = (omega arith, near, h.parts, k.parts); nodes = omega arith; reach = omega (arith, h.reach, k.reach) }

pub made : (f : Formula) (t : FormulaTree) (most : ℕ) → tree_of f ≡ t → node_count t ≤ most → IsMade f t most
made f t most h few = record { tree = h; nodes = rw h few }
