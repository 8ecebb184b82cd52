-- A text has one meaning, and the parser returns it.
use Rattle.std.proofs.Common.{◌≡◌, ℕ, ◌≤◌, ◌<◌, ◌⊎◌, List, [], ◌∷◌, length, refl, sym, ◌∙◌, ap, Option, Some, None, Result, Ok, Err, arith, inl, inr}
use Rattle.std.specs.Prelude.{IfSome, IfOk}
use Rattle.std.proofs.lemmas.Bool.{cases_lt}
use Rattle.mtl_formulas.specs.declared.formula.Formula.{Formula}
use Rattle.mtl_language.specs.declared.parsing.ParseFault.{ParseFault}
use Rattle.mtl_language.specs.declared.parsing.ParseFault.TheVariants as faults
use Rattle.mtl_language.specs.declared.postfix.PostfixItem.{PostfixItem}
use Rattle.mtl_formulas.specs.FormulaTree.{FormulaTree, tree_of}
use Rattle.mtl_formulas.specs.FormulaMeasures.{depth_of, node_count, reach_of, HasValidParts, IsValid}
use Rattle.mtl_language.specs.FormulaTokens.{tokens_of, kinds}
use Rattle.mtl_language.specs.FormulaGrammar.{IsFormula}
use Rattle.mtl_language.specs.FormulaReading.{refused_indices, in_positions, ReadsAs, IsSyntaxFault, IsNumberFault, IsWithinLimits, IsTooLarge, Meaning, tree, syntax_fault, number_fault, size_fault, IsMeaning, HasOneMeaning, answered}
use Rattle.mtl_language.specs.Inner.Postfix.{postfix_of, read, at_start, Arranges}
use Rattle.mtl_language.specs.Inner.Building.{Builds}
use Rattle.mtl_language.proofs.Faults.{read_formula, formula_read, read_fault, fault_read}
use Rattle.mtl_language.proofs.Trees.{same_tree}
use Rattle.mtl_language.proofs.GoodNumbers.{formula_good, good_valid}

-- what the parser makes of the tokens
abbrev pub outcome : List ℕ → Result (List PostfixItem) ℕ
outcome text = read (length text) at_start (tokens_of text)

module _ (text : List ℕ) (tick : ℕ) where
  reading_outcome : (t : FormulaTree) (h : ReadsAs text tick t) → outcome text ≡ Ok (postfix_of h.written)
  reading_outcome t h = formula_read (length text) (tokens_of text) h.written h.formula

  same_reading : (s t : FormulaTree) → ReadsAs text tick s → ReadsAs text tick t → s ≡ t
  same_reading s t h k =
      let first = reading_outcome s h in
      let second = reading_outcome t k in
      let same : postfix_of h.written ≡ postfix_of k.written = cc in
      h.positions ∙ (same_tree tick h.written k.written same ∙ sym k.positions)

  within_large : (t : FormulaTree) → IsWithinLimits t → IsTooLarge t → ⊥
  within_large t (d, n, r) (inl deep) = omega arith
  within_large t (d, n, r) (inr (inl many)) = omega arith
  within_large t (d, n, r) (inr (inr far)) = omega arith

  syntax_outcome : (p : ℕ) → IsSyntaxFault text p → outcome text ≡ Err p
  syntax_outcome p h = fault_read (length text) (tokens_of text) p h

  number_outcome : (p : ℕ) (h : IsNumberFault text tick p) → outcome text ≡ Ok (postfix_of h.written)
  number_outcome p h = formula_read (length text) (tokens_of text) h.written h.formula

  -- A text has one meaning.
  pub one_meaning : (m n : Meaning) → IsMeaning text tick m → IsMeaning text tick n → m ≡ n
  one_meaning (tree s) (tree t) h k = ap tree (same_reading s t h.0 k.0)
  one_meaning (tree s) (syntax_fault p) h k = let a = reading_outcome s h.0 in let b = syntax_outcome p k in cc
  one_meaning (tree s) (number_fault p) h k = let a = h.0.numbers in let b = k.first in cc
  one_meaning (tree s) size_fault h k = absurd (within_large s h.1 (rw (same_reading s k.0 h.0 k.1) k.2))
  one_meaning (syntax_fault p) (tree t) h k = let a = reading_outcome t k.0 in let b = syntax_outcome p h in cc
  one_meaning (syntax_fault p) (syntax_fault q) h k = let a = syntax_outcome p h in let b = syntax_outcome q k in let same : p ≡ q = cc in ap syntax_fault same
  one_meaning (syntax_fault p) (number_fault q) h k = let a = number_outcome q k in let b = syntax_outcome p h in cc
  one_meaning (syntax_fault p) size_fault h k = let a = reading_outcome k.0 k.1 in let b = syntax_outcome p h in cc
  one_meaning (number_fault p) (tree t) h k = let a = k.0.numbers in let b = h.first in cc
  one_meaning (number_fault p) (syntax_fault q) h k = let a = number_outcome p h in let b = syntax_outcome q k in cc
  one_meaning (number_fault p) (number_fault q) h k = let a = h.first in let b = k.first in let same : p ≡ q = cc in ap number_fault same
  one_meaning (number_fault p) size_fault h k = let a = h.first in let b = k.1.numbers in cc
  one_meaning size_fault (tree t) h k = absurd (within_large t k.1 (rw (same_reading t h.0 k.0 h.1) h.2))
  one_meaning size_fault (syntax_fault q) h k = let a = reading_outcome h.0 h.1 in let b = syntax_outcome q k in cc
  one_meaning size_fault (number_fault q) h k = let a = k.first in let b = h.1.numbers in cc
  one_meaning size_fault size_fault h k = refl

  -- so the right answer is the only one
  pub only_answer : (o : Option Meaning) → IfSome o (IsMeaning text tick) → (m : Meaning) → IsMeaning text tick m → IfSome o (λ n. n ≡ m)
  only_answer None h m k = tt
  only_answer (Some n) h m k = one_meaning n m h k

  -- what can be built if no number is refused
  pub can_build : (c : List PostfixItem) → outcome text ≡ Ok c → refused_indices tick [] (tokens_of text) ≡ [] → 1 ≤ tick →
      (t : FormulaTree) × (c ≡ postfix_of t) × HasValidParts (in_positions tick t)
  can_build c is none some =
      let (t, p, same) = read_formula (length text) (tokens_of text) c is in
      (t, same, good_valid tick t some (formula_good tick text t p none))

  pub number_answer : (c : List PostfixItem) (index : ℕ) (more : List ℕ) → outcome text ≡ Ok c → refused_indices tick [] (tokens_of text) ≡ index ∷ more → IsNumberFault text tick index
  number_answer c index more is first =
      let (t, p, same) = read_formula (length text) (tokens_of text) c is in
      record { written = t; formula = p; more = more; first = first }

  pub built_answer : (c : List PostfixItem) (r : Result Formula ParseFault) → outcome text ≡ Ok c → refused_indices tick [] (tokens_of text) ≡ [] →
      ((t : FormulaTree) → c ≡ postfix_of t → Builds r (in_positions tick t)) → IfSome (answered r) (IsMeaning text tick)
  built_answer c r is none builds =
      let (t, p, same) = read_formula (length text) (tokens_of text) c is in
      by_cases t p r (builds t same)
    where
      by_cases : (t : FormulaTree) → IsFormula (kinds (tokens_of text)) t → (r : Result Formula ParseFault) → Builds r (in_positions tick t) → IfSome (answered r) (IsMeaning text tick)
      by_cases t p (Ok f) h = (record { written = t; formula = p; numbers = none; positions = h.0 }, rw h.0 h.1)
      by_cases t p (Err faults.Size) h = (in_positions tick t, record { written = t; formula = p; numbers = none; positions = refl }, h)
      by_cases t p (Err faults.Memory) h = tt
      by_cases t p (Err (faults.Syntax q)) h = absurd h
      by_cases t p (Err (faults.Number q)) h = absurd h

  pub syntax_answer : (index : ℕ) → outcome text ≡ Err index → IsSyntaxFault text index
  syntax_answer index is = read_fault (length text) (tokens_of text) index is

  pub arranged_fault : (e : ParseFault) → Arranges (Err e) (outcome text) → IfSome (answered (Err e)) (IsMeaning text tick)
  arranged_fault (faults.Syntax index) h = syntax_answer index h
  arranged_fault faults.Memory h = tt
  arranged_fault (faults.Number index) h = absurd h
  arranged_fault faults.Size h = absurd h

  -- what was built is valid
  pub built_valid : (c : List PostfixItem) (r : Result Formula ParseFault) → ((t : FormulaTree) × (c ≡ postfix_of t) × HasValidParts (in_positions tick t)) →
      ((t : FormulaTree) → c ≡ postfix_of t → Builds r (in_positions tick t)) → IfOk r (λ f. IsValid (tree_of f))
  built_valid c r can builds = let (t, same, valid) = can in by_cases t valid r (builds t same)
    where
      by_cases : (t : FormulaTree) → HasValidParts (in_positions tick t) → (r : Result Formula ParseFault) → Builds r (in_positions tick t) → IfOk r (λ f. IsValid (tree_of f))
      by_cases t v (Ok f) h = rw h.0 (record { parts = v; depth = h.1.0; nodes = h.1.1; reach = h.1.2 })
      by_cases t v (Err e) h = tt

module _ (text : List ℕ) (tick : ℕ) where
  -- a formula without a refused number has a meaning, whatever its size
  sized_meaning : (t : FormulaTree) → ReadsAs text tick t → (m : Meaning) × IsMeaning text tick m
  sized_meaning t reading = by_depth (cases_lt 64 (depth_of t))
    where
      by_reach : depth_of t ≤ 64 → node_count t ≤ 256 → (7200 < reach_of t) ⊎ (reach_of t ≤ 7200) → (m : Meaning) × IsMeaning text tick m
      by_reach shallow few (inl far) = (size_fault, (t, reading, inr (inr far)))
      by_reach shallow few (inr near) = (tree t, (reading, (shallow, few, near)))

      by_nodes : depth_of t ≤ 64 → (256 < node_count t) ⊎ (node_count t ≤ 256) → (m : Meaning) × IsMeaning text tick m
      by_nodes shallow (inl many) = (size_fault, (t, reading, inr (inl many)))
      by_nodes shallow (inr few) = by_reach shallow few (cases_lt 7200 (reach_of t))

      by_depth : (64 < depth_of t) ⊎ (depth_of t ≤ 64) → (m : Meaning) × IsMeaning text tick m
      by_depth (inl deep) = (size_fault, (t, reading, inl deep))
      by_depth (inr shallow) = by_nodes shallow (cases_lt 256 (node_count t))

  -- so has a text whose tokens are a formula
  formula_meaning : (t : FormulaTree) → IsFormula (kinds (tokens_of text)) t → (m : Meaning) × IsMeaning text tick m
  formula_meaning t p = by_numbers (refused_indices tick [] (tokens_of text)) refl
    where
      by_numbers : (indices : List ℕ) → refused_indices tick [] (tokens_of text) ≡ indices → (m : Meaning) × IsMeaning text tick m
      by_numbers [] none = sized_meaning (in_positions tick t) (record { written = t; formula = p; numbers = none; positions = refl })
      by_numbers (index ∷ more) first = (number_fault index, record { written = t; formula = p; more = more; first = first })

  some_meaning : (m : Meaning) × IsMeaning text tick m
  some_meaning = by_outcome (outcome text) refl
    where
      by_outcome : (r : Result (List PostfixItem) ℕ) → outcome text ≡ r → (m : Meaning) × IsMeaning text tick m
      by_outcome (Ok c) is = let (t, p, same) = read_formula (length text) (tokens_of text) c is in formula_meaning t p
      by_outcome (Err index) is = (syntax_fault index, syntax_answer text tick index is)

  -- Each text has a meaning, and no other.
  pub has_one_meaning : HasOneMeaning text tick
  has_one_meaning =
      let (m, right) = some_meaning in
      record { meaning = m; right = right; only = λ other h. one_meaning text tick other m h right }
