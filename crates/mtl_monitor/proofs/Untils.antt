-- The value of an operator U by what it reaches in its window, and by its first operand before that.
use Rattle.std.proofs.Common.{◌≡◌, ℕ, zero, suc, ◌+◌, ◌-◌, refl, ap, ap₂, ◌∙◌, arith}
use Rattle.mtl_formulas.specs.declared.verdict.Verdict.{Verdict}
use Rattle.mtl_formulas.specs.declared.verdict.Verdict.TheVariants.{No, Open, Yes}
use Rattle.mtl_formulas.specs.declared.formula.LinkKind.TheVariants.{U}
use Rattle.mtl_formulas.specs.VerdictOrder.{least, greatest}
use Rattle.mtl_formulas.specs.FormulaValue.{greatest_over, least_over, link_value}
use Rattle.mtl_formulas.proofs.Verdicts.{least_over-suc}
use Rattle.mtl_monitor.specs.Inner.Lookahead.{reached_over}
use Rattle.mtl_monitor.proofs.Lookaheads.{least-greatest}

least_no : (v : Verdict) → No ≡ least v No
least_no No = refl
least_no Open = refl
least_no Yes = refl

least_comm : (v w : Verdict) → least v w ≡ least w v
least_comm No No = refl
least_comm No Open = refl
least_comm No Yes = refl
least_comm Open No = refl
least_comm Open Open = refl
least_comm Open Yes = refl
least_comm Yes No = refl
least_comm Yes Open = refl
least_comm Yes Yes = refl

least_assoc : (u v w : Verdict) → least (least u v) w ≡ least u (least v w)
least_assoc No v w = refl
least_assoc Yes v w = refl
least_assoc Open No w = refl
least_assoc Open Yes w = refl
least_assoc Open Open No = refl
least_assoc Open Open Open = refl
least_assoc Open Open Yes = refl

spread : (x y z w : Verdict) → greatest (least y x) (least (least x z) w) ≡ least x (greatest y (least z w))
spread x y z w = ap₂ greatest (least_comm y x) (least_assoc x z w) ∙ least-greatest x y (least z w)

module _ (a b : ℕ → Verdict) (i : ℕ) where
  pub until_over-split : (l count : ℕ) → greatest_over (λ k. least (b k) (least_over a i (k - i))) (i + l) count ≡ least (least_over a i l) (reached_over a b (i + l) count)
  until_over-split l zero = least_no (least_over a i l)
  until_over-split l (suc count) =
      let distance : (i + l) - i ≡ l = omega arith in
      let next : (i + l) + 1 ≡ i + (l + 1) = omega arith in
      let more : l + 1 ≡ suc l = omega arith in
      let longer : least_over a i (l + 1) ≡ least (least_over a i l) (a (i + l)) = ap (least_over a i) more ∙ least_over-suc a i l in
      let rest : greatest_over (λ k. least (b k) (least_over a i (k - i))) ((i + l) + 1) count ≡ least (least (least_over a i l) (a (i + l))) (reached_over a b ((i + l) + 1) count) =
      rw next (until_over-split (l + 1) count ∙ ap (λ v. least v (reached_over a b (i + (l + 1)) count)) longer) in
      rw (distance, rest) (spread (least_over a i l) (b (i + l)) (a (i + l)) (reached_over a b ((i + l) + 1) count))

  pub until-split : (l u : ℕ) → link_value U l u a b i ≡ least (least_over a i l) (reached_over a b (i + l) ((u + 1) - l))
  until-split l u = until_over-split l ((u + 1) - l)
