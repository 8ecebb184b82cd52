use Rattle.std.proofs.Common.{◌≡◌, ◌∙◌, ◌++◌, ◌∷◌, [], List, ℕ, OnOk, refl, ap, subst}
use Rattle.std.specs.Fmt.{decimal}
use Rattle.refutations.specs.EntryRows.{choices_text}
use Rattle.refutations.specs.EntryTexts.{HasRows}
use Rattle.report_csv.specs.CsvRows.{row_of}
use Rattle.refutations.proofs.entry_row.EntryRows.write.Goals as goal

fields : {o a b c d e f a' b' c' d' e' f' : List ℕ} → a ≡ a' → b ≡ b' → c ≡ c' → d ≡ d' → e ≡ e' → f ≡ f' → o ∷ a ∷ b ∷ c ∷ d ∷ e ∷ f ∷ [] ≡ o ∷ a' ∷ b' ∷ c' ∷ d' ∷ e' ∷ f' ∷ []
fields p q r s t u = cc

pub returns-in-Domain : goal.returns-in-Domain
returns-in-Domain c =
    rw c.in-Domain.is
    (subst (λ (row : List (List ℕ)). OnOk c.write_fields.result ((text : List ℕ) → HasRows c.args.self.now text → HasRows c.write_fields.new.self (text ++ row_of row)))
    (fields (c.deref.ensures.value ∙ (c.in_ok-choices.ensures ∙ ap choices_text c.choices.ensures.choices)) (c.digits-target.ensures ∙ ap decimal c.from.ensures) refl
    (c.digits.ensures ∙ ap decimal c.from-in-Domain.ensures) c.digits-in-Domain.ensures c.digits-in-Domain-2.ensures)
    c.write_fields.ensures)

pub returns : goal.returns
returns c =
    rw c.in-Rule.is
    (subst (λ (row : List (List ℕ)). OnOk c.write_fields-in-Rule.result ((text : List ℕ) → HasRows c.args.self.now text → HasRows c.write_fields-in-Rule.new.self (text ++ row_of row)))
    (fields (c.deref-in-Rule.ensures.value ∙ (c.in_ok-choices.ensures ∙ ap choices_text c.choices.ensures.choices)) (c.digits-target.ensures ∙ ap decimal c.from.ensures) c.name.ensures.name
    (c.digits-in-Rule.ensures ∙ ap decimal c.from-in-Rule.ensures) refl refl)
    c.write_fields-in-Rule.ensures)
