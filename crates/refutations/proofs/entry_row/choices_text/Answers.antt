use Rattle.std.proofs.Common.{◌≡◌, ◌∙◌, ◌++◌, ◌∷◌, [], List, ℕ, take, get_or, arith, ap, sym}
use Rattle.std.specs.Fmt.{decimal}
use Rattle.refutations.specs.EntryRows.{choices_text}
use Rattle.refutations.proofs.WrittenChoices.{first_written, more_written}
use Rattle.refutations.proofs.entry_row.choices_text.Goals as goal
use Rattle.refutations.proofs.entry_row.choices_text.Goals.{then-k-gt0+in_ok-push, else-k-gt0}

pub loop-k-preserved : goal.loop-k-preserved
loop-k-preserved c =
    let cs = c.args.choices.now in
    let k = c.loop-k.k in
    let digit : c.digits.result.now ≡ decimal (get_or cs k 0) = c.digits.ensures ∙ ap decimal c.from.ensures in
    let whole : c.extend_from_slice.new.self.items ≡ c.if-k-gt0.text.items ++ decimal (get_or cs k 0) =
    c.in_ok-extend_from_slice.ensures.items ∙ ap (λ (ds : List ℕ). c.if-k-gt0.text.items ++ ds) digit in
    let old : c.loop-k.text.items ≡ choices_text (take k cs) = c.loop-k.invariant in
    elim c.if-k-gt0.branch [
      | then-k-gt0+in_ok-push w ↦ (let is = w.text-is in
          let pushed = w.in_ok-push.ensures.items in
          let front : c.if-k-gt0.text.items ≡ choices_text (take k cs) ++ 46 ∷ [] = cc in
          whole ∙ (ap (λ (t : List ℕ). t ++ decimal (get_or cs k 0)) front ∙ sym (more_written cs k 0 c.loop-k-test.true w.if-k-gt0.true)))
      | else-k-gt0 w ↦ (let is = w.text-is in
          let front : c.if-k-gt0.text.items ≡ choices_text (take k cs) = cc in
          whole ∙ (ap (λ (t : List ℕ). t ++ decimal (get_or cs k 0)) front ∙ sym (first_written cs k 0 c.loop-k-test.true (omega (arith, w.if-k-gt0.false)))))
    ]
