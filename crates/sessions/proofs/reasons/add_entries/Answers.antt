use Rattle.std.proofs.Common.{ℕ, ◌≡◌, ◌+◌, ◌<◌, List, [], ◌∷◌, ◌++◌, length, take, flat_map, append-nil, sym, ap, subst, ◌∙◌}
use Rattle.std.proofs.lemmas.Grind.{flat_map-append}
use Rattle.std.proofs.lemmas.List.{take_more}
use Rattle.std.proofs.Math.ListN.{get_or}
use Rattle.refutations.specs.EntryRows.{entry_text}
use Rattle.refutations.specs.EntryTexts.{HasRows}
use Rattle.refutations.specs.declared.entry.WhyEntry.{WhyEntry}
use Rattle.sessions.proofs.reasons.add_entries.Goals as goal

-- the rows of the first elements, and of one more
one_more : {X : Type 0} (f : X → List ℕ) (xs : List X) (k : ℕ) (d : X) → k < length xs → flat_map f (take k xs) ++ f (get_or xs k d) ≡ flat_map f (take (k + 1) xs)
one_more f xs k d lt =
    ap (λ (l : List ℕ). flat_map f (take k xs) ++ l) (sym (append-nil (f (get_or xs k d)))) ∙ sym (flat_map-append f (take k xs) (get_or xs k d ∷ []))
    ∙ ap (flat_map f) (sym (take_more xs k d lt))

pub loop-entry-preserved : goal.loop-entry-preserved
loop-entry-preserved c =
    let f : WhyEntry → List ℕ = entry_text c.args.situation.now in
    let entries = c.args.entries.now in
    let k = c.loop-entry.entry-index in
    subst (HasRows c.write.new.self)
    (ap (λ (entry : WhyEntry). flat_map f (take k entries) ++ f entry) c.entry-item.is ∙ one_more f entries k c.entry-item.result c.loop-entry-test.true)
    (c.in_ok-write.ensures _ c.loop-entry.invariant)
