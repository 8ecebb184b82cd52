-- The legs between reports, and one report more.
use Rattle.std.proofs.Common.{◌≡◌, ℕ, List, [], ◌∷◌, ◌++◌, Some, None, refl, ap, ◌∙◌}
use Rattle.std.specs.Prelude.{Option}
use Rattle.std.specs.Option.{option_to_list}
use Rattle.std.specs.List.{cons_option, last_or}
use Rattle.tracks.specs.JoinedReports.{joined, legs_between, legs_from}
use Rattle.tracks.specs.Inner.Keeping.{joined_after}
use Rattle.tracks.specs.declared.accepted.Accepted.{Accepted}
use Rattle.tracks.proofs.Lasts.{cons_option-nil}

cons-append : {A : Type 0} (o : Option A) (xs ys : List A) → cons_option o (xs ++ ys) ≡ cons_option o xs ++ ys
cons-append None xs ys = refl
cons-append (Some x) xs ys = refl

legs_from-push : (gap : ℕ) (from : Accepted) (xs : List Accepted) (now : Accepted)
    → legs_from gap from (xs ++ now ∷ []) ≡ legs_from gap from xs ++ option_to_list (joined_after gap (last_or (Some from) xs) now)
unfolding legs_from
legs_from-push gap from [] now = cons_option-nil (joined gap from now)
legs_from-push gap from (x ∷ xs) now =
    ap (cons_option (joined gap from x)) (legs_from-push gap x xs now)
    ∙ cons-append (joined gap from x) (legs_from gap x xs) (option_to_list (joined_after gap (last_or (Some x) xs) now))

pub legs_between-push : (gap : ℕ) (xs : List Accepted) (now : Accepted)
    → legs_between gap (xs ++ now ∷ []) ≡ legs_between gap xs ++ option_to_list (joined_after gap (last_or None xs) now)
unfolding legs_from
legs_between-push gap [] now = refl
legs_between-push gap (x ∷ xs) now = legs_from-push gap x xs now
