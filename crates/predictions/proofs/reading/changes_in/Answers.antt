use Rattle.std.proofs.Common.{◌≡◌, ℕ, ◌+◌, Bool, true, false, ◌<◌, List, [], ◌∷◌, ◌++◌, length, get_or, map, take, refl, ap, ap₂, sym, ◌∙◌}
use Rattle.std.specs.List.{list_all}
use Rattle.std.proofs.lemmas.List.{map_more}
use Rattle.std.proofs.lemmas.List.Folds.{list_all_at}
use Rattle.toml.specs.View.{view}
use Rattle.predictions.specs.PredictFaults.{change_numbers_at, is_change_of}
use Rattle.predictions.specs.PredictValues.{change_of}
use Rattle.predictions.proofs.reading.changes_in.Goals as goal

each_passes : {X : Type 0} (p : X → Bool) (xs items : List X) (i : ℕ) (x : X) → list_all p xs ≡ true → items ≡ xs → i < length items → x ≡ get_or items i x → p x ≡ true
each_passes p xs items i x all is lt at = by_test (p x) (λ no. list_all_at p xs i x (rw (← is) lt) (rw (← is, ← at) no))
  where
    by_test : (b : Bool) → (b ≡ false → list_all p xs ≡ false) → b ≡ true
    by_test true fails = refl
    by_test false fails = sym (fails refl) ∙ all

mapped_more : {X Y : Type 0} (f : X → Y) (xs items : List X) (ys zs : List Y) (i : ℕ) (x : X) (y : Y) → items ≡ xs → i < length items → x ≡ get_or items i x → ys ≡ map f (take i xs)
    → y ≡ f x → zs ≡ ys ++ y ∷ [] → zs ≡ map f (take (i + 1) xs)
mapped_more f xs items ys zs i x y is lt at so_far here more =
    more ∙ (ap₂ (λ l z. l ++ z ∷ []) so_far (here ∙ ap f (at ∙ ap (λ l. get_or l i x) is)) ∙ sym (map_more f xs i x (rw (← is) lt)))

pub change_in-requires : goal.change_in-requires
change_in-requires c =
    each_passes (λ v. is_change_of (change_numbers_at (view v))) c.args.list.now.items c.deref-found-items.result.now c.loop-found.found-index c.found-item.result
    c.requires c.deref-found-items.ensures.value c.loop-found-test.true c.found-item.is

pub loop-found-preserved : goal.loop-found-preserved
loop-found-preserved c =
    mapped_more (λ v. change_of (change_numbers_at (view v))) c.args.list.now.items c.deref-found-items.result.now c.loop-found.changes.items c.push.new.self.items c.loop-found.found-index
    c.found-item.result c.change_in.result c.deref-found-items.ensures.value c.loop-found-test.true c.found-item.is c.loop-found.invariant c.change_in.ensures c.in_ok-push.ensures.items
