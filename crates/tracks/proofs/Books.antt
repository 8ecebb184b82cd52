-- A book with one more vessel is a book.
use Rattle.std.proofs.Common.{◌≡◌, ◌∙◌, ℕ, ◌+◌, ◌<◌, ◌≤◌, List, ◌∷◌, length, set, take, drop, Ok, Err, ap, sym, subst, arith}
use Rattle.std.specs.Prelude.{Result, OnErr, OnOk}
use Rattle.std.specs.List.{All, insert}
use Rattle.std.proofs.lemmas.List.{length-set}
use Rattle.std.proofs.lemmas.List.Edits.{length-insert}
use Rattle.std.proofs.lemmas.List.Elements.{All-append, All-cons, All-drop, All-set, All-take}
use Rattle.tracks.specs.Standing.{BookValue, VesselValue}
use Rattle.tracks.specs.VesselsHeld.{with_number}
use Rattle.tracks.specs.declared.book.TheConstants.{MOST_VESSELS}
use Rattle.tracks.specs.Inner.Keeping.{IsBook, IsKept}
use Rattle.tracks.proofs.Ascending.{with_number-ascends}

All-insert : {A : Type 0} (P : A → Type 0) (xs : List A) (at : ℕ) (x : A) → P x → All P xs → All P (insert xs at x)
All-insert P xs at x one all = All-append P (take at xs) (x ∷ drop at xs) (All-take P at xs all) (All-cons P x (drop at xs) one (All-drop P at xs all))

is_book_with : (old new : BookValue) (at m : ℕ) (vessel : VesselValue) → IsBook old → at ≤ length old.held → length old.held < MOST_VESSELS
    → with_number m old.held ≡ insert old.held at m → IsKept old.keeping old.numbers.gap vessel → new.keeping ≡ old.keeping → new.numbers ≡ old.numbers → new.held ≡ insert old.held at m
    → new.vessels ≡ insert old.vessels at vessel → IsBook new
is_book_with old new at m vessel h within room more kept keeping numbers held vessels =
    let each = h.each in
    record {
      numbers = rw numbers h.numbers;
      ascends = rw (held, ← more) (with_number-ascends m old.held h.ascends);
      few = omega (arith, ap (length {A = ℕ}) held, length-insert old.held at m within);
      each = ap (length {A = VesselValue}) vessels ∙ length-insert old.vessels at vessel (omega arith)
          ∙ ap (λ (n : ℕ). n + 1) each ∙ sym (length-insert old.held at m within) ∙ ap (length {A = ℕ}) (sym held);
      kept = rw (keeping, numbers, vessels) (All-insert (IsKept old.keeping old.numbers.gap) old.vessels at vessel kept h.kept);
    }

is_book_same : (old new : BookValue) → IsBook old → new.keeping ≡ old.keeping → new.numbers ≡ old.numbers → new.held ≡ old.held → new.vessels ≡ old.vessels → IsBook new
is_book_same old new h keeping numbers held vessels =
    let same : old ≡ new = λ i. record { keeping = sym keeping i; numbers = sym numbers i; held = sym held i; vessels = sym vessels i } in
    subst IsBook same h

pub is_book_after : {T E : Type 0} (r : Result T E) (old new : BookValue) (at m : ℕ) (vessel : VesselValue) → IsBook old → at ≤ length old.held → length old.held < MOST_VESSELS
    → with_number m old.held ≡ insert old.held at m → IsKept old.keeping old.numbers.gap vessel → new.keeping ≡ old.keeping → new.numbers ≡ old.numbers
    → OnOk r (new.held ≡ insert old.held at m) → OnOk r (new.vessels ≡ insert old.vessels at vessel)
    → OnErr r (new.held ≡ old.held) → OnErr r (new.vessels ≡ old.vessels) → IsBook new
is_book_after (Ok x) old new at m vessel h within room more kept keeping numbers held vessels held-same vessels-same =
    is_book_with old new at m vessel h within room more kept keeping numbers held vessels
is_book_after (Err e) old new at m vessel h within room more kept keeping numbers held vessels held-same vessels-same =
    is_book_same old new h keeping numbers held-same vessels-same

-- a book with another value of a vessel
pub is_book_set : (book : BookValue) (at : ℕ) (vessel : VesselValue) → IsBook book → IsKept book.keeping book.numbers.gap vessel
    → IsBook (record book { vessels = set book.vessels at vessel })
is_book_set book at vessel h kept = record {
  numbers = h.numbers;
  ascends = h.ascends;
  few = h.few;
  each = length-set book.vessels at vessel ∙ h.each;
  kept = All-set (IsKept book.keeping book.numbers.gap) book.vessels at vessel kept h.kept;
}
