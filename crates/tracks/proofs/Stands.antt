-- A book stands for one more message.
use Rattle.std.proofs.Common.{◌≡◌, ◌≢◌, ◌∙◌, ℕ, zero, suc, ◌+◌, ◌<◌, ◌≤◌, inl, inr, Bool, true, false, List, [], ◌∷◌, ◌++◌, length, map, get_or, set, Some, None, refl, ap, sym, subst, arith}
use Rattle.std.specs.Prelude.{Option, slice_get}
use Rattle.std.specs.List.{All, Contains, insert, last_or}
use Rattle.std.proofs.lemmas.List.Edits.{length-insert}
use Rattle.tracks.specs.AcceptedReports.{JudgingNumbers}
use Rattle.tracks.specs.Standing.{BookValue, StandsFor, VesselValue, kept_points, vessel_held, vessel_of}
use Rattle.tracks.specs.VesselsHeld.{Sent, accepted_of, entry_at, entry_of, held_of, is_held, reported_in, sender_of, with_number}
use Rattle.tracks.specs.Inner.AscendingNumbers.{Ascends}
use Rattle.tracks.specs.Inner.Keeping.{makes_held, untold, vessel_after}
use Rattle.tracks.specs.declared.accepted.Accepted.{Accepted}
use Rattle.tracks.specs.declared.entry.Entry.{Entry}
use Rattle.tracks.specs.declared.keeping.Keeping.{Keeping}
use Rattle.tracks.specs.declared.keeping.Keeping.TheVariants.{Tracks}
use Rattle.tracks.proofs.Ascending.{Contains_from_among, IsAmong, among_above, among_passes, with_number-among}
use Rattle.tracks.proofs.Holding.{held_among, held_of-ascends, held_of-more, held_of-same, is_held-first, is_held-stays, no_points, vessel_untold}
use Rattle.tracks.proofs.KeptReports.{kept_points-last, kept_points-none}
use Rattle.tracks.proofs.Rising.{accepted_in_order}
use Rattle.tracks.proofs.Messages.{vessel_of-other, vessel_of-own}

-- ---- a map of ascending numbers, changed at one of them

pub map_at : {V : Type 0} (f : ℕ → V) (ms : List ℕ) (at m : ℕ) (d : V) → slice_get ms at ≡ Some m → get_or (map f ms) at d ≡ f m
map_at f [] at m d e = absurd (cc)
map_at f (n ∷ ms) zero m d e = let same : n ≡ m = cc in ap f same
map_at f (n ∷ ms) (suc at) m d e = map_at f ms at m d e

pub among_at : (ms : List ℕ) (at m : ℕ) → slice_get ms at ≡ Some m → IsAmong m ms
among_at [] at m e = absurd (cc)
among_at (n ∷ ms) zero m e = inl (cc)
among_at (n ∷ ms) (suc at) m e = inr (among_at ms at m e)

map_agree : {V : Type 0} (f g : ℕ → V) (m : ℕ) (ms : List ℕ) → ((k : ℕ) → k ≢ m → g k ≡ f k) → ((k : ℕ) → IsAmong k ms → k ≢ m) → map g ms ≡ map f ms
map_agree f g m [] agree other = refl
map_agree f g m (n ∷ ms) agree other =
    let first : g n ≡ f n = agree n (other n (inl refl)) in
    let rest : map g ms ≡ map f ms = map_agree f g m ms agree (λ k h. other k (inr h)) in
    λ i. first i ∷ rest i

above_other : (m : ℕ) (ms : List ℕ) → All (λ k. m < k) ms → (k : ℕ) → IsAmong k ms → k ≢ m
above_other m ms all k h same = absurd (let lt : m < k = among_above k m ms all h in omega arith)

pub set-map : {V : Type 0} (f g : ℕ → V) (ms : List ℕ) (at m : ℕ) → Ascends ms → slice_get ms at ≡ Some m → ((k : ℕ) → k ≢ m → g k ≡ f k)
    → set (map f ms) at (g m) ≡ map g ms
set-map f g [] at m h e agree = absurd (cc)
set-map f g (n ∷ ms) zero m h e agree =
    let same : n ≡ m = cc in
    let all : All (λ k. m < k) ms = subst (λ (k : ℕ). All (λ j. k < j) ms) same h.0 in
    let rest : map g ms ≡ map f ms = map_agree f g m ms agree (above_other m ms all) in
    λ i. g (sym same i) ∷ sym rest i
set-map f g (n ∷ ms) (suc at) m h e agree =
    let lt : n < m = among_above m n ms h.0 (among_at ms at m e) in
    let ne : n ≢ m = omega arith in
    let first : g n ≡ f n = agree n ne in
    let rest = set-map f g ms at m h.1 e agree in
    λ i. sym first i ∷ rest i

map-insert : {V : Type 0} (g : ℕ → V) (ms : List ℕ) (at m : ℕ) → insert (map g ms) at (g m) ≡ map g (insert ms at m)
map-insert g ms zero m = refl
map-insert g [] (suc at) m = refl
map-insert g (n ∷ ms) (suc at) m = ap (λ (vs : List _). g n ∷ vs) (map-insert g ms at m)

-- ---- a message of a vessel that is held

pub vessel_at : (book : BookValue) (numbers : JudgingNumbers) (sent : List Sent) (at m : ℕ) (vessel : VesselValue) → StandsFor book numbers sent
    → slice_get book.held at ≡ Some m → vessel ≡ get_or book.vessels at vessel → vessel ≡ vessel_of book.keeping numbers sent m
vessel_at book numbers sent at m vessel h e is =
    is ∙ ap (λ (vs : List VesselValue). get_or vs at vessel) h.vessels
    ∙ map_at (vessel_of book.keeping numbers sent) (held_of numbers sent) at m vessel (ap (λ (ms : List ℕ). slice_get ms at) (sym h.holds) ∙ e)

pub entry_after : (keeping : Keeping) (numbers : JudgingNumbers) (sent : List Sent) (one : Sent) (points : List Accepted)
    → points ≡ kept_points keeping (accepted_of numbers sent (sender_of one.message))
    → entry_at numbers (last_or None points) (reported_in one) ≡ entry_of numbers sent one
unfolding entry_of
entry_after keeping numbers sent one points same =
    ap (λ (latest : Option Accepted). entry_at numbers latest (reported_in one))
    (ap (last_or None) same ∙ kept_points-last keeping (accepted_of numbers sent (sender_of one.message)) (accepted_in_order numbers sent (sender_of one.message)))

pub held_at : (book : BookValue) (numbers : JudgingNumbers) (sent : List Sent) (at m : ℕ) → StandsFor book numbers sent → slice_get book.held at ≡ Some m → is_held numbers sent m ≡ true
unfolding held_of
held_at book numbers sent at m h e = among_passes (is_held numbers sent) m _ (among_at _ at m (ap (λ (ms : List ℕ). slice_get ms at) (sym h.holds) ∙ e))

-- the vessels held stay the same
pub held_further : (book : BookValue) (numbers : JudgingNumbers) (sent : List Sent) (one : Sent) (at : ℕ) → StandsFor book numbers sent
    → slice_get book.held at ≡ Some (sender_of one.message) → held_of numbers (sent ++ one ∷ []) ≡ held_of numbers sent
held_further book numbers sent one at h e =
    let m = sender_of one.message in
    held_of-more numbers sent one (is_held-stays numbers sent one m refl (held_at book numbers sent at m h e))
    ∙ with_number-among m (held_of numbers sent) (held_of-ascends numbers sent)
    (among_at (held_of numbers sent) at m (ap (λ (ms : List ℕ). slice_get ms at) (sym h.holds) ∙ e))

pub stands_further : (book new : BookValue) (numbers : JudgingNumbers) (sent : List Sent) (one : Sent) (at : ℕ) (vessel : VesselValue) → StandsFor book numbers sent
    → slice_get book.held at ≡ Some (sender_of one.message) → vessel ≡ get_or book.vessels at vessel
    → new.keeping ≡ book.keeping → new.numbers ≡ book.numbers → new.held ≡ book.held
    → new.vessels ≡ set book.vessels at (vessel_after book.keeping book.numbers vessel one)
    → StandsFor new numbers (sent ++ one ∷ [])
stands_further book new numbers sent one at vessel h e is same-keeping same-numbers same-held vessels =
    let m = sender_of one.message in
    let ms = held_of numbers sent in
    let here : slice_get ms at ≡ Some m = ap (λ (ks : List ℕ). slice_get ks at) (sym h.holds) ∙ e in
    let held = held_further book numbers sent one at h e in
    let f : ℕ → VesselValue = vessel_of book.keeping numbers sent in
    let g : ℕ → VesselValue = vessel_of book.keeping numbers (sent ++ one ∷ []) in
    let changed : vessel_after book.keeping book.numbers vessel one ≡ g m =
    (λ i. vessel_after book.keeping (h.by i) (vessel_at book numbers sent at m vessel h e is i) one) ∙ sym (vessel_of-own book.keeping numbers sent one m refl) in
    record {
      by = same-numbers ∙ h.by;
      holds = same-held ∙ h.holds ∙ sym held;
      vessels = vessels ∙ (λ i. set (h.vessels i) at (changed i))
          ∙ set-map f g ms at m (held_of-ascends numbers sent) here (λ k ne. vessel_of-other book.keeping numbers sent one k ne)
          ∙ (λ i. map (vessel_of (sym same-keeping i) numbers (sent ++ one ∷ [])) (sym held i));
    }

-- ---- a message of a vessel that is not held

not_held : (book : BookValue) (numbers : JudgingNumbers) (sent : List Sent) (m : ℕ) → StandsFor book numbers sent → ¬ IsAmong m book.held → is_held numbers sent m ≡ false
not_held book numbers sent m h not = decide (is_held numbers sent m) refl
  where
    decide : (b : Bool) → is_held numbers sent m ≡ b → is_held numbers sent m ≡ false
    decide true e = absurd (not (subst (IsAmong m) (sym h.holds) (held_among numbers sent m e)))
    decide false e = e

pub entry_first : (book : BookValue) (numbers : JudgingNumbers) (sent : List Sent) (one : Sent) → StandsFor book numbers sent → ¬ IsAmong (sender_of one.message) book.held
    → entry_at book.numbers None (reported_in one) ≡ entry_of numbers sent one
entry_first book numbers sent one h not =
    ap (λ (n : JudgingNumbers). entry_at n None (reported_in one)) h.by
    ∙ entry_after Tracks numbers sent one [] (sym (no_points numbers sent (sender_of one.message) (not_held book numbers sent (sender_of one.message) h not)))

-- The message does not make its vessel held.
pub held_without : (book : BookValue) (numbers : JudgingNumbers) (sent : List Sent) (one : Sent) → StandsFor book numbers sent → ¬ IsAmong (sender_of one.message) book.held
    → makes_held book.numbers one ≡ false → held_of numbers (sent ++ one ∷ []) ≡ held_of numbers sent
held_without book numbers sent one h not no-holding =
    let m = sender_of one.message in
    let before = not_held book numbers sent m h not in
    held_of-same numbers sent one before (is_held-first numbers sent one m refl before ∙ ap (λ (n : JudgingNumbers). makes_held n one) (sym h.by) ∙ no-holding)

not_among : (m : ℕ) (ms ns : List ℕ) → ms ≡ ns → ¬ IsAmong m ms → (k : ℕ) → IsAmong k ns → k ≢ m
not_among m ms ns same not k h e = not (subst (IsAmong m) (sym same) (subst (λ (j : ℕ). IsAmong j ns) e h))

pub stands_without : (book : BookValue) (numbers : JudgingNumbers) (sent : List Sent) (one : Sent) → StandsFor book numbers sent → ¬ IsAmong (sender_of one.message) book.held
    → makes_held book.numbers one ≡ false → StandsFor book numbers (sent ++ one ∷ [])
stands_without book numbers sent one h not no-holding =
    let m = sender_of one.message in
    let held = held_without book numbers sent one h not no-holding in
    record {
      by = h.by;
      holds = h.holds ∙ sym held;
      vessels = h.vessels
          ∙ sym (map_agree (vessel_of book.keeping numbers sent) (vessel_of book.keeping numbers (sent ++ one ∷ [])) m (held_of numbers sent)
          (λ k ne. vessel_of-other book.keeping numbers sent one k ne) (not_among m book.held (held_of numbers sent) h.holds not))
          ∙ ap (map (vessel_of book.keeping numbers (sent ++ one ∷ []))) (sym held);
    }

-- The message makes its vessel held.
pub held_with : (book : BookValue) (numbers : JudgingNumbers) (sent : List Sent) (one : Sent) → StandsFor book numbers sent → ¬ IsAmong (sender_of one.message) book.held
    → makes_held book.numbers one ≡ true → held_of numbers (sent ++ one ∷ []) ≡ with_number (sender_of one.message) book.held
held_with book numbers sent one h not holding =
    let m = sender_of one.message in
    let before = not_held book numbers sent m h not in
    held_of-more numbers sent one (is_held-first numbers sent one m refl before ∙ ap (λ (n : JudgingNumbers). makes_held n one) (sym h.by) ∙ holding)
    ∙ ap (with_number m) (sym h.holds)

pub stands_with : (book new : BookValue) (numbers : JudgingNumbers) (sent : List Sent) (one : Sent) (at : ℕ) → StandsFor book numbers sent
    → ¬ IsAmong (sender_of one.message) book.held → makes_held book.numbers one ≡ true → with_number (sender_of one.message) book.held ≡ insert book.held at (sender_of one.message)
    → new.keeping ≡ book.keeping → new.numbers ≡ book.numbers → new.held ≡ insert book.held at (sender_of one.message)
    → new.vessels ≡ insert book.vessels at (vessel_after book.keeping book.numbers untold one)
    → StandsFor new numbers (sent ++ one ∷ [])
stands_with book new numbers sent one at h not holding more same-keeping same-numbers held vessels =
    let m = sender_of one.message in
    let f : ℕ → VesselValue = vessel_of book.keeping numbers sent in
    let g : ℕ → VesselValue = vessel_of book.keeping numbers (sent ++ one ∷ []) in
    let all = held_with book numbers sent one h not holding in
    let before = not_held book numbers sent m h not in
    let changed : vessel_after book.keeping book.numbers untold one ≡ g m =
    (λ i. vessel_after book.keeping (h.by i) (sym (vessel_untold book.keeping numbers sent m before) i) one) ∙ sym (vessel_of-own book.keeping numbers sent one m refl) in
    let others : book.vessels ≡ map g book.held =
    h.vessels ∙ ap (map f) (sym h.holds) ∙ sym (map_agree f g m book.held (λ k ne. vessel_of-other book.keeping numbers sent one k ne) (not_among m book.held book.held refl not)) in
    record {
      by = same-numbers ∙ h.by;
      holds = held ∙ sym more ∙ sym all;
      vessels = vessels ∙ (λ i. insert (others i) at (changed i)) ∙ map-insert g book.held at m
          ∙ (let now : insert book.held at m ≡ held_of numbers (sent ++ one ∷ []) = sym more ∙ sym all in λ i. map (vessel_of (sym same-keeping i) numbers (sent ++ one ∷ [])) (now i));
    }

pub count_with : (book : BookValue) (numbers : JudgingNumbers) (sent : List Sent) (one : Sent) (at : ℕ) → StandsFor book numbers sent
    → ¬ IsAmong (sender_of one.message) book.held → makes_held book.numbers one ≡ true → at ≤ length book.held
    → with_number (sender_of one.message) book.held ≡ insert book.held at (sender_of one.message)
    → length (held_of numbers (sent ++ one ∷ [])) ≡ length book.held + 1
count_with book numbers sent one at h not holding within more =
    ap (length {A = ℕ}) (held_with book numbers sent one h not holding ∙ more) ∙ length-insert book.held at (sender_of one.message) within

-- ---- by the sender's number

pub absent_as : (m : ℕ) (one : Sent) (ms : List ℕ) → m ≡ sender_of one.message → ¬ Contains ms m → ¬ IsAmong (sender_of one.message) ms
absent_as m one ms e not among = not (Contains_from_among m ms (subst (λ (k : ℕ). IsAmong k ms) (sym e) among))

pub stands_as : (book new : BookValue) (numbers : JudgingNumbers) (sent : List Sent) (one : Sent) (at m : ℕ) → m ≡ sender_of one.message → StandsFor book numbers sent
    → ¬ Contains book.held m → makes_held book.numbers one ≡ true → with_number m book.held ≡ insert book.held at m
    → new.keeping ≡ book.keeping → new.numbers ≡ book.numbers → new.held ≡ insert book.held at m
    → new.vessels ≡ insert book.vessels at (vessel_after book.keeping book.numbers untold one)
    → StandsFor new numbers (sent ++ one ∷ [])
stands_as book new numbers sent one at m e h not holding more same-keeping same-numbers held vessels =
    stands_with book new numbers sent one at h (absent_as m one book.held e not) holding
    (subst (λ (k : ℕ). with_number k book.held ≡ insert book.held at k) e more) same-keeping same-numbers (held ∙ ap (insert book.held at) e) vessels

pub count_as : (book : BookValue) (numbers : JudgingNumbers) (sent : List Sent) (one : Sent) (at m : ℕ) → m ≡ sender_of one.message → StandsFor book numbers sent
    → ¬ Contains book.held m → makes_held book.numbers one ≡ true → at ≤ length book.held → with_number m book.held ≡ insert book.held at m
    → length (held_of numbers (sent ++ one ∷ [])) ≡ length book.held + 1
count_as book numbers sent one at m e h not holding within more =
    count_with book numbers sent one at h (absent_as m one book.held e not) holding within (subst (λ (k : ℕ). with_number k book.held ≡ insert book.held at k) e more)

-- ---- the first message of a vessel that is not held

pub record IsFirst (book : BookValue) (one : Sent) (at m : ℕ) : Type 0 where
  pub sender : m ≡ sender_of one.message
  pub place : at ≤ length book.held
  pub absent : ¬ Contains book.held m
  pub more : with_number m book.held ≡ insert book.held at m

pub first_entry : (book : BookValue) (one : Sent) (at m : ℕ) (entry : Entry) → IsFirst book one at m → entry ≡ entry_at book.numbers None (reported_in one)
    → (numbers : JudgingNumbers) (sent : List Sent) → StandsFor book numbers sent → entry ≡ entry_of numbers sent one
first_entry book one at m entry first is numbers sent h =
    is ∙ entry_first book numbers sent one h (absent_as m one book.held first.sender first.absent)

pub first_stands : (book : BookValue) (one : Sent) (at m : ℕ) → IsFirst book one at m → makes_held book.numbers one ≡ false
    → (numbers : JudgingNumbers) (sent : List Sent) → StandsFor book numbers sent → StandsFor book numbers (sent ++ one ∷ [])
first_stands book one at m first not-holding numbers sent h =
    stands_without book numbers sent one h (absent_as m one book.held first.sender first.absent) not-holding

pub first_count : (book : BookValue) (one : Sent) (at m : ℕ) → IsFirst book one at m → makes_held book.numbers one ≡ false
    → (numbers : JudgingNumbers) (sent : List Sent) → StandsFor book numbers sent → length (held_of numbers (sent ++ one ∷ [])) ≡ length book.held
first_count book one at m first not-holding numbers sent h =
    ap (length {A = ℕ}) (held_without book numbers sent one h (absent_as m one book.held first.sender first.absent) not-holding ∙ sym h.holds)

pub first_count_more : (book : BookValue) (one : Sent) (at m : ℕ) → IsFirst book one at m → makes_held book.numbers one ≡ true
    → (numbers : JudgingNumbers) (sent : List Sent) → StandsFor book numbers sent → length (held_of numbers (sent ++ one ∷ [])) ≡ length book.held + 1
first_count_more book one at m first holding numbers sent h =
    count_as book numbers sent one at m first.sender h first.absent holding first.place first.more

-- ---- look-ups

pub found_vessel : (book : BookValue) (numbers : JudgingNumbers) (sent : List Sent) (at m : ℕ) (vessel : VesselValue) → StandsFor book numbers sent
    → slice_get book.held at ≡ Some m → vessel ≡ get_or book.vessels at vessel → Some vessel ≡ vessel_held book.keeping numbers sent m
found_vessel book numbers sent at m vessel h e is =
    rw (held_at book numbers sent at m h e) (ap (λ (v : VesselValue). Some v) (vessel_at book numbers sent at m vessel h e is))

-- a vessel that is not in the book
pub is_unheld : (book : BookValue) (numbers : JudgingNumbers) (sent : List Sent) (m : ℕ) → StandsFor book numbers sent → ¬ Contains book.held m
    → is_held numbers sent m ≡ false
is_unheld book numbers sent m h not = not_held book numbers sent m h (λ among. not (Contains_from_among m book.held among))

pub no_vessel : (book : BookValue) (numbers : JudgingNumbers) (sent : List Sent) (m : ℕ) → StandsFor book numbers sent → ¬ Contains book.held m
    → None ≡ vessel_held book.keeping numbers sent m
no_vessel book numbers sent m h not = rw (is_unheld book numbers sent m h not) refl

pub no_points_held : (keeping : Keeping) (numbers : JudgingNumbers) (sent : List Sent) (m : ℕ) → None ≡ vessel_held keeping numbers sent m
    → [] ≡ kept_points keeping (accepted_of numbers sent m)
no_points_held keeping numbers sent m none = decide (is_held numbers sent m) refl
  where
    decide : (b : Bool) → is_held numbers sent m ≡ b → [] ≡ kept_points keeping (accepted_of numbers sent m)
    decide true e = absurd (let some : vessel_held keeping numbers sent m ≡ Some (vessel_of keeping numbers sent m) = rw e refl in cc)
    decide false e = sym (ap (kept_points keeping) (no_points numbers sent m e) ∙ kept_points-none keeping)
