-- The parser finds a wrong token exactly where the grammar has one.
use Rattle.std.proofs.Common.{◌≡◌, ℕ, List, [], ◌∷◌, ◌++◌, refl, sym, ◌∙◌, ap, subst, append_assoc, Option, Some, None, Result, Ok, Err, ◌⊎◌, inl, inr}
use Rattle.std.proofs.lemmas.List.{append-nil, map-append}
use Rattle.mtl_language.specs.declared.tokens.Token.{Token}
use Rattle.mtl_language.specs.declared.tokens.IndexedToken.{IndexedToken}
use Rattle.mtl_language.specs.declared.postfix.PostfixItem.{PostfixItem}
use Rattle.mtl_language.specs.declared.postfix.Expected.{Expected}
use Rattle.mtl_formulas.specs.FormulaTree.{FormulaTree}
use Rattle.mtl_language.specs.FormulaTokens.{kinds}
use Rattle.mtl_language.specs.FormulaGrammar.{IsFormula, BeginsFormula}
use Rattle.mtl_language.specs.FormulaReading.{IsFirstWrong, IsUnfinished}
use Rattle.mtl_language.specs.Inner.Postfix.{After, postfix_of, taken, left_with, all_left_out, or_fault, read_before, read_on, read, at_start}
use Rattle.mtl_language.proofs.ParserLoops.{left_with-none, left_with-twice}
use Rattle.mtl_language.proofs.Completeness.{run, run_on, run-formula}
use Rattle.mtl_language.proofs.Soundness.{Gives, Follows, follows, Ends, ends, all_completed, formula_at_start}

-- reading with indices and without
abbrev Agrees : Result (List PostfixItem) ℕ → Option (List PostfixItem) → Type 0
Agrees (Ok c) (Some d) = c ≡ d
Agrees (Err p) None = Unit {0}
Agrees _ _ = ⊥

agrees : (end : ℕ) (σ : List Expected) (ps : List IndexedToken) → Agrees (read end σ ps) (run σ (kinds ps))
agrees end σ [] = by_cases (all_left_out σ)
  where
    by_cases : (o : Option (List PostfixItem)) → Agrees (or_fault end o) o
    by_cases None = tt
    by_cases (Some c) = refl
agrees end σ (p ∷ ps) = by_cases (taken p.token σ) (λ next. agrees end next ps)
  where
    before : (w : List PostfixItem) (r : Result (List PostfixItem) ℕ) (o : Option (List PostfixItem)) → Agrees r o → Agrees (read_before w r) (left_with (Some w) o)
    before w (Ok c) (Some d) h = ap (λ (x : List PostfixItem). w ++ x) h
    before w (Ok c) None h = absurd h
    before w (Err q) None h = tt
    before w (Err q) (Some d) h = absurd h

    by_cases : (o : Option After) → ((next : List Expected) → Agrees (read end next ps) (run next (kinds ps))) →
        Agrees (read_on p.index o (λ next. read end next ps)) (run_on o (λ next. run next (kinds ps)))
    by_cases None h = tt
    by_cases (Some a) h = before a.1 (read end a.0 ps) (run a.0 (kinds ps)) (h a.0)

agrees_ok : (r : Result (List PostfixItem) ℕ) (o : Option (List PostfixItem)) (c : List PostfixItem) → Agrees r o → r ≡ Ok c → o ≡ Some c
agrees_ok (Ok d) (Some e) c h is = ap Some (sym h) ∙ cc
agrees_ok (Ok d) None c h is = absurd h
agrees_ok (Err q) o c h is = cc

agrees_some : (r : Result (List PostfixItem) ℕ) (o : Option (List PostfixItem)) (c : List PostfixItem) → Agrees r o → o ≡ Some c → r ≡ Ok c
agrees_some (Ok d) (Some e) c h is = ap Ok h ∙ cc
agrees_some (Ok d) None c h is = absurd h
agrees_some (Err q) None c h is = cc
agrees_some (Err q) (Some e) c h is = absurd h

-- what was read is a formula
abbrev Reads : Option (List PostfixItem) → List Expected → List Token → Type 0
Reads None σ ts = Unit {0}
Reads (Some c) σ ts = Gives σ ts c []

reads : (σ : List Expected) (ts : List Token) → Reads (run σ ts) σ ts
reads σ [] = by_cases (all_left_out σ) (ends σ)
  where
    by_cases : (o : Option (List PostfixItem)) → Ends o σ → Reads o σ []
    by_cases None h = tt
    by_cases (Some c) h = h []
reads σ (t ∷ ts) = by_cases (taken t σ) (follows t σ) (λ next. reads next ts)
  where
    inner : (a : After) (o : Option (List PostfixItem)) → Follows (Some a) σ t → Reads o a.0 ts → Reads (left_with (Some a.1) o) σ (t ∷ ts)
    inner a None h k = tt
    inner a (Some c) h k = h ts c [] k

    by_cases : (o : Option After) → Follows o σ t → ((next : List Expected) → Reads (run next ts) next ts) → Reads (run_on o (λ next. run next ts)) σ (t ∷ ts)
    by_cases None h k = tt
    by_cases (Some a) h k = inner a (run a.0 ts) h (k a.0)

reads_is : (o : Option (List PostfixItem)) (σ : List Expected) (ts : List Token) (c : List PostfixItem) → Reads o σ ts → o ≡ Some c → Gives σ ts c []
reads_is None σ ts c h is = cc
reads_is (Some d) σ ts c h is = let e : d ≡ c = cc in rw e at h

-- The postfix form that was read is that of a formula.
pub read_formula : (end : ℕ) (ps : List IndexedToken) (c : List PostfixItem) → read end at_start ps ≡ Ok c → (t : FormulaTree) × IsFormula (kinds ps) t × (c ≡ postfix_of t)
read_formula end ps c is =
    formula_at_start (kinds ps) c
    (reads_is (run at_start (kinds ps)) at_start (kinds ps) c (reads at_start (kinds ps)) (agrees_ok (read end at_start ps) (run at_start (kinds ps)) c (agrees end at_start ps) is))

pub formula_read : (end : ℕ) (ps : List IndexedToken) (t : FormulaTree) → IsFormula (kinds ps) t → read end at_start ps ≡ Ok (postfix_of t)
formula_read end ps t p =
    agrees_some (read end at_start ps) (run at_start (kinds ps)) (postfix_of t) (agrees end at_start ps) (run-formula (kinds ps) t p)

-- From the start, these tokens lead to what is expected now.
record Reached (xs : List Token) (σ : List Expected) : Type 0 where
  written : List PostfixItem
  sound : (ys : List Token) (c : List PostfixItem) → Gives σ ys c [] → (d : List PostfixItem) × Gives at_start (xs ++ ys) d []
  complete : (ys : List Token) → run at_start (xs ++ ys) ≡ left_with (Some written) (run σ ys)

reached_start : Reached [] at_start
reached_start = record {
  written = [];
  sound = λ ys c g. (c, g);
  complete = λ ys. left_with-none (run at_start ys);
}

follows_is : (o : Option After) (σ : List Expected) (t : Token) (a : After) → Follows o σ t → o ≡ Some a → Follows (Some a) σ t
follows_is o σ t a h is = rw is at h

reached_more : (xs : List Token) (σ : List Expected) (t : Token) (a : After) → Reached xs σ → taken t σ ≡ Some a → Reached (xs ++ t ∷ []) a.0
reached_more xs σ t a h is = record {
  written = h.written ++ a.1;
  sound = λ ys c g. rw append_assoc (h.sound (t ∷ ys) (a.1 ++ c) (follows_is (taken t σ) σ t a (follows t σ) is ys c [] g));
  complete = λ ys.
      ap (run at_start) (append_assoc xs (t ∷ []) ys)
      ∙ (h.complete (t ∷ ys)
      ∙ (ap (λ o. left_with (Some h.written) (run_on o (λ next. run next ys))) is
      ∙ left_with-twice h.written a.1 (run a.0 ys)));
}

reached_begins : (xs : List Token) (σ : List Expected) → Reached xs σ → BeginsFormula xs
reached_begins xs σ h =
    let (ys, c, g) = all_completed σ [] in
    let (d, whole) = h.sound ys c g in
    let (t, p, same) = formula_at_start (xs ++ ys) d whole in
    (ys, t, p)

-- With a token that is not taken no formula begins.
reached_wrong : (xs : List Token) (σ : List Expected) (t : Token) → Reached xs σ → taken t σ ≡ None → BeginsFormula (xs ++ t ∷ []) → ⊥
reached_wrong xs σ t h none b =
    let (more, f, p) = b in
    let some : run at_start ((xs ++ t ∷ []) ++ more) ≡ Some (postfix_of f) = run-formula ((xs ++ t ∷ []) ++ more) f p in
    let no : run at_start ((xs ++ t ∷ []) ++ more) ≡ None =
    ap (run at_start) (append_assoc xs (t ∷ []) more)
    ∙ (h.complete (t ∷ more) ∙ ap (λ o. left_with (Some h.written) (run_on o (λ next. run next more))) none) in
    cc

reached_unfinished : (xs : List Token) (σ : List Expected) → Reached xs σ → all_left_out σ ≡ None → (f : FormulaTree) → IsFormula xs f → ⊥
reached_unfinished xs σ h none f p =
    let some : run at_start xs ≡ Some (postfix_of f) = run-formula xs f p in
    let no : run at_start xs ≡ None =
    ap (run at_start) (sym (append-nil xs)) ∙ (h.complete [] ∙ ap (left_with (Some h.written)) none) in
    cc

ends_is : (o : Option (List PostfixItem)) (σ : List Expected) (w : List PostfixItem) → Ends o σ → o ≡ Some w → Ends (Some w) σ
ends_is o σ w h is = rw is at h

reached_finished : (xs : List Token) (σ : List Expected) (w : List PostfixItem) → Reached xs σ → all_left_out σ ≡ Some w → (f : FormulaTree) × IsFormula xs f
reached_finished xs σ w h is =
    let (d, g) = h.sound [] w (ends_is (all_left_out σ) σ w (ends σ) is []) in
    let (f, p, same) = formula_at_start (xs ++ []) d g in
    (f, subst (λ ts. IsFormula ts f) (append-nil xs) p)

-- where reading stops: at the first wrong token, or at the end
Stops : ℕ → List IndexedToken → ℕ → Type 0
Stops end ps index = IsFirstWrong ps index ⊎ IsUnfinished ps × (index ≡ end)

kinds-append : (xs ys : List IndexedToken) → kinds (xs ++ ys) ≡ kinds xs ++ kinds ys
kinds-append xs ys = map-append (λ (p : IndexedToken). p.token) xs ys

beginning_front : (xs ys : List Token) → BeginsFormula (xs ++ ys) → BeginsFormula xs
beginning_front xs ys b = let (more, f, p) = b in (ys ++ more, f, rw append_assoc at p)

err_is : (p q : ℕ) → (let r : Result (List PostfixItem) ℕ = Err p in r ≡ Err q) → q ≡ p
err_is p q h = cc

read_before-err : (w : List PostfixItem) (r : Result (List PostfixItem) ℕ) (index : ℕ) → read_before w r ≡ Err index → r ≡ Err index
read_before-err w (Ok c) index h = cc
read_before-err w (Err q) index h = h

-- If reading answers an index, the tokens stop there.
read_stops : (end : ℕ) (before : List IndexedToken) (σ : List Expected) (ps : List IndexedToken) (index : ℕ) →
    Reached (kinds before) σ → read end σ ps ≡ Err index → Stops end (before ++ ps) index
unfolding Stops
read_stops end before σ [] index h is = rw append-nil (by_cases (all_left_out σ) refl is)
  where
    by_cases : (o : Option (List PostfixItem)) → all_left_out σ ≡ o → or_fault end o ≡ Err index → IsFirstWrong before index ⊎ IsUnfinished before × (index ≡ end)
    by_cases (Some c) e stop = cc
    by_cases None e stop = inr (
      record {
        right = reached_begins (kinds before) σ h;
        none = reached_unfinished (kinds before) σ h e;
      },
      err_is end index stop,
    )
read_stops end before σ (p ∷ ps) index h is = by_cases (taken p.token σ) refl is (λ next more stop. read_stops end (before ++ p ∷ []) next ps index more stop)
  where
    by_cases : (o : Option After) → taken p.token σ ≡ o → read_on p.index o (λ next. read end next ps) ≡ Err index →
        ((next : List Expected) → Reached (kinds (before ++ p ∷ [])) next → read end next ps ≡ Err index → IsFirstWrong ((before ++ p ∷ []) ++ ps) index ⊎ IsUnfinished ((before ++ p ∷ []) ++ ps) × (index ≡ end)) →
        IsFirstWrong (before ++ p ∷ ps) index ⊎ IsUnfinished (before ++ p ∷ ps) × (index ≡ end)
    by_cases None e stop rest = inl (record {
      before = before;
      wrong = p;
      after = ps;
      parts = refl;
      right = reached_begins (kinds before) σ h;
      none = reached_wrong (kinds before) σ p.token h e;
      at = err_is p.index index stop;
    })
    by_cases (Some a) e stop rest =
        rw append_assoc at (rest a.0 (rw kinds-append (reached_more (kinds before) σ p.token a h e)) (read_before-err a.1 (read end a.0 ps) index stop))

-- If the tokens stop, reading answers that index.
stop_read : (end : ℕ) (xs : List Token) (σ : List Expected) (before : List IndexedToken) (w : IndexedToken) (after : List IndexedToken) →
    Reached xs σ → BeginsFormula (xs ++ kinds before) → (BeginsFormula ((xs ++ kinds before) ++ w.token ∷ []) → ⊥) → read end σ (before ++ w ∷ after) ≡ Err w.index
stop_read end xs σ [] w after h right none = by_cases (taken w.token σ) refl
  where
    by_cases : (o : Option After) → taken w.token σ ≡ o → read_on w.index o (λ next. read end next after) ≡ Err w.index
    by_cases None e = refl
    by_cases (Some a) e = absurd (none (rw append-nil (reached_begins (xs ++ w.token ∷ []) a.0 (reached_more xs σ w.token a h e))))
stop_read end xs σ (b ∷ before) w after h right none =
    by_cases (taken b.token σ) refl (λ next more r n. stop_read end (xs ++ b.token ∷ []) next before w after more r n)
  where
    regrouped : (xs ++ b.token ∷ []) ++ kinds before ≡ xs ++ (b.token ∷ kinds before)
    regrouped = append_assoc xs (b.token ∷ []) (kinds before)

    by_cases : (o : Option After) → taken b.token σ ≡ o →
        ((next : List Expected) → Reached (xs ++ b.token ∷ []) next → BeginsFormula ((xs ++ b.token ∷ []) ++ kinds before) →
        (BeginsFormula (((xs ++ b.token ∷ []) ++ kinds before) ++ w.token ∷ []) → ⊥) → read end next (before ++ w ∷ after) ≡ Err w.index) →
        read_on b.index o (λ next. read end next (before ++ w ∷ after)) ≡ Err w.index
    by_cases None e rest = absurd (reached_wrong xs σ b.token h e (beginning_front (xs ++ b.token ∷ []) (kinds before) (rw regrouped right)))
    by_cases (Some a) e rest =
        ap (read_before a.1) (rest a.0 (reached_more xs σ b.token a h e) (rw regrouped right) (rw regrouped none))

end_read : (end : ℕ) (xs : List Token) (σ : List Expected) (ps : List IndexedToken) →
    Reached xs σ → BeginsFormula (xs ++ kinds ps) → ((t : FormulaTree) → IsFormula (xs ++ kinds ps) t → ⊥) → read end σ ps ≡ Err end
end_read end xs σ [] h right none = by_cases (all_left_out σ) refl
  where
    by_cases : (o : Option (List PostfixItem)) → all_left_out σ ≡ o → or_fault end o ≡ Err end
    by_cases None e = refl
    by_cases (Some w) e = let (f, p) = reached_finished xs σ w h e in absurd (none f (rw append-nil p))
end_read end xs σ (b ∷ ps) h right none = by_cases (taken b.token σ) refl (λ next more r n. end_read end (xs ++ b.token ∷ []) next ps more r n)
  where
    regrouped : (xs ++ b.token ∷ []) ++ kinds ps ≡ xs ++ (b.token ∷ kinds ps)
    regrouped = append_assoc xs (b.token ∷ []) (kinds ps)

    by_cases : (o : Option After) → taken b.token σ ≡ o →
        ((next : List Expected) → Reached (xs ++ b.token ∷ []) next → BeginsFormula ((xs ++ b.token ∷ []) ++ kinds ps) →
        ((t : FormulaTree) → IsFormula ((xs ++ b.token ∷ []) ++ kinds ps) t → ⊥) → read end next ps ≡ Err end) →
        read_on b.index o (λ next. read end next ps) ≡ Err end
    by_cases None e rest = absurd (reached_wrong xs σ b.token h e (beginning_front (xs ++ b.token ∷ []) (kinds ps) (rw regrouped right)))
    by_cases (Some a) e rest =
        ap (read_before a.1) (rest a.0 (reached_more xs σ b.token a h e) (rw regrouped right) (rw regrouped none))

pub fault_read : (end : ℕ) (ps : List IndexedToken) (index : ℕ) → IsFirstWrong ps index ⊎ IsUnfinished ps × (index ≡ end) → read end at_start ps ≡ Err index
fault_read end ps index (inl f) =
    rw (f.parts, f.at) (stop_read end [] at_start f.before f.wrong f.after reached_start f.right f.none)
fault_read end ps index (inr (u, at)) = rw at (end_read end [] at_start ps reached_start u.right u.none)

pub read_fault : (end : ℕ) (ps : List IndexedToken) (index : ℕ) → read end at_start ps ≡ Err index → IsFirstWrong ps index ⊎ IsUnfinished ps × (index ≡ end)
unfolding Stops
read_fault end ps index is = read_stops end [] at_start ps index reached_start is
