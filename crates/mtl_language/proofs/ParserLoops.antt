-- The loops of the parser keep every property of what was expected at their start.
use Rattle.std.proofs.Common.{◌≡◌, true, false, List, [], ◌∷◌, ◌++◌, reverse, refl, sym, ◌∙◌, ap, append_assoc, Option, Some, None, length, ◌<◌, arith}
use Rattle.std.proofs.lemmas.List.{reverse-append, reverse-reverse, append-nil, length_push}
use Rattle.mtl_language.specs.declared.tokens.Token.{Token}
use Rattle.mtl_language.specs.declared.postfix.PostfixItem.{PostfixItem}
use Rattle.mtl_language.specs.declared.postfix.Expected.{Expected}
use Rattle.mtl_language.specs.Inner.Postfix.{After, replacement, left_out, written_before, taken_or_left, taken, left_with, all_left_out, Replaces, LeavesOut, Takes}

pub record Offered (token : Token) (stack₀ stack : List Expected) (postfix₀ postfix : List PostfixItem) : Type 0 where
  pub written : List PostfixItem
  pub postfix_is : postfix ≡ postfix₀ ++ written
  pub same : taken token (reverse stack₀) ≡ written_before written (taken token (reverse stack))

written_before-none : (o : Option After) → o ≡ written_before [] o
written_before-none None = refl
written_before-none (Some a) = refl

written_before-twice : (v w : List PostfixItem) (o : Option After) → written_before v (written_before w o) ≡ written_before (v ++ w) o
written_before-twice v w None = refl
written_before-twice v w (Some a) = ap (λ (c : List PostfixItem). Some (a.0, c)) (sym (append_assoc v w a.1))

pub offered_none : (token : Token) (stack : List Expected) (postfix : List PostfixItem) → Offered token stack stack postfix postfix
offered_none token stack postfix = record {
  written = [];
  postfix_is = sym (append-nil postfix);
  same = written_before-none (taken token (reverse stack));
}

reverse_push : (xs : List Expected) (e : Expected) → reverse (xs ++ e ∷ []) ≡ e ∷ reverse xs
reverse_push xs e = reverse-append xs (e ∷ [])

-- what the thing last expected does with a token
at_top : (token : Token) (stack rest : List Expected) (e : Expected) → stack ≡ rest ++ e ∷ [] →
    taken token (reverse stack) ≡ taken_or_left (replacement e token) (left_out e) (reverse rest) (taken token (reverse rest))
at_top token stack rest e top = ap (λ s. taken token (reverse s)) top ∙ ap (taken token) (reverse_push rest e)

put_is : (o : Option (List Expected)) (l : Option (List PostfixItem)) (rest after : List Expected) (r : Option After) → Replaces true o rest after →
    taken_or_left o l (reverse rest) r ≡ Some (reverse after, [])
put_is None l rest after r h = absurd h
put_is (Some new) l rest after r h =
    let turned : reverse after ≡ new ++ reverse rest = ap reverse h ∙ (reverse-append rest (reverse new) ∙ ap (λ (xs : List Expected). xs ++ reverse rest) (reverse-reverse new)) in
    ap (λ (xs : List Expected). Some (xs, [])) (sym turned)

pub left_is : (o : Option (List Expected)) (l : Option (List PostfixItem)) (rest after : List Expected) (r : Option After) (postfix postfix' : List PostfixItem) →
    Replaces false o rest after → LeavesOut true l postfix postfix' →
    (w : List PostfixItem) × (taken_or_left o l (reverse rest) r ≡ written_before w r) × (after ≡ rest) × (postfix' ≡ postfix ++ w)
left_is (Some new) l rest after r postfix postfix' p q = absurd p
left_is None None rest after r postfix postfix' p q = absurd q
left_is None (Some w) rest after r postfix postfix' p q = (w, refl, p, q)

put_same : (o : Option (List Expected)) (rest after : List Expected) → Replaces false o rest after → after ≡ rest
put_same None rest after h = h
put_same (Some new) rest after h = absurd h

-- what was taken off is gone
pub left_shorter : (o : Option (List Expected)) (stack rest after : List Expected) (e : Expected) → stack ≡ rest ++ e ∷ [] → Replaces false o rest after →
    length after < length stack
left_shorter o stack rest after e top puts = rw (put_same o rest after puts, top) (omega (arith, length_push rest e))

wrong_is : (o : Option (List Expected)) (l : Option (List PostfixItem)) (rest after : List Expected) (r : Option After) (postfix postfix' : List PostfixItem) →
    Replaces false o rest after → LeavesOut false l postfix postfix' → taken_or_left o l (reverse rest) r ≡ None
wrong_is (Some new) l rest after r postfix postfix' p q = absurd p
wrong_is None None rest after r postfix postfix' p q = refl
wrong_is None (Some w) rest after r postfix postfix' p q = absurd q

Takes_true : (o : Option After) (stack : List Expected) (before after : List PostfixItem) (a : After) → o ≡ Some a → reverse stack ≡ a.0 → after ≡ before ++ a.1 → Takes true o stack before after
Takes_true o stack before after a is p q = rw is (p, q)

Takes_false : (o : Option After) (stack : List Expected) (before after : List PostfixItem) → o ≡ None → Takes false o stack before after
Takes_false o stack before after is = rw is tt

module _ (token : Token) (stack₀ : List Expected) (postfix₀ : List PostfixItem) where
  -- the thing last expected was left out
  pub offered_more : (stack rest after : List Expected) (e : Expected) (postfix postfix' : List PostfixItem) →
      Offered token stack₀ stack postfix₀ postfix → stack ≡ rest ++ e ∷ [] → Replaces false (replacement e token) rest after →
      LeavesOut true (left_out e) postfix postfix' → Offered token stack₀ after postfix₀ postfix'
  offered_more stack rest after e postfix postfix' h top puts leaves =
      let (w, is, same, more) = left_is (replacement e token) (left_out e) rest after (taken token (reverse rest)) postfix postfix' puts leaves in
      record {
        written = h.written ++ w;
        postfix_is = more ∙ (ap (λ (s : List PostfixItem). s ++ w) h.postfix_is ∙ append_assoc postfix₀ h.written w);
        same = h.same ∙ (ap (written_before h.written) (at_top token stack rest e top ∙ is) ∙ (written_before-twice h.written w (taken token (reverse rest)) ∙ ap (λ s. written_before (h.written ++ w) (taken token (reverse s))) (sym same)));
      }

  pub offered_put : (stack rest after : List Expected) (e : Expected) (postfix : List PostfixItem) →
      Offered token stack₀ stack postfix₀ postfix → stack ≡ rest ++ e ∷ [] → Replaces true (replacement e token) rest after →
      Takes true (taken token (reverse stack₀)) after postfix₀ postfix
  offered_put stack rest after e postfix h top puts =
      let is = put_is (replacement e token) (left_out e) rest after (taken token (reverse rest)) puts in
      Takes_true (taken token (reverse stack₀)) after postfix₀ postfix (reverse after, h.written ++ [])
      (h.same ∙ ap (written_before h.written) (at_top token stack rest e top ∙ is)) refl
      (h.postfix_is ∙ ap (λ (w : List PostfixItem). postfix₀ ++ w) (sym (append-nil h.written)))

  pub offered_wrong : (stack rest after : List Expected) (e : Expected) (postfix postfix' : List PostfixItem) →
      Offered token stack₀ stack postfix₀ postfix → stack ≡ rest ++ e ∷ [] → Replaces false (replacement e token) rest after →
      LeavesOut false (left_out e) postfix postfix' → Takes false (taken token (reverse stack₀)) after postfix₀ postfix'
  offered_wrong stack rest after e postfix postfix' h top puts leaves =
      let is = wrong_is (replacement e token) (left_out e) rest after (taken token (reverse rest)) postfix postfix' puts leaves in
      Takes_false (taken token (reverse stack₀)) after postfix₀ postfix' (h.same ∙ ap (written_before h.written) (at_top token stack rest e top ∙ is))

  pub offered_all : (stack after : List Expected) (postfix : List PostfixItem) →
      Offered token stack₀ stack postfix₀ postfix → stack ≡ [] → Takes false (taken token (reverse stack₀)) after postfix₀ postfix
  offered_all stack after postfix h none =
      Takes_false (taken token (reverse stack₀)) after postfix₀ postfix (h.same ∙ ap (λ s. written_before h.written (taken token (reverse s))) none)

pub record Left (stack₀ stack : List Expected) (postfix₀ postfix : List PostfixItem) : Type 0 where
  pub written : List PostfixItem
  pub postfix_is : postfix ≡ postfix₀ ++ written
  pub same : all_left_out (reverse stack₀) ≡ left_with (Some written) (all_left_out (reverse stack))

pub left_with-none : (o : Option (List PostfixItem)) → o ≡ left_with (Some []) o
left_with-none None = refl
left_with-none (Some c) = refl

pub left_with-twice : (v w : List PostfixItem) (o : Option (List PostfixItem)) → left_with (Some v) (left_with (Some w) o) ≡ left_with (Some (v ++ w)) o
left_with-twice v w None = refl
left_with-twice v w (Some c) = ap Some (sym (append_assoc v w c))

LeavesOut_true : (o : Option (List PostfixItem)) (before after w : List PostfixItem) → o ≡ Some w → after ≡ before ++ w → LeavesOut true o before after
LeavesOut_true o before after w is h = rw is h

LeavesOut_false : (o : Option (List PostfixItem)) (before after : List PostfixItem) → o ≡ None → LeavesOut false o before after
LeavesOut_false o before after is = rw is tt

pub left_none : (stack : List Expected) (postfix : List PostfixItem) → Left stack stack postfix postfix
left_none stack postfix = record {
  written = [];
  postfix_is = sym (append-nil postfix);
  same = left_with-none (all_left_out (reverse stack));
}

at_last : (stack rest : List Expected) (e : Expected) → stack ≡ rest ++ e ∷ [] → all_left_out (reverse stack) ≡ left_with (left_out e) (all_left_out (reverse rest))
at_last stack rest e top = ap (λ s. all_left_out (reverse s)) top ∙ ap all_left_out (reverse_push rest e)

module _ (stack₀ : List Expected) (postfix₀ : List PostfixItem) where
  pub left_more : (stack rest : List Expected) (e : Expected) (postfix postfix' : List PostfixItem) →
      Left stack₀ stack postfix₀ postfix → stack ≡ rest ++ e ∷ [] → LeavesOut true (left_out e) postfix postfix' → Left stack₀ rest postfix₀ postfix'
  left_more stack rest e postfix postfix' h top leaves = by_cases (left_out e) refl leaves
    where
      by_cases : (l : Option (List PostfixItem)) → left_out e ≡ l → LeavesOut true l postfix postfix' → Left stack₀ rest postfix₀ postfix'
      by_cases None is q = absurd q
      by_cases (Some w) is q = record {
        written = h.written ++ w;
        postfix_is = q ∙ (ap (λ (s : List PostfixItem). s ++ w) h.postfix_is ∙ append_assoc postfix₀ h.written w);
        same = h.same ∙ (ap (left_with (Some h.written)) (at_last stack rest e top ∙ ap (λ l. left_with l (all_left_out (reverse rest))) is)
            ∙ left_with-twice h.written w (all_left_out (reverse rest)));
      }

  pub left_wrong : (stack rest : List Expected) (e : Expected) (postfix postfix' : List PostfixItem) →
      Left stack₀ stack postfix₀ postfix → stack ≡ rest ++ e ∷ [] → LeavesOut false (left_out e) postfix postfix' → LeavesOut false (all_left_out (reverse stack₀)) postfix₀ postfix'
  left_wrong stack rest e postfix postfix' h top leaves = by_cases (left_out e) refl leaves
    where
      by_cases : (l : Option (List PostfixItem)) → left_out e ≡ l → LeavesOut false l postfix postfix' → LeavesOut false (all_left_out (reverse stack₀)) postfix₀ postfix'
      by_cases (Some w) is q = absurd q
      by_cases None is q =
          LeavesOut_false (all_left_out (reverse stack₀)) postfix₀ postfix'
          (h.same ∙ ap (left_with (Some h.written)) (at_last stack rest e top ∙ ap (λ l. left_with l (all_left_out (reverse rest))) is))

  pub left_all : (stack : List Expected) (postfix : List PostfixItem) → Left stack₀ stack postfix₀ postfix → stack ≡ [] → LeavesOut true (all_left_out (reverse stack₀)) postfix₀ postfix
  left_all stack postfix h none =
      LeavesOut_true (all_left_out (reverse stack₀)) postfix₀ postfix (h.written ++ [])
      (h.same ∙ ap (λ s. left_with (Some h.written) (all_left_out (reverse s))) none)
      (h.postfix_is ∙ ap (λ (w : List PostfixItem). postfix₀ ++ w) (sym (append-nil h.written)))
