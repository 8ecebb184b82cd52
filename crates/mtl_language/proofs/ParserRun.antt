-- The parser's loop over the tokens.
use Rattle.std.proofs.Common.{◌≡◌, ℕ, true, false, List, [], ◌∷◌, ◌++◌, reverse, refl, sym, ◌∙◌, ap, append_assoc, Option, Some, None, Result, Ok, Err}
use Rattle.std.specs.Global.{Vec}
use Rattle.mtl_language.specs.declared.tokens.IndexedToken.{IndexedToken}
use Rattle.mtl_language.specs.declared.parsing.ParseFault.{ParseFault}
use Rattle.mtl_language.specs.declared.parsing.ParseFault.TheVariants.{Memory}
use Rattle.mtl_language.specs.declared.postfix.PostfixItem.{PostfixItem}
use Rattle.mtl_language.specs.declared.postfix.Expected.{Expected}
use Rattle.mtl_language.specs.Inner.Postfix.{After, taken, all_left_out, or_fault, read_before, read_on, read, formula_and, at_start, Takes, LeavesOut, Arranges}

read_before-nothing : (r : Result (List PostfixItem) ℕ) → read_before [] r ≡ r
read_before-nothing (Ok c) = refl
read_before-nothing (Err p) = refl

read_before-twice : (v w : List PostfixItem) (r : Result (List PostfixItem) ℕ) → read_before v (read_before w r) ≡ read_before (v ++ w) r
read_before-twice v w (Ok c) = ap Ok (sym (append_assoc v w c))
read_before-twice v w (Err p) = refl

-- if memory ran out, nothing more is said
pub memory_out : (r : Result (Vec PostfixItem) ParseFault) (e : ParseFault) (outcome : Result (List PostfixItem) ℕ) → r ≡ Err e → e ≡ Memory → Arranges r outcome
memory_out r e outcome is memory = rw (is, memory) tt

module _ (end : ℕ) (all : List IndexedToken) where
  -- the postfix form so far and that for the tokens that are left make that for all
  pub record Arranged (stack : List Expected) (postfix : List PostfixItem) (left : List IndexedToken) : Type 0 where
    pub same : read_before postfix (read end (reverse stack) left) ≡ read end at_start all

  pub arranged_more : (stack stack' : List Expected) (postfix postfix' : List PostfixItem) (p : IndexedToken) (left : List IndexedToken) →
      Arranged stack postfix (p ∷ left) → Takes true (taken p.token (reverse stack)) stack' postfix postfix' → Arranged stack' postfix' left
  arranged_more stack stack' postfix postfix' p left h takes = by_cases (taken p.token (reverse stack)) refl takes
    where
      by_cases : (o : Option After) → taken p.token (reverse stack) ≡ o → Takes true o stack' postfix postfix' → Arranged stack' postfix' left
      by_cases None e t = absurd t
      by_cases (Some a) e t = record {
        same =
            rw (t.0, t.1) (sym (read_before-twice postfix a.1 (read end a.0 left)))
            ∙ (ap (λ o. read_before postfix (read_on p.index o (λ next. read end next left))) (sym e) ∙ h.same);
      }

  pub arranged_none : (stack : List Expected) (postfix : List PostfixItem) → stack ≡ reverse (formula_and []) → postfix ≡ [] → Arranged stack postfix all
  arranged_none stack postfix s p = record {
    same = rw (s, p) (read_before-nothing (read end at_start all));
  }

  -- the token is wrong
  pub arranged_wrong : (stack stack' : List Expected) (postfix postfix' : List PostfixItem) (p : IndexedToken) (left : List IndexedToken) →
      Arranged stack postfix (p ∷ left) → Takes false (taken p.token (reverse stack)) stack' postfix postfix' → read end at_start all ≡ Err p.index
  arranged_wrong stack stack' postfix postfix' p left h takes = by_cases (taken p.token (reverse stack)) refl takes
    where
      by_cases : (o : Option After) → taken p.token (reverse stack) ≡ o → Takes false o stack' postfix postfix' → read end at_start all ≡ Err p.index
      by_cases (Some a) e t = absurd t
      by_cases None e t = sym h.same ∙ ap (λ o. read_before postfix (read_on p.index o (λ next. read end next left))) e

  -- the tokens end too early
  pub arranged_early : (stack : List Expected) (postfix postfix' : List PostfixItem) →
      Arranged stack postfix [] → LeavesOut false (all_left_out (reverse stack)) postfix postfix' → read end at_start all ≡ Err end
  arranged_early stack postfix postfix' h leaves = by_cases (all_left_out (reverse stack)) refl leaves
    where
      by_cases : (o : Option (List PostfixItem)) → all_left_out (reverse stack) ≡ o → LeavesOut false o postfix postfix' → read end at_start all ≡ Err end
      by_cases (Some w) e t = absurd t
      by_cases None e t = sym h.same ∙ ap (λ o. read_before postfix (or_fault end o)) e

  pub arranged_all : (stack : List Expected) (postfix postfix' : List PostfixItem) →
      Arranged stack postfix [] → LeavesOut true (all_left_out (reverse stack)) postfix postfix' → read end at_start all ≡ Ok postfix'
  arranged_all stack postfix postfix' h leaves = by_cases (all_left_out (reverse stack)) refl leaves
    where
      by_cases : (o : Option (List PostfixItem)) → all_left_out (reverse stack) ≡ o → LeavesOut true o postfix postfix' → read end at_start all ≡ Ok postfix'
      by_cases None e t = absurd t
      by_cases (Some w) e t = sym h.same ∙ (ap (λ o. read_before postfix (or_fault end o)) e ∙ ap Ok (sym t))
