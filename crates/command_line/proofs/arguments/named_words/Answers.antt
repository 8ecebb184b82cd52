use Rattle.std.proofs.Common.{◌≡◌, ◌∙◌, ◌+◌, ◌<◌, ◌++◌, ◌∷◌, ℕ, List, [], ap, codes, get_or, length, map, sym, take}
use Rattle.std.specs.Borrow.{Bor}
use Rattle.std.proofs.lemmas.List.{map-append, take_all, take_more}
use Rattle.clap.specs.Words.{Text}
use Rattle.command_line.proofs.arguments.named_words.Goals as goal

abbrev texts_of : List (Bor Text) → List Text
texts_of texts = map (λ text. text.now) texts

first_text : (none new : List (Bor Text)) (t : Bor Text) → none ≡ [] → new ≡ none ++ t ∷ [] → texts_of new ≡ t.now ∷ []
first_text none new t empty pushed = ap texts_of (pushed ∙ ap (λ (texts : List (Bor Text)). texts ++ t ∷ []) empty)

-- one word more behind the program's name
next_text : (old new : List (Bor Text)) (t : Bor Text) (name : Text) (words : List Text) (k : ℕ) (word : Text) → k < length words → word ≡ get_or words k word
    → t.now ≡ word → texts_of old ≡ name ∷ take k words → new ≡ old ++ t ∷ [] → texts_of new ≡ name ∷ take (k + 1) words
next_text old new t name words k word lt at same before pushed =
    ap texts_of pushed ∙ map-append (λ (text : Bor Text). text.now) old (t ∷ []) ∙ ap (λ (texts : List Text). texts ++ t.now ∷ []) before
    ∙ ap (λ (w : Text). (name ∷ take k words) ++ w ∷ []) (same ∙ at) ∙ ap (λ (texts : List Text). name ∷ texts) (sym (take_more words k word lt))

pub loop-word-init : goal.loop-word-init
loop-word-init c = first_text _ _ _ c.new-texts.ensures.items c.in_ok-push.ensures.items

pub loop-word-preserved : goal.loop-word-preserved
loop-word-preserved c =
    next_text _ _ _ (codes "colregs") c.args.words.now c.loop-word.word-index c.word-item.result c.loop-word-test.true c.word-item.is c.text.ensures c.loop-word.invariant
    c.in_ok-push-2.ensures.items

pub returns : goal.returns
returns c =
    c.loop-word.invariant ∙ ap (λ (texts : List Text). codes "colregs" ∷ texts) (take_all c.loop-word.word-index c.args.words.now c.loop-word-test.false)
