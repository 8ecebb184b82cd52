-- What one line more adds to what is made of each line.
use Rattle.std.proofs.Common.{◌≡◌, ℕ, List, [], ◌∷◌, ◌++◌, length, append_assoc, append-nil, Bool, true, false, ◌||◌, IsTrue, ◌<◌, ◌≤◌, nat_lt, Option, None, Some, unwrap_or, Result, Ok, Err, refl, ap, sym, ◌∙◌, arith}
use Rattle.std.specs.List.{filter_map, last_or, list_any}
use Rattle.std.specs.Option.{option_to_list}
use Rattle.std.proofs.lemmas.Bool.Decides.{nat_tests}
use Rattle.std.proofs.lemmas.List.Elements.{filter_map-append}
use Rattle.std.proofs.lemmas.List.Folds.{list_any-append}
use Rattle.scenario_values.specs.declared.values.Scenario.{Scenario}
use Rattle.tracks.specs.AcceptedReports.{JudgingNumbers}
use Rattle.tracks.specs.VesselsHeld.{Sent, held_of}
use Rattle.tracks.proofs.Lasts.{last_or-push}
use Rattle.log_lines.specs.EachLine.{each_after, each_line, ok_value}
use Rattle.log_lines.specs.JudgedLines.{greatest_held, held_behind, is_crowded, judged_line, judged_lines}
use Rattle.log_lines.specs.SentLines.{heard, heard_of, sent, sent_of}
use Rattle.log_lines.specs.Standing.{last_told}
use Rattle.log_lines.specs.StaticReports.{static_reports, static_told, told_of, told_sent}
use Rattle.log_lines.specs.Inner.JudgeState.{listed}
use Rattle.log_lines.specs.declared.outcome.LineOutcome.{LineOutcome}
use Rattle.log_lines.specs.declared.told_static.ToldStatic.{ToldStatic}

each_after-push : {A B : Type 0} (f : List A → A → B) (before xs : List A) (y : A)
    → each_after f before (xs ++ y ∷ []) ≡ each_after f before xs ++ f (before ++ xs) y ∷ []
unfolding each_after
each_after-push f before [] y = ap (λ b. f b y ∷ []) (sym (append-nil before))
each_after-push f before (x ∷ xs) y =
    ap (λ l. f before x ∷ l) (each_after-push f (before ++ x ∷ []) xs y)
    ∙ ap (λ b. f before x ∷ each_after f (before ++ x ∷ []) xs ++ f b y ∷ []) (append_assoc before (x ∷ []) xs)

listed_is : {A : Type 0} (r : Result A LineOutcome) → filter_map ok_value (r ∷ []) ≡ listed r
listed_is (Ok value) = refl
listed_is (Err came) = refl

values-push : {A : Type 0} (f : List (List ℕ) → List ℕ → Result A LineOutcome) (before : List (List ℕ)) (line : List ℕ)
    → filter_map ok_value (each_line f (before ++ line ∷ [])) ≡ filter_map ok_value (each_line f before) ++ listed (f before line)
values-push f before line =
    ap (filter_map ok_value) (each_after-push f [] before line)
    ∙ filter_map-append ok_value (each_line f before) (f before line ∷ [])
    ∙ ap (λ l. filter_map ok_value (each_line f before) ++ l) (listed_is (f before line))

pub heard-push : (scenario : Scenario) (before : List (List ℕ)) (line : List ℕ)
    → heard scenario (before ++ line ∷ []) ≡ heard scenario before ++ listed (heard_of scenario before line)
unfolding heard
heard-push scenario before line = values-push (heard_of scenario) before line

pub sent-push : (scenario : Scenario) (before : List (List ℕ)) (line : List ℕ)
    → sent scenario (before ++ line ∷ []) ≡ sent scenario before ++ listed (sent_of scenario before line)
unfolding sent
sent-push scenario before line = values-push (sent_of scenario) before line

pub judged-push : (scenario : Scenario) (before : List (List ℕ)) (line : List ℕ)
    → judged_lines scenario (before ++ line ∷ []) ≡ judged_lines scenario before ++ judged_line scenario before line ∷ []
unfolding judged_lines
judged-push scenario before line = each_after-push (judged_line scenario) [] before line

pub nothing_sent : (scenario : Scenario) → sent scenario [] ≡ []
unfolding sent each_after
nothing_sent scenario = refl

pub nothing_heard : (scenario : Scenario) → heard scenario [] ≡ []
unfolding heard each_after
nothing_heard scenario = refl

pub nothing_judged : (scenario : Scenario) → judged_lines scenario [] ≡ []
unfolding judged_lines each_after
nothing_judged scenario = refl

-- ---- the static reports

pub told-push : (scenario : Scenario) (before : List (List ℕ)) (line : List ℕ) → last_told scenario (before ++ line ∷ []) ≡ told_of scenario before line
told-push scenario before line =
    ap (λ (all : List (Option ToldStatic)). unwrap_or (last_or None all) None) (each_after-push (told_of scenario) [] before line)
    ∙ ap (λ (last : Option (Option ToldStatic)). unwrap_or last None) (last_or-push None (each_line (told_of scenario) before) (told_of scenario before line))

pub nothing_told : (scenario : Scenario) → last_told scenario [] ≡ None
unfolding each_after
nothing_told scenario = refl

listed_told : (next : Result Sent LineOutcome) → filter_map static_told (listed next) ≡ option_to_list (told_sent next)
listed_told (Ok one) = alone (static_told one) refl
  where
    alone : (told : Option ToldStatic) → static_told one ≡ told → filter_map static_told (one ∷ []) ≡ option_to_list (static_told one)
    alone None is = rw is refl
    alone (Some told) is = rw is refl
listed_told (Err came) = refl

pub static_reports-push : (scenario : Scenario) (before : List (List ℕ)) (line : List ℕ)
    → static_reports scenario (before ++ line ∷ []) ≡ static_reports scenario before ++ option_to_list (told_of scenario before line)
unfolding static_reports told_of
static_reports-push scenario before line =
    ap (filter_map static_told) (sent-push scenario before line)
    ∙ filter_map-append static_told (sent scenario before) (listed (sent_of scenario before line))
    ∙ ap (λ l. filter_map static_told (sent scenario before) ++ l) (listed_told (sent_of scenario before line))

-- ---- more vessels than are held

pub nothing_crowded : (scenario : Scenario) → is_crowded scenario [] ≡ false
unfolding is_crowded each_after
nothing_crowded scenario = refl

few_is : (held : ℕ) → held ≤ greatest_held → nat_lt greatest_held held ≡ false
few_is held few = grind (arith, nat_tests)

-- a line that makes no more vessels held than can be
pub calm-push : (scenario : Scenario) (before : List (List ℕ)) (line : List ℕ) → is_crowded scenario before ≡ false
    → held_behind scenario before line ≤ greatest_held → is_crowded scenario (before ++ line ∷ []) ≡ false
unfolding is_crowded
calm-push scenario before line calm few =
    ap (list_any (λ held. nat_lt greatest_held held)) (each_after-push (held_behind scenario) [] before line)
    ∙ list_any-append (λ held. nat_lt greatest_held held) (each_line (held_behind scenario) before) (held_behind scenario before line ∷ [])
    ∙ both calm (few_is (held_behind scenario before line) few)
  where
    both : {a b : Bool} → a ≡ false → b ≡ false → a || (b || false) ≡ false
    both p q = rw (p, q) refl

-- a line that makes more vessels held
pub crowded-push : (scenario : Scenario) (before : List (List ℕ)) (line : List ℕ) → greatest_held < held_behind scenario before line
    → IsTrue (is_crowded scenario (before ++ line ∷ []))
unfolding is_crowded
crowded-push scenario before line more =
    let many : nat_lt greatest_held (held_behind scenario before line) ≡ true = grind (arith, nat_tests, more) in
    ap (list_any (λ held. nat_lt greatest_held held)) (each_after-push (held_behind scenario) [] before line)
    ∙ list_any-append (λ held. nat_lt greatest_held held) (each_line (held_behind scenario) before) (held_behind scenario before line ∷ [])
    ∙ last (list_any (λ held. nat_lt greatest_held held) (each_line (held_behind scenario) before)) _ many
  where
    last : (a b : Bool) → b ≡ true → a || (b || false) ≡ true
    last true b is = refl
    last false b is = rw is refl

pub nothing_held : (numbers : JudgingNumbers) → length (held_of numbers []) ≤ greatest_held
unfolding held_of
nothing_held numbers = omega arith
