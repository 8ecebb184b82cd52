-- The times that are kept, behind one line more.
use Rattle.std.proofs.Common.{◌≡◌, ◌<◌, ◌^◌, ℕ, max, Bool, true, false, List, [], ◌∷◌, ◌++◌, append-nil, filter, Option, Some, None, IfSome, unwrap_or, refl, ap, sym, ◌∙◌, arith}
use Rattle.std.specs.List.{filter_map, last_or}
use Rattle.std.proofs.lemmas.Grind.{common_steps}
use Rattle.std.proofs.lemmas.List.Elements.{filter-append, filter_map-append}
use Rattle.log_lines.specs.LineTimes.{clock_of, greatest, is_in_window, stamp_of, stamps_of, time_of}
use Rattle.log_lines.specs.Inner.Times.{KeepsTimes, at_least, clock_behind, is_between, nearest_of, times_behind}
use Rattle.log_lines.specs.declared.line_times.LineTimes.{LineTimes}
use Rattle.scenario_values.specs.declared.values.Scenario.{Scenario}
use Rattle.tracks.proofs.Lasts.{last_or-push}

-- the list of a stamp, if there is one
abbrev stamp_list : Option ℕ → List ℕ
stamp_list None = []
stamp_list (Some stamp) = stamp ∷ []

stamp_list_is : (line : List ℕ) (stamp : Option ℕ) → stamp_of line ≡ stamp → filter_map stamp_of (line ∷ []) ≡ stamp_list stamp
stamp_list_is line None is = rw is refl
stamp_list_is line (Some stamp) is = rw is refl

stamps-push : (before : List (List ℕ)) (line : List ℕ) → stamps_of (before ++ line ∷ []) ≡ stamps_of before ++ stamp_list (stamp_of line)
stamps-push before line =
    filter_map-append stamp_of before (line ∷ []) ∙ ap (λ l. stamps_of before ++ l) (stamp_list_is line (stamp_of line) refl)

nearest-push : (stamps : List ℕ) (stamp : Option ℕ) → last_or None (stamps ++ stamp_list stamp) ≡ nearest_of stamp (last_or None stamps)
nearest-push stamps None = ap (last_or None) (append-nil stamps)
nearest-push stamps (Some stamp) = last_or-push None stamps stamp

greatest-push : (xs : List ℕ) (y : ℕ) → greatest (xs ++ y ∷ []) ≡ Some (at_least y (greatest xs))
unfolding greatest
greatest-push [] y = ap Some (omega arith)
greatest-push (x ∷ xs) y = one_more x y (greatest xs) (greatest (xs ++ y ∷ [])) (greatest-push xs y)
  where
    one_more : (x y : ℕ) (old new : Option ℕ) → new ≡ Some (at_least y old) → Some (max x (unwrap_or new x)) ≡ Some (max y (max x (unwrap_or old x)))
    one_more x y None new is = rw is (ap Some (omega arith))
    one_more x y (Some m) new is = rw is (ap Some (omega arith))

clock-push : (scenario : Scenario) (stamps : List ℕ) (stamp : ℕ) (within : Bool) → is_in_window scenario stamp ≡ within
    → greatest (filter (is_in_window scenario) (stamps ++ stamp ∷ []))
    ≡ clock_behind within (greatest (filter (is_in_window scenario) stamps)) stamp
clock-push scenario stamps stamp true within =
    let test : ℕ → Bool = is_in_window scenario in
    let more : filter test (stamps ++ stamp ∷ []) ≡ filter test stamps ++ stamp ∷ [] =
    grind (arith, common_steps, filter-append test stamps (stamp ∷ []), within) in
    ap greatest more ∙ greatest-push (filter test stamps) stamp
clock-push scenario stamps stamp false within =
    let test : ℕ → Bool = is_in_window scenario in
    let same : filter test (stamps ++ stamp ∷ []) ≡ filter test stamps =
    grind (arith, common_steps, filter-append test stamps (stamp ∷ []), within) in
    ap greatest same

kept : (times : LineTimes) (scenario : Scenario) (before lines : List (List ℕ)) (stamp : Option ℕ) → KeepsTimes times scenario before
    → IfSome stamp (λ seconds. seconds < 2 ^ 64) → stamps_of lines ≡ stamps_of before ++ stamp_list stamp → KeepsTimes (times_behind times stamp) scenario lines
unfolding clock_of
kept times scenario before lines None keeps small more =
    let same : stamps_of lines ≡ stamps_of before = more ∙ append-nil (stamps_of before) in
    record {
      window = keeps.window;
      start = keeps.start;
      slack = keeps.slack;
      nearest = keeps.nearest ∙ ap (last_or None) (sym same);
      clock = keeps.clock ∙ ap (λ (l : List ℕ). greatest (filter (is_in_window scenario) l)) (sym same);
    }
kept times scenario before lines (Some stamp) keeps small more = record {
  window = keeps.window;
  start = keeps.start;
  slack = keeps.slack;
  nearest = sym (ap (last_or None) more ∙ last_or-push None (stamps_of before) stamp);
  clock =
      ap (λ (within : Bool). clock_behind within times.clock stamp) (keeps.window stamp small)
      ∙ ap (λ (clock : Option ℕ). clock_behind (is_in_window scenario stamp) clock stamp) keeps.clock
      ∙ sym (ap (λ (l : List ℕ). greatest (filter (is_in_window scenario) l)) more
      ∙ clock-push scenario (stamps_of before) stamp (is_in_window scenario stamp) refl);
}

pub KeepsTimes-push : (times : LineTimes) (scenario : Scenario) (before : List (List ℕ)) (line : List ℕ) → KeepsTimes times scenario before
    → IfSome (stamp_of line) (λ seconds. seconds < 2 ^ 64) → KeepsTimes (times_behind times (stamp_of line)) scenario (before ++ line ∷ [])
KeepsTimes-push times scenario before line keeps small =
    kept times scenario before (before ++ line ∷ []) (stamp_of line) keeps small (stamps-push before line)

pub time_is : (times : LineTimes) (scenario : Scenario) (before : List (List ℕ)) (line : List ℕ) → KeepsTimes times scenario before
    → unwrap_or (nearest_of (stamp_of line) times.nearest) times.start ≡ time_of scenario (before ++ line ∷ [])
unfolding time_of
time_is times scenario before line keeps =
    let last : last_or None (stamps_of (before ++ line ∷ [])) ≡ nearest_of (stamp_of line) (last_or None (stamps_of before)) =
    ap (last_or None) (stamps-push before line) ∙ nearest-push (stamps_of before) (stamp_of line) in
    rw (keeps.nearest, keeps.start) (sym (ap (λ (o : Option ℕ). unwrap_or o scenario.window.start) last))

-- no line came yet
pub KeepsTimes-none : (times : LineTimes) (scenario : Scenario)
    → ((time : ℕ) → time < 2 ^ 64 → is_between times.window time ≡ is_in_window scenario time)
    → times.start ≡ scenario.window.start → times.slack ≡ scenario.log.slack → times.nearest ≡ None → times.clock ≡ None → KeepsTimes times scenario []
unfolding clock_of greatest
KeepsTimes-none times scenario window start slack nearest clock = record { window = window; start = start; slack = slack; nearest = nearest; clock = clock }
