-- As one trace of an audit after the other takes its step, or ends.
use Rattle.std.proofs.Common.{◌≡◌, ℕ, suc, ◌+◌, ◌*◌, ◌<◌, List, [], ◌∷◌, ◌++◌, length, length-append, get_or, set, drop, drop-set-lt, map, append_assoc, append-nil, zero-mul, refl, sym, ap, subst, ◌∙◌, arith}
use Rattle.std.specs.Prelude.{Option}
use Rattle.std.specs.List.{AllZip}
use Rattle.std.proofs.Math.Nat.{suc-mul}
use Rattle.std.proofs.lemmas.List.{drop_more, length-map}
use Rattle.encounters.specs.declared.pair_step.PairStep.{PairStep}
use Rattle.mtl_formulas.specs.FormulaTree.{FormulaTree}
use Rattle.mtl_formulas.specs.Traces.{Trace}
use Rattle.mtl_monitor.specs.Following.{IsProgramOf, count_of}
use Rattle.mtl_monitor.specs.declared.program.Program.{Program}
use Rattle.mtl_formulas.specs.declared.atom.Atom.{Atom}
use Rattle.mtl_formulas.specs.declared.verdict.Verdict.{Verdict}
use Rattle.meetings.specs.declared.by_rank.ByRank.{ByRank}
use Rattle.rule_set.specs.NamedTrees.{NamedTree}
use Rattle.audit_rows.specs.Standing.{QueueStandsFor}
use Rattle.audit_rows.specs.Tracks.{Track}
use Rattle.audit_rows.specs.declared.mark.Mark.{Mark}
use Rattle.audit_rows.specs.declared.row.Row.{Row}
use Rattle.audit_rows.specs.declared.row_queue.RowQueue.{RowQueue}
use Rattle.traces.specs.Audited.{AuditNumbers}
use Rattle.traces.specs.Keeping.{IsAtStep}
use Rattle.traces.specs.Known.{Known, watched}
use Rattle.traces.proofs.ForCallers.{zip_at, zip_set}
use Rattle.auditor.specs.Inner.AuditKeeping.{AreAllTracks, AreTracksOfAll}
use Rattle.auditor.specs.Inner.TracesMarked.{AreEnding, AreMarked}
use Rattle.auditor.specs.SettledRows.{formulas_of, settled_by}
use Rattle.auditor.specs.TraceKeeping.{AreRuleMarksSoFar, AreRuleMarksWhole, AreRuleTracks, AreTracks, AreTracksSoFar, HasTracksOf, StandsFor, Steps}
use Rattle.auditor.specs.declared.trace.AuditTrace.{AuditTrace}
use Rattle.auditor.proofs.Growing.{tracks_push}

-- ---- how many tracks a trace has

rules_length : (AreMarks : FormulaTree → Trace → List Mark → Type 0) (known : Known) (rule : ℕ) (rules : List NamedTree) (tracks : List Track)
    → AreRuleTracks AreMarks known rule (map (λ (r : NamedTree). r.tree) rules) tracks → length tracks ≡ length rules
rules_length AreMarks known rule [] [] h = refl
rules_length AreMarks known rule [] (t ∷ ts) h = absurd h
rules_length AreMarks known rule (r ∷ rs) [] h = absurd h
rules_length AreMarks known rule (r ∷ rs) (t ∷ ts) h = ap suc (rules_length AreMarks known (rule + 1) rs ts h.1)

pub tracks_length : (AreMarks : FormulaTree → Trace → List Mark → Type 0) (numbers : AuditNumbers) (known : Known) (mine : List Track) → AreTracks AreMarks numbers known mine → length mine ≡ length numbers.rules + 1
tracks_length AreMarks numbers known [] h = absurd h
tracks_length AreMarks numbers known (meeting ∷ rules) h = let e = rules_length AreMarks known 0 numbers.rules rules h.1 in omega arith

pub program_length : (program : Program) (numbers : AuditNumbers) → IsProgramOf program (formulas_of numbers) → count_of program ≡ length numbers.rules
program_length program numbers is = is.of.count ∙ length-map numbers.rules (λ (r : NamedTree). r.tree)

-- how many tracks all traces have
pub tracks_count : (AreMarks : FormulaTree → Trace → List Mark → Type 0) (numbers : AuditNumbers) (each : ℕ) → length numbers.rules + 1 ≡ each → (knowns : List Known) (tracks : List Track)
    → AreTracksOfAll AreMarks numbers knowns tracks → length tracks ≡ length knowns * each
tracks_count AreMarks numbers each is [] tracks all = ap (λ (ts : List Track). length ts) all ∙ sym (zero-mul each)
tracks_count AreMarks numbers each is (k ∷ ks) tracks (mine, others, all) =
    let whole : length tracks ≡ length (mine ++ others) = ap (λ (ts : List Track). length ts) all.0.whole in
    let here : length mine ≡ each = tracks_length AreMarks numbers k mine all.1 ∙ is in
    let more : length others ≡ length ks * each = tracks_count AreMarks numbers each is ks others all.2 in
    let count : length tracks ≡ length ks * each + each = omega (arith, whole, length-append mine others, here, more) in
    count ∙ sym (suc-mul (length ks) each)

-- ---- steps

module _ (program : Program) (numbers : AuditNumbers) (is : IsProgramOf program (formulas_of numbers)) (index first : ℕ) (first_is : first ≡ index * (count_of program + 1)) where
  -- the tracks of the trace at an index begin there
  begins_at : (AreMarks : FormulaTree → Trace → List Mark → Type 0) (before : List Known) (tracks : List Track) → index ≡ length before → AreTracksOfAll AreMarks numbers before tracks → first ≡ length tracks
  begins_at AreMarks before tracks at all =
      first_is ∙ ap (λ (n : ℕ). n * (count_of program + 1)) at
      ∙ sym (tracks_count AreMarks numbers (count_of program + 1) (sym (ap (λ (n : ℕ). n + 1) (program_length program numbers is))) before tracks all)

  module _ (step : ℕ) (given : List Row) (queue queue' : RowQueue) (answers : Atom → Verdict) (IsRow : AuditNumbers → (ℕ → ByRank) → Known → Option PairStep → Type 0) (ranks : ℕ → ByRank) (kept : List AuditTrace) (other was after : AuditTrace) (done rest : List Known) (known : Known)
      (seen : Option PairStep) (at : index ≡ length done) (here : get_or kept index other ≡ was) (is_at : IsAtStep step known) (row : IsRow numbers ranks known seen)
      (it : (numbers : AuditNumbers) (ranks : ℕ → ByRank) (known : Known) (seen : Option PairStep) (front mine back : List Track) (bound : ℕ) (given : List Row)
      → StandsFor program numbers was known → step ≡ known.start + length known.steps → IsRow numbers ranks known seen → AreTracksSoFar numbers known mine → first ≡ length front
      → QueueStandsFor queue (front ++ mine ++ back) bound given → Steps program numbers after known seen answers queue' front back bound given) where
    abbrev after_known : Known
    after_known = watched known seen answers

    by_tracks : AllZip (StandsFor program numbers) kept (done ++ known ∷ rest) → (front back : List Track) → AreAllTracks numbers done front → AreAllTracks numbers (known ∷ rest) back
        → QueueStandsFor queue (front ++ back) (settled_by numbers step) given → AreMarked program queue' numbers step (set kept index after) (done ++ after_known ∷ []) rest given
    by_tracks stand front back all (its, more, rest_all) keeps =
        let old : StandsFor program numbers was known =
        subst (λ (t : AuditTrace). StandsFor program numbers t known) here
        (subst (λ (n : ℕ). StandsFor program numbers (get_or kept n other) known) (sym at) (zip_at (StandsFor program numbers) kept done known rest other stand)) in
        let before_keeps : QueueStandsFor queue (front ++ its ++ more) (settled_by numbers step) given =
        subst (λ (ts : List Track). QueueStandsFor queue ts (settled_by numbers step) given) (ap (λ (ts : List Track). front ++ ts) rest_all.0.whole ∙ sym (append_assoc front its more)) keeps in
        let s = it numbers ranks known seen front its more (settled_by numbers step) given old is_at.0 row rest_all.1 (begins_at AreRuleMarksSoFar done front at all) before_keeps in
        record {
          is = is;
          stand = subst (λ (ys : List Known). AllZip (StandsFor program numbers) (set kept index after) ys) (sym (append_assoc done (after_known ∷ []) rest))
              (subst (λ (n : ℕ). AllZip (StandsFor program numbers) (set kept n after) (done ++ after_known ∷ rest)) (sym at)
              (zip_set (StandsFor program numbers) kept done known rest after after_known stand s.stands));
          before = front ++ s.mine;
          after = more;
          done_tracks = tracks_push AreRuleMarksSoFar numbers done after_known front s.mine all s.tracks;
          rest_tracks = rest_all.2;
          keeps = s.keeps;
        }

    pub marked_more : AreMarked program queue numbers step kept done (known ∷ rest) given → AreMarked program queue' numbers step (set kept index after) (done ++ after_known ∷ []) rest given
    marked_more m = by_tracks m.stand m.before m.after m.done_tracks m.rest_tracks m.keeps

  -- ---- ends

  module _ (step : ℕ) (given : List Row) (queue queue' : RowQueue) (kept : List AuditTrace) (other was after : AuditTrace) (ended rest : List Known) (known : Known)
      (at : index ≡ length ended) (within : index < length kept) (here : get_or kept index other ≡ was)
      (it : (numbers : AuditNumbers) (known : Known) (front mine back : List Track) (bound : ℕ) (given : List Row) → StandsFor program numbers was known → AreTracksSoFar numbers known mine
      → first ≡ length front → QueueStandsFor queue (front ++ mine ++ back) bound given → HasTracksOf numbers known queue' front back bound given) where
    ends_by_tracks : AllZip (StandsFor program numbers) (drop index kept) (known ∷ rest) → (front back : List Track) → AreTracksOfAll AreRuleMarksWhole numbers ended front → AreAllTracks numbers (known ∷ rest) back
        → QueueStandsFor queue (front ++ back) (settled_by numbers step) given → AreEnding program queue' numbers step (set kept index after) (ended ++ known ∷ []) rest given
    ends_by_tracks stand front back all (its, more, rest_all) keeps =
        let z : AllZip (StandsFor program numbers) (get_or kept index other ∷ drop (index + 1) kept) (known ∷ rest) =
        subst (λ (xs : List AuditTrace). AllZip (StandsFor program numbers) xs (known ∷ rest)) (drop_more kept index other within) stand in
        let old : StandsFor program numbers was known = subst (λ (t : AuditTrace). StandsFor program numbers t known) here z.0 in
        let before_keeps : QueueStandsFor queue (front ++ its ++ more) (settled_by numbers step) given =
        subst (λ (ts : List Track). QueueStandsFor queue ts (settled_by numbers step) given) (ap (λ (ts : List Track). front ++ ts) rest_all.0.whole ∙ sym (append_assoc front its more)) keeps in
        let s = it numbers known front its more (settled_by numbers step) given old rest_all.1 (begins_at AreRuleMarksWhole ended front at all) before_keeps in
        let one_more : index + 1 ≡ length (ended ++ known ∷ []) = omega (arith, at, length-append ended (known ∷ [])) in
        record {
          is = is;
          stand = subst (λ (n : ℕ). AllZip (StandsFor program numbers) (drop n (set kept index after)) rest) one_more
              (subst (λ (xs : List AuditTrace). AllZip (StandsFor program numbers) xs rest) (sym (drop-set-lt (index + 1) kept index after (omega arith))) z.1);
          before = front ++ s.mine;
          after = more;
          ended_tracks = tracks_push AreRuleMarksWhole numbers ended known front s.mine all s.tracks;
          rest_tracks = rest_all.2;
          keeps = s.keeps;
        }

    pub ending_more : AreEnding program queue numbers step kept ended (known ∷ rest) given → AreEnding program queue' numbers step (set kept index after) (ended ++ known ∷ []) rest given
    ending_more e =
        ends_by_tracks (subst (λ (n : ℕ). AllZip (StandsFor program numbers) (drop n kept) (known ∷ rest)) (sym at) e.stand) e.before e.after e.ended_tracks e.rest_tracks e.keeps
