-- The tracks that are kept, and the tracks of the definition.
use Rattle.std.proofs.Common.{◌≡◌, ℕ, zero, suc, ◌+◌, ◌<◌, inl, inr, List, [], ◌∷◌, ◌++◌, length, map, append-nil, sym, ap, subst, ◌∙◌, arith}
use Rattle.std.specs.Prelude.{Option}
use Rattle.std.specs.List.{Contains}
use Rattle.std.proofs.lemmas.List.Elements.{Contains-append_left, Contains-append_right, Contains-append_cases}
use Rattle.mtl_formulas.specs.FormulaTree.{FormulaTree}
use Rattle.mtl_formulas.specs.Traces.{Trace}
use Rattle.rule_set.specs.NamedTrees.{NamedTree, rule_at}
use Rattle.encounters.specs.declared.pair_step.PairStep.{PairStep}
use Rattle.meetings.specs.Atoms.{AreRankedRows}
use Rattle.meetings.specs.declared.pair.Pair.{Pair}
use Rattle.meetings.proofs.ForCallers.{one_list as one_trace}
use Rattle.audit_rows.specs.Tracks.{Track}
use Rattle.audit_rows.specs.declared.mark.Mark.{Mark}
use Rattle.audit_rows.specs.declared.topic.Topic.{Topic}
use Rattle.audit_rows.specs.declared.topic.Topic.TheVariants.{Meeting, Verdict}
use Rattle.outside.proofs.Members.{in_cons, in_head, in_none, in_tail}
use Rattle.traces.proofs.ForCallers.{from_map, one_beginning}
use Rattle.traces.specs.Audited.{Begins, AuditNumbers, Sighting, terms_of, trace_ranks, trace_steps}
use Rattle.traces.specs.Known.{AreKnown, IsKnown, Known}
use Rattle.auditor.specs.AuditTracks.{AreMarksOf, AreMeetingMarks, AreRuleMarks, IsTrack}
use Rattle.auditor.specs.Inner.AuditKeeping.{AreTracksOfAll}
use Rattle.auditor.specs.TraceKeeping.{AreMeetingMarksSoFar, AreRuleMarksWhole, AreRuleTracks, AreTracks, IsMeetingTrack, IsRuleTrack}
use Rattle.auditor.proofs.SameMarks.{same_meeting_marks, same_rule_marks}

track_of : Topic → ℕ → List Mark → Track
track_of topic first marks = record { topic = topic; first = first; marks = marks }

-- a track by its parts
grown : (t : Track) (topic : Topic) (first : ℕ) (marks more : List Mark) → t.topic ≡ topic → t.first ≡ first → t.marks ++ more ≡ marks
    → record { topic = topic; first = first; marks = marks } ≡ record t { marks = t.marks ++ more }
unfolding track_of
grown t topic first marks more e f g =
    ap (λ (x : Topic). track_of x first marks) (sym e)
    ∙ (ap (λ (x : ℕ). track_of t.topic x marks) (sym f)
    ∙ ap (λ (x : List Mark). track_of t.topic t.first x) (sym g))

-- ---- the tracks of one trace

-- The marks of a rule go on to those of all positions.
pub record GoesOn (Rest : List Mark → Type 0) (tree : FormulaTree) (trace : Trace) (marks : List Mark) : Type 0 where
  pub more : List Mark
  pub rest : Rest more
  pub whole : AreRuleMarksWhole tree trace (marks ++ more)

module _ (AreMarks : FormulaTree → Trace → List Mark → Type 0) (numbers : AuditNumbers) where
  -- the rule's track that is one of these
  pub record RuleFound (known : Known) (rule : ℕ) (rules : List NamedTree) (track : Track) : Type 0 where
    pub index : ℕ
    pub within : index < length rules
    pub is : IsRuleTrack AreMarks known (rule + index) (rule_at rules index).tree track

  pub found_rule : (known : Known) (rule : ℕ) (rules : List NamedTree) (tracks : List Track) (track : Track)
      → AreRuleTracks AreMarks known rule (map (λ (r : NamedTree). r.tree) rules) tracks → Contains tracks track → RuleFound known rule rules track
  found_rule known rule [] [] track h i = in_none track i
  found_rule known rule [] (t ∷ ts) track h i = absurd h
  found_rule known rule (r ∷ rs) [] track h i = absurd h
  found_rule known rule (r ∷ rs) (t ∷ ts) track h i =
      elim (in_cons t ts track i) [
        | inl same ↦ (let here : rule ≡ rule + 0 = omega arith in
            record { index = 0; within = omega arith; is = subst (λ (n : ℕ). IsRuleTrack AreMarks known n r.tree track) here (subst (λ (x : Track). IsRuleTrack AreMarks known rule r.tree x) same h.0) })
        | inr later ↦ (let f = found_rule known (rule + 1) rs ts track h.1 later in
            let lt = f.within in
            let there : (rule + 1) + f.index ≡ rule + suc f.index = omega arith in
            record { index = suc f.index; within = omega arith; is = subst (λ (n : ℕ). IsRuleTrack AreMarks known n (rule_at rs f.index).tree track) there f.is })
      ]

  -- the track of a rule
  pub record RulePicked (known : Known) (rule : ℕ) (tree : FormulaTree) (tracks : List Track) : Type 0 where
    pub track : Track
    pub held : Contains tracks track
    pub is : IsRuleTrack AreMarks known rule tree track

  picked_rule : (known : Known) (rule : ℕ) (rules : List NamedTree) (tracks : List Track) (k : ℕ)
      → AreRuleTracks AreMarks known rule (map (λ (r : NamedTree). r.tree) rules) tracks → k < length rules → RulePicked known (rule + k) (rule_at rules k).tree tracks
  picked_rule known rule [] tracks k h lt = absurd (omega arith)
  picked_rule known rule (r ∷ rs) [] k h lt = absurd h
  picked_rule known rule (r ∷ rs) (t ∷ ts) zero h lt =
      let here : rule ≡ rule + 0 = omega arith in
      record { track = t; held = in_head t ts; is = subst (λ (n : ℕ). IsRuleTrack AreMarks known n r.tree t) here h.0 }
  picked_rule known rule (r ∷ rs) (t ∷ ts) (suc k) h lt =
      let p = picked_rule known (rule + 1) rs ts k h.1 (omega arith) in
      let there : (rule + 1) + k ≡ rule + suc k = omega arith in
      record { track = p.track; held = in_tail t ts p.track p.held; is = subst (λ (n : ℕ). IsRuleTrack AreMarks known n (rule_at rs k).tree p.track) there p.is }

  -- ---- of all traces

  pub record TraceFound (knowns : List Known) (track : Track) : Type 0 where
    pub known : Known
    pub among : Contains knowns known
    pub mine : List Track
    pub tracks : AreTracks AreMarks numbers known mine
    pub held : Contains mine track

  pub found_trace : (knowns : List Known) (tracks : List Track) (track : Track) → AreTracksOfAll AreMarks numbers knowns tracks → Contains tracks track → TraceFound knowns track
  found_trace [] tracks track h i = in_none track (subst (λ (ts : List Track). Contains ts track) h i)
  found_trace (known ∷ knowns) tracks track (mine, others, all) i =
      elim (Contains-append_cases mine others track (subst (λ (ts : List Track). Contains ts track) all.0.whole i)) [
        | inl here ↦ record { known = known; among = in_head known knowns; mine = mine; tracks = all.1; held = here }
        | inr there ↦ (let f = found_trace knowns others track all.2 there in
            record { known = f.known; among = in_tail known knowns f.known f.among; mine = f.mine; tracks = f.tracks; held = f.held })
      ]

  pub record TracePicked (known : Known) (tracks : List Track) : Type 0 where
    pub mine : List Track
    pub tracks_of : AreTracks AreMarks numbers known mine
    pub held : (track : Track) → Contains mine track → Contains tracks track

  pub picked_trace : (knowns : List Known) (tracks : List Track) (known : Known) → AreTracksOfAll AreMarks numbers knowns tracks → Contains knowns known → TracePicked known tracks
  picked_trace [] tracks known h i = in_none known i
  picked_trace (k ∷ ks) tracks known (mine, others, all) i =
      elim (in_cons k ks known i) [
        | inl same ↦ record {
          mine = mine;
          tracks_of = subst (λ (x : Known). AreTracks AreMarks numbers x mine) same all.1;
          held = λ track j. subst (λ (ts : List Track). Contains ts track) (sym all.0.whole) (Contains-append_left mine others track j);
        }
        | inr later ↦ (let p = picked_trace ks others known all.2 later in record {
          mine = p.mine;
          tracks_of = p.tracks_of;
          held = λ track j. subst (λ (ts : List Track). Contains ts track) (sym all.0.whole) (Contains-append_right mine others track (p.held track j));
        })
      ]

-- what is kept of each trace is its answers to the atoms
abbrev pub HaveRows : AuditNumbers → List Sighting → List Known → Type 0
HaveRows numbers ticks knowns =
    (known : Known) → Contains knowns known → AreRankedRows (terms_of numbers) (trace_ranks ticks known.pair known.start) known.steps known.trace

pub have_rows : (numbers : AuditNumbers) (ticks : List Sighting) (knowns : List Known) → AreKnown numbers ticks knowns → HaveRows numbers ticks knowns
have_rows numbers ticks knowns are known i = (are.each known i).rows

module _ (Rest : List Mark → Type 0) (AreMarks : FormulaTree → Trace → List Mark → Type 0) (none : Rest [])
    (go_on : (tree : FormulaTree) (trace : Trace) (marks : List Mark) → AreMarks tree trace marks → GoesOn Rest tree trace marks)
    (numbers : AuditNumbers) (ticks : List Sighting) where
  -- ---- a track that is kept is the beginning of one of the definition

  pub record Becomes (track : Track) : Type 0 where
    pub more : List Mark
    pub rest : Rest more
    pub is : IsTrack numbers ticks (record track { marks = track.marks ++ more })

  is_track : (track : Track) (topic : Topic) (first : ℕ) (marks : List Mark) → track.topic ≡ topic → track.first ≡ first → AreMarksOf numbers ticks topic first marks
      → IsTrack numbers ticks (record track { marks = marks })
  is_track track topic first marks e f h =
      subst (λ (t : Topic). AreMarksOf numbers ticks t track.first marks) (sym e) (subst (λ (n : ℕ). AreMarksOf numbers ticks topic n marks) (sym f) h)

  meeting_becomes : (known : Known) (track : Track) → IsKnown numbers ticks known → IsMeetingTrack numbers known track → Becomes track
  meeting_becomes known track is h =
      let m = h.marks in
      let steps = is.steps in
      let marks : AreMeetingMarksSoFar numbers (trace_steps numbers ticks known.pair known.start) track.marks =
      subst (λ (s : List (Option PairStep)). AreMeetingMarksSoFar numbers s track.marks) steps m in
      let all : AreMeetingMarks numbers ticks known.pair known.start track.marks = record { begins = is.begins; count = marks.count; each = marks.each } in
      record {
        more = [];
        rest = none;
        is = subst (λ (ms : List Mark). IsTrack numbers ticks (record track { marks = ms })) (sym (append-nil track.marks))
            (is_track track (Meeting known.pair) known.start track.marks h.topic h.first all);
      }

  rule_becomes : (known : Known) (track : Track) → IsKnown numbers ticks known → AreRankedRows (terms_of numbers) (trace_ranks ticks known.pair known.start) known.steps known.trace
      → RuleFound AreMarks numbers known 0 numbers.rules track → Becomes track
  rule_becomes known track is rows f =
      let h = f.is in
      let rule : 0 + f.index ≡ f.index = omega arith in
      let topic : track.topic ≡ Verdict known.pair f.index = h.topic ∙ ap (λ (n : ℕ). Verdict known.pair n) rule in
      let g = go_on (rule_at numbers.rules f.index).tree known.trace track.marks h.marks in
      let whole = g.whole in
      let all : AreRuleMarks numbers ticks known.pair f.index known.start (track.marks ++ g.more) = record {
        within = f.within;
        trace = known.trace;
        of = record {
          begins = is.begins;
          rows = subst (λ (s : List (Option PairStep)). AreRankedRows (terms_of numbers) (trace_ranks ticks known.pair known.start) s known.trace) is.steps rows;
        };
        count = whole.count;
        each = whole.each;
      } in
      record { more = g.more; rest = g.rest; is = is_track track (Verdict known.pair f.index) known.start (track.marks ++ g.more) topic h.first all }

  one_becomes : (known : Known) (mine : List Track) (track : Track) → IsKnown numbers ticks known → AreRankedRows (terms_of numbers) (trace_ranks ticks known.pair known.start) known.steps known.trace
      → AreTracks AreMarks numbers known mine → Contains mine track → Becomes track
  one_becomes known [] track is rows h i = absurd h
  one_becomes known (meeting ∷ rules) track is rows h i =
      elim (in_cons meeting rules track i) [
        | inl same ↦ subst (λ (t : Track). Becomes t) same (meeting_becomes known meeting is h.0)
        | inr later ↦ rule_becomes known track is rows (found_rule AreMarks numbers known 0 numbers.rules rules track h.1 later)
      ]

  module _ (knowns : List Known) (are : AreKnown numbers ticks knowns) (rows : HaveRows numbers ticks knowns) (tracks : List Track) (all : AreTracksOfAll AreMarks numbers knowns tracks) where
    pub becomes : (track : Track) → Contains tracks track → Becomes track
    becomes track i =
        let f = found_trace AreMarks numbers knowns tracks track all i in
        one_becomes f.known f.mine track (are.each f.known f.among) (rows f.known f.among) f.tracks f.held

    -- ---- a track of the definition comes of one that is kept

    pub record Comes (whole : Track) : Type 0 where
      pub track : Track
      pub held : Contains tracks track
      pub more : List Mark
      pub rest : Rest more
      pub is : whole ≡ record track { marks = track.marks ++ more }

    record Of (pair : Pair) (start : ℕ) : Type 0 where
      pub known : Known
      pub among : Contains knowns known
      pub pair_is : known.pair ≡ pair
      pub start_is : known.start ≡ start
      pub steps_are : known.steps ≡ trace_steps numbers ticks pair start

    known_of : (pair : Pair) (start : ℕ) → Begins numbers ticks pair start → Of pair start
    known_of pair start begins =
        let (known, i, e) = from_map (λ (k : Known). k.pair) knowns pair (are.all pair start begins) in
        let is = are.each known i in
        let mine : Begins numbers ticks pair known.start = subst (λ (p : Pair). Begins numbers ticks p known.start) e is.begins in
        let f : known.start ≡ start = one_beginning numbers ticks pair known.start start mine begins in
        record {
          known = known;
          among = i;
          pair_is = e;
          start_is = f;
          steps_are = is.steps ∙ (ap (λ (p : Pair). trace_steps numbers ticks p known.start) e ∙ ap (λ (n : ℕ). trace_steps numbers ticks pair n) f);
        }

    meeting_comes : (pair : Pair) (start : ℕ) (marks : List Mark) → AreMeetingMarks numbers ticks pair start marks
        → (known : Known) → known.pair ≡ pair → known.start ≡ start → known.steps ≡ trace_steps numbers ticks pair start
        → (mine : List Track) → AreTracks AreMarks numbers known mine → ((t : Track) → Contains mine t → Contains tracks t) → Comes (record { topic = Meeting pair; first = start; marks = marks })
    meeting_comes pair start marks h known e f g [] t hold = absurd t
    meeting_comes pair start marks h known e f g (meeting ∷ rules) t hold =
        let m = t.0 in
        let kept : AreMeetingMarksSoFar numbers (trace_steps numbers ticks pair start) meeting.marks =
        subst (λ (s : List (Option PairStep)). AreMeetingMarksSoFar numbers s meeting.marks) g m.marks in
        let same : meeting.marks ≡ marks = same_meeting_marks numbers (trace_steps numbers ticks pair start) meeting.marks marks kept (record { count = h.count; each = h.each }) in
        record {
          track = meeting;
          held = hold meeting (in_head meeting rules);
          more = [];
          rest = none;
          is = grown meeting (Meeting pair) start marks [] (m.topic ∙ ap (λ (p : Pair). Meeting p) e) (m.first ∙ f) (append-nil meeting.marks ∙ same);
        }

    rule_comes : (pair : Pair) (rule start : ℕ) (marks : List Mark) → AreRuleMarks numbers ticks pair rule start marks
        → (known : Known) → Contains knowns known → known.pair ≡ pair → known.start ≡ start → known.steps ≡ trace_steps numbers ticks pair start
        → (mine : List Track) → AreTracks AreMarks numbers known mine → ((t : Track) → Contains mine t → Contains tracks t) → Comes (record { topic = Verdict pair rule; first = start; marks = marks })
    rule_comes pair rule start marks h known i e f g [] t hold = absurd t
    rule_comes pair rule start marks h known i e f g (meeting ∷ rules) t hold =
        let p = picked_rule AreMarks numbers known 0 numbers.rules rules rule t.1 h.within in
        let is = p.is in
        let at : 0 + rule ≡ rule = omega arith in
        let topic : p.track.topic ≡ Verdict pair rule = is.topic ∙ (ap (λ (n : ℕ). Verdict known.pair n) at ∙ ap (λ (q : Pair). Verdict q rule) e) in
        let tree : FormulaTree = (rule_at numbers.rules rule).tree in
        let n = go_on tree known.trace p.track.marks is.marks in
        let steps = trace_steps numbers ticks pair start in
        let mine_rows : AreRankedRows (terms_of numbers) (trace_ranks ticks pair start) steps known.trace =
        subst (λ (q : Pair). AreRankedRows (terms_of numbers) (trace_ranks ticks q start) steps known.trace) e
        (subst (λ (n : ℕ). AreRankedRows (terms_of numbers) (trace_ranks ticks known.pair n) steps known.trace) f
        (subst (λ (s : List (Option PairStep)). AreRankedRows (terms_of numbers) (trace_ranks ticks known.pair known.start) s known.trace) g (rows known i))) in
        let same : known.trace ≡ h.trace = one_trace (terms_of numbers) (trace_ranks ticks pair start) steps known.trace h.trace mine_rows h.of.rows in
        let whole : AreRuleMarksWhole tree h.trace (p.track.marks ++ n.more) = subst (λ (r : Trace). AreRuleMarksWhole tree r (p.track.marks ++ n.more)) same n.whole in
        let marks_are : p.track.marks ++ n.more ≡ marks = same_rule_marks tree h.trace (p.track.marks ++ n.more) marks whole (record { count = h.count; each = h.each }) in
        record {
          track = p.track;
          held = hold p.track (in_tail meeting rules p.track p.held);
          more = n.more;
          rest = n.rest;
          is = grown p.track (Verdict pair rule) start marks n.more topic (is.first ∙ f) marks_are;
        }

    comes_by : (topic : Topic) (start : ℕ) (marks : List Mark) → AreMarksOf numbers ticks topic start marks → Comes (record { topic = topic; first = start; marks = marks })
    comes_by (Meeting pair) start marks h =
        let o = known_of pair start h.begins in
        let p = picked_trace AreMarks numbers knowns tracks o.known all o.among in
        meeting_comes pair start marks h o.known o.pair_is o.start_is o.steps_are p.mine p.tracks_of p.held
    comes_by (Verdict pair rule) start marks h =
        let o = known_of pair start h.of.begins in
        let p = picked_trace AreMarks numbers knowns tracks o.known all o.among in
        rule_comes pair rule start marks h o.known o.among o.pair_is o.start_is o.steps_are p.mine p.tracks_of p.held

    pub comes : (whole : Track) → IsTrack numbers ticks whole → Comes whole
    comes whole h = comes_by whole.topic whole.first whole.marks h
