use Rattle.std.proofs.Common.{◌≡◌, ◌+◌, inl, inr, List, length, refl, ◌∙◌, arith}
use Rattle.std.proofs.lemmas.Bool.{cases_lt}
use Rattle.mtl_formulas.specs.FormulaTree.{FormulaTree}
use Rattle.mtl_monitor.specs.Following.{Closes, Follows}
use Rattle.mtl_formulas.specs.Traces.{Trace}
use Rattle.planner.specs.Inner.Breaking.{formulas_of}
use Rattle.planner.proofs.Ending.{none_beyond}
use Rattle.planner.proofs.TellingNow.{closes_next}
use Rattle.planner.proofs.Watching.{breaks_rule, none_begun, rule_told}
use Rattle.planner.proofs.watched.Watched.ends_newly_broken.Goals as goal

pub returns-then-not-self-clause-breaks : goal.returns-then-not-self-clause-breaks
returns-then-not-self-clause-breaks c = λ W cut at from is stands. (
  λ t. cc,
  λ h. absurd (none_begun c.args.towards.now.program.now c.args.towards.now.situation.now W c.args.towards.now.target.now at c.args.self.now (stands.stands.waits c.if-not-self.true) h),
)

pub returns-then-towards-clause-breaks : goal.returns-then-towards-clause-breaks
returns-then-towards-clause-breaks c = λ W cut at from is stands.
    let towards = c.args.towards.now in
    let s = towards.situation.now in
    let has = stands.stands.begun c.if-not-self.false in (
      λ t. cc,
      λ h.
          let told = rule_told s W towards.target.now cut is.is_cut at from has.start has.rows has.begins has.are_rows stands.unbroken h in
          absurd (none_beyond (formulas_of s) (c.requires.towards.no_last c.if-towards.true) cut has.rows told.0 told.1.0 told.1.2),
    )

pub returns-then-is_newly_broken-clause-breaks : goal.returns-then-is_newly_broken-clause-breaks
returns-then-is_newly_broken-clause-breaks c = λ W cut at from is stands.
    let s = c.args.towards.now.situation.now in
    let was = c.loop-past.invariant in
    let past = was.past in
    let one_more = c.pass_end.ensures.past in
    let has = stands.stands.begun c.if-not-self.false in
    let counted = stands.counted in
    let all_fed = has.values.all_fed in
    let closes : Closes c.args.towards.now.program.now c.pass_end.new.self (formulas_of s) has.rows =
    closes_next c.loop-past.past (was.first (formulas_of s) has.rows has.values) (was.later (formulas_of s) has.rows has.values)
    (c.pass_end.ensures.begins (formulas_of s) has.rows) (c.pass_end.ensures.goes_on (formulas_of s) has.rows) in
    let told = (c.is_newly_broken.ensures (formulas_of s) cut has.rows (length has.rows + c.loop-past.past + 1) (inr (closes, omega arith)) is.tells (omega arith)).0 c.if-is_newly_broken.true in (
      λ t. breaks_rule s W c.args.towards.now.target.now cut is.is_cut at from has.start has.rows (length has.rows + c.loop-past.past + 1) has.begins has.are_rows told,
      λ h. refl,
    )

pub loop-past-preserved : goal.loop-past-preserved
loop-past-preserved c =
    let was = c.loop-past.invariant in
    let past = was.past in
    let one_more = c.pass_end.ensures.past in
    let closes : (formulas : List FormulaTree) (rows : Trace) → Follows c.args.towards.now.program.now c.args.self.now.values formulas rows → Closes c.args.towards.now.program.now c.pass_end.new.self formulas rows = λ formulas rows f.
    closes_next c.loop-past.past (was.first formulas rows f) (was.later formulas rows f) (c.pass_end.ensures.begins formulas rows) (c.pass_end.ensures.goes_on formulas rows) in
    record {
      fits = c.pass_end.ensures.fits;
      room = c.pass_end.ensures.room was.room;
      past = omega arith;
      fed = c.pass_end.ensures.fed ∙ was.fed;
      first = λ formulas rows f e. absurd (omega arith);
      later = λ formulas rows f lt. closes formulas rows f;
      none = λ formulas cut rows f tells counted passed after le told. elim (cases_lt passed (length rows + c.loop-past.past + 1)) [
        | inl earlier ↦ was.none formulas cut rows f tells counted passed after (omega arith) told
        | inr last ↦ (let all_fed = f.all_fed in
            let here : passed ≡ length rows + c.loop-past.past + 1 = omega arith in
            let t = (c.is_newly_broken.ensures formulas cut rows passed (inr (closes formulas rows f, omega arith)) tells (omega arith)).1 told in
            let not_so = c.if-is_newly_broken.false in
            cc)
      ];
    }

pub returns-clause-breaks : goal.returns-clause-breaks
returns-clause-breaks c = λ W cut at from is stands. (
  λ t. cc,
  λ breaks.
      let s = c.args.towards.now.situation.now in
      let has = stands.stands.begun c.if-not-self.false in
      let reach = c.reach-past-end.ensures.formulas (formulas_of s) c.requires.towards.of_rules in
      let over = c.loop-past-test.false in
      let found = rule_told s W c.args.towards.now.target.now cut is.is_cut at from has.start has.rows has.begins has.are_rows stands.unbroken breaks in
      let le = found.1.1 in
      absurd (c.loop-past.invariant.none (formulas_of s) cut has.rows has.values is.tells stands.counted found.0 found.1.0 (omega arith) found.1.2),
)
