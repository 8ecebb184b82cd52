use Rattle.std.proofs.Common.{ℕ, List, ◌+◌, ◌-◌, ◌++◌, length, take, drop, subst, sym, ap, ◌∙◌, arith}
use Rattle.std.proofs.lemmas.List.{length-drop, length-take-le, take-append-drop, take_all}
use Rattle.outside.proofs.ForCallers.{err_cause}
use Rattle.audit_report.specs.declared.report_text.ReportText.{ReportText}
use Rattle.sessions.specs.Inner.Lines.{IsReadyToTake, RefusesPiece, TookLines}
use Rattle.sessions.proofs.Feeding.{cut_all, cut_on, feed_within, no_feed, no_feed_before, piece_by_feed, ready_behind, ready_for_piece, rest_is, takes_more, takes_part, unless_weaker, up_to_feed}
use Rattle.sessions.proofs.session.Session.take_lines.Goals as goal

pub take_line-requires-clause-part : goal.take_line-requires-clause-part
take_line-requires-clause-part c = no_feed_before _ c.in-Some.count (sym c.first_line_feed.ensures ∙ c.in-Some.is)

pub take_line-requires-clause-ready : goal.take_line-requires-clause-ready
take_line-requires-clause-ready c =
    let all = c.args.bytes.now in
    let at = c.loop-at.at in
    let rest = take (length all - at) (drop at all) in
    let count = c.in-Some.count in
    let is = sym c.first_line_feed.ensures ∙ c.in-Some.is in
    let text = c.requires.text in
    let so_far = c.loop-at.invariant.so_far text.0 text.1 in
    let within = c.loop-at.invariant.within in
    let one = feed_within rest count is in
    let long = length-take-le (count + 1) rest one in
    let whole = sym (take-append-drop at all) ∙ ap (λ (l : List ℕ). take at all ++ l) (sym (rest_is all at within)) in
    subst (IsReadyToTake c.loop-at.self) (up_to_feed rest count is)
    (ready_for_piece c.loop-at.self (take (count + 1) rest) rest (omega (arith, one, long))
    (ready_behind c.args.self.now c.loop-at.self (take at all) rest all whole c.loop-at.invariant.scenario text.0 c.loop-at.text so_far c.requires.ready))

pub returns-in_err-take_line-clause-refused : goal.returns-in_err-take_line-clause-refused
returns-in_err-take_line-clause-refused c =
    err_cause c.from_residual-in_err-take_line.result c.in_err-take_line.field-0.0 _ c.from_residual-in_err-take_line.ensures.1
    (unless_weaker c.in_err-take_line.field-0.0 _ _ (λ refuses front has. (
    let all = c.args.bytes.now in
    let at = c.loop-at.at in
    let rest = take (length all - at) (drop at all) in
    let count = c.in-Some.count in
    let is = sym c.first_line_feed.ensures ∙ c.in-Some.is in
    let so_far = c.loop-at.invariant.so_far front has in
    record {
      stopped = c.loop-at.self;
      same_mode = c.loop-at.invariant.mode;
      same_scenario = c.loop-at.invariant.scenario;
      before = take at all;
      took = subst (λ (t : ReportText). TookLines c.args.self.now c.loop-at.self (take at all) front t) (sym refuses.0) so_far;
      piece = take (count + 1) rest;
      behind = drop (at + (count + 1)) all;
      is = cut_all all at (count + 1) c.loop-at.invariant.within;
      line = piece_by_feed rest count is;
      some = (let one = feed_within rest count is in let long = length-take-le (count + 1) rest one in omega (arith, long));
      refuses = subst (λ (piece : List ℕ). RefusesPiece c.loop-at.self piece c.in_err-take_line.field-0.0) (sym (up_to_feed rest count is)) refuses.1;
    }
    )) c.in_err-take_line.ensures.refused)

pub loop-at-preserved : goal.loop-at-preserved
loop-at-preserved c =
    let all = c.args.bytes.now in
    let at = c.loop-at.at in
    let rest = take (length all - at) (drop at all) in
    let count = c.in-Some.count in
    let is = sym c.first_line_feed.ensures ∙ c.in-Some.is in
    let within = c.loop-at.invariant.within in
    let one = feed_within rest count is in
    let long = ap length (rest_is all at within) ∙ length-drop at all in
    record {
      within = omega (arith, within, one, long);
      mode = c.in_ok-take_line.ensures.mode ∙ c.loop-at.invariant.mode;
      scenario = c.in_ok-take_line.ensures.scenario ∙ c.loop-at.invariant.scenario;
      count = c.in_ok-take_line.ensures.count ∙ c.loop-at.invariant.count;
      so_far = λ front has. (
          let so_far = c.loop-at.invariant.so_far front has in
          let took = subst (λ (piece : List ℕ). TookLines c.loop-at.self c.take_line.new.self piece (front ++ so_far.more) c.take_line.new.text) (sym (up_to_feed rest count is))
          (c.in_ok-take_line.ensures.taken (front ++ so_far.more) so_far.has) in
          takes_more c.args.self.now c.loop-at.self (take at all) (take (count + 1) rest) (take (at + (count + 1)) all) (cut_on all at (count + 1) within) c.loop-at.invariant.scenario
          front c.loop-at.text c.take_line.new.text c.take_line.new.self so_far took
          );
    }

pub returns-clause-taken : goal.returns-clause-taken
returns-clause-taken c = λ front has.
    subst (λ (bytes : List ℕ). TookLines c.args.self.now c.loop-at.self bytes front c.loop-at.text) (take_all c.loop-at.at c.args.bytes.now c.loop-at-test.false) (c.loop-at.invariant.so_far front has)

pub extend-requires : goal.extend-requires
extend-requires c = no_feed _ (sym c.first_line_feed.ensures ∙ c.in_default.is)

pub returns-in_default-clause-taken : goal.returns-in_default-clause-taken
returns-in_default-clause-taken c = λ front has.
    let all = c.args.bytes.now in
    let at = c.loop-at.at in
    let rest = take (length all - at) (drop at all) in
    let none = no_feed rest (sym c.first_line_feed.ensures ∙ c.in_default.is) in
    let so_far = c.loop-at.invariant.so_far front has in
    let whole = sym (take-append-drop at all) ∙ ap (λ (l : List ℕ). take at all ++ l) (sym (rest_is all at c.loop-at.invariant.within)) in
    takes_more c.args.self.now c.loop-at.self (take at all) rest all whole c.loop-at.invariant.scenario front c.loop-at.text c.loop-at.text _ so_far
    (takes_part c.loop-at.self rest (front ++ so_far.more) c.extend.new.self c.loop-at.text (λ scenario log few lines. c.in_ok-extend.ensures.stands scenario log lines)
    c.in_ok-extend.ensures.keeping (λ log. c.a_part_goes_on.ensures.ended log rest none) so_far.has)
