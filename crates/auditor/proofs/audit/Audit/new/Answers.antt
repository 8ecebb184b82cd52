use Rattle.std.proofs.Common.{◌≡◌, ℕ, [], List, refl, sym, subst, arith}
use Rattle.traces.specs.Audited.{AuditNumbers, nothing_seen}
use Rattle.outside.proofs.Members.{in_none}
use Rattle.traces.proofs.ForCallers.{begun_within, different_none}
use Rattle.traces.specs.Standing.{StandsFor as TracesStandFor}
use Rattle.traces.specs.declared.all_traces.AllTraces.{AllTraces}
use Rattle.audit_rows.specs.Standing.{QueueStandsFor}
use Rattle.auditor.specs.Inner.TracesMarked.{AreMarked}
use Rattle.auditor.specs.SettledRows.{settled_by}
use Rattle.auditor.specs.declared.audit_keeper.AuditKeeper.{AuditKeeper}
use Rattle.auditor.specs.declared.trace.AuditTrace.{AuditTrace}
use Rattle.auditor.proofs.audit.Audit.new.Goals as goal

pub returns-clause-stands : goal.returns-clause-stands
returns-clause-stands c =
    let numbers : AuditNumbers = record {
      detect = c.args.detect;
      act = c.args.act;
      tick = c.args.window.tick;
      last_tick = c.args.window.ticks;
      subjects = c.args.subjects.now;
      rules = c.args.rules.now;
    } in
    let none : 0 ≡ settled_by numbers 0 = omega arith in
    let keeper : AuditKeeper = record { alloc = c.args.alloc; program = c.in_ok-program_of.field-0; queue = c.new.result } in
    let made = c.new-3.ensures in
    let marked : AreMarked keeper.program keeper.queue numbers 0 [] [] [] [] =
    record {
      is = c.in_ok-program_of.ensures.formulas;
      stand = tt;
      before = [];
      after = [];
      done_tracks = refl;
      rest_tracks = refl;
      keeps = subst (λ (b : ℕ). QueueStandsFor c.new.result [] b []) none c.new.ensures;
    } in
    record {
      knowns = [];
      window = record {
        are_known = record {
          each = λ known i. in_none known i;
          all = λ pair start begins. (let within = begun_within [] nothing_seen numbers pair start begins in absurd (omega (arith, within)));
          once = different_none;
        };
        stands = subst (λ (traces : AllTraces). TracesStandFor traces numbers [] []) (sym made.traces) (c.in_ok-traces.ensures.stands numbers refl refl refl refl refl);
        keeps = subst (λ (values : List AuditTrace). AreMarked c.new-3.result.keeper.program c.new-3.result.keeper.queue numbers 0 values [] [] []) (sym made.none)
            (subst (λ (k : AuditKeeper). AreMarked k.program k.queue numbers 0 [] [] [] []) (sym made.keeper) marked);
      };
    }
