use Rattle.std.proofs.Common.{◌≡◌, ℕ, ◌<◌, ◌^◌, ◌∷◌, [], ap₂, length-append, arith}
use Rattle.std.specs.Coded.{le_prop}
use Rattle.mtl_monitor.specs.declared.trace_state.TraceState.{TraceState}
use Rattle.auditor.specs.declared.trace.AuditTrace.{AuditTrace}
use Rattle.auditor.specs.SettledRows.{formulas_of}
use Rattle.auditor.proofs.Resting.{rested_apart}
use Rattle.auditor.proofs.trace.AuditTrace.rest.Goals as goal

abbrev made : (start : ℕ) → TraceState → start < 2 ^ 31 → AuditTrace
made start values early = record { start = start; values = values; early = early }

-- By the same values a trace is the same.
same_trace : (start : ℕ) (values other : TraceState) (early late : start < 2 ^ 31) → values ≡ other → made start values early ≡ made start other late
same_trace start values other early late same = ap₂ (λ (v : TraceState) (e : start < 2 ^ 31). made start v e) same (le_prop early late)

pub returns-clause-stays : goal.returns-clause-stays
returns-clause-stays c = λ no. same_trace c.args.self.now.start _ c.args.self.now.values _ c.args.self.now.early (c.rest.ensures.stays no)

pub returns-clause-rests : goal.returns-clause-rests
returns-clause-rests c = λ rests numbers ranks known seen answers queue before mine after bound given stands at of tracks keeps.
    let reach = c.has_answered.ensures c.if-not-has_answered.false (formulas_of numbers) (record { trees = stands.values.trees; of = stands.values.of }) in
    let count = stands.rows in
    let begins = stands.start in
    rested_apart c.args.program.now numbers ranks _ known seen answers c.args.glance of
    (record {
      start = stands.start;
      rows = omega (arith, length-append known.steps (seen ∷ []), length-append known.trace (answers ∷ []));
      values = c.rest.ensures.follows rests (formulas_of numbers) known.trace answers of.shows stands.values;
    })
    c.args.self.now.values stands.values c.rest.ensures.same count (omega arith)
    queue c.args.step at before mine after bound given tracks keeps
