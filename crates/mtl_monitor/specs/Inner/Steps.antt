-- How a row passes through a node: what the node gives, and what it keeps.
use Rattle.std.specs.Prelude.{ℕ, ◌+◌, ◌-◌, nat_lt, if◌then◌else◌, min, Bool, true, false, List, [], ◌∷◌, ◌++◌, length, get_or}
use Rattle.circular_buffer.specs.Buffer.{Buffer, buffer, keep_last}
use Rattle.mtl_formulas.specs.declared.atom.Atom.{Atom}
use Rattle.mtl_formulas.specs.declared.verdict.Verdict.{Verdict}
use Rattle.mtl_formulas.specs.declared.verdict.Verdict.TheVariants.{No, Open, Yes}
use Rattle.mtl_formulas.specs.declared.formula.SpanKind.{SpanKind}
use Rattle.mtl_formulas.specs.declared.formula.SpanKind.TheVariants.{F, G, O, H}
use Rattle.mtl_formulas.specs.VerdictOrder.{turned_round, least}
use Rattle.mtl_formulas.specs.FormulaValue.{pair_value}
use Rattle.mtl_formulas.specs.FormulaMeasures.{IsValidAtom}
use Rattle.mtl_monitor.specs.declared.left.Left.{Left}
use Rattle.mtl_monitor.specs.declared.delay_line.Run.{Run}
use Rattle.mtl_monitor.specs.declared.delay_line.Delayed.{Delayed}
use Rattle.mtl_monitor.specs.declared.node.Operator.{Operator}
use Rattle.mtl_monitor.specs.declared.node.Operator.TheVariants as op
use Rattle.mtl_monitor.specs.declared.node.Kept.{Kept}
use Rattle.mtl_monitor.specs.declared.node.Kept.TheVariants as kinds
use Rattle.mtl_monitor.specs.declared.lookahead.Lookahead.{Lookahead}
use Rattle.mtl_monitor.specs.Inner.Lookahead.{lookahead_after, lookahead_value}
use Rattle.mtl_monitor.specs.WindowCounts.{left_after, left_under, left_value}

-- the value of the node at a index
abbrev pub value_at : List Verdict → ℕ → Verdict
value_at values k = get_or values k Open

-- The least value is the greatest of the values turned round, turned round.
abbrev pub sensed : SpanKind → Verdict → Verdict
sensed F v = v
sensed G v = turned_round v
sensed O v = v
sensed H v = turned_round v

abbrev pub ring_value : Buffer Verdict → Verdict → Verdict
ring_value b v = if nat_lt (length b.items) b.capacity then Open else get_or (b.items ++ v ∷ []) 0 Open

abbrev pub ring_after : Buffer Verdict → Verdict → Buffer Verdict
ring_after b v = buffer (keep_last b.capacity (b.items ++ v ∷ [])) b.capacity

abbrev pub same_verdict : Verdict → Verdict → Bool
same_verdict No No = true
same_verdict Open Open = true
same_verdict Yes Yes = true
same_verdict _ _ = false

-- how often the last value was read, up to a number
abbrev pub run_after : Run → ℕ → Verdict → Run
run_after r cells v = record { value = v; count = if same_verdict v r.value then min (r.count + 1) cells else min 1 cells }

-- what a delay keeps after a value at row i, if its operand gives values then
abbrev pub delayed_from : Delayed → ℕ → Verdict → ℕ → Delayed
delayed_from d from v i =
    record {
      ring = if nat_lt i from then d.ring else ring_after d.ring v;
      run = if nat_lt i from then d.run else run_after d.run d.ring.capacity v;
    }

abbrev pub window_after : Left → SpanKind → ℕ → ℕ → Verdict → ℕ → Left
window_after s kind width from v i = if nat_lt i from then s else left_after s width (sensed kind v)

-- the two counts of S after its first operand
abbrev pub hits_under : Left → ℕ → Verdict → ℕ → Left
hits_under hits late a i = if nat_lt i late then hits else left_under hits a

abbrev pub bars_after : Left → ℕ → ℕ → Verdict → ℕ → Left
bars_after bars late lower a i = if nat_lt i late then bars else left_after bars lower (turned_round a)

-- and after its second
abbrev pub hits_after : Left → Left → ℕ → ℕ → Verdict → ℕ → Left
hits_after hits bars width from b i = if nat_lt i from then hits else left_after hits width (least b (turned_round (left_value bars)))

-- the counts of U over the values of its first operand before the window
abbrev pub before_after : Left → ℕ → ℕ → Verdict → ℕ → Left
before_after bars lower from a i = if nat_lt i from then bars else left_after bars lower (turned_round a)

-- and the window
abbrev pub window_read : Lookahead → ℕ → Verdict → Verdict → ℕ → Lookahead
window_read s from a b i = if nat_lt i from then s else lookahead_after s a b

abbrev pub HasValidAtom : Operator → Type 0
HasValidAtom (op.Atom a) = IsValidAtom a
HasValidAtom _ = Unit {0}

-- what an operator gives at row i, with the values of the nodes before it, in a trace that is known to end at `end`
abbrev pub given : Operator → Kept → ℕ → List Verdict → (Atom → Verdict) → ℕ → ℕ → Verdict
given (op.Atom a) _ late values row i end = row a
given (op.Not a) _ late values row i end = turned_round (value_at values a)
given (op.Pair kind a b) _ late values row i end = pair_value kind (value_at values a) (value_at values b)
given (op.Late cells from a) (kinds.Ring d) late values row i end = if nat_lt i from then Open else ring_value d.ring (value_at values a)
given (op.Window kind width from a) (kinds.Window s) late values row i end =
    if nat_lt (i - late) end then sensed kind (left_value (window_after s kind width from (value_at values a) i)) else Open
given (op.Since width lower from a b) (kinds.Since hits bars) late values row i end =
    if nat_lt (i - late) end
    then left_value (hits_after (hits_under hits late (value_at values a) i) (bars_after bars late lower (value_at values a) i) width from (value_at values b) i)
    else Open
given (op.Until from full lower a behind b) (kinds.Until s) late values row i end =
    if nat_lt (i - late) end
    then least (turned_round (left_value (before_after s.bars lower full (value_at values behind) i)))
    (lookahead_value (window_read s.window from (value_at values a) (value_at values b) i))
    else Open
given _ _ late values row i end = Open

-- what an operator keeps after row i
abbrev pub kept : Operator → Kept → ℕ → List Verdict → ℕ → Kept
kept (op.Late cells from a) (kinds.Ring d) late values i = kinds.Ring (delayed_from d from (value_at values a) i)
kept (op.Window kind width from a) (kinds.Window s) late values i = kinds.Window (window_after s kind width from (value_at values a) i)
kept (op.Since width lower from a b) (kinds.Since hits bars) late values i =
    kinds.Since (hits_after (hits_under hits late (value_at values a) i) (bars_after bars late lower (value_at values a) i) width from (value_at values b) i)
    (bars_after bars late lower (value_at values a) i)
kept (op.Until from full lower a behind b) (kinds.Until s) late values i =
    kinds.Until (record { window = window_read s.window from (value_at values a) (value_at values b) i; bars = before_after s.bars lower full (value_at values behind) i })
kept _ s late values i = s
