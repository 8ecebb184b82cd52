use Rattle.std.proofs.Common.{◌≡◌, ◌+◌, ◌-◌, false, true, length, ap, rules, arith}
use Rattle.csv.specs.Records.{fields_of}
use Rattle.refutation_check.specs.Inner.ReadRows.{IsReadSoFar, Turned}
use Rattle.refutation_check.proofs.RowsRead.{all_read, no_turns, read_to, stepped}
use Rattle.refutation_check.proofs.entries_read.take_rows.Goals as goal

pub loop-turn-init : goal.loop-turn-init
loop-turn-init c =
    let turns : length c.args.text.now + 1 - 0 ≡ length c.args.text.now + 1 = omega arith in
    rw turns record {
      all = c.requires.all;
      plain = c.requires.plain;
      read = c.requires.so_far;
      few = omega (arith, ap length c.requires.none);
    }

pub returns-then-not-branch-clause-read : goal.returns-then-not-branch-clause-read
returns-then-not-branch-clause-read c =
    let s = c.args.situation.now in
    let text = c.args.text.now in
    let turns = length text + 1 - (c.loop-turn._turn + 1) in
    let less = c.loop-turn-test.true in
    let one_more : length text + 1 - c.loop-turn._turn ≡ turns + 1 = omega arith in
    let so_far : IsReadSoFar s text c.loop-turn.reader (turns + 1) c.loop-turn.read.entries.items = rw one_more at c.loop-turn.invariant.read in
    let found : c.in_ok-read_row.field-0 ≡ false = search rules in
    rw c.loop-turn.invariant.all (all_read s text c.loop-turn.reader (turns + 1) c.loop-turn.read.entries.items so_far (rw found at (c.in_ok-read_row.ensures.turned turns so_far.behind so_far.gives)))

pub returns-then-not-branch-2-clause-read : goal.returns-then-not-branch-2-clause-read
returns-then-not-branch-2-clause-read c =
    let s = c.args.situation.now in
    let text = c.args.text.now in
    let turns = length text + 1 - (c.loop-turn._turn + 1) in
    let less = c.loop-turn-test.true in
    let one_more : length text + 1 - c.loop-turn._turn ≡ turns + 1 = omega arith in
    let so_far : IsReadSoFar s text c.loop-turn.reader (turns + 1) c.loop-turn.read.entries.items = rw one_more at c.loop-turn.invariant.read in
    let found : c.in_ok-read_row.field-0 ≡ true = search rules in
    let fields = fields_of c.read_row.new.row in
    let turned : Turned true c.read_row.new.reader turns so_far.behind fields = rw found at (c.in_ok-read_row.ensures.turned turns so_far.behind so_far.gives) in
    let taken : c.in_ok-take_row.field-0 ≡ false = search rules in
    let takes = rw taken at c.in_ok-take_row.ensures in
    rw takes.2 (read_to s text c.loop-turn.reader c.read_row.new.reader (turns + 1) turns c.loop-turn.read.entries.items fields so_far takes.0 takes.1 turned)

pub loop-turn-preserved : goal.loop-turn-preserved
loop-turn-preserved c =
    let s = c.args.situation.now in
    let text = c.args.text.now in
    let turns = length text + 1 - (c.loop-turn._turn + 1) in
    let less = c.loop-turn-test.true in
    let one_more : length text + 1 - c.loop-turn._turn ≡ turns + 1 = omega arith in
    let so_far : IsReadSoFar s text c.loop-turn.reader (turns + 1) c.loop-turn.read.entries.items = rw one_more at c.loop-turn.invariant.read in
    let found : c.in_ok-read_row.field-0 ≡ true = search rules in
    let fields = fields_of c.read_row.new.row in
    let turned : Turned true c.read_row.new.reader turns so_far.behind fields = rw found at (c.in_ok-read_row.ensures.turned turns so_far.behind so_far.gives) in
    let taken : c.in_ok-take_row.field-0 ≡ true = search rules in
    let more = stepped s text c.read_row.new.reader c.loop-turn.reader turns c.loop-turn.read.entries.items c.take_row.new.entries.items fields so_far turned (rw taken at c.in_ok-take_row.ensures) in
    let few = c.loop-turn.invariant.few in
    record { all = c.loop-turn.invariant.all; plain = c.in_ok-read_row.ensures.plain; read = more.0; few = omega (arith, more.1) }

pub returns-clause-read : goal.returns-clause-read
returns-clause-read c =
    let s = c.args.situation.now in
    let text = c.args.text.now in
    let turns = length text + 1 - c.loop-turn._turn in
    let end = c.loop-turn-test.false in
    let none : turns ≡ 0 = omega arith in
    rw c.loop-turn.invariant.all (
    all_read s text c.loop-turn.reader turns c.loop-turn.read.entries.items c.loop-turn.invariant.read (no_turns c.loop-turn.reader c.loop-turn.invariant.read.behind turns none c.loop-turn.invariant.read.gives))
