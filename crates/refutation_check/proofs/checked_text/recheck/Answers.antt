use Rattle.std.proofs.Common.{◌≡◌, length}
use Rattle.refutations.specs.RightLists.{Tells}
use Rattle.refutation_check.specs.CheckedRows.{why_rows, IsFirstBadRow}
use Rattle.refutations.specs.declared.entry.Checked.TheVariants.{Right, Bad}
use Rattle.refutation_check.proofs.SoundRows.{all_tells, entries_of_it, none_bad, none_right, right_exactly}
use Rattle.refutation_check.proofs.checked_text.recheck.Goals as goal

pub check-requires-clause-entries : goal.check-requires-clause-entries
check-requires-clause-entries c =
    let read = c.in_ok-read.read in
    rw c.deref.ensures.value (entries_of_it c.args.situation.now (why_rows c.args.text.now) read.entries.items read.all c.in_ok-read.ensures.read)

pub returns-then-read-clause-told : goal.returns-then-read-clause-told
returns-then-read-clause-told c =
    let s = c.args.situation.now in
    let read = c.in_ok-read.read in
    let tells : Tells s read.entries.items c.in_ok-checked.checked = rw c.deref.ensures.value at c.in_ok-checked.ensures.told in
    all_tells s (why_rows c.args.text.now) read.entries.items read.all c.in_ok-read.ensures.read c.in_ok-checked.checked c.if-read.true tells

pub returns-then-read-clause-right : goal.returns-then-read-clause-right
returns-then-read-clause-right c =
    let s = c.args.situation.now in
    let read = c.in_ok-read.read in
    let rows = why_rows c.args.text.now in
    let tells : Tells s read.entries.items c.in_ok-checked.checked = rw c.deref.ensures.value at c.in_ok-checked.ensures.told in
    right_exactly s rows c.in_ok-checked.checked (all_tells s rows read.entries.items read.all c.in_ok-read.ensures.read c.in_ok-checked.checked c.if-read.true tells)

pub returns-in-Right-clause-told : goal.returns-in-Right-clause-told
returns-in-Right-clause-told c =
    let s = c.args.situation.now in
    let read = c.in_ok-read.read in
    let tells : Tells s read.entries.items Right = rw (c.deref.ensures.value, c.in-Right.is) at c.in_ok-checked.ensures.told in
    let many : c.len.result ≡ length read.entries.items = cc (c.len.ensures) in
    rw many (none_right s (why_rows c.args.text.now) read.entries.items read.all c.in_ok-read.ensures.read c.if-read.false tells)

pub returns-in-Right-clause-right : goal.returns-in-Right-clause-right
returns-in-Right-clause-right c =
    let s = c.args.situation.now in
    let read = c.in_ok-read.read in
    let rows = why_rows c.args.text.now in
    let tells : Tells s read.entries.items Right = rw (c.deref.ensures.value, c.in-Right.is) at c.in_ok-checked.ensures.told in
    let many : c.len.result ≡ length read.entries.items = cc (c.len.ensures) in
    let bad : IsFirstBadRow s rows c.len.result = rw many (none_right s rows read.entries.items read.all c.in_ok-read.ensures.read c.if-read.false tells) in
    right_exactly s rows (Bad c.len.result) bad

pub returns-clause-told : goal.returns-clause-told
returns-clause-told c =
    let s = c.args.situation.now in
    let read = c.in_ok-read.read in
    let tells : Tells s read.entries.items (Bad c.in-Bad.k) = rw (c.deref.ensures.value, c.in-Bad.is) at c.in_ok-checked.ensures.told in
    none_bad s (why_rows c.args.text.now) read.entries.items read.all c.in_ok-read.ensures.read c.in-Bad.k c.if-read.false tells

pub returns-clause-right : goal.returns-clause-right
returns-clause-right c =
    let s = c.args.situation.now in
    let read = c.in_ok-read.read in
    let rows = why_rows c.args.text.now in
    let tells : Tells s read.entries.items (Bad c.in-Bad.k) = rw (c.deref.ensures.value, c.in-Bad.is) at c.in_ok-checked.ensures.told in
    right_exactly s rows (Bad c.in-Bad.k) (none_bad s rows read.entries.items read.all c.in_ok-read.ensures.read c.in-Bad.k c.if-read.false tells)
