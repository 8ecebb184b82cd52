use Rattle.std.proofs.Common.{◌≡◌, ℕ, ◌<◌, List, length, get_or, take, take_all, Err, sym, ap, subst, ◌∙◌}
use Rattle.std.proofs.lemmas.List.Elements.{All-get_or}
use Rattle.encounters.specs.declared.detect.Detect.{Detect}
use Rattle.meetings.specs.Traces.{AreInContact}
use Rattle.meetings.specs.declared.pair.Pair.{Pair}
use Rattle.traces.specs.Audited.{AuditNumbers, SeenVessels, Sighting, state_in}
use Rattle.traces.specs.Contacts.{AreContacts}
use Rattle.traces.specs.Inner.TracesKept.{AreTooMany, IsBeginning, IsTaken, MayTake}
use Rattle.traces.specs.Known.{Known, pairs_of}
use Rattle.traces.specs.declared.all_traces.AllTraces.{AllTraces}
use Rattle.traces.specs.declared.fault.TickFault.{TickFault}
use Rattle.traces.specs.declared.fault.TickFault.TheVariants.{TooManyPairs}
use Rattle.traces.proofs.Beginning.{AreBegunSo, begins_on, begun_all, begun_more, may_take, too_many}
use Rattle.outside.proofs.ForCallers.{same_fault}
use Rattle.traces.proofs.all_traces.AllTraces.begin_all.Goals as goal

contacts_of : (detect other : Detect) (own subjects : List ℕ) (seen : SeenVessels) (pairs items : List Pair) → detect ≡ other → own ≡ subjects → items ≡ pairs
    → AreContacts subjects detect.watch seen pairs → AreContacts own other.watch seen items
contacts_of detect other own subjects seen pairs items e f g h =
    subst (λ (ps : List Pair). AreContacts own other.watch seen ps) (sym g)
    (subst (λ (ss : List ℕ). AreContacts ss other.watch seen pairs) (sym f) (subst (λ (d : Detect). AreContacts subjects d.watch seen pairs) e h))

may : (kept : AllTraces) (numbers : AuditNumbers) (ticks : List Sighting) (seen : SeenVessels) (start : ℕ) (before : List Known) (pairs : List Pair) (i : ℕ) (d : Pair)
    → AreContacts numbers.subjects numbers.detect.watch seen pairs → i < length pairs → numbers.subjects ≡ kept.subjects.items → (b : AreBegunSo kept numbers ticks seen start before (take i pairs))
    → MayTake kept numbers seen (pairs_of before) b.after (get_or pairs i d)
may kept numbers ticks seen start before pairs i d contacts lt e b =
    let at = All-get_or (λ (p : Pair). (p.subject < p.other) × AreInContact numbers.detect.watch (state_in p.subject seen) (state_in p.other seen)) pairs i d lt contacts.sound in
    may_take kept numbers ticks seen start before (take i pairs) (get_or pairs i d) e at.0 at.1 b

own_subjects : (numbers : AuditNumbers) (old new : AllTraces) → numbers.subjects ≡ old.subjects.items → IsBeginning old new → numbers.subjects ≡ new.subjects.items
own_subjects numbers old new e same = e ∙ ap (λ (v : _). v.items) (sym same.subjects)

pub returns-in_err-begin_both-clause-many : goal.returns-in_err-begin_both-clause-many
returns-in_err-begin_both-clause-many c = λ fault numbers ticks knowns h allowed.
    let items : List Pair = c.as_slice-pair-items.result.now in
    let i : ℕ = c.loop-pair.pair-index in
    let start = c.args.self.now.given in
    let now = c.loop-pair.self in
    let contacts = contacts_of c.args.self.now.detect numbers.detect numbers.subjects c.deref.result.now c.args.seen.now c.in_ok-pairs.pairs.items items h.detect (allowed.chosen ∙ sym c.deref.ensures.value) c.as_slice-pair-items.ensures.value c.in_ok-pairs.ensures in
    let b = c.loop-pair.invariant.begun numbers ticks knowns h allowed in
    let given = c.loop-pair.invariant.same.given in
    let m = may now numbers ticks c.args.seen.now start knowns items i (record { subject = 0; other = 0 }) contacts c.loop-pair-test.true (own_subjects numbers c.args.self.now now allowed.chosen c.loop-pair.invariant.same) b in
    let same = same_fault c.from_residual-in_err-begin_both.result c.in_err-begin_both.field-0.0 TooManyPairs c.from_residual-in_err-begin_both.ensures.1 fault in
    let err : c.begin_both.result ≡ Err TooManyPairs = c.in_err-begin_both.was ∙ ap (λ (e : TickFault). Err e) (sym same) in
    too_many now numbers ticks c.args.seen.now start knowns (take i items) b
    (subst (λ (n : ℕ). AreTooMany numbers c.args.seen.now (pairs_of knowns) n b.after) given (c.begin_both.ensures.many err numbers ticks c.args.seen.now (pairs_of knowns) b.after b.holds m))

pub loop-pair-preserved : goal.loop-pair-preserved
loop-pair-preserved c = record {
  sound = c.in_ok-begin_both.ensures.sound;
  same = begins_on c.args.self.now c.loop-pair.self c.begin_both.new.self c.loop-pair.invariant.same c.in_ok-begin_both.ensures.same;
  begun = λ numbers ticks knowns h allowed. (
      let items : List Pair = c.as_slice-pair-items.result.now in
      let i : ℕ = c.loop-pair.pair-index in
      let start = c.args.self.now.given in
      let now = c.loop-pair.self in
      let contacts = contacts_of c.args.self.now.detect numbers.detect numbers.subjects c.deref.result.now c.args.seen.now c.in_ok-pairs.pairs.items items h.detect (allowed.chosen ∙ sym c.deref.ensures.value) c.as_slice-pair-items.ensures.value c.in_ok-pairs.ensures in
      let b = c.loop-pair.invariant.begun numbers ticks knowns h allowed in
      let given = c.loop-pair.invariant.same.given in
      let m = may now numbers ticks c.args.seen.now start knowns items i (record { subject = 0; other = 0 }) contacts c.loop-pair-test.true (own_subjects numbers c.args.self.now now allowed.chosen c.loop-pair.invariant.same) b in
      begun_more now numbers ticks c.args.seen.now start knowns c.begin_both.new.self items i (record { subject = 0; other = 0 }) c.loop-pair-test.true b
      (subst (λ (n : ℕ). IsTaken c.begin_both.new.self numbers ticks c.args.seen.now (pairs_of knowns) n b.after (get_or items i (record { subject = 0; other = 0 }))) given
      (c.in_ok-begin_both.ensures.begun numbers ticks c.args.seen.now (pairs_of knowns) b.after b.holds m)));
}

pub returns-clause-begun : goal.returns-clause-begun
returns-clause-begun c = λ numbers ticks knowns h allowed.
    let items : List Pair = c.as_slice-pair-items.result.now in
    let contacts = contacts_of c.args.self.now.detect numbers.detect numbers.subjects c.deref.result.now c.args.seen.now c.in_ok-pairs.pairs.items items h.detect (allowed.chosen ∙ sym c.deref.ensures.value) c.as_slice-pair-items.ensures.value c.in_ok-pairs.ensures in
    let b = c.loop-pair.invariant.begun numbers ticks knowns h allowed in
    begun_all c.loop-pair.self numbers ticks c.args.seen.now c.args.self.now.given knowns items contacts
    (subst (λ (ps : List Pair). AreBegunSo c.loop-pair.self numbers ticks c.args.seen.now c.args.self.now.given knowns ps) (take_all c.loop-pair.pair-index items c.loop-pair-test.false) b)
