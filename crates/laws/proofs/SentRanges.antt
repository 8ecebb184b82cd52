-- The messages of a log say what their fields can say.
use Rattle.std.proofs.Common.{◌≡◌, ℕ, ◌*◌, ◌^◌, ◌<◌, ◌≤◌, Bool, true, false, List, [], ◌∷◌, ◌++◌, length, take, drop, Option, None, Some, Ok, Err, length-take, refl, arith}
use Rattle.std.specs.Prelude.{IfOk, IfSome, Result, nat_lt, not, ◌==◌, ◌||◌, if◌then◌else◌}
use Rattle.std.specs.List.{All, cons_option, filter_map}
use Rattle.std.proofs.Math.Nat.{pow-le-pow_right}
use Rattle.std.proofs.lemmas.Bool.Decides.{nat_tests}
use Rattle.std.proofs.lemmas.List.Elements.{All-cons, All-head, All-nil, All-tail}
use Rattle.aivdm.specs.BitFields.{unsigned_at}
use Rattle.aivdm.specs.FragmentJoining.{Taken, joined_of}
use Rattle.aivdm.specs.declared.joiner.Joined.{Joined}
use Rattle.aivdm.specs.declared.joiner.Joined.TheVariants as joined
use Rattle.aivdm.proofs.BitLists.{number_of-below}
use Rattle.ais_messages.specs.MessageFields.{IfMessage, below, class_a_of, class_b_of, decoded_as, decoded_of, layout_of, long_range_of, message_of, mmsi_of, part_layout, part_of, tenfold_below, type_of}
use Rattle.ais_messages.specs.ShipIdentities.{is_ship}
use Rattle.ais_messages.specs.declared.message.Decoded.{Decoded}
use Rattle.ais_messages.specs.declared.message.Decoded.TheVariants as decoded
use Rattle.ais_messages.specs.declared.message.Message.{Message}
use Rattle.ais_messages.specs.declared.message.Message.TheVariants as message
use Rattle.ais_messages.specs.declared.message.MessageCause.{MessageCause}
use Rattle.ais_messages.specs.declared.message.MessageCause.TheVariants.{NotShip, Short}
use Rattle.ais_messages.specs.declared.message.PositionReport.{PositionReport}
use Rattle.ais_messages.specs.declared.message.StaticReport.{StaticReport}
use Rattle.log_lines.specs.EachLine.{each_after, ok_value}
use Rattle.log_lines.specs.SentLines.{heard, heard_of, sent, sent_decoded, sent_heard, sent_joined, sent_of}
use Rattle.log_lines.specs.declared.outcome.LineOutcome.{LineOutcome}
use Rattle.scenario_values.specs.declared.values.Scenario.{Scenario}
use Rattle.tracks.specs.VesselsHeld.{Sent}

-- ---- lists

-- What f keeps of the elements of a list.
pub all_kept : {A B : Type 0} (f : A → Option B) (P : A → Type 0) (Q : B → Type 0) → ((x : A) → P x → IfSome (f x) Q) → (xs : List A) → All P xs → All Q (filter_map f xs)
all_kept f P Q each [] h = All-nil Q
all_kept {A} {B} f P Q each (x ∷ xs) h = onto (f x) (each x (All-head P x xs h)) (all_kept f P Q each xs (All-tail P x xs h))
  where
    onto : (o : Option B) → IfSome o Q → All Q (filter_map f xs) → All Q (cons_option o (filter_map f xs))
    onto None here rest = rest
    onto (Some y) here rest = All-cons Q y (filter_map f xs) here rest

-- ---- what a message can say

-- of a vessel's motion
pub record IsSaid (report : PositionReport) : Type 0 where
  pub sog : IfSome report.sog (λ v. v < 1023)
  pub cog : IfSome report.cog (λ c. c < 3600)
  pub heading : IfSome report.heading (λ h. h < 360)

-- of her length
abbrev pub IsShort : StaticReport → Type 0
IsShort report = IfSome report.ship (λ ship. (ship.bow < 512) × (ship.stern < 512))

abbrev pub IsSayable : Message → Type 0
IsSayable (message.Position report) = IsSaid report
IsSayable (message.Static report) = IsShort report
IsSayable (message.Both report static) = IsSaid report × IsShort static

-- ---- fields

nine_bits : (bits : List Bool) (first : ℕ) → unsigned_at bits first 9 < 512
nine_bits bits first =
    let few : length (take 9 (drop first bits)) ≤ 9 = omega (arith, length-take 9 (drop first bits)) in
    let small : unsigned_at bits first 9 < 2 ^ length (take 9 (drop first bits)) = number_of-below (take 9 (drop first bits)) in
    let most : 2 ^ length (take 9 (drop first bits)) ≤ 2 ^ 9 = pow-le-pow_right (omega arith) few in
    omega arith

limited : (limit value : ℕ) → IfSome (below limit value) (λ x. x < limit)
limited limit value = by (nat_lt value limit) refl
  where
    by : (b : Bool) → nat_lt value limit ≡ b → IfSome (if b then Some value else None) (λ x. x < limit)
    by true e = grind (arith, nat_tests)
    by false e = tt

limited_tenfold : (limit value : ℕ) → IfSome (tenfold_below limit value) (λ x. x < limit * 10)
limited_tenfold limit value = by (nat_lt value limit) refl
  where
    by : (b : Bool) → nat_lt value limit ≡ b → IfSome (if b then Some (value * 10) else None) (λ x. x < limit * 10)
    by true e = let lt : value < limit = grind (arith, nat_tests) in omega arith
    by false e = tt

weaker : (limit most : ℕ) (o : Option ℕ) → limit ≤ most → IfSome o (λ x. x < limit) → IfSome o (λ x. x < most)
weaker limit most None le h = tt
weaker limit most (Some x) le h = omega arith

-- ---- the layouts

class_a : (bits : List Bool) → IsSaid (class_a_of bits)
unfolding class_a_of
class_a bits = record { sog = limited 1023 (unsigned_at bits 50 10); cog = limited 3600 (unsigned_at bits 116 12); heading = limited 360 (unsigned_at bits 128 9) }

class_b : (bits : List Bool) → IsSaid (class_b_of bits)
unfolding class_b_of
class_b bits = record { sog = limited 1023 (unsigned_at bits 46 10); cog = limited 3600 (unsigned_at bits 112 12); heading = limited 360 (unsigned_at bits 124 9) }

long_range : (bits : List Bool) → IsSaid (long_range_of bits)
unfolding long_range_of
long_range bits = record {
  sog = weaker 630 1023 (tenfold_below 63 (unsigned_at bits 79 6)) (omega arith) (limited_tenfold 63 (unsigned_at bits 79 6));
  cog = limited_tenfold 360 (unsigned_at bits 85 9);
  heading = tt;
}

-- ---- what is decoded

either : (b : Bool) (x y : Decoded) → IfMessage x IsSayable → IfMessage y IsSayable → IfMessage (if b then x else y) IsSayable
either true x y h k = h
either false x y h k = k

-- of bits of some layout
long_enough : (short : Bool) (bits : List Bool) (m : Message) → IsSayable m
    → IfMessage (if short then decoded.Dropped Short else if not (is_ship (mmsi_of bits)) then decoded.Dropped NotShip else decoded.Message m) IsSayable
long_enough short bits m h =
    either short (decoded.Dropped Short) (if not (is_ship (mmsi_of bits)) then decoded.Dropped NotShip else decoded.Message m) tt
    (either (not (is_ship (mmsi_of bits))) (decoded.Dropped NotShip) (decoded.Message m) tt h)

choice : {L : Type 0} (decide : Result L MessageCause → Decoded) (b : Bool) (x y : Result L MessageCause) → IfMessage (decide x) IsSayable → IfMessage (decide y) IsSayable
    → IfMessage (decide (if b then x else y)) IsSayable
choice decide true x y h k = h
choice decide false x y h k = k

part : (bits : List Bool) → IfMessage (decoded_as bits (part_layout bits)) IsSayable
unfolding message_of
part bits =
    choice (decoded_as bits) (nat_lt (length bits) 40) _ _ tt
    (choice (decoded_as bits) (part_of bits == 0) _ _ (long_enough _ bits _ tt)
    (choice (decoded_as bits) (part_of bits == 1) _ _ (long_enough _ bits _ (nine_bits bits 132, nine_bits bits 141)) tt))

of_bits : (bits : List Bool) → IfMessage (decoded_of bits) IsSayable
unfolding decoded_of layout_of message_of
of_bits bits =
    let type = type_of bits in
    either (nat_lt (length bits) 38) (decoded.Dropped Short) _ tt
    (choice (decoded_as bits) ((type == 1 || type == 2) || type == 3) _ _ (long_enough _ bits _ (class_a bits))
    (choice (decoded_as bits) (type == 5) _ _ (long_enough _ bits _ (nine_bits bits 240, nine_bits bits 249))
    (choice (decoded_as bits) (type == 18) _ _ (long_enough _ bits _ (class_b bits))
    (choice (decoded_as bits) (type == 19) _ _ (long_enough _ bits _ (class_b bits, (nine_bits bits 271, nine_bits bits 280)))
    (choice (decoded_as bits) (type == 24) _ _ (part bits)
    (choice (decoded_as bits) (type == 27) _ _ (long_enough _ bits _ (long_range bits)) tt))))))

-- ---- the messages of lines

abbrev pub IsSayableOne : Sent → Type 0
IsSayableOne one = IsSayable one.message

of_decoded : (time : ℕ) (d : Decoded) → IfMessage d IsSayable → IfOk (sent_decoded time d) IsSayableOne
of_decoded time (decoded.Message m) h = h
of_decoded time (decoded.Dropped cause) h = tt

of_joined : (time : ℕ) (j : Joined) → IfOk (sent_joined time j) IsSayableOne
of_joined time (joined.Message bits) = of_decoded time (decoded_of bits) (of_bits bits)
of_joined time joined.Waiting = tt
of_joined time joined.Orphan = tt

of_heard : (before : List Taken) (r : Result Taken LineOutcome) → IfOk (sent_heard before r) IsSayableOne
of_heard before (Ok taken) = of_joined taken.time (joined_of before taken)
of_heard before (Err came) = tt

of_line : (scenario : Scenario) (before : List (List ℕ)) (line : List ℕ) → IfOk (sent_of scenario before line) IsSayableOne
unfolding sent_of
of_line scenario before line = of_heard (heard scenario before) (heard_of scenario before line)

of_lines : (f : List (List ℕ) → List ℕ → Result Sent LineOutcome) → ((before : List (List ℕ)) (line : List ℕ) → IfOk (f before line) IsSayableOne)
    → (before lines : List (List ℕ)) → All IsSayableOne (filter_map ok_value (each_after f before lines))
unfolding each_after
of_lines f each before [] = All-nil IsSayableOne
of_lines f each before (line ∷ lines) = onto (f before line) (each before line) (of_lines f each (before ++ line ∷ []) lines)
  where
    onto : (r : Result Sent LineOutcome) → IfOk r IsSayableOne → All IsSayableOne (filter_map ok_value (each_after f (before ++ line ∷ []) lines))
        → All IsSayableOne (cons_option (ok_value r) (filter_map ok_value (each_after f (before ++ line ∷ []) lines)))
    onto (Ok one) here rest = All-cons IsSayableOne one (filter_map ok_value (each_after f (before ++ line ∷ []) lines)) here rest
    onto (Err came) here rest = rest

-- The messages of a log.
pub sent_sayable : (scenario : Scenario) (lines : List (List ℕ)) → All IsSayableOne (sent scenario lines)
unfolding sent
sent_sayable scenario lines = of_lines (sent_of scenario) (of_line scenario) [] lines
