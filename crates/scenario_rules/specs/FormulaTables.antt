-- The faults of the tables of `formula`: in each table first that of its name, and then that of its text.
use Rattle.std.specs.Prelude.{◌≡◌, ◌⊎◌, ℕ, ◌≤◌, ◌<◌, ◌==◌, nat_le, Bool, false, not, ◌&&◌, ◌||◌, if◌then◌else◌, codes, List, [], ◌∷◌, ◌++◌, length, map, bytes_eq, Option, Some, None}
use Rattle.std.specs.Char.{is_ascii_digit}
use Rattle.std.specs.List.{list_all, list_any}
use Rattle.toml.specs.Data.{Data, as_str}
use Rattle.mtl_language.specs.FormulaReading.{Meaning, tree, syntax_fault, number_fault, size_fault, IsMeaning}
use Rattle.rule_set.specs.declared.ranking.Ranking.{Ranking}
use Rattle.rule_set.specs.declared.ranking.Ranking.TheVariants.{Ignored, Counted}
use Rattle.scenario_keys.specs.KeyValues.{member_at}
use Rattle.scenario_keys.specs.FirstFaults.{with_before, IsFound}
use Rattle.scenario_keys.specs.ToldFaults.{fault_at, fault_by_at}
use Rattle.scenario_keys.specs.declared.key.Key.{Key}
use Rattle.scenario_keys.specs.declared.cause.Cause.{Cause}
use Rattle.scenario_keys.specs.declared.cause.Cause.TheVariants as cause

-- the text of a value, empty if there is none

abbrev pub string_of : Option (List ℕ) → List ℕ
string_of None = []
string_of (Some text) = text

abbrev pub string_in : Option Data → List ℕ
string_in None = []
string_in (Some found) = string_of (as_str found)

abbrev pub formula_name_in : Data → List ℕ
formula_name_in here = string_in (member_at (codes "name") here)

abbrev pub formula_text_in : Data → List ℕ
formula_text_in here = string_in (member_at (codes "text") here)

-- a name: a lowercase letter followed by lowercase letters, digits and _, at most 16 bytes

abbrev pub is_small_letter : ℕ → Bool
is_small_letter b = nat_le 97 b && nat_le b 122

abbrev pub is_name_byte : ℕ → Bool
is_name_byte b = is_small_letter b || (is_ascii_digit b || (b == 95))

abbrev pub begins_small : List ℕ → Bool
begins_small [] = false
begins_small (first ∷ rest) = is_small_letter first

abbrev pub is_rule_name : List ℕ → Bool
is_rule_name name = nat_le (length name) 16 && (begins_small name && list_all is_name_byte name)

-- the names of the eleven rules that exist both without and with ranks
abbrev pub eleven_names : List (List ℕ)
eleven_names =
    codes "r8b" ∷ codes "r8d" ∷ codes "r13" ∷ codes "r14a" ∷ codes "r14b" ∷ codes "r14p" ∷ codes "r15" ∷ codes "r16" ∷ codes "r17a"
    ∷ codes "r17b" ∷ codes "r17c" ∷ []

-- the names of the rules without ranks, or with them
abbrev pub rule_names : Ranking → List (List ℕ)
rule_names Ignored = eleven_names
rule_names Counted = eleven_names ++ codes "r18" ∷ []

-- whether a rule or a formula of an earlier table has the name
abbrev pub is_name_taken : Ranking → List Data → List ℕ → Bool
is_name_taken ranks before name = list_any (λ taken. bytes_eq taken name) (rule_names ranks ++ map formula_name_in before)

-- the fault of a name, if these names are taken

abbrev pub new_name_cause : (List ℕ → Bool) → Option (List ℕ) → Option Cause
new_name_cause taken None = Some cause.Type_
new_name_cause taken (Some name) = if is_rule_name name && not (taken name) then None else Some cause.Range

abbrev pub name_cause : (List ℕ → Bool) → Option Data → Option Cause
name_cause taken None = Some cause.Missing
name_cause taken (Some found) = new_name_cause taken (as_str found)

-- The fault of a text at a tick of this many seconds: the index of the first byte that fits no formula, or of a refused
-- number, or the text's length if the formula is too large.

abbrev pub formula_cause : ℕ → Meaning → Option Cause
formula_cause length (tree t) = None
formula_cause length (syntax_fault index) = Some (cause.Formula index)
formula_cause length (number_fault index) = Some (cause.Formula index)
formula_cause length size_fault = Some (cause.Formula length)

abbrev pub HasCause : ℕ → List ℕ → Option Cause → Type 0
HasCause tick text why = (meaning : Meaning) × IsMeaning text tick meaning × (why ≡ formula_cause (length text) meaning)

-- a text is at most 1024 bytes long
abbrev pub IsBytesCause : ℕ → List ℕ → Option Cause → Type 0
IsBytesCause tick text why =
    (length text ≤ 1024) × HasCause tick text why ⊎ (1024 < length text) × (why ≡ Some cause.Range)

abbrev pub IsStringCause : ℕ → Option (List ℕ) → Option Cause → Type 0
IsStringCause tick None why = why ≡ Some cause.Type_
IsStringCause tick (Some text) why = IsBytesCause tick text why

abbrev pub IsTextCause : ℕ → Option Data → Option Cause → Type 0
IsTextCause tick None why = why ≡ Some cause.Missing
IsTextCause tick (Some found) why = IsStringCause tick (as_str found) why

-- the result of the test of a table at an index: the fault of its name, otherwise that of its text

abbrev pub IsTextFault : ℕ → ℕ → Option Cause → Option Data → Option (Key × Cause) → Type 0
IsTextFault tick item (Some why) text told = told ≡ fault_at 32 item why
IsTextFault tick item None text told = (why : Option Cause) × IsTextCause tick text why × (told ≡ fault_by_at 33 item why)

abbrev pub IsFaultBy : (List ℕ → Bool) → ℕ → ℕ → Data → Option (Key × Cause) → Type 0
IsFaultBy taken tick item here told =
    IsTextFault tick item (name_cause taken (member_at (codes "name") here)) (member_at (codes "text") here) told

abbrev pub IsTableFault : Ranking → ℕ → List Data × Data → Option (Key × Cause) → Type 0
IsTableFault ranks tick (before, here) told = IsFaultBy (is_name_taken ranks before) tick (length before) here told

-- the result of the tests of all tables: the first fault or none
abbrev pub IsFormulaFault : Ranking → ℕ → List Data → Option (Key × Cause) → Type 0
IsFormulaFault ranks tick tables told = IsFound (IsTableFault ranks tick) (with_before [] tables) told
