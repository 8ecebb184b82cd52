-- The results of fetching a name from a shelf.
use Rattle.std.specs.Prelude.{ℕ, ◌≡◌, ◌≤◌, ◌<◌, ◌⊎◌, ◌&&◌, Bool, true, not, IsTrue, List, [], ◌∷◌, length, map, None, Some, if◌then◌else◌, Vec}
use Rattle.std.specs.List.{list_all}
use Rattle.std.specs.Str.{bytes_eq}
use Rattle.std.specs.declared.alloc.Global.{Global}
use Rattle.std.specs.declared.option.Option.{Option}
use Rattle.outside.specs.declared.shelf.Fetched.{Fetched}
use Rattle.outside.specs.declared.shelf.Fetched.TheVariants as fetched
use Rattle.outside.specs.Causes.{one_more}

-- names, each with its bytes
abbrev pub Files : Type 0
Files = List (List ℕ × List ℕ)

-- files in memory, with names and bytes as their model
abbrev pub files_of : List (List ℕ × Vec ℕ Global) → Files
files_of held = map (λ file. (file.0, file.1.items)) held

-- the bytes under a name, if any
abbrev pub content_of : List ℕ → Files → Option (List ℕ)
content_of name [] = None
content_of name (file ∷ files) = if bytes_eq name file.0 then Some file.1 else content_of name files

-- whether no two files have the same name
abbrev pub names_differ : Files → Bool
names_differ [] = true
names_differ (file ∷ files) =
    list_all (λ other. not (bytes_eq file.0 other.0)) files && names_differ files

abbrev pub FilesHaveDifferentNames : Files → Type 0
FilesHaveDifferentNames files = IsTrue (names_differ files)

-- A shelf returns no more bytes than the limit. If its files are known, it returns the whole content, and reports that
-- the content is too long only if it is longer.
abbrev pub Fetches : Option Files → List ℕ → ℕ → Fetched → Type 0
Fetches None name limit (fetched.Bytes v) = length v.items ≤ limit
Fetches None name limit fetched.TooLong = Unit {0}
Fetches None name limit fetched.Failed = Unit {0}
Fetches None name limit fetched.Memory = Unit {0}
Fetches (Some files) name limit (fetched.Bytes v) =
    (content_of name files ≡ Some v.items) × (length v.items ≤ limit)
Fetches (Some files) name limit fetched.TooLong =
    (bytes : List ℕ) × (content_of name files ≡ Some bytes) × (limit < length bytes)
Fetches (Some files) name limit fetched.Failed = Unit {0}
Fetches (Some files) name limit fetched.Memory = Unit {0}

-- The files are known, and none has this name.
abbrev pub IsMissing : Option Files → List ℕ → Type 0
IsMissing None name = ⊥
IsMissing (Some files) name = content_of name files ≡ None

-- A fetch fails only if the count of faults rises by one, or if the name is known to be missing and the count stays.
-- The count stays with every other result.
abbrev pub FetchCause : Option Files → List ℕ → ℕ → ℕ → Fetched → Type 0
FetchCause files name before now fetched.Failed =
    (now ≡ one_more before) ⊎ (now ≡ before × IsMissing files name)
FetchCause files name before now (fetched.Bytes v) = now ≡ before
FetchCause files name before now fetched.TooLong = now ≡ before
FetchCause files name before now fetched.Memory = now ≡ before
