-- The single arguments that ask the program about itself.
use Rattle.std.specs.Prelude.{ℕ, codes, List, [], ◌∷◌, ◌++◌, Option, Some, None, if◌then◌else◌}
use Rattle.std.specs.Str.{bytes_eq}
use Rattle.clap.specs.Words.{Text}
use Rattle.command_line.specs.declared.help.InfoRequest.{InfoRequest}
use Rattle.command_line.specs.declared.help.InfoRequest.TheVariants as info

abbrev pub info_by : Text → Option InfoRequest
info_by word =
    if bytes_eq word (codes "--help") then Some info.Help
    else if bytes_eq word (codes "-h") then Some info.Summary
    else if bytes_eq word (codes "--version") then Some info.Version
    else if bytes_eq word (codes "-V") then Some info.Version
    else None

-- what the arguments ask for, if there is one
abbrev pub info_of : List Text → Option InfoRequest
info_of (word ∷ []) = info_by word
info_of _ = None

-- the line with the program's name and its version
abbrev pub version_line : List ℕ
version_line = codes "colregs 0.1.0" ++ 10 ∷ []
