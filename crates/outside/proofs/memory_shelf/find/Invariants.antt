use Rattle.std.proofs.Common.{◌≡◌, drop}
use Rattle.outside.specs.Shelves.{content_of, files_of}
use Rattle.outside.proofs.memory_shelf.find.Given as goal

-- none of the files so far has the name
abbrev pub invariant-loop-held : goal.invariant-loop-held
invariant-loop-held l = content_of l.name (files_of l.files) ≡ content_of l.name (files_of (drop l.held-index l.files))
