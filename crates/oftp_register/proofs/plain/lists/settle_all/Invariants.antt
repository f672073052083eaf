use Rattle.std.proofs.Common.{◌≡◌, ◌++◌, map, take, drop}
use Rattle.oftp_register.specs.Changes.{settled}
use Rattle.oftp_register.specs.Lists.{outgoing_of}
use Rattle.oftp_register.proofs.plain.lists.settle_all.Given as goal

-- the files before the index are settled, the others as they were
abbrev pub invariant-loop-file : goal.invariant-loop-file
invariant-loop-file l =
    let files = map outgoing_of l.files in
    take l.file-index files ++ map (settled l.kind l.identity) (drop l.file-index files) ≡ map (settled l.kind l.identity) (map outgoing_of l.fn.files)
