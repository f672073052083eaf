-- The script that checks a folder of evidence.
use Rattle.std.specs.Prelude.{ℕ, List, ◌++◌, codes}

-- The text of verify.sh. The sums are compared, and then the record is played over a new database, by the book that is the first argument.
abbrev pub verify_script : List ℕ
verify_script = codes "#!/bin/sh\n"
    ++ (codes "# sh verify.sh BOOK: compares the sums, and plays the record over a new database, by the book.\n"
    ++ (codes "set -eu\n"
    ++ (codes "folder=$(dirname \"$0\")\n"
    ++ (codes "(cd \"$folder\" && sha256sum -c SHA256SUMS)\n"
    ++ (codes "new=$(mktemp -d)\n"
    ++ (codes "trap 'rm -r \"$new\"' EXIT\n"
    ++ codes "oftp_station replay --record \"$folder/record\" --db \"$new/new.db\" --book \"$1\"\n"))))))
