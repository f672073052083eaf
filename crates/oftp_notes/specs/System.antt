-- The errors of the system, by Linux's numbers (errno), in the system's words.
use Rattle.std.specs.Prelude.{ℕ, ◌==◌, List, [], ◌∷◌, ◌++◌, codes, if◌then◌else◌}
use Rattle.std.specs.Fmt.{decimal}
use Rattle.oftp_notes.specs.declared.system.SystemError.{SystemError}

-- the words of an error with this number, or nothing for a number that isn't in the table
unfoldable pub system_words : ℕ → List ℕ
system_words n =
    if n == 1 then codes "Operation not permitted"
    else if n == 2 then codes "No such file or directory"
    else if n == 5 then codes "Input/output error"
    else if n == 6 then codes "No such device or address"
    else if n == 11 then codes "Resource temporarily unavailable"
    else if n == 12 then codes "Cannot allocate memory"
    else if n == 13 then codes "Permission denied"
    else if n == 16 then codes "Device or resource busy"
    else if n == 17 then codes "File exists"
    else if n == 18 then codes "Invalid cross-device link"
    else if n == 19 then codes "No such device"
    else if n == 20 then codes "Not a directory"
    else if n == 21 then codes "Is a directory"
    else if n == 22 then codes "Invalid argument"
    else if n == 23 then codes "Too many open files in system"
    else if n == 24 then codes "Too many open files"
    else if n == 26 then codes "Text file busy"
    else if n == 27 then codes "File too large"
    else if n == 28 then codes "No space left on device"
    else if n == 30 then codes "Read-only file system"
    else if n == 32 then codes "Broken pipe"
    else if n == 36 then codes "File name too long"
    else if n == 40 then codes "Too many levels of symbolic links"
    else if n == 97 then codes "Address family not supported by protocol"
    else if n == 98 then codes "Address already in use"
    else if n == 99 then codes "Cannot assign requested address"
    else if n == 100 then codes "Network is down"
    else if n == 101 then codes "Network is unreachable"
    else if n == 103 then codes "Software caused connection abort"
    else if n == 104 then codes "Connection reset by peer"
    else if n == 105 then codes "No buffer space available"
    else if n == 110 then codes "Connection timed out"
    else if n == 111 then codes "Connection refused"
    else if n == 112 then codes "Host is down"
    else if n == 113 then codes "No route to host"
    else if n == 122 then codes "Disk quota exceeded"
    else []

-- the words of an error, or its number where there are none
abbrev pub words_or_number : ℕ → List ℕ → List ℕ
words_or_number n [] = codes "error " ++ (decimal n ++ codes " of the system")
words_or_number n (b ∷ bs) = b ∷ bs

-- an error of the system
abbrev pub system_text : SystemError → List ℕ
system_text error = words_or_number error.0 (system_words error.0)
