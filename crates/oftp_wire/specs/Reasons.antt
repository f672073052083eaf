-- The numbers of the reasons, and the words that RFC 5024 has for them.
use Rattle.std.specs.Prelude.{ℕ, ◌/◌, ◌%◌, ◌==◌, List, [], ◌∷◌, ◌++◌, find, codes, if◌then◌else◌, Option, Some, None}
use Rattle.std.specs.Fmt.{decimal}
use Rattle.oftp_wire.specs.declared.fault.WireFault.{WireFault}
use Rattle.oftp_wire.specs.declared.fault.WireFault.TheVariants.{UnknownCommand, WrongLength, BadField, BadText, NoRoom}
use Rattle.oftp_wire.specs.declared.reason.StartReason.{StartReason}
use Rattle.oftp_wire.specs.declared.reason.StartReason.TheVariants.{InvalidFilename, InvalidDestination, InvalidOrigin, MaximumRecordLengthNotSupported, FileSizeTooBig, DuplicateFile, FileDirectionRefused, Unspecified}
use Rattle.oftp_wire.specs.declared.reason.EndReason.{EndReason}
use Rattle.oftp_wire.specs.declared.reason.EndReason.TheVariants.{InvalidRecordCount, InvalidByteCount}
use Rattle.oftp_wire.specs.declared.reason.SessionReason.{SessionReason}
use Rattle.oftp_wire.specs.declared.reason.SessionReason.TheVariants.{Normal, CommandNotRecognised, ProtocolViolation, UserCodeNotKnown, InvalidPassword, InvalidData, BufferSizeError, ResourcesNotAvailable, ModeIncompatible, AuthenticationIncompatible}

-- the number of a reason of SFNA (RFC 5024, section 5.3.5)
abbrev pub start_number : StartReason → ℕ
start_number InvalidFilename = 1
start_number InvalidDestination = 2
start_number InvalidOrigin = 3
start_number MaximumRecordLengthNotSupported = 5
start_number FileSizeTooBig = 6
start_number DuplicateFile = 13
start_number FileDirectionRefused = 14
start_number Unspecified = 99

-- the reason of SFNA with a number, if there is one
abbrev pub start_reason : ℕ → Option StartReason
start_reason n = find (λ r. start_number r == n) (InvalidFilename ∷ InvalidDestination ∷ InvalidOrigin ∷ MaximumRecordLengthNotSupported
    ∷ FileSizeTooBig ∷ DuplicateFile ∷ FileDirectionRefused ∷ Unspecified ∷ [])

-- the number of a reason of EFNA (RFC 5024, section 5.3.10)
abbrev pub end_number : EndReason → ℕ
end_number InvalidRecordCount = 10
end_number InvalidByteCount = 11

-- the reason of EFNA with a number, if there is one
abbrev pub end_reason : ℕ → Option EndReason
end_reason n = find (λ r. end_number r == n) (InvalidRecordCount ∷ InvalidByteCount ∷ [])

-- the number of a reason of ESID (RFC 5024, section 5.3.11)
abbrev pub session_number : SessionReason → ℕ
session_number Normal = 0
session_number CommandNotRecognised = 1
session_number ProtocolViolation = 2
session_number UserCodeNotKnown = 3
session_number InvalidPassword = 4
session_number InvalidData = 6
session_number BufferSizeError = 7
session_number ResourcesNotAvailable = 8
session_number ModeIncompatible = 10
session_number AuthenticationIncompatible = 12

-- the reason of ESID with a number, if there is one
abbrev pub session_reason : ℕ → Option SessionReason
session_reason n = find (λ r. session_number r == n) (Normal ∷ CommandNotRecognised ∷ ProtocolViolation ∷ UserCodeNotKnown ∷ InvalidPassword
    ∷ InvalidData ∷ BufferSizeError ∷ ResourcesNotAvailable ∷ ModeIncompatible ∷ AuthenticationIncompatible ∷ [])

-- the reason of the ESID that answers faulty octets; there is none for a slice that was too short to write to
abbrev pub reason_of : WireFault → Option SessionReason
reason_of UnknownCommand = Some CommandNotRecognised
reason_of WrongLength = Some BufferSizeError
reason_of (BadField at) = Some InvalidData
reason_of BadText = Some InvalidData
reason_of NoRoom = None

-- a number below 100 in two digits
abbrev pub two_digits : ℕ → List ℕ
two_digits n = decimal (n / 10) ++ decimal (n % 10)

-- what RFC 5024 calls a reason of SFNA with this number, or nothing where it lists none (section 5.3.5)
unfoldable pub start_phrase : ℕ → List ℕ
start_phrase n =
    if n == 1 then codes "invalid filename"
    else if n == 2 then codes "invalid destination"
    else if n == 3 then codes "invalid origin"
    else if n == 4 then codes "storage record format not supported"
    else if n == 5 then codes "maximum record length not supported"
    else if n == 6 then codes "file size too big"
    else if n == 10 then codes "invalid record count"
    else if n == 11 then codes "invalid byte count"
    else if n == 12 then codes "access method failure"
    else if n == 13 then codes "duplicate file"
    else if n == 14 then codes "file direction refused"
    else if n == 15 then codes "cipher suite not supported"
    else if n == 16 then codes "encrypted file not allowed"
    else if n == 17 then codes "unencrypted file not allowed"
    else if n == 18 then codes "compression not allowed"
    else if n == 19 then codes "signed file not allowed"
    else if n == 20 then codes "unsigned file not allowed"
    else if n == 99 then codes "unspecified"
    else []

-- what it calls a reason of EFNA: those of SFNA, and three of its own (section 5.3.10)
unfoldable pub end_phrase : ℕ → List ℕ
end_phrase n =
    if n == 21 then codes "invalid file signature"
    else if n == 22 then codes "file decryption failure"
    else if n == 23 then codes "file decompression failure"
    else start_phrase n

-- what it calls a reason of ESID (section 5.3.11)
unfoldable pub session_phrase : ℕ → List ℕ
session_phrase n =
    if n == 0 then codes "normal"
    else if n == 1 then codes "command not recognised"
    else if n == 2 then codes "protocol violation"
    else if n == 3 then codes "user code not known"
    else if n == 4 then codes "invalid password"
    else if n == 5 then codes "local site emergency close down"
    else if n == 6 then codes "invalid data"
    else if n == 7 then codes "buffer size error"
    else if n == 8 then codes "resources not available"
    else if n == 9 then codes "time out"
    else if n == 10 then codes "mode or capabilities incompatible"
    else if n == 11 then codes "invalid challenge response"
    else if n == 12 then codes "secure authentication requirements incompatible"
    else if n == 99 then codes "unspecified abort code"
    else []

-- what it calls a reason of NERP (section 5.3.14)
unfoldable pub negative_phrase : ℕ → List ℕ
negative_phrase n =
    if n == 3 then codes "user code not known"
    else if n == 4 then codes "invalid password"
    else if n == 9 then codes "unspecified reason"
    else if n == 11 then codes "invalid file name"
    else if n == 12 then codes "invalid destination"
    else if n == 13 then codes "invalid origin"
    else if n == 14 then codes "invalid storage record format"
    else if n == 15 then codes "maximum record length not supported"
    else if n == 16 then codes "file size too big"
    else if n == 20 then codes "invalid record count"
    else if n == 21 then codes "invalid byte count"
    else if n == 22 then codes "access method failure"
    else if n == 23 then codes "duplicate file"
    else if n == 24 then codes "file direction refused"
    else if n == 25 then codes "cipher suite not supported"
    else if n == 26 then codes "encrypted file not allowed"
    else if n == 27 then codes "unencrypted file not allowed"
    else if n == 28 then codes "compression not allowed"
    else if n == 29 then codes "signed file not allowed"
    else if n == 30 then codes "unsigned file not allowed"
    else if n == 31 then codes "file signature not valid"
    else if n == 32 then codes "file decompression failed"
    else if n == 33 then codes "file decryption failed"
    else if n == 34 then codes "file processing failed"
    else if n == 35 then codes "not delivered to recipient"
    else if n == 36 then codes "not acknowledged by recipient"
    else if n == 50 then codes "transmission stopped by the operator"
    else if n == 90 then codes "file size incompatible with recipient's protocol version"
    else if n == 99 then codes "unspecified reason"
    else []

-- a number and what it is called, for an operator
abbrev pub told_as : ℕ → List ℕ → List ℕ
told_as n [] = codes "unknown reason " ++ two_digits n
told_as n (b ∷ bs) = two_digits n ++ (codes " " ++ (b ∷ bs))

-- a reason of SFNA, for an operator
unfoldable pub start_text : ℕ → List ℕ
start_text n = told_as n (start_phrase n)

-- a reason of EFNA
unfoldable pub end_text : ℕ → List ℕ
end_text n = told_as n (end_phrase n)

-- a reason of ESID
unfoldable pub session_text : ℕ → List ℕ
session_text n = told_as n (session_phrase n)

-- a reason of NERP
unfoldable pub negative_text : ℕ → List ℕ
negative_text n = told_as n (negative_phrase n)
