-- What is wrong in a partner book, in words.
use Rattle.std.specs.Prelude.{ℕ, List, [], ◌++◌, codes}
use Rattle.std.specs.Fmt.{decimal}
use Rattle.oftp_notes.specs.declared.finding.Finding.{Finding}
use Rattle.oftp_notes.specs.declared.finding.Key.{Key}
use Rattle.oftp_notes.specs.declared.finding.Key.TheVariants as key
use Rattle.oftp_notes.specs.declared.finding.Place.{Place}
use Rattle.oftp_notes.specs.declared.finding.Place.TheVariants as place
use Rattle.oftp_notes.specs.declared.finding.Wrong.{Wrong}
use Rattle.oftp_notes.specs.declared.finding.Wrong.TheVariants as wrong

-- how a book spells a key
abbrev pub key_word : Key → List ℕ
key_word key.Book = codes "the text"
key_word key.Station = codes "station"
key_word key.Partner = codes "partner"
key_word key.Code = codes "code"
key_word key.Buffer = codes "buffer"
key_word key.Credit = codes "credit"
key_word key.Restart = codes "restart"
key_word key.Expects = codes "expects"
key_word key.Sends = codes "sends"
key_word key.Mode = codes "mode"
key_word key.Address = codes "address"

-- what is wrong with the value of a key, and what is allowed
abbrev pub wrong_text : Wrong → List ℕ
wrong_text wrong.NotToml = codes "is no TOML in UTF-8"
wrong_text wrong.Missing = codes "is missing"
wrong_text wrong.NoTable = codes "has to be a table"
wrong_text wrong.NoList = codes "has to be a list of tables, [[partner]]"
wrong_text wrong.NoText = codes "has to be a text, in quotes"
wrong_text wrong.NoNumber = codes "has to be a whole number"
wrong_text wrong.NoFlag = codes "has to be true or false"
wrong_text wrong.BadCode = codes "has to be 1 to 25 of 0-9 A-Z / - . & ( )"
wrong_text wrong.BadPassword = codes "has to be at most 8 of 0-9 A-Z / - . & ( )"
wrong_text wrong.BadMode = codes "has to be S, R or B"
wrong_text wrong.BadAddress = codes "has to be HOST:PORT, of 1 to 255 octets"
wrong_text wrong.BadBuffer = codes "has to be 128 to 16384"
wrong_text wrong.BadCredit = codes "has to be 1 to 99"
wrong_text wrong.Twice = codes "is the code of the station or of a partner above, too"
wrong_text wrong.TooMany = codes "has more than 1000 partners"
wrong_text wrong.NoPort = codes "can't be called: HOST:PORT, with a port of 1 to 65535"
wrong_text wrong.NoHost = codes "can't be called: its host has no address now"
wrong_text wrong.Exposed = codes "may be read by others than its owner, with its passwords"

-- where a key is
abbrev pub place_text : Place → List ℕ
place_text place.Top = []
place_text place.Station = codes "station: "
place_text (place.Partner code) = codes "partner " ++ (code.now ++ codes ": ")
place_text (place.Numbered number) = codes "partner number " ++ (decimal number ++ codes ": ")

-- what is wrong in a book, and where
abbrev pub finding_text : Finding → List ℕ
finding_text f = place_text f.place ++ (key_word f.key ++ (codes ": " ++ wrong_text f.wrong))
