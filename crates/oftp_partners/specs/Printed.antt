-- What is printed of a book.
use Rattle.std.specs.Prelude.{List, ℕ, ◌++◌, length, codes}
use Rattle.std.specs.Fmt.{decimal}
use Rattle.oftp_wire.specs.declared.command.Mode.{Mode}
use Rattle.oftp_wire.specs.Messages.{mode_text}
use Rattle.oftp_partners.specs.Book.{BookData}

-- a partner by its code, mode and address, without its passwords
abbrev pub partner_text : List ℕ → Mode → List ℕ → List ℕ
partner_text code mode address = codes "Partner { code: " ++ (code ++ (codes ", mode: " ++ (mode_text mode ++ (codes ", address: " ++ (address ++ codes ", .. }")))))

-- a book by the station's code and the number of partners
abbrev pub book_text : BookData → List ℕ
book_text b = codes "Book { station: " ++ (b.station.code ++ (codes ", partners: " ++ (decimal (length b.partners) ++ codes ", .. }")))
