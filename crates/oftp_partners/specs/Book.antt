-- The book in a text, or its first fault.
use Rattle.std.specs.Prelude.{◌≡◌, ◌≤◌, length, ℕ, zero, suc, Bool, not, ◌||◌, nat_le, if◌then◌else◌, List, [], ◌∷◌, ◌++◌, Option, Some, None, Result, Ok, codes, is_some}
use Rattle.std.specs.List.{AllByRecursion}
use Rattle.std.specs.Str.{bytes_eq}
use Rattle.toml.specs.Data.{Data, Items, no_items, item, Members, get_member, as_array, as_table}
use Rattle.toml.specs.Parse.{parse_document}
use Rattle.oftp_partners.specs.declared.fault.BookFault.{BookFault}
use Rattle.oftp_partners.specs.declared.fault.BookFault.TheVariants.{NotToml, WrongKind, DuplicateCode, TooMany}
use Rattle.oftp_partners.specs.declared.partner.Station.{Station}
use Rattle.oftp_partners.specs.declared.partner.Partner.{Partner}
use Rattle.oftp_partners.specs.Fields.{IsCode, IsPassword, IsAddress, IsBufferSize, IsCredit}
use Rattle.oftp_partners.specs.Keys.{◌>>=◌, else_fault, if_so, code_at, password_at, mode_at, address_at, buffer_size_at, credit_at, flag_at, table_at}

-- a book: the station, and the partners in the order of the text
pub record BookData : Type 0 where
  pub station : Station
  pub partners : List Partner

-- the station of a table
unfoldable pub station_of : Members → Result Station BookFault
station_of members = do
  code ← code_at (codes "code") members
  buffer ← buffer_size_at (codes "buffer") members
  credit ← credit_at (codes "credit") members
  restart ← flag_at (codes "restart") members
  Ok (record { code = code; buffer = buffer; credit = credit; restart = restart })

-- the first partner with a code
abbrev pub partner_at : List ℕ → List Partner → Option Partner
partner_at code [] = None
partner_at code (p ∷ ps) = if bytes_eq p.code code then Some p else partner_at code ps

-- whether the station or an earlier partner has this code
unfoldable pub is_taken : Station → List Partner → List ℕ → Bool
is_taken station before code = bytes_eq station.code code || is_some (partner_at code before)

-- the partner of a table, after those before it
unfoldable pub partner_in : Station → List Partner → Members → Result Partner BookFault
partner_in station before members = do
  code ← code_at (codes "code") members
  new ← if_so (not (is_taken station before code)) DuplicateCode (tt {0})
  expects ← password_at (codes "expects") members
  sends ← password_at (codes "sends") members
  mode ← mode_at (codes "mode") members
  address ← address_at (codes "address") members
  Ok (record { code = code; expects = expects; sends = sends; mode = mode; address = address })

-- the partner of an element, which has to be a table
unfoldable pub partner_of : Station → List Partner → Data → Result Partner BookFault
partner_of station before value = else_fault WrongKind (as_table value) >>= λ members. partner_in station before members

-- the partners of the elements in order, after those before them
abbrev pub partners_of : Station → List Partner → Items → Result (List Partner) BookFault
partners_of station before no_items = Ok before
partners_of station before (item value values) = partner_of station before value >>= λ p. partners_of station (before ++ p ∷ []) values

-- the number of elements of an array
abbrev pub count_of : Items → ℕ
count_of no_items = zero
count_of (item value values) = suc (count_of values)

-- the elements of the array, or none where it is missing
abbrev pub listed : Option Data → Result Items BookFault
listed None = Ok no_items
listed (Some value) = else_fault WrongKind (as_array value)

-- the elements at the key `partner`
unfoldable pub partner_items : Members → Result Items BookFault
partner_items members = listed (get_member (codes "partner") members)

-- the book of a document's tree
unfoldable pub book_in : Members → Result BookData BookFault
book_in members = do
  table ← table_at (codes "station") members
  station ← station_of table
  items ← partner_items members
  few ← if_so (nat_le (count_of items) 1000) TooMany (tt {0})
  partners ← partners_of station [] items
  Ok (record { station = station; partners = partners })

-- BookOf: the book of a text, from its TOML tree, or the first fault
unfoldable pub book_of : List ℕ → Result BookData BookFault
book_of text = else_fault NotToml (parse_document text) >>= λ members. book_in members

-- the station's values are in their ranges
pub record IsStation (station : Station) : Type 0 where
  pub code : IsCode station.code
  pub buffer : IsBufferSize station.buffer
  pub credit : IsCredit station.credit

-- a partner's values are in their ranges
pub record IsPartner (p : Partner) : Type 0 where
  pub code : IsCode p.code
  pub expects : IsPassword p.expects
  pub sends : IsPassword p.sends
  pub address : IsAddress p.address

-- the partners' values are in their ranges, each partner is found by its code, and none has the station's code
pub record ArePartners (station : Station) (ps : List Partner) : Type 0 where
  pub ranges : AllByRecursion IsPartner ps
  pub found : AllByRecursion (λ p. partner_at p.code ps ≡ Some p) ps
  pub own : partner_at station.code ps ≡ None

-- the invariant of a book
pub record IsBook (b : BookData) : Type 0 where
  pub station : IsStation b.station
  pub partners : ArePartners b.station b.partners
  pub few : length b.partners ≤ 1000
