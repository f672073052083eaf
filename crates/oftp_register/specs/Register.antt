-- The register as plain data. Entries are in the order of their numbers, which begin with 1.
use Rattle.std.specs.Prelude.{ℕ, Bool, true, false, ◌&&◌, List, [], Option}
use Rattle.std.specs.List.{list_any}
use Rattle.std.specs.Str.{bytes_eq}
use Rattle.oftp_vfile.specs.declared.format.Format.{Format}
use Rattle.oftp_vfile.specs.declared.limits.Limits.{Limits}
use Rattle.oftp_register.specs.declared.entry.Identity.{Identity}
use Rattle.oftp_register.specs.declared.entry.ResponseKind.{ResponseKind}
use Rattle.oftp_register.specs.declared.entry.ResponseKind.TheVariants.{EndResponse, NegativeEndResponse}
use Rattle.oftp_register.specs.declared.entry.IncomingState.{IncomingState}
use Rattle.oftp_register.specs.declared.entry.OutgoingState.{OutgoingState}
use Rattle.oftp_register.specs.declared.entry.Dispatch.{Dispatch}

-- a response that this station issued to an incoming file
pub record Issued : Type 0 where
  pub kind : ResponseKind
  pub reason : ℕ
  pub text : List ℕ
  pub dispatch : Dispatch

-- a file from a partner, with the rows that were received, and its response if one was issued
pub record Incoming : Type 0 where
  pub identity : Identity
  pub format : Format
  pub longest : ℕ
  pub description : List ℕ
  pub state : IncomingState
  pub rows : List (List ℕ)
  pub response : Option Issued

-- A file for a partner. Its mark is the number of rows that were wholly sent when CDT last came.
pub record Outgoing : Type 0 where
  pub identity : Identity
  pub format : Format
  pub longest : ℕ
  pub description : List ℕ
  pub rows : List (List ℕ)
  pub mark : ℕ
  pub state : OutgoingState

-- A response that a partner sent. Creator and text are empty in an End-to-End Response.
pub record Received : Type 0 where
  pub kind : ResponseKind
  pub identity : Identity
  pub reason : ℕ
  pub creator : List ℕ
  pub text : List ℕ

-- all data of a station, and its limits
pub record Register : Type 0 where
  pub limits : Limits
  pub incoming : List Incoming
  pub outgoing : List Outgoing
  pub received : List Received

-- the register of a new station
abbrev pub empty : Limits → Register
empty limits = record { limits = limits; incoming = []; outgoing = []; received = [] }

-- both identify the same file
abbrev pub same_identity : Identity → Identity → Bool
same_identity a b = bytes_eq a.dataset b.dataset && (bytes_eq a.date b.date && (bytes_eq a.time b.time && (bytes_eq a.originator b.originator && bytes_eq a.destination b.destination)))

-- both are one kind of response
abbrev pub same_kind : ResponseKind → ResponseKind → Bool
same_kind EndResponse EndResponse = true
same_kind EndResponse NegativeEndResponse = false
same_kind NegativeEndResponse EndResponse = false
same_kind NegativeEndResponse NegativeEndResponse = true

-- a response of this kind to the file with this identity
abbrev pub is_response_to : ResponseKind → Identity → Received → Bool
is_response_to kind identity response = same_kind response.kind kind && same_identity response.identity identity

-- such a response was received
abbrev pub has_received : Register → ResponseKind → Identity → Bool
has_received r kind identity = list_any (is_response_to kind identity) r.received
