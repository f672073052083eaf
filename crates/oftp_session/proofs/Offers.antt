-- What the session does at SFID, as a step.
use Rattle.std.proofs.Common.{◌≡◌, ℕ, ◌-◌, ◌%◌, max, [], length, Bool, Option, None, Some, Result, Ok, Err, IfErr, List, is_ok, refl, sym, ap, ◌∙◌, subst, arith}
use Rattle.oftp_wire.specs.declared.command.Sfid.{Sfid}
use Rattle.oftp_vfile.specs.declared.format.Format.{Format}
use Rattle.oftp_vfile.specs.declared.limits.Limits.{Limits}
use Rattle.oftp_vfile.specs.VirtualFile.{units_in}
use Rattle.oftp_vfile.specs.Taking.{new_taking}
use Rattle.oftp_vfile.specs.Reading.{shed}
use Rattle.oftp_register.specs.declared.change.Change.{Change}
use Rattle.oftp_register.specs.declared.change.Change.TheVariants.{Start}
use Rattle.oftp_register.specs.declared.entries.IncomingEntry.{IncomingEntry}
use Rattle.oftp_register.specs.declared.entries.Side.TheVariants as side
use Rattle.oftp_register.specs.declared.entry.Identity.{Identity}
use Rattle.oftp_register.specs.declared.verdicts.StartVerdict.TheVariants as start
use Rattle.oftp_register.specs.Register.{Register, Incoming}
use Rattle.oftp_register.specs.Changes.{apply}
use Rattle.oftp_register.specs.LookUps.{entry_at, files_full, incoming_entry, look_in, units_of}
use Rattle.oftp_register.specs.Verdicts.{format_of, longest_of, start_verdict, offered_identity}
use Rattle.oftp_register.specs.Soundness.{IsFit, IsSound}
use Rattle.oftp_register.specs.Offices.{LooksUp, View}
use Rattle.oftp_register.proofs.EntryLemmas.{rows_of_incoming}
use Rattle.oftp_session.specs.Links.{LinkData}
use Rattle.oftp_session.specs.declared.receiving.IncomingTransfer.{IncomingTransfer}
use Rattle.oftp_session.specs.declared.session.SessionFault.{SessionFault}
use Rattle.oftp_session.specs.declared.session.SessionFault.TheVariants as fault
use Rattle.oftp_session.specs.declared.state.Contact.{Contact}
use Rattle.oftp_session.specs.declared.state.State.TheVariants as state
use Rattle.oftp_session.specs.Settings.{Setting}
use Rattle.oftp_session.specs.Phases.{Receipt, Step, frame_of}
use Rattle.oftp_session.specs.Receiving.{carried_by, kept_of, window}
use Rattle.oftp_session.specs.Listener.{offer_step, on_start_verdict, receipt_of, sfpa_of, start_of, terms_within, verdict_on}
use Rattle.oftp_session.specs.Steps.{IsReceived}
use Rattle.oftp_session.specs.Standings.{Tracks}
use Rattle.oftp_session.specs.InsideListener.{IsFound, MayBegin, Starts, incoming_of}
use Rattle.oftp_session.specs.Calls.{DoesNot, IsMade}
use Rattle.oftp_session.specs.Inside.{Finds, IsAccepted, Takes}
use Rattle.oftp_session.proofs.Saying.{answered}
use Rattle.oftp_session.proofs.Starts.{accepted_begins}
use Rattle.oftp_session.proofs.Views.{after_fails, made_then, then_fails, then_made}

-- the octets of the file with a number
units_at : (r : Register) (number : ℕ) (file : Incoming) → entry_at number r.incoming ≡ Some file → units_of r side.Incoming number ≡ units_in file.rows
units_at r number file e = ap units_in (rows_of_incoming r number file e)

-- the verdict on an offer follows from what is looked up
pub verdict_finds : (setting : Setting) (contact : Contact) (sfid : Sfid) (identity : Identity) (old mid new : View) (found : Option IncomingEntry) (full : Bool) (limits : Limits)
    → LooksUp (λ r found. found ≡ look_in r identity) old mid (Ok found) → LooksUp (λ r full. full ≡ files_full r side.Incoming) mid new (Ok full)
    → limits ≡ new.register.limits → identity ≡ offered_identity sfid → new.clean → old.stands
    → (start_verdict sfid found full (terms_within setting contact limits) ≡ verdict_on setting contact old.register sfid) × IsMade None None old new []
verdict_finds setting contact sfid identity old mid new found full limits first second bound is clean stands =
    let before = second.clean clean in
    let stood = first.stays before stands in
    let same : mid.register ≡ old.register = first.register before stands (mid.opens stood) in
    let stays = second.stays clean stood in
    let again : new.register ≡ mid.register = second.register clean stood (new.opens stays) in
    let known : found ≡ look_in old.register (offered_identity sfid) = first.answer before stands ∙ ap (look_in old.register) is in
    let all : full ≡ files_full old.register side.Incoming = second.answer clean stood ∙ ap (λ (r : Register). files_full r side.Incoming) same in
    let limit : limits ≡ old.register.limits = bound ∙ ap (λ (r : Register). r.limits) (again ∙ same) in
    (rw (known, all, limit) refl, record { said = refl; register = again ∙ same; stands = stays; faults = second.counts ∙ first.counts })

-- the transfer of the file follows from what is looked up
pub begun_finds : (link : LinkData) (identity : Identity) (number : ℕ) (file : Incoming) (old mid new : View) (entry : IncomingEntry) (units : ℕ) (limits : Limits)
    → LooksUp (λ r found. found ≡ look_in r identity) old mid (Ok (Some entry)) → LooksUp (λ r n. n ≡ units_of r side.Incoming entry.no) mid new (Ok units)
    → limits ≡ new.register.limits → new.clean → old.stands → IsFound old.register identity number file
    → (let s : IncomingTransfer = record { number = entry.no; credit = link.credit; taker = new_taking entry.format entry.longest entry.rows units limits.octets } in s)
    ≡ incoming_of link number file old.register.limits.octets
    × IsMade None None old new []
begun_finds link identity number file old mid new entry units limits first second bound clean stands found =
    let before = second.clean clean in
    let stood = first.stays before stands in
    let same : mid.register ≡ old.register = first.register before stands (mid.opens stood) in
    let stays = second.stays clean stood in
    let again : new.register ≡ mid.register = second.register clean stood (new.opens stays) in
    let there : Some entry ≡ Some (incoming_entry number file) = first.answer before stands ∙ found.look in
    let e : entry ≡ incoming_entry number file = cc in
    let n : units ≡ units_in file.rows =
    second.answer clean stood ∙ ap (λ (r : Register). units_of r side.Incoming entry.no) same
    ∙ ap (λ (k : IncomingEntry). units_of old.register side.Incoming k.no) e ∙ units_at old.register number file found.entry in
    let limit : limits.octets ≡ old.register.limits.octets = ap (λ (l : Limits). l.octets) (bound ∙ ap (λ (r : Register). r.limits) (again ∙ same)) in
    let of_entry : IncomingEntry → ℕ → ℕ → IncomingTransfer =
    λ k n m. record { number = k.no; credit = link.credit; taker = new_taking k.format k.longest k.rows n m } in (
      ap (λ (k : IncomingEntry). of_entry k units limits.octets) e ∙ ap (λ (m : ℕ). of_entry (incoming_entry number file) m limits.octets) n
          ∙ ap (of_entry (incoming_entry number file) (units_in file.rows)) limit,
      record { said = refl; register = again ∙ same; stands = stays; faults = second.counts ∙ first.counts },
    )

-- the change that starts a file, from its parts
pub change_is : (sfid : Sfid) (count : ℕ) (identity : Identity) (format : Format) (longest : ℕ) (description : List ℕ) → identity ≡ offered_identity sfid → format ≡ format_of sfid.layout
    → longest ≡ longest_of sfid.layout → description ≡ sfid.description → Start identity format longest description count ≡ start_of sfid count
change_is sfid count identity format longest description a b c d =
    ap (λ (x : Identity). Start x format longest description count) a
    ∙ ap (λ (x : Format). Start (offered_identity sfid) x longest description count) b
    ∙ ap (λ (x : ℕ). Start (offered_identity sfid) (format_of sfid.layout) x description count) c
    ∙ ap (λ (x : List ℕ). Start (offered_identity sfid) (format_of sfid.layout) (longest_of sfid.layout) x count) d

-- the change is made
pub start_made : (sfid : Sfid) (count : ℕ) (change : Change) (old mid : View) → change ≡ start_of sfid count → MayBegin old.register sfid count
    → (IsFit old.register change → IsAccepted old.register change → IsMade (Some change) None old mid []) → IsMade (Some (start_of sfid count)) None old mid []
start_made sfid count change old mid is may does =
    let fit = subst (IsFit old.register) (sym is) may.fit in
    let accepted = subst (IsAccepted old.register) (sym is) (ap is_ok may.made) in
    subst (λ (x : Change). IsMade (Some x) None old mid []) is (does fit accepted)

pub start_fails : (sfid : Sfid) (count : ℕ) (change : Change) (old mid : View) (told : SessionFault) → change ≡ start_of sfid count → MayBegin old.register sfid count
    → (IsFit old.register change → IsAccepted old.register change → DoesNot (Some change) old mid told) → DoesNot (Some (start_of sfid count)) old mid told
start_fails sfid count change old mid told is may does =
    let fit = subst (IsFit old.register) (sym is) may.fit in
    let accepted = subst (IsAccepted old.register) (sym is) (ap is_ok may.made) in
    subst (λ (x : Change). DoesNot (Some x) old mid told) is (does fit accepted)

-- then the file is found
begun_found : (sfid : Sfid) (count : ℕ) (identity : Identity) (old mid : View) → identity ≡ offered_identity sfid → (may : MayBegin old.register sfid count)
    → IsMade (Some (start_of sfid count)) None old mid [] → (mid.register ≡ may.after)
    × IsFound mid.register identity (receipt_of old.register sfid count).number (receipt_of old.register sfid count).file
begun_found sfid count identity old mid is may made =
    let done : apply old.register (start_of sfid count) ≡ Ok mid.register = made.register in
    let both : Ok mid.register ≡ Ok may.after = sym done ∙ may.made in
    let at : mid.register ≡ may.after = cc in
    let f = receipt_of old.register sfid count in
    let found : IsFound may.after (offered_identity sfid) f.number f.file = record { look = may.found; entry = may.received.entry } in
    (at, subst (λ (r : Register). IsFound r identity f.number f.file) (sym at) (subst (λ (i : Identity). IsFound may.after i f.number f.file) (sym is) found))

pub begin_starts : (link : LinkData) (sfid : Sfid) (count : ℕ) (identity : Identity) (old mid new : View) (result : Result IncomingTransfer SessionFault) → identity ≡ offered_identity sfid
    → MayBegin old.register sfid count → IsMade (Some (start_of sfid count)) None old mid []
    → ((number : ℕ) (file : Incoming) → IsFound mid.register identity number file → Finds (λ r. incoming_of link number file r.limits.octets) mid new result)
    → IfErr result (λ told. told ≡ fault.Office) → Starts link sfid count old new result
begin_starts link sfid count identity old mid new (Ok incoming) is may made finds err =
    let found = begun_found sfid count identity old mid is may made in
    let f = receipt_of old.register sfid count in
    let got = finds f.number f.file found.1 in
    let limit : mid.register.limits.octets ≡ f.limit = ap (λ (r : Register). r.limits.octets) found.0 ∙ sym may.received.limit in
    (made_then (Some (start_of sfid count)) old mid new made got.1, got.0 ∙ ap (incoming_of link f.number f.file) limit)
begin_starts link sfid count identity old mid new (Err told) is may made finds err =
    let found = begun_found sfid count identity old mid is may made in
    let f = receipt_of old.register sfid count in
    let lost = subst (DoesNot None mid new) err (finds f.number f.file found.1) in
    subst (DoesNot (Some (start_of sfid count)) old new) (sym err) (after_fails (Some (start_of sfid count)) old mid new tt made lost)

-- an incoming transfer of which no payload was received
begun_tracks : (contact : Contact) (r after : Register) (sfid : Sfid) (count : ℕ) (s : IncomingTransfer) → IsReceived after (receipt_of r sfid count)
    → (let f : Receipt = receipt_of r sfid count in s ≡ incoming_of contact.link f.number f.file f.limit) → Tracks contact (receipt_of r sfid count) s
begun_tracks contact r after sfid count s holds is =
    let f = receipt_of r sfid count in
    let all : length f.file.rows ≡ f.from = omega (arith, holds.kept, holds.most) in
    let none : 0 ≡ kept_of f = omega (arith, all) in
    let place : 0 % window contact ≡ 0 = omega arith in
    let taker : (incoming_of contact.link f.number f.file f.limit).taker ≡ shed 0 (carried_by f) =
    ap (λ (n : ℕ). new_taking f.file.format f.file.longest n f.units f.limit) all in
    record {
      number = ap (λ (x : IncomingTransfer). x.number) is;
      credit = ap (λ (x : IncomingTransfer). max 1 x.credit) is ∙ (let e : window contact ≡ window contact - 0 % window contact = omega (arith, place) in e);
      taker = ap (λ (x : IncomingTransfer). x.taker) is ∙ taker ∙ ap (λ (n : ℕ). shed n (carried_by f)) none;
    }

accept_step : (setting : Setting) (contact : Contact) (r : Register) (sfid : Sfid) (count : ℕ) → verdict_on setting contact r sfid ≡ start.Accept count
    → offer_step setting contact r sfid ≡ on_start_verdict contact r sfid (start.Accept count)
unfolding offer_step
accept_step setting contact r sfid count v = ap (on_start_verdict contact r sfid) v

may : (setting : Setting) (contact : Contact) (sfid : Sfid) (count : ℕ) (old mid : View) → IsSound mid.register → verdict_on setting contact old.register sfid ≡ start.Accept count
    → mid.register ≡ old.register → MayBegin mid.register sfid count
may setting contact sfid count old mid sound v same =
    accepted_begins setting contact mid.register sfid count sound (ap (λ (r : Register). verdict_on setting contact r sfid) same ∙ v)

pub accept_ok : (setting : Setting) (contact : Contact) (sfid : Sfid) (count : ℕ) (s : IncomingTransfer) (old mid new : View) (frame : List ℕ) → IsSound mid.register
    → verdict_on setting contact old.register sfid ≡ start.Accept count → IsMade None None old mid [] → frame ≡ frame_of (sfpa_of count)
    → (MayBegin mid.register sfid count → Starts contact.link sfid count mid new (Ok s)) → Takes (offer_step setting contact old.register sfid) old new frame (Ok (state.Receiving contact s))
accept_ok setting contact sfid count s old mid new frame sound v was said starts =
    let begins = may setting contact sfid count old mid sound v was.register in
    let went = starts begins in
    let made = answered (Some (start_of sfid count)) (sfpa_of count) old new frame said (then_made (Some (start_of sfid count)) None [] old mid new was went.0) in
    let tracks = subst (λ (r : Register). Tracks contact (receipt_of r sfid count) s) was.register (begun_tracks contact mid.register begins.after sfid count s begins.received went.1) in
    subst (λ (x : Step). Takes x old new frame (Ok (state.Receiving contact s))) (sym (accept_step setting contact old.register sfid count v)) (made, (s, refl, tracks))

pub accept_err : (setting : Setting) (contact : Contact) (sfid : Sfid) (count : ℕ) (told : SessionFault) (old mid new : View) → IsSound mid.register
    → verdict_on setting contact old.register sfid ≡ start.Accept count → IsMade None None old mid []
    → (MayBegin mid.register sfid count → Starts contact.link sfid count mid new (Err told)) → DoesNot (offer_step setting contact old.register sfid).change old new told
accept_err setting contact sfid count told old mid new sound v was starts =
    let lost = starts (may setting contact sfid count old mid sound v was.register) in
    subst (λ (x : Step). DoesNot x.change old new told) (sym (accept_step setting contact old.register sfid count v)) (then_fails (Some (start_of sfid count)) told old mid new was lost)
