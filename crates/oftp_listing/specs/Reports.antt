-- The reports, line by line.
use Rattle.std.specs.Prelude.{◌≡◌, ℕ, List, [], ◌∷◌, ◌++◌, codes, decimal, Option, Result, Ok, Err, if◌then◌else◌}
use Rattle.std.specs.List.{flat_map}
use Rattle.csv.specs.Writing.{default_writer, row_text}
use Rattle.oftp_io.specs.declared.port.Port.{Port}
use Rattle.oftp_io.specs.Ports.{SentAll, SentPart}
use Rattle.oftp_register.specs.Register.{Register}
use Rattle.oftp_register.specs.LookUps.{list_in, list_issued, list_out, list_received, look_out, units_of}
use Rattle.oftp_register.specs.Offices.{View, next_count}
use Rattle.oftp_register.specs.declared.entries.Side.TheVariants as side
use Rattle.oftp_register.specs.declared.entries.IncomingEntry.{IncomingEntry}
use Rattle.oftp_register.specs.declared.entries.OutgoingEntry.{OutgoingEntry}
use Rattle.oftp_register.specs.declared.entries.IssuedEntry.{IssuedEntry}
use Rattle.oftp_register.specs.declared.entries.ReceivedEntry.{ReceivedEntry}
use Rattle.oftp_listing.specs.declared.fault.ListFault.{ListFault}
use Rattle.oftp_listing.specs.declared.fault.ListFault.TheVariants.{Incomplete, Memory, Office, Write}
use Rattle.oftp_listing.specs.declared.reports.ReportKind.{ReportKind}
use Rattle.oftp_listing.specs.declared.reports.ReportKind.TheVariants.{Incoming, Outgoing, Issued, Received}
use Rattle.oftp_listing.specs.Names.{format_name, incoming_state_name, is_sent, issued_reason, kind_name, outgoing_state_name, received_reason, refusal_name, response_name}
use Rattle.oftp_listing.specs.Texts.{no_of}

-- a line of comma-separated fields
abbrev pub line : List (List ℕ) → List ℕ
line fields = row_text default_writer fields

-- an incoming file with this number of octets
abbrev pub incoming_fields : IncomingEntry → ℕ → List (List ℕ)
incoming_fields e units =
    decimal e.no ∷ e.identity.dataset ∷ e.identity.date ∷ e.identity.time ∷ e.identity.originator ∷ format_name e.format ∷ decimal e.rows ∷ decimal units
    ∷ incoming_state_name e.state ∷ response_name e.response ∷ []

-- an outgoing file with this number of octets
abbrev pub outgoing_fields : OutgoingEntry → ℕ → List (List ℕ)
outgoing_fields e units =
    decimal e.no ∷ e.identity.dataset ∷ e.identity.date ∷ e.identity.time ∷ e.identity.destination ∷ format_name e.format ∷ decimal e.rows ∷ decimal units
    ∷ decimal e.mark ∷ outgoing_state_name e.state ∷ refusal_name e.state ∷ []

-- a response that was issued to an incoming file
abbrev pub issued_fields : IssuedEntry → List (List ℕ)
issued_fields e =
    decimal e.no ∷ kind_name e.response.kind ∷ issued_reason e
    ∷ (if is_sent e.response.dispatch then codes "yes" else codes "no") ∷ []

-- a received response to the outgoing file with this number, 0 where there is none
abbrev pub received_fields : ReceivedEntry → ℕ → List (List ℕ)
received_fields e file =
    decimal e.no ∷ kind_name e.response.kind ∷ e.response.identity.dataset ∷ e.response.identity.date ∷ e.response.identity.time
    ∷ e.response.identity.destination ∷ received_reason e ∷ decimal file ∷ e.response.creator ∷ []

-- the first line: the names of the fields
abbrev pub heading : ReportKind → List ℕ
heading Incoming = codes "no,dataset,date,time,originator,format,rows,units,state,response\n"
heading Outgoing = codes "no,dataset,date,time,destination,format,rows,units,mark,state,reason\n"
heading Issued = codes "no,kind,reason,sent\n"
heading Received = codes "no,kind,dataset,date,time,from,reason,file,creator\n"

-- the line of an incoming file of the register
abbrev pub incoming_line : Register → IncomingEntry → List ℕ
incoming_line r e = line (incoming_fields e (units_of r side.Incoming e.no))

-- the line of an outgoing file of the register
abbrev pub outgoing_line : Register → OutgoingEntry → List ℕ
outgoing_line r e = line (outgoing_fields e (units_of r side.Outgoing e.no))

-- the line of a received response of the register
abbrev pub received_line : Register → ReceivedEntry → List ℕ
received_line r e = line (received_fields e (no_of (look_out r e.response.identity)))

-- the lines after the heading
abbrev pub lines_of : ReportKind → Register → List ℕ
lines_of Incoming r = flat_map (incoming_line r) (list_in r)
lines_of Outgoing r = flat_map (outgoing_line r) (list_out r)
lines_of Issued r = flat_map (λ e. line (issued_fields e)) (list_issued r)
lines_of Received r = flat_map (received_line r) (list_received r)

-- a whole report
abbrev pub report_of : ReportKind → Register → List ℕ
report_of kind r = heading kind ++ lines_of kind r

-- The count of the office's errors over a report; `Office` means that it returned one. Nothing is written after an error of the office or
-- out of memory.
abbrev pub ReportsFault : ℕ → ℕ → (unwritten : Type 0) → ListFault → Type 0
ReportsFault old new unwritten Incomplete = ⊥
ReportsFault old new unwritten Memory = (new ≡ old) × unwritten
ReportsFault old new unwritten Office = (new ≡ next_count old) × unwritten
ReportsFault old new unwritten Write = new ≡ old

abbrev pub Reports : {T : Type 0} → ℕ → ℕ → (unwritten : Type 0) → Result T ListFault → Type 0
Reports old new unwritten (Ok x) = new ≡ old
Reports old new unwritten (Err fault) = ReportsFault old new unwritten fault

-- what a report has out, by its result: the text, or a beginning of it if the writer returned an error, else nothing
abbrev pub TextOut : {T W : Type 0} → (W → Option (List ℕ)) → Port W → Port W → List ℕ → Result T ListFault → Type 0
TextOut contents old new text (Ok x) = SentAll contents old new text
TextOut contents old new text (Err Incomplete) = ⊥
TextOut contents old new text (Err Memory) = new ≡ old
TextOut contents old new text (Err Office) = new ≡ old
TextOut contents old new text (Err Write) = SentPart contents old new text

-- a report of the register has this out, if the office was open and its store reads what was written
abbrev pub IsReported : {T W : Type 0} → (W → Option (List ℕ)) → ReportKind → (before after : View) → Port W → Port W → Result T ListFault → Type 0
IsReported contents kind before after old new result = after.clean → before.stands → TextOut contents old new (report_of kind before.register) result

-- the count of the writer's errors, by the result of a report
abbrev pub WriterErr : {W : Type 0} → Port W → Port W → ListFault → Type 0
WriterErr old new Incomplete = ⊥
WriterErr old new Memory = new.faults ≡ old.faults
WriterErr old new Office = new.faults ≡ old.faults
WriterErr old new Write = new.faults ≡ next_count old.faults

abbrev pub WriterTold : {T W : Type 0} → Port W → Port W → Result T ListFault → Type 0
WriterTold old new (Ok x) = new.faults ≡ old.faults
WriterTold old new (Err fault) = WriterErr old new fault
