use Rattle.std.proofs.Common.{ℕ, ◌<◌, get_or}
use Rattle.httparse.specs.declared.spans.HeaderSpan.{HeaderSpan}
use Rattle.httparse.specs.Spans.{header_bytes}
use Rattle.oftp_listing.specs.Hosts.{NamesHost}
use Rattle.oftp_listing.proofs.hosts.all_name_host.Given as goal

-- the fields so far name the host
abbrev pub invariant-loop-field : goal.invariant-loop-field
invariant-loop-field l = (k : ℕ) (d : HeaderSpan) → k < l.field-index → NamesHost l.hosts (header_bytes l.request (get_or l.fields k d))
