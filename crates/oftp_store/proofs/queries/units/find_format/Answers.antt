use Rattle.std.proofs.Common.{◌≡◌, ◌∙◌, option_map, rules}
use Rattle.oftp_store.specs.declared.queries.header.IncomingHeader.{IncomingHeader}
use Rattle.oftp_store.specs.declared.queries.header.OutgoingHeader.{OutgoingHeader}
use Rattle.oftp_store.proofs.FormatLemmas.{incoming_format, outgoing_format}
use Rattle.oftp_store.proofs.queries.units.find_format.Goals as goal

pub returns-in_ok-header-in-Incoming-clause-answer : goal.returns-in_ok-header-in-Incoming-clause-answer
returns-in_ok-header-in-Incoming-clause-answer g c clean has r kept =
    let found = c.in_ok-header-in-Incoming in
    let same : c.map.result ≡ option_map (λ (h : IncomingHeader). (h.file.format, h.file.longest)) found.header = search rules in
    same ∙ rw c.in-Incoming.is (incoming_format r c.args.no found.header (found.ensures.answer clean has r kept))

pub returns-in_ok-header-in-Outgoing-clause-answer : goal.returns-in_ok-header-in-Outgoing-clause-answer
returns-in_ok-header-in-Outgoing-clause-answer g c clean has r kept =
    let found = c.in_ok-header-in-Outgoing in
    let same : c.map-in-Outgoing.result ≡ option_map (λ (h : OutgoingHeader). (h.file.format, h.file.longest)) found.header = search rules in
    same ∙ rw c.in-Outgoing.is (outgoing_format r c.args.no found.header (found.ensures.answer clean has r kept))
