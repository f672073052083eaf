use Rattle.std.proofs.Common.{◌∙◌, ap, sym, option_map}
use Rattle.oftp_listing.specs.declared.route.Place.TheVariants as place
use Rattle.oftp_listing.specs.declared.route.Route.TheVariants.{IncomingFile, OutgoingFile}
use Rattle.oftp_listing.proofs.RouteLemmas.{in_found, none_found, out_found, row_found}
use Rattle.oftp_listing.proofs.route.route_in.Goals as goal

pub returns-in_default : goal.returns-in_default
returns-in_default c = sym (none_found c.args.target.now (rw c.requires at c.in_default.ensures.missing))

pub returns-in-Incoming : goal.returns-in-Incoming
returns-in-Incoming c = sym (row_found c.args.target.now _ place.Incoming (rw c.requires at c.in-Ok.ensures.found) c.in-Incoming.is)

pub returns-in-Outgoing : goal.returns-in-Outgoing
returns-in-Outgoing c = sym (row_found c.args.target.now _ place.Outgoing (rw c.requires at c.in-Ok.ensures.found) c.in-Outgoing.is)

pub returns-in-Responses : goal.returns-in-Responses
returns-in-Responses c = sym (row_found c.args.target.now _ place.Responses (rw c.requires at c.in-Ok.ensures.found) c.in-Responses.is)

pub returns-in_ok-number_in-in-IncomingFile : goal.returns-in_ok-number_in-in-IncomingFile
returns-in_ok-number_in-in-IncomingFile c =
    let row = rw c.requires at c.in-Ok.ensures.found in
    let number = rw c.in-Ok.ensures.path at c.number_in.ensures in
    let found = in_found c.args.target.now _ c.number_in.result c.utf8.target row c.in-IncomingFile.is number in
    sym (found ∙ ap (option_map IncomingFile) c.in_ok-number_in-in-IncomingFile.was)

pub returns-in_err-number_in-in-IncomingFile : goal.returns-in_err-number_in-in-IncomingFile
returns-in_err-number_in-in-IncomingFile c =
    let row = rw c.requires at c.in-Ok.ensures.found in
    let number = rw c.in-Ok.ensures.path at c.number_in.ensures in
    let found = in_found c.args.target.now _ c.number_in.result c.utf8.target row c.in-IncomingFile.is number in
    c.from_residual.ensures ∙ sym (found ∙ ap (option_map IncomingFile) c.in_err-number_in-in-IncomingFile.was)

pub returns-in_ok-number_in-in-OutgoingFile : goal.returns-in_ok-number_in-in-OutgoingFile
returns-in_ok-number_in-in-OutgoingFile c =
    let row = rw c.requires at c.in-Ok.ensures.found in
    let number = rw c.in-Ok.ensures.path at c.number_in-in-OutgoingFile.ensures in
    let found = out_found c.args.target.now _ c.number_in-in-OutgoingFile.result c.utf8.target row c.in-OutgoingFile.is number in
    sym (found ∙ ap (option_map OutgoingFile) c.in_ok-number_in-in-OutgoingFile.was)

pub returns-in_err-number_in-in-OutgoingFile : goal.returns-in_err-number_in-in-OutgoingFile
returns-in_err-number_in-in-OutgoingFile c =
    let row = rw c.requires at c.in-Ok.ensures.found in
    let number = rw c.in-Ok.ensures.path at c.number_in-in-OutgoingFile.ensures in
    let found = out_found c.args.target.now _ c.number_in-in-OutgoingFile.result c.utf8.target row c.in-OutgoingFile.is number in
    c.from_residual-in_err-number_in-in-OutgoingFile.ensures ∙ sym (found ∙ ap (option_map OutgoingFile) c.in_err-number_in-in-OutgoingFile.was)
