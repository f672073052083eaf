use Rattle.oftp_listing.proofs.HostLemmas.{all_named, named_on, other_named_at}
use Rattle.oftp_listing.proofs.hosts.all_name_host.Goals as goal

pub returns-then-not-names_host : goal.returns-then-not-names_host
returns-then-not-names_host c =
    other_named_at c.args.hosts c.args.request.now c.args.fields.now c.loop-field.field-index _ c.names_host.result c.names_host.ensures c.if-not-names_host.true c.loop-field-test.true

pub loop-field-preserved : goal.loop-field-preserved
loop-field-preserved c =
    named_on c.args.hosts c.args.request.now c.args.fields.now c.loop-field.field-index _ c.names_host.result c.names_host.ensures c.if-not-names_host.false c.loop-field-test.true
    c.loop-field.invariant

pub returns : goal.returns
returns c = all_named c.args.hosts c.args.request.now c.args.fields.now c.loop-field.field-index c.loop-field-test.false c.loop-field.invariant
