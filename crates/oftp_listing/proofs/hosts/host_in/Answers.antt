use Rattle.std.proofs.Common.{Some, None, arith, sym, ◌∙◌}
use Rattle.std.proofs.lemmas.Str.Pattern.{strip_prefix_char}
use Rattle.oftp_listing.proofs.HostLemmas.{host_bracketed, host_plain}
use Rattle.oftp_listing.proofs.hosts.host_in.Goals as goal

pub returns-in-Some : goal.returns-in-Some
returns-in-Some c =
    let begins = strip_prefix_char 91 c.args.value.now (Some c.in-Some.behind) c.in-Some.ensures.cases (omega arith) in
    c.bracketed.ensures ∙ sym (host_bracketed _ _ begins)

pub returns-in-None : goal.returns-in-None
returns-in-None c = c.before_colon.ensures ∙ sym (host_plain _ (strip_prefix_char 91 c.args.value.now None c.in-None.ensures.cases (omega arith)))
