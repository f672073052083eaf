use Rattle.std.proofs.Common.{map, sym, subst}
use Rattle.oftp_channel.specs.InsideAsked.{IsNoRequest}
use Rattle.oftp_channel.specs.declared.codes.RequestKind.{RequestKind}
use Rattle.oftp_channel.proofs.asked.request_in.Goals as goal

pub returns-in-Submit-clause-none : goal.returns-in-Submit-clause-none
returns-in-Submit-clause-none c = λ e. subst (λ (kind : RequestKind). IsNoRequest kind (map (λ word. word.items) c.args.fields.now)) (sym c.in-Submit.is) (c.submit_in.ensures.none e)

pub returns-in-Refuse-clause-none : goal.returns-in-Refuse-clause-none
returns-in-Refuse-clause-none c = λ e. subst (λ (kind : RequestKind). IsNoRequest kind (map (λ word. word.items) c.args.fields.now)) (sym c.in-Refuse.is) (c.refuse_in.ensures.none e)

pub returns-in-Call-clause-none : goal.returns-in-Call-clause-none
returns-in-Call-clause-none c = λ e. subst (λ (kind : RequestKind). IsNoRequest kind (map (λ word. word.items) c.args.fields.now)) (sym c.in-Call.is) (c.call_in.ensures.none e)

pub returns-in-Resend-clause-none : goal.returns-in-Resend-clause-none
returns-in-Resend-clause-none c = λ e. subst (λ (kind : RequestKind). IsNoRequest kind (map (λ word. word.items) c.args.fields.now)) (sym c.in-Resend.is) (c.resend_in.ensures.none e)
