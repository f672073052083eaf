use Rattle.std.proofs.Common.{◌≡◌, ◌∙◌, sym, inl, Option, Some, None, true, false, is_some, refl}
use Rattle.serde_json.specs.Data.{Data, null}
use Rattle.oftp_listing.specs.Replies.{error_text}
use Rattle.oftp_listing.specs.Texts.{reply_to}
use Rattle.oftp_listing.proofs.handler.refuse.Goals as goal

not_allowed : (found : Option Data) → true ≡ is_some found → reply_to false found ≡ error_text 405
not_allowed None e = absurd (cc e)
not_allowed (Some d) e = refl

pub returns-in_ok-error_reply-in-Ok-true-clause-serves :
    goal.returns-in_ok-error_reply-in-Ok-true-clause-serves
returns-in_ok-error_reply-in-Ok-true-clause-serves g c =
    let finds = c.in-Ok-true.ensures.finds in
    let reply = c.in_ok-error_reply-in-Ok-true.ensures in
    inl (record {
      untold = finds.counts;
      office = reply.office;
      shown' = Some null;
      reply = reply.octets;
      right = λ k s. reply.octets ∙ sym (not_allowed _ (sym c.in-Ok-true.field-0-test ∙ finds.answer k s));
    })
