use Rattle.std.proofs.Common.{◌≡◌, ◌∙◌, ℕ, List, Option, Some, None, ap, inl, true}
use Rattle.std.specs.Option.{option_map}
use Rattle.serde_json.specs.Data.{Data}
use Rattle.serde_json.specs.Written.{compact_text}
use Rattle.oftp_listing.specs.Replies.{reply_text}
use Rattle.oftp_listing.specs.Texts.{reply_to}
use Rattle.oftp_listing.proofs.handler.show.Goals as goal

shows : (body : List ℕ) (found : Option Data) → Some body ≡ option_map compact_text found → reply_text 200 body ≡ reply_to true found
shows body None e = absurd (cc e)
shows body (Some d) e = ap (reply_text 200) (cc e)

pub returns-in_ok-body_reply-in-Ok-Some-clause-serves :
    goal.returns-in_ok-body_reply-in-Ok-Some-clause-serves
returns-in_ok-body_reply-in-Ok-Some-clause-serves g c =
    let finds = rw c.in-Ok-Some.field-0-is at c.in-Ok-Some.ensures.finds in
    let something = rw c.in-Ok-Some.field-0-is at c.in-Ok-Some.ensures.shows in
    let reply = c.in_ok-body_reply-in-Ok-Some.ensures in
    inl (record {
      untold = finds.counts;
      office = reply.office;
      shown' = Some something.0;
      reply = reply.octets ∙ ap (reply_text 200) something.1;
      right = λ k s. reply.octets ∙ shows _ _ (finds.answer k s);
    })
