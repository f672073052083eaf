use Rattle.std.proofs.Common.{refl}
use Rattle.std.specs.Vec.{vec_capacity}
use Rattle.oftp_codec.proofs.Streams.{hands_out, none_from}
use Rattle.oftp_codec.proofs.deframer.Deframer.next.Goals as goal

pub returns-in-Ok-Some : goal.returns-in-Ok-Some
returns-in-Ok-Some c =
    let i = c.self.inside in
    let found = rw c.in-Ok-Some.field-0-is at c.in-Ok-Some.ensures in
    let out = hands_out c.args.self.now i.buffer.items c.deref.result.now i.begin c.in-Ok-Some.len i.limit i.room
    (vec_capacity i.buffer) i.told c.self.view_is (none_from i.told c.in_default.not-Some) c.deref.ensures.value found.value found.found in
    rw (c.deref-in-Ok-Some.ensures.value) (
      (refl, (λ _. tt), out.left),
      record { value = out.value; after = tt; command = (out.small, out.parts); none = tt; fault = λ _. tt },
    )
