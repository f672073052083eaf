-- That a register is sound has at most one proof, so a value may hold it.
use Rattle.std.specs.Prelude.{◌≡◌, ℕ, false, List, [], ◌∷◌, length, map, Option, None, Some, All}
use Rattle.std.specs.List.{list_any}
use Rattle.std.specs.Coded.{×_prop, Unit-prop, le_prop}
use Rattle.std.proofs.Props.{props}
use Rattle.oftp_vfile.specs.declared.format.Format.{Format}
use Rattle.oftp_vfile.specs.declared.format.Format.TheVariants.{Fixed, Variable, Unstructured, Text}
use Rattle.oftp_vfile.specs.VirtualFile.{AreBlocks, AreRows, IsLongest}
use Rattle.oftp_register.specs.declared.entry.Identity.{Identity}
use Rattle.oftp_register.specs.declared.entry.ResponseKind.{ResponseKind}
use Rattle.oftp_register.specs.declared.entry.ResponseKind.TheVariants.{EndResponse, NegativeEndResponse}
use Rattle.oftp_register.specs.declared.entry.IncomingState.{IncomingState}
use Rattle.oftp_register.specs.declared.entry.IncomingState.TheVariants.{Open, Whole}
use Rattle.oftp_register.specs.Register.{Register, Incoming, Issued, Outgoing, Received, is_response_to, same_identity}
use Rattle.oftp_register.specs.Soundness.{AreFiledOnce, AreFullRows, AreNamedOnce, FitsState, IsAnsweredWhole, IsResponse, IsSound, IsSoundAnswer, IsSoundIncoming, IsSoundOutgoing, IsSoundReceived}
use Rattle.oftp_vfile.specs.declared.format.TheConstants.{BLOCK}

-- each part has at most one proof, and so has the whole
longest-prop : (format : Format) (longest : ℕ) → IsProp (IsLongest format longest)
longest-prop Fixed longest = Prim.hlevel props
longest-prop Variable longest = Prim.hlevel props
longest-prop Unstructured longest = Prim.hlevel props
longest-prop Text longest = Prim.hlevel props

full-prop : (format : Format) (longest : ℕ) (rows : List (List ℕ)) → IsProp (AreFullRows format longest rows)
full-prop Fixed longest rows = Prim.hlevel props
full-prop Variable longest rows = Prim.hlevel props
full-prop Unstructured longest rows = Prim.hlevel props
full-prop Text longest rows = Prim.hlevel props

blocks-prop : (size : ℕ) (rows : List (List ℕ)) → IsProp (AreBlocks size rows)
blocks-prop size [] = Unit-prop
blocks-prop size (r ∷ []) = Prim.hlevel props
blocks-prop size (r ∷ q ∷ rows) = let equal : IsProp (length r ≡ size) = Prim.hlevel props in ×_prop equal (blocks-prop size (q ∷ rows))

rows-prop : (format : Format) (longest : ℕ) (rows : List (List ℕ)) → IsProp (AreRows format longest rows)
rows-prop Fixed longest rows = Prim.hlevel props
rows-prop Variable longest rows = Prim.hlevel props
rows-prop Unstructured longest rows = blocks-prop BLOCK rows
rows-prop Text longest rows = blocks-prop BLOCK rows

fits-prop : (state : IncomingState) (format : Format) (longest : ℕ) (rows : List (List ℕ)) → IsProp (FitsState state format longest rows)
fits-prop Open format longest rows = full-prop format longest rows
fits-prop Whole format longest rows = rows-prop format longest rows

answered-prop : {A : Type 0} (state : IncomingState) (response : Option A) → IsProp (IsAnsweredWhole state response)
answered-prop Open response = Prim.hlevel props
answered-prop Whole response = Unit-prop

response-prop : (kind : ResponseKind) (reason : ℕ) (creator text : List ℕ) → IsProp (IsResponse kind reason creator text)
response-prop EndResponse reason creator text = Prim.hlevel props
response-prop NegativeEndResponse reason creator text = Unit-prop

answer-prop : (response : Option Issued) → IsProp (IsSoundAnswer response)
answer-prop None = Unit-prop
answer-prop (Some response) = response-prop response.kind response.reason [] response.text

received-prop : (response : Received) → IsProp (IsSoundReceived response)
received-prop response = response-prop response.kind response.reason response.creator response.text

incoming-prop : (f : Incoming) → IsProp (IsSoundIncoming f)
incoming-prop f x y = λ i. record {
  longest = longest-prop f.format f.longest x.longest y.longest i;
  few = le_prop x.few y.few i;
  fits = fits-prop f.state f.format f.longest f.rows x.fits y.fits i;
  answered = answered-prop f.state f.response x.answered y.answered i;
  answer = answer-prop f.response x.answer y.answer i;
}

outgoing-prop : (f : Outgoing) → IsProp (IsSoundOutgoing f)
outgoing-prop f x y = λ i. record {
  longest = longest-prop f.format f.longest x.longest y.longest i;
  few = le_prop x.few y.few i;
  fits = rows-prop f.format f.longest f.rows x.fits y.fits i;
  marked = le_prop x.marked y.marked i;
}

named-prop : (xs : List Identity) → IsProp (AreNamedOnce xs)
named-prop [] = Unit-prop
named-prop (x ∷ xs) = let absent : IsProp (list_any (λ y. same_identity x y) xs ≡ false) = Prim.hlevel props in ×_prop absent (named-prop xs)

filed-prop : (xs : List Received) → IsProp (AreFiledOnce xs)
filed-prop [] = Unit-prop
filed-prop (x ∷ xs) = let absent : IsProp (list_any (λ (y : Received). is_response_to y.kind y.identity x) xs ≡ false) = Prim.hlevel props in ×_prop absent (filed-prop xs)

pub sound-prop : (r : Register) → IsProp (IsSound r)
sound-prop r x y =
    let all_incoming : IsProp (All IsSoundIncoming r.incoming) = Prim.hlevel (props, incoming-prop) in
    let all_outgoing : IsProp (All IsSoundOutgoing r.outgoing) = Prim.hlevel (props, outgoing-prop) in
    let all_received : IsProp (All IsSoundReceived r.received) = Prim.hlevel (props, received-prop) in
    λ i. record {
      few = le_prop x.few y.few i;
      small = le_prop x.small y.small i;
      incoming = all_incoming x.incoming y.incoming i;
      outgoing = all_outgoing x.outgoing y.outgoing i;
      received = all_received x.received y.received i;
      incoming_once = named-prop (map (λ (f : Incoming). f.identity) r.incoming) x.incoming_once y.incoming_once i;
      outgoing_once = named-prop (map (λ (f : Outgoing). f.identity) r.outgoing) x.outgoing_once y.outgoing_once i;
      received_once = filed-prop r.received x.received_once y.received_once i;
    }
