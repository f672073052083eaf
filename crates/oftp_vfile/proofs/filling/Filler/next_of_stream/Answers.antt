use Rattle.std.proofs.Common.{refl, ◌≡◌, ◌-◌, ◌<◌, [], ◌∷◌, ◌++◌, false, take, drop, length, ap, sym, subst, ◌∙◌, arith}
use Rattle.std.proofs.lemmas.List.{length-take-le}
use Rattle.oftp_vfile.specs.Filling.{advanced, Filling, least, Moves}
use Rattle.oftp_vfile.specs.Packing.{PacksNext}
use Rattle.oftp_vfile.proofs.FillerLemmas.{going_some, moves_to, stream_next, stream_more, stream_left, next_enough, streamed_from}
use Rattle.oftp_vfile.proofs.filling.Filler.next_of_stream.Goals as goal

pub returns-in-Short-clause-fills : goal.returns-in-Short-clause-fills
returns-in-Short-clause-fills c =
    let f = c.args.self.now in
    let going : f.done ≡ false = sym (ap (λ x. x.done) c.self.view_is) ∙ c.if-self.false in
    let told = c.pack_stream-at.ensures.short c.in-Short.is in
    let p = streamed_from _ _ _ f.offset c.args.rows.now _ _ _ (ap (λ x. x.offset) c.self.view_is) told.2 in
    record {
      coming = told.0;
      some = going_some f c.args.rows.now c.args.last c.requires.stream going;
      reaches = stream_more _ f c.args.rows.now _ _ _ _ c.args.last c.requires.stream going c.requires.place told.0 told.1 p;
      same = refl;
    }

pub returns-in-Full : goal.returns-in-Full
returns-in-Full c =
    let f = c.args.self.now in
    let rows = c.args.rows.now in
    let size = length c.args.out.now in
    let to = c.pack_stream-at.ensures in
    let at = c.pack_stream-at.result.0 in
    let place = c.pack_stream-at.result.1 in
    let octets = take at c.pack_stream-at.new.out in
    let told = to.full c.in-Full.is in
    let long : length c.pack_stream-at.new.out ≡ size = omega arith in
    let written : length octets ≡ at = length-take-le at c.pack_stream-at.new.out (omega arith) in
    let some : 0 < length octets = omega (arith, written, told.0, c.requires.room) in
    let going : f.done ≡ false = sym (ap (λ x. x.done) c.self.view_is) ∙ c.if-self.false in
    let p = streamed_from _ size _ f.offset rows octets _ _ (ap (λ x. x.offset) c.self.view_is) told.2 in
    let new : Filling = advanced f rows place.row place.offset in
    let next : PacksNext size f new rows c.args.last octets =
    stream_next size f rows place.row place.offset _ octets c.args.last c.requires.stream going c.requires.place to.offset p told.0 told.1 some in
    let moves = moves_to f rows place.row place.offset c.args.last to.row to.offset (λ _. going) in
    record {
      buffer = (to.room, subst (λ (x : Filling). PacksNext size f x rows c.args.last octets) (sym c.advance.ensures) next);
      fills = record {
        moves = subst (λ (x : Filling). Moves f x rows c.args.last) (sym c.advance.ensures) moves;
        some = going_some f rows c.args.last c.requires.stream going;
        full = next_enough size f new rows c.args.last octets next (stream_left new (drop (new.row - f.row) rows ++ least f.format ∷ []) c.requires.stream going);
      };
    }
