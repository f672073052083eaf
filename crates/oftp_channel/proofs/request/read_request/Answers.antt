use Rattle.std.proofs.Common.{◌≡◌, List, [], ◌∷◌, ◌++◌, length, map, ap, sym, subst, arith, length-append}
use Rattle.std.proofs.lemmas.List.{map_push, length-map}
use Rattle.std.proofs.lemmas.Result.{err_from_is_err_and}
use Rattle.oftp_channel.specs.Requests.{total}
use Rattle.oftp_channel.proofs.InputLemmas.{gave_on, passed_behind, want_behind}
use Rattle.oftp_channel.proofs.RequestLemmas.{SoFar, next_fits, read_more, same_request}
use Rattle.oftp_channel.proofs.SpellingLemmas.{total_push}
use Rattle.oftp_channel.proofs.request.read_request.Goals as goal

pub returns-in_err-word-clause-refused : goal.returns-in_err-word-clause-refused
returns-in_err-word-clause-refused g c =
    let p = err_from_is_err_and c.from_residual-in_err-word.result c.from_residual-in_err-word.ensures.1 in
    rw (p.1, p.2) (λ form heard is more rest words request e.
    let k = next_fits g.R.Read.remaining c.args.reader.now c.words.reader c.in_ok-count.field-0 c.words.left (map (λ s. s.items) c.words.words.items) words heard more rest
    c.words.invariant.so_far (omega arith) (omega (arith, length-map c.words.words.items (λ s. s.items))) c.words.invariant.budget is request e in
    c.in_err-word.ensures.refused form k.2 more k.1 k.0 k.3 k.5 k.4)

pub words-preserved : goal.words-preserved
words-preserved g c =
    let s = c.in_ok-word.word in
    let e : map (λ s. s.items) c.push.new.self.items ≡ map (λ s. s.items) c.words.words.items ++ s.items ∷ [] = rw c.in_ok-push.ensures.items (map_push (λ s. s.items) c.words.words.items s) in
    record {
      within = omega (arith, ap (λ (z : List _). length z) c.in_ok-push.ensures.items, length-append c.words.words.items (s ∷ []));
      budget = omega (arith, ap total e, total_push (map (λ s. s.items) c.words.words.items) s.items, c.in_ok-word.ensures.most, c.words.invariant.budget);
      so_far = subst (SoFar _ _ _ _) (sym e) (read_more _ _ _ _ c.in_ok-count.field-0 (map (λ s. s.items) c.words.words.items) s.items c.words.invariant.so_far c.in_ok-word.ensures.read);
    }

pub returns-clause-again : goal.returns-clause-again
returns-clause-again g c = λ asked rest request e.
    same_request g.R.Read.remaining c.args.reader.now c.words.reader c.in_ok-count.field-0 c.words.left (map (λ s. s.items) c.words.words.items) asked rest
    c.words.invariant.so_far (omega arith) (omega (arith, length-map c.words.words.items (λ s. s.items))) c.words.invariant.budget request e

pub returns-in_err-word-clause-leaves : goal.returns-in_err-word-clause-leaves
returns-in_err-word-clause-leaves g c = passed_behind g.R.Read.remaining c.args.reader.now _ _ _ c.in_err-word.field-0.0 _ c.from_residual-in_err-word.ensures.1
    c.words.invariant.so_far c.in_err-word.ensures.leaves

pub returns-in_err-push-clause-leaves : goal.returns-in_err-push-clause-leaves
returns-in_err-push-clause-leaves g c = want_behind g.R.Read.remaining c.args.reader.now _ _ _ c.from_residual-in_err-push.ensures.1
    (gave_on g.R.Read.remaining c.args.reader.now _ _ _ _ c.words.invariant.so_far c.in_ok-word.ensures.read)
