-- `of` makes the empty struct, with the value that its clause names. Assumes `Logic`.
use Rattle.oftp_life.proofs.Walks.{List, [], ◌∷◌, ◌++◌, refl, proved_at, Val, vptr, WpFn, tables, ‵, raw, ◌⊛◌, prop, ◌$◌, ◌∵◌, !, qed, move, keep, drop, split, fsplit, fjoin, feq_l, regoal, suffices, done, agg, enter, returns, and_then, no_more, alloc_all, pass_all, free_all, look_at, get, sets, yes, owns, RefOf, plain, types_at, nothing, alive, says, Stays, stay_dropped, walk_of, ends_at, Goes-dropped, none, one, one_made}
use mir.Syntax.{Fn, Args, a_type}
use mir.MapTy.{inst_fn}
use denote.RattleType.{RattleType}
use denote.Laws.{Is}
use denote.Param.{param, layouts}
use denote.Steps.{owned}
use denote.Struct.Laws.{makes}
use denote.Triple.Clauses.{Ended}
use Rattle.std.specs.contracts.marker.PhantomData as Mark
use Rattle.oftp_life.specs.contracts.snapshot.Snapshot as Snapshot
use Rattle.oftp_life.specs.contracts.snapshot.Snapshot.of as F
use Rattle.oftp_life.specs.contracts.snapshot.Snapshot.of.Key.{name as #self}
use Rattle.oftp_life.proofs.snapshot.Snapshot.of.Statement as stated
use Rattle.oftp_life.proofs.snapshot.Snapshot.of.Code as code

module _ (A : RattleType) where
  abbrev args : Args
  args = layouts (a_type ∷ []) (A, tt)

  abbrev function : Fn
  function = inst_fn args code.function

  abbrev ended : Ended
  ended = F.ended A

  abbrev stayed : Stays ended.signature.params ended.kept
  stayed = (stay_dropped (RefOf (0 ∷ []) tt (plain (λ _. param 0 A)) (λ _. tt)) yes, tt)

pub of_spec : {M : Type 1} → stated.statement M
of_spec 𝓤 𝓛 𝓜 𝓡 wired A LA =
    let c = F.clauses A 𝓛 𝓜.mem 𝓡.returns in let W = walk_of 𝓛 (ended A) (stayed A) c in let 𝓣 = tables 𝓤 𝓛.H 𝓜 𝓡 𝓡.env in
    let goes = Goes-dropped 𝓛 2 (RefOf (0 ∷ []) tt (plain (λ _. param 0 A)) (λ _. tt)) yes (λ κs x f. refl) in
    proved_at 𝓛 (ended A) (stayed A) c 𝓜 𝓡 (goes, tt) (#self (args A)) (function A) (code.unfolded 𝓤 𝓛.H 𝓜 𝓡 wired (A, tt)) (λ z are.
    let a = z.0.3 in
    let vss = z.0.4 in
    let p : Val = vptr a.0.ref_ptr.0 a.0.ref_ptr.1 in
    let made : (Snapshot.the_row (param 0 A)).Denot = record { of = record {}; value = a.0.now } in
    qed 𝓛 ((raw (alive 𝓛 (ended A).signature z.0.0 z.0.1) ⊛ ‵ (owns (types_at (ended A).signature.params z.0.0) a vss)) ∷ raw ((c z.0.0 a).requires z.1) ∷ []) ∵
    keep ! (0 ∷ []) $ split ! $ move ! (1 ∷ []) $ fsplit ! $ fsplit ! $ feq_l ! (λ is₀. drop ! $ drop ! $
    regoal ! (λ (us : List Val). prop (WpFn 𝓤 𝓛.H 𝓣.C 𝓣.Λ (function A) (us ++ []) (W.post z))) is₀ refl $
    enter ! 𝓣.C 𝓣.Λ (function A) (p ∷ []) (W.post z) $ alloc_all ! (λ l. pass_all ! refl ((tt, tt), tt) $
    sets ! (agg ! (no_more !)) refl (tt, tt) $
    sets ! (agg ! (and_then ! (get ! refl) (no_more !))) refl (tt, (tt, tt)) $
    nothing ! $ owned ! (Mark.the_row (param 0 A)) (Is (Mark.the_row (param 0 A))) (makes (Mark.the_type (param 0 A)) tt 𝓛) (record {}) (none ∷ []) (tt, (refl, tt)) $
    one_made ! (Mark.the_row (param 0 A)) (record {}) none $ fjoin ! $
    returns ! (look_at ! 0 refl) $ free_all ! refl $
    suffices ! _ (ends_at 𝓛 (ended A) (stayed A) c z (one none) made (tt, tt) (tt, tt)) $ says ! refl $
    nothing ! $ nothing ! $ fjoin ! $ move ! (2 ∷ 0 ∷ 1 ∷ []) $ done !)))
