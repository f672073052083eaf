-- What the walks of src/history.rt, src/octet_log.rt and src/snapshot.rt share: names, and steps. Assumes `Logic`.
pub use Rattle.std.proofs.Common.{List, [], ◌∷◌, ◌++◌, refl}
pub use Rattle.std.proofs.raw_atomic.Walks.{proved_at}
pub use mir.Val.{Val, vptr}
pub use prog.Wp.{WpFn}
pub use contract.Running.{tables}
pub use types.Kit.{‵, raw, ◌⊛◌, prop, ◌$◌, ◌∵◌, !, qed, move, keep, drop, split, fsplit, fjoin, feq_l, regoal, suffices, done}
pub use types.Part.{agg}
pub use types.Run.{enter, returns, and_then, no_more}
pub use types.ByLocal.{alloc_all, pass_all, free_all, look_at, get, sets}
pub use denote.Exit.{yes}
pub use denote.RattleType.{owns}
pub use denote.Builtin.{RefOf}
pub use denote.Signature.{plain, types_at, named_lft}
pub use denote.Steps.{nothing}
pub use denote.Triple.Entry.{alive}
pub use denote.Triple.Walked.{says, Stays, stay_dropped, walk_of, ends_at, Goes-dropped}
use seplogic.Ra.Ura.{Ura}
use mir.Val.{vstruct, vcons, vnil}
use types.Logic.{Logic}
use types.Kit.{Goal, Step, step, Item, fpack, feq_i}
use denote.RattleType.{RattleType, Valss}
use denote.Struct.Struct.{Struct, within}

-- a struct by its fields alone: what it owns does not read its name
abbrev pub plainly : List RattleType → RattleType
plainly Rs = Struct (record { name = []; args = []; types = []; fields = Rs })

abbrev pub none : Val
none = vstruct vnil

abbrev pub one : Val → Val
one u = vstruct (vcons u vnil)

module _ {M : Type 1} {𝓤 : Ura M} {𝓛 : Logic 𝓤} {K : Type 0} {Γ : List (Item 𝓤)} {G : Goal 𝓤 𝓛.H} where
  pub none_made : K → Step K 𝓛 (‵ ((plainly []).own_val tt (none ∷ [])) ∷ Γ) G Γ G
  none_made t = step (λ s.
      nothing t $ feq_i t (List Val) (none ∷ []) (none ∷ []) refl $ fjoin t $
      fpack t (Valss []) (within (record { name = []; args = []; types = []; fields = [] }) tt (none ∷ [])) tt $ s)

  pub one_made : K → (R : RattleType) (x : R.Denot) (u : Val) → Step K 𝓛 (‵ ((plainly (R ∷ [])).own_val (x, tt) (one u ∷ [])) ∷ Γ) G (‵ (R.own_val x (u ∷ [])) ∷ Γ) G
  one_made t R x u = step (λ s.
      nothing t $ move t (1 ∷ 0 ∷ []) $ fjoin t $ feq_i t (List Val) (one u ∷ []) (one u ∷ []) refl $ fjoin t $
      fpack t (Valss (R ∷ [])) (within (record { name = []; args = []; types = []; fields = R ∷ [] }) (x, tt) (one u ∷ [])) (u ∷ [], tt) $ s)
