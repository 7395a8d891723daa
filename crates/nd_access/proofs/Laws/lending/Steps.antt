-- The names that walks by hand and their lemmas cite.
pub use mathlib.Core.Path.{◌≡◌, refl, sym, ap, subst, ◌∙◌}
pub use mathlib.Core.Bool.{Bool, true, false, ◌&&◌}
pub use mathlib.Core.List.{List, [], ◌∷◌, ◌++◌}
pub use Prim.Native.Nat.{ℕ, zero, suc, ◌+◌, ◌*◌, ◌<◌, ◌≤◌, ◌^◌}
pub use native.Mathlib.Omega.{arith}
pub use native.Mathlib.Nat.{mul-le-mul_right}
pub use lib.Dec.{T, lit<}
pub use lib.ListN.{length, get_or, set, take, drop as drop_l, replicate}
pub use seplogic.Ra.Ura.{Ura}
pub use mir.Syntax.{Fn, Body, Lifetime, Sym, named, a_type, w64, seq, assign, place, rv_opd, copy, return}
pub use mir.MapTy.{inst_fn}
pub use mir.Val.{Val, vptr, vint, vunit, vstruct, vcons, vnil, of_list, has_ty, WT}
pub use base.Fraction.{full_share}
pub use base.Logic.{SProp, ent, sep, ex, emp, upd, guard, via, fst∗, snd∗, id⊢, guard_i, never_e}
pub use base.Fml.{Lft, GName, Share, Fml, Incl, Incl-refl, Incl-trans, ftrue, ffalse, fsep, fex, feq, fwand, fupd, fdead, fhide}
pub use base.Fml.{flft, fobs, fauth, fres, fbor}
unfoldable pub use base.Fml.{fseps}
pub use base.Stored.{coded_list}
pub use prog.Wp.{Calls, Loops, WpFn}
pub use types.Logic.{Logic, sem, lfts}
pub use contract.BorrowLft.{⊑_meet, meet_⊑_left, meet_⊑_right}
pub use contract.Lifetimes.{toks}
pub use contract.Monad.{fact, fact_i}
pub use contract.Running.{tables}
pub use types.Kit.{Goal, Seq, Step, step, Soaks, Item, ‵, raw, ◌⊛◌, some, given, later, at_ret, ◌$◌, ◌∵◌, !, qed, done, by, suffices}
pub use types.Kit.{regoal, show, prop, move, keep, drop, use0, use1, use2, use3, split, split3, join, group, pick, learn, check, rewrite}
pub use types.Kit.{assume, await, updating, now as at_once, fsplit, fsplit3, fjoin, fjoin3, fpick, fpack, feq_l, feq_i}
pub use types.Mut.{open_ref}
pub use types.Part.{agg, whole, sub, look_in}
pub use types.Run.{addr, bin, load, of_opd, stop, fld, hop, from, size_word, unit_lit, look, and_then, no_more}
pub use types.Run.{first, blocks, exec, returns, enter}
pub use types.ByLocal.{alloc_all, pass_all, free_all, look_at, look_in_at, get, get_in, through, sets, sets_last, env, is}
pub use types.SemTy.{SemTy, Arr, cells, Body as Borrowed}
pub use types.Tokens.{bor_open, obor_alter}
pub use denote.Array.{Array}
pub use denote.Builtin.{usize}
pub use denote.Follow.{follows, follows_both}
unfoldable pub use denote.Follow.{both_by}
pub use denote.Index.{place as nth, place_is}
pub use denote.Memory.{mem, cell_at, lone, shared_of, hidden_shr}
unfoldable pub use denote.Memory.{part_of}
pub use denote.Opens.{unhide, hide}
pub use denote.Param.{param, layout, layouts}
pub use denote.Param.Laws.{Laws, param_laws}
pub use denote.Plain.{uint_vals, uint_Tells}
pub use denote.RattleType.{RattleType, RowLaws, Denots, Valss, owns}
pub use denote.RawPtr.{Ptr, RawPtr, block_ptr, null_ptr, block_of, count_of, InBlock, lies_at, ptr_val, ◌+ₚ◌}
pub use denote.Ref.{Bor, MutBor, ShrRef, MutRef, NamedLft, shr_vals, shr_Tells, mut_vals, mut_Tells}
pub use denote.Shadow.{shadow, makes_shadow, pure_l, pure_i}
pub use denote.Sharing.{ShrLaws, said, beside, within, held}
pub use denote.Signature.{plain, named_lft}
pub use denote.Slice.{Room, MutSlice, slice_val}
pub use denote.Steps.{nothing, only, opens, closes}
pub use Rattle.std.proofs.Words.{pointer_in, pointer_out}
pub use Rattle.std.proofs.raw_atomic.Walks.{proved, proved_at, leaves}
pub use denote.Triple.Walked.{Goes-ref, says, walk_of}
