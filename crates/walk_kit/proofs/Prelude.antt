-- The names that a walk brings in, from one place.
pub use mathlib.Core.Path.{◌≡◌, refl, ◌∙◌, sym, ap}
pub use mathlib.Core.Bool.{Bool, not}
pub use Prim.Native.Nat.{ℕ, ◌/◌, ◌+◌, ◌-◌, ◌*◌, ◌<◌, ◌≤◌}
pub use mathlib.Core.List.{List, [], ◌∷◌}
pub use lib.IntN.{ℤ}
pub use lib.Dec.{eqb, ltb, lit<}
pub use lib.ListN.{length}
pub use seplogic.Ra.Ura.{Ura}
pub use base.Fraction.{full_share}
pub use mir.Syntax.{named, w8, w16, w32, w64, ty_bool}
pub use mir.Val.{Val, vbool}
pub use base.Logic.{SProp, ent, emp, id⊢, via, fst∗}
pub use base.Fml.{fat}
pub use prog.Memory.{Memory}
pub use prog.Routine.{Routine}
pub use prog.Wp.{Heap, WpFn, Tables}
pub use ghost.Atoms.{Atoms}
pub use contract.Lifetimes.{Lfts, Shares}
pub use contract.Monad.{Fun, fact_i}
pub use contract.Running.{tables}
pub use types.Kit.{Item, ‵, ⋆, ◌$◌, ◌∵◌, !, qed, by, move, keep, rewrite}
pub use types.Part.{whole, sub, agg}
pub use types.Run.{look, init, store, stop, assigns, assigns_last, from, lit, unit_lit, true_lit, false_lit, bin, un, of_opd, and_then, no_more, land, returns, returns_within, stays, leaves_loop, jumps, forget, enter, alloc1, alloc0, params1, pass1, pass0}
pub use sound.WpLaws.{FmC, fm_of}
pub use denote.Laws.{Is}
pub use denote.Builtin.{i32, u64, u32, u16, u8}
pub use denote.Ref.{Bor, MutBor}
pub use denote.Slice.{slice_val, Room, shr_slice_vals, mut_slice_vals, shr_slice_Tells, mut_slice_Tells}
pub use denote.Triple.Spec.{Meets, triple_of}
pub use denote.Triple.Table.{entered, cited}
pub use denote.Triple.Walked.{needs}
pub use Rattle.walk_kit.proofs.Walk.{AtEntry, goes_in, passes-by}
pub use Rattle.walk_kit.proofs.Passing.{Data, uint, sint, boolean, nothing, struct, enum, Lent, Arg, value, kept, lends, shares, token, viewed, lent_at, holds, empty, tidy, frees_all, calls-with, leaves-with, meets-with, loc, part, start, put-at, views, leaves-holding, part_of}
pub use Rattle.walk_kit.proofs.Turns.{loops, reads-lent, reads-shared, writes-lent, offset-fits}
pub use Rattle.walk_kit.proofs.Arrays.{array, is-repeat, Local, mut_of, shr-of, lends-array, back-array, shares_array, unshares-array, first_of, shares-first, unshares-first, recount, big-lit}
pub use Rattle.walk_kit.proofs.Holding.{Holder, holder, in_struct, of_struct, same_view}
pub use Rattle.walk_kit.proofs.Lends.{twin}
pub use Rattle.rows_records.proofs.Rest.{by_bool, set_long, sub-fits, next_fits, next-upto, nearer, nearer-to, upto-end, as_long}
