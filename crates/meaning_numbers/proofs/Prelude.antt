-- Names of the toolchain's libraries, passed on so that a file brings them in by one line. Nothing is defined here.
pub use mathlib.Core.Path.{◌∙◌, ◌≡◌, ap, ap₂, fun_ext, refl, subst, subst₂, sym}
pub use mathlib.Core.Bool.{Bool, ◌&&◌, ◌||◌, and_assoc, and-false, and-true, cond, false, false≢true, not, or_assoc, or-false, or-true, true}
pub use Rattle.std.specs.declared.option.Option.{Option}
pub use Rattle.std.specs.Prelude.{None, Some}
pub use Rattle.std.proofs.lemmas.Option.{none-some}
pub use mathlib.Core.List.Memᴰ.{append_cases as List·Memᴰ·append-cases}
pub use mathlib.Core.List.Memᴰ.{append_left as Memᴰ·append-left}
pub use mathlib.Core.List.Memᴰ.{append_right as Memᴰ·append-right}
pub use mathlib.Core.List.Memᴰ.{cases_cons as List·Memᴰ·cases-cons}
pub use mathlib.Core.List.Memᴰ.{cast as Memᴰ·cast}
pub use mathlib.Core.List.Memᴰ.{eq_of_singleton as List·Memᴰ·eq-of-singleton}
pub use mathlib.Core.List.Memᴰ.{head as List·Memᴰ·head}
pub use mathlib.Core.List.Memᴰ.{not-nil as List·Memᴰ·not-nil}
pub use mathlib.Core.List.Memᴰ.{tail as List·Memᴰ·tail}
pub use mathlib.Core.List.{List, Memᴰ as List-as-Memᴰ, [], ◌++◌, ◌∷◌, append_assoc, append-nil, map}
pub use mathlib.Core.Logic.{◌⊎◌, inl, inr, ⊎_elim}
pub use Prim.Native.Nat.{◌%◌, ◌*◌, ◌+◌, ◌-◌, ◌/◌, ◌<◌, ◌^◌, ◌≤◌, max, min, suc, zero, zero-le, ℕ}
pub use native.Mathlib.Nat.{add-zero, div-add-mod', div-eq_of_lt-le, div-le_self, div-lt_iff_lt-mul, div-mul-le_self, div-zero, le-div_iff_mul-le, le_of_mul-le-mul_right, le_refl, le_step, le_trans, lt-div-mul-add, mod-zero, mul-le-mul, mul-le-mul_left, mul-le-mul_right, mul-mod_left, mul-pos, pow-le-pow_right, pow-suc, zero-add}
pub use native.Mathlib.Numerals.{add-one}
pub use native.Mathlib.Omega.{arith, min_cases}
pub use native.Mathlib.Decide.{dec_le, dec_lt}
pub use lib.IntN.{◌*ℤ◌, ◌+ℤ◌, ◌-ℤ◌, nat_abs, negsuc, neg_ℤ, pos, sub_ℕ, ℤ}
pub use lib.Signed.{◌<ℤ◌, ◌≤ℤ◌, clash_ℤ, le_z, le_z_yes, lt_z, lt_z_no, lt_z_yes, mag, ≤ℤ_refl}
pub use lib.Dec.{T, T_not, eqb, eqb-suc-zero as eqb·suc-zero, eqb→eq, leb, leb→le, le→leb, ltb, ltb→lt, lt→ltb, nleb→lt, nltb→le}
pub use lib.ListN.{get_or-append as List·get_d-append, get_or-eq_default as List·get_d-eq-default, get_or-map as List·get_d-map, drop, drop_of_length-le, get_or, get_or-replicate, length, length-append, length-drop, length-map, length-replicate, length-set, length-take, replicate, set, take, take-append-drop}
pub use lib.Seq.{append_snoc, drop-append_seam, drop-cons, drop-drop, drop-set-add, drop-set-lt, ext_get_or, get_or-append-add, get_or_at, get_or-drop, get_or-set_other, get_or-set_same, get_or-take, length-paste, length-sets, length-take-le, paste, paste-suc, paste-zero, set-append_left, set_at, set_out, sets, sets-eq, take-add, take_all, take-append-add, take-append-le, take-append_seam, take_at, take-length, take-set-le, take-suc, take-suc-set, take-take}
pub use mir.Syntax.{w32, w64}
pub use mir.Val.{Fits, SFits, of_z, to_z}
pub use mir.ValLaws.{to_z-of_z, to_z_pos}
pub use borrow.Author.Rules.{rules}
pub use borrow.Author.Tests.{eq-eqb, eqb-false, eqb-true, le-leb, le-ltb, leb-false, leb-true, lt-leb, lt-ltb, ltb-false, ltb-true, ne_eqb, not-false, not-true}
pub use Rattle.meaning_numbers.proofs.Tests.{both, both-tests, by-test, clash, decided, is_false, is_true, neither, not-not, of-both, two-tests, yes-not-not}
pub use Rattle.meaning_numbers.proofs.Machine.{f_ge, f-gt, f-le, le-lt_z, le_z-true, lt-lt_z, lt_z-false, lt_z-true, to-sfits, to-sfits32, z-abs, z-cast, z-cast32, z-fits, zmach, zmach32}
pub use Rattle.meaning_numbers.proofs.Rep.{*ℤ-mono, Rep, dn, eq-rep, le-rep, rep_add, rep-by, rep-eq, rep-le, rep-lt, rep_mul, rep_neg, rep_pos, rep-self, rep-sub, rep-subℕ, to-eq, up, z-add, z-eq, z-le, z-neg, z-rep, z-sub, zarith, ≤ℤ-antisym, ≤ℤ-trans}
