-- What proofs take of the libraries and of this crate, by one name.
-- Assumes nothing.
pub use mathlib.Core.Path.{◌∙◌, ◌≡◌, ap, ap₂, fun_ext, refl, subst, subst⁻¹, sym}
pub use borrow.Author.Rules.{rules}
pub use Prim.Native.Nat.{◌%◌, ◌*◌, ◌+◌, ◌-◌, ◌/◌, ◌<◌, ◌^◌, ◌≤◌, min, suc, zero, zero-le, ℕ}
pub use native.Mathlib.Omega.{arith}
pub use lib.ListN.{get_or-append, get_or-eq_default, get_or-map, drop, drop_of_length-le, get_or, get_or-replicate, length, length-append, length-drop, length-map, length-replicate, length-set, length-take, replicate, replicate-append-replicate, set, take, take-append-drop}
pub use mathlib.Core.List.{List, [], ◌++◌, ◌∷◌, append_assoc, append-nil, map, map-append, map-id}
pub use mathlib.Core.Bool.{Bool, false, false≢true, not, true, true≢false}
pub use borrow.Author.Tests.{eq-eqb, eqb-false, eqb-true, le-leb, le-ltb, leb-false, leb-true, lt-leb, lt-ltb, ltb-false, ltb-true, ne_eqb, not-false, not-true}
pub use lib.Dec.{T, eqb, eqb-suc-suc, eqb-zero-suc, eqb→eq, leb, leb-suc-zero, leb→le, lit<, lit≤, ltb, ltb→lt}
pub use mathlib.Core.Option.{Option, none, some}
pub use mathlib.Core.Logic.{◌≢◌, ◌⊎◌, inl, inr, ⊎_elim}
pub use lib.Seq.{append_snoc, drop-append-add, drop-append-le, drop-append_seam, drop_at, drop-cons, drop-drop, drop-set-add, drop-set-lt, ext_get_or, get_or-append-add, get_or_at, get_or-drop, get_or-set_other, get_or-set_same, get_or-take, length-take-le, lt-length-set, paste, paste-suc, paste-zero, set-append_seam, set_at, set_out, take-add, take_all, take-append-add, take-append-le, take-append_seam, take_at, take-length, take-set-le, take-set-lt, take-suc, take-suc-set, take-take}
pub use native.Mathlib.Nat.{add_assoc, add-sub_cancel_left, add-suc, add-zero, div-eq_of_lt, div-lt_iff_lt-mul, div-mul-le_self, div_self, le-add_right, le_antisymm, le_of_suc-le-suc, le_refl, le_trans, lt_of_lt_of_le, mod-eq_of_lt, mod-eq-sub-div-mul, mod-lt, mul-div_cancel, mul-le-mul, not-suc-le-zero, pow-le-pow_right, pow-suc, sub-zero, suc-add, zero-add}
pub use lib.IntN.{+ℤ_assoc, +ℤ_idl, +ℤ_idr, ◌+ℤ◌, nat_abs, negsuc, pos, sub_ℕ, ℤ}
pub use native.Mathlib.Numerals.{add-one}
pub use Prim.Native.String.{String}
pub use Rattle.basis.specs.Pick.{bit, both, pick}
pub use Rattle.basis.proofs.Cases.{bool_cases, eq_or_ne, le_or_lt, lt_or_ge, picked}
pub use Rattle.basis.proofs.Both.{both_false, both_first, both_no, both_of, both_second, both_true, not_both, untrue}
pub use Rattle.basis.specs.Lists.{Among, count, same_bytes}
pub use Rattle.basis.specs.Text.{text}
pub use Rattle.basis.proofs.Tests.{tests}
pub use Rattle.basis.proofs.Same.{same_is, same_self, same_true}
