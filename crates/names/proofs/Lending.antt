-- A table as lent: where a name stands in it, and what a comparison with a part of it says.
-- Assumes nothing.
use Rattle.basis.proofs.Std.{◌≡◌, refl, sym, ap, subst, ◌∙◌, List, [], ◌∷◌, ℕ, suc, ◌+◌, ◌-◌, ◌≤◌, ◌<◌, arith, eqb, length, get_or, take, drop, get_or-eq_default, ne_eqb, same_bytes, same_is}
use lib.Pointwise.{pointwise, bytes_decides}
use Rattle.names.specs.Names.{names, name_of}
use Rattle.names.specs.Table.{starts, Spans, Lent}
use Rattle.names.proofs.Spans.{spans}

is_empty : (s : List ℕ) → eqb (length s) 0 ≡ same_bytes s []
is_empty [] = refl
is_empty (b ∷ s) = ne_eqb (suc (length s)) 0 (λ (e : suc (length s) ≡ 0). omega arith)

module _ {bytes firsts lengths : List ℕ} (l : Lent bytes firsts lengths) (s : List ℕ) (i : ℕ) where
  pub past_names : length lengths ≤ i → eqb (length s) 0 ≡ same_bytes s (name_of i)
  past_names h =
      let g : length names ≤ i = subst (λ (ks : List ℕ). length ks ≤ i) l.lengths_are h in
      is_empty s ∙ ap (same_bytes s) (sym (get_or-eq_default names [] g))

  module _ (h : i < length lengths) where
    abbrev a : ℕ
    a = get_or firsts i 0

    abbrev n : ℕ
    n = get_or lengths i 0

    within_names : i < length names
    within_names = subst (λ (ks : List ℕ). i < length ks) l.lengths_are h

    pub has_start : i < length firsts
    has_start = subst (λ (ks : List ℕ). i < length ks) (sym l.firsts_are) within_names

    spans_lent : Spans i a (a + n)
    spans_lent =
        subst (λ (ks : List ℕ). Spans i (get_or ks i 0) (get_or ks i 0 + n)) (sym l.firsts_are) (subst (λ (ks : List ℕ). Spans i (get_or starts i 0) (get_or starts i 0 + get_or ks i 0)) (sym l.lengths_are) (spans i within_names))

    pub in_bytes : a + n ≤ length bytes
    in_bytes = subst (λ (ks : List ℕ). a + n ≤ length ks) (sym l.bytes_are) spans_lent.within

    pub same_part : pointwise eqb s (take (a + n - a) (drop a bytes)) ≡ same_bytes s (name_of i)
    same_part =
        let e : take (a + n - a) (drop a bytes) ≡ name_of i = ap (λ (t : List ℕ). take (a + n - a) (drop a t)) l.bytes_are ∙ spans_lent.named in
        let d = bytes_decides s (take (a + n - a) (drop a bytes)) in
        same_is s _ _ d.0 d.1 ∙ ap (same_bytes s) e
