-- The laws of `put`: its length, what stands before and behind it, two in a row, one in a part that is lent on.
-- Assumes nothing.
use Rattle.basis.proofs.Std.{◌≡◌, sym, ap, ◌∙◌, List, [], ◌++◌, append_assoc, append-nil, ℕ, ◌+◌, ◌-◌, ◌≤◌, add_assoc, add-sub_cancel_left, add-zero, arith, length, take, drop, length-append, length-take, length-drop, take-append-drop, paste, take-length, length-take-le, take_at, drop_at, take-take, take-append-le, drop-append-le, take-append-add, drop-append-add, drop-drop}
use borrow.Rule.Slice.PartMut.{post_of, put_mid}
use Rattle.output.specs.Put.{put}

-- all of bs copied is bs put
pub pasted : (xs : List ℕ) (at : ℕ) (bs : List ℕ) → paste xs at bs (length bs) ≡ put xs at bs
unfolding put
pasted xs at bs = simp take-length

-- bs in the place of the part that is as long is bs put
pub copied : (xs : List ℕ) (at : ℕ) (bs : List ℕ) → put_mid at (at + length bs - at) xs bs ≡ put xs at bs
unfolding put
copied xs at bs = simp (append_assoc, add-sub_cancel_left, drop-drop)

module _ (xs : List ℕ) (at : ℕ) (bs : List ℕ) (h : at + length bs ≤ length xs) where
  head_length : length (take at xs ++ bs) ≡ at + length bs
  head_length = simp (length-append, length-take) (omega arith)

  pub length_put : length (put xs at bs) ≡ length xs
  unfolding put
  length_put = simp (length-append, length-take, length-drop) (omega arith)

  pub take_put : take (at + length bs) (put xs at bs) ≡ take at xs ++ bs
  unfolding put
  take_put = take_at (take at xs ++ bs) (drop (at + length bs) xs) (at + length bs) head_length

  pub drop_put : (n : ℕ) → drop (at + length bs + n) (put xs at bs) ≡ drop (at + length bs + n) xs
  unfolding put
  drop_put n =
      sym (drop-drop n (at + length bs) _)
      ∙ ap (drop n) (drop_at (take at xs ++ bs) (drop (at + length bs) xs) (at + length bs) head_length)
      ∙ drop-drop n (at + length bs) xs

  pub before_put : (n : ℕ) → n ≤ at → take n (put xs at bs) ≡ take n xs
  unfolding put
  before_put n l =
      ap (take n) (append_assoc (take at xs) bs (drop (at + length bs) xs))
      ∙ take-append-le n (take at xs) _ (simp length-take (omega arith))
      ∙ take-take n at xs l

  put_seam : (ys cs : List ℕ) → take (at + length bs) ys ≡ take at xs ++ bs → drop (at + length bs + length cs) ys ≡ drop (at + length bs + length cs) xs
      → put ys (at + length bs) cs ≡ put xs at (bs ++ cs)
  unfolding put
  put_seam ys cs t d = rw (t, d) (simp (length-append, append_assoc, add_assoc))

  -- two in a row are one
  pub put_put : (cs : List ℕ) → put (put xs at bs) (at + length bs) cs ≡ put xs at (bs ++ cs)
  put_put cs = put_seam (put xs at bs) cs take_put (drop_put (length cs))

pub put_nothing : (xs : List ℕ) (at : ℕ) → put xs at [] ≡ xs
unfolding put
put_nothing xs at = simp (append-nil, add-zero, take-append-drop)

put_inside : (p ys q : List ℕ) (at : ℕ) (bs : List ℕ) → at + length bs ≤ length ys → p ++ (put ys at bs ++ q) ≡ put (p ++ (ys ++ q)) (length p + at) bs
unfolding put
put_inside p ys q at bs h =
    let g : at ≤ length ys = omega arith in
    simp (add_assoc, take-append-add, drop-append-add, take-append-le, drop-append-le, append_assoc)

-- into the part that is lent from k on
pub put_lent : (xs ys : List ℕ) (k at : ℕ) (bs : List ℕ) → k ≤ length xs → at + length bs ≤ length ys
    → put_mid k (length xs - k) xs (put ys at bs) ≡ put (put_mid k (length xs - k) xs ys) (k + at) bs
put_lent xs ys k at bs h f =
    put_inside (take k xs) ys (post_of k (length xs - k) xs) at bs f
    ∙ ap (λ (n : ℕ). put (put_mid k (length xs - k) xs ys) (n + at) bs) (length-take-le k xs h)
