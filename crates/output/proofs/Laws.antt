-- The laws of `Wrote`: one writer after another, what stands in the output afterwards, a part that is lent on.
-- Assumes nothing.
use Rattle.basis.proofs.Std.{◌≡◌, refl, sym, ap, ap₂, ◌∙◌, List, [], ◌∷◌, ◌++◌, ⊎_elim, ℕ, ◌+◌, ◌-◌, ◌≤◌, ◌<◌, add_assoc, add-zero, arith, length, take, drop, length-append, drop_of_length-le, le-leb, lt-leb, le_or_lt}
use borrow.Rule.Slice.PartMut.{mid_of, put_mid, same_len_mid, mid_len, put_same}
use Rattle.output.specs.Put.{Out, output, put, put_piece, put_all, Wrote, concat}
use Rattle.output.proofs.Put.{length_put, take_put, drop_put, put_put, put_nothing, put_lent}

-- one piece, where it fits and where it does not
pub piece_fits : (xs : List ℕ) (at : ℕ) (bs : List ℕ) → at + length bs ≤ length xs → put_piece (output xs at) bs ≡ output (put xs at bs) (at + length bs)
unfolding put_piece
piece_fits xs at bs h = rw (le-leb _ _ h)

pub piece_full : (xs : List ℕ) (at : ℕ) (bs : List ℕ) → length xs < at + length bs → put_piece (output xs at) bs ≡ output xs (length xs + 1)
unfolding put_piece
piece_full xs at bs h = rw (lt-leb _ _ h)

pub placed : {xs : List ℕ} {at : ℕ} {bs : List ℕ} → at + length bs ≤ length xs → Wrote xs at (bs ∷ []) (put xs at bs) (at + length bs)
placed {xs} {at} {bs} h = record { all = sym (piece_fits xs at bs h) }

pub refused : {xs : List ℕ} {at : ℕ} {bs : List ℕ} → length xs < at + length bs → Wrote xs at (bs ∷ []) xs (length xs + 1)
refused {xs} {at} {bs} h = record { all = sym (piece_full xs at bs h) }

pub put_all_append : (o : Out) (bs cs : List (List ℕ)) → put_all o (bs ++ cs) ≡ put_all (put_all o bs) cs
put_all_append o [] cs = refl
put_all_append o (b ∷ bs) cs = put_all_append (put_piece o b) bs cs

-- one writer after another, from where the first ended
pub then : {xs : List ℕ} {at : ℕ} {bs : List (List ℕ)} {ys : List ℕ} {m : ℕ} {cs : List (List ℕ)} {zs : List ℕ} {r : ℕ}
    → Wrote xs at bs ys m → Wrote ys m cs zs r → Wrote xs at (bs ++ cs) zs r
then {xs} {at} {bs} {ys} {m} {cs} a b = record { all = b.all ∙ ap (λ (o : Out). put_all o cs) a.all ∙ sym (put_all_append (output xs at) bs cs) }

-- what a writer leaves and answers is determined
pub puts_once : {xs : List ℕ} {at : ℕ} {bs : List (List ℕ)} {ys zs : List ℕ} {r q : ℕ} → Wrote xs at bs ys r → Wrote xs at bs zs q → (ys ≡ zs) × (r ≡ q)
puts_once a b = let e = a.all ∙ sym b.all in (ap (λ (o : Out). o.bytes) e, ap (λ (o : Out). o.end) e)

-- once the end is past the output, nothing changes any more
stop : (xs : List ℕ) (bs : List (List ℕ)) → put_all (output xs (length xs + 1)) bs ≡ output xs (length xs + 1)
stop xs [] = refl
stop xs (b ∷ bs) = rw (piece_full xs (length xs + 1) b (omega arith)) (stop xs bs)

-- the first piece found no room
shut : (xs : List ℕ) (at : ℕ) (b : List ℕ) (bs : List (List ℕ)) → length xs < at + length b → put_all (output xs at) (b ∷ bs) ≡ output xs (length xs + 1)
shut xs at b bs h = rw (piece_full xs at b h) (stop xs bs)

-- the first piece went in
goes : (xs : List ℕ) (at : ℕ) (b : List ℕ) (bs : List (List ℕ)) → at + length b ≤ length xs → put_all (output xs at) (b ∷ bs) ≡ put_all (output (put xs at b) (at + length b)) bs
goes xs at b bs h = rw (piece_fits xs at b h)

long_all : (xs : List ℕ) (at : ℕ) (bs : List (List ℕ)) → length (put_all (output xs at) bs).bytes ≡ length xs
long_all xs at [] = refl
long_all xs at (b ∷ bs) = ⊎_elim
    (λ h. rw (goes xs at b bs h) (long_all (put xs at b) (at + length b) bs ∙ length_put xs at b h))
    (λ h. rw (shut xs at b bs h))
    (le_or_lt (at + length b) (length xs))

fits_all : (xs : List ℕ) (at : ℕ) (bs : List (List ℕ)) → at + length (concat bs) ≤ length xs → put_all (output xs at) bs ≡ output (put xs at (concat bs)) (at + length (concat bs))
fits_all xs at [] h = ap₂ output (sym (put_nothing xs at)) (sym (add-zero at))
fits_all xs at (b ∷ bs) h =
    let g : at + length b + length (concat bs) ≤ length xs = omega (arith, length-append b (concat bs)) in
    let f : at + length b ≤ length xs = omega arith in
    goes xs at b bs f
    ∙ fits_all (put xs at b) (at + length b) bs (rw (length_put xs at b f) g)
    ∙ ap₂ output (put_put xs at b f (concat bs)) (omega (arith, length-append b (concat bs)))

most_all : (xs : List ℕ) (at : ℕ) (bs : List (List ℕ)) → at ≤ length xs + 1 → (put_all (output xs at) bs).end ≤ length xs + 1
most_all xs at [] l = l
most_all xs at (b ∷ bs) l = ⊎_elim
    (λ (f : at + length b ≤ length xs).
    let e = length_put xs at b f in
    rw (goes xs at b bs f) (rw e at (most_all (put xs at b) (at + length b) bs (rw e (omega arith)))))
    (λ (f : length xs < at + length b). rw (shut xs at b bs f) (omega arith))
    (le_or_lt (at + length b) (length xs))

fitted_all : (xs : List ℕ) (at : ℕ) (bs : List (List ℕ)) → (put_all (output xs at) bs).end ≤ length xs → at + length (concat bs) ≤ length xs
fitted_all xs at [] l = omega arith
fitted_all xs at (b ∷ bs) l = ⊎_elim
    (λ (f : at + length b ≤ length xs).
    let e = length_put xs at b f in
    let k = fitted_all (put xs at b) (at + length b) bs (rw e (rw (goes xs at b bs f) at l)) in
    omega (arith, length-append b (concat bs), k, e))
    (λ (f : length xs < at + length b). absurd (let k = rw (shut xs at b bs f) at l in omega (arith, k)))
    (le_or_lt (at + length b) (length xs))

module _ {xs : List ℕ} {at : ℕ} {bs : List (List ℕ)} {ys : List ℕ} {r : ℕ} (w : Wrote xs at bs ys r) where
  bytes_are : ys ≡ (put_all (output xs at) bs).bytes
  bytes_are = ap (λ (o : Out). o.bytes) w.all

  end_is : r ≡ (put_all (output xs at) bs).end
  end_is = ap (λ (o : Out). o.end) w.all

  pub same_length : length ys ≡ length xs
  same_length = ap length bytes_are ∙ long_all xs at bs

  -- with room for all pieces they stand there, one behind the other
  pub fits : at + length (concat bs) ≤ length xs → (ys ≡ put xs at (concat bs)) × (r ≡ at + length (concat bs))
  fits h = let e = fits_all xs at bs h in (bytes_are ∙ ap (λ (o : Out). o.bytes) e, end_is ∙ ap (λ (o : Out). o.end) e)

  pub most : at ≤ length xs + 1 → r ≤ length xs + 1
  most h = rw end_is (most_all xs at bs h)

  -- an end within the output says that all pieces stand there
  pub fitted : r ≤ length ys → at + length (concat bs) ≤ length xs
  fitted h = fitted_all xs at bs (omega (arith, end_is, same_length))

  -- what stands behind the end is as it was
  pub behind : drop r ys ≡ drop r xs
  behind = ⊎_elim
      (λ (h : r ≤ length ys).
      let g = fitted h in
      let e = fits g in
      let d : drop (at + length (concat bs)) (put xs at (concat bs)) ≡ drop (at + length (concat bs)) xs = rw add-zero at (drop_put xs at (concat bs) g 0) in
      rw (e.0, e.1) d)
      (λ (h : length ys < r). drop_of_length-le ys {i = r} (omega arith) ∙ sym (drop_of_length-le xs {i = r} (omega (arith, same_length))))
      (le_or_lt r (length ys))

  -- what stands before an end within the output is what stood before the start, and all the pieces
  pub written : r ≤ length ys → take r ys ≡ take at xs ++ concat bs
  written h = let g = fitted h in let e = fits g in rw (e.0, e.1) (take_put xs at (concat bs) g)

-- what a writer sends that starts at the output's start
pub sent : {xs : List ℕ} {bs : List (List ℕ)} {ys : List ℕ} {r : ℕ} → Wrote xs 0 bs ys r → r ≤ length ys → take r ys ≡ concat bs
sent w h = written w h

-- a writer that found no room, and all that would follow it: nothing follows
pub stopped : {xs : List ℕ} {at : ℕ} {bs : List (List ℕ)} {ys : List ℕ} {r : ℕ} (cs : List (List ℕ))
    → at ≤ length xs
    → Wrote xs at bs ys r
    → length ys < r
    → Wrote xs at (bs ++ cs) ys r
stopped {ys = ys} {r = r} cs l w h =
    let e : r ≡ length ys + 1 = omega (arith, most w (omega arith), same_length w) in
    then w (record { all = ap (output ys) e ∙ sym (stop ys cs) ∙ ap (λ (n : ℕ). put_all (output ys n) cs) (sym e) })

-- xs with its part from k on, lent, left as the writer left it; the end counted from the start of xs
whole : List ℕ → ℕ → Out → Out
whole xs k o = output (put_mid k (length xs - k) xs o.bytes) (k + o.end)

module _ (xs : List ℕ) (k : ℕ) (h : k ≤ length xs) where
  whole_length : (ys : List ℕ) → length ys ≡ length xs - k → length (put_mid k (length xs - k) xs ys) ≡ length xs
  whole_length ys l = same_len_mid k (length xs - k) xs ys (l ∙ sym (mid_len k (length xs) xs (omega arith)))

  whole_piece : (ys : List ℕ) (at : ℕ) (b : List ℕ) → length ys ≡ length xs - k → whole xs k (put_piece (output ys at) b) ≡ put_piece (whole xs k (output ys at)) b
  unfolding whole
  whole_piece ys at b l =
      let e = whole_length ys l in
      ⊎_elim
      (λ (f : at + length b ≤ length ys).
      ap (whole xs k) (piece_fits ys at b f)
      ∙ ap₂ output (put_lent xs ys k at b h f) (sym (add_assoc k at (length b)))
      ∙ sym (piece_fits (put_mid k (length xs - k) xs ys) (k + at) b (omega (arith, e))))
      (λ (f : length ys < at + length b).
      ap (whole xs k) (piece_full ys at b f)
      ∙ ap (output (put_mid k (length xs - k) xs ys)) (omega (arith, e))
      ∙ sym (piece_full (put_mid k (length xs - k) xs ys) (k + at) b (omega (arith, e))))
      (le_or_lt (at + length b) (length ys))

  whole_all : (ys : List ℕ) (at : ℕ) (bs : List (List ℕ)) → length ys ≡ length xs - k → whole xs k (put_all (output ys at) bs) ≡ put_all (whole xs k (output ys at)) bs
  whole_all ys at [] l = refl
  whole_all ys at (b ∷ bs) l =
      whole_all (put_piece (output ys at) b).bytes (put_piece (output ys at) b).end bs (long_all ys at (b ∷ []) ∙ l)
      ∙ ap (λ (o : Out). put_all o bs) (whole_piece ys at b l)

-- a writer that starts at the start of the part of xs that is lent from k on
pub rest : {xs : List ℕ} {k : ℕ} {bs : List (List ℕ)} {ys : List ℕ} {r : ℕ}
    → k ≤ length xs → Wrote (mid_of k (length xs - k) xs) 0 bs ys r → Wrote xs k bs (put_mid k (length xs - k) xs ys) (k + r)
unfolding whole
rest {xs} {k} {bs} {ys} {r} h w = record {
  all =
      ap (whole xs k) w.all
      ∙ whole_all xs k h (mid_of k (length xs - k) xs) 0 bs (mid_len k (length xs) xs (omega arith))
      ∙ ap₂ (λ (l : List ℕ) (n : ℕ). put_all (output l n) bs) (put_same k (length xs - k) xs) (add-zero k);
}

-- one writer, and another that is lent the rest of the output from where the first ended: what the two leave in the whole
pub lent : {xs : List ℕ} {at : ℕ} {bs : List (List ℕ)} {ys : List ℕ} {k : ℕ} {cs : List (List ℕ)} {zs : List ℕ} {r : ℕ}
    → Wrote xs at bs ys k
    → k ≤ length ys
    → Wrote (mid_of k (length ys - k) ys) 0 cs zs r
    → Wrote xs at (bs ++ cs) (put_mid k (length ys - k) ys zs) (k + r)
lent w h v = then w (rest h v)
