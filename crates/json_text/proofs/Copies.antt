-- A string copied byte by byte: what is copied so far, and what the rest adds to it.
-- Assumes nothing.
use Rattle.basis.proofs.Std.{ℕ, suc, ◌+◌, ◌-◌, ◌<◌, ◌≤◌, ◌≡◌, refl, sym, ap, ◌∙◌, Bool, true, false, List, [], ◌∷◌, ◌++◌, append_assoc, append-nil, ⊎_elim, arith, ltb, length, get_or, drop, set, replicate, length-append, set-append_seam, lt-ltb, le-ltb, le-leb, lt-leb, ltb-true, ltb-false, pick, both, lt_or_ge, picked, both_false, bool_cases, take, length-take-le, length-drop}
use Rattle.json_character.specs.declared.Char.TheVariants.{One, Close, Bad}
use Rattle.json_text.specs.declared.Copied.{Copied}
use Rattle.json_character.specs.Char.{char_of, is_plain}
use Rattle.json_text.specs.Decoded.{Parsed, push, decoded}
use Rattle.json_text.specs.Decoded.Parsed.{ok, none}
use Rattle.json_text.specs.Copied.{ascii, no_copy, copied, copy_of}
use Rattle.json_text.proofs.Texts.{one, one_in, close, no_char}
use Rattle.std.proofs.lemmas.List.{drop-replicate}
use Rattle.json_text.specs.Run.{run}
use Rattle.json_text.proofs.Runs.{plain_ascii, quote_in, run_decoded}

-- b holds k bytes, and the code points d follow
unfoldable pub fill : ℕ → List ℕ → ℕ → List ℕ → Copied
fill n b k [] = record { length = k; bytes = b; ok = true }
fill n b k (c ∷ d) = pick (ltb k n) (pick (ltb k 36) (pick (ltb c 128) (fill n (set b k c) (k + 1) d) no_copy) no_copy) no_copy

abbrev pub fill_of : ℕ → List ℕ → ℕ → Parsed (List ℕ) → Copied
fill_of n b k (ok d r) = fill n b k d
fill_of n b k none = no_copy

module _ (n : ℕ) (b : List ℕ) (k : ℕ) where
  room : (p : Parsed (List ℕ)) (c : ℕ) → k < n → k < 36 → c < 128 → fill_of n b k (push c p) ≡ fill_of n (set b k c) (k + 1) p
  unfolding fill
  room (ok d r) c h g f = simp (lt-ltb _ _ h, lt-ltb _ _ g, lt-ltb _ _ f)
  room none c h g f = refl

  long : (p : Parsed (List ℕ)) (c : ℕ) → n ≤ k → fill_of n b k (push c p) ≡ no_copy
  unfolding fill
  long (ok d r) c h = simp (le-ltb _ _ h)
  long none c h = refl

  full : (p : Parsed (List ℕ)) (c : ℕ) → k < n → 36 ≤ k → fill_of n b k (push c p) ≡ no_copy
  unfolding fill
  full (ok d r) c h g = simp (lt-ltb _ _ h, le-ltb _ _ g)
  full none c h g = refl

  other : (p : Parsed (List ℕ)) (c : ℕ) → k < n → k < 36 → 128 ≤ c → fill_of n b k (push c p) ≡ no_copy
  unfolding fill
  other (ok d r) c h g f = simp (lt-ltb _ _ h, lt-ltb _ _ g, le-ltb _ _ f)
  other none c h g f = refl

-- m is the room that there is for n code points
abbrev pub room_for : ℕ → ℕ
room_for n = pick (ltb n 36) n 36

module _ (n m : ℕ) (e : m ≡ room_for n) where
  pub room_36 : m ≤ 36
  room_36 = rw e (picked (λ (j : ℕ). j ≤ 36) (ltb n 36) n 36 (λ h. omega (arith, ltb-true n 36 h)) (λ h. omega arith))

  pub room_most : m ≤ n
  room_most = rw e (picked (λ (j : ℕ). j ≤ n) (ltb n 36) n 36 (λ h. omega arith) (λ h. ltb-false n 36 h))

  room_all : (k : ℕ) → m ≤ k → k < n → 36 ≤ k
  room_all k = rw e (picked (λ (j : ℕ). j ≤ k → k < n → 36 ≤ k) (ltb n 36) n 36 (λ h x y. omega arith) (λ h x y. x))

  -- the same at a place of a slice
  module _ (b : List ℕ) (k : ℕ) (s : List ℕ) (i : ℕ) where
    pub copy_one : (c w : ℕ) → One c w ≡ char_of (drop i s) → k < m → c < 128 → fill_of n (set b k c) (k + 1) (decoded (drop (i + (1 + w)) s)) ≡ fill_of n b k (decoded (drop i s))
    copy_one c w q h f =
        let g = room_36 in
        let l = room_most in
        sym (rw (one s i c w q) (room n b k (decoded (drop (i + (1 + w)) s)) c (omega arith) (omega arith) f))

    pub copy_full : (c w : ℕ) → One c w ≡ char_of (drop i s) → m ≤ k → no_copy ≡ fill_of n b k (decoded (drop i s))
    copy_full c w q h =
        let p = decoded (drop (i + (1 + w)) s) in
        sym (rw (one s i c w q) (⊎_elim (λ x. full n b k p c x (room_all k h x)) (λ x. long n b k p c x) (lt_or_ge k n)))

    pub copy_other : (c w : ℕ) → One c w ≡ char_of (drop i s) → k < m → 128 ≤ c → no_copy ≡ fill_of n b k (decoded (drop i s))
    copy_other c w q h f =
        let g = room_36 in
        let l = room_most in
        sym (rw (one s i c w q) (other n b k (decoded (drop (i + (1 + w)) s)) c (omega arith) (omega arith) f))

module _ (n : ℕ) (b : List ℕ) (k : ℕ) (s : List ℕ) (i : ℕ) where
  pub copy_close : Close ≡ char_of (drop i s) → fill_of n b k (decoded (drop i s)) ≡ record { length = k; bytes = b; ok = true }
  unfolding fill
  copy_close e = rw (close s i e)

  pub copy_bad : Bad ≡ char_of (drop i s) → no_copy ≡ fill_of n b k (decoded (drop i s))
  copy_bad e = sym (rw (no_char s i e))

-- what is too long, or has a code point above 127, is not copied
module _ (n : ℕ) (d : List ℕ) where
  too_long : n < length d → copied n d ≡ no_copy
  unfolding copied
  too_long h = simp (lt-leb _ _ h)

  over_36 : 36 < length d → copied n d ≡ no_copy
  unfolding copied
  over_36 h = simp (lt-leb _ _ h, both_false)

  no_ascii : ascii d ≡ false → copied n d ≡ no_copy
  unfolding copied
  no_ascii h = simp (h, both_false)

ascii_append : (p d : List ℕ) → ascii (p ++ d) ≡ both (ascii p) (ascii d)
unfolding ascii
ascii_append [] d = refl
ascii_append (c ∷ p) d = go (ltb c 128) (ascii_append p d)
  where
    go : (b : Bool) → ascii (p ++ d) ≡ both (ascii p) (ascii d) → both b (ascii (p ++ d)) ≡ both (both b (ascii p)) (ascii d)
    go true e = e
    go false e = refl

ascii_next : (p d : List ℕ) (c : ℕ) → ascii p ≡ true → 128 ≤ c → ascii (p ++ c ∷ d) ≡ false
unfolding ascii
ascii_next p d c a h = ascii_append p (c ∷ d) ∙ rw (a, le-ltb _ _ h)

ascii_more : (p : List ℕ) (c : ℕ) → ascii p ≡ true → c < 128 → ascii (p ++ (c ∷ [])) ≡ true
unfolding ascii
ascii_more p c a h = ascii_append p (c ∷ []) ∙ rw (a, lt-ltb _ _ h)

-- one more byte in the place of the first zero
stored : (p : List ℕ) (c : ℕ) → length p < 36 → set (p ++ replicate (36 - length p) 0) (length p) c ≡ p ++ (c ∷ []) ++ replicate (36 - length (p ++ (c ∷ []))) 0
stored p c h =
    let e : 36 - length p ≡ suc (35 - length p) = omega arith in
    let f : 36 - length (p ++ (c ∷ [])) ≡ 35 - length p = omega (arith, length-append p (c ∷ [])) in
    rw (e, f, append_assoc) (set-append_seam p 0 (replicate (35 - length p) 0) c)

abbrev Fills : ℕ → List ℕ → List ℕ → Type 0
Fills n d p = length p ≤ n → length p ≤ 36 → ascii p ≡ true → fill n (p ++ replicate (36 - length p) 0) (length p) d ≡ copied n (p ++ d)

fill_one : (n c : ℕ) (d p : List ℕ) → Fills n d (p ++ (c ∷ [])) → ascii p ≡ true → length p < n → length p < 36 → c < 128 → fill n (set (p ++ replicate (36 - length p) 0) (length p) c) (length p + 1) d ≡ copied n (p ++ c ∷ d)
fill_one n c d p rest a x y z =
    let l : length (p ++ (c ∷ [])) ≡ length p + 1 = length-append p (c ∷ []) in
    rw (stored p c y, ← l) (rest (omega arith) (omega arith) (ascii_more p c a z) ∙ ap (copied n) (append_assoc p (c ∷ []) d))

fill_all : (n : ℕ) (d p : List ℕ) → Fills n d p
unfolding fill copied
fill_all n [] p h g a = simp (append-nil, le-leb _ _ h, le-leb _ _ g, a)
fill_all n (c ∷ d) p h g a =
    let m = length-append p (c ∷ d) in
    let b = p ++ replicate (36 - length p) 0 in
    ⊎_elim (λ x.
    ⊎_elim (λ y. ⊎_elim (λ z. room n b (length p) (ok d []) c x y z ∙ fill_one n c d p (fill_all n d (p ++ (c ∷ []))) a x y z) (λ z. other n b (length p) (ok d []) c x y z ∙ sym (no_ascii n (p ++ c ∷ d) (ascii_next p d c a z))) (lt_or_ge c 128)) (λ y. full n b (length p) (ok d []) c x y ∙ sym (over_36 n (p ++ c ∷ d) (omega arith))) (lt_or_ge (length p) 36)) (λ x. long n b (length p) (ok d []) c x ∙ sym (too_long n (p ++ c ∷ d) (omega arith))) (lt_or_ge (length p) n)

pub filled : (n : ℕ) (p : Parsed (List ℕ)) → fill_of n (replicate 36 0) 0 p ≡ copy_of n p
unfolding ascii
filled n (ok d r) = fill_all n d [] (omega arith) (omega arith) refl
filled n none = refl

pub ruleset copy_steps = (one_in, room_36, copy_one, copy_full, copy_other, copy_close, copy_bad, filled)

-- a run of plain characters that a quotation mark follows is copied in one piece
run_ascii : (t : List ℕ) → ascii (take (run t) t) ≡ true
unfolding ascii run
run_ascii [] = refl
run_ascii (b ∷ t) = bool_cases (is_plain b) (yes (run_ascii t)) (λ p. rw p)
  where
    yes : ascii (take (run t) t) ≡ true → is_plain b ≡ true → ascii (take (pick (is_plain b) (suc (run t)) 0) (b ∷ t)) ≡ true
    yes ih p = rw (p, lt-ltb _ _ (plain_ascii b p)) ih

module _ (s : List ℕ) (at k : ℕ) (p : k ≡ at + run (drop at s)) (q : get_or s k 0 ≡ 0x22) (r : k ≤ at + 36) where
  pub copied_plain : (most : ℕ) → k ≤ at + most → record { length = k - at; bytes = take (k - at) (drop at s) ++ drop (k - at) (replicate 36 0); ok = true } ≡ copy_of most (decoded (drop at s))
  unfolding copied
  copied_plain most h =
      let d = take (k - at) (drop at s) in
      let n : k - at ≡ run (drop at s) = omega arith in
      let m : at + (k - at) ≡ k = omega arith in
      let l : length d ≡ k - at = length-take-le (k - at) (drop at s) (omega (arith, length-drop at s, quote_in s at k p q)) in
      let a : ascii d ≡ true = rw n (run_ascii (drop at s)) in
      sym (rw (run_decoded s (k - at) at (sym n) (rw m q), l, le-leb (k - at) most (omega arith), le-leb (k - at) 36 (omega arith), a, drop-replicate))
