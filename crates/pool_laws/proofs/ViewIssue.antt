-- An issue on the view: the loser's oldest leaves its list, the new record comes last in its own.
-- Assumes nothing.
use Rattle.basis.proofs.Std.{ℕ, suc, zero, ◌+◌, ◌-◌, ◌*◌, ◌≤◌, ◌<◌, ◌≡◌, refl, sym, ◌∙◌, ap, subst, List, [], ◌∷◌, ◌++◌, append-nil, Bool, true, false, ◌⊎◌, inl, inr, length, drop, ltb, leb, eqb, arith, eqb-true, eqb-false, ne_eqb, le-leb, lt-leb, pick, both, bit, count, lt_or_ge}
use Rattle.entry.specs.declared.Entry.{Entry}
use Rattle.pool.specs.declared.Place.{Place}
use Rattle.pool.specs.declared.Pool.{Pool}
use Rattle.pool.specs.declared.Wanted.TheVariants.{Older}
use Rattle.pool.specs.declared.Loser.{Loser}
use Rattle.pool.specs.declared.Loser.TheVariants.{Nobody, Owner}
use Rattle.pool.specs.Places.{of, fits}
use Rattle.pool.specs.Shares.{fuller, fullest, loser}
use Rattle.pool.specs.Pool.{held_in, free_in, lost_of, made, issue_of}
use Rattle.pool_laws.specs.View.{insert, insert_if, records_in, records, holds, loser_in, shed, issue_view, losses}
use Rattle.pool_laws.proofs.Counts.{bit_true, bit_false, bit_le, bit_ge, count_le}
use Rattle.pool_laws.proofs.Fullest.{every_place, total_same}
use Rattle.pool_laws.proofs.Chosen.{Eldest, Why, Issued}
use Rattle.pool_laws.proofs.Chosen.Why.{vacant, own, steal}
use Rattle.pool_laws.proofs.Inv.{Inv, of_used, of_link, from_less, numbered_from}
use Rattle.pool_laws.proofs.Issue.{it, after, places_after, lost_after, change, loses, old_below, free_not}
use Rattle.pool_laws.proofs.Insert.{number, insert_last, insert_first}
use Rattle.pool_laws.proofs.Records.{records_count, records_length, records_set}

fullest_same : (g h : ℕ → ℕ) → ((l : ℕ) → g l ≡ h l) → (k : ℕ) → fullest g k ≡ fullest h k
unfolding fullest
fullest_same g h e zero = refl
fullest_same g h e (suc k) = go (fullest g k) (fullest h k) (fullest_same g h e k)
  where
    go : (a b : ℕ) → a ≡ b → fuller g a (suc k) ≡ fuller h b (suc k)
    go a b s = rw (s, e b, e (suc k))

loser_same : (n : ℕ) (g h : ℕ → ℕ) (a b l : ℕ) → ((j : ℕ) → g j ≡ h j) → a ≡ b → loser n g a l ≡ loser n h b l
unfolding loser
loser_same n g h a b l e s = rw (e l, s, fullest_same g h e (n - 1))

-- the loser is the same, by the view
pub loser_view : (n : ℕ) (q : ℕ → ℕ) (p : Pool) → Inv n p q → (l : ℕ) → loser n (held_in p.places) (free_in p.places) l ≡ loser_in n (records p) l
loser_view n q p i l =
    loser_same n (held_in p.places) (holds (records p)) _ _ l (λ j. sym (records_length p.places j))
    (omega (arith, every_place n p.places, i.size, i.owned, total_same (held_in p.places) (holds (records p)) (λ j. sym (records_length p.places j)) n))

tail_eq : (y : Place) (l r t : List Place) → 0 < length r → y ∷ l ≡ r ++ t → l ≡ drop 1 r ++ t
tail_eq y l [] t h e = absurd (omega arith)
tail_eq y l (z ∷ r) t h e = ap (drop 1) e

module _ (n : ℕ) (small : 16 * n ≤ 128) (p : Pool) (q : ℕ → ℕ) (inv : Inv n p q) (e : Entry) (mine : e.link < n) (rises : q e.link ≤ e.sequence) (fits32 : e.sequence < 2147483648) (m : ℕ) where
  abbrev here : Issued n p e
  here = it n small p q inv e mine rises fits32

  abbrev then : List Place
  then = after n small p q inv e mine rises fits32

  abbrev tail : List Place
  tail = pick (eqb e.link m) (made e ∷ []) []

  -- where the new record is m's, m's next number is not above its number
  next_below : of m (made e) ≡ true → q m ≤ e.sequence
  next_below t = omega (arith, ap q (eqb-true e.link m t))

  key : insert_if (of m here.old) here.old (records_in then m) ≡ insert_if (of m (made e)) (made e) (records_in p.places m)
  key =
      subst (λ (x : Place). insert_if (of m x) x (records_in then m) ≡ insert_if (of m (made e)) (made e) (records_in p.places m)) here.stands
      (records_set m (made e) p.places here.at here.inside (λ k. inv.once m k) (λ t. omega (arith, numbered_from m e.sequence (q m) (next_below t) p.places, inv.fresh m)))

  none_later : of m (made e) ≡ true → count (λ (y : Place). leb e.sequence (number y)) (records_in p.places m) ≡ 0
  none_later t =
      omega (
        arith,
        records_count (λ (y : Place). leb e.sequence (number y)) p.places m,
        from_less m (q m) e.sequence (next_below t) p.places,
        inv.fresh m,
      )

  appended : insert_if (of m (made e)) (made e) (records_in p.places m) ≡ records_in p.places m ++ tail
  appended = go (eqb e.link m) refl
    where
      go : (t : Bool) → eqb e.link m ≡ t → insert_if t (made e) (records_in p.places m) ≡ records_in p.places m ++ pick t (made e ∷ []) []
      go true d = insert_last (made e) (records_in p.places m) (none_later d)
      go false d = sym (append-nil (records_in p.places m))

  -- the place was not m's
  not_mine : of m here.old ≡ false → records_in then m ≡ records_in p.places m ++ tail
  not_mine o = subst (λ (t : Bool). insert_if t here.old (records_in then m) ≡ insert_if (of m (made e)) (made e) (records_in p.places m)) o key ∙ appended

  -- it was m's, and m's oldest stood there
  was_mine : Eldest m p.places here.old → 0 < held_in p.places m → records_in then m ≡ drop 1 (records_in p.places m) ++ tail
  was_mine v h =
      let c : count (fits (Older m (number here.old))) then ≡ 0 =
      omega (arith, change n small p q inv e mine rises fits32 (fits (Older m (number here.old))), v.none_older, not_under (of m (made e)) refl) in
      let f : insert here.old (records_in then m) ≡ here.old ∷ records_in then m =
      insert_first here.old (records_in then m) (records_count (λ (y : Place). ltb (number y) (number here.old)) then m ∙ c) in
      let k : insert here.old (records_in then m) ≡ records_in p.places m ++ tail =
      subst (λ (t : Bool). insert_if t here.old (records_in then m) ≡ insert_if (of m (made e)) (made e) (records_in p.places m)) v.mine key ∙ appended in
      tail_eq here.old (records_in then m) (records_in p.places m) tail (omega (arith, records_length p.places m)) (sym f ∙ k)
    where
      not_under : (t : Bool) → of m (made e) ≡ t → bit (both t (ltb e.sequence (number here.old))) ≡ 0
      not_under false d = refl
      not_under true d = bit_ge e.sequence (number here.old) (omega (arith, old_below n small p q inv e mine rises fits32 m v.mine, next_below d))

  -- the place was w's, whose oldest stood there
  by_owner : (w : ℕ) → Eldest w p.places here.old → 0 < held_in p.places w → (t : Bool) → eqb w m ≡ t
      → records_in then m ≡ pick t (drop 1 (records_in p.places m)) (records_in p.places m) ++ tail
  by_owner w v h true d =
      let s : w ≡ m = eqb-true w m d in
      was_mine (subst (λ (j : ℕ). Eldest j p.places here.old) s v) (omega (arith, ap (held_in p.places) s))
  by_owner w v h false d =
      not_mine (rw (of_used w here.old v.mine) (ne_eqb _ m (λ s. eqb-false w m d (sym (of_link w here.old v.mine) ∙ s))))

  by_loser : (who : Loser) → Why n e.link p.places here.old who → records_in then m ≡ shed who m (records_in p.places m) ++ tail
  by_loser Nobody (vacant a b) = not_mine (free_not m here.old b)
  by_loser (Owner w) (own a v) = by_owner w v (omega arith) (eqb w m) refl
  by_loser (Owner w) (steal x a b c g v) = by_owner w v (omega arith) (eqb w m) refl

  same_loser : here.who ≡ loser_in n (records p) e.link
  same_loser = sym here.chosen ∙ loser_view n q p inv e.link

  pub issue_view_lem : records (issue_of n p e) m ≡ issue_view n (records p) e m
  issue_view_lem =
      ap (λ (l : List Place). records_in l m) (places_after n small p q inv e mine rises fits32)
      ∙ by_loser here.who here.why ∙ ap (λ (who : Loser). shed who m (records_in p.places m) ++ tail) same_loser

  loss_of : (w : ℕ) → of w here.old ≡ true → bit (of m here.old) ≡ bit (eqb w m)
  loss_of w o = rw (of_used w here.old o, of_link w here.old o)

  loss_is : (who : Loser) → Why n e.link p.places here.old who → bit (of m here.old) ≡ losses who m
  loss_is Nobody (vacant a b) = bit_false _ (free_not m here.old b)
  loss_is (Owner w) (own a v) = loss_of w v.mine
  loss_is (Owner w) (steal x a b c g v) = loss_of w v.mine

  pub issue_view_lost : lost_of (issue_of n p e) m ≡ lost_of p m + losses (loser_in n (records p) e.link) m
  issue_view_lost =
      omega (
        arith,
        lost_after n small p q inv e mine rises fits32 m,
        loses n small p q inv e mine rises fits32 m,
        loss_is here.who here.why,
        ap (λ (who : Loser). losses who m) same_loser,
      )
