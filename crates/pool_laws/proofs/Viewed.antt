-- The laws of the view hold.
-- Assumes nothing.
use Rattle.basis.proofs.Std.{ℕ, suc, zero, ◌+◌, ◌*◌, ◌≤◌, ◌≡◌, refl, sym, ◌∙◌, ap, List, [], ◌∷◌, Bool, replicate, eqb, arith, count, both_first}
use Rattle.pool.specs.declared.Place.{Place}
use Rattle.pool.specs.declared.Pool.{Pool}
use Rattle.pool.specs.declared.Wanted.TheVariants.{Unsent, Older, Alarm}
use Rattle.pool.specs.Places.{no_place, of, fits}
use Rattle.pool.specs.Pool.{empty_of, held_in, settle_of, mark_of, unmark_of, oldest_unsent, newest_alarm, rank_is, ranked_of}
use Rattle.pool_laws.specs.View.{records_in, records, total, holds, first_where, last_where, nth, not_sent, of_alarm}
use Rattle.pool_laws.specs.Views.{Views}
use Rattle.pool_laws.proofs.Fullest.{every_place, total_same}
use Rattle.pool_laws.proofs.Inv.{Inv, starts}
use Rattle.pool_laws.proofs.Other.{lost_same, settle_less, mark_alike, unmark_alike}
use Rattle.pool_laws.proofs.Clear.{clear_view, clear_lost}
use Rattle.pool_laws.proofs.Insert.{number, under}
use Rattle.pool_laws.proofs.Records.{records_length, records_count}
use Rattle.pool_laws.proofs.ViewIssue.{issue_view_lem, issue_view_lost}
use Rattle.pool_laws.proofs.ViewOther.{settle_view, mark_view, unmark_view}
use Rattle.pool_laws.proofs.ViewAsk.{oldest_view, newest_view}
use Rattle.pool_laws.proofs.Order.{records_mine, first_mine, last_mine, records_order, rank_nth}
use Rattle.pool_laws.proofs.Kept.{reached_keeps}

none_held : (k m : ℕ) → records_in (replicate k no_place) m ≡ []
unfolding records_in
none_held zero m = refl
none_held (suc k) m = none_held k m

first_same : (f g : Place → Bool) → ((x : Place) → f x ≡ g x) → (l : List Place) → first_where f l ≡ first_where g l
unfolding first_where
first_same f g e [] = refl
first_same f g e (x ∷ l) = rw (e x, first_same f g e l)

asks_unsent : (p : Pool) (m : ℕ) → oldest_unsent p m ≡ first_where not_sent (records p m)
asks_unsent p m =
    oldest_view (fits (Unsent m)) m (λ x t. both_first (of m x) (not_sent x) t) 0 p.places
    ∙ first_mine m not_sent (records p m) (records_mine p.places m)

asks_alarm : (p : Pool) (m k : ℕ) → newest_alarm p m k ≡ last_where (of_alarm k) (records p m)
asks_alarm p m k =
    newest_view (fits (Alarm m k)) m (λ x t. both_first (of m x) (of_alarm k x) t) 0 p.places
    ∙ last_mine m (of_alarm k) (records p m) (records_mine p.places m)

asks_rank : (n : ℕ) (q : ℕ → ℕ) (p : Pool) → Inv n p q → (m r : ℕ) → ranked_of p m r ≡ nth r (records p m)
asks_rank n q p i m r =
    oldest_view (rank_is p.places m r) m (λ x t. both_first (of m x) _ t) 0 p.places
    ∙ first_mine m (λ (x : Place). eqb (count (fits (Older m (number x))) p.places) r) (records p m) (records_mine p.places m)
    ∙ first_same _ (λ (x : Place). eqb (count (fits (Older m (number x))) p.places) (0 + r)) (λ x. ap (eqb (count (fits (Older m (number x))) p.places)) zero_first) (records p m)
    ∙ rank_nth m (q m) 0 0 r (λ (j : ℕ). count (fits (Older m j)) p.places) (records p m) (records_order n q p i m)
    (λ j h. omega (arith, records_count (under j) p.places m))
  where
    zero_first : r ≡ 0 + r
    zero_first = omega arith

room_view : (n : ℕ) (q : ℕ → ℕ) (p : Pool) → Inv n p q → total (holds (records p)) n ≤ 128
room_view n q p i =
    omega (arith, every_place n p.places, i.size, total_same (held_in p.places) (holds (records p)) (λ j. sym (records_length p.places j)) n)

module _ (n : ℕ) (small : 16 * n ≤ 128) where
  pub viewed : Views n
  unfolding empty_of
  viewed =
      record {
        start = λ m. none_held 128 m;
        start_lost = λ m. omega (arith, (starts n (λ l. 0) (λ l. omega arith)).lost m);
        held = λ p m. sym (records_length p.places m);
        room = λ p q r. room_view n q p (reached_keeps n small p q r);
        counted = λ p m g. sym (records_count g p.places m);
        order = λ p q r m. records_order n q p (reached_keeps n small p q r) m;
        issue = λ p q r e y m. issue_view_lem n small p q (reached_keeps n small p q r) e y.0 y.1.0 y.1.1 m;
        issue_lost = λ p q r e y m. issue_view_lost n small p q (reached_keeps n small p q r) e y.0 y.1.0 y.1.1 m;
        settle = λ p q r l k m. settle_view p l k (λ a b. (reached_keeps n small p q r).once a b) m;
        settle_lost = λ p l k m. lost_same p (settle_of p l k) (settle_less p l k).lost m;
        mark = λ p q r l k m. mark_view p l k m ((reached_keeps n small p q r).once l k);
        mark_lost = λ p l k m. lost_same p (mark_of p l k) (mark_alike p l k).lost m;
        unmark = λ p l m. unmark_view p l m;
        unmark_lost = λ p l m. lost_same p (unmark_of p l) (unmark_alike p l).lost m;
        clear = clear_view;
        clear_lost = clear_lost;
        oldest_unsent_lem = λ p m. asks_unsent p m;
        newest_alarm_lem = λ p m k. asks_alarm p m k;
        ranked = λ p q r m k. asks_rank n q p (reached_keeps n small p q r) m k;
      }
