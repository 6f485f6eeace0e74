-- What stands above the pool cites these laws alone: every act's effect on the view and on the lost counts is a function of the view,
-- and what is read from the pool is read from the view. Statements only: their proof is `viewed`.
-- Assumes nothing.
use Rattle.std.specs.Prelude.{ℕ, ◌+◌, ◌≤◌, ◌<◌, ◌≡◌, List, [], ◌∷◌, map, Bool, ◌⊎◌, length, eqb}
use Rattle.basis.specs.Pick.{pick, both}
use Rattle.basis.specs.Lists.{count}
use Rattle.entry.specs.declared.Entry.{Entry}
use Rattle.pool.specs.declared.Place.{Place}
use Rattle.pool.specs.declared.Pool.{Pool}
use Rattle.pool.specs.Places.{of}
use Rattle.pool.specs.Pool.{empty_of, held_of, lost_of, issue_of, settle_of, mark_of, unmark_of, clear_of, oldest_unsent, newest_alarm, ranked_of}
use Rattle.pool_laws.specs.Acts.{May}
use Rattle.pool_laws.specs.Acts.Act.{Issue}
use Rattle.pool_laws.specs.Promises.{Reached}
use Rattle.pool_laws.specs.View.{records, total, holds, loser_in, issue_view, losses, without, sent_if, unsent, first_where, last_where, nth, not_sent, of_alarm}

-- records of owner m, each sent or not, their numbers rising from k and all below q
pub data InOrder (m q : ℕ) : ℕ → List Place → Type 0 where
  end : {k : ℕ} → InOrder m q k []
  next : {k : ℕ} {x : Place} {l : List Place} → x.entry.link ≡ m → (x.mark ≡ 1) ⊎ (x.mark ≡ 2) → k ≤ x.entry.sequence → x.entry.sequence < q
      → InOrder m q (x.entry.sequence + 1) l → InOrder m q k (x ∷ l)

pub record Views (n : ℕ) : Type 0 where
  -- the empty pool
  pub start : (m : ℕ) → records (empty_of n) m ≡ []
  pub start_lost : (m : ℕ) → lost_of (empty_of n) m ≡ 0
  -- how many are held
  pub held : (p : Pool) (m : ℕ) → held_of p m ≡ length (records p m)
  -- together at most 128; in the order of their numbers
  pub room : (p : Pool) (q : ℕ → ℕ) → Reached n p q → total (holds (records p)) n ≤ 128
  pub order : (p : Pool) (q : ℕ → ℕ) → Reached n p q → (m : ℕ) → InOrder m (q m) 0 (records p m)
  -- a count over an owner's places is a count over its records
  pub counted : (p : Pool) (m : ℕ) (g : Place → Bool) → count (λ (x : Place). both (of m x) (g x)) p.places ≡ count g (records p m)
  -- an issue
  pub issue : (p : Pool) (q : ℕ → ℕ) → Reached n p q → (e : Entry) → May n q (Issue e) → (m : ℕ) → records (issue_of n p e) m ≡ issue_view n (records p) e m
  pub issue_lost : (p : Pool) (q : ℕ → ℕ) → Reached n p q → (e : Entry) → May n q (Issue e) → (m : ℕ)
      → lost_of (issue_of n p e) m ≡ lost_of p m + losses (loser_in n (records p) e.link) m
  -- a settle
  pub settle : (p : Pool) (q : ℕ → ℕ) → Reached n p q → (l k m : ℕ) → records (settle_of p l k) m ≡ pick (eqb l m) (without k (records p m)) (records p m)
  pub settle_lost : (p : Pool) (l k m : ℕ) → lost_of (settle_of p l k) m ≡ lost_of p m
  -- a mark
  pub mark : (p : Pool) (q : ℕ → ℕ) → Reached n p q → (l k m : ℕ) → records (mark_of p l k) m ≡ pick (eqb l m) (map (sent_if k) (records p m)) (records p m)
  pub mark_lost : (p : Pool) (l k m : ℕ) → lost_of (mark_of p l k) m ≡ lost_of p m
  -- an unmark
  pub unmark : (p : Pool) (l m : ℕ) → records (unmark_of p l) m ≡ pick (eqb l m) (map unsent (records p m)) (records p m)
  pub unmark_lost : (p : Pool) (l m : ℕ) → lost_of (unmark_of p l) m ≡ lost_of p m
  -- an owner begins anew
  pub clear : (p : Pool) (o m : ℕ) → records (clear_of p o) m ≡ pick (eqb o m) [] (records p m)
  pub clear_lost : (p : Pool) (o m : ℕ) → lost_of (clear_of p o) m ≡ pick (eqb o m) 0 (lost_of p m)
  -- what is read
  pub oldest_unsent_lem : (p : Pool) (m : ℕ) → oldest_unsent p m ≡ first_where not_sent (records p m)
  pub newest_alarm_lem : (p : Pool) (m k : ℕ) → newest_alarm p m k ≡ last_where (of_alarm k) (records p m)
  pub ranked : (p : Pool) (q : ℕ → ℕ) → Reached n p q → (m r : ℕ) → ranked_of p m r ≡ nth r (records p m)
