-- What holds of the pool after every list of acts from the empty pool in which each owner's numbers rise, owners beginning anew in between. Statements only: their proof is `kept`.
-- Assumes nothing.
use Rattle.std.specs.Prelude.{ℕ, ◌+◌, ◌≤◌, ◌≡◌, List, ◌⊎◌, length, ltb}
use Rattle.basis.specs.Lists.{count, Among}
use Rattle.entry.specs.declared.Entry.{Entry}
use Rattle.pool.specs.declared.Place.{Place}
use Rattle.pool.specs.declared.Pool.{Pool}
use Rattle.pool.specs.declared.Wanted.TheVariants.{Older, Numbered}
use Rattle.pool.specs.Places.{of, fits}
use Rattle.pool.specs.Pool.{empty_of, lost_of, clear_of}
use Rattle.pool_laws.specs.Acts.{Act, act, acts, May, renewed, next, nexts, Rising, newer_than}
use Rattle.pool_laws.specs.Acts.Act.{Issue, Settle, Mark, Unmark}
use Rattle.pool_laws.specs.Leaves.{Held, left_over, SettlesFirst}

-- the pool p is what some acts leave of the empty pool of n owners, each owner's numbers rising, and q says each one's next number;
-- numbers may be left out, and an owner may begin anew
pub data Reached (n : ℕ) : Pool → (ℕ → ℕ) → Type 0 where
  empty : {q : ℕ → ℕ} → ((l : ℕ) → q l ≤ 2147483648) → Reached n (empty_of n) q
  after : {p : Pool} {q : ℕ → ℕ} (a : Act) → Reached n p q → May n q a → Reached n (act n p a) (next q a)
  later : {p : Pool} {q : ℕ → ℕ} (r : ℕ → ℕ) → Reached n p q → ((l : ℕ) → q l ≤ r l) → ((l : ℕ) → r l ≤ 2147483648) → Reached n p r
  anew : {p : Pool} {q : ℕ → ℕ} (o first : ℕ) → Reached n p q → first ≤ 2147483648 → Reached n (clear_of p o) (renewed q o first)

-- a record of owner m numbered k was m's oldest, and after it 16 newer ones of m are held
pub record Superseded (p r : Pool) (m k : ℕ) : Type 0 where
  pub oldest : count (fits (Older m k)) p.places ≡ 0
  pub newer : 16 ≤ count (newer_than m k) r.places

pub record Promises (n : ℕ) : Type 0 where
  -- every list of acts reaches a pool
  pub every : (p : Pool) (q : ℕ → ℕ) → Reached n p q → (xs : List Act) → Rising n q xs → Reached n (acts n p xs) (nexts q xs)
  -- there are 128 places; each is free or holds a record of one of the n owners, sent or not
  pub places : (p : Pool) (q : ℕ → ℕ) → Reached n p q → length p.places ≡ 128
  pub owners : (p : Pool) (q : ℕ → ℕ) → Reached n p q → (l : ℕ) → n ≤ l → count (of l) p.places ≡ 0
  pub marks : (p : Pool) (q : ℕ → ℕ) → Reached n p q → count (λ (x : Place). ltb 2 x.mark) p.places ≡ 0
  -- none holds more than 64
  pub most : (p : Pool) (q : ℕ → ℕ) → Reached n p q → (l : ℕ) → count (of l) p.places ≤ 64
  -- no record of an owner stands at two places, and all its numbers are below its next
  pub once : (p : Pool) (q : ℕ → ℕ) → Reached n p q → (l k : ℕ) → count (fits (Numbered l k)) p.places ≤ 1
  pub rises : (p : Pool) (q : ℕ → ℕ) → Reached n p q → (l k : ℕ) → q l ≤ k → count (fits (Numbered l k)) p.places ≡ 0
  -- what is issued is held
  pub issued : (p : Pool) (q : ℕ → ℕ) → Reached n p q → (e : Entry) → May n q (Issue e) → Held (act n p (Issue e)) e.link e.sequence
  -- what an issue makes leave was its owner's oldest, and 16 newer ones are held
  pub leaves : (p : Pool) (q : ℕ → ℕ) → Reached n p q → (e : Entry) → May n q (Issue e) → (m k : ℕ) → Held p m k
      → Held (act n p (Issue e)) m k ⊎ Superseded p (act n p (Issue e)) m k
  -- nothing else leaves but by its settle
  pub settles : (p : Pool) (q : ℕ → ℕ) → Reached n p q → (l j m k : ℕ) → Held p m k → Held (act n p (Settle l j)) m k ⊎ ((m ≡ l) × (k ≡ j))
  pub marking : (p : Pool) (q : ℕ → ℕ) → Reached n p q → (l j m k : ℕ) → Held p m k → Held (act n p (Mark l j)) m k
  pub unmarking : (p : Pool) (q : ℕ → ℕ) → Reached n p q → (l m k : ℕ) → Held p m k → Held (act n p (Unmark l)) m k
  -- a settled record is held no more
  pub settled : (p : Pool) (q : ℕ → ℕ) → Reached n p q → (l k : ℕ) → count (fits (Numbered l k)) (act n p (Settle l k)).places ≡ 0
  -- after a whole list of acts in which no settle follows an issue: a record held before is held, or settled, or 16 newer ones are held
  pub whole : (p : Pool) (q : ℕ → ℕ) → Reached n p q → (xs : List Act) → Rising n q xs → SettlesFirst xs → (m k : ℕ) → Held p m k
      → Held (acts n p xs) m k ⊎ (Among (Settle m k) xs ⊎ (16 ≤ count (newer_than m k) (acts n p xs).places))
  -- and one issued by the list is held, or 16 newer ones are
  pub whole_new : (p : Pool) (q : ℕ → ℕ) → Reached n p q → (xs : List Act) → Rising n q xs → SettlesFirst xs → (e : Entry) → Among (Issue e) xs
      → Held (acts n p xs) e.link e.sequence ⊎ (16 ≤ count (newer_than e.link e.sequence) (acts n p xs).places)
  -- a lost count grows by exactly the number of the owner's records that left without a settle; it is 0 where the owner begins
  pub lost : (p : Pool) (q : ℕ → ℕ) → Reached n p q → (xs : List Act) → Rising n q xs → (m : ℕ) → lost_of (acts n p xs) m ≡ lost_of p m + left_over n p xs m
  pub lost_first : (m : ℕ) → lost_of (empty_of n) m ≡ 0
  pub lost_anew : (p : Pool) (o : ℕ) → lost_of (clear_of p o) o ≡ 0
  -- lost and held together were issued: as many as numbers, at most
  pub lost_most : (p : Pool) (q : ℕ → ℕ) → Reached n p q → (l : ℕ) → lost_of p l + count (of l) p.places ≤ q l
  -- an owner that begins anew holds nothing, and every other one what it held
  pub clears : (p : Pool) (o : ℕ) → count (of o) (clear_of p o).places ≡ 0
  pub clearing : (p : Pool) (o m k : ℕ) → (m ≡ o → ⊥) → Held p m k → Held (clear_of p o) m k
