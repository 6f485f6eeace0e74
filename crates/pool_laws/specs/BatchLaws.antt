-- What holds of every list of records that is issued in one call. Statements only: their proof is `kept`.
-- Assumes nothing.
use Rattle.std.specs.Prelude.{ℕ, ◌+◌, ◌≤◌, ◌<◌, ◌≡◌, Bool, true, false, List, [], ◌∷◌, ◌++◌, ltb, length}
use Rattle.basis.specs.Pick.{pick, both}
use Rattle.entry.specs.declared.Entry.{Entry}
use Rattle.pool.specs.declared.Place.{Place}
use Rattle.pool.specs.declared.Pool.{Pool}
use Rattle.pool.specs.Pool.{lost_of}
use Rattle.pool_laws.specs.Acts.{Act, acts, Rising}
use Rattle.pool_laws.specs.Acts.Act.{Issue}
use Rattle.pool_laws.specs.Promises.{Reached}
use Rattle.pool_laws.specs.Crowded.{Crowded}
use Rattle.pool_laws.specs.View.{records, loser_in, issue_view, losses}
use Rattle.pool_laws.specs.declared.Batch.{Batch}
use Rattle.pool_laws.specs.Batch.{renumbered, added_all, issued_all}

-- the records under the numbers q, q + 1, ..
abbrev pub numbered : ℕ → List Entry → List Entry
numbered q [] = []
numbered q (e ∷ es) = renumbered e q ∷ numbered (q + 1) es

-- issuing them, as acts of the pool
abbrev pub issues : List Entry → List Act
issues [] = []
issues (e ∷ es) = Issue e ∷ issues es

-- every record is for one of the n owners, and for one of the site's
abbrev pub Owned : ℕ → (ℕ → Bool) → List Entry → Type 0
Owned n own [] = Unit {0}
Owned n own (e ∷ es) = (e.link < n) × ((own e.link ≡ true) × Owned n own es)

-- the owners of one site have the next number k together; of the others q says it
abbrev pub together : (ℕ → Bool) → ℕ → (ℕ → ℕ) → ℕ → ℕ
together own k q l = pick (own l) k (q l)

-- each owner's records after all the issues, and how many of them owner m loses
abbrev pub view_all : ℕ → (ℕ → List Place) → List Entry → ℕ → List Place
view_all n v [] = v
view_all n v (e ∷ es) = view_all n (issue_view n v e) es

abbrev pub losses_all : ℕ → (ℕ → List Place) → List Entry → ℕ → ℕ
losses_all n v [] m = 0
losses_all n v (e ∷ es) m = losses (loser_in n v e.link) m + losses_all n (issue_view n v e) es m

-- the numbers q, q + 1, .. of the list go up to 2147483647
abbrev pub Lasting : ℕ → List Entry → Type 0
Lasting q es = q + length es ≤ 2147483648

pub record Laws (n : ℕ) : Type 0 where
  -- two lists, one behind the other
  pub append : (b : Batch) (xs ys : List Entry) → added_all n b (xs ++ ys) ≡ added_all n (added_all n b xs) ys
  -- number 10: there is a record to issue, and the last one's number is past 2147483647
  pub spent : (p : Pool) (q : ℕ) (es : List Entry) → (issued_all n p q es).spent ≡ both (ltb 0 (length es)) (ltb 2147483648 (q + length es))
  -- one number is taken for each record
  pub next : (p : Pool) (q : ℕ) (es : List Entry) → Lasting q es → (issued_all n p q es).next ≡ q + length es
  -- the records are issued under the numbers q, q + 1, ..
  pub pool : (p : Pool) (q : ℕ) (es : List Entry) → Lasting q es → (issued_all n p q es).pool ≡ acts n p (issues (numbered q es))
  -- these numbers rise, so what holds of every list of acts holds of them
  pub rising : (own : ℕ → Bool) (r : ℕ → ℕ) (q : ℕ) (es : List Entry) → Owned n own es → Lasting q es → Rising n (together own q r) (issues (numbered q es))
  -- from a pool that the sites reach they reach another
  pub reached : (own : ℕ → Bool) (r : ℕ → ℕ) (p : Pool) (q : ℕ) → Reached n p (together own q r) → (es : List Entry) → Owned n own es → Lasting q es
      → Reached n (issued_all n p q es).pool (together own (q + length es) r)
  -- before no record of the list is the pool crowded for its owner
  pub uncrowded : (own : ℕ → Bool) (r : ℕ → ℕ) (p : Pool) (q : ℕ) → Reached n p (together own q r) → (es : List Entry) → Owned n own es → Lasting q es
      → (xs : List Entry) (e : Entry) (ys : List Entry) → es ≡ xs ++ e ∷ ys → Crowded n (issued_all n p q xs).pool e.link → ⊥
  -- each owner's records, and what each loses, are functions of the view
  pub view : (own : ℕ → Bool) (r : ℕ → ℕ) (p : Pool) (q : ℕ) → Reached n p (together own q r) → (es : List Entry) → Owned n own es → Lasting q es → (m : ℕ)
      → records (issued_all n p q es).pool m ≡ view_all n (records p) (numbered q es) m
  pub lost : (own : ℕ → Bool) (r : ℕ → ℕ) (p : Pool) (q : ℕ) → Reached n p (together own q r) → (es : List Entry) → Owned n own es → Lasting q es → (m : ℕ)
      → lost_of (issued_all n p q es).pool m ≡ lost_of p m + losses_all n (records p) (numbered q es) m
