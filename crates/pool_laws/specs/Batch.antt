-- Several records issued in one call: a list of them, the first first, each under its site's next sequence number. For n owners; the code has eight.
-- Assumes nothing.
use Rattle.std.specs.Prelude.{ℕ, ◌%◌, Bool, true, false, List, [], ◌∷◌, ltb}
use Rattle.basis.specs.Pick.{pick}
use Rattle.entry.specs.declared.Entry.{Entry}
use Rattle.pool.specs.declared.Pool.{Pool}
use Rattle.pool.specs.Pool.{issue_of, more_of}
use Rattle.pool_laws.specs.declared.Batch.{Batch}

abbrev pub either : Bool → Bool → Bool
either true b = true
either false b = b

-- a record under another number
abbrev pub renumbered : Entry → ℕ → Entry
renumbered e q = record { time = e.time; value = e.value; sequence = q; link = e.link; kind = e.kind; item = e.item; flags = e.flags }

-- a record's number has 31 bits; a batch that takes a higher one is spent, and a call refuses it
abbrev pub under : Entry → ℕ → Entry
under e q = renumbered e (q % 2147483648)

-- nothing issued yet; q is the next number
abbrev pub beginning : Pool → ℕ → Batch
beginning p q = record { pool = p; next = q; spent = false }

-- one record more; number 10 where it takes a number past 2147483647
unfoldable pub added : ℕ → Batch → Entry → Batch
added n b e = record {
  pool = issue_of n b.pool (under e b.next);
  next = more_of b.next;
  spent = either b.spent (ltb 2147483647 b.next);
}

abbrev pub added_all : ℕ → Batch → List Entry → Batch
added_all n b [] = b
added_all n b (e ∷ es) = added_all n (added n b e) es

-- a list of records is issued from a pool, q being the next number
abbrev pub issued_all : ℕ → Pool → ℕ → List Entry → Batch
issued_all n p q es = added_all n (beginning p q) es
