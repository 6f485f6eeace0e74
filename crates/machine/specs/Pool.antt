-- Document 01, "The pool".
-- Assumes nothing.
use Rattle.std.specs.Prelude.{ℕ, zero, suc, ◌+◌, ◌*◌, ◌/◌, ◌%◌, Bool, true, false, not, List, [], ◌∷◌, ◌++◌, eqb, ltb, leb, length}
use Rattle.std.proofs.Math.Option.{Option, some, none}
use Rattle.basis.specs.Lists.{count}
use Rattle.machine.specs.Words.{if'◌then◌else◌, ◌and◌, keep, but_first, changed}
use Rattle.machine.specs.State.{Issued, Held, held_as, Share, share_of, Pool, shared_pool, own_of, with_own, with_beside}

abbrev pub is_for : ℕ → Held → Bool
is_for l h = eqb h.link l

abbrev pub holds : Pool → ℕ → ℕ
holds p l = count (is_for l) p.held

-- "128 records; freed places are used again.": of both sites together
abbrev pub is_full : Pool → Bool
is_full p = leb 128 (length p.held + length p.beside.held)

-- request 10, "eight owners": owner 0 to 7 is link l of a site, "first bit the site"
abbrev pub owner_of : ℕ → ℕ → ℕ
owner_of site l = 4 * site + l

abbrev pub is_own : Pool → ℕ → Bool
is_own p o = eqb (o / 4) p.site

abbrev pub held_by : Pool → ℕ → ℕ
held_by p o = count (is_for (o % 4)) (if' is_own p o then p.held else p.beside.held)

-- "the link holding most", "ties go to the lowest of the eight": of the owners below a number
abbrev pub fullest_below : ℕ → Pool → ℕ
fullest_below zero p = 0
fullest_below (suc o) p = if' ltb (held_by p (fullest_below o p)) (held_by p o) then o else fullest_below o p

abbrev pub fullest : Pool → ℕ
fullest p = fullest_below 8 p

-- the oldest of link l is lost: "Lost counts are kept per link, from start."
abbrev pub without : ℕ → Share → Share
without l s = share_of (but_first (is_for l) s.held) (changed l suc s.lost)

unfoldable pub lose : ℕ → Pool → Pool
lose l p = with_own (without l (own_of p)) p

-- the oldest of an owner, this site's or the other's
unfoldable pub lose_of : ℕ → Pool → Pool
lose_of o p = if' is_own p o then lose (o % 4) p else with_beside (without (o % 4) p.beside) p

-- "if S holds 64, its oldest is lost; else a free place is taken; else, S below 16, the oldest of the link holding most is lost
-- (ties: lowest link); else the oldest of S is lost"
unfoldable pub make_room : ℕ → Pool → Pool
make_room s p =
    if' leb 64 (holds p s) then lose s p
    else if' not (is_full p) then p
    else if' ltb (holds p s) 16 then lose_of (fullest p) p
    else lose s p

-- "Issuing for link S, under the site's next sequence number"
abbrev pub added : Issued → Pool → Pool
added i p = shared_pool p.site (suc p.next) (p.held ++ (held_as i.link i.content p.next false ∷ [])) p.lost p.beside

unfoldable pub issue : Issued → Pool → Pool
issue i p = added i (make_room i.link p)

abbrev pub issue_all : List Issued → Pool → Pool
issue_all [] p = p
issue_all (i ∷ rest) p = issue_all rest (issue i p)

-- "Either answer settles a record." "A late answer for a lost record removes the awaited identity only."
abbrev pub settled : ℕ → ℕ → List Held → List Held
settled l n hs = keep (λ h. not (is_for l h and eqb h.sequence n)) hs

-- the record that a message carries is sent in this life
abbrev pub marked : ℕ → Held → Held
marked n h = held_as h.link h.content h.sequence (if' eqb h.sequence n then true else h.sent)
