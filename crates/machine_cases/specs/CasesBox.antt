-- Cases of document 02, request 10: two sites, eight owners, one pool. Claims; the proofs are `refl`.
-- Assumes nothing.
use Rattle.std.specs.Prelude.{ℕ, ◌≡◌, true, false, List, [], ◌∷◌, ◌++◌, map, take}
use Rattle.std.proofs.Math.Option.{Option, some, none}
use Rattle.machine.specs.Words.{maybe, up_to}
use Rattle.machine.specs.State.{Pool, shared_pool, own_of, with_beside, Start, Machine}
use Rattle.machine.specs.State.Act.{connect, aggregated_value}
use Rattle.machine.specs.State.Outcome.{refused}
use Rattle.machine.specs.Table.{good_start, first}
use Rattle.machine.specs.Pool.{held_by, issue_all}
use Rattle.machine.specs.Box.{Box, empty_box, site_of, with_pool, Turn, turned_all, given, only}
use Rattle.machine.specs.Box.Turn.{starts, calls}
use Rattle.machine.specs.Example.{noon, at_noon, records, quiet}
use Rattle.machine_cases.specs.Junction.{table, begun}
use Rattle.machine_cases.specs.CasesPool.{sequences, pool_with}

-- ---- the pool as site k has it, with these records of its own and of the other's
abbrev pub shared : ℕ → Pool → Pool → Pool
shared k own other = shared_pool k own.next own.held own.lost (own_of other)

-- what each of the eight holds, what each link of either site lost, its own first
abbrev pub eight : Pool → List ℕ
eight p = map (held_by p) (up_to 8)

abbrev pub losses : Pool → List (List ℕ)
losses p = p.lost ∷ p.beside.lost ∷ []

-- .. after so many records for link l
abbrev pub told : ℕ → ℕ → Pool → List (List ℕ)
told n l p = eight (issue_all (records n l) p) ∷ losses (issue_all (records n l) p)

pub record Owners : Type 0 where
  -- "The least share stays 16 and the most 64, now over eight owners": 64 of owner 0 and 64 of owner 4, and records for owner 5
  pub none_yet : told 0 1 (shared 1 (pool_with 64 0 0 0) (pool_with 64 0 0 0))
      ≡ (64 ∷ 0 ∷ 0 ∷ 0 ∷ 64 ∷ 0 ∷ 0 ∷ 0 ∷ []) ∷ (0 ∷ 0 ∷ 0 ∷ 0 ∷ []) ∷ (0 ∷ 0 ∷ 0 ∷ 0 ∷ []) ∷ []
  pub other_loses : told 1 1 (shared 1 (pool_with 64 0 0 0) (pool_with 64 0 0 0))
      ≡ (63 ∷ 0 ∷ 0 ∷ 0 ∷ 64 ∷ 1 ∷ 0 ∷ 0 ∷ []) ∷ (0 ∷ 0 ∷ 0 ∷ 0 ∷ []) ∷ (1 ∷ 0 ∷ 0 ∷ 0 ∷ []) ∷ []
  pub its_oldest : take 2 (map (λ h. h.sequence) (issue_all (records 1 1) (shared 1 (pool_with 64 0 0 0) (pool_with 64 0 0 0))).beside.held) ≡ 6 ∷ 7 ∷ []
  pub sixteenth : told 16 1 (shared 1 (pool_with 64 0 0 0) (pool_with 64 0 0 0))
      ≡ (56 ∷ 0 ∷ 0 ∷ 0 ∷ 56 ∷ 16 ∷ 0 ∷ 0 ∷ []) ∷ (8 ∷ 0 ∷ 0 ∷ 0 ∷ []) ∷ (8 ∷ 0 ∷ 0 ∷ 0 ∷ []) ∷ []
  pub seventeenth : told 17 1 (shared 1 (pool_with 64 0 0 0) (pool_with 64 0 0 0))
      ≡ (56 ∷ 0 ∷ 0 ∷ 0 ∷ 56 ∷ 16 ∷ 0 ∷ 0 ∷ []) ∷ (8 ∷ 1 ∷ 0 ∷ 0 ∷ []) ∷ (8 ∷ 0 ∷ 0 ∷ 0 ∷ []) ∷ []
  -- .. and of site 0: "ties go to the lowest of the eight", which is its own here
  pub own_loses : told 1 1 (shared 0 (pool_with 64 0 0 0) (pool_with 64 0 0 0))
      ≡ (63 ∷ 1 ∷ 0 ∷ 0 ∷ 64 ∷ 0 ∷ 0 ∷ 0 ∷ []) ∷ (1 ∷ 0 ∷ 0 ∷ 0 ∷ []) ∷ (0 ∷ 0 ∷ 0 ∷ 0 ∷ []) ∷ []
  -- 17 of owner 0, 15 of owner 7, 16 of the others: one for owner 7
  pub exactly_sixteen : told 1 3 (shared 1 (pool_with 16 16 16 15) (pool_with 17 16 16 16))
      ≡ (16 ∷ 16 ∷ 16 ∷ 16 ∷ 16 ∷ 16 ∷ 16 ∷ 16 ∷ []) ∷ (0 ∷ 0 ∷ 0 ∷ 0 ∷ []) ∷ (1 ∷ 0 ∷ 0 ∷ 0 ∷ []) ∷ []
  -- 17 of owners 3 and 6, and for owner 7 one, then another
  pub lower_first : told 1 3 (shared 1 (pool_with 16 16 17 14) (pool_with 16 16 16 17))
      ≡ (16 ∷ 16 ∷ 16 ∷ 16 ∷ 16 ∷ 16 ∷ 17 ∷ 15 ∷ []) ∷ (0 ∷ 0 ∷ 0 ∷ 0 ∷ []) ∷ (0 ∷ 0 ∷ 0 ∷ 1 ∷ []) ∷ []
  pub higher_next : told 2 3 (shared 1 (pool_with 16 16 17 14) (pool_with 16 16 16 17))
      ≡ (16 ∷ 16 ∷ 16 ∷ 16 ∷ 16 ∷ 16 ∷ 16 ∷ 16 ∷ []) ∷ (0 ∷ 0 ∷ 1 ∷ 0 ∷ []) ∷ (0 ∷ 0 ∷ 0 ∷ 1 ∷ []) ∷ []
  -- 16 of each: one for owner 3, one for owner 7
  pub its_own : told 1 3 (shared 0 (pool_with 16 16 16 16) (pool_with 16 16 16 16))
      ≡ (16 ∷ 16 ∷ 16 ∷ 16 ∷ 16 ∷ 16 ∷ 16 ∷ 16 ∷ []) ∷ (0 ∷ 0 ∷ 0 ∷ 1 ∷ []) ∷ (0 ∷ 0 ∷ 0 ∷ 0 ∷ []) ∷ []
  pub last_of_eight : told 1 0 (shared 0 (pool_with 15 16 16 16) (pool_with 16 16 16 17))
      ≡ (16 ∷ 16 ∷ 16 ∷ 16 ∷ 16 ∷ 16 ∷ 16 ∷ 16 ∷ []) ∷ (0 ∷ 0 ∷ 0 ∷ 0 ∷ []) ∷ (0 ∷ 0 ∷ 0 ∷ 1 ∷ []) ∷ []
  -- the 128th place is free, whichever site has the others
  pub last_place : told 1 0 (shared 0 (pool_with 0 0 0 3) (pool_with 60 60 4 0))
      ≡ (1 ∷ 0 ∷ 0 ∷ 3 ∷ 60 ∷ 60 ∷ 4 ∷ 0 ∷ []) ∷ (0 ∷ 0 ∷ 0 ∷ 0 ∷ []) ∷ (0 ∷ 0 ∷ 0 ∷ 0 ∷ []) ∷ []

-- ---- two sites that begin alike; what a box's sites hold and lost
abbrev pub start_at : ℕ → Start
start_at k = record { site = k; table = []; links = 4; primary = some 1; period = 2; first = 5; time = noon }

abbrev pub site : ℕ → Option Machine
site k = some (first table (start_at k))

abbrev pub holdings : Box → List (List (List ℕ))
holdings b = map (λ k. maybe [] (λ m. eight m.pool ∷ losses m.pool) (site_of k b)) (0 ∷ 1 ∷ [])

abbrev pub numbers : Box → List (List ℕ)
numbers b = map (λ k. maybe [] (λ m. sequences m.pool) (site_of k b)) (0 ∷ 1 ∷ [])

abbrev pub value : ℕ → ℕ → Turn
value k v = calls k (at_noon (aggregated_value v))

-- north issues once, south twice
abbrev pub talk : List Turn
talk = starts 0 (site 0) ∷ value 0 1 ∷ starts 1 (site 1) ∷ value 1 1 ∷ value 1 2 ∷ []

abbrev pub crossed : List Turn
crossed = starts 1 (site 1) ∷ value 1 1 ∷ starts 0 (site 0) ∷ value 1 2 ∷ value 0 1 ∷ []

-- north has 64 of its link 0, south of its own
abbrev pub full : Box
full =
    turned_all (starts 0 (some (with_pool (pool_with 64 0 0 0) begun)) ∷ starts 1 (some (with_pool (shared 1 (pool_with 64 0 0 0) begun.pool) begun)) ∷ []) empty_box

pub record Turns : Type 0 where
  pub sites : map (λ k. good_start (start_at k)) (0 ∷ 1 ∷ 2 ∷ []) ≡ true ∷ true ∷ false ∷ []
  -- "each as a site of its own with .. its own .. sequence": what one holds stands beside the other, in whatever order they begin
  pub own_numbers : numbers (turned_all talk empty_box)
      ≡ (5 ∷ 6 ∷ 7 ∷ 8 ∷ []) ∷ (5 ∷ 6 ∷ 7 ∷ 8 ∷ 9 ∷ 10 ∷ 11 ∷ 12 ∷ []) ∷ []
  pub own_shares : holdings (turned_all talk empty_box)
      ≡ ((1 ∷ 1 ∷ 1 ∷ 1 ∷ 2 ∷ 2 ∷ 2 ∷ 2 ∷ []) ∷ (0 ∷ 0 ∷ 0 ∷ 0 ∷ []) ∷ (0 ∷ 0 ∷ 0 ∷ 0 ∷ []) ∷ [])
      ∷ ((1 ∷ 1 ∷ 1 ∷ 1 ∷ 2 ∷ 2 ∷ 2 ∷ 2 ∷ []) ∷ (0 ∷ 0 ∷ 0 ∷ 0 ∷ []) ∷ (0 ∷ 0 ∷ 0 ∷ 0 ∷ []) ∷ []) ∷ []
  pub other_order : turned_all crossed empty_box ≡ turned_all talk empty_box
  -- a call loses a record of the other site: that one finds it gone and counted
  pub lost_there : holdings (turned_all (value 1 1 ∷ []) full)
      ≡ ((62 ∷ 0 ∷ 0 ∷ 0 ∷ 63 ∷ 1 ∷ 1 ∷ 1 ∷ []) ∷ (2 ∷ 0 ∷ 0 ∷ 0 ∷ []) ∷ (2 ∷ 0 ∷ 0 ∷ 0 ∷ []) ∷ [])
      ∷ ((62 ∷ 0 ∷ 0 ∷ 0 ∷ 63 ∷ 1 ∷ 1 ∷ 1 ∷ []) ∷ (2 ∷ 0 ∷ 0 ∷ 0 ∷ []) ∷ (2 ∷ 0 ∷ 0 ∷ 0 ∷ []) ∷ []) ∷ []
  pub lost_numbers : map (take 2) (numbers (turned_all (value 1 1 ∷ []) full)) ≡ (7 ∷ 8 ∷ []) ∷ (7 ∷ 8 ∷ []) ∷ []
  -- a start that is done empties its own share alone, one that is refused nothing
  pub south_anew : holdings (turned_all (value 1 1 ∷ starts 1 (site 1) ∷ []) full)
      ≡ ((62 ∷ 0 ∷ 0 ∷ 0 ∷ 0 ∷ 0 ∷ 0 ∷ 0 ∷ []) ∷ (2 ∷ 0 ∷ 0 ∷ 0 ∷ []) ∷ (0 ∷ 0 ∷ 0 ∷ 0 ∷ []) ∷ [])
      ∷ ((62 ∷ 0 ∷ 0 ∷ 0 ∷ 0 ∷ 0 ∷ 0 ∷ 0 ∷ []) ∷ (0 ∷ 0 ∷ 0 ∷ 0 ∷ []) ∷ (2 ∷ 0 ∷ 0 ∷ 0 ∷ []) ∷ []) ∷ []
  pub north_anew : holdings (turned_all (value 1 1 ∷ starts 0 (site 0) ∷ []) full)
      ≡ ((0 ∷ 0 ∷ 0 ∷ 0 ∷ 63 ∷ 1 ∷ 1 ∷ 1 ∷ []) ∷ (0 ∷ 0 ∷ 0 ∷ 0 ∷ []) ∷ (2 ∷ 0 ∷ 0 ∷ 0 ∷ []) ∷ [])
      ∷ ((0 ∷ 0 ∷ 0 ∷ 0 ∷ 63 ∷ 1 ∷ 1 ∷ 1 ∷ []) ∷ (2 ∷ 0 ∷ 0 ∷ 0 ∷ []) ∷ (0 ∷ 0 ∷ 0 ∷ 0 ∷ []) ∷ []) ∷ []
  pub refused_starts : turned_all (talk ++ (starts 0 none ∷ starts 1 none ∷ starts 2 none ∷ [])) empty_box ≡ turned_all talk empty_box
  -- a site that has not begun, and a third, give nothing and change nothing
  pub not_begun : given 1 (value 1 1 ∷ []) empty_box ∷ given 1 (starts 0 (site 0) ∷ value 1 1 ∷ []) empty_box ∷ given 2 (value 2 1 ∷ []) full ∷ [] ≡ [] ∷ [] ∷ [] ∷ []
  pub no_third : turned_all (value 2 1 ∷ []) full ≡ full
  -- the calls of one site, in their order; and its turns
  pub given_north : given 0 (talk ++ (calls 0 (at_noon (connect 4)) ∷ [])) empty_box ≡ quiet ∷ refused 2 ∷ []
  pub given_south : given 1 (talk ++ (calls 0 (at_noon (connect 4)) ∷ [])) empty_box ≡ quiet ∷ quiet ∷ []
  pub only_south : only 1 talk ≡ starts 1 (site 1) ∷ value 1 1 ∷ value 1 2 ∷ []
