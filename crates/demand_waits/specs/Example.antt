-- Records that wait as long as they can, and shorter, computed.
-- Assumes nothing.
use Rattle.std.specs.Prelude.{ℕ, zero, suc, ◌+◌, ◌≡◌, true, false, List, [], ◌∷◌, ◌++◌, map, eqb}
use Rattle.std.proofs.Math.Option.{some, none}
use Rattle.basis.specs.Lists.{count}
use Rattle.table_whole.specs.Bytes.{table_bytes}
use Rattle.machine.specs.Words.{maybe}
use Rattle.machine.specs.State.{alarm_of, Held, held_as, pool_of, Sent, Start, Machine, machine, life_at, Call}
use Rattle.machine.specs.State.Event.{Issue}
use Rattle.machine.specs.State.Content.{of_alarm, of_aggregated}
use Rattle.machine.specs.State.Sent.{own_watchdog, no_record, the_record}
use Rattle.machine.specs.State.Act.{aggregated_value, pump}
use Rattle.machine.specs.Table.{first}
use Rattle.machine.specs.Box.{Box, box, empty_box, site_of, Turn, turned_all}
use Rattle.machine.specs.Box.Turn.{starts, calls}
use Rattle.machine.specs.Run.{Played}
use Rattle.machine.specs.Example.{table, noon, started, later, at_noon, random, pumped, greeting, up}
use Rattle.demand_held.specs.Held.{newer}
use Rattle.demand_happens.specs.Example.{second_started, inputs, holding}
use Rattle.demand_waits.specs.Waits.{pumps, bound, Waits, Stays}

-- calls of the north boom
abbrev pub north : List Call → List Turn
north cs = map (calls 0) cs

abbrev pub alone : Machine → Box
alone m = box (some m) none

-- what the messages that are awaited on link 0 of the north boom carry, in the order of sending
abbrev pub carrying : Box → List Sent
carrying b = maybe [] (λ m. map (λ a. a.message) (life_at m 0).awaited) (site_of 0 b)

-- so many changed values, each a record for every link
abbrev pub values : ℕ → List Call
values zero = []
values (suc n) = at_noon (aggregated_value (suc n)) ∷ values n

abbrev pub pumped_later : ℕ → Call
pumped_later k = later 60000 (pump 0 (random k) 4096)

-- ---- three records of the primary, which is Up with its pass before it: A is 1, and of the third record K is 2
abbrev pub three_values : List Turn
three_values = starts 0 (some (started 2)) ∷ north (greeting ++ values 3)

abbrev pub held : ℕ → ℕ → Held
held number value = held_as 0 (of_aggregated value noon) number false

abbrev pub held_beside : ℕ → ℕ → Held
held_beside number value = held_as 1 (of_aggregated value noon) number false

abbrev pub third : Held
third = held 4 1

abbrev pub three : Machine
three =
    machine (started 2).setup noon
    (alarm_of false true false Issue noon ∷ []) (none ∷ []) 1 noon []
    up.lives
    (pool_of 6 (held 0 3 ∷ held_beside 1 3 ∷ held 2 2 ∷ held_beside 3 2 ∷ third ∷ held_beside 5 1 ∷ []) (0 ∷ 0 ∷ []))

-- four pumps that count and a due Watchdog, and the fifth
abbrev pub four_pumps : List Turn
four_pumps = north (pumped 3 ∷ pumped 4 ∷ pumped_later 5 ∷ pumped_later 6 ∷ pumped_later 7 ∷ [])

abbrev pub five_pumps : List Turn
five_pumps = four_pumps ++ north (pumped_later 8 ∷ [])

-- ---- two records of a secondary: K is 1
abbrev pub two_values : List Turn
two_values = starts 0 (some second_started) ∷ north (greeting ++ values 2)

abbrev pub second : Held
second = held 2 1

abbrev pub two : Machine
two =
    machine second_started.setup noon second_started.alarms (none ∷ []) 1 noon []
    up.lives
    (pool_of 4 (held 0 2 ∷ held_beside 1 2 ∷ second ∷ held_beside 3 1 ∷ []) (0 ∷ 0 ∷ []))

abbrev pub three_pumps : List Turn
three_pumps = north (pumped 3 ∷ pumped 4 ∷ pumped 5 ∷ [])

-- ---- demand_happens' alarm record: K is 1, and the pass carries it
abbrev pub alarmed : List Turn
alarmed = starts 0 (some (started 2)) ∷ north inputs

abbrev pub two_pumps : List Turn
two_pumps = north (pumped 3 ∷ pumped 4 ∷ [])

-- ---- a record with so many newer ones behind it, on the one link of a site
abbrev pub one_link : Start
one_link = record { site = 0; table = table_bytes 2 table; links = 1; primary = some 0; period = 60; first = 0; time = noon }

abbrev pub crowded : ℕ → List Turn
crowded newer = starts 0 (some (first table one_link)) ∷ north (greeting ++ values (1 + newer))

-- ---- the pool full of the records of two sites: 34 for either link of the north boom, 15 for each of four links of the south one
abbrev pub south_start : Start
south_start = record { site = 1; table = table_bytes 2 table; links = 4; primary = some 0; period = 60; first = 0; time = noon }

abbrev pub shared : List Turn
shared = starts 0 (some (started 2)) ∷ starts 1 (some (first table south_start)) ∷ (north (greeting ++ values 34) ++ map (calls 1) (values 15))

abbrev pub south_value : Turn
south_value = calls 1 (at_noon (aggregated_value 16))

-- how often the north boom holds record 0, and how many newer ones of link 0
abbrev pub holds_first : Box → ℕ
holds_first b = maybe 0 (λ m. count (λ (h : Held). eqb h.sequence 0) m.pool.held) (site_of 0 b)

abbrev pub newer_ones : Box → ℕ
newer_ones b = maybe 0 (λ m. newer 0 0 m.pool.held) (site_of 0 b)

pub record Computed : Type 0 where
  -- sent by the fifth pump that counts and not by the fourth: the bound is reached
  pub three_played : Played three_values
  pub three_held : turned_all three_values empty_box ≡ alone three
  pub three_waits : Waits 0 third three
  pub three_stays : Stays 0 0 (alone three) five_pumps
  pub bound_five : bound three 0 third ≡ 5
  pub four_counted : pumps 0 0 (alone three) four_pumps ≡ 4
  pub not_by_the_fourth : carrying (turned_all four_pumps (alone three)) ≡ no_record ∷ no_record ∷ own_watchdog ∷ the_record 0 ∷ the_record 2 ∷ []
  pub five_counted : pumps 0 0 (alone three) five_pumps ≡ 5
  pub by_the_fifth : carrying (turned_all five_pumps (alone three)) ≡ no_record ∷ no_record ∷ own_watchdog ∷ the_record 0 ∷ the_record 2 ∷ the_record 4 ∷ []
  -- on a secondary by the third
  pub two_played : Played two_values
  pub two_held : turned_all two_values empty_box ≡ alone two
  pub two_waits : Waits 0 second two
  pub bound_three : bound two 0 second ≡ 3
  pub three_counted : pumps 0 0 (alone two) three_pumps ≡ 3
  pub by_the_third : carrying (turned_all three_pumps (alone two)) ≡ no_record ∷ the_record 0 ∷ the_record 2 ∷ []
  -- sooner, where the pass carries it
  pub alarm_played : Played alarmed
  pub alarm_held : turned_all alarmed empty_box ≡ alone holding
  pub bound_four : bound holding 0 (held_as 0 (of_alarm 0 (alarm_of true false false Issue noon)) 2 false) ≡ 4
  pub by_the_second : carrying (turned_all two_pumps (alone holding)) ≡ no_record ∷ the_record 2 ∷ []
  -- 64 newer ones push it out, 63 do not
  pub crowded_played : Played (crowded 64)
  pub kept_by_63 : holds_first (turned_all (crowded 63) empty_box) ≡ 1
  pub lost_by_64 : holds_first (turned_all (crowded 64) empty_box) ≡ 0
  -- and a call of the other site does
  pub shared_played : Played (shared ++ (south_value ∷ []))
  pub kept_beside : holds_first (turned_all shared empty_box) ≡ 1
  pub lost_beside : holds_first (turned_all (shared ++ (south_value ∷ [])) empty_box) ≡ 0
  pub newer_ones_lem : newer_ones (turned_all (shared ++ (south_value ∷ [])) empty_box) ≡ 32
