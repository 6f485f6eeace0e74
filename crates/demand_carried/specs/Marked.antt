-- "then the oldest held record not sent"; "Closing (also disconnect) leaves .. no record of it marked sent".
-- Assumes nothing.
use Rattle.std.specs.Prelude.{ℕ, ◌≡◌, true, List}
use Rattle.basis.specs.Lists.{Among}
use Rattle.machine.specs.State.{Held, Awaited, Start, Machine, life_at}
use Rattle.machine.specs.State.Sent.{the_record}
use Rattle.machine.specs.Run.{Past, Run}

-- one of the awaited identities is that of a message which carried record n
pub data Awaits (n : ℕ) (ids : List Awaited) : Type 0 where
  awaits : {a : Awaited} → Among a ids → a.message ≡ the_record n → Awaits n ids

pub record DemandMarked : Type 0 where
  -- a held record marked sent has an awaited identity on its link that carries it: none waits for an answer that cannot come
  pub marked_is_awaited : (s : Start) (h : List Past) (m : Machine) → Run s h m
      → (x : Held) → Among x m.pool.held → x.sent ≡ true → Awaits x.sequence (life_at m x.link).awaited
  -- and a held record that a link awaits is that link's and marked sent: none goes out twice in a life
  pub awaited_is_marked : (s : Start) (h : List Past) (m : Machine) → Run s h m
      → (l : ℕ) (x : Held) → Among x m.pool.held → Awaits x.sequence (life_at m l).awaited → (l ≡ x.link) × (x.sent ≡ true)
