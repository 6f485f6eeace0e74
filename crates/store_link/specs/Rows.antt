-- What the words from a place on stand for: a slot, what is awaited, a link. Every content stands for something.
-- Assumes nothing.
use Rattle.std.specs.Prelude.{ℕ, ◌+◌, ◌*◌, ◌<◌, ◌≡◌, Bool, false, List, [], ◌∷◌, ◌++◌, eqb}
use Rattle.basis.specs.Pick.{pick, both, bit}
use Rattle.identity.specs.declared.Identity.{Identity}
use Rattle.awaited.specs.declared.Slot.{Slot}
use Rattle.awaited.specs.declared.Awaited.{Awaited}
use Rattle.awaited.specs.Slot.{is_free}
use Rattle.link.specs.declared.Link.{Link}
use Rattle.store_words.specs.Words.{word, flag, list_of, Stored, Put}
use Rattle.store_words.specs.Narrow.{upper, lower, identity_from}

unfoldable pub slot_from : ℕ → ℕ → ℕ → ℕ → Slot
slot_from a b c d = record { time = a; sequence = upper b; purpose = lower b; id = identity_from c d }

-- a slot whose identity stands elsewhere
abbrev pub slot_with : List ℕ → ℕ → Identity → Slot
slot_with ws i id = record { time = word ws i; sequence = upper (word ws (i + 1)); purpose = lower (word ws (i + 1)); id = id }

-- eight bytes from a place on, and the identity of sixteen
abbrev pub eight_in : List ℕ → ℕ → List ℕ
eight_in bs i = word bs i ∷ word bs (i + 1) ∷ word bs (i + 2) ∷ word bs (i + 3) ∷ word bs (i + 4) ∷ word bs (i + 5) ∷ word bs (i + 6) ∷ word bs (i + 7) ∷ []

abbrev pub id_in : List ℕ → ℕ → Identity
id_in bs i = record { bytes = eight_in bs i ++ eight_in bs (i + 8) }

abbrev pub slot_in : List ℕ → ℕ → Slot
slot_in ws i = slot_from (word ws i) (word ws (i + 1)) (word ws (i + 2)) (word ws (i + 3))

-- it is taken, and its identity is in these two words
abbrev pub answers_to : List ℕ → ℕ → ℕ → ℕ → Bool
answers_to ws i a b = pick (is_free (slot_in ws i)) false (both (eqb (word ws (i + 2)) a) (eqb (word ws (i + 3)) b))

unfoldable pub awaited_in : List ℕ → ℕ → Awaited
awaited_in ws i = record { slots = list_of (λ (k : ℕ). slot_in ws (i + 4 * k)) 16 }

-- the identities of the first n of the places from i on, one behind the other
abbrev pub IdsIn : List ℕ → ℕ → List ℕ → ℕ → Type 0
IdsIn ws i bs n = (j : ℕ) → j < n → id_in bs (16 * j) ≡ identity_from (word ws (i + 4 * j + 2)) (word ws (i + 4 * j + 2 + 1))

-- 3 words of times and numbers, 8 of what has happened, 64 of what is awaited
unfoldable pub link_in : List ℕ → ℕ → Link
link_in ws i =
    record {
      awaited = awaited_in ws (i + 11);
      beat = word ws i;
      alarm = upper (word ws (i + 1));
      major = lower (word ws (i + 1));
      minor = upper (word ws (i + 2));
      patch = lower (word ws (i + 2));
      connected = flag (word ws (i + 3));
      versionout = flag (word ws (i + 4));
      versionacked = flag (word ws (i + 5));
      versiontaken = flag (word ws (i + 6));
      watchdogout = flag (word ws (i + 7));
      watchdogacked = flag (word ws (i + 8));
      watchdogtaken = flag (word ws (i + 9));
      aggregatedout = flag (word ws (i + 10));
    }

-- what the stores of a link's parts leave
pub record PutHead (ws vs : List ℕ) (i a b c d e : ℕ) : Type 0 where
  pub beat : word vs i ≡ a
  pub alarm : upper (word vs (i + 1)) ≡ b
  pub major : lower (word vs (i + 1)) ≡ c
  pub minor : upper (word vs (i + 2)) ≡ d
  pub patch : lower (word vs (i + 2)) ≡ e
  pub kept : Stored ws vs i 3

pub record PutMarks (ws vs : List ℕ) (i : ℕ) (a b c d : Bool) : Type 0 where
  pub first : word vs i ≡ bit a
  pub second : word vs (i + 1) ≡ bit b
  pub third : word vs (i + 2) ≡ bit c
  pub fourth : word vs (i + 3) ≡ bit d
  pub kept : Stored ws vs i 4

-- what has happened is 0 or 1 in each of its eight words
abbrev pub PlainAt : List ℕ → ℕ → Type 0
PlainAt ws i = (k : ℕ) → k < 8 → word ws (i + (3 + k)) < 2

pub record PutLink (ws vs : List ℕ) (i : ℕ) (x : Link) : Type 0 where
  pub put : Put link_in 75 ws vs i x
  pub plain : PlainAt vs i
