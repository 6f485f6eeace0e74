-- Version 4 out of sixteen random bytes: byte 6 has the high half 4, byte 8 the top bits 10, and all other bits are as given.
-- Assumes nothing.
use Rattle.std.specs.Prelude.{List, ℕ, ◌+◌, ◌%◌, get_or, set}
use Rattle.identity.specs.declared.Identity.{Identity}

abbrev pub version4_of : List ℕ → List ℕ
version4_of bs = set (set bs 6 (0x40 + get_or bs 6 0 % 16)) 8 (0x80 + get_or bs 8 0 % 64)

-- sixteen random bytes as an identity of version 4
abbrev pub identity_of : Identity → Identity
identity_of random = record { bytes = version4_of random.bytes }
