-- Sixteen random bytes as an identity of version 4 are sixteen bytes.
-- Assumes nothing.
use Rattle.basis.proofs.Std.{ℕ, ◌+◌, ◌%◌, ◌<◌, ◌∙◌, List, arith, get_or, set, length-set}
use Rattle.identity.specs.Read.{SixteenBytes}
use Rattle.identity.specs.Version.{version4_of}
use Rattle.call_laws.proofs.Parts.{each_set}

pub own_sixteen : (bs : List ℕ) → SixteenBytes bs → SixteenBytes (version4_of bs)
own_sixteen bs h =
    let first = set bs 6 (0x40 + get_or bs 6 0 % 16) in
    record {
      sixteen = length-set first 8 (0x80 + get_or bs 8 0 % 64) ∙ length-set bs 6 (0x40 + get_or bs 6 0 % 16) ∙ h.sixteen;
      bytes =
          each_set (λ (b : ℕ). b < 256) 0 first 8 (0x80 + get_or bs 8 0 % 64) (omega arith)
          (each_set (λ (b : ℕ). b < 256) 0 bs 6 (0x40 + get_or bs 6 0 % 16) (omega arith) h.bytes);
    }
