-- The claims about characters are kept.
-- Assumes nothing.
use Rattle.basis.proofs.Std.{subst}
use Rattle.json_character.specs.declared.Char.{Char}
use Rattle.json_character.specs.Claims.{Claims}
use Rattle.json_character.proofs.Sound.{Says, char_says}
use Rattle.json_character.proofs.Complete.{char_reads, quotation_mark}
use Rattle.json_character.proofs.Encoding.{written, only, scalar}

pub kept : Claims
kept =
    record {
      sound = λ t c w e. subst (λ (ch : Char). Says t ch) e (char_says t);
      complete = λ x. let k = char_reads x in (k.width, k.says, k.rest);
      closed = λ t e. subst (λ (ch : Char). Says t ch) e (char_says t);
      closing = quotation_mark;
      written = written;
      only = only;
      scalar = scalar;
    }
