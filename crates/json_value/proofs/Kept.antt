-- The claims about values are kept.
-- Assumes nothing.
use Rattle.basis.proofs.Std.{ℕ, ◌≡◌, sym, subst, ◌∙◌, List, arith}
use Rattle.json_text.specs.Decoded.Parsed.{ok, none}
use Rattle.json_value.specs.Grammar.{Json, Value}
use Rattle.json_value.specs.Reader.{read_value}
use Rattle.json_value.specs.Claims.{Claims}
use Rattle.json_value.proofs.Sound as Sound
use Rattle.json_value.proofs.Complete as Complete
use Rattle.json_value.proofs.Deeper as Deeper

pub sound : (l : ℕ) (t r : List ℕ) (j : Json) → read_value l t ≡ ok j r → Value l t r j
sound l t r j e = subst (Sound.ValueIf l t) e (Sound.value l t)

pub refused : {l : ℕ} {t r : List ℕ} {j : Json} → read_value l t ≡ none → Value l t r j → ⊥
refused {l} {t} {r} {j} e v = let f : ok j r ≡ none = sym (Complete.value v) ∙ e in let z : ◌≡◌ {A = ℕ} 0 1 = cc in omega arith

pub kept : Claims
kept =
    record {
      sound = sound;
      complete = Complete.value;
      refused = refused;
      once = Complete.once;
      means_once = Deeper.means_once;
      deeper = Deeper.value;
    }
