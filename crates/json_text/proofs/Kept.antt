-- The claims about strings are kept.
-- Assumes nothing.
use Rattle.json_text.specs.Claims.{Claims}
use Rattle.json_text.proofs.Meaning as Meaning
use Rattle.json_text.proofs.Endings.{answered}

pub kept : Claims
kept =
    record {
      sound = Meaning.sound;
      complete = Meaning.complete;
      refused = Meaning.refused;
      once = Meaning.once;
      named = Meaning.named;
      named' = Meaning.named';
      alike = Meaning.alike;
      alike' = Meaning.alike';
      answered = answered;
    }
