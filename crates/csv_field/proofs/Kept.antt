-- The claims about lines are kept.
-- Assumes nothing.
use Rattle.csv_field.specs.Claims.{Claims}
use Rattle.csv_field.proofs.Meaning as Meaning

pub kept : Claims
kept = record { sound = Meaning.sound; complete = Meaning.complete; spoilt = Meaning.spoilt; spoilt' = Meaning.spoilt' }
