-- What the words from a place on stand for: a place of the pool, a subscription, an alarm, a status. Every content stands for something.
-- Assumes nothing.
use Rattle.std.specs.Prelude.{ℕ, ◌+◌, List}
use Rattle.bits.specs.Fields.{field_of}
use Rattle.pool.specs.declared.Place.{Place}
use Rattle.subscription.specs.declared.Subscription.{Subscription}
use Rattle.alarm.specs.declared.Alarm.{Alarm}
use Rattle.status.specs.declared.Status.{Status}
use Rattle.store_words.specs.Words.{word}
use Rattle.store_words.specs.Narrow.{upper, lower}

unfoldable pub place_from : ℕ → ℕ → ℕ → ℕ → Place
place_from a b c d =
    record {
      entry = record {
        time = a;
        value = upper b;
        sequence = lower b;
        link = field_of c 48 16;
        kind = field_of c 32 16;
        item = field_of c 16 16;
        flags = field_of c 0 16;
      };
      mark = d;
    }

abbrev pub place_in : List ℕ → ℕ → Place
place_in ws i = place_from (word ws i) (word ws (i + 1)) (word ws (i + 2)) (word ws (i + 3))

unfoldable pub subscription_from : ℕ → ℕ → Subscription
subscription_from a b = record { since = a; seconds = upper b; state = lower b }

abbrev pub subscription_in : List ℕ → ℕ → Subscription
subscription_in ws i = subscription_from (word ws i) (word ws (i + 1))

unfoldable pub alarm_from : ℕ → ℕ → Alarm
alarm_from a b = record { time = a; event = field_of b 48 16; acknowledged = field_of b 32 16; active = field_of b 16 16; suspended = field_of b 0 16 }

abbrev pub alarm_in : List ℕ → ℕ → Alarm
alarm_in ws i = alarm_from (word ws i) (word ws (i + 1))

unfoldable pub status_from : ℕ → Status
status_from a = record { value = upper a; known = lower a }

abbrev pub status_in : List ℕ → ℕ → Status
status_in ws i = status_from (word ws i)
