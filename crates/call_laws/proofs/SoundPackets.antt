-- What every kind of packet comes to is a sound plan.
-- Assumes nothing.
use Rattle.call_laws.specs.SoundPackets.{Packets}
use Rattle.call_laws.proofs.Taken.{not_acked_lem, answered_plan_lem, version_sound, watchdog_sound, alarm_sound, aggregated_sound, status_sound, command_sound}
use Rattle.call_laws.proofs.Subscribed.{subscribing_sound}

pub kept : Packets
kept =
    record {
      answered = answered_plan_lem;
      refused = not_acked_lem;
      version = version_sound;
      watchdog = watchdog_sound;
      alarm = alarm_sound;
      aggregated = aggregated_sound;
      status = status_sound;
      command = command_sound;
      subscribing = subscribing_sound;
    }
