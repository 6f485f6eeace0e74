-- The claims of specs/Spelled, computed.
-- Assumes nothing.
use Rattle.basis.proofs.Std.{refl}
use Rattle.identity.specs.Hex.{hex_digit}
use Rattle.identity.specs.Text.{identity_text}
use Rattle.number.specs.Decimal.{digits_below, digits, decimal_of}
use Rattle.calendar.specs.Days.{leap_of, years, months, day_of}
use Rattle.calendar.specs.Civil.{year_from, month_from, date_of}
use Rattle.calendar.specs.Text.{second_text, milli_text, time_text}
use Rattle.write_laws.specs.Spelled.{Spelled}

pub spelled : Spelled
unfolding hex_digit identity_text digits_below digits decimal_of leap_of years months day_of year_from month_from date_of second_text milli_text time_text
spelled =
    record {
      of_version = refl;
      of_watchdog = refl;
      of_ack = refl;
      of_not_ack = refl;
      of_alarm = refl;
      of_acknowledged = refl;
      of_suspended = refl;
      of_aggregated = refl;
      of_response = refl;
      of_update = refl;
      of_command = refl;
      of_response_included = refl;
      of_command_included = refl;
    }
