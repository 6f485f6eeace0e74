-- The closed link, and a link with something else in one part.
-- Assumes nothing.
use Rattle.std.specs.Prelude.{ℕ, true, false}
use Rattle.basis.specs.Pick.{pick}
use Rattle.awaited.specs.declared.Awaited.{Awaited}
use Rattle.awaited.specs.Awaited.{nothing_awaited}
use Rattle.link.specs.declared.Link.{Link}
use Rattle.link.specs.Deed.{Deed, is}
use Rattle.link.specs.Deed.Deed.{Connected, OurVersion, OurVersionAcked, TheirVersion, OurWatchdog, OurWatchdogAcked, TheirWatchdog, OurAggregated}

-- a link that is Down: all zero
abbrev pub closed_link : Link
closed_link =
    record {
      awaited = nothing_awaited;
      beat = 0;
      alarm = 0;
      major = 0;
      minor = 0;
      patch = 0;
      connected = false;
      versionout = false;
      versionacked = false;
      versiontaken = false;
      watchdogout = false;
      watchdogacked = false;
      watchdogtaken = false;
      aggregatedout = false;
    }

-- the link with something else in one part
abbrev pub with_awaited : Link → Awaited → Link
with_awaited l w =
    record {
      awaited = w;
      beat = l.beat;
      alarm = l.alarm;
      major = l.major;
      minor = l.minor;
      patch = l.patch;
      connected = l.connected;
      versionout = l.versionout;
      versionacked = l.versionacked;
      versiontaken = l.versiontaken;
      watchdogout = l.watchdogout;
      watchdogacked = l.watchdogacked;
      watchdogtaken = l.watchdogtaken;
      aggregatedout = l.aggregatedout;
    }

abbrev pub with_beat : Link → ℕ → Link
with_beat l t =
    record {
      awaited = l.awaited;
      beat = t;
      alarm = l.alarm;
      major = l.major;
      minor = l.minor;
      patch = l.patch;
      connected = l.connected;
      versionout = l.versionout;
      versionacked = l.versionacked;
      versiontaken = l.versiontaken;
      watchdogout = l.watchdogout;
      watchdogacked = l.watchdogacked;
      watchdogtaken = l.watchdogtaken;
      aggregatedout = l.aggregatedout;
    }

abbrev pub with_alarm : Link → ℕ → Link
with_alarm l n =
    record {
      awaited = l.awaited;
      beat = l.beat;
      alarm = n;
      major = l.major;
      minor = l.minor;
      patch = l.patch;
      connected = l.connected;
      versionout = l.versionout;
      versionacked = l.versionacked;
      versiontaken = l.versiontaken;
      watchdogout = l.watchdogout;
      watchdogacked = l.watchdogacked;
      watchdogtaken = l.watchdogtaken;
      aggregatedout = l.aggregatedout;
    }

abbrev pub with_version : Link → ℕ → ℕ → ℕ → Link
with_version l x y z =
    record {
      awaited = l.awaited;
      beat = l.beat;
      alarm = l.alarm;
      major = x;
      minor = y;
      patch = z;
      connected = l.connected;
      versionout = l.versionout;
      versionacked = l.versionacked;
      versiontaken = l.versiontaken;
      watchdogout = l.watchdogout;
      watchdogacked = l.watchdogacked;
      watchdogtaken = l.watchdogtaken;
      aggregatedout = l.aggregatedout;
    }

-- the link after something has happened
abbrev pub mark : Deed → Link → Link
mark d l =
    record {
      awaited = l.awaited;
      beat = l.beat;
      alarm = l.alarm;
      major = l.major;
      minor = l.minor;
      patch = l.patch;
      connected = pick (is d Connected) true l.connected;
      versionout = pick (is d OurVersion) true l.versionout;
      versionacked = pick (is d OurVersionAcked) true l.versionacked;
      versiontaken = pick (is d TheirVersion) true l.versiontaken;
      watchdogout = pick (is d OurWatchdog) true l.watchdogout;
      watchdogacked = pick (is d OurWatchdogAcked) true l.watchdogacked;
      watchdogtaken = pick (is d TheirWatchdog) true l.watchdogtaken;
      aggregatedout = pick (is d OurAggregated) true l.aggregatedout;
    }
