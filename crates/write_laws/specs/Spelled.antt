-- What is written, byte for byte: each of the eleven types, in 000's spelling and order. "Written messages have no spaces, elements in the order of 000's
-- listing, `ntsOId`, `xNId`, external codes, `fP` and `fS` empty, `rvs` of an alarm `[]`." Claims; the proofs are `refl`.
-- Assumes nothing.
use Rattle.std.specs.Prelude.{ℕ, ◌≡◌, Bool, true, false, List, [], ◌∷◌, ◌++◌, pos, negsuc}
use Prim.Native.String.{String}
use Rattle.basis.specs.Text.{text}
use Rattle.write_message.specs.declared.Value.{Value}
use Rattle.write_message.specs.declared.Value.TheVariants.{Recent, Old, Unknown, Undefined}
use Rattle.write_message.specs.declared.Told.TheVariants.{Response, Update, Command}
use Rattle.write_message.specs.Message.{Message, Status, status}
use Rattle.write_message.specs.Message.Message.{version, watchdog, ack, not_ack, alarm, aggregated, statuses, included}
use Rattle.write_message.specs.Listing.{bytes_of}

-- a packet in parts, and its form feed
abbrev pub packet : List String → List ℕ
packet [] = 12 ∷ []
packet (part ∷ parts) = text part ++ packet parts

-- 6f968141-4de5-42ff-8032-45f8093762c5, and 2009-10-01T11:59:31.571Z
abbrev pub own : List ℕ
own = 0x6f ∷ 0x96 ∷ 0x81 ∷ 0x41 ∷ 0x4d ∷ 0xe5 ∷ 0x42 ∷ 0xff ∷ 0x80 ∷ 0x32 ∷ 0x45 ∷ 0xf8 ∷ 0x09 ∷ 0x37 ∷ 0x62 ∷ 0xc5 ∷ []

abbrev pub noon : ℕ
noon = 1254398371571

abbrev pub component : List ℕ
component = text "O+14439=481WA001"

-- an alarm of its event, category and priority, acknowledged, active, suspended
abbrev pub told : ℕ → ℕ → ℕ → Bool → Bool → Bool → Message
told event category priority acknowledged active suspended =
    alarm own component (text "A0001")
    (record { time = noon; event = event; category = category; priority = priority; acknowledged = acknowledged; active = active; suspended = suspended })

abbrev pub entry : String → Value → Status
entry code v = status (text code) (text "level") v

pub record Spelled : Type 0 where
  -- "offering 3.1.5 and 3.2"; request 07: "Offer 3.1.4 as well"
  pub of_version : bytes_of (version own component (text "1.0.13"))
      ≡ packet ("{\"mType\":\"rSMsg\",\"type\":\"Version\",\"mId\":\"6f968141-4de5-42ff-8032-45f8093762c5\","
      ∷ "\"RSMP\":[{\"vers\":\"3.1.4\"},{\"vers\":\"3.1.5\"},{\"vers\":\"3.2\"}],\"siteId\":[{\"sId\":\"O+14439=481WA001\"}],\"SXL\":\"1.0.13\"}" ∷ [])
  pub of_watchdog : bytes_of (watchdog own noon)
      ≡ packet ("{\"mType\":\"rSMsg\",\"type\":\"Watchdog\",\"mId\":\"6f968141-4de5-42ff-8032-45f8093762c5\",\"wTs\":\"2009-10-01T11:59:31.571Z\"}" ∷ [])
  pub of_ack : bytes_of (ack (text "CD613E30-d8f1-6adf-91b7-584a2265b1f5"))
      ≡ packet ("{\"mType\":\"rSMsg\",\"type\":\"MessageAck\",\"oMId\":\"CD613E30-d8f1-6adf-91b7-584a2265b1f5\"}" ∷ [])
  pub of_not_ack : bytes_of (not_ack (text "CD613E30-d8f1-6adf-91b7-584a2265b1f5") (text "Bad value"))
      ≡ packet ("{\"mType\":\"rSMsg\",\"type\":\"MessageNotAck\",\"oMId\":\"CD613E30-d8f1-6adf-91b7-584a2265b1f5\",\"rea\":\"Bad value\"}" ∷ [])
  pub of_alarm : bytes_of (told 0 1 2 false true false)
      ≡ packet ("{\"mType\":\"rSMsg\",\"type\":\"Alarm\",\"mId\":\"6f968141-4de5-42ff-8032-45f8093762c5\",\"ntsOId\":\"\",\"xNId\":\"\",\"cId\":\"O+14439=481WA001\","
      ∷ "\"aCId\":\"A0001\",\"xACId\":\"\",\"xNACId\":\"\",\"aSp\":\"Issue\",\"ack\":\"notAcknowledged\",\"aS\":\"Active\",\"sS\":\"notSuspended\","
      ∷ "\"aTs\":\"2009-10-01T11:59:31.571Z\",\"cat\":\"D\",\"pri\":\"2\",\"rvs\":[]}" ∷ [])
  pub of_acknowledged : bytes_of (told 1 0 1 true false false)
      ≡ packet ("{\"mType\":\"rSMsg\",\"type\":\"Alarm\",\"mId\":\"6f968141-4de5-42ff-8032-45f8093762c5\",\"ntsOId\":\"\",\"xNId\":\"\",\"cId\":\"O+14439=481WA001\","
      ∷ "\"aCId\":\"A0001\",\"xACId\":\"\",\"xNACId\":\"\",\"aSp\":\"Acknowledge\",\"ack\":\"Acknowledged\",\"aS\":\"inActive\",\"sS\":\"notSuspended\","
      ∷ "\"aTs\":\"2009-10-01T11:59:31.571Z\",\"cat\":\"T\",\"pri\":\"1\",\"rvs\":[]}" ∷ [])
  pub of_suspended : bytes_of (told 2 0 3 true true true)
      ≡ packet ("{\"mType\":\"rSMsg\",\"type\":\"Alarm\",\"mId\":\"6f968141-4de5-42ff-8032-45f8093762c5\",\"ntsOId\":\"\",\"xNId\":\"\",\"cId\":\"O+14439=481WA001\","
      ∷ "\"aCId\":\"A0001\",\"xACId\":\"\",\"xNACId\":\"\",\"aSp\":\"Suspend\",\"ack\":\"Acknowledged\",\"aS\":\"Active\",\"sS\":\"Suspended\","
      ∷ "\"aTs\":\"2009-10-01T11:59:31.571Z\",\"cat\":\"T\",\"pri\":\"3\",\"rvs\":[]}" ∷ [])
  -- the first of the eight is the highest
  pub of_aggregated : bytes_of (aggregated own component noon 0xA1)
      ≡ packet ("{\"mType\":\"rSMsg\",\"type\":\"AggregatedStatus\",\"mId\":\"6f968141-4de5-42ff-8032-45f8093762c5\",\"ntsOId\":\"\",\"xNId\":\"\","
      ∷ "\"cId\":\"O+14439=481WA001\",\"aSTS\":\"2009-10-01T11:59:31.571Z\",\"fP\":\"\",\"fS\":\"\",\"se\":[true,false,true,false,false,false,false,true]}" ∷ [])
  pub of_response : bytes_of (statuses Response own component noon (entry "S1" Unknown ∷ entry "S2" (Recent (pos 20)) ∷ []))
      ≡ packet ("{\"mType\":\"rSMsg\",\"type\":\"StatusResponse\",\"mId\":\"6f968141-4de5-42ff-8032-45f8093762c5\",\"ntsOId\":\"\",\"xNId\":\"\","
      ∷ "\"cId\":\"O+14439=481WA001\",\"sTs\":\"2009-10-01T11:59:31.571Z\",\"sS\":[{\"sCI\":\"S1\",\"n\":\"level\",\"s\":null,\"q\":\"unknown\"},"
      ∷ "{\"sCI\":\"S2\",\"n\":\"level\",\"s\":\"20\",\"q\":\"recent\"}]}" ∷ [])
  pub of_update : bytes_of (statuses Update own component noon (entry "S1" (Old (negsuc 6)) ∷ []))
      ≡ packet ("{\"mType\":\"rSMsg\",\"type\":\"StatusUpdate\",\"mId\":\"6f968141-4de5-42ff-8032-45f8093762c5\",\"ntsOId\":\"\",\"xNId\":\"\","
      ∷ "\"cId\":\"O+14439=481WA001\",\"sTs\":\"2009-10-01T11:59:31.571Z\",\"sS\":[{\"sCI\":\"S1\",\"n\":\"level\",\"s\":\"-7\",\"q\":\"old\"}]}" ∷ [])
  pub of_command : bytes_of (statuses Command own component noon (entry "M1" (Recent (pos 5)) ∷ entry "M2" Undefined ∷ []))
      ≡ packet ("{\"mType\":\"rSMsg\",\"type\":\"CommandResponse\",\"mId\":\"6f968141-4de5-42ff-8032-45f8093762c5\",\"ntsOId\":\"\",\"xNId\":\"\","
      ∷ "\"cId\":\"O+14439=481WA001\",\"cTS\":\"2009-10-01T11:59:31.571Z\",\"rvs\":[{\"cCI\":\"M1\",\"n\":\"level\",\"v\":\"5\",\"age\":\"recent\"},"
      ∷ "{\"cCI\":\"M2\",\"n\":\"level\",\"v\":null,\"age\":\"undefined\"}]}" ∷ [])
  -- request 04: 000's listing with oMId where mId stood
  pub of_response_included : bytes_of (included Response (text "CD613E30-d8f1-6adf-91b7-584a2265b1f5") component noon (entry "S1" (Recent (negsuc 6)) ∷ []))
      ≡ packet ("{\"mType\":\"rSMsg\",\"type\":\"StatusResponseAckIncluded\",\"oMId\":\"CD613E30-d8f1-6adf-91b7-584a2265b1f5\",\"ntsOId\":\"\",\"xNId\":\"\","
      ∷ "\"cId\":\"O+14439=481WA001\",\"sTs\":\"2009-10-01T11:59:31.571Z\",\"sS\":[{\"sCI\":\"S1\",\"n\":\"level\",\"s\":\"-7\",\"q\":\"recent\"}]}" ∷ [])
  pub of_command_included : bytes_of (included Command (text "CD613E30-d8f1-6adf-91b7-584a2265b1f5") component noon (entry "M1" (Recent (pos 5)) ∷ entry "M2" Undefined ∷ []))
      ≡ packet ("{\"mType\":\"rSMsg\",\"type\":\"CommandResponseAckIncluded\",\"oMId\":\"CD613E30-d8f1-6adf-91b7-584a2265b1f5\",\"ntsOId\":\"\",\"xNId\":\"\","
      ∷ "\"cId\":\"O+14439=481WA001\",\"cTS\":\"2009-10-01T11:59:31.571Z\",\"rvs\":[{\"cCI\":\"M1\",\"n\":\"level\",\"v\":\"5\",\"age\":\"recent\"},"
      ∷ "{\"cCI\":\"M2\",\"n\":\"level\",\"v\":null,\"age\":\"undefined\"}]}" ∷ [])
