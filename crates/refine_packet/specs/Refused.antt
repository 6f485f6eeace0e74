-- Each reason of the code is the machine's: the same text, and the link closed by the same three. proofs/Refused.antt proves it.
-- Assumes nothing.
use Rattle.std.specs.Prelude.{ℕ}
use Prim.Native.String.{String}
use Rattle.std.proofs.Math.Option.{some}
use Rattle.identity.specs.declared.Identity.{Identity}
use Rattle.json_value.specs.Grammar.{Json}
use Rattle.site.specs.declared.Site.{Site}
use Rattle.packet_answer.specs.Taken.{
  Taken,
  not_acked,
  closing,
  missing_element,
  bad_value,
  unexpected,
  not_ready,
  rsmp_version,
  site_id,
  sxl_version,
  unknown_component,
  unknown_alarm,
  unknown_status,
  unknown_command,
  busy,
}
use Rattle.machine.specs.State.{Machine}
use Rattle.refine_parts.specs.Same.{Beside}
use Rattle.refine_packet.specs.Taken.{SameTaken, question_on}

module _ (beside : Beside) (s : Site) (m : Machine) (l t : ℕ) (id : Identity) (j : Json) where
  abbrev Same : Taken → String → Type 0
  Same x reason = SameTaken beside s m l t id j x (some reason)

  pub record SameReasons : Type 0 where
    pub missing_element_lem : Same (not_acked s (question_on l t id j) missing_element) "Missing element"
    pub bad_value_lem : Same (not_acked s (question_on l t id j) bad_value) "Bad value"
    pub is_unexpected_lem : Same (not_acked s (question_on l t id j) unexpected) "Unexpected"
    pub not_ready_lem : Same (not_acked s (question_on l t id j) not_ready) "Not ready"
    -- "A failure of these three sends MessageNotAck and closes the link."
    pub rsmp_version_lem : Same (closing s (question_on l t id j) rsmp_version) "RSMP version"
    pub site_id_lem : Same (closing s (question_on l t id j) site_id) "Site id"
    pub sxl_version_lem : Same (closing s (question_on l t id j) sxl_version) "SXL version"
    pub unknown_component_lem : Same (not_acked s (question_on l t id j) unknown_component) "Unknown component"
    pub unknown_alarm_lem : Same (not_acked s (question_on l t id j) unknown_alarm) "Unknown alarm"
    pub unknown_status_lem : Same (not_acked s (question_on l t id j) unknown_status) "Unknown status"
    pub unknown_command_lem : Same (not_acked s (question_on l t id j) unknown_command) "Unknown command"
    pub is_busy : Same (not_acked s (question_on l t id j) busy) "Busy"
