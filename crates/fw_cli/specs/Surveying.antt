-- Public vocabulary: what the command `survey` asks, and how it ends.
use Rattle.std.specs.Prelude.{◌≡◌, ℕ, ◌≤◌, true, List, map, length, Option, None, Some}
use Rattle.std.specs.Io.KnownBytes.{Appends}
use Rattle.std.specs.List.{list_all}
use Rattle.std.specs.declared.net.socket_addr.SocketAddr.{SocketAddr}
use Rattle.sha2.specs.Sha256.{sha256}
use Rattle.fw_blocks.specs.Cuts.{max_image}
use Rattle.fw_faults.specs.declared.fault.Fault.{Fault}
use Rattle.fw_faults.specs.declared.fault.Fault.TheVariants as fault
use Rattle.fw_host.specs.Lists.{SpellsList}
use Rattle.fw_host.specs.Waves.{listed_in}
use Rattle.fw_host.specs.declared.wave_list.Planned.{Planned}
use Rattle.fw_inventory.specs.Inventories.{inventory_in}
use Rattle.fw_inventory.specs.declared.verdict.Offer.{Offer}
use Rattle.fw_rollout.specs.declared.link.Listed.{Listed}
use Rattle.fw_survey.specs.Rows.{Row, is_over}
use Rattle.fw_survey.specs.Survey.{KeepsMeters}
use Rattle.fw_cli.specs.InputCauses.{IsOfText}
use Rattle.fw_cli.specs.declared.input_cause.InputCause.{InputCause}
use Rattle.fw_cli.specs.declared.input_cause.InputCause.TheVariants.{Line}
use Rattle.fw_cli.specs.declared.survey.SurveyError.{SurveyError}
use Rattle.fw_cli.specs.declared.survey.SurveyError.TheVariants.{BadList, EmptyImage, ImageFault, ImageTooLong, ListFault, OutOfMemory, Output, Socket}
use Rattle.fw_cli.specs.declared.survey.SurveyOffer.{SurveyOffer}
use Rattle.fw_cli.specs.declared.survey.SurveyOptions.{SurveyOptions}

-- a row for each meter of a list, in its order
abbrev pub listed_of_row : Row → Listed
listed_of_row row = record { meter = row.meter; address = row.address }

abbrev pub AreOfList : List Listed → List Row → Type 0
AreOfList list rows = map listed_of_row rows ≡ list

-- nothing more is asked of any of the same meters
pub record HasEnded (tries : ℕ) (old new : List Row) : Type 0 where
  pub meters : KeepsMeters old new
  pub over : list_all (λ (row : Row). is_over tries row) new ≡ true

-- nothing more is asked of any meter of a list
pub record HasSurveyed (tries : ℕ) (list : List Listed) (rows : List Row) : Type 0 where
  pub listed : AreOfList list rows
  pub over : list_all (λ (row : Row). is_over tries row) rows ≡ true

-- bytes that a campaign may offer
pub record IsImage (image : List ℕ) : Type 0 where
  pub begins : 1 ≤ length image
  pub ends : length image ≤ max_image

-- the image of a file is offered under its release, if one is given
abbrev pub IsOfferOf : Option SurveyOffer → Option Offer → Type 0
IsOfferOf None offer = offer ≡ None
IsOfferOf (Some asked) offer =
    (image : List ℕ) × IsImage image × (offer ≡ Some (record { release = asked.release; size = length image; digest = sha256 image }))

-- some text is a list of meters, nothing more is asked of any of them, and what is known of each was written, in its order
pub record TellsSurvey (options : SurveyOptions) (before after : Option (List ℕ)) : Type 0 where
  pub text : List ℕ
  pub list : List Planned
  pub rows : List Row
  pub offer : Option Offer
  pub spells : SpellsList options.listen text list
  pub surveyed : HasSurveyed options.timing.tries (listed_in list) rows
  pub offered : IsOfferOf options.offer offer
  pub told : Appends before after (inventory_in options.report rows offer)

-- the fault that says why it ended early
abbrev pub fault_of_survey : SurveyError → Fault
fault_of_survey ListFault = fault.ListFault
fault_of_survey (BadList line) = fault.BadList line
fault_of_survey ImageFault = fault.ImageFault
fault_of_survey EmptyImage = fault.EmptyImage
fault_of_survey ImageTooLong = fault.ImageTooLong
fault_of_survey Socket = fault.Socket
fault_of_survey Output = fault.Output
fault_of_survey OutOfMemory = fault.OutOfMemory

-- why the line of the list is none
abbrev pub IsCauseOfSurvey : SocketAddr → SurveyError → InputCause → Type 0
IsCauseOfSurvey own (BadList line) (Line cause) = IsOfText own cause
IsCauseOfSurvey own error cause = ⊥
