-- Public vocabulary: why a row failed. What is kept of the answer that ended it, or stands for an answer that never came.
use Rattle.std.specs.Prelude.{length, Option, Some, None}
use Rattle.std.specs.Option.{option_map}
use Rattle.fw_names.specs.Name.{Name}
use Rattle.fw_client.specs.declared.heard.Heard.{Heard}
use Rattle.fw_client.specs.declared.heard.Heard.TheVariants as heard
use Rattle.fw_book.specs.declared.notes.Answer.{Answer}
use Rattle.fw_book.specs.declared.notes.Answer.TheVariants.{Number, Bits, Status, Info, Active, Code, Silent, GivenUp}
use Rattle.fw_book.specs.declared.notes.Reason.{Reason}
use Rattle.fw_head.specs.declared.giving_up.WhyGivenUp.{WhyGivenUp}
use Rattle.fw_head.specs.declared.giving_up.WhyGivenUp.TheVariants as why
use Rattle.fw_head.specs.declared.stage.Stage.{Stage}
use Rattle.fw_head.specs.Phase.{phase_of}

-- A number, a status and a code as they are, of a list of blocks how many bits it has, and of the name of an image its campaign. A
-- stranger's datagram is no answer.
abbrev pub answer_of : Heard → Option Answer
answer_of (heard.Active claim) = Some (Active claim.name.campaign)
answer_of (heard.Number n) = Some (Number n)
answer_of (heard.BitSet known) = Some (Bits (length known))
answer_of (heard.Status s) = Some (Status s)
answer_of (heard.Info told) = Some (Info (option_map (λ (name : Name). name.campaign) told))
answer_of (heard.Code a c) = Some (Code c)
answer_of heard.Stranger = None

-- what stands for an answer where a row is given up without one
abbrev pub answer_for : WhyGivenUp → Answer
answer_for why.Silent = Silent
answer_for why.ByHand = GivenUp

-- an answer in the phase of this stage
abbrev pub reason_at : Stage → Answer → Reason
reason_at stage answer = record { phase = phase_of stage; answer = answer }
