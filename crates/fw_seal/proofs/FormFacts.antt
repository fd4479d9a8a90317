-- Why bytes haven't the form of a sealing.
use Rattle.std.proofs.Common.{ℕ, List, subst}
use Rattle.fw_seal.specs.Sealing.{HasForm, IsContent, IsFrame, NoContent, NoFrame}
use Rattle.fw_seal.proofs.FrameFacts.{one_frame}

-- they are no frame
pub no_form : (bytes : List ℕ) → NoFrame bytes → HasForm bytes → ⊥
no_form bytes none form = none form.tag form.content form.framed

-- they are one without a content
pub no_content : (bytes content : List ℕ) (tag : ℕ) → IsFrame tag content bytes → NoContent content → HasForm bytes → ⊥
no_content bytes content tag framed none form =
    none form.counter form.text form.mac
    (subst (IsContent form.counter form.text form.mac) (one_frame form.tag tag form.content content bytes form.framed framed).1 form.filled)
