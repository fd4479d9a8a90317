-- Public vocabulary: the statuses that a meter shows (IEC 62056-6-2, image_transfer_status).
use Rattle.std.specs.Prelude.{ℕ}
use Rattle.fw_store.specs.declared.header.StoredStatus.{StoredStatus}
use Rattle.fw_store.specs.declared.header.StoredStatus.TheVariants as stored
use Rattle.fw_image.specs.declared.status.TransferStatus.{TransferStatus}
use Rattle.fw_image.specs.declared.status.TransferStatus.TheVariants.{NotInitiated, Initiated, VerificationInitiated, VerificationSuccessful, VerificationFailed, ActivationSuccessful}

-- the standard's number
abbrev pub status_number : TransferStatus → ℕ
status_number NotInitiated = 0
status_number Initiated = 1
status_number VerificationInitiated = 2
status_number VerificationSuccessful = 3
status_number VerificationFailed = 4
status_number ActivationSuccessful = 6

-- what a header keeps, as a meter shows it: a verification that goes on is kept nowhere
abbrev pub shown_status : StoredStatus → TransferStatus
shown_status stored.NotInitiated = NotInitiated
shown_status stored.Initiated = Initiated
shown_status stored.VerificationSuccessful = VerificationSuccessful
shown_status stored.VerificationFailed = VerificationFailed
shown_status stored.ActivationSuccessful = ActivationSuccessful
