-- Why there is no report.
use Rattle.std.proofs.Common.{◌≡◌, inl, inr, ℕ, zero, suc, ◌<◌, ◌≤◌, List, [], ◌∷◌, length, get_or, refl, ap, arith}
use Rattle.std.proofs.lemmas.List.{length-append}
use Rattle.fw_air.specs.Audits.{Differs}
use Rattle.fw_air.specs.Events.{Receipt}
use Rattle.fw_air.specs.Logs.{Entry}
use Rattle.fw_air.specs.declared.audits.AuditError.{AuditError}
use Rattle.fw_air.specs.declared.audits.AuditError.TheVariants as audit
use Rattle.fw_head.specs.Head.{Head}
use Rattle.fw_image.specs.Meter.{Meter}
use Rattle.fw_world.specs.Setup.{IsSetup}
use Rattle.fw_world.specs.Step.{Event}
use Rattle.fw_world.specs.World.{Datagram}
use Rattle.fw_world.specs.declared.setup.Setup.{Setup}
use Rattle.fw_accounts.specs.Accounts.{all_of, recorded}
use Rattle.fw_accounts.specs.Refusals.{IsUnaccounted, of_audit}
use Rattle.fw_accounts.specs.declared.error.AccountError.TheVariants as refused

-- what an audit refuses as differing isn't accounted for
pub audit_refuses : (setup : Setup) (given : List Event) (rounds workers : ℕ) (heads : List Head) (meters : List (ℕ × Meter)) (sent : List Datagram)
    (entries : List Entry) (board : ℕ) (receipts : List (List Receipt)) (refusal : AuditError)
    → (refusal ≡ audit.BadSetup → ¬ IsSetup setup)
    → (refusal ≡ audit.Mismatch → IsSetup setup × Differs setup (recorded given entries) heads meters sent)
    → of_audit refusal ≡ refused.Mismatch → IsUnaccounted setup given rounds workers heads meters sent entries board receipts
audit_refuses setup given rounds workers heads meters sent entries board receipts audit.BadSetup bad other is = inr (inr (inl (bad refl)))
audit_refuses setup given rounds workers heads meters sent entries board receipts audit.Mismatch bad other is = inr (inr (inr (inl (other refl).1)))
audit_refuses setup given rounds workers heads meters sent entries board receipts audit.OutOfMemory bad other is = absurd cc

-- an audit is out of memory only if a world can be made
pub audit_wants : (setup : Setup) (refusal : AuditError) → (refusal ≡ audit.OutOfMemory → IsSetup setup) → of_audit refusal ≡ refused.OutOfMemory → IsSetup setup
audit_wants setup audit.BadSetup memory is = absurd cc
audit_wants setup audit.Mismatch memory is = absurd cc
audit_wants setup audit.OutOfMemory memory is = memory refl

-- some receipts of a worker are some of all
pub some_of_all : (receipts : List (List Receipt)) (at : ℕ) (of_worker : List Receipt) → at < length receipts → of_worker ≡ get_or receipts at of_worker
    → 1 ≤ length of_worker → 1 ≤ length (all_of receipts)
some_of_all [] at of_worker inside is some = absurd (omega arith)
some_of_all (first ∷ receipts) zero of_worker inside is some =
    let here : length of_worker ≡ length first = ap length is in
    let more = length-append first (all_of receipts) in
    omega arith
some_of_all (first ∷ receipts) (suc at) of_worker inside is some =
    let rest = some_of_all receipts at of_worker (omega arith) is some in
    let more = length-append first (all_of receipts) in
    omega arith
