-- Only the active firmware identifier has an octet-string of 41 or 45 bytes.
use Rattle.std.proofs.Common.{◌≡◌, ◌⊎◌, ℕ, List, length, refl, arith}
use Rattle.fw_axdr.specs.Value.{octet_string}
use Rattle.fw_names.specs.Name.{Name, name_bytes}
use Rattle.fw_server.specs.Answer.{value_of_answer, HasSizes}
use Rattle.fw_server.specs.declared.outcome.Answer.{Answer}
use Rattle.fw_server.specs.declared.outcome.Answer.TheVariants.{LogicalName, BlockSize, TransferredBlocks, FirstNotTransferred, TransferEnabled, TransferStatus, ToActivate, ActiveName, ActiveDigest}
use Rattle.fw_server.specs.Laws.{OnlyActiveName}
use Rattle.fw_server.proofs.Sizes.{name_size}

is_name : (a : Answer) (bytes : List ℕ) → HasSizes a → value_of_answer a ≡ octet_string bytes → (length bytes ≡ 41) ⊎ (length bytes ≡ 45) → (name : Name) × (a ≡ ActiveName name)
is_name (LogicalName own) bytes h same size = absurd (grind arith)
is_name (BlockSize own) bytes h same size = absurd (grind arith)
is_name (TransferredBlocks own) bytes h same size = absurd (grind arith)
is_name (FirstNotTransferred own) bytes h same size = absurd (grind arith)
is_name (TransferEnabled own) bytes h same size = absurd (grind arith)
is_name (TransferStatus own) bytes h same size = absurd (grind arith)
is_name (ToActivate own) bytes h same size = absurd (grind arith)
is_name (ActiveName own) bytes h same size = (own, refl)
is_name (ActiveDigest own) bytes h same size = absurd (grind arith)

has_size : (a : Answer) (name : Name) → HasSizes a → a ≡ ActiveName name → (bytes : List ℕ) × (value_of_answer a ≡ octet_string bytes) × ((length bytes ≡ 41) ⊎ (length bytes ≡ 45))
has_size (ActiveName own) name h same = (name_bytes own, refl, name_size own h)
has_size (LogicalName own) name h same = absurd (grind arith)
has_size (BlockSize own) name h same = absurd (grind arith)
has_size (TransferredBlocks own) name h same = absurd (grind arith)
has_size (FirstNotTransferred own) name h same = absurd (grind arith)
has_size (TransferEnabled own) name h same = absurd (grind arith)
has_size (TransferStatus own) name h same = absurd (grind arith)
has_size (ToActivate own) name h same = absurd (grind arith)
has_size (ActiveDigest own) name h same = absurd (grind arith)

pub only_active_name : OnlyActiveName
only_active_name a h = (λ x. is_name a x.0 h x.1 x.2, λ x. has_size a x.0 h x.1)
