-- Public vocabulary: how many datagrams a port dropped, and what the refusals of the crates below are for it.
use Rattle.std.specs.Prelude.{ℕ, ◌+◌, ◌-◌, ◌^◌, min}
use Rattle.fw_seal.specs.declared.error.OpenError.{OpenError}
use Rattle.fw_seal.specs.declared.error.OpenError.TheVariants as opening
use Rattle.fw_seal.specs.declared.error.SealError.{SealError}
use Rattle.fw_seal.specs.declared.error.SealError.TheVariants as sealing
use Rattle.fw_wrapper.specs.declared.error.WrapError.{WrapError}
use Rattle.fw_wrapper.specs.declared.error.WrapError.TheVariants as wrapping
use Rattle.fw_sealport.specs.declared.dropped.Dropped.{Dropped}
use Rattle.fw_sealport.specs.declared.dropped.Unopened.{Unopened}
use Rattle.fw_sealport.specs.declared.dropped.Unopened.TheVariants.{Stranger, NotSealed, Repeated, OutOfMemory}
use Rattle.fw_sealport.specs.declared.unsealed.Unsealed.{Unsealed}
use Rattle.fw_sealport.specs.declared.unsealed.Unsealed.TheVariants as unsent

-- one more, up to the greatest number that is counted
abbrev pub one_more : ℕ → ℕ
one_more n = min (n + 1) (2 ^ 64 - 1)

-- how many came and weren't let through, but for want of memory, up to the greatest number that is counted
abbrev pub refused : Dropped → ℕ
refused d = min (min (d.strangers + d.unopened) (2 ^ 64 - 1) + d.repeated) (2 ^ 64 - 1)

-- the counts after a datagram that came wasn't let through
abbrev pub unopened : Unopened → Dropped → Dropped
unopened Stranger d = record d { strangers = one_more d.strangers }
unopened NotSealed d = record d { unopened = one_more d.unopened }
unopened Repeated d = record d { repeated = one_more d.repeated }
unopened OutOfMemory d = record d { unserved = one_more d.unserved }

-- the counts after one wasn't sent
abbrev pub unsealed : Dropped → Dropped
unsealed d = record d { unsealed = one_more d.unsealed }

-- what a refusal to open is
abbrev pub opening_error : OpenError → Unopened
opening_error opening.NotSealed = NotSealed
opening_error opening.OutOfMemory = OutOfMemory

-- what a refusal to seal is, and one to wrap what was sealed
abbrev pub sealing_refusal : SealError → Unsealed
sealing_refusal sealing.UnknownService = unsent.NotPlain
sealing_refusal sealing.TooLong = unsent.NotPlain
sealing_refusal sealing.CounterSpent = unsent.NotPlain
sealing_refusal sealing.OutOfMemory = unsent.OutOfMemory

abbrev pub wrapping_refusal : WrapError → Unsealed
wrapping_refusal wrapping.Short = unsent.NotPlain
wrapping_refusal wrapping.Version = unsent.NotPlain
wrapping_refusal wrapping.Length = unsent.NotPlain
wrapping_refusal wrapping.TooLong = unsent.NotPlain
wrapping_refusal wrapping.OutOfMemory = unsent.OutOfMemory

-- what holds where an APDU has no sealing, and nothing if memory was refused
abbrev pub IfUnsealed : Unsealed → Type 0 → Type 0
IfUnsealed unsent.Stranger A = ⊥
IfUnsealed unsent.NotPlain A = A
IfUnsealed (unsent.Counter error) A = ⊥
IfUnsealed unsent.OutOfMemory A = Unit {0}
