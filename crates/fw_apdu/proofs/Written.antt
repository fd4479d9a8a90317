-- What was written is spelled so.
use Rattle.std.proofs.Common.{◌≡◌, ◌≢◌, ℕ, ◌∷◌, Result, Ok, Err, Some, arith}
use Rattle.std.specs.Prelude.{IfOk, OnOk}
use Rattle.std.specs.Global.{Vec}
use Rattle.fw_apdu.specs.declared.error.ApduError.{ApduError}
use Rattle.fw_apdu.specs.Response.{GetResult, get_response, action_response, SpellsResult, SpellsResponse, result_bytes}

pub get_spelled : (r : Result (Vec ℕ) ApduError) (i : ℕ) (g : GetResult) → IfOk r (λ v. v.items ≡ 0xc4 ∷ 0x01 ∷ i ∷ result_bytes g) → OnOk r (SpellsResult (result_bytes g) g)
    → IfOk r (λ v. SpellsResponse v.items i (get_response g))
get_spelled (Ok v) i g written spelled = (result_bytes g, written, spelled)
get_spelled (Err e) i g written spelled = tt

pub action_spelled : (r : Result (Vec ℕ) ApduError) (i c : ℕ) (g : GetResult) → IfOk r (λ v. v.items ≡ 0xc7 ∷ 0x01 ∷ i ∷ c ∷ 0x01 ∷ result_bytes g) → OnOk r (SpellsResult (result_bytes g) g)
    → IfOk r (λ v. SpellsResponse v.items i (action_response c (Some g)))
action_spelled (Ok v) i c g written spelled = let present : 1 ≢ 0 = omega arith in (1, result_bytes g, written, present, spelled)
action_spelled (Err e) i c g written spelled = tt
