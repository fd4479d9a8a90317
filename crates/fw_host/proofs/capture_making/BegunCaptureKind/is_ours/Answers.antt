use Rattle.std.proofs.Common.{rules, IsTrue, inl, arith}
use Rattle.fw_host.proofs.capture_making.BegunCaptureKind.is_ours.Goals as goal

-- it begins as the file header does
pub returns-then-begins_as : goal.returns-then-begins_as
returns-then-begins_as c = λ bytes is_front is_len.
    let told : IsTrue c.begins_as.result = search rules in (
      λ is. record { most = omega (arith, is_len); front = inl ((c.begins_as.ensures bytes is_front).0 told) },
      λ is. told,
    )
