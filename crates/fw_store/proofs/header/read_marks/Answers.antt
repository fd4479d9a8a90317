use Rattle.std.proofs.Common.{ℕ, length, take, drop, ap, ◌∙◌, ◌+◌, slice_range}
use Rattle.fw_blocks.specs.Members.{resized_marks}
use Rattle.fw_store.specs.Versions.{block_limit, bytes_of, version_of}
use Rattle.fw_store.proofs.MarkLemmas.{length-resized_marks, marks_read}
use Rattle.fw_store.proofs.header.read_marks.Goals as goal

pub returns-clause-unique : goal.returns-clause-unique
returns-clause-unique c = λ marks size first others.
    let bytes = bytes_of c.args.bytes.now in
    let version = version_of c.args.bytes.now in
    let count = c.block_limit.ensures.value ∙ ap block_limit c.version.ensures in
    c.resized.ensures
    ∙ ap (λ (n : ℕ). resized_marks n c.from_bytes.result) count
    ∙ ap (resized_marks (block_limit version)) c.from_bytes.ensures.value
    ∙ marks_read c.bits_packed.ensures version marks (slice_range (take 622 bytes) 102 614) (drop 622 bytes) c.mark_bytes.result
    (512 + length (drop 622 bytes)) size first others c.mark_bytes.ensures

pub returns-clause-size : goal.returns-clause-size
returns-clause-size c =
    ap length c.resized.ensures ∙ length-resized_marks c.block_limit.result c.from_bytes.result ∙ c.block_limit.ensures.value ∙ ap block_limit c.version.ensures
