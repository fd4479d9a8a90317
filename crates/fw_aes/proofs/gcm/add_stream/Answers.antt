use Rattle.std.proofs.Common.{◌≡◌, ℕ, ◌+◌, ◌*◌, ◌/◌, List, refl, subst, arith}
use Rattle.fw_aes.specs.Gcm.{stream_byte}
use Rattle.fw_aes.specs.Schedule.{IsStream}
use Rattle.fw_aes.proofs.StreamFacts.{added_all, added_first, added_more, stream_at, stream_next}
use Rattle.fw_aes.proofs.gcm.add_stream.Goals as goal
use Rattle.fw_aes.proofs.gcm.add_stream.Goals.{then-k-eq0, else-k-eq0}

pub loop-k-init : goal.loop-k-init
loop-k-init c = record {
  added = added_first (stream_byte c.args.cipher.now c.args.iv.now 2) c.args.text.now;
  stream = λ ne. absurd (ne refl);
}

pub loop-k-preserved : goal.loop-k-preserved
loop-k-preserved c =
    let k : ℕ = c.loop-k.k in
    let key : List ℕ = c.args.cipher.now in
    let iv : List ℕ = c.args.iv.now in
    let stream : IsStream key iv (2 + 4 * (k / 64)) c.if-k-eq0.stream = elim c.if-k-eq0.branch [
      | then-k-eq0 w ↦
          let e : 4 * (k / 64) + 2 ≡ 2 + 4 * (k / 64) = omega arith in
          rw w.stream-is (subst (λ n. IsStream key iv n w.key_stream-stream.result) e w.key_stream-stream.ensures)
      | else-k-eq0 w ↦ rw w.stream-is (c.loop-k.invariant.stream (omega arith))
    ] in record {
      added = added_more (stream_byte key iv 2) c.args.text.now c.loop-k.text k _ (omega arith) c.loop-k.invariant.added (stream_at key iv c.if-k-eq0.stream k stream);
      stream = stream_next key iv c.if-k-eq0.stream k stream;
    }

pub returns : goal.returns
returns c = added_all (stream_byte c.args.cipher.now c.args.iv.now 2) c.args.text.now c.loop-k.text c.loop-k.k (omega arith) c.loop-k.invariant.added
