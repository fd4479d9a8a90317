-- The notes of a start, put one after another.
use Rattle.std.proofs.Common.{◌≡◌, ◌+◌, ◌<◌, ℕ, List, [], ◌∷◌, ◌++◌, length, map, take, get_or, refl, sym, ap, subst, ◌∙◌}
use Rattle.std.specs.declared.net.socket_addr.SocketAddr.{SocketAddr}
use Rattle.std.proofs.lemmas.List.{map-append, take_more}
use Rattle.fw_capture.specs.Spelling.{packet_bytes}
use Rattle.fw_capture.specs.View.{Told}
use Rattle.fw_host.specs.Captures.{PutsAll, asking_told}

module _ {S : Type 0} (takes : S → S → List ℕ → Type 0) (nanoseconds : ℕ) where
  puts_more : (first mid last : S) (before : List Told) (told : Told) → PutsAll takes nanoseconds first mid before → takes mid last (packet_bytes nanoseconds told)
      → PutsAll takes nanoseconds first last (before ++ told ∷ [])
  puts_more first mid last [] told is put = (last, subst (λ (s : S). takes s last (packet_bytes nanoseconds told)) is put, refl)
  puts_more first mid last (t ∷ before) told is put = (is.0, is.1, puts_more is.0 mid last before told is.2 put)

  pub heads_more : (first mid last : S) (heads : List SocketAddr) (at : ℕ) (d : SocketAddr) (told : Told) → at < length heads
      → told ≡ asking_told (get_or heads at d) → PutsAll takes nanoseconds first mid (map asking_told (take at heads)) → takes mid last (packet_bytes nanoseconds told)
      → PutsAll takes nanoseconds first last (map asking_told (take (at + 1) heads))
  heads_more first mid last heads at d told inside asks before put =
      let one : List Told = map asking_told (take at heads) in
      let head : SocketAddr = get_or heads at d in
      let same : map asking_told (take (at + 1) heads) ≡ one ++ asking_told head ∷ [] =
      ap (λ (l : List SocketAddr). map asking_told l) (take_more heads at d inside)
      ∙ map-append asking_told (take at heads) (head ∷ []) in
      subst (λ (l : List Told). PutsAll takes nanoseconds first last l) (sym same)
      (puts_more first mid last one (asking_told head) before (subst (λ (t : Told). takes mid last (packet_bytes nanoseconds t)) asks put))
