-- A log that is one part longer.
use Rattle.std.proofs.Common.{◌≡◌, ℕ, ◌+◌, ◌-◌, ◌^◌, min, List, [], ◌∷◌, ◌++◌, length, refl, ap, sym, ◌∙◌, append_assoc, length-append, arith}
use Rattle.std.proofs.lemmas.List.{append-nil}
use Rattle.std.proofs.lemmas.List.Sums.{sum_by-append}
use Rattle.fw_world.specs.World.{Datagram}
use Rattle.fw_air.specs.declared.log.Part.{Part}
use Rattle.fw_air.specs.Logs.{Entry}
use Rattle.fw_air.specs.Parts.{datagrams_of, entry_of, entries_of, IsKept}

pub datagrams_of-snoc : (ps : List Part) (p : Part) → datagrams_of (ps ++ p ∷ []) ≡ datagrams_of ps ++ p.sent.items
datagrams_of-snoc [] p = append-nil p.sent.items
datagrams_of-snoc (q ∷ ps) p =
    ap (λ (ds : List Datagram). q.sent.items ++ ds) (datagrams_of-snoc ps p) ∙ sym (append_assoc q.sent.items (datagrams_of ps) p.sent.items)

entries_of-snoc : (ps : List Part) (p : Part) → entries_of (ps ++ p ∷ []) ≡ entries_of ps ++ entry_of p ∷ []
entries_of-snoc [] p = refl
entries_of-snoc (q ∷ ps) p = ap (λ (es : List Entry). entry_of q ∷ es) (entries_of-snoc ps p)

pub sent_is : (base : List Datagram) (ps : List Part) (p : Part) → base ++ datagrams_of (ps ++ p ∷ []) ≡ (base ++ datagrams_of ps) ++ p.sent.items
sent_is base ps p =
    ap (λ (xs : List Datagram). base ++ xs) (datagrams_of-snoc ps p) ∙ sym (append_assoc base (datagrams_of ps) p.sent.items)

pub entries_are : (base : List Entry) (ps : List Part) (p : Part) → base ++ entries_of (ps ++ p ∷ []) ≡ (base ++ entries_of ps) ++ entry_of p ∷ []
entries_are base ps p =
    ap (λ (xs : List Entry). base ++ xs) (entries_of-snoc ps p) ∙ sym (append_assoc base (entries_of ps) (entry_of p ∷ []))

counts : (sent ds : List Datagram) (entries : List Entry) (e : Entry) (events datagrams : ℕ) → e.count ≡ length ds → IsKept sent entries events datagrams
    → IsKept (sent ++ ds) (entries ++ e ∷ []) (min (events + 1) (2 ^ 64 - 1)) (min (datagrams + length ds) (2 ^ 64 - 1))
counts sent ds entries e events datagrams is k =
    let s = k.counted in
    let n = k.events_are in
    let d = k.datagrams_are in
    let a = sum_by-append (λ (x : Entry). x.count) entries (e ∷ []) in
    let b = length-append sent ds in
    let c = length-append entries (e ∷ []) in record {
      counted = omega arith;
      events_are = omega arith;
      datagrams_are = omega arith;
    }

-- the same with the part in its place
pub adds : (base : List Datagram) (old : List Entry) (ps : List Part) (p : Part) (events datagrams events' datagrams' : ℕ)
    → IsKept (base ++ datagrams_of ps) (old ++ entries_of ps) events datagrams
    → events' ≡ min (events + 1) (2 ^ 64 - 1) → datagrams' ≡ min (datagrams + length p.sent.items) (2 ^ 64 - 1)
    → IsKept (base ++ datagrams_of (ps ++ p ∷ [])) (old ++ entries_of (ps ++ p ∷ [])) events' datagrams'
adds base old ps p events datagrams events' datagrams' k e d =
    rw (sent_is base ps p, entries_are old ps p, e, d) (counts (base ++ datagrams_of ps) p.sent.items (old ++ entries_of ps) (entry_of p) events datagrams refl k)
