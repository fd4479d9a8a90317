-- That the bytes of a journal are those of one write.
use Rattle.std.proofs.Common.{Option, None, Some, IfNone, ◌≡◌, ◌≢◌, ℕ, ◌<◌, ◌^◌, List, [], ◌++◌, length, take, drop, refl, sym, ◌∙◌, ap, arith, append_assoc, length-append}
use Rattle.std.specs.Int.{w32, w64, to_be_bytes, from_be_bytes}
use Rattle.std.proofs.lemmas.Nat.{from_be_bytes-to_be_bytes_4, from_be_bytes-to_be_bytes_8}
use Rattle.std.proofs.lemmas.List.{take_at, drop_at}
use Rattle.sha2.specs.Sha256.{sha256}
use Rattle.sha2.proofs.Facts256.{length-sha256}
use Rattle.fw_cuts.specs.Write.{Write, IsWrite, mark, part, parts, payload, journal_bytes}
use Rattle.fw_cuts.specs.Reading.{IsUnsealed, IsUnmarked, IsNoPart, AreNoTwoParts, HasSizes, IsNoPayload}

pub split_unique : (n : ℕ) (p q s t : List ℕ) → length p ≡ n → length q ≡ n → p ++ s ≡ q ++ t → (p ≡ q) × (s ≡ t)
split_unique n p q s t hp hq e = (
  sym (take_at p s n hp) ∙ ap (λ (l : List ℕ). take n l) e ∙ take_at q t n hq,
  sym (drop_at p s n hp) ∙ ap (λ (l : List ℕ). drop n l) e ∙ drop_at q t n hq,
)

four_unique : (a b : ℕ) (s t : List ℕ) → a < 2 ^ 32 → b < 2 ^ 32 → to_be_bytes w32 a ++ s ≡ to_be_bytes w32 b ++ t → (a ≡ b) × (s ≡ t)
four_unique a b s t ha hb e =
    let both = split_unique 4 (to_be_bytes w32 a) (to_be_bytes w32 b) s t refl refl e in
    (sym (from_be_bytes-to_be_bytes_4 a ha) ∙ ap (λ (l : List ℕ). from_be_bytes w32 l) both.0 ∙ from_be_bytes-to_be_bytes_4 b hb, both.1)

eight_unique : (a b : ℕ) (s t : List ℕ) → a < 2 ^ 64 → b < 2 ^ 64 → to_be_bytes w64 a ++ s ≡ to_be_bytes w64 b ++ t → (a ≡ b) × (s ≡ t)
eight_unique a b s t ha hb e =
    let both = split_unique 8 (to_be_bytes w64 a) (to_be_bytes w64 b) s t refl refl e in
    (sym (from_be_bytes-to_be_bytes_8 a ha) ∙ ap (λ (l : List ℕ). from_be_bytes w64 l) both.0 ∙ from_be_bytes-to_be_bytes_8 b hb, both.1)

part_unique : (r q e f : List ℕ) → length r < 2 ^ 32 → length q < 2 ^ 32 → part r ++ e ≡ part q ++ f → (r ≡ q) × (e ≡ f)
part_unique r q e f hr hq is =
    let sizes = four_unique (length r) (length q) (r ++ e) (q ++ f) hr hq
    (sym (append_assoc (to_be_bytes w32 (length r)) r e) ∙ is ∙ append_assoc (to_be_bytes w32 (length q)) q f) in
    split_unique (length q) r q e f sizes.0 refl sizes.1

-- what a part is made of, and what is none
pub part_found : (bytes rest some after : List ℕ) (size : ℕ) → bytes ≡ to_be_bytes w32 size ++ rest → length some ≡ size → rest ≡ some ++ after
    → bytes ≡ part some ++ after
part_found bytes rest some after size is sized halves =
    is ∙ ap (λ (l : List ℕ). to_be_bytes w32 size ++ l) halves
    ∙ ap (λ (n : ℕ). to_be_bytes w32 n ++ (some ++ after)) (sym sized)
    ∙ sym (append_assoc (to_be_bytes w32 (length some)) some after)

pub part_short : (bytes : List ℕ) → length bytes < 4 → IsNoPart bytes
part_short bytes short = λ some rest fits e.
    let four : length (to_be_bytes w32 (length some)) ≡ 4 = refl in
    omega (arith, ap length e, length-append (part some) rest, length-append (to_be_bytes w32 (length some)) some)

pub part_none : (bytes rest : List ℕ) (size : ℕ) → bytes ≡ to_be_bytes w32 size ++ rest → size < 2 ^ 32 → length rest < size → IsNoPart bytes
part_none bytes rest size is fits short = λ some after few e.
    let same = four_unique size (length some) rest (some ++ after) fits few (sym is ∙ e ∙ append_assoc (to_be_bytes w32 (length some)) some after) in
    omega (arith, same.0, ap length same.1, length-append some after)

pub first_none : (bytes : List ℕ) → IsNoPart bytes → AreNoTwoParts bytes
first_none bytes none = λ first second rest fits also e. none first (part second ++ rest) fits e

pub second_none : (bytes rest first : List ℕ) → bytes ≡ part first ++ rest → length first < 2 ^ 32 → IsNoPart rest → AreNoTwoParts bytes
second_none bytes rest first is fits none = λ some second after few also e.
    let same = part_unique first some rest (part second ++ after) fits few (sym is ∙ e) in
    none second after also same.1

-- ---- the bytes before the digest, part by part

-- what stands after the mark
after_mark : (bytes rest : List ℕ) (w : Write) → bytes ≡ mark ++ rest → bytes ≡ payload w → rest ≡ to_be_bytes w64 w.at ++ (to_be_bytes w64 w.last_at ++ parts w)
after_mark bytes rest w is e = (split_unique 4 mark mark rest (to_be_bytes w64 w.at ++ (to_be_bytes w64 w.last_at ++ parts w)) refl refl (sym is ∙ e)).1

-- what was read of it so far is that of the write
pub record Places (bytes : List ℕ) (at last_at : ℕ) (rest : List ℕ) : Type 0 where
  pub marked : List ℕ
  pub is : bytes ≡ mark ++ marked
  pub between : List ℕ
  pub first : marked ≡ to_be_bytes w64 at ++ between
  pub second : between ≡ to_be_bytes w64 last_at ++ rest
  pub at_fits : at < 2 ^ 64
  pub last_at_fits : last_at < 2 ^ 64

after_places : (bytes rest : List ℕ) (at last_at : ℕ) (w : Write) → Places bytes at last_at rest → HasSizes w → bytes ≡ payload w
    → (at ≡ w.at) × ((last_at ≡ w.last_at) × (rest ≡ parts w))
after_places bytes rest at last_at w p fits e =
    let one = eight_unique at w.at p.between (to_be_bytes w64 w.last_at ++ parts w) p.at_fits fits.at_fits (sym p.first ∙ after_mark bytes p.marked w p.is e) in
    let two = eight_unique last_at w.last_at rest (parts w) p.last_at_fits fits.last_at_fits (sym p.second ∙ one.1) in
    (one.0, (two.0, two.1))

after_first : (rest after x y : List ℕ) (w : Write) → rest ≡ part x ++ (part y ++ after) → length x < 2 ^ 32 → length y < 2 ^ 32 → HasSizes w → rest ≡ parts w
    → (x ≡ w.before) × ((y ≡ w.after) × (after ≡ part w.last_before ++ (part w.last_after ++ [])))
after_first rest after x y w is fx fy fits e =
    let last = part w.last_before ++ (part w.last_after ++ []) in
    let one = part_unique x w.before (part y ++ after) (part w.after ++ last) fx fits.before_fits (sym is ∙ e) in
    let two = part_unique y w.after after last fy fits.after_fits one.1 in
    (one.0, (two.0, two.1))

pub unmarked_none : (bytes : List ℕ) → IsUnmarked bytes → IsNoPayload bytes
unmarked_none bytes none = λ w fits e. none (to_be_bytes w64 w.at ++ (to_be_bytes w64 w.last_at ++ parts w)) e

pub at_none : (bytes rest : List ℕ) → bytes ≡ mark ++ rest → length rest < 8 → IsNoPayload bytes
at_none bytes rest is short = λ w fits e.
    let eight : length (to_be_bytes w64 w.at) ≡ 8 = refl in
    omega (arith, ap length (after_mark bytes rest w is e), length-append (to_be_bytes w64 w.at) (to_be_bytes w64 w.last_at ++ parts w))

pub last_at_none : (bytes marked rest : List ℕ) (at : ℕ) → bytes ≡ mark ++ marked → marked ≡ to_be_bytes w64 at ++ rest → at < 2 ^ 64 → length rest < 8 → IsNoPayload bytes
last_at_none bytes marked rest at is first at_fits short = λ w fits e.
    let eight : length (to_be_bytes w64 w.last_at) ≡ 8 = refl in
    let one = eight_unique at w.at rest (to_be_bytes w64 w.last_at ++ parts w) at_fits fits.at_fits (sym first ∙ after_mark bytes marked w is e) in
    omega (arith, ap length one.1, length-append (to_be_bytes w64 w.last_at) (parts w))

pub front_none : (bytes rest : List ℕ) (at last_at : ℕ) → Places bytes at last_at rest → AreNoTwoParts rest → IsNoPayload bytes
front_none bytes rest at last_at p none = λ w fits e.
    let places = after_places bytes rest at last_at w p fits e in
    none w.before w.after (part w.last_before ++ (part w.last_after ++ [])) fits.before_fits fits.after_fits places.1.1

pub end_none : (bytes rest after x y : List ℕ) (at last_at : ℕ) → Places bytes at last_at rest → rest ≡ part x ++ (part y ++ after) → length x < 2 ^ 32 → length y < 2 ^ 32
    → AreNoTwoParts after → IsNoPayload bytes
end_none bytes rest after x y at last_at p is fx fy none = λ w fits e.
    let places = after_places bytes rest at last_at w p fits e in
    let front = after_first rest after x y w is fx fy fits places.1.1 in
    none w.last_before w.last_after [] fits.last_before_fits fits.last_after_fits front.1.1

pub more_none : (bytes rest after x y z u more : List ℕ) (at last_at : ℕ) → Places bytes at last_at rest → rest ≡ part x ++ (part y ++ after) → length x < 2 ^ 32 → length y < 2 ^ 32
    → after ≡ part z ++ (part u ++ more) → length z < 2 ^ 32 → length u < 2 ^ 32 → more ≢ [] → IsNoPayload bytes
more_none bytes rest after x y z u more at last_at p is fx fy also fz fu some = λ w fits e.
    let places = after_places bytes rest at last_at w p fits e in
    let front = after_first rest after x y w is fx fy fits places.1.1 in
    let one = part_unique z w.last_before (part u ++ more) (part w.last_after ++ []) fz fits.last_before_fits (sym also ∙ front.1.1) in
    let two = part_unique u w.last_after more [] fu fits.last_after_fits one.1 in
    some two.1

pub spelled : (bytes rest after x y z u more : List ℕ) (at last_at : ℕ) → Places bytes at last_at rest → rest ≡ part x ++ (part y ++ after)
    → after ≡ part z ++ (part u ++ more) → more ≡ [] → bytes ≡ mark ++ (to_be_bytes w64 at ++ (to_be_bytes w64 last_at ++ (part x ++ (part y ++ (part z ++ (part u ++ []))))))
spelled bytes rest after x y z u more at last_at p is also none =
    p.is ∙ ap (λ (l : List ℕ). mark ++ l)
    (p.first ∙ ap (λ (l : List ℕ). to_be_bytes w64 at ++ l)
    (p.second ∙ ap (λ (l : List ℕ). to_be_bytes w64 last_at ++ l)
    (is ∙ ap (λ (l : List ℕ). part x ++ (part y ++ l)) (also ∙ ap (λ (l : List ℕ). part z ++ (part u ++ l)) none))))

same_write : (v w : Write) → v.at ≡ w.at → v.before ≡ w.before → v.after ≡ w.after → v.last_at ≡ w.last_at → v.last_before ≡ w.last_before → v.last_after ≡ w.last_after → v ≡ w
same_write v w a b c d e f = λ i. record { at = a i; before = b i; after = c i; last_at = d i; last_before = e i; last_after = f i }

pub payload_unique : (v w : Write) → HasSizes v → HasSizes w → payload v ≡ payload w → v ≡ w
payload_unique v w hv hw e =
    let last_v = part v.last_before ++ (part v.last_after ++ []) in
    let marked = to_be_bytes w64 v.at ++ (to_be_bytes w64 v.last_at ++ parts v) in
    let p : Places (payload v) v.at v.last_at (parts v) =
    record { marked = marked; is = refl; between = to_be_bytes w64 v.last_at ++ parts v; first = refl; second = refl; at_fits = hv.at_fits; last_at_fits = hv.last_at_fits } in
    let places = after_places (payload v) (parts v) v.at v.last_at w p hw e in
    let front = after_first (parts v) last_v v.before v.after w refl hv.before_fits hv.after_fits hw places.1.1 in
    let one = part_unique v.last_before w.last_before (part v.last_after ++ []) (part w.last_after ++ []) hv.last_before_fits hw.last_before_fits front.1.1 in
    let two = part_unique v.last_after w.last_after [] [] hv.last_after_fits hw.last_after_fits one.1 in
    same_write v w places.0 front.0 front.1.0 places.1.0 one.0 two.0

-- ---- the digest

sealed_unique : (p q d : List ℕ) → length d ≡ 32 → p ++ d ≡ q ++ sha256 q → (p ≡ q) × (d ≡ sha256 q)
sealed_unique p q d size e =
    let same : length p ≡ length q = omega (arith, ap length e, length-append p d, length-append q (sha256 q), length-sha256 q) in
    split_unique (length q) p q d (sha256 q) same refl e

pub short_none : (bytes : List ℕ) → length bytes < 32 → IsUnsealed bytes
short_none bytes short = λ p e. omega (arith, ap length e, length-append p (sha256 p), length-sha256 p)

pub unsealed : (bytes p d : List ℕ) → bytes ≡ p ++ d → length d ≡ 32 → ¬ (d ≡ sha256 p) → IsUnsealed bytes
unsealed bytes p d is size other = λ q e.
    let same = sealed_unique p q d size (sym is ∙ e) in
    other (same.1 ∙ ap sha256 (sym same.0))

pub is_sizes : (w : Write) → IsWrite w → HasSizes w
is_sizes w is = record {
  at_fits = omega (arith, is.fits, is.order);
  last_at_fits = omega (arith, is.fits);
  before_fits = omega (arith, is.most);
  after_fits = omega (arith, is.most, is.same);
  last_before_fits = omega (arith, is.last_before_few);
  last_after_fits = omega (arith, is.last_after_few);
}

pub sealed_payload : (bytes p : List ℕ) (w : Write) → bytes ≡ p ++ sha256 p → bytes ≡ journal_bytes w → p ≡ payload w
sealed_payload bytes p w is e = (sealed_unique p (payload w) (sha256 p) (length-sha256 p) (sym is ∙ e)).0

pub one_write : (v w : Write) → IsWrite v → IsWrite w → journal_bytes v ≡ journal_bytes w → v ≡ w
one_write v w hv hw e = payload_unique v w (is_sizes v hv) (is_sizes w hw) (sealed_payload (journal_bytes v) (payload v) w refl e)

-- ---- what is said of a call that answers nothing

pub told_none : {T : Type 0} (r : Option T) (P : Type 0) → P → IfNone r P
told_none None P p = p
told_none (Some x) P p = tt
