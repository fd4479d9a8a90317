-- What bytes tell: the reservations of a journal, and those that stand from its shut gate on.
use Rattle.std.proofs.Common.{◌≡◌, ◌⊎◌, inl, inr, ⊎_elim, ℕ, ◌<◌, ◌≤◌, ◌^◌, max, List, [], ◌∷◌, ◌++◌, length, take, drop, refl, sym, ◌∙◌, ap, subst, arith, append_assoc, take-append-drop}
use Rattle.std.specs.Prelude.{Option, None, Some, IfNone, Result, Ok, Err, IsErrAnd, IsErrOf}
use Rattle.std.specs.Int.{w32, to_be_bytes, from_be_bytes}
use Rattle.std.proofs.lemmas.List.{take_at, drop_at}
use Rattle.sha2.specs.Sha256.{sha256}
use Rattle.fw_journal.specs.Book.{body, book_front, book_bytes, Stands, IsBadBook}
use Rattle.fw_journal.specs.Device.{LeavesOnly}
use Rattle.fw_journal.specs.Laws.{OneReading, BadIsNone, BookStands}
use Rattle.fw_journal.specs.declared.device.JournalDevice
use Rattle.fw_counter.specs.Reserved.{AreReservations, reserved_by, Reserves, HasReserved}
use Rattle.fw_counter.specs.Told.{HasReservation, Follow, Tells, ReservesAll}
use Rattle.fw_counter.specs.declared.error.CounterError.{CounterError}
use Rattle.fw_counter.specs.declared.error.OpeningError.TheVariants.{Counter}
use Rattle.fw_counter.proofs.Records.{reserved_more}
use Rattle.fw_counter.proofs.Keeps.{weaker}

-- the length of four bytes, as a record has it
abbrev pub four_bytes : List ℕ
four_bytes = 0 ∷ 0 ∷ 0 ∷ 4 ∷ []

sized : (entry : List ℕ) → length entry ≡ 4 → to_be_bytes w32 (length entry) ≡ four_bytes
sized entry four = ap (λ (n : ℕ). to_be_bytes w32 n) four

spelled : (entry after : List ℕ) → length entry ≡ 4 → body entry ++ after ≡ four_bytes ++ (entry ++ (sha256 entry ++ after))
spelled entry after four =
    append_assoc (to_be_bytes w32 (length entry)) (entry ++ sha256 entry) after
    ∙ ap (λ (l : List ℕ). to_be_bytes w32 (length entry) ++ l) (append_assoc entry (sha256 entry) after)
    ∙ ap (λ (l : List ℕ). l ++ (entry ++ (sha256 entry ++ after))) (sized entry four)

tail_of : (a b : ℕ) (s t : List ℕ) → a ∷ s ≡ b ∷ t → s ≡ t
tail_of a b s t is = cc is

same_tail : (s t : List ℕ) → four_bytes ++ s ≡ four_bytes ++ t → s ≡ t
same_tail s t is = tail_of 4 4 s t (tail_of 0 0 (4 ∷ s) (4 ∷ t) (tail_of 0 0 (0 ∷ 4 ∷ s) (0 ∷ 4 ∷ t) (tail_of 0 0 (0 ∷ 0 ∷ 4 ∷ s) (0 ∷ 0 ∷ 4 ∷ t) is)))

-- ---- results

pub told_as : {T E : Type 0} (r : Result T E) (a b : E) → IsErrAnd r (λ e. e ≡ a) → IsErrOf r b → a ≡ b
told_as (Ok v) a b told is = absurd (cc is)
told_as (Err e) a b told is = let same : e ≡ b = cc is in sym told ∙ same

pub if_none : {T : Type 0} (o : Option T) (P : Type 0) → P → IfNone o P
if_none None P holds = holds
if_none (Some v) P holds = tt

-- ---- one reservation

pub found : (bytes behind entry tail after rest : List ℕ) (gate : ℕ) → bytes ≡ gate ∷ behind → behind ≡ four_bytes ++ rest → entry ≡ take 4 rest → tail ≡ drop 4 rest → length entry ≡ 4 → tail ≡ sha256 entry ++ after → HasReservation bytes entry after
found bytes behind entry tail after rest gate first sizes front back four digest =
    let halves : rest ≡ entry ++ (sha256 entry ++ after) =
    sym (take-append-drop 4 rest) ∙ ap (λ (l : List ℕ). l ++ drop 4 rest) (sym front) ∙ ap (λ (l : List ℕ). entry ++ l) (sym back ∙ digest) in
    record {
      gate = gate;
      four = four;
      split = first ∙ ap (λ (l : List ℕ). gate ∷ l) (sizes ∙ ap (λ (l : List ℕ). four_bytes ++ l) halves ∙ sym (spelled entry after four));
    }

parts : (bytes behind entry after : List ℕ) (gate : ℕ) → bytes ≡ gate ∷ behind → (has : HasReservation bytes entry after) → behind ≡ four_bytes ++ (entry ++ (sha256 entry ++ after))
parts bytes behind entry after gate first has = tail_of gate has.gate behind (body entry ++ after) (sym first ∙ has.split) ∙ spelled entry after has.four

module _ (bytes behind rest : List ℕ) (gate : ℕ) (first : bytes ≡ gate ∷ behind) (sizes : behind ≡ four_bytes ++ rest) where
  rest_is : (entry after : List ℕ) → HasReservation bytes entry after → rest ≡ entry ++ (sha256 entry ++ after)
  rest_is entry after has = same_tail rest (entry ++ (sha256 entry ++ after)) (sym sizes ∙ parts bytes behind entry after gate first has)

  pub none_digest : (some tail : List ℕ) → some ≡ take 4 rest → tail ≡ drop 4 rest → ((after : List ℕ) → tail ≡ sha256 some ++ after → ⊥) → (entry after : List ℕ) → ¬ HasReservation bytes entry after
  none_digest some tail front back none entry after has =
      let is = rest_is entry after has in
      let same : some ≡ entry = front ∙ ap (λ (l : List ℕ). take 4 l) is ∙ take_at entry (sha256 entry ++ after) 4 has.four in
      none after (back ∙ ap (λ (l : List ℕ). drop 4 l) is ∙ drop_at entry (sha256 entry ++ after) 4 has.four ∙ ap (λ (l : List ℕ). sha256 l ++ after) (sym same))

-- ---- all that follow

max_across : (a b c : ℕ) → max a (max b c) ≡ max (max a b) c
max_across a b c = omega arith

-- these follow here, and their greatest number and this one together are that of all from the beginning
abbrev pub Seen : List ℕ → ℕ → List ℕ → Type 0
Seen bytes bound later = (entries : List (List ℕ)) → Follow entries later → (all : List (List ℕ)) × Follow all bytes × (reserved_by all ≡ max bound (reserved_by entries))

pub seen_first : (bytes : List ℕ) → Seen bytes 0 bytes
seen_first bytes entries follow = let same : reserved_by entries ≡ max 0 (reserved_by entries) = omega arith in (entries, follow, same)

pub seen_next : (bytes later after entry : List ℕ) (bound number next : ℕ) → Seen bytes bound later → HasReservation later entry after → number ≡ from_be_bytes w32 entry → next ≡ max bound number → Seen bytes next after
seen_next bytes later after entry bound number next seen has is grown entries follow =
    let before = seen (entry ∷ entries) (after, has, follow) in
    let more : reserved_by before.0 ≡ max next (reserved_by entries) =
    before.2 ∙ max_across bound (from_be_bytes w32 entry) (reserved_by entries)
    ∙ ap (λ (n : ℕ). max (max bound n) (reserved_by entries)) (sym is) ∙ ap (λ (n : ℕ). max n (reserved_by entries)) (sym grown) in
    (before.0, before.1, more)

pub seen_all : (bytes later : List ℕ) (bound : ℕ) → Seen bytes bound later → ((entry rest : List ℕ) → ¬ HasReservation later entry rest) → (entries : List (List ℕ)) × Follow entries bytes × (bound ≡ reserved_by entries)
seen_all bytes later bound seen none =
    let all = seen [] none in
    let same : bound ≡ reserved_by all.0 = omega (arith, all.2) in
    (all.0, all.1, same)

-- ---- what bytes tell

pub tells : (bytes rest : List ℕ) (records : List (List ℕ)) (end reserved behind bound : ℕ) → Stands bytes records → AreReservations records → end ≡ length (book_front records) → rest ≡ drop end bytes → reserved ≡ reserved_by records
    → (entries : List (List ℕ)) × Follow entries rest × (behind ≡ reserved_by entries) → bound ≡ max reserved behind → Tells bytes bound
tells bytes rest records end reserved behind bound stands fit ends here is follows both =
    let same : rest ≡ stands.end = here ∙ ap (λ (l : List ℕ). drop end l) stands.split ∙ drop_at (book_front records) stands.end end (sym ends) in
    record {
      records = records;
      stands = stands;
      fit = fit;
      behind = follows.0;
      follow = subst (λ (l : List ℕ). Follow follows.0 l) same follows.1;
      bound_is = both ∙ ap (λ (n : ℕ). max n behind) is ∙ ap (λ (n : ℕ). max (reserved_by records) n) follows.2;
    }

-- what bytes are known to reserve, they tell
pub told_more : OneReading → (bytes : List ℕ) (n bound : ℕ) → Tells bytes bound → HasReserved bytes n → n ≤ bound
told_more reading bytes n bound told has =
    let same = reading bytes has.reserves.records told.records has.reserves.stands told.stands in
    omega (arith, has.enough, has.reserves.bound_is, ap (λ (l : List (List ℕ)). reserved_by l) same, told.bound_is)

-- bytes that reserve as much as they tell
pub all_here : (bytes left : List ℕ) (reserved bound : ℕ) → left ≡ bytes → Reserves bytes reserved → Tells bytes bound → bound ≡ reserved → ReservesAll bytes left
all_here bytes left reserved bound same reserves told is = record {
  bound = bound;
  told = told;
  reserved = subst (λ (l : List ℕ). Reserves l bound) (sym same) (subst (λ (n : ℕ). Reserves bytes n) (sym is) reserves);
}

pub all_anew : BookStands → (bytes left : List ℕ) (bound : ℕ) → Tells bytes bound → bound < 2 ^ 32 → left ≡ book_bytes (to_be_bytes w32 bound ∷ []) → ReservesAll bytes left
all_anew book bytes left bound told fits is =
    let entry = to_be_bytes w32 bound in
    let four : length entry ≡ 4 = refl in
    let short : length entry < 2 ^ 32 = omega (arith, four) in
    record {
      bound = bound;
      told = told;
      reserved = record {
        records = entry ∷ [];
        stands = subst (λ (l : List ℕ). Stands l (entry ∷ [])) (sym is) (book (entry ∷ []) (short, tt));
        fit = (four, tt);
        bound_is = reserved_more [] entry bound refl fits (omega arith);
      };
    }

-- ---- moments

module _ {D : Type 0} (J : JournalDevice.Ghosts D) where
  -- of calls that follow on each other
  join : (old mid new : D) (P Q R : List ℕ → Type 0) → LeavesOnly J.moment J.left_since old mid P → LeavesOnly J.moment J.left_since mid new Q → ((left : List ℕ) → P left → R left) → ((left : List ℕ) → Q left → R left)
      → LeavesOnly J.moment J.left_since old new R
  join old mid new P Q R first second some others = record {
    later = omega (arith, first.later, second.later);
    each = λ left now. ⊎_elim (λ had. some left (first.each left had)) (λ has. others left has) (second.before (J.moment old) left first.later now);
    before = λ since left le now.
        ⊎_elim (λ had. ⊎_elim (λ before. inl before) (λ has. inr (some left has)) (first.before since left le had)) (λ has. inr (others left has)) (second.before since left (omega (arith, le, first.later)) now);
  }

  abbrev pub LeavesTold : D → List ℕ → Type 0
  LeavesTold device left = J.may_leave device left ⊎ ReservesAll (J.contents device) left

  pub only_read : (old new : D) → LeavesOnly J.moment J.left_since old new (J.may_leave old) → LeavesOnly J.moment J.left_since old new (LeavesTold old)
  only_read old new leaves = weaker J old new (J.may_leave old) (LeavesTold old) leaves (λ left now. inl now)

  module _ (counts : (device : D) (since : ℕ) (left : List ℕ) → since ≤ J.moment device → J.may_leave device left → J.left_since device since left) where
    pub read_then_replaced : (old mid new : D) (anew : List ℕ) → LeavesOnly J.moment J.left_since old mid (J.may_leave old)
        → LeavesOnly J.moment J.left_since mid new (λ left. J.may_leave mid left ⊎ (left ≡ anew)) → ((left : List ℕ) → left ≡ anew → ReservesAll (J.contents old) left)
        → LeavesOnly J.moment J.left_since old new (LeavesTold old)
    read_then_replaced old mid new anew first second all =
        join old mid new (J.may_leave old) (λ left. J.may_leave mid left ⊎ (left ≡ anew)) (LeavesTold old) first second (λ left now. inl now)
        (λ left is. ⊎_elim (λ now. inl (first.each left (counts mid (J.moment old) left first.later now))) (λ same. inr (all left same)) is)

    pub gathered_then_opened : (old mid new : D) → ReservesAll (J.contents old) (J.contents mid) → LeavesOnly J.moment J.left_since old mid (LeavesTold old)
        → LeavesOnly J.moment J.left_since mid new (λ left. J.may_leave mid left ⊎ ((records : List (List ℕ)) → Stands (J.contents mid) records → Stands left records))
        → LeavesOnly J.moment J.left_since old new (LeavesTold old)
    gathered_then_opened old mid new all first second =
        join old mid new (LeavesTold old) (λ left. J.may_leave mid left ⊎ ((records : List (List ℕ)) → Stands (J.contents mid) records → Stands left records)) (LeavesTold old) first second (λ left now. now)
        (λ left is. ⊎_elim (λ now. first.each left (counts mid (J.moment old) left first.later now))
        (λ same. inr (record {
          bound = all.bound;
          told = all.told;
          reserved = record { records = all.reserved.records; stands = same all.reserved.records all.reserved.stands; fit = all.reserved.fit; bound_is = all.reserved.bound_is };
        })) is)

-- the records that are read of what was gathered reserve all that was told
pub opened_told : OneReading → (bytes left : List ℕ) (records : List (List ℕ)) (reserved : ℕ) → ReservesAll bytes left → Stands left records → reserved ≡ reserved_by records → Tells bytes reserved
opened_told reading bytes left records reserved all stands is =
    let same = reading left all.reserved.records records all.reserved.stands stands in
    subst (λ (n : ℕ). Tells bytes n) (all.reserved.bound_is ∙ ap (λ (l : List (List ℕ)). reserved_by l) same ∙ sym is) all.told

-- bytes that reserve something are no bad ones, and have no other record
pub gathered_is_good : BadIsNone → (bytes left : List ℕ) (offset : ℕ) → ReservesAll bytes left → IsBadBook left offset → ⊥
gathered_is_good none bytes left offset all bad = none left offset all.reserved.records bad all.reserved.stands

pub gathered_is_fit : OneReading → (bytes left : List ℕ) (records : List (List ℕ)) → ReservesAll bytes left → Stands left records → AreReservations records
gathered_is_fit reading bytes left records all stands =
    subst (λ (l : List (List ℕ)). AreReservations l) (reading left all.reserved.records records all.reserved.stands stands) all.reserved.fit

pub same_error : (a b : CounterError) → Counter a ≡ Counter b → a ≡ b
same_error a b is = cc is
