-- The meters of a list and their waves: records of comma-separated values, and their fields.
use Rattle.std.proofs.Common.{Bor, ◌≡◌, ℕ, zero, suc, ◌<◌, Bool, true, false, List, [], ◌∷◌, ◌++◌, length, Option, Some, None, refl, sym, ap, subst, ◌∙◌, arith, inl, inr, append_assoc}
use Rattle.std.specs.Prelude.{◌⊎◌, IfSome, IsUtf8, MatchOption, if◌then◌else◌}
use Rattle.std.specs.declared.net.socket_addr.SocketAddr.{SocketAddr}
use Rattle.std.proofs.lemmas.Bool.{false≢true}
use Rattle.csv.specs.Machine.{Read, ends_at_end, field_after, fields_after, is_end, next_record, step}
use Rattle.csv.specs.Reading.{AreRecords, ExplainsRead, ReadRecord, Reached, Ready, default_config, source_of, stops_reader, strip_bom}
use Rattle.csv.specs.declared.error.ErrorKind.{ErrorKind}
use Rattle.csv.specs.declared.error.ErrorKind.TheVariants as kind
use Rattle.csv.specs.declared.reader.Reader.{Reader}
use Rattle.csv.specs.declared.reader.Trim.TheVariants as trim
use Rattle.csv.proofs.ReadFacts.{rows-end, rows-more}
use Rattle.csv.specs.declared.parser.Config.{Config}
use Rattle.csv.specs.declared.parser.State.{State}
use Rattle.csv.specs.declared.parser.State.TheVariants as st
use Rattle.fw_rollout.specs.declared.link.Listed.{Listed}
use Rattle.fw_rollout.specs.Daemon.{IsList}
use Rattle.std.specs.Net.Grammar.{IsSocketText}
use Rattle.std.specs.Str.Parse.{digits_value, without_leading_plus}
use Rattle.std.proofs.NetLemmas.Theorems.{IsSocketText_unique}
use Rattle.csv.specs.Records.{AllText, field_at}
use Rattle.fw_host.specs.Lists.{CanBeAsked, IsAddressOf, IsNoAddress, IsNoList, NamesHost, SpellsAll, SpellsList, SpellsNumber, SpellsPlanned, SpellsWave}
use Rattle.fw_host.specs.Private.{HasWave}
use Rattle.fw_host.specs.Waves.{listed_in}
use Rattle.fw_host.specs.declared.wave_list.Planned.{Planned}

-- ---- records

at_end : (ends : Bool) (fields : List (List ℕ)) (r : Read) → (if ends then Some (fields, st.StartRecord, []) else None) ≡ Some r
    → (length r.2 < 0) ⊎ ((r.1 ≡ st.StartRecord) × (r.2 ≡ []))
at_end true fields r e = let same : (fields, st.StartRecord, []) ≡ r = cc in inr (sym (ap (λ (p : Read). p.1) same), sym (ap (λ (p : Read). p.2) same))
at_end false fields r e = absurd (cc e)

goes_on : (ends : Bool) (fields : List (List ℕ)) (s : State) (c : ℕ) (rest : List ℕ) (r : Read) {more : Option Read} → (if ends then Some (fields, s, rest) else more) ≡ Some r
    → (more ≡ Some r → (length r.2 < length rest) ⊎ ((r.1 ≡ st.StartRecord) × (r.2 ≡ [])))
    → (length r.2 < length (c ∷ rest)) ⊎ ((r.1 ≡ st.StartRecord) × (r.2 ≡ []))
goes_on true fields s c rest r e others = let same : (fields, s, rest) ≡ r = cc in inl (omega (arith, ap length (ap (λ (p : Read). p.2) same)))
goes_on false fields s c rest r e others = elim (others e) [ inl less ↦ inl (omega arith) | inr last ↦ inr last ]

-- a record that was read leaves less, or was the last
shorter : (config : Config) (s : State) (fields : List (List ℕ)) (field text : List ℕ) (r : Read) → next_record config s fields field text ≡ Some r
    → (length r.2 < length text) ⊎ ((r.1 ≡ st.StartRecord) × (r.2 ≡ []))
unfolding next_record
shorter config s fields field [] r e = at_end (ends_at_end s) _ _ e
shorter config s fields field (c ∷ rest) r e =
    goes_on (is_end (step config s c).1) _ _ c rest r e (shorter config (step config s c).0 (fields_after (step config s c).1 fields field) (field_after (step config s c).1 c field) rest r)

pub reached_append : (config : Config) (s t u : State) (text behind last : List ℕ) (rows more : List (List (List ℕ))) → Reached config s text rows t behind
    → Reached config t behind more u last → Reached config s text (rows ++ more) u last
unfolding Reached
reached_append config s t u text behind last [] more reached next = rw (reached.0, reached.1) next
reached_append config s t u text behind last (row ∷ rows) more reached next =
    (reached.0, reached.1, reached.2, reached_append config reached.0.1 t u reached.0.2 behind last rows more reached.3 next)

from_next : (config : Config) (n : ℕ) (s : State) (text : List ℕ) (next : Option Read) → next_record config s [] [] text ≡ next → length text < suc n
    → ((t : State) (rest : List ℕ) → length rest < n → (rows : List (List (List ℕ))) × AreRecords config t rest rows)
    → (rows : List (List (List ℕ))) × AreRecords config s text rows
unfolding Reached next_record
from_next config n s text None e short others = ([], (s, text, (refl, refl), e))
from_next config n s text (Some r) e short others = elim (shorter config s [] [] text r e) [
  | inl less ↦ let (rows, (t, last, reached, none)) = others r.1 r.2 (omega arith) in (r.0 ∷ rows, (t, last, (r, e, refl, reached), none))
  | inr last ↦ (r.0 ∷ [], (st.StartRecord, [], (r, e, refl, (last.0, last.1)), refl))
]

-- every text has records
records_within : (config : Config) (n : ℕ) (s : State) (text : List ℕ) → length text < n → (rows : List (List (List ℕ))) × AreRecords config s text rows
records_within config zero s text short = absurd (omega arith)
records_within config (suc n) s text short = from_next config n s text (next_record config s [] [] text) refl short (records_within config n)

pub all_records : (config : Config) (s : State) (text : List ℕ) → (rows : List (List (List ℕ))) × AreRecords config s text rows
all_records config s text = records_within config (suc (length text)) s text (omega arith)

pub spells_more : (own : SocketAddr) (records : List (List (List ℕ))) (list : List Planned) (fields : List (List ℕ)) (at : Planned) → SpellsAll own records list → SpellsPlanned own fields at
    → SpellsAll own (records ++ fields ∷ []) (list ++ at ∷ [])
spells_more own [] [] fields at all one = (one, tt)
spells_more own [] (first ∷ list) fields at all one = absurd all
spells_more own (row ∷ records) [] fields at all one = absurd all
spells_more own (row ∷ records) (first ∷ list) fields at all one = (all.0, spells_more own records list fields at all.1 one)

-- ---- fields

-- a record has two fields or three
count_of : (first second : List ℕ) (rest : List (List ℕ)) (wave : ℕ) → SpellsWave rest wave → (length (first ∷ second ∷ rest) ≡ 2) ⊎ (length (first ∷ second ∷ rest) ≡ 3)
count_of first second [] wave is = inl refl
count_of first second (field ∷ []) wave is = inr refl
count_of first second (field ∷ other ∷ rest) wave is = absurd is

pub other_count : (fields : List (List ℕ)) → ¬ (length fields ≡ 2) → ¬ (length fields ≡ 3) → (wave : ℕ) → ¬ HasWave fields wave
other_count fields not_two not_three wave has = elim (count_of has.first has.second has.rest wave has.is_wave) [
  | inl two ↦ not_two (ap length has.are ∙ two)
  | inr three ↦ not_three (ap length has.are ∙ three)
]

-- one of two is of the first wave
pub two_fields : (fields : List (List ℕ)) → length fields ≡ 2 → HasWave fields 0
unfolding AllText
two_fields [] two = absurd (omega arith)
two_fields (a ∷ []) two = absurd (omega arith)
two_fields (a ∷ b ∷ []) two = record { first = a; second = b; rest = []; are = refl; text = tt; is_wave = refl }
two_fields (a ∷ b ∷ c ∷ more) two = absurd (omega arith)

-- and one of three of the wave that the third names
third_field : (fields : List (List ℕ)) (field : List ℕ) (wave : ℕ) → length fields ≡ 3 → field_at fields 2 ≡ Some field → IsUtf8 field → SpellsNumber 8 field wave → HasWave fields wave
unfolding AllText field_at
third_field [] field wave three is text names = absurd (omega arith)
third_field (a ∷ []) field wave three is text names = absurd (omega arith)
third_field (a ∷ b ∷ []) field wave three is text names = absurd (omega arith)
third_field (a ∷ b ∷ c ∷ []) field wave three is text names =
    let same : c ≡ field = cc is in
    record { first = a; second = b; rest = c ∷ []; are = refl; text = (subst IsUtf8 (sym same) text, tt); is_wave = subst (λ (f : List ℕ). SpellsNumber 8 f wave) (sym same) names }
third_field (a ∷ b ∷ c ∷ d ∷ more) field wave three is text names = absurd (omega arith)

abbrev HasThird : List (List ℕ) → ℕ → Type 0
HasThird fields wave = (field : List ℕ) × (field_at fields 2 ≡ Some field) × IsUtf8 field × SpellsNumber 8 field wave

third_of : (first second : List ℕ) (rest : List (List ℕ)) (wave : ℕ) → length (first ∷ second ∷ rest) ≡ 3 → AllText rest → SpellsWave rest wave → HasThird (first ∷ second ∷ rest) wave
unfolding AllText field_at
third_of first second [] wave three text is = absurd (omega arith)
third_of first second (field ∷ []) wave three text is = (field, refl, text.0, is)
third_of first second (field ∷ other ∷ rest) wave three text is = absurd is

wave_third : (fields : List (List ℕ)) (wave : ℕ) → length fields ≡ 3 → HasWave fields wave → HasThird fields wave
wave_third fields wave three has =
    subst (λ (fs : List (List ℕ)). HasThird fs wave) (sym has.are) (third_of has.first has.second has.rest wave (ap length (sym has.are) ∙ three) has.text has.is_wave)

-- the third is no text
pub third_bad : (fields : List (List ℕ)) → length fields ≡ 3 → IfSome (field_at fields 2) (λ field. ¬ IsUtf8 field) → (wave : ℕ) → ¬ HasWave fields wave
third_bad fields three bad wave has =
    let (field, is, text, names) = wave_third fields wave three has in
    (rw is at bad) text

pub third_named : (fields : List (List ℕ)) (field : List ℕ) (named : Option ℕ) → length fields ≡ 3 → (field_at fields 2 ≡ Some field) × IsUtf8 field
    → MatchOption named ((wave : ℕ) → ¬ SpellsNumber 8 field wave) (λ wave. SpellsNumber 8 field wave) → MatchOption named ((wave : ℕ) → ¬ HasWave fields wave) (λ wave. HasWave fields wave)
third_named fields field None three is none = λ wave has.
    let (other, at, text, names) = wave_third fields wave three has in
    let same : other ≡ field = cc (at, is.0) in
    none wave (subst (λ (f : List ℕ). SpellsNumber 8 f wave) same names)
third_named fields field (Some wave) three is names = third_field fields field wave three is.0 is.1 names

-- the first two
two_first : (a b : List ℕ) (rest : List (List ℕ)) (number address : List ℕ) → field_at (a ∷ b ∷ rest) 0 ≡ Some number → field_at (a ∷ b ∷ rest) 1 ≡ Some address
    → a ∷ b ∷ rest ≡ number ∷ address ∷ rest
unfolding field_at
two_first a b rest number address first second = cc

fields_are : (fields : List (List ℕ)) (number address : List ℕ) (wave : ℕ) (has : HasWave fields wave) → field_at fields 0 ≡ Some number → field_at fields 1 ≡ Some address
    → fields ≡ number ∷ address ∷ has.rest
fields_are fields number address wave has first second =
    has.are ∙ two_first has.first has.second has.rest number address
    (ap (λ (fs : List (List ℕ)). field_at fs 0) (sym has.are) ∙ first) (ap (λ (fs : List (List ℕ)). field_at fs 1) (sym has.are) ∙ second)

all_text : (number address : List ℕ) (rest : List (List ℕ)) → IsUtf8 number → IsUtf8 address → AllText rest → AllText (number ∷ address ∷ rest)
unfolding AllText
all_text number address rest a b more = (a, (b, more))

pub spells_planned : (own : SocketAddr) (fields : List (List ℕ)) (number address : List ℕ) (planned : Planned) → HasWave fields planned.wave
    → (field_at fields 0 ≡ Some number) × IsUtf8 number → (field_at fields 1 ≡ Some address) × IsUtf8 address
    → SpellsNumber 32 number planned.at.meter → IsAddressOf address planned.at.address × CanBeAsked own planned.at.address → SpellsPlanned own fields planned
spells_planned own fields number address planned has first second is_number is_address =
    let same = fields_are fields number address planned.wave has first.0 second.0 in
    record {
      number = number;
      address = address;
      rest = has.rest;
      are = same;
      text = subst AllText (sym same) (all_text number address has.rest first.1 second.1 has.text);
      is_number = is_number;
      is_address = is_address.0;
      is_asked = is_address.1;
      is_wave = has.is_wave;
    }

-- what a line of a list has in its fields
pub record HasFields (own : SocketAddr) (fields : List (List ℕ)) (planned : Planned) : Type 0 where
  pub number : List ℕ
  pub address : List ℕ
  pub first : field_at fields 0 ≡ Some number
  pub second : field_at fields 1 ≡ Some address
  pub number_is_text : IsUtf8 number
  pub address_is_text : IsUtf8 address
  pub is_number : SpellsNumber 32 number planned.at.meter
  pub is_address : IsAddressOf address planned.at.address
  pub is_asked : CanBeAsked own planned.at.address
  pub has_wave : HasWave fields planned.wave

pub has_fields : (own : SocketAddr) (fields : List (List ℕ)) (planned : Planned) → SpellsPlanned own fields planned → HasFields own fields planned
unfolding AllText field_at
has_fields own fields planned spells =
    let text : AllText (spells.number ∷ spells.address ∷ spells.rest) = subst AllText spells.are spells.text in
    record {
      number = spells.number;
      address = spells.address;
      first = rw spells.are refl;
      second = rw spells.are refl;
      number_is_text = text.0;
      address_is_text = text.1.0;
      is_number = spells.is_number;
      is_address = spells.is_address;
      is_asked = spells.is_asked;
      has_wave = record { first = spells.number; second = spells.address; rest = spells.rest; are = spells.are; text = text.1.1; is_wave = spells.is_wave };
    }

listed_of : ℕ → SocketAddr → Listed
listed_of meter address = record { meter = meter; address = address }

same_listed : (a b : Listed) → a.meter ≡ b.meter → a.address ≡ b.address → a ≡ b
unfolding listed_of
same_listed a b meter address = ap (λ n. listed_of n a.address) meter ∙ ap (listed_of b.meter) address

planned_of : Listed → ℕ → Planned
planned_of at wave = record { at = at; wave = wave }

same_planned : (a b : Planned) → a.at ≡ b.at → a.wave ≡ b.wave → a ≡ b
unfolding planned_of
same_planned a b at wave = ap (λ l. planned_of l a.wave) at ∙ ap (planned_of b.at) wave

-- if a text spells an address, it gives that one alone
one_address : (text : List ℕ) (a b : SocketAddr) → IsSocketText text a → IsAddressOf text b → a ≡ b
one_address text a b spells (inl other) = IsSocketText_unique text a b spells other
one_address text a b spells (inr none) = absurd (none a spells)

one_wave : (fields : List (List ℕ)) (a b : ℕ) → SpellsWave fields a → SpellsWave fields b → a ≡ b
one_wave [] a b x y = x ∙ sym y
one_wave (field ∷ []) a b x y = x.value ∙ sym y.value
one_wave (field ∷ other ∷ fields) a b x y = absurd x

one_planned : (own : SocketAddr) (fields : List (List ℕ)) (a b : Planned) (x : SpellsPlanned own fields a) → IsSocketText x.address a.at.address → SpellsPlanned own fields b → a ≡ b
one_planned own fields a b x spells y =
    let same : x.number ∷ x.address ∷ x.rest ≡ y.number ∷ y.address ∷ y.rest = sym x.are ∙ y.are in
    let numbers : x.number ≡ y.number = cc same in
    let addresses : x.address ≡ y.address = cc same in
    let rests : x.rest ≡ y.rest = cc same in
    same_planned a b
    (same_listed a.at b.at (x.is_number.value ∙ ap (λ text. digits_value 10 (without_leading_plus text)) numbers ∙ sym y.is_number.value)
    (one_address y.address a.at.address b.at.address (subst (λ text. IsSocketText text a.at.address) addresses spells) y.is_address))
    (one_wave y.rest a.wave b.wave (subst (λ (fs : List (List ℕ)). SpellsWave fs a.wave) rests x.is_wave) y.is_wave)

one_or_host : (own : SocketAddr) (fields : List (List ℕ)) (a : Planned) (x : SpellsPlanned own fields a) → IsAddressOf x.address a.at.address
    → NamesHost fields ⊎ ((b : Planned) → SpellsPlanned own fields b → a ≡ b)
one_or_host own fields a x (inl spells) = inr (λ b y. one_planned own fields a b x spells y)
one_or_host own fields a x (inr none) = inl (record { number = x.number; address = x.address; rest = x.rest; wave = a.wave; are = x.are; named = none; is_wave = x.is_wave })

-- a line spells one meter at most, or names a host
pub one_planned_or_host : (own : SocketAddr) (fields : List (List ℕ)) (a : Planned) → SpellsPlanned own fields a
    → NamesHost fields ⊎ ((b : Planned) → SpellsPlanned own fields b → a ≡ b)
one_planned_or_host own fields a x = one_or_host own fields a x x.is_address

-- if a text spells an address that can't be asked, it has none that can
pub none_asked : (own : SocketAddr) (text : List ℕ) (a : SocketAddr) → IsSocketText text a → ¬ CanBeAsked own a
    → IsNoAddress text ⊎ ((b : SocketAddr) → IsAddressOf text b → ¬ CanBeAsked own b)
none_asked own text a spells none = inr (λ b is asked. none (subst (CanBeAsked own) (sym (one_address text a b spells is)) asked))

-- what the system has for a text that spells no address
pub looked_up : (own : SocketAddr) (text : List ℕ) (found : Option SocketAddr) → IsNoAddress text → IfSome found (CanBeAsked own)
    → MatchOption found (IsNoAddress text ⊎ ((b : SocketAddr) → IsAddressOf text b → ¬ CanBeAsked own b)) (λ b. IsAddressOf text b × CanBeAsked own b)
looked_up own text None none asked = inl none
looked_up own text (Some address) none asked = (inr none, asked)

-- a line whose second field has no address that can be asked spells no meter, or names a host
pub no_address : (own : SocketAddr) (fields : List (List ℕ)) (number address : List ℕ) (wave : ℕ) → HasWave fields wave → field_at fields 0 ≡ Some number → field_at fields 1 ≡ Some address
    → IsNoAddress address ⊎ ((b : SocketAddr) → IsAddressOf address b → ¬ CanBeAsked own b)
    → NamesHost fields ⊎ ((planned : Planned) → ¬ SpellsPlanned own fields planned)
no_address own fields number address wave has first second (inl none) =
    inl (record { number = number; address = address; rest = has.rest; wave = wave; are = fields_are fields number address wave has first second; named = none; is_wave = has.is_wave })
no_address own fields number address wave has first second (inr none) = inr (λ planned spells.
    let same : spells.number ∷ spells.address ∷ spells.rest ≡ number ∷ address ∷ has.rest = sym spells.are ∙ fields_are fields number address wave has first second in
    let addresses : spells.address ≡ address = cc same in
    none planned.at.address (subst (λ text. IsAddressOf text planned.at.address) addresses spells.is_address) spells.is_asked)

-- no meter can be added that the line spells, if it names no host
pub none_added : (own : SocketAddr) (fields : List (List ℕ)) (meters : List Planned) (a : Planned) → NamesHost fields ⊎ ((b : Planned) → SpellsPlanned own fields b → a ≡ b)
    → ¬ IsList (listed_in (meters ++ a ∷ [])) → NamesHost fields ⊎ ((planned : Planned) → SpellsPlanned own fields planned → ¬ IsList (listed_in (meters ++ planned ∷ [])))
none_added own fields meters a (inl host) twice = inl host
none_added own fields meters a (inr one) twice =
    inr (λ planned spells is_list. twice (subst (λ (p : Planned). IsList (listed_in (meters ++ p ∷ []))) (sym (one planned spells)) is_list))

-- a line that spells no meter
pub none_spelled : (own : SocketAddr) (fields : List (List ℕ)) (meters : List Planned) → NamesHost fields ⊎ ((planned : Planned) → ¬ SpellsPlanned own fields planned)
    → NamesHost fields ⊎ ((planned : Planned) → SpellsPlanned own fields planned → ¬ IsList (listed_in (meters ++ planned ∷ [])))
none_spelled own fields meters (inl host) = inl host
none_spelled own fields meters (inr none) = inr (λ planned spells is_list. none planned spells)

-- ---- the list so far

-- these are the meters of the records that the reader gave so far
pub record IsRead (own : SocketAddr) (text : List ℕ) (reader : Reader (Bor (List ℕ))) (meters : List Planned) : Type 0 where
  pub trim : reader.trim ≡ trim.None
  pub ready : Ready reader
  pub config : reader.config ≡ default_config
  pub flexible : reader.flexible ≡ true
  pub left : List ℕ
  pub source : source_of (λ (s : Bor (List ℕ)). Some s.now) reader ≡ Some left
  pub records : List (List (List ℕ))
  pub reached : Reached default_config st.StartRecord (strip_bom text) records reader.state left
  pub spells : SpellsAll own records meters
  pub once : IsList (listed_in meters)

pub record_read : (own : SocketAddr) (text : List ℕ) (a b : Reader (Bor (List ℕ))) (meters next : List Planned) (fields : List (List ℕ)) → IsRead own text a meters
    → ReadRecord (λ (s : Bor (List ℕ)). Some s.now) a b true fields → b.first ≡ true → b.flexible ≡ a.flexible → IsList (listed_in next)
    → (at : Planned) × SpellsPlanned own fields at × (next ≡ meters ++ at ∷ []) → IsRead own text b next
record_read own text a b meters next fields is read first flexible once taken =
    let (left, source, reached) = rows-more (λ (s : Bor (List ℕ)). Some s.now) a b fields default_config st.StartRecord (strip_bom text) is.left is.records is.config is.source is.reached read in
    let (at, spells, items) = taken in
    record {
      trim = read.3 ∙ is.trim;
      ready = inl first;
      config = read.2 ∙ is.config;
      flexible = flexible ∙ is.flexible;
      left = left;
      source = source;
      records = is.records ++ fields ∷ [];
      reached = reached;
      spells = rw items (spells_more own is.records meters fields at is.spells spells);
      once = once;
    }

-- a read of bytes stops for its reader or for memory alone
pub read_stops : (a b : Reader (Bor (List ℕ))) (why : ErrorKind) → ExplainsRead (λ (s : Bor (List ℕ)). Some s.now) a b false why → a.flexible ≡ true → stops_reader why ≡ true
read_stops a b (kind.Io e) explained flexible = refl
read_stops a b kind.OutOfMemory explained flexible = refl
read_stops a b (kind.UnequalLengths position expected count) explained flexible = absurd (false≢true (sym explained.0 ∙ flexible))
read_stops a b (kind.Utf8 position e) explained flexible = absurd (false≢true explained.0)
read_stops a b (kind.Serialize e) explained flexible = absurd explained
read_stops a b (kind.Deserialize position e) explained flexible = absurd explained

pub list_read : (own : SocketAddr) (text : List ℕ) (a b : Reader (Bor (List ℕ))) (meters : List Planned) (fields : List (List ℕ)) → IsRead own text a meters
    → ReadRecord (λ (s : Bor (List ℕ)). Some s.now) a b false fields → SpellsList own text meters
list_read own text a b meters fields is read = record {
  records = is.records;
  are = (a.state, is.left, is.reached, rows-end (λ (s : Bor (List ℕ)). Some s.now) a b fields default_config is.left is.config is.source read);
  spells = is.spells;
  once = is.once;
}

pub no_list : (own : SocketAddr) (text : List ℕ) (a b : Reader (Bor (List ℕ))) (meters : List Planned) (fields : List (List ℕ)) → IsRead own text a meters
    → ReadRecord (λ (s : Bor (List ℕ)). Some s.now) a b true fields → NamesHost fields ⊎ ((planned : Planned) → SpellsPlanned own fields planned → ¬ IsList (listed_in (meters ++ planned ∷ []))) → IsNoList own text
no_list own text a b meters fields is read none =
    let (left, source, reached) = rows-more (λ (s : Bor (List ℕ)). Some s.now) a b fields default_config st.StartRecord (strip_bom text) is.left is.records is.config is.source is.reached read in
    let (rest, (last, behind, more, end)) = all_records default_config b.state left in
    record {
      before = is.records;
      bad = fields;
      rest = rest;
      are = (last, behind, rw (append_assoc is.records (fields ∷ []) rest) at (reached_append default_config st.StartRecord b.state last (strip_bom text) left behind (is.records ++ fields ∷ []) rest reached more), end);
      list = meters;
      spells = is.spells;
      once = is.once;
      none = none;
    }
