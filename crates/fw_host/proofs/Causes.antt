-- Why a text is no list: the record that isn't taken, and what is wrong with it.
use Rattle.std.proofs.Common.{Bor, ◌≡◌, ℕ, true, List, [], ◌∷◌, ◌++◌, Option, Some, None, append_assoc, inl, inr}
use Rattle.std.specs.Prelude.{IfSome}
use Rattle.std.specs.declared.net.socket_addr.SocketAddr.{SocketAddr}
use Rattle.std.specs.Net.Grammar.{IsSocketText}
use Rattle.csv.specs.Reading.{ReadRecord, default_config, strip_bom}
use Rattle.csv.specs.Records.{field_at}
use Rattle.csv.specs.declared.reader.Reader.{Reader}
use Rattle.csv.proofs.ReadFacts.{rows-more}
use Rattle.csv.specs.declared.parser.State.TheVariants as st
use Rattle.fw_host.specs.ListCauses.{CantBeAsked, Explains, HasCause, HasField, RefusesAddress, RefusesFields, StandsIn}
use Rattle.fw_host.specs.Lists.{SpellsPlanned}
use Rattle.fw_host.specs.Waves.{listed_in}
use Rattle.fw_host.specs.declared.list_cause.ListCause.{ListCause}
use Rattle.fw_host.specs.declared.wave_list.Planned.{Planned}
use Rattle.fw_host.proofs.Listings.{IsRead, all_records, reached_append}

-- a record that is read and not taken, and why
cause_of_read : (own : SocketAddr) (text : List ℕ) (a b : Reader (Bor (List ℕ))) (meters : List Planned) (fields : List (List ℕ)) (cause : ListCause) → IsRead own text a meters
    → ReadRecord (λ (s : Bor (List ℕ)). Some s.now) a b true fields → Explains own meters fields cause → HasCause own text cause
cause_of_read own text a b meters fields cause is read explained =
    let (left, source, reached) = rows-more (λ (s : Bor (List ℕ)). Some s.now) a b fields default_config st.StartRecord (strip_bom text) is.left is.records is.config is.source is.reached read in
    let (rest, (last, behind, more, end)) = all_records default_config b.state left in
    record {
      before = is.records;
      bad = fields;
      rest = rest;
      are = (last, behind, rw (append_assoc is.records (fields ∷ []) rest) at (reached_append default_config st.StartRecord b.state last (strip_bom text) left behind (is.records ++ fields ∷ []) rest reached more), end);
      list = meters;
      spells = is.spells;
      once = is.once;
      explains = explained;
    }

pub cause_found : (own : SocketAddr) (text : List ℕ) (a b : Reader (Bor (List ℕ))) (meters : List Planned) (fields : List (List ℕ)) (why : Option ListCause) → IsRead own text a meters
    → ReadRecord (λ (s : Bor (List ℕ)). Some s.now) a b true fields → IfSome why (Explains own meters fields) → IfSome why (HasCause own text)
cause_found own text a b meters fields None is read explained = tt
cause_found own text a b meters fields (Some cause) is read explained = cause_of_read own text a b meters fields cause is read explained

-- ---- what is wrong with a record

pub of_fields : (own : SocketAddr) (list : List Planned) (fields : List (List ℕ)) (why : Option ListCause) → IfSome why (RefusesFields own fields) → IfSome why (Explains own list fields)
of_fields own list fields None refused = tt
of_fields own list fields (Some cause) refused = inl refused

pub of_two : (own : SocketAddr) (list : List Planned) (fields : List (List ℕ)) (planned : Planned) (why : Option ListCause) → SpellsPlanned own fields planned
    → IfSome why (StandsIn (listed_in list) planned.at) → IfSome why (Explains own list fields)
of_two own list fields planned None spells twice = tt
of_two own list fields planned (Some cause) spells twice = inr (planned, spells, twice)

pub of_field : (fields : List (List ℕ)) (at : ℕ) (field : List ℕ) (P : List ℕ → ListCause → Type 0) (why : Option ListCause) → field_at fields at ≡ Some field → IfSome why (P field)
    → IfSome why (λ cause. HasField fields at (λ f. P f cause))
of_field fields at field P None is refused = tt
of_field fields at field P (Some cause) is refused = record { field = field; is = is; holds = refused }

pub of_second : (own : SocketAddr) (fields : List (List ℕ)) (why : Option ListCause) → IfSome why (λ cause. HasField fields 1 (λ field. RefusesAddress own field cause))
    → IfSome why (RefusesFields own fields)
of_second own fields None refused = tt
of_second own fields (Some cause) refused = inr (inr (inl refused))

pub of_asking : (own : SocketAddr) (field : List ℕ) (address : SocketAddr) (why : Option ListCause) → IsSocketText field address → IfSome why (CantBeAsked own address)
    → IfSome why (RefusesAddress own field)
of_asking own field address None spells refused = tt
of_asking own field address (Some cause) spells refused = inr (address, spells, refused)
