-- The links of a meter by the key files of head ends, one file after another.
use Rattle.std.proofs.Common.{◌≡◌, ◌∙◌, ℕ, zero, suc, ◌+◌, ◌<◌, ◌≤◌, Bool, true, false, List, [], ◌∷◌, ◌++◌, Option, Some, None, Contains, take, get_or, length, refl, sym, ap, subst, arith}
use Rattle.std.specs.Prelude.{MatchOption}
use Rattle.std.specs.List.{AllZip}
use Rattle.std.specs.declared.net.socket_addr.SocketAddr.{SocketAddr}
use Rattle.std.specs.contracts.net.socket_addr.SocketAddrPartialEq.TheImpl as socket_eq
use Rattle.std.proofs.lemmas.Bool.{false≢true}
use Rattle.std.proofs.lemmas.List.{take_all, take_more}
use Rattle.std.proofs.lemmas.List.Elements.{All-nil, All-push, Contains-append_left, Contains-push}
use Rattle.fw_keys.specs.Links.{Links as KeyLinks, HasNoEnd, ends_of}
use Rattle.fw_keys.specs.Making.{other_file}
use Rattle.fw_keys.specs.declared.entry.Entry.{Entry}
use Rattle.fw_seal.specs.Sealing.{Ends}
use Rattle.fw_sealport.specs.Peers.{Adds, peer_at}
use Rattle.fw_sealport.specs.declared.links.Links.{Links}
use Rattle.fw_sealport.specs.declared.peer.Peer.{Peer}
use Rattle.fw_sealport.specs.declared.window.Order.{Order}
use Rattle.fw_auditor.specs.Keyed.{AreLinksBy, HasNoLink, HasNoneAt, IsKeyFileOf, IsPeerAt, turned}
use Rattle.fw_auditor.specs.Private.{IsLinkBy}
use Rattle.fw_auditor.specs.declared.keys.KeyedHead.{KeyedHead}
use Rattle.fw_auditor.specs.declared.options.KeyOption.{KeyOption}
use Rattle.fw_auditor.proofs.Sockets.{equal_itself, exact_socket}

abbrev NoneOf : ℕ → SocketAddr → KeyedHead → Type 0
NoneOf meter address head = head.at ≡ address → HasNoEnd head.file.entries meter

abbrev At : (Ends → Ends) → List KeyedHead → ℕ → SocketAddr → Option Peer → Type 0
At view heads meter address o = MatchOption o (HasNoneAt heads meter address) (λ peer. IsPeerAt view heads meter address peer)

-- no file
pub none_yet : (view : Ends → Ends) (order : Order) (meter : ℕ) (links : Links) → ((address : SocketAddr) → peer_at links address ≡ None) → links.order ≡ order
    → AreLinksBy view order [] meter links
none_yet view order meter links none is = record {
  order_is = is;
  peers = λ address. subst (λ (o : Option Peer). At view [] meter address o) (sym (none address)) (All-nil (NoneOf meter address));
}

-- one file more
one_more : (heads : List KeyedHead) (i : ℕ) (head : KeyedHead) → i < length heads → head ≡ get_or heads i head → take (i + 1) heads ≡ take i heads ++ head ∷ []
one_more heads i head within is = take_more heads i head within ∙ ap (λ (h : KeyedHead). take i heads ++ h ∷ []) (sym is)

module _ (view : Ends → Ends) (order : Order) (heads : List KeyedHead) (i : ℕ) (head : KeyedHead) (meter : ℕ) (within : i < length heads) (is : head ≡ get_or heads i head) where
  more_heads : take (i + 1) heads ≡ take i heads ++ head ∷ []
  more_heads = one_more heads i head within is

  -- an address of which the file says nothing
  beside : (address : SocketAddr) (o : Option Peer) → At view (take i heads) meter address o → NoneOf meter address head → At view (take (i + 1) heads) meter address o
  beside address None none here =
      subst (λ (hs : List KeyedHead). HasNoneAt hs meter address) (sym more_heads) (All-push (NoneOf meter address) (take i heads) head none here)
  beside address (Some peer) some here = record {
    head = some.head;
    among = subst (λ (hs : List KeyedHead). Contains hs some.head) (sym more_heads) (Contains-append_left (take i heads) (head ∷ []) some.head some.among);
    at = some.at;
    is = some.is;
  }

  -- a file without a link with the meter
  pub without : (links : Links) → AreLinksBy view order (take i heads) meter links → HasNoEnd head.file.entries meter → AreLinksBy view order (take (i + 1) heads) meter links
  without links are none = record { order_is = are.order_is; peers = λ address. beside address (peer_at links address) (are.peers address) (λ there. none) }

  -- one with a link
  module _ (links more : Links) (ends : Ends) (are : AreLinksBy view order (take i heads) meter links) (adds : Adds links head.at ends more)
      (link : IsLinkBy view head.file meter ends) where
    at_address : (address : SocketAddr) (same : Bool) → socket_eq.ghosts.eq head.at address ≡ same → At view (take (i + 1) heads) meter address (peer_at more address)
    at_address address true equal =
        subst (λ (a : SocketAddr). At view (take (i + 1) heads) meter a (peer_at more a)) (exact_socket head.at address equal)
        (subst (λ (o : Option Peer). At view (take (i + 1) heads) meter head.at o) (sym adds.there) (record {
          head = head;
          among = subst (λ (hs : List KeyedHead). Contains hs head) (sym more_heads) (Contains-push (take i heads) head);
          at = refl;
          is = record {
            entry = link.entry;
            within = link.within;
            named = link.named;
            link = adds.link ∙ link.is;
            none_came = adds.none_came;
          };
        }))
    at_address address false apart =
        subst (λ (o : Option Peer). At view (take (i + 1) heads) meter address o) (sym (adds.others address apart))
        (beside address (peer_at links address) (are.peers address) (λ there. absurd (false≢true (sym apart ∙ equal_itself head.at address there))))

    pub with_link : AreLinksBy view order (take (i + 1) heads) meter more
    with_link = record { order_is = adds.order ∙ are.order_is; peers = λ address. at_address address (socket_eq.ghosts.eq head.at address) refl }

-- no file so far has a link
pub none_more : (heads : List KeyedHead) (i : ℕ) (head : KeyedHead) (meter : ℕ) → i < length heads → head ≡ get_or heads i head → HasNoLink (take i heads) meter
    → HasNoEnd head.file.entries meter → HasNoLink (take (i + 1) heads) meter
none_more heads i head meter within is none here = subst (λ (hs : List KeyedHead). HasNoLink hs meter) (sym (one_more heads i head within is))
    (All-push (λ (h : KeyedHead). HasNoEnd h.file.entries meter) (take i heads) head none here)

-- a file that has one is among no such files
pub some_link : (heads : List KeyedHead) (i : ℕ) (head : KeyedHead) (meter : ℕ) (entry : Entry ℕ) → i < length heads → head ≡ get_or heads i head
    → Contains head.file.entries entry → entry.end ≡ meter → HasNoLink heads meter → ⊥
some_link heads i head meter entry within is (k, inside, there) named none =
    let here : HasNoEnd head.file.entries meter = subst (λ (h : KeyedHead). HasNoEnd h.file.entries meter) (sym is) (none i head within) in
    here k entry inside (ap (λ (e : Entry ℕ). e.end) there ∙ named)

-- all files
pub all_links : (view : Ends → Ends) (order : Order) (heads : List KeyedHead) (i meter : ℕ) (links : Links) → length heads ≤ i → AreLinksBy view order (take i heads) meter links
    → AreLinksBy view order heads meter links
all_links view order heads i meter links all are = subst (λ (hs : List KeyedHead). AreLinksBy view order hs meter links) (take_all i heads all) are

pub no_link : (heads : List KeyedHead) (i meter : ℕ) → length heads ≤ i → HasNoLink (take i heads) meter → HasNoLink heads meter
no_link heads i meter all none = subst (λ (hs : List KeyedHead). HasNoLink hs meter) (take_all i heads all) none

-- a key file more
zip_push : (options : List KeyOption) (heads : List KeyedHead) (option : KeyOption) (head : KeyedHead) → AllZip IsKeyFileOf options heads → IsKeyFileOf option head
    → AllZip IsKeyFileOf (options ++ option ∷ []) (heads ++ head ∷ [])
zip_push [] [] option head all is = (is, tt)
zip_push [] (h ∷ hs) option head all is = absurd all
zip_push (o ∷ os) [] option head all is = absurd all
zip_push (o ∷ os) (h ∷ hs) option head all is = (all.0, zip_push os hs option head all.1 is)

pub one_file_more : (options : List KeyOption) (i : ℕ) (option : KeyOption) (heads more : List KeyedHead) (head : KeyedHead) → i < length options → option ≡ get_or options i option
    → AllZip IsKeyFileOf (take i options) heads → IsKeyFileOf option head → more ≡ heads ++ head ∷ [] → AllZip IsKeyFileOf (take (i + 1) options) more
one_file_more options i option heads more head within is all file added =
    subst (λ (hs : List KeyedHead). AllZip IsKeyFileOf (take (i + 1) options) hs) (sym added)
    (subst (λ (os : List KeyOption). AllZip IsKeyFileOf os (heads ++ head ∷ []))
    (sym (take_more options i option within ∙ ap (λ (o : KeyOption). take i options ++ o ∷ []) (sym is))) (zip_push (take i options) heads option head all file))

pub all_files : (options : List KeyOption) (i : ℕ) (heads : List KeyedHead) → length options ≤ i → AllZip IsKeyFileOf (take i options) heads → AllZip IsKeyFileOf options heads
all_files options i heads all are = subst (λ (os : List KeyOption). AllZip IsKeyFileOf os heads) (take_all i options all) are

-- ---- the file of a meter has one link

only_one : {X : Type 0} (x y : X) → Contains (x ∷ []) y → y ≡ x
only_one x y (zero, inside, is) = sym is
only_one x y (suc i, inside, is) = absurd (omega (arith, inside))

pub has_name : (own : List ℕ) (entry : Entry ℕ) (name : SocketAddr) (file : KeyLinks SocketAddr) → file ≡ other_file own entry name → HasNoEnd file.entries name → ⊥
has_name own entry name file is none =
    subst (λ (f : KeyLinks SocketAddr). HasNoEnd f.entries name) is none 0 (record { end = name; keys = entry.keys }) (omega arith) refl

-- it is the head end's, turned round
pub link_by : (head : KeyLinks ℕ) (meter : ℕ) (name : SocketAddr) (entry : Entry ℕ) (file : KeyLinks SocketAddr) (link : Ends) (there : Entry SocketAddr) → Contains head.entries entry → entry.end ≡ meter
    → file ≡ other_file head.own entry name → Contains file.entries there → link ≡ ends_of file.own there.keys → IsLinkBy turned head meter link
link_by head meter name entry file link there within named is inside linked =
    let only = only_one _ there (subst (λ (f : KeyLinks SocketAddr). Contains f.entries there) is inside) in
    record {
      entry = entry;
      within = within;
      named = named;
      is = linked ∙ ap (λ (f : KeyLinks SocketAddr). ends_of f.own there.keys) is ∙ ap (λ (e : Entry SocketAddr). ends_of entry.keys.title e.keys) only;
    }
