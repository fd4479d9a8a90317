-- Public vocabulary: the links of a meter by the key files of head ends, and its capture as its log.
use Rattle.std.specs.Prelude.{◌≡◌, ◌⊎◌, ℕ, List, [], All, Contains, MatchOption}
use Rattle.std.specs.declared.net.socket_addr.SocketAddr.{SocketAddr}
use Rattle.fw_audit.specs.Log.{Item}
use Rattle.fw_evidence.specs.Captures.{IsLogOf}
use Rattle.fw_evidence.specs.Sealed.{IsSealedLogOf}
use Rattle.fw_evidence.specs.declared.error.Mark.{Mark}
use Rattle.fw_evidence.specs.declared.site.Site.{Site}
use Rattle.fw_keys.specs.KeyFiles.{SpellsHeadKeys}
use Rattle.fw_keys.specs.Links.{Links as KeyLinks, HasNoEnd, ends_of}
use Rattle.fw_keys.specs.declared.entry.Entry.{Entry}
use Rattle.fw_seal.specs.Sealing.{Ends}
use Rattle.fw_sealport.specs.Peers.{peer_at}
use Rattle.fw_sealport.specs.Windows.{Remembers}
use Rattle.fw_sealport.specs.declared.links.Links.{Links}
use Rattle.fw_sealport.specs.declared.peer.Peer.{Peer}
use Rattle.fw_sealport.specs.declared.window.Order.{Order}
use Rattle.fw_sealport.specs.declared.window.Order.TheVariants.{Strict}
use Rattle.fw_auditor.specs.declared.keys.KeyedHead.{KeyedHead}
use Rattle.fw_auditor.specs.declared.options.KeyOption.{KeyOption}

-- a link, as its other end has it, and as the end has it that is asked
abbrev pub turned : Ends → Ends
turned ends = record ends { own = ends.other; other = ends.own }

abbrev pub as_it_is : Ends → Ends
as_it_is ends = ends

-- The peer of a link of a file with this meter, as one of its ends has it. Nothing came from it yet.
pub record IsPeerBy (view : Ends → Ends) (file : KeyLinks ℕ) (meter : ℕ) (peer : Peer) : Type 0 where
  pub entry : Entry ℕ
  pub within : Contains file.entries entry
  pub named : entry.end ≡ meter
  pub link : peer.link ≡ view (ends_of file.own entry.keys)
  pub none_came : Remembers peer.window []

-- at this address is a head end whose file has a link with the meter, which this peer has
pub record IsPeerAt (view : Ends → Ends) (heads : List KeyedHead) (meter : ℕ) (address : SocketAddr) (peer : Peer) : Type 0 where
  pub head : KeyedHead
  pub among : Contains heads head
  pub at : head.at ≡ address
  pub is : IsPeerBy view head.file meter peer

-- no file of a head end at this address has a link with it
abbrev pub HasNoneAt : List KeyedHead → ℕ → SocketAddr → Type 0
HasNoneAt heads meter address = All (λ (head : KeyedHead). head.at ≡ address → HasNoEnd head.file.entries meter) heads

-- Links of a meter with just the head ends whose files have one with it, each at its address. What comes is taken in this order.
pub record AreLinksBy (view : Ends → Ends) (order : Order) (heads : List KeyedHead) (meter : ℕ) (links : Links) : Type 0 where
  pub order_is : links.order ≡ order
  pub peers : (address : SocketAddr) → MatchOption (peer_at links address) (HasNoneAt heads meter address) (λ peer. IsPeerAt view heads meter address peer)

-- the key file that an option names, at the address of its head end
pub record IsKeyFileOf (option : KeyOption) (head : KeyedHead) : Type 0 where
  pub at : head.at ≡ option.address
  pub text : List ℕ
  pub spells : SpellsHeadKeys text option.head head.file

-- no file has a link with a meter
abbrev pub HasNoLink : List KeyedHead → ℕ → Type 0
HasNoLink heads meter = All (λ (head : KeyedHead). HasNoEnd head.file.entries meter) heads

-- A capture is this log of a meter at a site: as it stands, if its links are plain; in plain words, if files of head ends have links with it.
abbrev pub IsLogBy : Order → List KeyedHead → ℕ → Site → List ℕ → List Item → List Mark → Type 0
IsLogBy order heads meter site capture log marks =
    (HasNoLink heads meter × IsLogOf site capture log marks)
    ⊎ IsSealedLogOf (AreLinksBy turned order heads meter) (AreLinksBy as_it_is Strict heads meter) site capture log marks
