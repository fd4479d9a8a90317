-- Public vocabulary: what it means that what is found of meters and of head ends fits, and the rows of books with it.
use Rattle.std.specs.Prelude.{◌≡◌, ◌<◌, ◌+◌, ◌++◌, ◌⊎◌, ℕ, List, map, take, All, Contains}
use Rattle.std.specs.List.{AllZip}
use Rattle.std.specs.Vec.{vec_len}
use Rattle.std.specs.declared.net.socket_addr.SocketAddr.{SocketAddr}
use Rattle.fw_audit.specs.Stands.{IsMeterLog}
use Rattle.fw_book.specs.Contents.{Contents}
use Rattle.fw_capture.specs.Whole.{IsWholeTo}
use Rattle.fw_evidence.specs.Heads.{IsHeadLogOf}
use Rattle.fw_evidence.specs.Stores.{IsAtRest}
use Rattle.fw_evidence.specs.declared.error.Mark.{Mark}
use Rattle.fw_evidence.specs.declared.site.Site.{Site}
use Rattle.fw_fleet_audit.specs.Laws.{audited_in, IsHeadline, Told}
use Rattle.fw_fleet_audit.specs.Rows.{AreBorneOut}
use Rattle.fw_head_audit.specs.Heads.{IsHeadLog}
use Rattle.fw_head_audit.specs.declared.meter.AskedMeter.{AskedMeter}
use Rattle.fw_image.specs.Fresh.{fresh_meter}
use Rattle.fw_image.specs.Meter.{Meter, reopened}
use Rattle.fw_order.specs.Order.{End, HasOrder}
use Rattle.fw_store.specs.declared.version.HeaderVersion.TheVariants.{Two}
use Rattle.fw_auditor.specs.Keyed.{IsKeyFileOf, IsLogBy}
use Rattle.fw_auditor.specs.declared.keys.KeyedHead.{KeyedHead}
use Rattle.fw_auditor.specs.declared.options.AuditOptions.{AuditOptions}
use Rattle.fw_auditor.specs.declared.options.FreshMeter.{FreshMeter}
use Rattle.fw_auditor.specs.declared.options.HeadLog.{HeadLog}

-- the meter that one is which began new, with this factory image
abbrev pub new_of : FreshMeter → List ℕ → Meter
new_of fresh factory = fresh_meter Two fresh.block_size fresh.capacity factory

-- a meter began new, or as some store at rest holds it
abbrev pub Began : FreshMeter → List ℕ → Meter → Type 0
Began fresh factory meter = (meter ≡ new_of fresh factory) ⊎ ((store : List ℕ) × (undo : List ℕ) × IsAtRest store undo meter)

-- a capture, or its whole records, behind which is nothing but what a write leaves that was cut short
abbrev pub IsWholePart : List ℕ → List ℕ → Type 0
IsWholePart capture whole = (whole ≡ capture) ⊎ ((len : ℕ) × IsWholeTo capture len × (whole ≡ take len capture))

-- ---- meters

-- what is told of a meter, and its address
pub record Sited : Type 0 where
  pub at : SocketAddr
  pub told : Told

abbrev pub told_in : List Sited → List Told
told_in sited = map (λ (s : Sited). s.told) sited

-- What is told of a meter some files bear out: a capture is its log, from where it began, and a store holds what it is in the end.
pub record IsTold (options : AuditOptions) (factory : List ℕ) (keys : List KeyedHead) (s : Sited) : Type 0 where
  pub asked : s.told.heads ≡ options.heads.items
  pub site : Site
  pub own : site.at ≡ s.at
  pub capture : List ℕ
  pub whole : List ℕ
  pub part : IsWholePart capture whole
  pub marks : List Mark
  pub reads : IsLogBy options.order keys s.told.meter site whole s.told.log marks
  pub meter : Meter
  pub began : Began options.fresh factory meter
  pub first : s.told.begin ≡ reopened meter
  pub store : List ℕ
  pub undo : List ℕ
  pub last : IsAtRest store undo s.told.end
  pub is : IsMeterLog s.told.heads s.told.begin s.told.log s.told.images s.told.end

-- ---- head ends

-- Each meter is asked at its address,
abbrev pub asked_with : ℕ → SocketAddr → AskedMeter
asked_with meter at = record { meter = meter; at = at }

abbrev pub asked_in : List Sited → List AskedMeter
asked_in sited = map (λ (s : Sited). asked_with s.told.meter s.at) sited

-- where it is an end.
abbrev pub end_at : Sited → End
end_at s = record { at = s.at; log = s.told.log }

-- What is told of a head end some capture bears out, which is its log: a book offers all that it sent to these meters, and what that has as
-- done was claimed.
pub record IsHeadTold (asked : List AskedMeter) (books : List Contents) (head : HeadLog) (end : End) : Type 0 where
  pub own : end.at ≡ head.address
  pub capture : List ℕ
  pub whole : List ℕ
  pub part : IsWholePart capture whole
  pub marks : List Mark
  pub reads : IsHeadLogOf head.address whole end.log marks
  pub book : Contents
  pub one : Contains books book
  pub is : IsHeadLog book asked end.log

-- All head ends of the options fit, and what they and the meters tell agrees: in some order each datagram that shows the address of one of them
-- was sent before by that one.
pub record AreHeadsTold (options : AuditOptions) (told : List Sited) (books : List Contents) : Type 0 where
  pub heads : List End
  pub each : AllZip (IsHeadTold (asked_in told) books) options.head_logs.items heads
  pub order : HasOrder (map end_at told ++ heads)

-- ---- all

-- All that is found fits: of meters, of books, and of head ends, if there are some. If there are books, the headline holds of what the files
-- tell.
pub record AllFit (options : AuditOptions) : Type 0 where
  pub factory : List ℕ
  pub keys : List KeyedHead
  pub keys_are : AllZip IsKeyFileOf options.keys.items keys
  pub told : List Sited
  pub each : All (IsTold options factory keys) told
  pub books : List Contents
  pub rows : All (λ (book : Contents). AreBorneOut book (map audited_in (told_in told))) books
  pub headline : 0 < vec_len options.books + vec_len options.head_logs → IsHeadline books (told_in told)
  pub heads : 0 < vec_len options.head_logs → AreHeadsTold options told books
