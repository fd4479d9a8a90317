-- For private members alone: no public clause cites it.
use Rattle.std.specs.Prelude.{◌≡◌, ◌↔◌, ◌⊎◌, ◌<◌, ◌==◌, ◌&&◌, ◌||◌, ℕ, ℤ, pos, Bool, false, ◌/◌, nat_eq, List, All, Contains, length, Option, Some, None, if◌then◌else◌}
use Rattle.std.specs.Option.{option_and_then}
use Rattle.std.specs.Ordering.{int_eq}
use Rattle.std.specs.Cmp.Lexicographic.{pointwise}
use Rattle.std.specs.declared.net.socket_addr.SocketAddr.{SocketAddr}
use Rattle.fw_axdr.specs.Value.{Value, boolean, integer, octet_string}
use Rattle.fw_names.specs.Name.{Campaign, IsRelease, Name, SpellsName, name_bytes, name_of}
use Rattle.fw_blocks.specs.Cuts.{IsWithinLimits, block_count, cut}
use Rattle.fw_apdu.specs.Cosem as cosem
use Rattle.fw_apdu.specs.Request.{RequestContent, get_request, set_request, action_request}
use Rattle.fw_apdu.specs.Response.{ResponseContent, get_response, value}
use Rattle.fw_apdu.specs.View.{request_content, request_invoke, response_content, response_invoke}
use Rattle.fw_apdu.specs.declared.request.Request.{Request}
use Rattle.fw_apdu.specs.declared.response.Response.{Response}
use Rattle.fw_client.specs.Ask.{CarriesRequest}
use Rattle.fw_client.specs.Hearing.{CarriesResponse}
use Rattle.fw_server.specs.Meaning.{number_in, octets_in, two_in}
use Rattle.fw_book.specs.Contents.{Contents, Offered, offered_in}
use Rattle.fw_book.specs.Rows.{state_of}
use Rattle.fw_book.specs.declared.row.RowState.{RowState}
use Rattle.fw_head.specs.Row.{IsBlockOf}
use Rattle.fw_fleet_audit.specs.Rows.{Audited, HasSwitched}
use Rattle.fw_audit.specs.Log.{Item, came}
use Rattle.fw_head_audit.specs.Heads.{AreClaimed, Claims, HasClaimed, IsAsked, IsFirstNotClaimed, IsFirstNotOffered, MayWantMemory}
use Rattle.fw_head_audit.specs.declared.asking.Asking.{Asking}
use Rattle.fw_head_audit.specs.declared.asking.Asking.TheVariants as asking
use Rattle.fw_head_audit.specs.declared.claims.Claim.{Claim}
use Rattle.fw_head_audit.specs.declared.error.HeadAuditError.{HeadAuditError}
use Rattle.fw_head_audit.specs.declared.error.HeadAuditError.TheVariants as errors
use Rattle.fw_head_audit.specs.declared.meter.AskedMeter.{AskedMeter}

-- ---- what datagrams carry

abbrev pub IsRequestIn : List ℕ → Option Request → Type 0
IsRequestIn datagram (Some r) = CarriesRequest datagram (request_invoke r) (request_content r)
IsRequestIn datagram None = (invoke : ℕ) (content : RequestContent) → CarriesRequest datagram invoke content → ⊥

abbrev pub IsResponseIn : List ℕ → Option Response → Type 0
IsResponseIn datagram (Some r) = CarriesResponse datagram (response_invoke r) (response_content r)
IsResponseIn datagram None = (invoke : ℕ) (content : ResponseContent) → CarriesResponse datagram invoke content → ⊥

-- what has the property is found, or there is none
abbrev pub Finds : {A : Type 0} → (A → Type 0) → Option A → Type 0
Finds P (Some a) = P a
Finds {A = A} P None = (a : A) → P a → ⊥

-- ---- what a request asks

pub data Kind : Type 0 where
  free : Kind
  initiating : List ℕ → ℕ → Kind
  blocking : ℕ → List ℕ → Kind

abbrev pub kind_of : Asking → Kind
kind_of asking.Free = free
kind_of (asking.Initiate identifier size) = initiating identifier.now size
kind_of (asking.Block number bytes) = blocking number bytes.now

-- an invoke byte of a head end
abbrev pub is_invoke : ℕ → Bool
is_invoke invoke = invoke / 16 == 0xc

abbrev pub is_transfer : ℕ → List ℕ → Bool
is_transfer class instance = (class == cosem.image_transfer_class) && pointwise nat_eq instance cosem.image_transfer

abbrev pub is_identifier : ℕ → List ℕ → ℤ → Bool
is_identifier class instance number =
    (class == cosem.data_class) && (pointwise nat_eq instance cosem.active_firmware_identifier && int_eq number cosem.value)

-- the attributes that a head end reads
abbrev pub is_read_number : ℤ → Bool
is_read_number n =
    int_eq n cosem.image_block_size || (int_eq n cosem.image_transferred_blocks_status || (int_eq n cosem.image_first_not_transferred_block_number
    || (int_eq n cosem.image_transfer_status || int_eq n cosem.image_to_activate_info)))

abbrev pub is_true : Value → Bool
is_true (boolean b) = b
is_true _ = false

abbrev pub is_zero : Value → Bool
is_zero (integer n) = int_eq n (pos 0)
is_zero _ = false

abbrev pub free_if : Bool → Option Kind
free_if is = if is then Some free else None

abbrev pub order_of : Value → Option Kind
order_of v = free_if (is_zero v)

abbrev pub initiating_of : Value → Option Kind
initiating_of v =
    option_and_then (λ x. option_and_then (λ identifier. option_and_then (λ size. Some (initiating identifier size)) (number_in x.1)) (octets_in x.0)) (two_in v)

abbrev pub blocking_of : Value → Option Kind
blocking_of v = option_and_then (λ x. option_and_then (λ number. option_and_then (λ bytes. Some (blocking number bytes)) (octets_in x.1)) (number_in x.0)) (two_in v)

abbrev pub method_asks : ℤ → Option Value → Option Kind
method_asks n parameter =
    if int_eq n cosem.image_transfer_initiate then option_and_then initiating_of parameter else (
    if int_eq n cosem.image_block_transfer then option_and_then blocking_of parameter else (
    if int_eq n cosem.image_verify then option_and_then order_of parameter else (
    if int_eq n cosem.image_activate then option_and_then order_of parameter else None)))

abbrev pub set_asks : ℤ → Value → Option Kind
set_asks n v = if int_eq n cosem.image_transfer_enabled then free_if (is_true v) else None

abbrev pub asked_by : RequestContent → Option Kind
asked_by (get_request d) =
    if is_transfer d.class d.instance then free_if (is_read_number d.number) else free_if (is_identifier d.class d.instance d.number)
asked_by (set_request d v) =
    if is_transfer d.class d.instance then set_asks d.number v else None
asked_by (action_request d parameter) = if is_transfer d.class d.instance then method_asks d.number parameter else None

abbrev pub asked_in : ℕ → RequestContent → Option Kind
asked_in invoke content = if is_invoke invoke then asked_by content else None

-- ---- what is offered

-- a block of the image under this block size
pub record IsCutBy (block_size : ℕ) (image : List ℕ) (number : ℕ) (bytes : List ℕ) : Type 0 where
  pub within : IsWithinLimits block_size (length image)
  pub below : number < block_count block_size (length image)
  pub cut_is : bytes ≡ cut block_size image number

-- so it may be asked of a meter of this image, which has this name
abbrev pub May : Name → List ℕ → Kind → Type 0
May name image free = Unit {0}
May name image (initiating identifier size) = (identifier ≡ name_bytes name) × (size ≡ length image)
May name image (blocking number bytes) = IsBlockOf image number bytes

-- a campaign with this offer has a row of the meter, and offers it that
pub record Lets (offer : Offered) (campaign : Campaign) (meter : ℕ) (kind : Kind) : Type 0 where
  pub state : RowState
  pub row : state_of offer.rows meter ≡ Some state
  pub may : May (name_of campaign offer.release offer.image) offer.image kind

-- a campaign of the book does
pub record IsAskedTo (book : Contents) (meter : ℕ) (kind : Kind) : Type 0 where
  pub campaign : Campaign
  pub offer : Offered
  pub offered : offered_in book campaign ≡ Some offer
  pub is_release : IsRelease campaign offer.release
  pub lets : Lets offer campaign meter kind

abbrev pub IsAskedAt : Contents → List AskedMeter → SocketAddr → Kind → Type 0
IsAskedAt book meters to kind = (meter : ℕ) × IsAsked meters meter to × IsAskedTo book meter kind

-- ---- what was claimed

-- a response that has this name
abbrev pub IsName : Value → Name → Type 0
IsName (octet_string bytes) name = SpellsName bytes name
IsName v name = ⊥

abbrev pub IsNamedIn : ResponseContent → Name → Type 0
IsNamedIn (get_response (value v)) name = IsName v name
IsNamedIn content name = ⊥

-- one of these claims has this name, and came from there
abbrev pub HasClaim : List Claim → SocketAddr → Name → Type 0
HasClaim claims from name = (claim : Claim) × Contains claims claim × ((claim.from ≡ from) × (claim.name ≡ name))

-- in an item
abbrev pub IsClaim : Item → SocketAddr → Name → Type 0
IsClaim item from name = (datagram : List ℕ) × (item ≡ came from datagram) × Claims datagram name

-- in a log
abbrev pub IsClaimIn : List Item → SocketAddr → Name → Type 0
IsClaimIn log from name = (datagram : List ℕ) × Contains log (came from datagram) × Claims datagram name

abbrev pub NotesClaim : List Claim → Item → List Claim → Type 0
NotesClaim old item new = (from : SocketAddr) (name : Name) → HasClaim new from name ↔ (HasClaim old from name ⊎ IsClaim item from name)

abbrev pub AreClaims : List Item → List Claim → Type 0
AreClaims log claims = (from : SocketAddr) (name : Name) → HasClaim claims from name ↔ IsClaimIn log from name

abbrev pub AreNamesAt : List Claim → SocketAddr → List Name → Type 0
AreNamesAt claims from names = (name : Name) → Contains names name ↔ HasClaim claims from name

-- the meters, each with the names of those of these claims that came from an address of its
abbrev pub HaveNames : List AskedMeter → List Claim → List Audited → Type 0
HaveNames meters claims all =
    (meter : ℕ) (name : Name) → HasSwitched all meter name ↔ ((at : SocketAddr) × IsAsked meters meter at × HasClaim claims at name)

-- each with the names that it claimed
abbrev pub AreClaimants : List AskedMeter → List Item → List Audited → Type 0
AreClaimants meters log all = (meter : ℕ) (name : Name) → HasSwitched all meter name ↔ HasClaimed meters log meter name

-- ---- what parts of an audit say

abbrev pub IsSendRefused : Contents → List AskedMeter → List Item → HeadAuditError → Type 0
IsSendRefused book meters log (errors.NotOffered at) = IsFirstNotOffered book meters log at
IsSendRefused book meters log (errors.NotClaimed row) = ⊥
IsSendRefused book meters log errors.OutOfMemory = MayWantMemory meters log

abbrev pub IsClaimRefused : Contents → List AskedMeter → List Item → HeadAuditError → Type 0
IsClaimRefused book meters log (errors.NotOffered at) = ⊥
IsClaimRefused book meters log (errors.NotClaimed row) = IsFirstNotClaimed book meters log row
IsClaimRefused book meters log errors.OutOfMemory = MayWantMemory meters log
