-- The ends of a fleet, by their numbers in it.
use Rattle.std.proofs.Common.{◌≡◌, ◌≢◌, ◌+◌, ◌<◌, ◌⊎◌, ℕ, List, map, Some, None, length, slice_get, inl, inr, sym, ap, ◌∙◌, arith, ⊎_elim}
use Rattle.std.specs.Prelude.{AllPairs, Contains}
use Rattle.std.specs.Option.{option_map}
use Rattle.std.specs.declared.net.socket_addr.SocketAddr.{SocketAddr}
use Rattle.fw_order.specs.Order.{End, IsEnd, address_of, log_at}
use Rattle.fw_runs_told.specs.Fleet.{Fleet, HeadEnd, MeterEnd, address_of_end, end_of_head, end_of_meter, ends_in, number_of_meter}
use Rattle.fw_runs_told.proofs.Lists.{cases_Option, got_cases, got_inside, got_left, got_mapped, got_right, in_got, mapped_got, never_some, one_place, one_value, same_some}
use Rattle.fw_runs_told.proofs.Orders.{address_of_got, log_of_got}

module _ (fleet : Fleet) where
  abbrev pub ends : List End
  ends = ends_in fleet

  -- the number of a head end among the ends
  abbrev pub place : ℕ → ℕ
  place at = length (map end_of_meter fleet.meters) + at

  abbrev pub IsMeter : ℕ → Type 0
  IsMeter number = (meter : MeterEnd) × (slice_get fleet.meters number ≡ Some meter)

  abbrev pub IsHead : ℕ → Type 0
  IsHead number = (at : ℕ) × (head : HeadEnd) × (number ≡ place at) × (slice_get fleet.heads at ≡ Some head)

  who_got : (number : ℕ) (end : End) → (slice_get (map end_of_meter fleet.meters) number ≡ Some end) ⊎ ((k : ℕ) × (number ≡ place k) × (slice_get (map end_of_head fleet.heads) k ≡ Some end))
      → IsMeter number ⊎ IsHead number
  who_got number end (inl e) = let m = mapped_got end_of_meter fleet.meters number end e in inl (m.0, m.1)
  who_got number end (inr (k, is, e)) = let h = mapped_got end_of_head fleet.heads k end e in inr (k, h.0, is, h.1)

  -- an end is a meter or a head end, or there is none of this number
  pub who : (number : ℕ) → (slice_get ends number ≡ None) ⊎ (IsMeter number ⊎ IsHead number)
  who number =
      ⊎_elim (λ (none : slice_get ends number ≡ None). inl none)
      (λ (h : (end : End) × (slice_get ends number ≡ Some end)). inr (who_got number h.0 (got_cases (map end_of_meter fleet.meters) (map end_of_head fleet.heads) number h.0 h.1)))
      (cases_Option (slice_get ends number))

  pub meter_end : (number : ℕ) (meter : MeterEnd) → slice_get fleet.meters number ≡ Some meter → slice_get ends number ≡ Some (end_of_meter meter)
  meter_end number meter there =
      got_left (map end_of_meter fleet.meters) (map end_of_head fleet.heads) number (end_of_meter meter) (got_mapped end_of_meter fleet.meters number ∙ ap (option_map end_of_meter) there)

  pub head_end : (at : ℕ) (head : HeadEnd) → slice_get fleet.heads at ≡ Some head → slice_get ends (place at) ≡ Some (end_of_head head)
  head_end at head there =
      got_right (map end_of_meter fleet.meters) (map end_of_head fleet.heads) at ∙ got_mapped end_of_head fleet.heads at ∙ ap (option_map end_of_head) there

  pub meter_log : (number : ℕ) (meter : MeterEnd) → slice_get fleet.meters number ≡ Some meter → log_at ends number ≡ meter.told.log
  meter_log number meter there = log_of_got ends number (end_of_meter meter) (meter_end number meter there)

  pub head_log : (at : ℕ) (head : HeadEnd) → slice_get fleet.heads at ≡ Some head → log_at ends (place at) ≡ head.log
  head_log at head there = log_of_got ends (place at) (end_of_head head) (head_end at head there)

  pub meter_address : (number : ℕ) (meter : MeterEnd) → slice_get fleet.meters number ≡ Some meter → address_of ends number ≡ Some meter.at
  meter_address number meter there = address_of_got ends number (end_of_meter meter) (meter_end number meter there)

  pub head_address : (at : ℕ) (head : HeadEnd) → slice_get fleet.heads at ≡ Some head → address_of ends (place at) ≡ Some head.at
  head_address at head there = address_of_got ends (place at) (end_of_head head) (head_end at head there)

  -- a meter has a number below each head end's
  pub meter_below : (number at : ℕ) (meter : MeterEnd) → slice_get fleet.meters number ≡ Some meter → number ≡ place at → ⊥
  meter_below number at meter there same =
      let inside : number < length (map end_of_meter fleet.meters) =
      got_inside (map end_of_meter fleet.meters) number (end_of_meter meter) (got_mapped end_of_meter fleet.meters number ∙ ap (option_map end_of_meter) there) in
      let is : number ≡ length (map end_of_meter fleet.meters) + at = same in
      omega (arith, inside, is)

  pub no_address : (number : ℕ) (address : SocketAddr) → slice_get ends number ≡ None → address_of ends number ≡ Some address → ⊥
  no_address number address none e = never_some address (address_of ends number) (ap (option_map (λ (x : End). x.at)) none) e

  pub meter_is_end : (meter : MeterEnd) → Contains fleet.meters meter → IsEnd ends meter.at
  meter_is_end meter c = let at = in_got fleet.meters meter c in (at.0, meter_address at.0 meter at.1)

  pub head_is_end : (head : HeadEnd) → Contains fleet.heads head → IsEnd ends head.at
  head_is_end head c = let at = in_got fleet.heads head c in (place at.0, head_address at.0 head at.1)

-- ---- no two have one address

module _ (fleet : Fleet) (addresses : AllPairs ◌≢◌ (map address_of_end (ends_in fleet))) where
  one_end : (i j : ℕ) (address : SocketAddr) → address_of (ends_in fleet) i ≡ Some address → address_of (ends_in fleet) j ≡ Some address → i ≡ j
  one_end i j address at also =
      one_place (map address_of_end (ends_in fleet)) i j address addresses
      (got_mapped address_of_end (ends_in fleet) i ∙ at) (got_mapped address_of_end (ends_in fleet) j ∙ also)

  -- the meter of this number has the address of a meter
  pub same_meter : (number : ℕ) (meter other : MeterEnd) → slice_get fleet.meters number ≡ Some meter → Contains fleet.meters other → address_of (ends_in fleet) number ≡ Some other.at → meter ≡ other
  same_meter number meter other there c own =
      let at = in_got fleet.meters other c in
      let same : number ≡ at.0 = one_end number at.0 other.at own (meter_address fleet at.0 other at.1) in
      same_some meter other (sym there ∙ ap (λ (n : ℕ). slice_get fleet.meters n) same ∙ at.1)

  pub same_head : (k : ℕ) (head other : HeadEnd) → slice_get fleet.heads k ≡ Some head → Contains fleet.heads other → address_of (ends_in fleet) (place fleet k) ≡ Some other.at → head ≡ other
  same_head k head other there c own =
      let at = in_got fleet.heads other c in
      let same : place fleet k ≡ place fleet at.0 = one_end (place fleet k) (place fleet at.0) other.at own (head_address fleet at.0 other at.1) in
      let behind : length (map end_of_meter fleet.meters) + k ≡ length (map end_of_meter fleet.meters) + at.0 = same in
      let equal : k ≡ at.0 = omega (arith, behind) in
      same_some head other (sym there ∙ ap (λ (n : ℕ). slice_get fleet.heads n) equal ∙ at.1)

  -- a meter hasn't the address of a head end
  pub meter_no_head : (number : ℕ) (meter : MeterEnd) (head : HeadEnd) → slice_get fleet.meters number ≡ Some meter → Contains fleet.heads head → address_of (ends_in fleet) number ≡ Some head.at → ⊥
  meter_no_head number meter head there c own =
      let at = in_got fleet.heads head c in
      meter_below fleet number at.0 meter there (one_end number (place fleet at.0) head.at own (head_address fleet at.0 head at.1))

  pub head_no_meter : (k : ℕ) (meter : MeterEnd) → Contains fleet.meters meter → address_of (ends_in fleet) (place fleet k) ≡ Some meter.at → ⊥
  head_no_meter k meter c own =
      let at = in_got fleet.meters meter c in
      meter_below fleet at.0 k meter at.1 (one_end at.0 (place fleet k) meter.at (meter_address fleet at.0 meter at.1) own)

  -- two head ends of one address are one, and so are two meters
  pub one_head : (head other : HeadEnd) → Contains fleet.heads head → Contains fleet.heads other → head.at ≡ other.at → head ≡ other
  one_head head other c also same =
      let at = in_got fleet.heads head c in
      same_head at.0 head other at.1 also (head_address fleet at.0 head at.1 ∙ ap Some same)

  pub one_meter : (meter other : MeterEnd) → Contains fleet.meters meter → Contains fleet.meters other → meter.at ≡ other.at → meter ≡ other
  one_meter meter other c also same =
      let at = in_got fleet.meters meter c in
      same_meter at.0 meter other at.1 also (meter_address fleet at.0 meter at.1 ∙ ap Some same)

module _ (fleet : Fleet) (numbers : AllPairs ◌≢◌ (map number_of_meter fleet.meters)) where
  -- meters in two places have two numbers
  pub other_number : (i j : ℕ) (meter other : MeterEnd) → slice_get fleet.meters i ≡ Some meter → slice_get fleet.meters j ≡ Some other → i ≢ j → meter.told.meter ≢ other.told.meter
  other_number i j meter other at also apart same = apart (one_value number_of_meter fleet.meters i j meter other numbers at also same)
