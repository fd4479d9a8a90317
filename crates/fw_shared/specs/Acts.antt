-- Public vocabulary: what the events that workers make leave at their seats, and what head ends that they share are.
use Rattle.std.specs.List.{filter, flat_map, range_with_len}
use Rattle.std.specs.Prelude.{◌≡◌, ◌⊎◌, ℕ, ◌+◌, ◌-◌, ◌%◌, ◌<◌, ◌==◌, ◌&&◌, not, map, Bool, List, [], Option, Some, None, unwrap_or, position, slice_get, slice_set}
use Rattle.fw_book.specs.Contents.{Contents, image_in}
use Rattle.fw_head.specs.Head.{Head, news_of}
use Rattle.fw_head.specs.Parts.{AreLiveRows, joined}
use Rattle.fw_head.specs.Phase.{has_ended}
use Rattle.fw_head.specs.Row.{Row, RowHears, sends, ticked}
use Rattle.fw_head.specs.declared.news.News.{News}
use Rattle.fw_head.specs.declared.news.News.TheVariants as news
use Rattle.fw_head.specs.declared.news.RowNews.{RowNews}
use Rattle.fw_image.specs.State as meter
use Rattle.fw_image.specs.State.{Counts}
use Rattle.fw_meter.specs.Handling.{Handles}
use Rattle.fw_names.specs.Name.{Name}
use Rattle.fw_world.specs.State.{sent_to}
use Rattle.fw_world.specs.Step.{Event, deliver, replies}
use Rattle.fw_world.specs.World.{Datagram}
use Rattle.fw_world.specs.declared.error.StepError.{StepError}
use Rattle.fw_world.specs.declared.error.StepError.TheVariants.{NoSuchDatagram, NoSuchActor, OutOfMemory}
use Rattle.fw_shared.specs.Seat.{Seat, noted}
use Rattle.fw_shared.specs.declared.acts.Shard.{Shard}

-- why an event at one head end or one meter is refused
abbrev pub IsCoreRefusal : StepError → Type 0
IsCoreRefusal NoSuchDatagram = Unit {0}
IsCoreRefusal NoSuchActor = Unit {0}
IsCoreRefusal OutOfMemory = Unit {0}
IsCoreRefusal cause = ⊥

-- a head end that workers share: its book and its width, as they were when the sharing began
pub record Desk : Type 0 where
  pub book : Contents
  pub width : ℕ

-- a seat that marked the board once
pub record IsMarked (old new : Seat) : Type 0 where
  pub mark : new ≡ record old { own = old.own + 1; seen = new.seen; allowance = old.allowance - 1 }
  pub seen : old.seen < new.seen

-- a mark just if a meter is done
abbrev pub MarksDone : News → Seat → Seat → Type 0
MarksDone (news.Done campaign meter) old new = IsMarked old new
MarksDone told old new = new ≡ old

-- the seat of a worker that let a head end hear the datagram of this number: one receipt more, and a mark just if a meter is done
abbrev pub HasHeard : News → Seat → ℕ → Seat → Type 0
HasHeard told old number new = (event : ℕ) × MarksDone told (noted old event (deliver number)) new

-- the head end of the desk's book and width, with rows that are the live ones of the book, wherever the workers led them
pub record IsPutBack (desk : Desk) (head : Head) : Type 0 where
  pub rows : List Row
  pub live : AreLiveRows desk.book rows
  pub head_is : head ≡ joined desk.book desk.width rows

-- ---- what is done under a lock

-- what a core did: the event, the datagrams that it sends, and what it left under its lock
pub record Recording (T : Type 0) : Type 0 where
  pub event : Event
  pub sent : List Datagram
  pub left : T

-- a meter handles a datagram, and sends its reply
pub record MeterServes (old : meter.State) (d : Datagram) (sent : List Datagram) (new : meter.State) : Type 0 where
  pub reply : Option (List ℕ)
  pub name : Option Name
  pub handles : Handles old.honest (Counts old new) old.meter d.bytes reply name new.meter
  pub sent_is : sent ≡ replies d reply

-- whether a row is one of this meter that hasn't ended
abbrev pub is_live_of : ℕ → Row → Bool
is_live_of meter row = (row.client.meter == meter) && not (has_ended row.stage)

-- the live row of the meter, the first if there are more, goes on to the next, and all other rows stay
pub record RowGoesOn (meter : ℕ) (old : List Row) (row next : Row) (new : List Row) : Type 0 where
  pub at : ℕ
  pub first : position (is_live_of meter) old ≡ Some at
  pub row_is : slice_get old at ≡ Some row
  pub new_is : new ≡ slice_set old at next

-- the meter has no live row, and all rows stay
pub record AllStay (meter : ℕ) (old new : List Row) : Type 0 where
  pub none : position (is_live_of meter) old ≡ None
  pub new_is : new ≡ old

-- what a tick sends, and makes of the row of a meter
pub record RowTicks (book : Contents) (width meter : ℕ) (row : Row) (sent : List Datagram) (next : Row) : Type 0 where
  pub image : List ℕ
  pub image_is : image ≡ unwrap_or (image_in book row.name.campaign) []
  pub sent_is : sent ≡ sent_to book.head meter (sends row image width)
  pub next_is : next ≡ ticked row image width

-- the live row of the meter sends what it has for it now
abbrev pub RowsTick : Contents → ℕ → ℕ → List Row → List Datagram → List Row → Type 0
RowsTick book width meter old sent new =
    ((row next : Row) × RowGoesOn meter old row next new × RowTicks book width meter row sent next)
    ⊎ (AllStay meter old new × (sent ≡ []))

-- the live row of the sender hears a datagram
abbrev pub RowsHear : List Row → Datagram → News → List Row → Type 0
RowsHear old d told new =
    ((row next : Row) × (heard : RowNews) × RowGoesOn d.meter old row next new × RowHears row d.bytes heard next
    × (told ≡ news_of row.name.campaign d.meter heard))
    ⊎ (AllStay d.meter old new × (told ≡ news.Nothing))

-- the rows of the meters of one shard, in their order: shard 0 to 7 has the meters whose number, modulo 8, is its own
abbrev pub rows_of_shard : List Row → ℕ → List Row
rows_of_shard rows shard = filter (λ (row : Row). row.client.meter % 8 == shard) rows

-- rows as they are dealt to the eight shards
abbrev pub dealt_rows : List Row → List (List Row)
dealt_rows rows = map (rows_of_shard rows) (range_with_len 0 8)

-- the rows of all shards
abbrev pub all_rows : List Shard → List Row
all_rows shards = flat_map (λ (shard : Shard). shard.rows.items) shards
